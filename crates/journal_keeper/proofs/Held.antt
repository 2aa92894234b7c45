-- What is held of a file.
use Rattle.std.proofs.Common.{◌≡◌, ℕ, false, List, Option, Some, None, refl, sym, ap, ◌∙◌}
use Rattle.std.specs.Prelude.{IfSome}
use Rattle.std.specs.Global.{Vec}
use Rattle.disk.specs.Disk.{WhereTold}
use Rattle.journal_keeper.specs.declared.stage.Stage.{Stage}
use Rattle.journal_keeper.specs.declared.stage.Stage.TheVariants.{Shut, Late, Open}
use Rattle.journal_keeper.specs.Stage.{settled, counts_empty}
use Rattle.journal_keeper.specs.Sound.{IsStageOf}
use Rattle.journal_keeper.specs.Held.{Holds}

-- a file that was found has no gate in doubt
pub found_settled : (file : List ℕ) (stage : Stage) → IsStageOf file stage → settled stage ≡ stage
found_settled file Shut is = refl
found_settled file Late is = absurd is
found_settled file (Open gate in_doubt) is = ap (Open gate) (sym is.0)

-- a file that was read and left as it is
pub held_as_read : (held : Option (Vec ℕ)) (file : Vec ℕ) (before stage : Stage) (content content' : Option (List ℕ))
    → IfSome held (λ h. (h ≡ file) × (before ≡ Shut) × (counts_empty before file.items ≡ false)) → WhereTold content (λ told. file.items ≡ told)
    → (counts_empty before file.items ≡ false → content' ≡ content) → (before ≡ Shut → counts_empty before file.items ≡ false → settled stage ≡ stage) → Holds held stage content'
held_as_read None file before stage content content' is read same sure = tt
held_as_read (Some h) file before stage content content' is read same sure =
    (sure is.1 is.2, λ told now. ap (λ (v : Vec ℕ). v.items) is.0 ∙ read told (sym (same is.2) ∙ now))

-- where no gate was in doubt, the file is as it was held
pub held_still : (held : Option (Vec ℕ)) (stage : Stage) (content content' : Option (List ℕ)) → Holds held stage content → (settled stage ≡ stage → content' ≡ content)
    → IfSome held (λ h. WhereTold content' (λ file. h.items ≡ file))
held_still None stage content content' holds same = tt
held_still (Some h) stage content content' holds same = λ file told. holds.1 file (sym (same holds.0) ∙ told)
