-- A note behind others joins the last of them or stands behind it.
use Rattle.std.proofs.Common.{◌≡◌, true, false, cond, List, [], ◌∷◌, ◌++◌, refl, sym, ap, ◌∙◌, append_assoc}
use Rattle.std.proofs.lemmas.Bool.{cond-true, cond-false}
use Rattle.kept_requirements.specs.Notes.{added, extends, extended}
use Rattle.kept_requirements.specs.declared.note.RequirementNote.{RequirementNote}

pub added_behind : (notes : List RequirementNote) (before note : RequirementNote)
    → added (notes ++ before ∷ []) note ≡ notes ++ cond (extends before note) (extended before note ∷ []) (before ∷ note ∷ [])
added_behind [] before note = refl
added_behind (first ∷ []) before note = refl
added_behind (first ∷ second ∷ notes) before note = ap (λ (ns : List RequirementNote). first ∷ ns) (added_behind (second ∷ notes) before note)

pub joins : (notes : List RequirementNote) (before note : RequirementNote) → extends before note ≡ true → notes ++ extended before note ∷ [] ≡ added (notes ++ before ∷ []) note
joins notes before note h =
    ap (λ (ns : List RequirementNote). notes ++ ns) (sym (cond-true (extends before note) (extended before note ∷ []) (before ∷ note ∷ []) h))
    ∙ sym (added_behind notes before note)

pub stands : (notes : List RequirementNote) (before note : RequirementNote) → extends before note ≡ false → (notes ++ before ∷ []) ++ note ∷ [] ≡ added (notes ++ before ∷ []) note
stands notes before note h =
    append_assoc notes (before ∷ []) (note ∷ [])
    ∙ ap (λ (ns : List RequirementNote). notes ++ ns) (sym (cond-false (extends before note) (extended before note ∷ []) (before ∷ note ∷ []) h))
    ∙ sym (added_behind notes before note)
