-- Which gate is in doubt after a call.
use Rattle.std.proofs.Common.{◌≡◌, inl, inr, ◌⊎◌, ℕ, true, false, List, Option, Some, None, Result, Ok, Err, refl, sym, ap, subst, ◌∙◌}
use Rattle.pb_outside.specs.declared.error.OutError.{OutError}
use Rattle.pb_outside.specs.declared.error.OutError.TheVariants.{Failed, Memory}
use Rattle.journal_keeper.specs.declared.stage.Stage.{Stage}
use Rattle.journal_keeper.specs.declared.stage.Stage.TheVariants.{Shut, Late, Open}
use Rattle.disk.specs.Disk.{WhereTold, Becomes}
use Rattle.journal_keeper.specs.Record.{Entry, ◌>>=◌}
use Rattle.journal_keeper.specs.Stage.{doubted, is_open, settled, counts_empty, DoubtsOnly}
use Rattle.journal_keeper.specs.Sound.{IsStageOf}

-- ---- stages

pub settled_undoubted : (stage : Stage) (content : Option (List ℕ)) → doubted (settled stage) content ≡ None
settled_undoubted Shut content = refl
settled_undoubted Late content = refl
settled_undoubted (Open gate in_doubt) content = refl

pub settled_open_still : (stage : Stage) → is_open (settled stage) ≡ is_open stage
settled_open_still Shut = refl
settled_open_still Late = refl
settled_open_still (Open gate in_doubt) = refl

not_both : false ≡ true → ⊥
not_both e = cc

-- where the store counts as empty, no gate is in doubt
pub empty_undoubted : (stage : Stage) (content content' : Option (List ℕ)) (step : List ℕ → List ℕ → Type 0) → Becomes step content content'
    → WhereTold content (λ file. counts_empty stage file ≡ true) → doubted stage content' ≡ None
empty_undoubted Shut content content' step becomes empty = refl
empty_undoubted Late content content' step becomes empty = refl
empty_undoubted (Open gate false) content content' step becomes empty = refl
empty_undoubted (Open gate true) None content' step becomes empty = ap (doubted (Open gate true)) becomes
empty_undoubted (Open gate true) (Some file) content' step becomes empty = absurd (not_both (empty file refl))

becomes_itself : (content : Option (List ℕ)) → Becomes (λ file file'. file' ≡ file) content content
becomes_itself None = refl
becomes_itself (Some file) = (file, refl, refl)

pub empty_undoubted_now : (stage : Stage) (content : Option (List ℕ)) → WhereTold content (λ file. counts_empty stage file ≡ true) → doubted stage content ≡ None
empty_undoubted_now stage content = empty_undoubted stage content content (λ file file'. file' ≡ file) (becomes_itself content)

-- nor is one in a file that was found
pub found_undoubted : (file : List ℕ) (stage : Stage) (content : Option (List ℕ)) → IsStageOf file stage → doubted stage content ≡ None
found_undoubted file Shut content found = refl
found_undoubted file Late content found = refl
found_undoubted file (Open gate in_doubt) content found = ap (λ d. doubted (Open gate d) content) found.0

-- ---- what a told content gives

pub bound_by : {T : Type 0} (step : List ℕ → List ℕ → Type 0) (f g : List ℕ → Option T) (content content' : Option (List ℕ)) → Becomes step content content'
    → ((file file' : List ℕ) → content ≡ Some file → step file file' → g file' ≡ f file) → (content' >>= g) ≡ (content >>= f)
bound_by step f g None content' becomes each = ap (λ c. c >>= g) becomes
bound_by step f g (Some file) content' becomes each = ap (λ c. c >>= g) becomes.1 ∙ each file becomes.0 refl becomes.2

pub none_or : {T : Type 0} (content : Option (List ℕ)) (f : List ℕ → Option T) (x : T) → WhereTold content (λ file. f file ≡ Some x)
    → ((content >>= f) ≡ None) ⊎ ((content >>= f) ≡ Some x)
none_or None f x each = inl refl
none_or (Some file) f x each = inr (each file refl)

-- ---- answers

-- no gate is in doubt
pub doubts_none : {T : Type 0} (r : Result T OutError) (entry : Entry) (before after : Option Entry) → after ≡ None → DoubtsOnly r entry before after
doubts_none (Ok x) entry before after none = none
doubts_none (Err Failed) entry before after none = inl none
doubts_none (Err Memory) entry before after none = none

-- a failure
pub doubts_failed : {T : Type 0} (r : Result T OutError) (entry : Entry) (before after : Option Entry) → r ≡ Err Failed
    → (after ≡ None) ⊎ (after ≡ before) ⊎ (after ≡ Some entry) → DoubtsOnly r entry before after
doubts_failed r entry before after failed either = subst (λ r. DoubtsOnly r entry before after) (sym failed) either

-- a failure that is handed on
pub failed_again : {T S : Type 0} (r : Result T OutError) (part : Result S OutError) (e error : OutError) → r ≡ Err e → e ≡ error → part ≡ Err error → (part ≡ Err Memory → ⊥)
    → r ≡ Err Failed
failed_again r part e Failed is same was never = is ∙ ap Err same
failed_again r part e Memory is same was never = absurd (never was)

-- no gate was in doubt before, or one was
pub doubts_wider : {T : Type 0} (r : Result T OutError) (entry : Entry) (before after : Option Entry) → DoubtsOnly r entry None after → DoubtsOnly r entry before after
doubts_wider (Ok x) entry before after only = only
doubts_wider (Err Failed) entry before after (inl none) = inl none
doubts_wider (Err Failed) entry before after (inr (inl none)) = inl none
doubts_wider (Err Failed) entry before after (inr (inr own)) = inr (inr own)
doubts_wider (Err Memory) entry before after only = only
