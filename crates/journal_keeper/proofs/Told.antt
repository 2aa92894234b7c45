-- What follows for what is told where the content changes by a step.
use Rattle.std.proofs.Common.{◌≡◌, ℕ, List, Option, Some, None, Result, Ok, Err, refl, ap, subst, ◌∙◌}
use Rattle.std.specs.Option.{option_map}
use Rattle.std.specs.Result.{OnErr}
use Rattle.disk.specs.Disk.{Becomes}

-- a told content was told before, and comes by the step
pub came_from : (step : List ℕ → List ℕ → Type 0) (content content' : Option (List ℕ)) (file' : List ℕ) → Becomes step content content' → content' ≡ Some file'
    → (file : List ℕ) × (content ≡ Some file) × step file file'
came_from step None content' file' becomes told = absurd (none_some content' file' becomes told)
  where
    none_some : (content' : Option (List ℕ)) (file' : List ℕ) → content' ≡ None → content' ≡ Some file' → ⊥
    none_some content' file' a b = cc
came_from step (Some file) content' file' becomes told = (file, refl, subst (step file) (same content' becomes.0 file' becomes.1 told) becomes.2)
  where
    same : (content' : Option (List ℕ)) (a b : List ℕ) → content' ≡ Some a → content' ≡ Some b → a ≡ b
    same content' a b p q = cc

-- a content that is mapped comes by a step
pub mapped : (f : List ℕ → List ℕ) (content content' : Option (List ℕ)) → content' ≡ option_map f content → Becomes (λ file file'. file' ≡ f file) content content'
mapped f None content' is = is
mapped f (Some file) content' is = (f file, is, refl)

-- what is told of the content after a step, by what is told of each file
pub told_by : {T : Type 0} (step : List ℕ → List ℕ → Type 0) (f g : List ℕ → T) (content content' : Option (List ℕ)) → Becomes step content content'
    → ((file file' : List ℕ) → content ≡ Some file → step file file' → g file' ≡ f file) → option_map g content' ≡ option_map f content
told_by step f g None content' becomes each = ap (option_map g) becomes
told_by step f g (Some file) content' becomes each = ap (option_map g) becomes.1 ∙ ap Some (each file becomes.0 refl becomes.2)

pub map_map : {S T : Type 0} (f : List ℕ → S) (g : S → T) (content : Option (List ℕ)) → option_map g (option_map f content) ≡ option_map (λ file. g (f file)) content
map_map f g None = refl
map_map f g (Some file) = refl

-- two steps, one after the other
abbrev pub Both : (List ℕ → List ℕ → Type 0) → (List ℕ → List ℕ → Type 0) → Option (List ℕ) → List ℕ → List ℕ → Type 0
Both first second between file file' = (mid : List ℕ) × (between ≡ Some mid) × first file mid × second mid file'

pub both : (first second : List ℕ → List ℕ → Type 0) (content between content' : Option (List ℕ)) → Becomes first content between → Becomes second between content'
    → Becomes (Both first second between) content content'
both first second None between content' one two = let now = subst (λ c. Becomes second c content') one two in now
both first second (Some file) between content' one two =
    let now = subst (λ c. Becomes second c content') one.1 two in
    (now.0, now.1, (one.0, one.1, one.2, now.2))

-- a clause on errors, of a fact that holds anyway
pub at_err : {T E P : Type 0} (r : Result T E) → P → OnErr r P
at_err (Ok x) p = tt
at_err (Err e) p = p
