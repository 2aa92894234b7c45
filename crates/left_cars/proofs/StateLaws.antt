-- What a search says of a code, beside a car that shows one value of it.
use Rattle.std.proofs.Common.{◌≡◌, ◌⊎◌, inl, inr, ℕ, zero, suc, Bool, true, false, not, cond, List, [], ◌∷◌, ◌++◌, Some, None, Result, Ok, Err, IfOk, length, slice_get, refl, sym, ap, subst, ◌∙◌}
use Rattle.std.proofs.lemmas.Bool.{false_from_ne_true, cases_Bool, true≢false}
use Rattle.std.proofs.lemmas.Option.{none-some, same_Some}
use Rattle.pb_base.specs.Sets.{has}
use Rattle.book_model.specs.Contents.{Contents}
use Rattle.clause_pool.specs.Literal.{literal}
use Rattle.item_search.specs.Search.{IsFound, NoneFound}
use Rattle.item_search.proofs.SearchLaws.{shows_value, value_shown, none_true}
use Rattle.left_cars.specs.Left.{is_left, is_chosen, IsShown, IsOpen}
use Rattle.left_cars.specs.Freedom.{IsState, AreStates}
use Rattle.left_cars.specs.declared.states.CodeState.{CodeState}
use Rattle.left_cars.specs.declared.states.CodeState.TheVariants as state
use Rattle.left_cars.specs.Seen.{IsSeen, SeenAt, only_value}
use Rattle.left_cars.specs.declared.seen.Seen.{Seen}
use Rattle.left_cars.proofs.LeftLaws.{length_of_left}

-- a code that is open, or want of memory
pub state_open : {E : Type 0} (IsSo : CodeState → Type 0) (made : Result CodeState E) → IsSo state.Open → IfOk made (λ s. s ≡ state.Open) → IfOk made IsSo
state_open IsSo (Ok s) so is = subst IsSo (sym is) so
state_open IsSo (Err wanting) so is = tt

module _ (b : Contents) (day : ℕ) (chosen : List ℕ) where
  -- the other value is shown as well
  pub open_by : (place : ℕ) (value : Bool) (x : List Bool) → IsShown b day chosen place value → IsFound (length b.codes) (is_left b day chosen) (literal place (not value) ∷ []) x
      → IsOpen b day chosen place
  open_by place true x shown found = record {
    with_it = shown;
    without = record { car = x; left = found.passes; shows = shows_value x place false found.lits_true };
  }
  open_by place false x shown found = record {
    with_it = record { car = x; left = found.passes; shows = shows_value x place true found.lits_true };
    without = shown;
  }

  -- or no car shows it
  never : (place : ℕ) (value : Bool) → NoneFound (length b.codes) (is_left b day chosen) (literal place value ∷ []) → (x : List Bool) → is_left b day chosen x ≡ true
      → has x place ≡ value → ⊥
  never place value none x left is =
      none x (record { counted = length_of_left b day chosen x left; passes = left; lits_true = value_shown x place value is })

  pub refuted_by : (budget place : ℕ) (value : Bool) → is_chosen chosen place ≡ false
      → NoneFound (length b.codes) (is_left b day chosen) (literal place (not value) ∷ []) → IsState b day chosen budget place (cond value state.Forced state.Excluded)
  refuted_by budget place true further none = (
    further,
    λ x left. elim (cases_Bool (has x place)) [ inl is ↦ is | inr lacks ↦ absurd (never place false none x left lacks) ],
  )
  refuted_by budget place false further none = (further, λ x left. false_from_ne_true (has x place) (never place true none x left))

  -- no car at all
  pub none_left : NoneFound (length b.codes) (is_left b day chosen) [] → (x : List Bool) → is_left b day chosen x ≡ false
  none_left none x = false_from_ne_true (is_left b day chosen x) (λ left.
      none x (record { counted = length_of_left b day chosen x left; passes = left; lits_true = none_true x }))

  last_or_before : {X : Type 0} (xs : List X) (x : X) (k : ℕ) (y : X) → slice_get (xs ++ x ∷ []) k ≡ Some y → (slice_get xs k ≡ Some y) ⊎ ((k ≡ length xs) × (x ≡ y))
  last_or_before [] x zero y is = inr (refl, cc)
  last_or_before [] x (suc k) y is = cc
  last_or_before (z ∷ xs) x zero y is = inl is
  last_or_before (z ∷ xs) x (suc k) y is = elim (last_or_before xs x k y is) [ inl before_ ↦ inl before_ | inr last ↦ inr (ap suc last.0, last.1) ]

  -- the states of the codes up to one more
  pub states_more : (budget place : ℕ) (old new : List CodeState) (s : CodeState) → length old ≡ place → new ≡ old ++ s ∷ [] → AreStates b day chosen budget old
      → IsState b day chosen budget place s → AreStates b day chosen budget new
  states_more budget place old new s counted is states here k t there =
      elim (last_or_before old s k t (ap (λ (ss : List CodeState). slice_get ss k) (sym is) ∙ there)) [
        | inl before_ ↦ states k t before_
        | inr last ↦ subst (λ (j : ℕ). IsState b day chosen budget j t) (sym (last.0 ∙ counted)) (subst (IsState b day chosen budget place) last.1 here)
      ]

  -- what the cars that were found show of a code
  noted_shown : (seen : Seen) (place : ℕ) (value with_it without : Bool) → IsSeen b day chosen seen → SeenAt seen place → has seen.with_it place ≡ with_it
      → has seen.without place ≡ without → only_value with_it without ≡ Some value → IsShown b day chosen place value
  noted_shown seen place value false without h at w o is =
      let shown : IsShown b day chosen place false =
      elim at [ inl has_it ↦ absurd (true≢false (sym has_it ∙ w)) | inr lacks ↦ h.without_shown place lacks ] in
      subst (IsShown b day chosen place) (same_Some false value is) shown
  noted_shown seen place value true false h at w o is = subst (IsShown b day chosen place) (same_Some true value is) (h.with_shown place w)
  noted_shown seen place value true true h at w o is = absurd (none-some value is)

  pub only_shown : (seen : Seen) (place : ℕ) (value : Bool) → IsSeen b day chosen seen → SeenAt seen place → only_value (has seen.with_it place) (has seen.without place) ≡ Some value
      → IsShown b day chosen place value
  only_shown seen place value h at is = noted_shown seen place value (has seen.with_it place) (has seen.without place) h at refl refl is

  noted_open : (seen : Seen) (place : ℕ) (with_it without : Bool) → IsSeen b day chosen seen → has seen.with_it place ≡ with_it → has seen.without place ≡ without
      → only_value with_it without ≡ None → IsOpen b day chosen place
  noted_open seen place false without h w o is = absurd (none-some false (sym is))
  noted_open seen place true false h w o is = absurd (none-some true (sym is))
  noted_open seen place true true h w o is = record { with_it = h.with_shown place w; without = h.without_shown place o }

  pub both_open : (seen : Seen) (place : ℕ) → IsSeen b day chosen seen → only_value (has seen.with_it place) (has seen.without place) ≡ None → IsOpen b day chosen place
  both_open seen place h is = noted_open seen place (has seen.with_it place) (has seen.without place) h refl refl is
