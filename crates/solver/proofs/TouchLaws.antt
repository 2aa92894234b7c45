-- The way down the trail from one marked place to the next, by the literals that were marked.
use Rattle.std.proofs.Common.{◌≡◌, inl, inr, ℕ, ◌+◌, ◌-◌, ◌/◌, ◌<◌, ◌≤◌, Bool, true, false, List, [], ◌∷◌, ◌++◌, Option, Some, length, take, get_or, sym, subst, ◌∙◌, ap, arith}
use Rattle.std.proofs.lemmas.Bool.{cases_order, false≢true, true≢false}
use Rattle.std.proofs.lemmas.List.{take_more}
use Rattle.clause_pool.specs.Literal.{complement}
use Rattle.clause_pool.specs.Clause.{has}
use Rattle.clause_pool.specs.Marks.{marked, AreTouched}
use Rattle.clause_pool.proofs.LiteralLaws.{complement-half, complement-complement}
use Rattle.propagate.specs.Trail.{Trail, IsTrail}
use Rattle.propagate.proofs.AssignmentLaws.{has_push}
use Rattle.propagate.proofs.KeepLaws.{same_default}
use Rattle.solver.specs.Marks.{AreFalseOrBlamed, IsMarkedAt, IsResolvedAt, IsTop, NoneMarked, false_at}
use Rattle.solver.proofs.MarkLaws.{is_false, narrow, resolved_here}
use Rattle.solver.proofs.TrailLaws.{same_place}

-- the variable of a literal has one place
pub place_is : (t : Trail) (marks : List Bool) (l end k p : ℕ) → IsTrail t → end ≤ length t.lits → IsMarkedAt t.lits marks l end k → p < length t.lits → get_or t.lits p 0 / 2 ≡ l / 2 → p ≡ k
place_is t marks l end k p h low m within half =
    let before = m.before in
    same_place t p k h within (omega (arith, before, low)) (half ∙ ap (λ (n : ℕ). n / 2) (sym m.is) ∙ complement-half (get_or t.lits k 0))

module _ (t : Trail) (xs : List ℕ) (marks : List Bool) (l end p y : ℕ) (same : xs ≡ t.lits) (within : p < length t.lits) (read : y ≡ get_or xs p y) where
  read_is : get_or t.lits p 0 ≡ y
  read_is = sym (read ∙ ap (λ (ys : List ℕ). get_or ys p y) same ∙ same_default t.lits p y 0 within)

  pub place_found : p < end → y ≡ complement l → marked marks l ≡ true → IsMarkedAt t.lits marks l end p
  place_found before is m = record { before = before; is = ap complement (read_is ∙ is) ∙ complement-complement l; is_in = m }

  -- another literal stands there, so the marked one stands nowhere
  pub place_other : (y ≡ complement l → ⊥) → (k : ℕ) → p ≡ k → IsMarkedAt t.lits marks l end k → ⊥
  place_other other k e m = other (sym read_is ∙ ap (λ (n : ℕ). get_or t.lits n 0) e ∙ sym (complement-complement (get_or t.lits k 0)) ∙ ap complement m.is)

-- so much of the trail has none of these literals that is marked, up to the latest one
pub record IsLatest (lits : List ℕ) (marks : List Bool) (seen : List ℕ) (end behind : ℕ) : Type 0 where
  pub within : behind ≤ end
  pub top : 0 < behind → marked marks (false_at lits (behind - 1)) ≡ true
  pub none : (j : ℕ) → behind ≤ j → j < end → has seen (false_at lits j) ≡ true → marked marks (false_at lits j) ≡ false

pub latest_starts : (lits : List ℕ) (marks : List Bool) (end : ℕ) → IsLatest lits marks [] end 0
latest_starts lits marks end = record { within = omega arith; top = λ some. absurd (omega (arith, some)); none = λ j low high is_in. absurd (false≢true is_in) }

-- a literal more, where what is left above isn't its place
pub latest_more : (lits : List ℕ) (marks : List Bool) (touched : List ℕ) (i l end behind after : ℕ) → IsLatest lits marks (take i touched) end behind → i < length touched → l ≡ get_or touched i l → behind ≤ after → after ≤ end
    → (0 < after → marked marks (false_at lits (after - 1)) ≡ true) → ((j : ℕ) → after ≤ j → IsMarkedAt lits marks l end j → ⊥) → IsLatest lits marks (take (i + 1) touched) end after
latest_more lits marks touched i l end behind after h low is longer within top other =
    subst (λ (seen : List ℕ). IsLatest lits marks seen end after) (sym (take_more touched i l low ∙ ap (λ (y : ℕ). take i touched ++ y ∷ []) (sym is))) (record {
      within = within;
      top = top;
      none = λ j late high is_in. elim (has_push (take i touched) l (false_at lits j) is_in) [
        | inl before ↦ h.none j (omega (arith, longer, late)) high before
        | inr last ↦ is_false (marked marks (false_at lits j)) (λ m. other j late (record { before = high; is = sym last; is_in = ap (marked marks) last ∙ m }))
      ];
    })

some_place : (o : Option ℕ) (k j : ℕ) → o ≡ Some k → o ≡ Some j → k ≡ j
some_place o k j e d = cc

-- the literal has a place: behind those that were found, or before
module _ (lits : List ℕ) (marks : List Bool) (touched : List ℕ) (i l end behind after k : ℕ) (o : Option ℕ) (h : IsLatest lits marks (take i touched) end behind) (low : i < length touched) (is : l ≡ get_or touched i l)
    (found : o ≡ Some k) (m : IsMarkedAt lits marks l end k) (only : (j : ℕ) → IsMarkedAt lits marks l end j → o ≡ Some j) where
  pub latest_behind : behind ≤ k → after ≡ k + 1 → IsLatest lits marks (take (i + 1) touched) end after
  latest_behind late e =
      let before = m.before in
      let here : after - 1 ≡ k = omega (arith, e) in
      latest_more lits marks touched i l end behind after h low is (omega (arith, late, e)) (omega (arith, before, e))
      (λ some. ap (λ (n : ℕ). marked marks (false_at lits n)) here ∙ ap (marked marks) m.is ∙ m.is_in)
      (λ j high other. let same : k ≡ j = some_place o k j found (only j other) in absurd (omega (arith, same, high, e)))

  pub latest_before : k < behind → after ≡ behind → IsLatest lits marks (take (i + 1) touched) end after
  latest_before early e =
      let within = h.within in
      let here : after - 1 ≡ behind - 1 = omega (arith, e) in
      latest_more lits marks touched i l end behind after h low is (omega (arith, e)) (omega (arith, within, e))
      (λ some. ap (λ (n : ℕ). marked marks (false_at lits n)) here ∙ h.top (omega (arith, some, e)))
      (λ j high other. let same : k ≡ j = some_place o k j found (only j other) in absurd (omega (arith, same, high, e, early)))

pub latest_top : (lits : List ℕ) (marks : List Bool) (touched : List ℕ) (end behind : ℕ) → IsLatest lits marks touched end behind → AreTouched marks touched → 0 < behind → IsTop lits marks 0 end (behind - 1)
latest_top lits marks touched end behind h all some = let within = h.within in record {
  behind = omega arith;
  before = omega (arith, within, some);
  is_in = h.top some;
  none_above = λ j low high. is_false (marked marks (false_at lits j)) (λ m. true≢false (sym m ∙ h.none j (omega (arith, low)) high (all (false_at lits j) m)));
}

pub latest_none : (lits : List ℕ) (marks : List Bool) (touched : List ℕ) (end behind : ℕ) → IsLatest lits marks touched end behind → AreTouched marks touched → behind ≡ 0 → NoneMarked lits marks 0 end
latest_none lits marks touched end behind h all none j low high =
    is_false (marked marks (false_at lits j)) (λ m. true≢false (sym m ∙ h.none j (omega (arith, none)) high (all (false_at lits j) m)))

-- the steps down the trail: the literal at the latest marked place was assumed, or is resolved away, or none is left
module _ (t : Trail) (old : List Bool) (a : List ℕ) (end : ℕ) (h : AreFalseOrBlamed (take end t.lits) old a) where
  pub down_opened : (k : ℕ) → IsTop t.lits old 0 end k → has a (get_or t.lits k 0) ≡ true → AreFalseOrBlamed (take k t.lits) old a
  down_opened k top is_in = narrow t.lits old k end (λ l. has a (complement l) ≡ true) (λ j low high m.
      elim (cases_order j k) [
        | inl e ↦ ap (has a) (complement-complement (get_or t.lits j 0) ∙ ap (λ (i : ℕ). get_or t.lits i 0) e) ∙ is_in
        | inr o ↦ elim o [
          | inl before ↦ absurd (omega (arith, before, low))
          | inr after ↦ absurd (true≢false (sym m ∙ top.none_above j after high))
        ]
      ]) h

  pub down_resolved : (k : ℕ) (new : List Bool) → IsTop t.lits old 0 end k → IsResolvedAt t k old new → AreFalseOrBlamed (take k t.lits) new a
  down_resolved k new top r = resolved_here t k (λ l. has a (complement l) ≡ true) old new r
      (narrow t.lits old (k + 1) end (λ l. has a (complement l) ≡ true) (λ j low high m. absurd (true≢false (sym m ∙ top.none_above j (omega (arith, low)) high))) h)

  pub down_done : NoneMarked t.lits old 0 end → AreFalseOrBlamed [] old a
  down_done none = narrow t.lits old 0 end (λ l. has a (complement l) ≡ true) (λ j low high m. absurd (true≢false (sym m ∙ none j low high))) h
