-- Which rules are tried again where a code was added.
--     AreCandidates rules candidates              the candidates are rules, with their ranks
--     HoldsFiring rules day x candidates          each rule that fires is among them
--     HoldsFiringBut p rules day x candidates     each rule that fires is among them, but for that at the place p
--     HoldsListed rules lists day x code candidates     each rule of the code's list that fires is among them
--     AreHolding rules x candidates               the candidates are rules whose formulas are true, with their ranks
--     HasHolding rules x candidates               each rule whose formula is true is among them
--     Rises candidates                            each comes before the next one
--     AreStanding rules candidates                they are the rules whose formulas are true where there are no codes, the first first
--     touches x f                                 a code of the formula is in the set
--     AreMarked rules x marks                     each rule of which a code is in the set is marked
--     AreTryable rules marks candidates           those that aren't marked are rules whose formulas are true where there are no codes
--     reversed, candidates_in                     how a heap compares candidates, so that its greatest is the first; those of a heap
--     ComesBefore t u                             the candidate t comes before u, or is the same
use Rattle.std.specs.Prelude.{◌≡◌, ◌≢◌, ℕ, suc, ◌<◌, ◌≤◌, Bool, true, false, ◌||◌, ◌⊎◌, List, [], Some, All, Contains, length, map, slice_get, slice_index_or}
use Rattle.std.specs.Ordering.{nat_cmp, ordering_then}
use Rattle.std.specs.declared.cmp.Ordering.{Ordering}
use Rattle.std.specs.declared.cmp.Reverse.{Reverse}
use Rattle.pb_base.specs.Rule.{Rule, code, negation, both, either, always, never, holds}
use Rattle.pb_base.specs.Sets.{has}
use Rattle.book_model.specs.Good.{fires}
use Rattle.book_model.specs.declared.record.Supplement.{Supplement}
use Rattle.supplement.specs.declared.occurrences.OccurrenceLists.{OccurrenceLists}
use Rattle.supplement.specs.declared.worklist.Candidate.{Candidate}
use Rattle.supplement.specs.Occurrences.{Lists}

abbrev pub candidate_of : ℕ → Supplement → Candidate
candidate_of p s = record { rank = s.rank; rule = p }

abbrev pub AreCandidates : List Supplement → List Candidate → Type 0
AreCandidates rules candidates = All (λ t. (s : Supplement) × (slice_get rules t.rule ≡ Some s) × (t.rank ≡ s.rank)) candidates

abbrev pub HoldsFiring : List Supplement → ℕ → List Bool → List Candidate → Type 0
HoldsFiring rules day x candidates =
    (p : ℕ) (s : Supplement) → slice_get rules p ≡ Some s → fires day x s ≡ true → Contains candidates (candidate_of p s)

abbrev pub HoldsFiringBut : ℕ → List Supplement → ℕ → List Bool → List Candidate → Type 0
HoldsFiringBut place rules day x candidates =
    (p : ℕ) (s : Supplement) → slice_get rules p ≡ Some s → fires day x s ≡ true → p ≢ place → Contains candidates (candidate_of p s)

abbrev pub HoldsListed : List Supplement → OccurrenceLists → ℕ → List Bool → ℕ → List Candidate → Type 0
HoldsListed rules lists day x c candidates =
    (p : ℕ) (s : Supplement) → Lists lists c p → slice_get rules p ≡ Some s → fires day x s ≡ true → Contains candidates (candidate_of p s)

abbrev pub ComesBefore : Candidate → Candidate → Type 0
ComesBefore t u = (t.rank < u.rank) ⊎ ((t.rank ≡ u.rank) × (t.rule ≤ u.rule))

abbrev pub Rises : List Candidate → Type 0
Rises candidates =
    (k : ℕ) (d : Candidate) → suc k < length candidates → ComesBefore (slice_index_or candidates k d) (slice_index_or candidates (suc k) d)

abbrev pub IsHolding : List Supplement → List Bool → Candidate → Type 0
IsHolding rules x t = (s : Supplement) × (slice_get rules t.rule ≡ Some s) × (t.rank ≡ s.rank) × (holds s.rule x ≡ true)

abbrev pub AreHolding : List Supplement → List Bool → List Candidate → Type 0
AreHolding rules x candidates = All (IsHolding rules x) candidates

abbrev pub HasHolding : List Supplement → List Bool → List Candidate → Type 0
HasHolding rules x candidates =
    (p : ℕ) (s : Supplement) → slice_get rules p ≡ Some s → holds s.rule x ≡ true → Contains candidates (candidate_of p s)

pub record AreStanding (rules : List Supplement) (standing : List Candidate) : Type 0 where
  pub holding : AreHolding rules [] standing
  pub complete : HasHolding rules [] standing
  pub rises : Rises standing

abbrev pub touches : List Bool → Rule → Bool
touches x (code place) = has x place
touches x (negation f) = touches x f
touches x (both f g) = touches x f || touches x g
touches x (either f g) = touches x f || touches x g
touches x always = false
touches x never = false

pub record AreMarked (rules : List Supplement) (x marks : List Bool) : Type 0 where
  pub same_rules : length marks ≡ length rules
  pub marked : (p : ℕ) (s : Supplement) → slice_get rules p ≡ Some s → touches x s.rule ≡ true → has marks p ≡ true

abbrev pub IsTryable : List Supplement → List Bool → Candidate → Type 0
IsTryable rules marks t = (has marks t.rule ≡ true) ⊎ IsHolding rules [] t

abbrev pub AreTryable : List Supplement → List Bool → List Candidate → Type 0
AreTryable rules marks candidates = All (IsTryable rules marks) candidates

-- the rules of a code were marked
pub record Marks (lists : OccurrenceLists) (code : ℕ) (old new : List Bool) : Type 0 where
  pub same_rules : length new ≡ length old
  pub keeps : (p : ℕ) → has old p ≡ true → has new p ≡ true
  pub listed : (p : ℕ) → Lists lists code p → has new p ≡ true

abbrev pub reversed : Reverse Candidate → Reverse Candidate → Ordering
reversed x y = ordering_then (nat_cmp y.0.rank x.0.rank) (nat_cmp y.0.rule x.0.rule)

abbrev pub candidates_in : List (Reverse Candidate) → List Candidate
candidates_in = map (λ r. r.0)
