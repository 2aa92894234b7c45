-- Among the candidates the first that fires is that of the rule that fires first.
use Rattle.std.proofs.Common.{◌≡◌, ◌≢◌, ℕ, zero, suc, ◌+◌, ◌<◌, ◌≤◌, Bool, true, false, not, ◌&&◌, ◌||◌, List, [], ◌∷◌, ◌++◌, length, get_or, set, Option, Some, None, IfSome, refl, sym, ap, subst, ◌∙◌, ◌⊎◌, inl, inr, arith, All}
use Rattle.std.specs.List.{slice_get, Contains}
use Rattle.std.specs.BinaryHeap.{IsUpperBound}
use Rattle.std.specs.List.Sorted.{IsPermutation, IsSorted}
use Rattle.std.specs.Option.{IfNone}
use Rattle.std.specs.Ordering.{nat_cmp, is_lt, ordering_then}
use Rattle.std.specs.declared.cmp.Reverse.{Reverse}
use Rattle.std.proofs.lemmas.Bool.{cases_Bool, cases_eq, eq-eqb, eqb-true, and_parts, or_cases, or_parts, false≢true}
use Rattle.std.proofs.lemmas.Option.{IfSome_then, same_Some, slice_get_within, slice_get-get_or, get_or_from_slice_get}
use Rattle.std.proofs.lemmas.List.{get_or-set_other}
use Rattle.std.proofs.lemmas.List.Elements.{All-nil, All-cons, All-append, All-tail, All-contains, All-weaker}
use Rattle.std.proofs.lemmas.List.Sorted.{All-permutation, Contains-permutation, IsPermutation-refl, IsPermutation-sym, IsPermutation-to_front, IsPermutation-trans, IsPermutation-middle, IsPermutation-append_right}
use Rattle.pb_base.specs.Rule.{Rule, code, negation, both, either, always, never, holds}
use Rattle.pb_base.specs.Sets.{has, none_of}
use Rattle.book_model.specs.Activity.{is_within}
use Rattle.book_model.specs.Good.{fires}
use Rattle.book_model.specs.declared.record.Supplement.{Supplement}
use Rattle.supplement.specs.declared.worklist.Candidate.{Candidate}
use Rattle.supplement.specs.declared.firing.Firing.{Firing}
use Rattle.supplement.specs.declared.occurrences.OccurrenceLists.{OccurrenceLists}
use Rattle.supplement.specs.Completion.{first_firing}
use Rattle.supplement.specs.Occurrences.{occurs, Lists, AreOccurrences}
use Rattle.supplement.specs.Worklist.{HoldsFiring, HoldsFiringBut, HoldsListed, AreCandidates, AreHolding, AreMarked, AreStanding, AreTryable, HasHolding, IsHolding, IsTryable, Marks, candidate_of, candidates_in, ComesBefore, reversed, Rises, touches}
use Rattle.supplement.proofs.FirstFiring.{ComesFirst, firing_of, first_fires, first_firing-is, first_firing-none}
use Rattle.supplement.proofs.OccurrenceLemmas.{all_come_after, comes_before, comes_strictly, fires_after, has_within}

first_or_rest : {X : Type 0} (x u : X) (xs : List X) (k : ℕ) → k < length (x ∷ xs) → get_or (x ∷ xs) k u ≡ u → (x ≡ u) ⊎ Contains xs u
first_or_rest x u xs zero within is = inl is
first_or_rest x u xs (suc k) within is = inr (k, omega (arith, within), is)

-- what is among the old candidates is the one taken out, or left
taken_or_left : (old new : List Candidate) (t u : Candidate) → IsPermutation old (t ∷ new) → Contains old u → (t ≡ u) ⊎ Contains new u
taken_or_left old new t u moved among =
    let there = Contains-permutation old (t ∷ new) u moved among in
    first_or_rest t u new there.0 there.1 there.2

pub candidates_left : (rules : List Supplement) (old new : List Candidate) (t : Candidate) → IsPermutation old (t ∷ new) → AreCandidates rules old → AreCandidates rules new
candidates_left rules old new t moved candidates =
    All-tail (λ u. (s : Supplement) × (slice_get rules u.rule ≡ Some s) × (u.rank ≡ s.rank)) t new
    (All-permutation (λ u. (s : Supplement) × (slice_get rules u.rule ≡ Some s) × (u.rank ≡ s.rank)) old (t ∷ new) moved candidates)

-- the candidate that was taken out is that of a rule
pub candidate_taken : (rules : List Supplement) (old new : List Candidate) (t : Candidate) → IsPermutation old (t ∷ new) → AreCandidates rules old → (s : Supplement) × (slice_get rules t.rule ≡ Some s) × (t.rank ≡ s.rank)
candidate_taken rules old new t moved candidates =
    All-permutation (λ u. (s : Supplement) × (slice_get rules u.rule ≡ Some s) × (u.rank ≡ s.rank)) old (t ∷ new) moved candidates zero t (omega arith)

-- a rule that does not fire is not missed
pub still_held : (rules : List Supplement) (day : ℕ) (x : List Bool) (old new : List Candidate) (t : Candidate) (s : Supplement) → slice_get rules t.rule ≡ Some s → fires day x s ≡ false
    → IsPermutation old (t ∷ new) → HoldsFiring rules day x old → HoldsFiring rules day x new
still_held rules day x old new t s there off moved worklist p r is_rule on =
    elim (taken_or_left old new t (candidate_of p r) moved (worklist p r is_rule on)) [
      | inl same ↦
          let rule : s ≡ r = same_Some s r (sym there ∙ ap (λ (u : Candidate). slice_get rules u.rule) same ∙ is_rule) in
          absurd (false≢true (sym off ∙ ap (fires day x) rule ∙ on))
      | inr left ↦ left
    ]

-- where a rule fires, the candidates of the others that fire are left
pub others_left : (rules : List Supplement) (day : ℕ) (x : List Bool) (old new : List Candidate) (t : Candidate) → IsPermutation old (t ∷ new) → HoldsFiring rules day x old
    → HoldsFiringBut t.rule rules day x new
others_left rules day x old new t moved worklist p r is_rule on other =
    elim (taken_or_left old new t (candidate_of p r) moved (worklist p r is_rule on)) [
      | inl same ↦ absurd (other (sym (ap (λ (u : Candidate). u.rule) same)))
      | inr left ↦ left
    ]

pub next_is_first : (rules : List Supplement) (day : ℕ) (x : List Bool) (old new : List Candidate) (t : Candidate) (s : Supplement) → slice_get rules t.rule ≡ Some s → fires day x s ≡ true
    → IsPermutation old (t ∷ new) → All (ComesBefore t) new → AreCandidates rules old → HoldsFiring rules day x old → Some (firing_of t.rule s) ≡ first_firing rules day x
next_is_first rules day x old new t s there on moved first candidates worklist =
    let taken = candidate_taken rules old new t moved candidates in
    let same : taken.0 ≡ s = same_Some taken.0 s (sym taken.1 ∙ there) in
    let rank : t.rank ≡ s.rank = taken.2 ∙ ap (λ (r : Supplement). r.rank) same in
    let at : get_or rules t.rule s ≡ s = get_or_from_slice_get rules t.rule s s there in
    let before : (q : ℕ) → q < length rules → q ≢ t.rule → fires day x (get_or rules q s) ≡ true → (t.rank < (get_or rules q s).rank) ⊎ ((t.rank ≡ (get_or rules q s).rank) × (t.rule ≤ q)) =
    λ q within other fired. All-contains (ComesBefore t) new (candidate_of q (get_or rules q s)) first (others_left rules day x old new t moved worklist q (get_or rules q s) (slice_get-get_or rules q s within) fired other)
    in
    let inside = slice_get_within rules t.rule s there in
    let comes : ComesFirst day x rules t.rule s = record {
      within = inside;
      on = ap (fires day x) at ∙ on;
      earlier = λ q lower fired. elim (before q (omega arith) (λ e. omega arith) fired) [
        | inl less ↦ subst (λ (r : Supplement). r.rank < (get_or rules q s).rank) (sym at) (subst (λ n. n < (get_or rules q s).rank) rank less)
        | inr tie ↦ absurd (omega (arith, tie.1))
      ];
      later = λ q higher within fired. elim (before q within (λ e. omega arith) fired) [
        | inl less ↦ subst (λ (r : Supplement). r.rank ≤ (get_or rules q s).rank) (sym at) (subst (λ n. n ≤ (get_or rules q s).rank) rank (omega (arith, less)))
        | inr tie ↦ subst (λ (r : Supplement). r.rank ≤ (get_or rules q s).rank) (sym at) (subst (λ n. n ≤ (get_or rules q s).rank) rank (omega (arith, tie.0)))
      ];
    } in
    let base : zero + t.rule ≡ t.rule = omega arith in
    sym (first_firing-is 0 day x rules t.rule s comes ∙ ap (λ n. Some (firing_of n (get_or rules t.rule s))) base ∙ ap (λ r. Some (firing_of t.rule r)) at)

-- where no candidate is left, no rule fires
pub none_held : (rules : List Supplement) (day : ℕ) (x : List Bool) (candidates : List Candidate) → candidates ≡ [] → HoldsFiring rules day x candidates → None ≡ first_firing rules day x
none_held rules day x candidates empty worklist =
    sym (first_firing-none 0 day x rules (λ k d within.
    elim (cases_Bool (fires day x (get_or rules k d))) [
      | inl on ↦
          let among = subst (λ ts. Contains ts (candidate_of k (get_or rules k d))) empty (worklist k (get_or rules k d) (slice_get-get_or rules k d within) on) in
          absurd (omega (arith, among.1))
      | inr off ↦ off
    ]))

-- after a code was added and its rules were added, each rule that fires is worklist
pub held_after : (rules : List Supplement) (day : ℕ) (x : List Bool) (index : OccurrenceLists) (f : Firing) (mid new : List Candidate) → AreOccurrences (length x) rules index → first_firing rules day x ≡ Some f → f.code < length x
    → HoldsFiringBut f.rule rules day x mid
    → ((t : Candidate) → Contains mid t → Contains new t)
    → HoldsListed rules index day (set x f.code true) f.code new
    → HoldsFiring rules day (set x f.code true) new
held_after rules day x index f mid new indexed first within others keeps added p s is_rule on =
    let after = fires_after day x f.code s within on in
    elim after.was [
      | inl fired ↦
          keeps (candidate_of p s) (others p s is_rule fired (λ same.
          let found = first_fires 0 day x rules f s first in
          let place : p ≡ found.0 = omega (arith, same, ap (λ (g : Firing). g.rule) found.1.is) in
          let here : get_or rules found.0 s ≡ s = ap (λ k. get_or rules k s) (sym place) ∙ get_or_from_slice_get rules p s s is_rule in
          after.other (sym (ap (λ (g : Firing). g.code) found.1.is ∙ ap (λ (r : Supplement). r.code) here))))
      | inr there ↦ added p s (indexed.complete p s (slice_get_within rules p s is_rule) is_rule f.code there) is_rule on
    ]

-- ---- the candidates of rules whose formulas are true
Contains-front : (t : Candidate) (ts : List Candidate) → Contains (t ∷ ts) t
Contains-front t ts = (zero, omega arith, refl)

-- the rules before this place whose formulas are true have their candidates
abbrev pub HasHoldingUpTo : ℕ → List Supplement → List Bool → List Candidate → Type 0
HasHoldingUpTo n rules x found = (p : ℕ) (s : Supplement) → p < n → slice_get rules p ≡ Some s → holds s.rule x ≡ true → Contains found (candidate_of p s)

pub holds_here : (rules : List Supplement) (x : List Bool) (place : ℕ) (s : Supplement) (old : List Candidate) → slice_get rules place ≡ Some s → holds s.rule x ≡ true
    → AreHolding rules x old × HasHoldingUpTo place rules x old
    → AreHolding rules x (old ++ candidate_of place s ∷ []) × HasHoldingUpTo (place + 1) rules x (old ++ candidate_of place s ∷ [])
holds_here rules x place s old there holding so_far =
    let t = candidate_of place s in
    let moved : IsPermutation (t ∷ old) (old ++ t ∷ []) = IsPermutation-sym (old ++ t ∷ []) (t ∷ old) (IsPermutation-to_front old t) in (
      All-permutation (IsHolding rules x) (t ∷ old) (old ++ t ∷ []) moved (All-cons (IsHolding rules x) t old (s, there, refl, holding) so_far.0),
      λ p r below is_rule on. Contains-permutation (t ∷ old) (old ++ t ∷ []) (candidate_of p r) moved
          (elim (cases_eq p place) [
            | inl same ↦
                let rule : s ≡ r = same_Some s r (sym there ∙ ap (slice_get rules) (sym same) ∙ is_rule) in
                subst (λ (u : Candidate). Contains (t ∷ old) u) (ap (λ (q : Supplement). candidate_of place q) rule ∙ ap (λ j. candidate_of j r) (sym same)) (Contains-front t old)
            | inr other ↦
                let among = so_far.1 p r (omega arith) is_rule on in
                (suc among.0, omega (arith, among.1), among.2)
          ]),
    )

pub holds_not_here : (rules : List Supplement) (x : List Bool) (place : ℕ) (s : Supplement) (old : List Candidate) → slice_get rules place ≡ Some s → holds s.rule x ≡ false
    → AreHolding rules x old × HasHoldingUpTo place rules x old → AreHolding rules x old × HasHoldingUpTo (place + 1) rules x old
holds_not_here rules x place s old there off so_far = (
  so_far.0,
  λ p r below is_rule on.
      elim (cases_eq p place) [
        | inl same ↦
            let rule : s ≡ r = same_Some s r (sym there ∙ ap (slice_get rules) (sym same) ∙ is_rule) in
            absurd (false≢true (sym off ∙ ap (λ (q : Supplement). holds q.rule x) rule ∙ on))
        | inr other ↦ so_far.1 p r (omega arith) is_rule on
      ],
)

-- ---- what a formula is where none of its codes is in the set
none_has : (n place : ℕ) → has (none_of n) place ≡ false
none_has zero place = refl
none_has (suc n) zero = refl
none_has (suc n) (suc place) = none_has n place

pub holds-untouched : (x : List Bool) (f : Rule) → touches x f ≡ false → holds f x ≡ holds f []
holds-untouched x (code place) off = off
holds-untouched x (negation f) off = ap not (holds-untouched x f off)
holds-untouched x (both f g) off =
    let parts = or_parts (touches x f) (touches x g) off in
    ap (λ a. a && holds g x) (holds-untouched x f parts.0) ∙ ap (λ a. holds f [] && a) (holds-untouched x g parts.1)
holds-untouched x (either f g) off =
    let parts = or_parts (touches x f) (touches x g) off in
    ap (λ a. a || holds g x) (holds-untouched x f parts.0) ∙ ap (λ a. holds f [] || a) (holds-untouched x g parts.1)
holds-untouched x always off = refl
holds-untouched x never off = refl

none_touches : (n : ℕ) (f : Rule) → touches (none_of n) f ≡ false
none_touches n (code place) = none_has n place
none_touches n (negation f) = none_touches n f
none_touches n (both f g) = ap (λ b. b || touches (none_of n) g) (none_touches n f) ∙ none_touches n g
none_touches n (either f g) = ap (λ b. b || touches (none_of n) g) (none_touches n f) ∙ none_touches n g
none_touches n always = refl
none_touches n never = refl

holds-none : (n : ℕ) (f : Rule) → holds f (none_of n) ≡ holds f []
holds-none n f = holds-untouched (none_of n) f (none_touches n f)

or_right : (b : Bool) → (b || true) ≡ true
or_right true = refl
or_right false = refl

-- a code of the set that stands in the formula
pub record IsTouchedBy (x : List Bool) (f : Rule) (c : ℕ) : Type 0 where
  pub chosen : has x c ≡ true
  pub there : occurs c f ≡ true

pub touched_by : (x : List Bool) (f : Rule) → touches x f ≡ true → (c : ℕ) × IsTouchedBy x f c
touched_by x (code place) on = (place, record { chosen = on; there = eq-eqb place place refl })
touched_by x (negation f) on = let found = touched_by x f on in (found.0, record { chosen = found.1.chosen; there = found.1.there })
touched_by x (both f g) on =
    elim (or_cases (touches x f) (touches x g) on) [
      | inl left ↦
          let found = touched_by x f left in
          (found.0, record { chosen = found.1.chosen; there = ap (λ b. b || occurs found.0 g) found.1.there })
      | inr right ↦
          let found = touched_by x g right in
          (found.0, record { chosen = found.1.chosen; there = ap (λ b. occurs found.0 f || b) found.1.there ∙ or_right (occurs found.0 f) })
    ]
touched_by x (either f g) on =
    elim (or_cases (touches x f) (touches x g) on) [
      | inl left ↦
          let found = touched_by x f left in
          (found.0, record { chosen = found.1.chosen; there = ap (λ b. b || occurs found.0 g) found.1.there })
      | inr right ↦
          let found = touched_by x g right in
          (found.0, record { chosen = found.1.chosen; there = ap (λ b. occurs found.0 f || b) found.1.there ∙ or_right (occurs found.0 f) })
    ]
touched_by x always on = absurd (false≢true on)
touched_by x never on = absurd (false≢true on)

or_left : (a b : Bool) → a ≡ true → (a || b) ≡ true
or_left a b on = ap (λ c. c || b) on

or_second : (a b : Bool) → b ≡ true → (a || b) ≡ true
or_second a b on = ap (λ c. a || c) on ∙ or_right a

touches_by : (x : List Bool) (f : Rule) (c : ℕ) → has x c ≡ true → occurs c f ≡ true → touches x f ≡ true
touches_by x (code place) c chosen there = ap (has x) (eqb-true place c there) ∙ chosen
touches_by x (negation f) c chosen there = touches_by x f c chosen there
touches_by x (both f g) c chosen there =
    elim (or_cases (occurs c f) (occurs c g) there) [
      | inl left ↦ or_left (touches x f) (touches x g) (touches_by x f c chosen left)
      | inr right ↦ or_second (touches x f) (touches x g) (touches_by x g c chosen right)
    ]
touches_by x (either f g) c chosen there =
    elim (or_cases (occurs c f) (occurs c g) there) [
      | inl left ↦ or_left (touches x f) (touches x g) (touches_by x f c chosen left)
      | inr right ↦ or_second (touches x f) (touches x g) (touches_by x g c chosen right)
    ]
touches_by x always c chosen there = absurd (false≢true there)
touches_by x never c chosen there = absurd (false≢true there)

-- a formula that an added code touches was touched before, or has the code
touched_after : (x : List Bool) (c : ℕ) (f : Rule) → touches (set x c true) f ≡ true → (touches x f ≡ true) ⊎ (occurs c f ≡ true)
touched_after x c f on =
    let found = touched_by (set x c true) f on in
    elim (cases_eq found.0 c) [
      | inl same ↦ inr (subst (λ k. occurs k f ≡ true) same found.1.there)
      | inr other ↦ inl (touches_by x f found.0 (sym (get_or-set_other x c found.0 true false other) ∙ found.1.chosen) found.1.there)
    ]

-- the standing rules, and those of the codes before the code n that fire, are among the candidates, and these rules are marked
pub record HoldsUpTo (n : ℕ) (rules : List Supplement) (lists : OccurrenceLists) (day : ℕ) (x : List Bool) (standing now : List Candidate) (marks : List Bool) : Type 0 where
  pub candidates : AreCandidates rules now
  pub keeps : (t : Candidate) → Contains standing t → Contains now t
  pub listed : (c : ℕ) → c < n → has x c ≡ true → HoldsListed rules lists day x c now
  pub tryable : AreTryable rules marks now
  pub same_rules : length marks ≡ length rules
  pub marked : (c : ℕ) → c < n → has x c ≡ true → (p : ℕ) → Lists lists c p → has marks p ≡ true

pub holds_all : (n : ℕ) (rules : List Supplement) (lists : OccurrenceLists) (day : ℕ) (x : List Bool) (standing now : List Candidate) (marks : List Bool) → length x ≤ n → AreStanding rules standing
    → AreOccurrences (length x) rules lists → HoldsUpTo n rules lists day x standing now marks → HoldsFiring rules day x now
holds_all n rules lists day x standing now marks all stand lists_all up p s is_rule on =
    elim (cases_Bool (touches x s.rule)) [
      | inl touched ↦
          let found = touched_by x s.rule touched in
          up.listed found.0 (omega (arith, all, has_within x found.0 found.1.chosen)) found.1.chosen p s (lists_all.complete p s (slice_get_within rules p s is_rule) is_rule found.0 found.1.there) is_rule on
      | inr off ↦
          let parts = and_parts (is_within s.from s.until day && holds s.rule x) (not (has x s.code)) on in
          let holding = (and_parts (is_within s.from s.until day) (holds s.rule x) parts.0).1 in
          up.keeps (candidate_of p s) (stand.complete p s is_rule (sym (holds-untouched x s.rule off) ∙ holding))
    ]

pub marked_all_of : (n : ℕ) (rules : List Supplement) (lists : OccurrenceLists) (day : ℕ) (x : List Bool) (standing now : List Candidate) (marks : List Bool) → length x ≤ n
    → AreOccurrences (length x) rules lists → HoldsUpTo n rules lists day x standing now marks → AreMarked rules x marks
marked_all_of n rules lists day x standing now marks all lists_all up = record {
  same_rules = up.same_rules;
  marked = λ p s is_rule touched.
      let found = touched_by x s.rule touched in
      up.marked found.0 (omega (arith, all, has_within x found.0 found.1.chosen)) found.1.chosen p (lists_all.complete p s (slice_get_within rules p s is_rule) is_rule found.0 found.1.there);
}

-- after a code was added, its rules are marked, too
pub marked_after : (rules : List Supplement) (lists : OccurrenceLists) (x : List Bool) (c : ℕ) (old new : List Bool) → AreOccurrences (length x) rules lists → AreMarked rules x old → Marks lists c old new
    → AreMarked rules (set x c true) new
marked_after rules lists x c old new lists_all before_ now = record {
  same_rules = now.same_rules ∙ before_.same_rules;
  marked = λ p s is_rule touched.
      elim (touched_after x c s.rule touched) [
        | inl was ↦ now.keeps p (before_.marked p s is_rule was)
        | inr there ↦ now.listed p (lists_all.complete p s (slice_get_within rules p s is_rule) is_rule c there)
      ];
}

-- the formula of a rule that isn't marked is true
pub holds_unmarked : (rules : List Supplement) (x marks : List Bool) (t : Candidate) (s : Supplement) → slice_get rules t.rule ≡ Some s → AreMarked rules x marks → IsTryable rules marks t
    → has marks t.rule ≡ false → holds s.rule x ≡ true
holds_unmarked rules x marks t s there are one off =
    elim one [
      | inl on ↦ absurd (false≢true (sym off ∙ on))
      | inr stands ↦ elim (cases_Bool (touches x s.rule)) [
        | inl touched ↦ absurd (false≢true (sym off ∙ are.marked t.rule s there touched))
        | inr untouched ↦
            let same : stands.0 ≡ s = same_Some stands.0 s (sym stands.1 ∙ there) in
            holds-untouched x s.rule untouched ∙ subst (λ (r : Supplement). holds r.rule [] ≡ true) same stands.3
      ]
    ]

-- ---- a rule whose formula is true
and_off : (b : Bool) → (b && false) ≡ false
and_off true = refl
and_off false = refl

and_on : (b : Bool) → (b && true) ≡ b
and_on true = refl
and_on false = refl

pub fires_present : (day : ℕ) (x : List Bool) (s : Supplement) → has x s.code ≡ true → fires day x s ≡ false
fires_present day x s on =
    ap (λ there. (is_within s.from s.until day && holds s.rule x) && not there) on ∙ and_off (is_within s.from s.until day && holds s.rule x)

pub fires_absent : (day : ℕ) (x : List Bool) (s : Supplement) → holds s.rule x ≡ true → has x s.code ≡ false → fires day x s ≡ is_within s.from s.until day
fires_absent day x s holding off =
    ap (λ h. (is_within s.from s.until day && h) && not (has x s.code)) holding
    ∙ ap (λ there. (is_within s.from s.until day && true) && not there) off
    ∙ and_on (is_within s.from s.until day && true)
    ∙ and_on (is_within s.from s.until day)

pub tryable_taken : (rules : List Supplement) (marks : List Bool) (old new : List Candidate) (t : Candidate) → IsPermutation old (t ∷ new) → AreTryable rules marks old → IsTryable rules marks t
tryable_taken rules marks old new t moved all = All-permutation (IsTryable rules marks) old (t ∷ new) moved all zero t (omega arith)

pub tryable_left : (rules : List Supplement) (marks : List Bool) (old new : List Candidate) (t : Candidate) → IsPermutation old (t ∷ new) → AreTryable rules marks old → AreTryable rules marks new
tryable_left rules marks old new t moved all = All-tail (IsTryable rules marks) t new (All-permutation (IsTryable rules marks) old (t ∷ new) moved all)

-- ---- the order of the worklist
before_both : (t u v : Candidate) → ComesBefore t u → ComesBefore u v → ComesBefore t v
before_both t u v (inl a) (inl b) = inl (omega (arith, a, b))
before_both t u v (inl a) (inr b) = inl (omega (arith, a, b.0))
before_both t u v (inr a) (inl b) = inl (omega (arith, a.0, b))
before_both t u v (inr a) (inr b) = inr (a.0 ∙ b.0, omega (arith, a.1, b.1))

pub all_before : (t u : Candidate) (us : List Candidate) → ComesBefore t u → All (ComesBefore u) us → All (ComesBefore t) us
all_before t u us first all = All-weaker (ComesBefore u) (ComesBefore t) (λ v after. before_both t u v first after) us all

pub rises_behind : (t : Candidate) (ts : List Candidate) → Rises (t ∷ ts) → Rises ts
rises_behind t ts rises k d below = rises (suc k) d (omega (arith, below))

pub first_of_all : (t : Candidate) (ts : List Candidate) → Rises (t ∷ ts) → All (ComesBefore t) ts
first_of_all t [] rises = All-nil (ComesBefore t)
first_of_all t (u ∷ us) rises =
    let next : ComesBefore t u = rises zero t (omega arith) in
    All-cons (ComesBefore t) u us next (all_before t u us next (first_of_all u us (rises_behind t (u ∷ us) rises)))

pub push_behind : (standing : List Candidate) (t : Candidate) (xs ys : List Candidate) → IsPermutation (t ∷ xs) ys → IsPermutation (t ∷ (standing ++ xs)) (standing ++ ys)
push_behind standing t xs ys moved =
    IsPermutation-trans (t ∷ (standing ++ xs)) (standing ++ t ∷ xs) (standing ++ ys)
    (IsPermutation-sym (standing ++ t ∷ xs) (t ∷ (standing ++ xs)) (IsPermutation-middle standing t xs))
    (IsPermutation-append_right standing (t ∷ xs) ys moved)

pub pop_behind : (standing : List Candidate) (t : Candidate) (xs ys : List Candidate) → IsPermutation xs (t ∷ ys) → IsPermutation (standing ++ xs) (t ∷ (standing ++ ys))
pop_behind standing t xs ys moved =
    IsPermutation-trans (standing ++ xs) (standing ++ t ∷ ys) (t ∷ (standing ++ ys)) (IsPermutation-append_right standing xs (t ∷ ys) moved) (IsPermutation-middle standing t ys)

-- ---- the first rule of a heap, and a rule beside it
-- the first of the heap comes before all of it, and the rule before that one or at its place
pub none_before : (x : Reverse Candidate) (items : List (Reverse Candidate)) (t : Candidate) → is_lt (ordering_then (nat_cmp x.0.rank t.rank) (nat_cmp x.0.rule t.rule)) ≡ false
    → IsUpperBound reversed x items → All (ComesBefore t) (candidates_in items)
none_before x items t not_less greatest = all_before t x.0 (candidates_in items) (comes_before t x.0 not_less) (all_come_after x items greatest)

pub none_in : (t : Candidate) (items : List (Reverse Candidate)) → length items ≤ 0 → All (ComesBefore t) (candidates_in items)
none_in t [] none = All-nil (ComesBefore t)
none_in t (x ∷ xs) none = absurd (omega (arith, none))

-- what comes before all of the heap comes before a rule that its first comes before
pub first_before : (x : Reverse Candidate) (items : List (Reverse Candidate)) (t u : Candidate) → 0 < length items → x ≡ get_or items 0 x
    → is_lt (ordering_then (nat_cmp x.0.rank t.rank) (nat_cmp x.0.rule t.rule)) ≡ true → All (ComesBefore u) (candidates_in items) → ComesBefore u t
first_before x [] t u some is less all = absurd (omega (arith, some))
first_before x (y ∷ ys) t u some is less all =
    before_both u x.0 t (subst (λ (r : Reverse Candidate). ComesBefore u r.0) (sym is) (all zero y.0 (omega arith))) (comes_strictly x.0 t less)

-- ---- taking a rule out of the heap
pub moved_pushed : (standing xs ys old : List Candidate) (r : Option Candidate) → standing ++ xs ≡ old → IfSome r (λ t. IsPermutation xs (t ∷ ys))
    → IfSome r (λ t. IsPermutation old (t ∷ (standing ++ ys)))
moved_pushed standing xs ys old r is moved =
    IfSome_then r moved (λ t h. subst (λ (l : List Candidate). IsPermutation l (t ∷ (standing ++ ys))) is (pop_behind standing t xs ys h))

-- where none stands, the first of the heap is the first of all
pub first_alone : (standing ys : List Candidate) (r : Option Candidate) → length standing ≡ 0 → IfSome r (λ t. All (ComesBefore t) ys) → IfSome r (λ t. All (ComesBefore t) (standing ++ ys))
first_alone [] ys r none first = first
first_alone (s ∷ ss) ys r none first = absurd (omega (arith, none))

pub none_alone : (standing xs old : List Candidate) (r : Option Candidate) → standing ++ xs ≡ old → length standing ≡ 0 → IfNone r (xs ≡ []) → IfNone r (old ≡ [])
none_alone [] xs old None is none empty = sym is ∙ empty
none_alone [] xs old (Some t) is none empty = empty
none_alone (s ∷ ss) xs old r is none empty = absurd (omega (arith, none))

-- where the first of the heap comes before the first standing rule, it comes before all
pub first_pushed : (first : Candidate) (standing rest xs ys : List Candidate) (r : Option Candidate) → standing ≡ first ∷ rest → Rises standing
    → ((u : Candidate) → All (ComesBefore u) xs → ComesBefore u first) → IfSome r (λ t. All (ComesBefore t) xs) → IfSome r (λ t. All (ComesBefore t) ys)
    → IfSome r (λ t. All (ComesBefore t) (standing ++ ys))
first_pushed first standing rest xs ys None is rises before_first least after = after
first_pushed first standing rest xs ys (Some t) is rises before_first least after =
    subst (λ (l : List Candidate). All (ComesBefore t) (l ++ ys)) (sym is)
    (let next : ComesBefore t first = before_first t least in
    All-append (ComesBefore t) (first ∷ rest) ys
    (All-cons (ComesBefore t) first rest next (all_before t first rest next (first_of_all first rest (subst Rises is rises)))) after)

pub none_pushed : (xs old : List Candidate) (r : Option Candidate) → 0 < length xs → IfNone r (xs ≡ []) → IfNone r (old ≡ [])
none_pushed xs old None some empty = absurd (omega (arith, some, ap length empty))
none_pushed xs old (Some t) some empty = empty

-- ---- taking the first standing rule out
pub moved_standing : (first : Candidate) (standing rest xs old : List Candidate) → standing ≡ first ∷ rest → standing ++ xs ≡ old → IsPermutation old (first ∷ (rest ++ xs))
moved_standing first standing rest xs old is all =
    subst (λ (l : List Candidate). IsPermutation l (first ∷ (rest ++ xs))) (ap (λ (l : List Candidate). l ++ xs) (sym is) ∙ all) (IsPermutation-refl (first ∷ (rest ++ xs)))

pub first_standing : (first : Candidate) (standing rest xs : List Candidate) → standing ≡ first ∷ rest → Rises standing → All (ComesBefore first) xs → All (ComesBefore first) (rest ++ xs)
first_standing first standing rest xs is rises after = All-append (ComesBefore first) rest xs (first_of_all first rest (subst Rises is rises)) after

pub rest_rises : (first : Candidate) (standing rest : List Candidate) → standing ≡ first ∷ rest → Rises standing → Rises rest
rest_rises first standing rest is rises = rises_behind first rest (subst Rises is rises)

pub rises_sorted : (ts : List Candidate) → IsSorted (λ x y. ordering_then (nat_cmp x.rank y.rank) (nat_cmp x.rule y.rule)) ts → Rises ts
rises_sorted ts sorted k d below =
    let next : k + 1 ≡ suc k = omega arith in
    comes_before (get_or ts k d) (get_or ts (suc k) d)
    (subst (λ j. is_lt (ordering_then (nat_cmp (get_or ts j d).rank (get_or ts k d).rank) (nat_cmp (get_or ts j d).rule (get_or ts k d).rule)) ≡ false) next
    (sorted k d (omega arith) (omega (arith, below))))

-- ---- the rules to try
pub standing_candidates : (rules : List Supplement) (standing : List Candidate) → AreStanding rules standing → AreCandidates rules standing
standing_candidates rules standing stand =
    All-weaker (IsHolding rules []) (λ t. (s : Supplement) × (slice_get rules t.rule ≡ Some s) × (t.rank ≡ s.rank)) (λ t h. (h.0, h.1, h.2)) standing stand.holding

pub holds_start : (rules : List Supplement) (lists : OccurrenceLists) (day : ℕ) (x : List Bool) (standing : List Candidate) (marks : List Bool) → AreStanding rules standing
    → length marks ≡ length rules → HoldsUpTo 0 rules lists day x standing standing marks
holds_start rules lists day x standing marks stand same = record {
  candidates = standing_candidates rules standing stand;
  keeps = λ t among. among;
  listed = λ c below chosen. absurd (omega (arith, below));
  tryable = All-weaker (IsHolding rules []) (IsTryable rules marks) (λ t h. inr h) standing stand.holding;
  same_rules = same;
  marked = λ c below chosen. absurd (omega (arith, below));
}

-- what adding the rules of a code left
pub record AddedOf (rules : List Supplement) (lists : OccurrenceLists) (day : ℕ) (x : List Bool) (code : ℕ) (old new : List Candidate) (old_marks marks : List Bool) : Type 0 where
  pub candidates : AreCandidates rules new
  pub keeps : (t : Candidate) → Contains old t → Contains new t
  pub added : HoldsListed rules lists day x code new
  pub tryable : AreTryable rules marks new
  pub marked : Marks lists code old_marks marks

pub listed_here : (n : ℕ) (rules : List Supplement) (lists : OccurrenceLists) (day : ℕ) (x : List Bool) (standing old new : List Candidate) (old_marks marks : List Bool)
    → AddedOf rules lists day x n old new old_marks marks → HoldsUpTo n rules lists day x standing old old_marks → HoldsUpTo (n + 1) rules lists day x standing new marks
listed_here n rules lists day x standing old new old_marks marks now up = record {
  candidates = now.candidates;
  keeps = λ t among. now.keeps t (up.keeps t among);
  listed = λ c below chosen p s listed is_rule on.
      elim (cases_eq c n) [
        | inl same ↦ now.added p s (subst (λ k. Lists lists k p) same listed) is_rule on
        | inr other ↦ now.keeps (candidate_of p s) (up.listed c (omega (arith, below)) chosen p s listed is_rule on)
      ];
  tryable = now.tryable;
  same_rules = now.marked.same_rules ∙ up.same_rules;
  marked = λ c below chosen p listed.
      elim (cases_eq c n) [
        | inl same ↦ now.marked.listed p (subst (λ k. Lists lists k p) same listed)
        | inr other ↦ now.marked.keeps p (up.marked c (omega (arith, below)) chosen p listed)
      ];
}

pub absent_here : (n : ℕ) (rules : List Supplement) (lists : OccurrenceLists) (day : ℕ) (x : List Bool) (standing old : List Candidate) (marks : List Bool) → has x n ≡ false
    → HoldsUpTo n rules lists day x standing old marks → HoldsUpTo (n + 1) rules lists day x standing old marks
absent_here n rules lists day x standing old marks absent up = record {
  candidates = up.candidates;
  keeps = up.keeps;
  listed = λ c below chosen.
      elim (cases_eq c n) [
        | inl same ↦ absurd (false≢true (sym absent ∙ ap (has x) (sym same) ∙ chosen))
        | inr other ↦ up.listed c (omega (arith, below)) chosen
      ];
  tryable = up.tryable;
  same_rules = up.same_rules;
  marked = λ c below chosen.
      elim (cases_eq c n) [
        | inl same ↦ absurd (false≢true (sym absent ∙ ap (has x) (sym same) ∙ chosen))
        | inr other ↦ up.marked c (omega (arith, below)) chosen
      ];
}

pub standing_sorted : (n : ℕ) (rules : List Supplement) (none : List Bool) (found sorted : List Candidate) → none ≡ none_of n → AreHolding rules none found → HasHolding rules none found
    → IsPermutation found sorted → IsSorted (λ x y. ordering_then (nat_cmp x.rank y.rank) (nat_cmp x.rule y.rule)) sorted → AreStanding rules sorted
standing_sorted n rules none found sorted is holding complete moved rises = record {
  holding = All-weaker (IsHolding rules none) (IsHolding rules []) (λ t h. (h.0, h.1, h.2, sym (holds-none n h.0.rule) ∙ ap (holds h.0.rule) (sym is) ∙ h.3)) sorted
      (All-permutation (IsHolding rules none) found sorted moved holding);
  complete = λ p s is_rule on. Contains-permutation found sorted (candidate_of p s) moved (complete p s is_rule (ap (holds s.rule) is ∙ holds-none n s.rule ∙ on));
  rises = rises_sorted sorted rises;
}
