-- What is told of rules answers each of them.
use Rattle.std.proofs.Common.{◌≡◌, ℕ, zero, suc, ◌+◌, ◌-◌, ◌<◌, ◌≤◌, Bool, true, false, cond, eqb, List, [], ◌∷◌, ◌++◌, length, take, drop, refl, sym, ap, subst, ◌∙◌, arith, All}
use Rattle.std.specs.List.{AllByRecursion, AllZip, range_with_len}
use Rattle.std.proofs.lemmas.Bool.{cond-true, cond-false, eq-eqb, ne_eqb}
use Rattle.std.proofs.lemmas.List.{take_more, drop-drop}
use Rattle.pb_base.specs.InParts.{InParts}
use Rattle.pb_base.specs.Rule.{Rule, never}
use Rattle.book_model.specs.Contents.{Contents}
use Rattle.book_model.specs.Good.{is_good}
use Rattle.inquiry.specs.Told.{IsKept, IsNote, IsTold}
use Rattle.inquiry.specs.declared.told.Told.{Told}
use Rattle.inquiry.specs.declared.told.Told.TheVariants.{Finding, Undecided}
use Rattle.rules_met.specs.Met.{IsAnswer, IsCounted}
use Rattle.rules_met.specs.Source.{answer_by, answer_for, count, form, rule_at}
use Rattle.rules_met.specs.declared.answer.RuleAnswer.{RuleAnswer}
use Rattle.rules_met.specs.declared.answer.RuleAnswer.TheVariants.{Met, NotMet, Left}

abbrev place_of : Told ℕ → ℕ
place_of (Finding place set) = place
place_of (Undecided place learnt) = place

other_place : (t : Told ℕ) (k : ℕ) → k + 1 ≤ place_of t → answer_by t k ≡ NotMet
other_place (Finding place set) k later = rw (ne_eqb place k (λ (e : place ≡ k). omega (arith, e, later))) refl
other_place (Undecided place learnt) k later = rw (ne_eqb place k (λ (e : place ≡ k). omega (arith, e, later))) refl

-- two lists, and one item more of each
pub zip_push : {A B : Type 0} (R : A → B → Type 0) (xs : List A) (ys : List B) (x : A) (y : B) → AllZip R xs ys → R x y → AllZip R (xs ++ x ∷ []) (ys ++ y ∷ [])
zip_push R [] [] x y h r = (r, tt)
zip_push R [] (b ∷ ys) x y h r = absurd h
zip_push R (a ∷ xs) [] x y h r = absurd h
zip_push R (a ∷ xs) (b ∷ ys) x y h r = (h.0, zip_push R xs ys x y h.1 r)

module _ (b : Contents) (day budget : ℕ) (fs : List Rule) where
  note_place : (k : ℕ) (t : Told ℕ) → IsNote (form b day fs) budget k t → place_of t ≡ k
  note_place k (Finding place set) h = h.0
  note_place k (Undecided place learnt) h = h.0

  -- what is told of rules from a place on is of no earlier one
  first_of_later : (k : ℕ) (t : Told ℕ) (ts own later : List (Told ℕ)) → t ∷ ts ≡ own ++ later → IsTold (form b day fs) budget k own
      → (t ∷ ts ≡ later → k + 1 ≤ place_of t) → k ≤ place_of t
  first_of_later k t ts [] later is told by = omega (arith, by is)
  first_of_later k t ts (o ∷ []) later is told by =
      let same : t ≡ o = cc in
      let at : place_of t ≡ k = ap place_of same ∙ note_place k o told in
      omega (arith, at)
  first_of_later k t ts (o ∷ p ∷ more) later is told by = absurd told

  none_earlier : (m k : ℕ) (t : Told ℕ) (ts : List (Told ℕ)) → InParts (IsTold (form b day fs) budget) (range_with_len k m) (t ∷ ts) → k ≤ place_of t
  none_earlier zero k t ts h = absurd (let count : length (t ∷ ts) ≡ 0 = ap length h in omega (arith, count))
  none_earlier (suc m) k t ts h =
      first_of_later k t ts h.0 h.1 h.2 h.3 (λ is. none_earlier m (k + 1) t ts (rw is h.4))

  -- what is told next answers the rule, and the rest is of those behind it
  abbrev pub Goes : ℕ → ℕ → List (Told ℕ) → RuleAnswer → Type 0
  Goes k m told answer = IsAnswer b day budget (rule_at fs k) answer × InParts (IsTold (form b day fs) budget) (range_with_len (k + 1) m) (drop (count answer) told)

  goes_on : (k m : ℕ) (own later told : List (Told ℕ)) → told ≡ own ++ later → IsTold (form b day fs) budget k own
      → InParts (IsTold (form b day fs) budget) (range_with_len (k + 1) m) later → Goes k m told (answer_for told k)
  goes_on k m [] later [] is none rest = (none, rw is rest)
  goes_on k m [] later (t ∷ ts) is none rest =
      let further : InParts (IsTold (form b day fs) budget) (range_with_len (k + 1) m) (t ∷ ts) = rw is rest in
      rw (other_place t k (none_earlier m (k + 1) t ts further)) (none, further)
  goes_on k m (Finding place set ∷ []) later told is note rest = rw (is, eq-eqb place k note.0) (note.1, rest)
  goes_on k m (Undecided place learnt ∷ []) later told is note rest = rw (is, eq-eqb place k note.0) (record { learnt = learnt.clauses; spent = note.1 }, rest)
  goes_on k m (o ∷ p ∷ more) later told is note rest = absurd note

  pub step : (k : ℕ) (told : List (Told ℕ)) → k < length fs → InParts (IsTold (form b day fs) budget) (range_with_len k (length fs - k)) told
      → Goes k (length fs - (k + 1)) told (answer_for told k)
  step k told low h =
      let more : length fs - k ≡ suc (length fs - (k + 1)) = omega (arith, low) in
      let parts = rw more at h in
      goes_on k (length fs - (k + 1)) parts.0 parts.1 told parts.2 parts.3 parts.4

  pub answered_next : (k : ℕ) (answers : List RuleAnswer) (answer : RuleAnswer) → k < length fs → AllZip (IsAnswer b day budget) (take k fs) answers
      → IsAnswer b day budget (rule_at fs k) answer → AllZip (IsAnswer b day budget) (take (k + 1) fs) (answers ++ answer ∷ [])
  answered_next k answers answer low so_far is =
      rw (take_more fs k never low)
      (zip_push (IsAnswer b day budget) (take k fs) answers (rule_at fs k) answer so_far is)

all_low : (k m n : ℕ) → k + m ≤ n → AllByRecursion (λ (place : ℕ). place < n) (range_with_len k m)
all_low k zero n within = tt
all_low k (suc m) n within = (omega (arith, within), all_low (k + 1) m n (omega (arith, within)))

pub places_low : (n : ℕ) → AllByRecursion (λ (place : ℕ). place < n) (range_with_len 0 n)
places_low n = all_low 0 n n (omega arith)

pub count_few : (answer : RuleAnswer) → count answer ≤ 1
count_few (Met x) = omega arith
count_few NotMet = omega arith
count_few Left = omega arith

-- one place more
pub places_push : (a n j : ℕ) → a + n ≡ j → range_with_len a (n + 1) ≡ range_with_len a n ++ j ∷ []
places_push a zero j is = ap (λ (k : ℕ). k ∷ []) (let e : a ≡ j = omega (arith, is) in e)
places_push a (suc n) j is =
    let next : suc n + 1 ≡ suc (n + 1) = omega arith in
    ap (range_with_len a) next ∙ ap (λ (ks : List ℕ). a ∷ ks) (places_push (a + 1) n j (omega (arith, is)))
