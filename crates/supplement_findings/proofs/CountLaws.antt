-- What the tallies of slices come to when all questions are counted.
use Rattle.std.proofs.Common.{◌≡◌, ℕ, zero, suc, ◌+◌, ◌*◌, ◌≤◌, ◌<◌, ◌^◌, Bool, true, false, not, inl, inr, ltb, cond, List, [], ◌∷◌, ◌++◌, Option, Some, length, map, drop, get_or, get_or-drop, length-drop, drop-cons, refl, sym, ap, subst, ◌∙◌, arith}
use Rattle.std.specs.Prelude.{All}
use Rattle.std.specs.List.{filter, AllByRecursion}
use Rattle.std.proofs.lemmas.Bool.{cases_Bool, cond-true, cond-false, cond_both}
use Rattle.std.proofs.lemmas.List.{drop_all, length-append}
use Rattle.std.proofs.lemmas.List.Elements.{All-from_recursion, recursion_from_All, filter-append}
use Rattle.std.proofs.lemmas.List.Filters.{length-filter_both}
use Rattle.book_model.specs.Contents.{Contents}
use Rattle.book_model.specs.declared.record.Slice.{Slice}
use Rattle.book_model.specs.declared.record.Supplement.{Supplement}
use Rattle.book_model.specs.declared.slicing.LimitFault.TheVariants.{Questions}
use Rattle.pb_base.specs.declared.limits.TheConstants.{MOST_QUESTIONS}
use Rattle.supplement_findings.specs.Counting.{count_in, more, counted, total, pairs_at, over}
use Rattle.supplement_findings.specs.Limits.{asked_of, first_over}
use Rattle.supplement_findings.specs.Questions.{no_rule, rule_at, is_put, is_asked, breaks_from, swaps_with_later, swaps_from, all_questions, questions, QuestionFits}
use Rattle.supplement_findings.specs.declared.counting.Tally.{Tally}
use Rattle.supplement_findings.specs.declared.question.SupplementQuestion.{SupplementQuestion}
use Rattle.supplement_findings.specs.declared.question.SupplementQuestion.TheVariants.{Breaks, Swaps}
use Rattle.supplement_findings.proofs.QuestionLaws.{breaks_fit, pairs_fit}

pub over_total : (k : ℕ) (b : Contents) (ss : List Slice) (ts : List Tally) → ts ≡ map (total b) ss → over k ts ≡ first_over k b ss
over_total k b ss ts is = ap (over k) is ∙ over_map k b ss
  where
    over_map : (k : ℕ) (b : Contents) (ss : List Slice) → over k (map (total b) ss) ≡ first_over k b ss
    over_map k b [] = refl
    over_map k b (s ∷ ss) = ap (λ rest. cond (ltb MOST_QUESTIONS (asked_of b s)) (Some (Questions k (asked_of b s))) rest) (over_map (suc k) b ss)

-- what is counted of two lists of questions
count_append : (b : Contents) (day : ℕ) (xs ys : List SupplementQuestion) → count_in b day (xs ++ ys) ≡ count_in b day xs + count_in b day ys
count_append b day xs ys = ap length (filter-append (is_put b day) xs ys) ∙ length-append (filter (is_put b day) xs) (filter (is_put b day) ys)

same_tally : (t : Tally) (first count : ℕ) → t.first ≡ first → t.count ≡ count → t ≡ record { first = first; count = count }
same_tally t first count f c = subst (λ (k : ℕ). t ≡ record { first = k; count = count }) f (subst (λ (n : ℕ). t ≡ record { first = t.first; count = n }) c refl)

more_one : (b : Contents) (xs ys : List SupplementQuestion) (t : Tally) → more b ys (more b xs t) ≡ more b (xs ++ ys) t
more_one b xs ys t =
    let both = count_append b t.first xs ys in
    same_tally (more b ys (more b xs t)) t.first (t.count + count_in b t.first (xs ++ ys)) refl (omega (arith, both))

pub more_more : (b : Contents) (xs ys : List SupplementQuestion) (ts : List Tally) → map (more b ys) (map (more b xs) ts) ≡ map (more b (xs ++ ys)) ts
more_more b xs ys [] = refl
more_more b xs ys (t ∷ ts) = rw (more_one b xs ys t, more_more b xs ys ts) refl

none_more : (b : Contents) (ts : List Tally) → map (more b []) ts ≡ ts
none_more b [] = refl
none_more b (t ∷ ts) = ap (λ u. u ∷ map (more b []) ts) (let e : t.count + 0 ≡ t.count = omega arith in sym (same_tally t t.first (t.count + 0) refl (sym e))) ∙ ap (λ us. t ∷ us) (none_more b ts)

total_one : (b : Contents) (s : Slice) → more b (swaps_from 0 b.supplements) (counted b (breaks_from 0 b.supplements) s) ≡ total b s
total_one b s = same_tally (more b (swaps_from 0 b.supplements) (counted b (breaks_from 0 b.supplements) s)) s.first (asked_of b s) refl (sym (count_append b s.first (breaks_from 0 b.supplements) (swaps_from 0 b.supplements)))

total_each : (b : Contents) (ss : List Slice) → map (more b (swaps_from 0 b.supplements)) (map (counted b (breaks_from 0 b.supplements)) ss) ≡ map (total b) ss
total_each b [] = refl
total_each b (s ∷ ss) = ap (λ u. u ∷ map (more b (swaps_from 0 b.supplements)) (map (counted b (breaks_from 0 b.supplements)) ss)) (total_one b s) ∙ ap (λ us. total b s ∷ us) (total_each b ss)

-- how many may be counted
filter_few : {X : Type 0} (w : X → Bool) (xs : List X) → length (filter w xs) ≤ length xs
filter_few w xs = let both = length-filter_both w (λ x. not (w x)) (λ _. refl) xs in omega (arith, both)

breaks_long : (i : ℕ) (ss : List Supplement) → length (breaks_from i ss) ≡ length ss
breaks_long i [] = refl
breaks_long i (s ∷ ss) = ap suc (breaks_long (suc i) ss)

later_few : (i : ℕ) (s : Supplement) (k : ℕ) (ts : List Supplement) → length (swaps_with_later i s k ts) ≤ length ts
later_few i s k [] = omega arith
later_few i s k (t ∷ ts) =
    let rest = later_few i s (suc k) ts in
    cond_both (is_asked s t) _ _ (λ (qs : List SupplementQuestion). length qs ≤ suc (length ts)) (λ _. omega (arith, rest)) (λ _. omega (arith, rest))

pairs_short : (b : Contents) (place : ℕ) → length b.supplements ≤ 5000 → length (pairs_at b place) ≤ 5000
pairs_short b place few =
    let own = later_few place (rule_at b place) (suc place) (drop (suc place) b.supplements) in
    let left = length-drop (suc place) b.supplements in
    omega (arith, own, left, few)

few_more : (b : Contents) (qs : List SupplementQuestion) (n m : ℕ) (ts : List Tally) → length qs ≤ m → AllByRecursion (λ t. t.count ≤ n) ts → AllByRecursion (λ t. t.count ≤ n + m) (map (more b qs) ts)
few_more b qs n m [] short few = tt
few_more b qs n m (t ∷ ts) short few =
    let own = filter_few (is_put b t.first) qs in
    let first = few.0 in
    (omega (arith, own, short, first), few_more b qs n m ts short few.1)

few_counted : (b : Contents) (qs : List SupplementQuestion) (m : ℕ) (ss : List Slice) → length qs ≤ m → AllByRecursion (λ t. t.count ≤ m) (map (counted b qs) ss)
few_counted b qs m [] short = tt
few_counted b qs m (s ∷ ss) short = let own = filter_few (is_put b s.first) qs in (omega (arith, own, short), few_counted b qs m ss short)

few_raised : (n m : ℕ) (ts : List Tally) → n ≤ m → AllByRecursion (λ t. t.count ≤ n) ts → AllByRecursion (λ t. t.count ≤ m) ts
few_raised n m [] more_ few = tt
few_raised n m (t ∷ ts) more_ few = let first = few.0 in (omega (arith, first, more_), few_raised n m ts more_ few.1)

-- a loop over the rules: what is counted so far, and what the rules from a place on add
pub IsCounting : Contents → List Slice → ℕ → List Tally → Type 0
IsCounting b slices place ts =
    (map (more b (swaps_from place (drop place b.supplements))) ts ≡ map (total b) slices) × All (λ t. t.count ≤ 5000 * suc place) ts

pub counting_begins : (b : Contents) (slices : List Slice) (ts : List Tally) → length b.supplements ≤ 5000 → ts ≡ map (counted b (breaks_from 0 b.supplements)) slices → IsCounting b slices 0 ts
unfolding IsCounting
counting_begins b slices ts few is =
    let long = breaks_long 0 b.supplements in
    let all = few_counted b (breaks_from 0 b.supplements) 5000 slices (omega (arith, long, few)) in (
      ap (map (more b (swaps_from 0 b.supplements))) is ∙ total_each b slices,
      subst (All (λ t. t.count ≤ 5000)) (sym is) (All-from_recursion (λ t. t.count ≤ 5000) (map (counted b (breaks_from 0 b.supplements)) slices) all),
    )

pub counting_goes_on : (b : Contents) (slices : List Slice) (place : ℕ) (old new : List Tally) (row : List SupplementQuestion) → length b.supplements ≤ 5000 → place < length b.supplements
    → IsCounting b slices place old → row ≡ pairs_at b place → new ≡ map (more b row) old → IsCounting b slices (place + 1) new
unfolding IsCounting
counting_goes_on b slices place old new row few within so pairs made =
    let is : new ≡ map (more b (pairs_at b place)) old = made ∙ ap (λ qs. map (more b qs) old) pairs in
    let rest = swaps_from (suc place) (drop (suc place) b.supplements) in
    let left : swaps_from place (drop place b.supplements) ≡ pairs_at b place ++ rest = ap (swaps_from place) (drop-cons b.supplements place no_rule within) in
    let counted_ : map (more b rest) new ≡ map (total b) slices =
    ap (map (more b rest)) is ∙ more_more b (pairs_at b place) rest old ∙ ap (λ qs. map (more b qs) old) (sym left) ∙ so.0 in
    let all = few_more b (pairs_at b place) (5000 * suc place) 5000 old (pairs_short b place few) (recursion_from_All (λ t. t.count ≤ 5000 * suc place) old so.1) in
    let raised = few_raised (5000 * suc place + 5000) (5000 * suc (suc place)) (map (more b (pairs_at b place)) old) (omega arith) all in
    let next : suc place ≡ place + 1 = omega arith in
    subst (λ (k : ℕ). IsCounting b slices k new) next
    (counted_, subst (All (λ t. t.count ≤ 5000 * suc (suc place))) (sym is) (All-from_recursion (λ t. t.count ≤ 5000 * suc (suc place)) (map (more b (pairs_at b place)) old) raised))

few_within : (n m : ℕ) (ts : List Tally) → n + m < 2 ^ 64 → AllByRecursion (λ t. t.count ≤ n) ts → AllByRecursion (λ t. t.count + m < 2 ^ 64) ts
few_within n m [] low few = tt
few_within n m (t ∷ ts) low few = let first = few.0 in (omega (arith, first, low), few_within n m ts low few.1)

pub counting_within : (b : Contents) (slices : List Slice) (place : ℕ) (ts : List Tally) (row : List SupplementQuestion) → length b.supplements ≤ 5000 → place < length b.supplements
    → IsCounting b slices place ts → row ≡ pairs_at b place → All (λ t. t.count + length row < 2 ^ 64) ts
unfolding IsCounting
counting_within b slices place ts row few within so is =
    let short : length row ≤ 5000 = subst (λ (qs : List SupplementQuestion). length qs ≤ 5000) (sym is) (pairs_short b place few) in
    All-from_recursion (λ t. t.count + length row < 2 ^ 64) ts
    (few_within (5000 * suc place) (length row) ts (omega (arith, short, few, within)) (recursion_from_All (λ t. t.count ≤ 5000 * suc place) ts so.1))

pub counting_ends : (b : Contents) (slices : List Slice) (place : ℕ) (ts : List Tally) → length b.supplements ≤ place → IsCounting b slices place ts → ts ≡ map (total b) slices
unfolding IsCounting
counting_ends b slices place ts over_ so =
    let none : swaps_from place (drop place b.supplements) ≡ [] = ap (swaps_from place) (drop_all place b.supplements over_) in
    sym (none_more b ts) ∙ ap (λ qs. map (more b qs) ts) (sym none) ∙ so.0

-- what is counted names rules of the book
pub breaks_fit_all : (b : Contents) → All (QuestionFits b) (breaks_from 0 b.supplements)
breaks_fit_all b = All-from_recursion (QuestionFits b) (breaks_from 0 b.supplements) (breaks_fit b 0 b.supplements (omega arith))

pub pairs_fit_all : (b : Contents) (place : ℕ) → place < length b.supplements → All (QuestionFits b) (pairs_at b place)
pairs_fit_all b place within = All-from_recursion (QuestionFits b) (pairs_at b place) (pairs_fit b place within)
