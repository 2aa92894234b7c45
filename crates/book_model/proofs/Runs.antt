-- From one change day on to the next.
use Rattle.std.proofs.Common.{◌≡◌, ℕ, suc, ◌+◌, ◌-◌, ◌<◌, ◌≤◌, true, false, cond, Result, Ok, Err, IfOk, nat_le, if◌then◌else◌, subst, arith, List, [], ◌∷◌, ◌++◌, length, get_or, drop, refl, sym, ap, ◌∙◌, append_assoc}
use Rattle.std.specs.List.{filter, range_with_len}
use Rattle.std.proofs.lemmas.Bool.{le-leb, lt-leb}
use Rattle.std.proofs.lemmas.List.{drop_more}
use Rattle.pb_base.specs.declared.limits.TheConstants.{MOST_SLICES}
use Rattle.book_model.specs.Contents.{Contents}
use Rattle.book_model.specs.Slices.{days_from_to, end_before, runs_from, periods_of, changes_at, days_of, change_days, all_slices, within_limit, slices_of}
use Rattle.book_model.specs.declared.record.Slice.{Slice}
use Rattle.book_model.specs.declared.slicing.LimitFault.{LimitFault}
use Rattle.book_model.specs.declared.slicing.LimitFault.TheVariants.{Slices}
use Rattle.pb_base.specs.Answers.{Answers}
use Rattle.pb_base.specs.declared.answer.Fail.{Fail}

pub runs_from-more : (days : List ℕ) (last i day : ℕ) (slices : List Slice) → i < length days → day ≡ get_or days i day
    → (slices ++ days_from_to day (end_before (drop (i + 1) days) last) ∷ []) ++ runs_from (drop (i + 1) days) last ≡ slices ++ runs_from (drop i days) last
runs_from-more days last i day slices within is =
    let next = days_from_to day (end_before (drop (i + 1) days) last) in
    let split : drop i days ≡ day ∷ drop (i + 1) days = drop_more days i day within ∙ ap (λ d. d ∷ drop (i + 1) days) (sym is) in
    append_assoc slices (next ∷ []) (runs_from (drop (i + 1) days) last) ∙ sym (ap (λ ds. slices ++ runs_from ds last) split)

length-runs_from : (days : List ℕ) (last : ℕ) → length (runs_from days last) ≡ length days
length-runs_from [] last = refl
length-runs_from (day ∷ days) last = ap suc (length-runs_from days last)

-- the change days of a book, found from its term and its periods
pub change_days-are : (b : Contents) (first last : ℕ) (periods : List Slice) (days : List ℕ) → first ≡ b.first → last ≡ b.last → periods ≡ periods_of b
    → days ≡ filter (changes_at first periods) (range_with_len first (suc (last - first))) → days ≡ change_days b
change_days-are b first last periods days f l p is =
    is ∙ ap (λ n. filter (changes_at n periods) (range_with_len n (suc (last - n)))) f
    ∙ ap (λ n. filter (changes_at b.first periods) (range_with_len b.first (suc (n - b.first)))) l
    ∙ ap (λ ps. filter (changes_at b.first ps) (days_of b)) p

pub too_many : (days : List ℕ) (last : ℕ) → MOST_SLICES < length days → within_limit (runs_from days last) ≡ Err (Slices (length days))
too_many days last many =
    let runs : List Slice = runs_from days last in
    let n : length runs ≡ length days = length-runs_from days last in
    ap (λ c. cond c (Ok runs) (Err (Slices (length runs)))) (lt-leb (length runs) MOST_SLICES (omega (arith, n))) ∙ ap (λ k. Err (Slices k)) n

pub few_enough : (days : List ℕ) (last : ℕ) (slices : List Slice) → length days ≤ MOST_SLICES → slices ≡ runs_from days last → within_limit (runs_from days last) ≡ Ok slices
few_enough days last slices few is =
    let runs : List Slice = runs_from days last in
    let n : length runs ≡ length days = length-runs_from days last in
    ap (λ c. cond c (Ok runs) (Err (Slices (length runs)))) (le-leb (length runs) MOST_SLICES (omega (arith, n))) ∙ ap (λ s. Ok s) (sym is)

runs_are : (slices given : List Slice) → within_limit slices ≡ Ok given → slices ≡ given
runs_are slices given =
    elim (nat_le (length slices) MOST_SLICES) as (λ c. (if c then Ok slices else Err (Slices (length slices))) ≡ Ok given → slices ≡ given) [
      | true ↦ λ e. cc
      | false ↦ λ e. absurd (cc)
    ]

-- what is true of the slices is true of those that a call gave
pub of_given : (answer : Result (List Slice) (Fail LimitFault)) (slices : List Slice) (P : List Slice → Type 0) → Answers answer (within_limit slices) → P slices → IfOk answer P
of_given (Ok given) slices P told true_of = subst P (runs_are slices given told) true_of
of_given (Err fail) slices P told true_of = tt

-- the runs of the change days are the slices
pub answers_slices : (b : Contents) (answer : Result (List Slice) (Fail LimitFault)) (slices : List Slice) → slices ≡ all_slices b → Answers answer (within_limit slices) → Answers answer (slices_of b)
unfolding slices_of
answers_slices b answer slices is told = subst (λ all. Answers answer (within_limit all)) is told
