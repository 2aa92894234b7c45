-- Two reports of what changes in which no search was left tell the same, but for the cars.
use Rattle.std.proofs.Common.{◌≡◌, ℕ, suc, ◌+◌, Bool, true, false, ◌&&◌, ◌||◌, cond, List, [], ◌∷◌, ◌++◌, Result, Ok, Err, map, refl, sym, ap, ap₂, subst, ◌∙◌}
use Rattle.std.specs.List.{AllZip, list_any}
use Rattle.std.proofs.lemmas.Bool.{or_parts}
use Rattle.book_model.specs.Contents.{Contents}
use Rattle.book_model.specs.declared.record.Slice.{Slice}
use Rattle.chosen_parts.specs.Chosen.{ids_of_either}
use Rattle.firing_sequence.specs.Sequence.{zip_all}
use Rattle.lost_cars.specs.Losses.{IsLossNoted, questions}
use Rattle.lost_cars.specs.declared.note.LossNote.{LossNote}
use Rattle.lost_cars.specs.declared.note.LossNote.TheVariants as loss
use Rattle.shared_work.proofs.JoinLaws.{zip-append}
use Rattle.shared_work.proofs.SameLaws.{parts_same}
use Rattle.book_changes.specs.Alike.{same_common, same_differ, same_flag, same_lines, same_loss, told_before}
use Rattle.book_changes.specs.Changes.{IsChanges, IsRun}
use Rattle.book_changes.specs.ChangesText.{differences_in, findings_in, is_changed, is_difference, is_left_common, is_left_difference, is_left_loss, is_loss, is_nowhere, is_undecided, losses_in, one_if, told_behind}
use Rattle.book_changes.specs.Days.{joint_runs}
use Rattle.book_changes.specs.Differs.{IsDifferNoted}
use Rattle.book_changes.specs.declared.run.DifferNote.{DifferNote}
use Rattle.book_changes.specs.declared.run.DifferNote.TheVariants as differ
use Rattle.book_changes.specs.declared.run.RunNotes.{RunNotes}
use Rattle.change_laws.specs.Reports.{AreDecided, IsSameRun, TellSame, bare_differ, bare_loss}
use Rattle.change_laws.proofs.SearchLaws.{common_same, differs_same, losses_same}

-- one run
module _ (first second : Contents) (budget other : ℕ) where
  run_same : (days : Slice) (r s : RunNotes) → IsRun first second budget days r → IsRun first second other days s → is_undecided r ≡ false → is_undecided s ≡ false → IsSameRun r s
  run_same days r s h k none also =
      let day = days.first in
      let a = or_parts ((is_left_common r.common || list_any is_left_loss r.lost.items) || list_any is_left_loss r.won.items) (list_any is_left_difference r.differs.items) none in
      let b = or_parts (is_left_common r.common || list_any is_left_loss r.lost.items) (list_any is_left_loss r.won.items) a.0 in
      let c = or_parts (is_left_common r.common) (list_any is_left_loss r.lost.items) b.0 in
      let d = or_parts ((is_left_common s.common || list_any is_left_loss s.lost.items) || list_any is_left_loss s.won.items) (list_any is_left_difference s.differs.items) also in
      let e = or_parts (is_left_common s.common || list_any is_left_loss s.lost.items) (list_any is_left_loss s.won.items) d.0 in
      let f = or_parts (is_left_common s.common) (list_any is_left_loss s.lost.items) e.0 in
      record {
        days = h.days ∙ sym k.days;
        common = common_same first second day budget other r.common s.common h.common k.common c.0 f.0;
        lost =
            parts_same (IsLossNoted first second day budget) (IsLossNoted first second day other) is_left_loss bare_loss (losses_same first second day budget other)
            (questions first second) r.lost.items s.lost.items h.lost k.lost c.1 f.1;
        won =
            parts_same (IsLossNoted second first day budget) (IsLossNoted second first day other) is_left_loss bare_loss (losses_same second first day budget other)
            (questions second first) r.won.items s.won.items h.won k.won b.1 e.1;
        added = h.added ∙ sym k.added;
        differs =
            parts_same (IsDifferNoted first second day budget) (IsDifferNoted first second day other) is_left_difference bare_differ (differs_same first second day budget other)
            (ids_of_either first second) r.differs.items s.differs.items h.differ k.differ a.1 d.1;
      }

  runs_same : (all : List Slice) (one two : List RunNotes) → AllZip (IsRun first second budget) all one → AllZip (IsRun first second other) all two
      → AreDecided one → AreDecided two → AllZip IsSameRun one two
  runs_same [] [] [] h k none also = tt
  runs_same [] [] (s ∷ two) h k none also = absurd k
  runs_same [] (r ∷ one) two h k none also = absurd h
  runs_same (days ∷ all) [] two h k none also = absurd h
  runs_same (days ∷ all) (r ∷ one) [] h k none also = absurd k
  runs_same (days ∷ all) (r ∷ one) (s ∷ two) h k none also =
      let own = or_parts (is_undecided r) (list_any is_undecided one) none in
      let next = or_parts (is_undecided s) (list_any is_undecided two) also in
      (run_same days r s h.0 k.0 own.0 next.0, runs_same all one two h.1 k.1 own.1 next.1)

-- what is counted and compared hangs on no car
loss_any : (xs : List LossNote) → list_any is_loss xs ≡ list_any is_loss (map bare_loss xs)
loss_any [] = refl
loss_any (loss.Lost cause x ∷ xs) = ap (λ (t : Bool). true || t) (loss_any xs)
loss_any (loss.Undecided cause ∷ xs) = ap (λ (t : Bool). false || t) (loss_any xs)

differ_any : (xs : List DifferNote) → list_any is_difference xs ≡ list_any is_difference (map bare_differ xs)
differ_any [] = refl
differ_any (differ.Differs position names has had ∷ xs) = ap (λ (t : Bool). true || t) (differ_any xs)
differ_any (differ.Undecided position ∷ xs) = ap (λ (t : Bool). false || t) (differ_any xs)

loss_count : (xs : List LossNote) → losses_in xs ≡ losses_in (map bare_loss xs)
loss_count [] = refl
loss_count (loss.Lost cause x ∷ xs) = ap suc (loss_count xs)
loss_count (loss.Undecided cause ∷ xs) = loss_count xs

differ_count : (xs : List DifferNote) → differences_in xs ≡ differences_in (map bare_differ xs)
differ_count [] = refl
differ_count (differ.Differs position names has had ∷ xs) = ap suc (differ_count xs)
differ_count (differ.Undecided position ∷ xs) = differ_count xs

loss_pair : (a b : LossNote) → same_loss a b ≡ same_loss (bare_loss a) (bare_loss b)
loss_pair (loss.Lost a x) (loss.Lost b y) = refl
loss_pair (loss.Lost a x) (loss.Undecided b) = refl
loss_pair (loss.Undecided a) (loss.Lost b y) = refl
loss_pair (loss.Undecided a) (loss.Undecided b) = refl

differ_pair : (a b : DifferNote) → same_differ a b ≡ same_differ (bare_differ a) (bare_differ b)
differ_pair (differ.Differs a x p q) (differ.Differs b y v w) = refl
differ_pair (differ.Differs a x p q) (differ.Undecided b) = refl
differ_pair (differ.Undecided a) (differ.Differs b y v w) = refl
differ_pair (differ.Undecided a) (differ.Undecided b) = refl

zip_bare : {N : Type 0} (test : N → N → Bool) (bare : N → N) → ((a b : N) → test a b ≡ test (bare a) (bare b)) → (xs ys : List N)
    → zip_all test xs ys ≡ zip_all test (map bare xs) (map bare ys)
zip_bare test bare same [] [] = refl
zip_bare test bare same [] (y ∷ ys) = refl
zip_bare test bare same (x ∷ xs) [] = refl
zip_bare test bare same (x ∷ xs) (y ∷ ys) = ap₂ (λ (s t : Bool). s && t) (same x y) (zip_bare test bare same xs ys)

zips_same : {N : Type 0} (test : N → N → Bool) (bare : N → N) → ((a b : N) → test a b ≡ test (bare a) (bare b)) → (xs ys vs ws : List N)
    → map bare xs ≡ map bare vs → map bare ys ≡ map bare ws → zip_all test xs ys ≡ zip_all test vs ws
zips_same {N} test bare same xs ys vs ws h k =
    zip_bare test bare same xs ys ∙ ap₂ (λ (ms ns : List N). zip_all test ms ns) h k ∙ sym (zip_bare test bare same vs ws)

lines_same : (r s x y : RunNotes) → IsSameRun r s → IsSameRun x y → same_lines r x ≡ same_lines s y
lines_same r s x y h k =
    let common = ap₂ same_common h.common k.common in
    let lost = zips_same same_loss bare_loss loss_pair r.lost.items x.lost.items s.lost.items y.lost.items h.lost k.lost in
    let won = zips_same same_loss bare_loss loss_pair r.won.items x.won.items s.won.items y.won.items h.won k.won in
    let added = ap₂ same_flag h.added k.added in
    let differs = zips_same same_differ bare_differ differ_pair r.differs.items x.differs.items s.differs.items y.differs.items h.differs k.differs in
    ap₂ (λ (t u : Bool). t && u)
    (ap₂ (λ (t u : Bool). t && u) (ap₂ (λ (t u : Bool). t && u) (ap₂ (λ (t u : Bool). t && u) common lost) won) added) differs

changed_same : (r s : RunNotes) → IsSameRun r s → is_changed r ≡ is_changed s
changed_same r s h =
    let lost = loss_any r.lost.items ∙ ap (list_any is_loss) h.lost ∙ sym (loss_any s.lost.items) in
    let won = loss_any r.won.items ∙ ap (list_any is_loss) h.won ∙ sym (loss_any s.won.items) in
    let differs = differ_any r.differs.items ∙ ap (list_any is_difference) h.differs ∙ sym (differ_any s.differs.items) in
    ap₂ (λ (t u : Bool). t || u)
    (ap₂ (λ (t u : Bool). t || u) (ap₂ (λ (t u : Bool). t || u) (ap₂ (λ (t u : Bool). t || u) (ap is_nowhere h.common) lost) won) h.added) differs

all_changed : (one two : List RunNotes) → AllZip IsSameRun one two → list_any is_changed one ≡ list_any is_changed two
all_changed [] [] h = refl
all_changed [] (s ∷ two) h = absurd h
all_changed (r ∷ one) [] h = absurd h
all_changed (r ∷ one) (s ∷ two) h = ap₂ (λ (t u : Bool). t || u) (changed_same r s h.0) (all_changed one two h.1)

findings_same : (r s : RunNotes) → IsSameRun r s → findings_in r ≡ findings_in s
findings_same r s h =
    let lost = loss_count r.lost.items ∙ ap losses_in h.lost ∙ sym (loss_count s.lost.items) in
    let won = loss_count r.won.items ∙ ap losses_in h.won ∙ sym (loss_count s.won.items) in
    let differs = differ_count r.differs.items ∙ ap differences_in h.differs ∙ sym (differ_count s.differs.items) in
    ap₂ (λ (m n : ℕ). m + n) (ap₂ (λ (m n : ℕ). m + n) (ap₂ (λ (m n : ℕ). m + n) lost won) (ap one_if h.added)) differs

told_same : (r s : RunNotes) (before others : List RunNotes) → IsSameRun r s → AllZip IsSameRun before others → told_before r before ≡ told_before s others
told_same r s [] [] h k = refl
told_same r s [] (y ∷ others) h k = absurd k
told_same r s (x ∷ before) [] h k = absurd k
told_same r s (x ∷ before) (y ∷ others) h k = ap₂ (λ (t u : Bool). t || u) (lines_same r s x y h k.0) (told_same r s before others h k.1)

count_same : (before others one two : List RunNotes) → AllZip IsSameRun before others → AllZip IsSameRun one two → told_behind before one ≡ told_behind others two
count_same before others [] [] k h = refl
count_same before others [] (s ∷ two) k h = absurd h
count_same before others (r ∷ one) [] k h = absurd h
count_same before others (r ∷ one) (s ∷ two) k h =
    ap₂ (λ (m n : ℕ). m + n) (ap₂ (λ (t : Bool) (n : ℕ). cond t 0 n) (told_same r s before others h.0 k) (findings_same r s h.0))
    (count_same (before ++ r ∷ []) (others ++ s ∷ []) one two (zip-append IsSameRun before (r ∷ []) others (s ∷ []) k (h.0, tt)) h.1)

abbrev listed : {E : Type 0} → Result (List Slice) E → List Slice
listed (Ok slices) = slices
listed (Err e) = []

pub same_changes : (first second : Contents) (budget other : ℕ) (one two : List RunNotes) → IsChanges first second budget one → IsChanges first second other two
    → AreDecided one → AreDecided two → TellSame one two
same_changes first second budget other one two h k none also =
    let own : h.first_slices ≡ k.first_slices = sym (ap listed h.of_first) ∙ ap listed k.of_first in
    let next : h.second_slices ≡ k.second_slices = sym (ap listed h.of_second) ∙ ap listed k.of_second in
    let days : joint_runs h.first_slices h.second_slices ≡ joint_runs k.first_slices k.second_slices = ap₂ joint_runs own next in
    let runs : AllZip IsSameRun one two =
    runs_same first second budget other (joint_runs k.first_slices k.second_slices) one two
    (subst (λ (rs : List Slice). AllZip (IsRun first second budget) rs one) days h.each) k.each none also in
    record { runs = runs; changed = all_changed one two runs; count = count_same [] [] one two tt runs }
