-- Where nothing is told of a run, each order comes to the same by both books on all its days.
use Rattle.std.proofs.Common.{◌≡◌, ℕ, ◌+◌, Bool, true, false, not, ◌&&◌, ◌==◌, cond, List, [], ◌∷◌, length, map, refl, sym, ap, subst, ◌∙◌, arith}
use Rattle.std.specs.Prelude.{IsTrue, count_by}
use Rattle.std.specs.List.{AllByRecursion, IsDistinct}
use Rattle.std.proofs.lemmas.Bool.{and_parts, false≢true}
use Rattle.pb_base.specs.NamedSet.{named}
use Rattle.pb_base.specs.Names.{same_name}
use Rattle.book_model.specs.Activity.{is_within}
use Rattle.book_model.specs.Contents.{Contents}
use Rattle.book_model.specs.Good.{is_closed, is_constructible, is_good}
use Rattle.book_model.specs.Slices.{days_from_to, AreAlike, IsSteady}
use Rattle.book_model.specs.declared.record.Slice.{Slice}
use Rattle.book_model.specs.declared.record.Supplement.{Supplement}
use Rattle.book_model.proofs.DaysAlike.{IsAlike, records_alike}
use Rattle.release.specs.Accepting.{accepts}
use Rattle.release.specs.Orders.{IsWellFormed, can_be_built, supplemented}
use Rattle.chosen_parts.specs.Chosen.{HaveSameParts}
use Rattle.lost_cars.specs.Losses.{IsCar, KeepsCars}
use Rattle.firing_sequence.specs.Sequence.{firing_order, order_from, put_by_rank, same_at, same_sequences, zip_all}
use Rattle.book_changes.specs.Changes.{HaveSameOn, IsRun}
use Rattle.book_changes.specs.Days.{IsJointRun}
use Rattle.book_changes.specs.declared.run.RunNotes.{RunNotes}
use Rattle.change_laws.specs.Laws.{ChangesNothing, ComesAlike, OrdersComeAlike}
use Rattle.change_laws.proofs.CompletionLaws.{CompletesAlike, completes_alike}

-- the firing order is one on all days of a run
order_alike : (rules : List Supplement) (d e i : ℕ) (ss : List Supplement) (order : List ℕ) → AllByRecursion (IsAlike d e) (map (λ s. days_from_to s.from s.until) ss)
    → order_from rules d i ss order ≡ order_from rules e i ss order
order_alike rules d e i [] order h = refl
order_alike rules d e i (s ∷ ss) order h =
    ap (λ t. cond t (order_from rules d (i + 1) ss (put_by_rank rules i order)) (order_from rules d (i + 1) ss order)) h.0
    ∙ ap (λ (o : List ℕ). cond (is_within s.from s.until e) o (order_from rules d (i + 1) ss order)) (order_alike rules d e (i + 1) ss (put_by_rank rules i order) h.1)
    ∙ ap (λ (o : List ℕ). cond (is_within s.from s.until e) (order_from rules e (i + 1) ss (put_by_rank rules i order)) o) (order_alike rules d e (i + 1) ss order h.1)

firing_alike : (b : Contents) (d e : ℕ) → AreAlike b d e → firing_order b d ≡ firing_order b e
firing_alike b d e alike = order_alike b.supplements d e 0 b.supplements [] (records_alike b d e alike).supplements

same_on_run : (first second : Contents) (r : Slice) (day : ℕ) → IsSteady first r → IsSteady second r → IsTrue (is_within r.first r.last day) → same_sequences first second r.first ≡ true
    → same_sequences first second day ≡ true
same_on_run first second r day steady others within same =
    ap (λ (o : List ℕ). zip_all (same_at first second) o (firing_order second day)) (firing_alike first day r.first (steady day within))
    ∙ ap (λ (o : List ℕ). zip_all (same_at first second) (firing_order first r.first) o) (firing_alike second day r.first (others day within)) ∙ same

same_if : (s t : Bool) → (s ≡ true → t ≡ true) → (t ≡ true → s ≡ true) → s ≡ t
same_if true t there back = sym (there refl)
same_if false true there back = back refl
same_if false false there back = refl

-- what released books say of their orders
pub record Builds (b : Contents) : Type 0 where
  pub accepts_are : (day : ℕ) (names : List (List ℕ)) → IsWellFormed b day names → accepts b day names ≡ can_be_built b day names
  pub good : (day : ℕ) (names : List (List ℕ)) → IsWellFormed b day names → can_be_built b day names ≡ true → is_good b day (supplemented b day names) ≡ true
  pub apart : IsDistinct same_name b.codes

good_builds : (b : Contents) (day : ℕ) (x : List Bool) → is_good b day x ≡ true → is_constructible b day x ≡ true
good_builds b day x good = (and_parts (is_closed b day x) (is_constructible b day x) (and_parts (is_closed b day x && is_constructible b day x) (length x == length b.codes) good).0).1

module _ (first second : Contents) (day : ℕ) (own : Builds first) (other : Builds second) (same : same_sequences first second day ≡ true) (keeps : KeepsCars first second day) (wins : KeepsCars second first day)
    (parts : HaveSameOn first second day) (names : List (List ℕ)) (formed : IsWellFormed first day names) (other_formed : IsWellFormed second day names) where
  abbrev both : CompletesAlike first second day names
  both = completes_alike first second day own.apart other.apart same (count_by not (named first.codes names)) names (omega arith) (formed.distinct, formed.known, other_formed.known)

  car_of_first : can_be_built first day names ≡ true → IsCar first day both.completed
  car_of_first built = record { distinct = both.distinct; named_there = both.in_first; good = sym (ap (is_good first day) both.by_first) ∙ own.good day names formed built }

  car_of_second : can_be_built second day names ≡ true → IsCar second day both.completed
  car_of_second built = record { distinct = both.distinct; named_there = both.in_second; good = sym (ap (is_good second day) both.by_second) ∙ other.good day names other_formed built }

  there : can_be_built first day names ≡ true → can_be_built second day names ≡ true
  there built = good_builds second day (supplemented second day names) (ap (is_good second day) both.by_second ∙ (keeps both.completed (car_of_first built)).good)

  back : can_be_built second day names ≡ true → can_be_built first day names ≡ true
  back built = good_builds first day (supplemented first day names) (ap (is_good first day) both.by_first ∙ (wins both.completed (car_of_second built)).good)

  pub comes_alike : ComesAlike first second day names
  comes_alike = record {
    completed = both.completed;
    distinct = both.distinct;
    in_first = both.in_first;
    in_second = both.in_second;
    by_first = both.by_first;
    by_second = both.by_second;
    accepted = own.accepts_are day names formed ∙ same_if (can_be_built first day names) (can_be_built second day names) there back ∙ sym (other.accepts_are day names other_formed);
    parts = λ accepted.
        subst (λ (x : List Bool). HaveSameParts first second day x (supplemented second day names)) (sym both.by_first)
        (subst (λ (y : List Bool). HaveSameParts first second day (named first.codes both.completed) y) (sym both.by_second)
        (parts both.completed (car_of_first (sym (own.accepts_are day names formed) ∙ accepted))));
  }

not_added : (added same : Bool) → added ≡ not same → added ≡ false → same ≡ true
not_added added true is none = refl
not_added added false is none = absurd (false≢true (sym none ∙ is))

pub orders_alike : (first second : Contents) (budget : ℕ) (r : Slice) (notes : RunNotes) (day : ℕ) → Builds first → Builds second → IsJointRun first second r → IsRun first second budget r notes
    → ChangesNothing notes → IsTrue (is_within r.first r.last day) → OrdersComeAlike first second day
orders_alike first second budget r notes day own other run told none within = λ names formed other_formed.
    comes_alike first second day own other
    (same_on_run first second r day run.one.steady run.other.steady within (not_added notes.added (same_sequences first second r.first) told.added none.adds_alike))
    (told.keeps none.loses_none day within) (told.wins_none none.wins_none day within) (told.same_parts none.loses_none none.none_differ day within)
    names formed other_formed
