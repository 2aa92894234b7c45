-- The clauses of positions say at which of them two books differ, and what is told of the positions makes the notes.
use Rattle.std.proofs.Common.{◌≡◌, ℕ, List, [], ◌∷◌, ◌++◌, map, ap, ◌∙◌, arith}
use Rattle.std.specs.List.{IsDistinct}
use Rattle.pb_base.specs.InParts.{InParts}
use Rattle.pb_base.specs.Names.{same_name}
use Rattle.book_model.specs.Contents.{Contents}
use Rattle.inquiry.specs.Form.{IsLawful}
use Rattle.inquiry.specs.Told.{IsTold}
use Rattle.inquiry.specs.declared.told.Told.{Told}
use Rattle.inquiry.specs.declared.told.Told.TheVariants.{Finding, Undecided}
use Rattle.book_compare.specs.Comparing.{AreBooks}
use Rattle.book_compare.specs.Comparison.{IsNoted, AreNoted}
use Rattle.pb_base.specs.Picked.{picked}
use Rattle.book_compare.specs.Source.{comparison, note_of}
use Rattle.book_compare.specs.declared.place.Place.{Place}
use Rattle.book_compare.proofs.BoundLaws.{joint_variables_fit, searched_below, goal_below, together_few}
use Rattle.std.proofs.lemmas.List.{map-append}
use Rattle.book_compare.proofs.NoteLaws.{differs_with, lifts_other, left_alone}
use Rattle.book_compare.proofs.ShownLaws.{shown_where_differs, differs_where_shown, alike_where_none}
use Rattle.book_compare.proofs.TogetherLaws.{length-searched_goals}

module _ (first second : Contents) (day : ℕ) (books : AreBooks first second day) (apart : IsDistinct same_name first.codes) where
  pub lawful : IsLawful (comparison first second day) (λ p. Unit {0}) (λ x. Unit {0})
  lawful = record {
    below = λ ps posed. searched_below first second day books.one.book books.other.book ps;
    codes_within = λ ps. omega arith;
    goals_counted = λ ps. length-searched_goals first second day ps;
    goals_below = λ ps posed place within. goal_below first second day ps place within;
    lifts = λ ps posed place p there x counted shown.
        let with_ = differs_where_shown first second day p.id x counted apart shown in
        let found = lifts_other first second day books (picked first.codes x) with_.common ps place p there with_.differ in
        record { assignment = found.0; satisfies = found.1; meets_it = found.2 };
    reads = λ ps posed place p there x a counted begins sat assumed.
        shown_where_differs first second day p.id x counted apart (differs_with first second day ps place p x a books apart there begins sat assumed);
    may_show = λ p posed x counted shown. tt;
    added = λ ps posed. omega (arith, together_few first second day books.one.book books.other.book ps);
    shared_few = joint_variables_fit first second day books.one.book books.other.book;
    size_few = λ p posed. omega arith;
  }

  module _ (budget : ℕ) where
    noted : (p : Place) (told : List (Told Place)) → IsTold (comparison first second day) budget p told → IsNoted first second day budget p.id (map (note_of first.codes) told)
    noted p [] none = alike_where_none first second day p.id none
    noted p (Finding q set ∷ []) found = (ap (λ (r : Place). r.id) found.0, differs_where_shown first second day p.id set found.1.0 apart found.1.1)
    noted p (Undecided q learnt ∷ []) left = (ap (λ (r : Place). r.id) left.0, left_alone first second day budget p learnt.clauses left.1)
    noted p (one ∷ other ∷ more) h = absurd h

    pub all_noted : (ps : List Place) (told : List (Told Place)) → InParts (IsTold (comparison first second day) budget) ps told → AreNoted first second day budget ps (map (note_of first.codes) told)
    all_noted [] told none = ap (map (note_of first.codes)) none
    all_noted (p ∷ ps) told parts = (
      map (note_of first.codes) parts.0,
      map (note_of first.codes) parts.1,
      ap (map (note_of first.codes)) parts.2 ∙ map-append (note_of first.codes) parts.0 parts.1,
      noted p parts.0 parts.3,
      all_noted ps parts.1 parts.4,
    )
