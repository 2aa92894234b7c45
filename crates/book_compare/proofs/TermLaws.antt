-- A day of the terms of both books.
use Rattle.std.proofs.Common.{◌≡◌, ℕ, Bool, true, false, nat_le, Some, None, refl}
use Rattle.std.specs.Prelude.{if◌then◌else◌}
use Rattle.std.proofs.lemmas.Bool.{and_parts, leb-true}
use Rattle.book_model.specs.Activity.{is_within}
use Rattle.book_model.specs.Book.{IsBook}
use Rattle.book_model.specs.Contents.{Contents}
use Rattle.book_model.specs.Sound.{IsReleasable}
use Rattle.book_compare.specs.Comparison.{outside}
use Rattle.book_compare.specs.Comparing.{IsOfTerm, AreBooks}
use Rattle.book_compare.specs.declared.note.Outside.TheVariants.{First, Second}

of_term : (b : Contents) (day : ℕ) → IsBook b → IsReleasable b → is_within b.first b.last day ≡ true → IsOfTerm b day
of_term b day book releasable within =
    let parts = and_parts (nat_le b.first day) (nat_le day b.last) within in
    record { book = book; releasable = releasable; first = leb-true b.first day parts.0; last = leb-true day b.last parts.1 }

both_terms : (one other : Bool) → (if one then (if other then None else Some Second) else Some First) ≡ None → (one ≡ true) × (other ≡ true)
both_terms true true none = (refl, refl)
both_terms true false none = cc
both_terms false other none = cc

pub are_books : (first second : Contents) (day : ℕ) → IsBook first → IsBook second → IsReleasable first → IsReleasable second → outside first second day ≡ None → AreBooks first second day
are_books first second day book other released others none =
    let both = both_terms (is_within first.first first.last day) (is_within second.first second.last day) none in
    record { one = of_term first day book released both.0; other = of_term second day other others both.1 }
