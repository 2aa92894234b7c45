-- The definition on small texts.
use Rattle.std.specs.Prelude.{◌≡◌, Ok, Err, [], refl, codes}
use Rattle.csv.proofs.OnLiterals.{csv_on_literals}
use Rattle.book_model.specs.WorkedBook.{book_t, book_tg}
use Rattle.rule_text.specs.Reading.{rule_of}
use Rattle.book_text.specs.Rows.{rows_of}
use Rattle.book_text.specs.Pass.{pass}
use Rattle.book_text.specs.BookText.{book_of_rows}
use Rattle.book_text.specs.declared.fault.BookKind.TheVariants.{NoBookRecord, UnknownKind, BadName, BadNumber, Duplicate, UnknownName}

empty : book_of_rows (rows_of []) ≡ Err (record { row = 1; kind = NoBookRecord })
unfolding csv_on_literals pass
empty = refl

second_code : book_of_rows (rows_of (codes "book,T,1,9\ncode,A,\ncode,A,")) ≡ Err (record { row = 3; kind = Duplicate })
unfolding csv_on_literals pass
second_code = refl

-- the text of a whole book
whole_book : book_of_rows (rows_of (codes "book,T,1,1000\ncode,M1,engine one\ncode,M2,engine two\ncode,G5,five gears\ncode,G7,seven gears\ncode,AC,air\nconstruct,C1,*,M1/M2,,\nconstruct,C2,M1,-M2,,\nconstruct,C3,*,G5/G7,,\nconstruct,C4,G5,-G7,,\nsupplement,S1,10,G5,M1+-G7,,\nmodule,MOT,motor\nposition,P1,MOT,mandatory,,\nvariant,V1,P1,A100,1,M1,,\nvariant,V2,P1,A200,1,M2,,")) ≡ Ok book_t
unfolding csv_on_literals pass rule_of
whole_book = refl

-- the same with groups in place of rules, which only a book of form 2 may have
whole_book_with_groups : book_of_rows (rows_of (codes "book,T,1,1000,2\ncode,M1,engine one\ncode,M2,engine two\ncode,G5,five gears\ncode,G7,seven gears\ncode,AC,air\ngroup,C1,one,M1/M2,,\ngroup,C3,one,G5/G7,,\nsupplement,S1,10,G5,M1+-G7,,\nmodule,MOT,motor\nposition,P1,MOT,mandatory,,\nvariant,V1,P1,A100,1,M1,,\nvariant,V2,P1,A200,1,M2,,")) ≡ Ok book_tg
unfolding csv_on_literals pass rule_of
whole_book_with_groups = refl

group_in_form_1 : book_of_rows (rows_of (codes "book,T,1,9,1\ngroup,C1,one,A/B,,\ncode,A,\ncode,B,")) ≡ Err (record { row = 2; kind = UnknownKind })
unfolding csv_on_literals pass
group_in_form_1 = refl

code_twice : book_of_rows (rows_of (codes "book,T,1,9,2\ngroup,C1,most,A/B/A,,\ncode,A,\ncode,B,")) ≡ Err (record { row = 2; kind = BadName })
unfolding csv_on_literals pass
code_twice = refl

another_form : book_of_rows (rows_of (codes "book,T,9,1,02")) ≡ Err (record { row = 1; kind = BadNumber })
unfolding csv_on_literals pass
another_form = refl

unknown_code : book_of_rows (rows_of (codes "book,T,1,9,2\ngroup,C1,most,A/B,,\ncode,A,")) ≡ Err (record { row = 2; kind = UnknownName })
unfolding csv_on_literals pass
unknown_code = refl
