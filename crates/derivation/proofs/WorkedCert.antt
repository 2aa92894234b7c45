-- The definitions on the certificate of the worked book, and on texts near to it.
use Rattle.std.proofs.Common.{◌≡◌, ℕ, List, ◌++◌, Some, Ok, codes, refl}
use Rattle.book_model.specs.Slices.{slices_of}
use Rattle.book_model.specs.WorkedBook.{book_t, book_tg}
use Rattle.derivation.specs.declared.fault.CertKind.{CertKind}
use Rattle.derivation.specs.declared.fault.CertKind.TheVariants.{NoSuchStep, NoPivot, NotClosed, BadSet}
use Rattle.derivation.specs.Certificate.{cert_answer, cert_fault}

abbrev opened : List ℕ
opened = codes "partsbook certificate 1\nbook T 1\nslice 0\nset M1 G5\n"

worked_is_accepted : cert_answer book_t (opened ++ codes "step 9 -0 15 -1 16\nclose 13 21\nstep 8 +7 5 +0 18 +1 19\nclose 14 22\nend\n") ≡ Ok (record { slices = 1; steps = 2 })
unfolding slices_of
worked_is_accepted = refl

-- the same of the book whose rules are two groups: an engine beside another is refuted by the clause of the pair, and none by that of all
groups_are_accepted : cert_answer book_tg (opened ++ codes "step 6 -0 9 -1 10\nclose 13 15\nstep 5 +0 12 +1 13\nclose 14 16\nend\n") ≡ Ok (record { slices = 1; steps = 2 })
unfolding slices_of
groups_are_accepted = refl

-- the certificate of the one book is none of the other
of_the_other_book : cert_fault book_tg (opened ++ codes "step 9 -0 15 -1 16\n") ≡ Some (record { line = 5; kind = NoSuchStep })
unfolding slices_of
of_the_other_book = refl

-- these lines behind the set line have this fault
abbrev HasFault : List ℕ → ℕ → CertKind → Type 0
HasFault text line kind = cert_fault book_t (opened ++ text) ≡ Some (record { line = line; kind = kind })

wrong_literal : HasFault (codes "step 9 +0 15 -1 16\n") 5 NoPivot
unfolding slices_of
wrong_literal = refl

no_clause : HasFault (codes "step 21 -0 15\n") 5 NoSuchStep
unfolding slices_of
no_clause = refl

other_question : HasFault (codes "step 9 -0 15 -1 16\nclose 14 21\n") 6 (NotClosed 13)
unfolding slices_of
other_question = refl

no_closing_clause : HasFault (codes "step 9 -0 15 -1 16\nclose 13 99\n") 6 NoSuchStep
unfolding slices_of
no_closing_clause = refl

wrong_closing_clause : HasFault (codes "step 9 -0 15\nclose 13 21\n") 6 (NotClosed 13)
unfolding slices_of
wrong_closing_clause = refl

question_left : HasFault (codes "step 9 -0 15 -1 16\nclose 13 21\nstep 8 +7 5 +0 18 +1 19\nend\n") 8 (NotClosed 14)
unfolding slices_of
question_left = refl

repeated_code : cert_fault book_t (codes "partsbook certificate 1\nbook T 1\nslice 0\nset M1 M1 G5\n") ≡ Some (record { line = 4; kind = BadSet 0 })
unfolding slices_of
repeated_code = refl

not_good : cert_fault book_t (codes "partsbook certificate 1\nbook T 1\nslice 0\nset M1\n") ≡ Some (record { line = 4; kind = BadSet 0 })
unfolding slices_of
not_good = refl
