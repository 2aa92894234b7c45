-- The definitions at texts whose reading is known.
use Rattle.std.proofs.Common.{◌≡◌, ℕ, List, [], ◌∷◌, ◌++◌, Some, None, Ok, Err, replicate, refl}
use Rattle.std.specs.Prelude.{codes}
use Rattle.std.specs.List.{concat}
use Rattle.pb_base.specs.Rule.{code, negation, both, either, always, never}
use Rattle.rule_text.specs.Token.{tokens, word, plus, other}
use Rattle.rule_text.specs.FirstFault.{first_fault}
use Rattle.rule_text.specs.Reading.{rule_of}
use Rattle.rule_text.specs.Printing.{printed}
use Rattle.rule_text.specs.declared.fault.RuleFault.TheVariants.{Empty, BadByte, UnknownCode, Expected, TooDeep, TooLong}

abbrev engines : List (List ℕ)
engines = codes "M1" ∷ codes "M2" ∷ codes "G7" ∷ []

words_are_longest : tokens (codes " AB+C?x") ≡ (1, word (codes "AB")) ∷ (3, plus) ∷ (4, word (codes "C")) ∷ (5, other) ∷ (6, other) ∷ []
words_are_longest = refl

worked : rule_of engines (codes "M1/M2+-G7;") ≡ Ok (either (code 0) (both (code 1) (negation (code 2))))
unfolding rule_of
worked = refl

left_grouped : rule_of engines (codes " M1 / M2/G7") ≡ Ok (either (either (code 0) (code 1)) (code 2))
unfolding rule_of
left_grouped = refl

signs_nest : rule_of engines (codes "M1+--(TRUE/-FALSE)") ≡ Ok (both (code 0) (negation (negation (either always (negation never)))))
unfolding rule_of
signs_nest = refl

no_fault : first_fault engines (codes "M1/M2+-G7;") ≡ None
no_fault = refl

ends_early : first_fault engines (codes "M1+") ≡ Some (Expected 3)
ends_early = refl

bracket_open : first_fault engines (codes "-(M1") ≡ Some (Expected 4)
bracket_open = refl

bracket_unopened : first_fault engines (codes "(-M1))") ≡ Some (Expected 5)
bracket_unopened = refl

ended_in_a_bracket : first_fault engines (codes "(M1;)") ≡ Some (Expected 3)
ended_in_a_bracket = refl

empty : first_fault engines [] ≡ Some Empty
empty = refl

small_letter : first_fault engines (codes "m1") ≡ Some (BadByte 0)
small_letter = refl

bad_byte_first : first_fault engines (codes "M1 ?") ≡ Some (BadByte 3)
bad_byte_first = refl

unknown : first_fault engines (codes "ZZ") ≡ Some (UnknownCode 0)
unknown = refl

unknown_misplaced : first_fault engines (codes "M1 ZZ") ≡ Some (Expected 3)
unknown_misplaced = refl

after_end : first_fault engines (codes "M1; M2") ≡ Some (Expected 4)
after_end = refl

refused_as_a_whole : rule_of engines (codes "M1+") ≡ Err (Expected 3)
unfolding rule_of
refused_as_a_whole = refl

deep_enough : rule_of engines (replicate 64 40 ++ codes "M1" ++ replicate 64 41) ≡ Ok (code 0)
unfolding rule_of
deep_enough = refl

too_deep : first_fault engines (replicate 65 40 ++ codes "M1" ++ replicate 65 41) ≡ Some (TooDeep 64)
too_deep = refl

signs_too_deep : first_fault engines (replicate 65 45 ++ codes "M1") ≡ Some (TooDeep 64)
signs_too_deep = refl

-- a sign whose factor is whole nests nothing
signs_side_by_side : first_fault engines (replicate 63 45 ++ codes "M1+-(-M2)") ≡ None
signs_side_by_side = refl

too_long : first_fault engines (concat (replicate 256 (codes "M1+")) ++ codes "M1") ≡ Some (TooLong 768)
too_long = refl

print_worked : printed engines (either (code 0) (both (code 1) (negation (code 2)))) ≡ codes "M1/M2+-G7"
print_worked = refl

print_brackets : printed engines (both (either (code 0) (code 1)) (both (negation (both (code 1) (code 2))) (either always never))) ≡ codes "(M1/M2)+(-(M2+G7)+(TRUE/FALSE))"
print_brackets = refl
