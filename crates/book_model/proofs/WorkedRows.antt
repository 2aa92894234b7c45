-- The definitions of the trade, evaluated on the worked book.
use Rattle.std.proofs.Common.{◌≡◌, ℕ, zero, suc, Bool, true, false, List, [], ◌∷◌, ◌++◌, Ok, map, filter, refl}
use Rattle.std.specs.List.{list_all}
use Rattle.std.specs.Prelude.{codes}
use Rattle.book_model.specs.Contents.{Contents}
use Rattle.book_model.specs.Good.{is_closed, is_met, is_constructible, is_good}
use Rattle.book_model.specs.Parts.{parts, selected}
use Rattle.book_model.specs.Sound.{is_sound}
use Rattle.book_model.specs.Slices.{days_from_to, slices_of}
use Rattle.book_model.specs.declared.demand.Demand.TheVariants.{One, Most}
use Rattle.book_model.specs.WorkedBook.{an_engine, a_gearbox, one_gearbox, motor, motor_position, m1, m2, book_with, book_t, book_tg, set_t}

-- all sets of n codes
abbrev sets_of : ℕ → List (List Bool)
sets_of zero = [] ∷ []
sets_of (suc n) = map (λ x. true ∷ x) (sets_of n) ++ map (λ x. false ∷ x) (sets_of n)

-- one engine and one gearbox, with air conditioning or without
abbrev good_sets : List (List Bool)
good_sets =
    set_t true false true false true ∷ set_t true false true false false
    ∷ set_t true false false true true ∷ set_t true false false true false
    ∷ set_t false true true false true ∷ set_t false true true false false
    ∷ set_t false true false true true ∷ set_t false true false true false
    ∷ []

-- of the 32 sets these eight are good
eight_good_sets : filter (is_good book_t 1) (sets_of 5) ≡ good_sets
eight_good_sets = refl

-- groups say the same of them
the_same_good_sets : filter (is_good book_tg 1) (sets_of 5) ≡ good_sets
the_same_good_sets = refl

-- of three codes none, one, two and all are present: exactly one, and at most one
abbrev of_three : List (List Bool)
of_three = set_t false false false false true ∷ set_t false true false true false ∷ set_t true false true true true ∷ set_t true true true true false ∷ []

exactly_one : map (λ x. is_met x (One (0 ∷ 1 ∷ 2 ∷ []))) of_three ≡ false ∷ true ∷ false ∷ false ∷ []
exactly_one = refl

at_most_one : map (λ x. is_met x (Most (0 ∷ 1 ∷ 2 ∷ []))) of_three ≡ true ∷ true ∷ false ∷ false ∷ []
at_most_one = refl

-- the first engine without a gearbox is not closed, with five gears it is; two engines are closed and not constructible
not_closed : is_closed book_t 1 (set_t true false false false false) ≡ false
not_closed = refl

closed : is_closed book_t 1 (set_t true false true false false) ≡ true
closed = refl

two_engines_closed : is_closed book_t 1 (set_t true true true false false) ≡ true
two_engines_closed = refl

two_engines_not_constructible : is_constructible book_t 1 (set_t true true true false false) ≡ false
two_engines_not_constructible = refl

-- a set of four codes is none of the book
too_short : is_good book_t 1 (true ∷ false ∷ true ∷ false ∷ []) ≡ false
too_short = refl

-- all good sets are sound; two engines select two motors, and no engine none
all_sound : list_all (is_sound book_t 1) good_sets ≡ true
all_sound = refl

two_motors : is_sound book_t 1 (set_t true true true false false) ≡ false
two_motors = refl

no_motor : is_sound book_t 1 (set_t false false true false false) ≡ false
no_motor = refl

-- the parts of the first engine, of the second and of both
parts_of_first : parts book_t 1 (set_t true false true false false) ≡ record { position = 0; variant = 0 } ∷ []
parts_of_first = refl

parts_of_second : parts book_t 1 (set_t false true true false false) ≡ record { position = 0; variant = 1 } ∷ []
parts_of_second = refl

both_selected : selected book_t 1 (set_t true true true false false) 0 motor_position ≡ 0 ∷ 1 ∷ []
both_selected = refl

-- nothing changes within the term
one_slice : slices_of book_t ≡ Ok (days_from_to 1 1000 ∷ [])
unfolding slices_of
one_slice = refl

-- without the rule that one engine is enough, both motors may be selected at once
two_engines_good : is_good (book_with (an_engine ∷ a_gearbox ∷ one_gearbox ∷ []) book_t.variants) 1 (set_t true true true false false) ≡ true
two_engines_good = refl

-- the second motor is built up to day 500, and another from day 502 on: nobody builds it on day 501
abbrev book_of_three : Contents
book_of_three =
    book_with book_t.constructs
    (motor (codes "V1") (codes "A100") m1 1 1000 ∷ motor (codes "V2") (codes "A200") m2 1 500 ∷ motor (codes "V3") (codes "A300") m2 502 1000 ∷ [])

three_slices : slices_of book_of_three ≡ Ok (days_from_to 1 500 ∷ days_from_to 501 501 ∷ days_from_to 502 1000 ∷ [])
unfolding slices_of
three_slices = refl

unsound_between : is_sound book_of_three 501 (set_t false true true false false) ≡ false
unsound_between = refl
