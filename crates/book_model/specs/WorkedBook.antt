-- A small book of engines and gears, on which definitions are evaluated: two engines, two gearboxes, air conditioning, and one
-- position, a motor.
--     book_t              the book
--     book_tg             the same book, with its constructibility rules as two groups
--     set_t m1 m2 g5 g7 ac    a set of its codes
use Rattle.std.specs.Prelude.{ℕ, Bool, List, [], ◌∷◌, Some, None, true, codes}
use Rattle.pb_base.specs.Rule.{Rule, code, negation, both, either}
use Rattle.book_model.specs.Contents.{Contents}
use Rattle.book_model.specs.declared.demand.Demand.TheVariants as demand
use Rattle.book_model.specs.declared.record.Supplement.{Supplement}
use Rattle.book_model.specs.declared.record.Construct.{Construct}
use Rattle.book_model.specs.declared.record.Position.{Position}
use Rattle.book_model.specs.declared.record.Variant.{Variant}

-- the codes by their places
abbrev pub m1 : Rule
m1 = code 0

abbrev pub m2 : Rule
m2 = code 1

abbrev pub g5 : Rule
g5 = code 2

abbrev pub g7 : Rule
g7 = code 3

abbrev pub an_engine : Construct
an_engine = record { id = codes "C1"; demand = demand.Rule None (either m1 m2); from = 1; until = 1000 }

abbrev pub one_engine : Construct
one_engine = record { id = codes "C2"; demand = demand.Rule (Some 0) (negation m2); from = 1; until = 1000 }

abbrev pub a_gearbox : Construct
a_gearbox = record { id = codes "C3"; demand = demand.Rule None (either g5 g7); from = 1; until = 1000 }

abbrev pub one_gearbox : Construct
one_gearbox = record { id = codes "C4"; demand = demand.Rule (Some 2) (negation g7); from = 1; until = 1000 }

-- each of these two groups says what two of the rules say
abbrev pub exactly_one_engine : Construct
exactly_one_engine = record { id = codes "C1"; demand = demand.One (0 ∷ 1 ∷ []); from = 1; until = 1000 }

abbrev pub exactly_one_gearbox : Construct
exactly_one_gearbox = record { id = codes "C3"; demand = demand.One (2 ∷ 3 ∷ []); from = 1; until = 1000 }

-- the first engine brings five gears, unless seven are ordered
abbrev pub five_gears : Supplement
five_gears = record { id = codes "S1"; rank = 10; code = 2; rule = both m1 (negation g7); from = 1; until = 1000 }

abbrev pub motor_position : Position
motor_position = record { id = codes "P1"; «module» = Some 0; mandatory = true; from = 1; until = 1000 }

-- a variant of the motor's position, for these days
abbrev pub motor : List ℕ → List ℕ → Rule → ℕ → ℕ → Variant
motor id part rule from until = record { id = id; position = 0; part = part; quantity = 1; rule = rule; from = from; until = until }

-- the book with these constructibility rules and variants
abbrev pub book_with : List Construct → List Variant → Contents
book_with constructs variants = record {
  name = codes "T";
  first = 1;
  last = 1000;
  codes = codes "M1" ∷ codes "M2" ∷ codes "G5" ∷ codes "G7" ∷ codes "AC" ∷ [];
  supplements = five_gears ∷ [];
  constructs = constructs;
  modules = record { id = codes "MOT" } ∷ [];
  positions = motor_position ∷ [];
  variants = variants;
}

abbrev pub book_t : Contents
book_t =
    book_with (an_engine ∷ one_engine ∷ a_gearbox ∷ one_gearbox ∷ [])
    (motor (codes "V1") (codes "A100") m1 1 1000 ∷ motor (codes "V2") (codes "A200") m2 1 1000 ∷ [])

abbrev pub book_tg : Contents
book_tg = book_with (exactly_one_engine ∷ exactly_one_gearbox ∷ []) book_t.variants

abbrev pub set_t : Bool → Bool → Bool → Bool → Bool → List Bool
set_t m1 m2 g5 g7 ac = m1 ∷ m2 ∷ g5 ∷ g7 ∷ ac ∷ []
