-- The first constructibility rule that a set of codes breaks, by its place among them.
use Rattle.std.specs.Prelude.{ℕ, Bool, List, Option, None, map}
use Rattle.std.specs.List.{position_from}
use Rattle.book_model.specs.Contents.{Contents}
use Rattle.book_model.specs.Good.{breaks}
use Rattle.book_model.specs.declared.demand.Demand.{Demand}
use Rattle.book_model.specs.declared.demand.Demand.TheVariants.{Rule, One, Most}
use Rattle.book_model.specs.declared.record.Construct.{Construct}

abbrev pub first_broken_of : Contents → ℕ → List Bool → Option ℕ
first_broken_of b day x = position_from (breaks day x) 0 b.constructs

-- the code without which a demand is met, if it has one
abbrev pub guard_in : Demand → Option ℕ
guard_in (Rule on rule) = on
guard_in (One codes) = None
guard_in (Most codes) = None

abbrev pub guard_of : Construct → Option ℕ
guard_of c = guard_in c.demand

-- of each rule of a book
abbrev pub guards_of : Contents → List (Option ℕ)
guards_of b = map guard_of b.constructs
