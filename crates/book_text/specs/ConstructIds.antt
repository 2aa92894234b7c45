-- The ids of the constructibility rules, in record order, and how many of them are groups and how many are not.
use Rattle.std.specs.Prelude.{ℕ, List, []}

pub record ConstructNames : Type 0 where
  pub ids : List (List ℕ)
  pub rules : ℕ
  pub groups : ℕ

abbrev pub no_constructs : ConstructNames
no_constructs = record { ids = []; rules = 0; groups = 0 }
