-- Which constructibility rules stay broken when a set is completed.
--     is_supplied rules code       a supplementing rule adds the code
--     AreSupplied rules codes      the set has each code that one of them adds, and no other
--     is_settled supplied demand   none of these codes stands in the demand
--     broken_after b day x         the first constructibility rule that the completed set breaks
use Rattle.std.specs.Prelude.{◌≡◌, ℕ, ◌==◌, ◌&&◌, Bool, true, not, List, Option, None, Some}
use Rattle.std.specs.List.{list_any, list_all}
use Rattle.pb_base.specs.Node.{nodes_of}
use Rattle.pb_base.specs.Sets.{has}
use Rattle.pb_base.specs.declared.node.Node.{Node}
use Rattle.pb_base.specs.declared.node.Node.TheVariants.{Code}
use Rattle.book_model.specs.Contents.{Contents}
use Rattle.book_model.specs.declared.demand.Demand.{Demand}
use Rattle.book_model.specs.declared.demand.Demand.TheVariants.{Rule, One, Most}
use Rattle.book_model.specs.declared.record.Supplement.{Supplement}
use Rattle.parts_usage.specs.Broken.{first_broken_of}
use Rattle.supplement.specs.Completion.{completion_of}

abbrev pub is_supplied : List Supplement → ℕ → Bool
is_supplied rules code = list_any (λ s. s.code == code) rules

pub record AreSupplied (rules : List Supplement) (codes : List Bool) : Type 0 where
  pub each : (code : ℕ) → has codes code ≡ is_supplied rules code

abbrev pub is_settled_guard : List Bool → Option ℕ → Bool
is_settled_guard supplied None = true
is_settled_guard supplied (Some code) = not (has supplied code)

abbrev pub is_settled_node : List Bool → Node → Bool
is_settled_node supplied (Code code) = not (has supplied code)
is_settled_node supplied _ = true

abbrev pub is_settled : List Bool → Demand → Bool
is_settled supplied (Rule on f) = is_settled_guard supplied on && list_all (is_settled_node supplied) (nodes_of f)
is_settled supplied (One codes) = list_all (λ code. not (has supplied code)) codes
is_settled supplied (Most codes) = list_all (λ code. not (has supplied code)) codes

abbrev pub broken_after : Contents → ℕ → List Bool → Option ℕ
broken_after b day x = first_broken_of b day (completion_of b day x).set
