-- The clauses of a day's rules, and then of further rules, put together from the parts that are made one after another.
use Rattle.std.proofs.Common.{◌≡◌, ℕ, ◌+◌, ◌<◌, true, List, [], ◌∷◌, ◌++◌, length, map, sym, ap, ◌∙◌, arith}
use Rattle.pb_base.specs.Rule.{Rule}
use Rattle.book_model.specs.Contents.{Contents}
use Rattle.clause_pool.specs.Literal.{literal}
use Rattle.clause_pool.specs.Clause.{clause_of}
use Rattle.clausify.specs.Coded.{usages_start}
use Rattle.clausify.specs.Encoding.{EncodesItems}
use Rattle.clausify.specs.Items.{free_item, item_clauses, rule_items, variables_of}
use Rattle.clausify.specs.declared.encoder.Encoder.{Encoder}
use Rattle.clausify.proofs.CodedLaws.{Begun, RulesMade, items_then, usages_begin}
use Rattle.clausify.proofs.ItemLaws.{variables_of-append}
use Rattle.rules_met.specs.Met.{asked_clauses, asked_items, asked_variables}

module _ (b : Contents) (day : ℕ) (gs : List Rule) (m0 m1 m2 : Encoder) (begin : Begun b m0) (rules : RulesMade b day m0 m1) where
  pub room_left : asked_variables b day gs < 4294967296 → m1.next + variables_of (map free_item gs) < 4294967296
  room_left room = omega (arith, room, usages_begin b day m0 m1 begin rules, variables_of-append (rule_items b day) (map free_item gs))

  pub variables_made : EncodesItems m1 m2 (map free_item gs) → m2.next ≡ asked_variables b day gs
  variables_made made = omega (arith, made.next, usages_begin b day m0 m1 begin rules, variables_of-append (rule_items b day) (map free_item gs))

  pub clauses_made : EncodesItems m1 m2 (map free_item gs) → m2.pool.clauses ≡ asked_clauses b day gs
  clauses_made made =
      let n : ℕ = length b.codes in
      (items_then m0 m1 m2 (rule_items b day) (map free_item gs) rules made).clauses
      ∙ ap (λ (cs : List (List ℕ)). cs ++ item_clauses m0.truth m0.next (asked_items b day gs)) begin.clauses
      ∙ ap (λ (t : ℕ). clause_of (literal n true ∷ []) ∷ item_clauses t m0.next (asked_items b day gs)) begin.truth
      ∙ ap (λ (v : ℕ). clause_of (literal n true ∷ []) ∷ item_clauses n v (asked_items b day gs)) begin.next
