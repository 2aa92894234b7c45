-- The clauses of two books, made one after the other.
use Rattle.std.proofs.Common.{◌≡◌, ℕ, ◌+◌, ◌<◌, true, List, [], ◌∷◌, ◌++◌, length, map, sym, ap, subst, ◌∙◌, arith, refl}
use Rattle.book_model.specs.Contents.{Contents}
use Rattle.clause_pool.specs.Literal.{literal}
use Rattle.clause_pool.specs.Clause.{clause_of}
use Rattle.clausify.specs.Choices.{choices}
use Rattle.clausify.specs.Encoding.{EncodesItems}
use Rattle.clausify.specs.Goals.{all_usages}
use Rattle.clausify.specs.Items.{variables_of, item_clauses, items, rule_items}
use Rattle.clausify.specs.declared.encoder.Encoder.{Encoder}
use Rattle.clausify.specs.declared.usage.Usage.{Usage}
use Rattle.clausify.proofs.CodedLaws.{items_then}
use Rattle.clausify.proofs.ItemLaws.{variables_of-append}
use Rattle.book_compare.specs.Numbering.{numbers_of, alone}
use Rattle.book_compare.specs.JointItems.{absent_item, absent_items, renamed_item, renamed_usage_items, renamed_usages, day_variants, second_items, joint_items, first_variable, first_rules_at, second_rules_at, first_usages, second_usages, IsJoint}
use Rattle.book_compare.specs.declared.joint.Joint.{Joint}
use Rattle.book_compare.proofs.NumberLaws.{length-numbers_from}

module _ (first second : Contents) (day : ℕ) (m0 m1 m2 : Encoder) (truth : m0.truth ≡ length first.codes) (next : m0.next ≡ first_variable first second) (absent : EncodesItems m0 m1 (absent_items first second)) where
  pub first_truth : m1.truth ≡ length first.codes
  first_truth = absent.truth ∙ truth

  first_next : m1.next ≡ first_rules_at first second
  first_next = rw next at absent.next

  pub first_room : (limit : ℕ) → m0.next + variables_of (joint_items first second day) < limit → m1.next + variables_of (items first day) < limit
  first_room limit room =
      omega (
        arith,
        absent.next,
        variables_of-append (absent_items first second) (items first day ++ second_items first second day),
        variables_of-append (items first day) (second_items first second day),
      )

  pub first_made : (us : List Usage) → us ≡ all_usages first m1.truth (m1.next + variables_of (rule_items first day)) (choices first day) → us ≡ first_usages first second day
  first_made us is = rw (first_truth, first_next) at is

  module _ (one : EncodesItems m1 m2 (items first day)) where
    second_truth : m2.truth ≡ length first.codes
    second_truth = one.truth ∙ first_truth

    second_next : m2.next ≡ second_rules_at first second day
    second_next = rw first_next at one.next

    pub second_room : (limit : ℕ) (numbers : List ℕ) → numbers ≡ numbers_of first.codes second.codes → m0.next + variables_of (joint_items first second day) < limit
        → m2.next + variables_of (map (renamed_item numbers) (rule_items second day) ++ renamed_usage_items numbers second (day_variants second day)) < limit
    second_room limit numbers are room =
        rw are
        (omega (
          arith,
          absent.next,
          one.next,
          variables_of-append (absent_items first second) (items first day ++ second_items first second day),
          variables_of-append (items first day) (second_items first second day),
        ))

    pub second_made : (numbers : List ℕ) (us : List Usage) → numbers ≡ numbers_of first.codes second.codes
        → us ≡ renamed_usages numbers second m2.truth (m2.next + variables_of (map (renamed_item numbers) (rule_items second day))) (day_variants second day) → us ≡ second_usages first second day
    second_made numbers us are is = rw (are, second_truth, second_next) at is

    pub all_made : (m3 : Encoder) (numbers : List ℕ) → numbers ≡ numbers_of first.codes second.codes
        → EncodesItems m2 m3 (map (renamed_item numbers) (rule_items second day) ++ renamed_usage_items numbers second (day_variants second day)) → EncodesItems m0 m3 (joint_items first second day)
    all_made m3 numbers are other =
        items_then m0 m1 m3 (absent_items first second) (items first day ++ second_items first second day) absent
        (items_then m1 m2 m3 (items first day) (second_items first second day) one
        (rw are at other))

-- the codes that only one book has, by the tables of the codes
pub absent_made : (first second : Contents) (m0 m1 : Encoder) (one other : List (List ℕ)) → one ≡ first.codes → other ≡ second.codes → EncodesItems m0 m1 (map absent_item (alone one other)) → EncodesItems m0 m1 (absent_items first second)
absent_made first second m0 m1 one other one_is other_is made = rw (one_is, other_is) at made

pub numbers_counted : (first second : Contents) (numbers : List ℕ) → numbers ≡ numbers_of first.codes second.codes → length numbers ≡ length second.codes
numbers_counted first second numbers are = ap length are ∙ length-numbers_from (length first.codes + 1) first.codes second.codes

pub joint_made : (first second : Contents) (day : ℕ) (begun made : Encoder) (j : Joint) → begun.pool.clauses ≡ clause_of (literal (length first.codes) true ∷ []) ∷ [] → begun.truth ≡ length first.codes
    → begun.next ≡ first_variable first second → EncodesItems begun made (joint_items first second day) → j.pool.clauses ≡ made.pool.clauses → j.vars ≡ made.next
    → j.first.items ≡ first_usages first second day → j.second.items ≡ second_usages first second day → j.numbers.items ≡ numbers_of first.codes second.codes → IsJoint first second day j
joint_made first second day begun made j truth_clause truth next encoded clauses vars one other named = record {
  clauses = rw (clauses, encoded.clauses, truth_clause, truth, next) refl;
  variables = rw (vars, encoded.next, next) refl;
  first_usages = one;
  second_usages = other;
  numbers = named;
}
