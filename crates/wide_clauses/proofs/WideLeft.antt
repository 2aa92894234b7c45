-- How far a loop over items has come: what is made so far and what is left make the whole.
use Rattle.std.proofs.Common.{◌≡◌, ℕ, ◌+◌, List, ◌++◌, sym, ap, ◌∙◌, arith, append_assoc}
use Rattle.clausify.specs.Items.{Item}
use Rattle.wide_clauses.specs.Encoding.{WidensItems}
use Rattle.wide_clauses.specs.WideItems.{taken_by, wide_item_clauses}
use Rattle.wide_clauses.specs.declared.wide.WideEncoder.{WideEncoder}
use Rattle.wide_clauses.proofs.WideItemLaws.{taken_by-append, wide_item_clauses-append}

pub record WideLeft (start m : WideEncoder) (all rest : List Item) : Type 0 where
  pub clauses : m.pool.clauses ++ wide_item_clauses start.truth m.next rest ≡ start.pool.clauses ++ wide_item_clauses start.truth start.next all
  pub next : m.next + taken_by rest ≡ start.next + taken_by all
  pub truth : m.truth ≡ start.truth

pub wide_many : (start m more : WideEncoder) (all is rest : List Item) → WideLeft start m all (is ++ rest) → WidensItems m more is → WideLeft start more all rest
wide_many start m more all is rest left made = record {
  clauses =
      ap (λ (cs : List (List ℕ)). cs ++ wide_item_clauses start.truth more.next rest) made.clauses
      ∙ ap (λ (t : ℕ). m.pool.clauses ++ wide_item_clauses t m.next is ++ wide_item_clauses start.truth more.next rest) left.truth
      ∙ ap (λ (v : ℕ). m.pool.clauses ++ wide_item_clauses start.truth m.next is ++ wide_item_clauses start.truth v rest) made.next
      ∙ append_assoc m.pool.clauses (wide_item_clauses start.truth m.next is) (wide_item_clauses start.truth (m.next + taken_by is) rest)
      ∙ ap (λ (cs : List (List ℕ)). m.pool.clauses ++ cs) (sym (wide_item_clauses-append start.truth m.next is rest))
      ∙ left.clauses;
  next = omega (arith, made.next, left.next, taken_by-append is rest);
  truth = made.truth ∙ left.truth;
}

-- items made one list after another
pub wide_then : (m0 m1 m2 : WideEncoder) (is js : List Item) → WidensItems m0 m1 is → WidensItems m1 m2 js → WidensItems m0 m2 (is ++ js)
wide_then m0 m1 m2 is js first second = record {
  clauses =
      second.clauses
      ∙ ap (λ (cs : List (List ℕ)). cs ++ wide_item_clauses m1.truth m1.next js) first.clauses
      ∙ ap (λ (t : ℕ). m0.pool.clauses ++ wide_item_clauses m0.truth m0.next is ++ wide_item_clauses t m1.next js) first.truth
      ∙ ap (λ (v : ℕ). m0.pool.clauses ++ wide_item_clauses m0.truth m0.next is ++ wide_item_clauses m0.truth v js) first.next
      ∙ append_assoc m0.pool.clauses (wide_item_clauses m0.truth m0.next is) (wide_item_clauses m0.truth (m0.next + taken_by is) js)
      ∙ ap (λ (cs : List (List ℕ)). m0.pool.clauses ++ cs) (sym (wide_item_clauses-append m0.truth m0.next is js));
  next = omega (arith, first.next, second.next, taken_by-append is js);
  truth = second.truth ∙ first.truth;
}
