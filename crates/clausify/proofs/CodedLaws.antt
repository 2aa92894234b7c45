-- The clauses of a slice, put together from the parts that are made one after another.
use Rattle.std.proofs.Common.{◌≡◌, ℕ, ◌+◌, ◌<◌, true, List, [], ◌∷◌, ◌++◌, length, sym, ap, ◌∙◌, arith, append_assoc, length-append, subst}
use Rattle.book_model.specs.Contents.{Contents}
use Rattle.book_model.specs.Book.{IsBook}
use Rattle.clause_pool.specs.Literal.{literal}
use Rattle.clause_pool.specs.Clause.{clause_of}
use Rattle.clausify.specs.Items.{Item, item_clauses, variables_of, rule_items, usage_items, items}
use Rattle.clausify.specs.Choices.{choices}
use Rattle.clausify.specs.Goals.{all_usages, goals_variables, goals_clauses, goals_asked, codes_asked_from, void_asked}
use Rattle.clausify.specs.Coded.{usages_start, goals_start, numbered_at, numbered_choices, core_clauses, slice_clauses, IsCoded}
use Rattle.clausify.specs.Layout.{AreGates, start_at, item_starts, IsLaid}
use Rattle.clausify.specs.Encoding.{Encodes, AddsStarts}
use Rattle.clausify.specs.declared.encoder.Encoder.{Encoder}
use Rattle.clausify.specs.declared.usage.Usage.{Usage}
use Rattle.clausify.specs.declared.question.Asked.{Asked}
use Rattle.clausify.specs.declared.question.Coded.{Coded}
use Rattle.clausify.specs.declared.layout.Start.{Start}
use Rattle.clausify.specs.declared.layout.Gates.{Gates}
use Rattle.clausify.specs.declared.layout.Layout.{Layout}
use Rattle.clausify.specs.declared.encoder.Encoded.{Encoded}
use Rattle.clausify.proofs.ItemLaws.{item_clauses-append, variables_of-append}
use Rattle.clausify.proofs.Bounds.{variables_fit}
use Rattle.clausify.proofs.Remaining.{item_starts-append}

-- items made one list after another
pub items_then : (m0 m1 m2 : Encoder) (is js : List Item) → Encodes m0 m1 (item_clauses m0.truth m0.next is) (variables_of is) → Encodes m1 m2 (item_clauses m1.truth m1.next js) (variables_of js) → Encodes m0 m2 (item_clauses m0.truth m0.next (is ++ js)) (variables_of (is ++ js))
items_then m0 m1 m2 is js first second = record {
  clauses =
      second.clauses
      ∙ ap (λ (cs : List (List ℕ)). cs ++ item_clauses m1.truth m1.next js) first.clauses
      ∙ ap (λ (t : ℕ). m0.pool.clauses ++ item_clauses m0.truth m0.next is ++ item_clauses t m1.next js) first.truth
      ∙ ap (λ (v : ℕ). m0.pool.clauses ++ item_clauses m0.truth m0.next is ++ item_clauses m0.truth v js) first.next
      ∙ append_assoc m0.pool.clauses (item_clauses m0.truth m0.next is) (item_clauses m0.truth (m0.next + variables_of is) js)
      ∙ ap (λ (cs : List (List ℕ)). m0.pool.clauses ++ cs) (sym (item_clauses-append m0.truth m0.next is js));
  next = omega (arith, first.next, second.next, variables_of-append is js);
  truth = second.truth ∙ first.truth;
  first = second.first ∙ first.first;
}

pub starts_then : (m0 m1 : Encoder) (ss0 ss1 ss2 : List Start) (is js : List Item) → Encodes m0 m1 (item_clauses m0.truth m0.next is) (variables_of is) → AddsStarts m0 ss0 ss1 is → AddsStarts m1 ss1 ss2 js
    → AddsStarts m0 ss0 ss2 (is ++ js)
starts_then m0 m1 ss0 ss1 ss2 is js made first second =
    let size : length m1.pool.clauses ≡ length m0.pool.clauses + length (item_clauses m0.truth m0.next is) =
    ap length made.clauses ∙ length-append m0.pool.clauses (item_clauses m0.truth m0.next is) in
    second
    ∙ ap (λ (ss : List Start). ss ++ item_starts m1.truth m1.next (length m1.pool.clauses) js) first
    ∙ ap (λ (t : ℕ). ss0 ++ item_starts m0.truth m0.next (length m0.pool.clauses) is ++ item_starts t m1.next (length m1.pool.clauses) js) made.truth
    ∙ ap (λ (v : ℕ). ss0 ++ item_starts m0.truth m0.next (length m0.pool.clauses) is ++ item_starts m0.truth v (length m1.pool.clauses) js) made.next
    ∙ ap (λ (k : ℕ). ss0 ++ item_starts m0.truth m0.next (length m0.pool.clauses) is ++ item_starts m0.truth (m0.next + variables_of is) k js) size
    ∙ append_assoc ss0 (item_starts m0.truth m0.next (length m0.pool.clauses) is) _
    ∙ ap (λ (ss : List Start). ss0 ++ ss) (sym (item_starts-append m0.truth m0.next (length m0.pool.clauses) is js))

-- an encoder over the codes of a book, with the first clause alone
pub record Begun (b : Contents) (m : Encoder) : Type 0 where
  pub clauses : m.pool.clauses ≡ clause_of (literal (length b.codes) true ∷ []) ∷ []
  pub truth : m.truth ≡ length b.codes
  pub next : m.next ≡ length b.codes + 1
  pub first : m.gates.first ≡ length b.codes + 1

pub begun : (b : Contents) (m : Encoder) (codes : ℕ) → codes ≡ length b.codes → m.pool.clauses ≡ clause_of (literal codes true ∷ []) ∷ [] → m.truth ≡ codes → m.next ≡ codes + 1 → m.gates.first ≡ codes + 1 → Begun b m
begun b m codes counted clauses truth next first = record {
  clauses = clauses ∙ ap (λ (n : ℕ). clause_of (literal n true ∷ []) ∷ []) counted;
  truth = truth ∙ counted;
  next = next ∙ ap (λ (n : ℕ). n + 1) counted;
  first = first ∙ ap (λ (n : ℕ). n + 1) counted;
}

-- after the rules, after the usages
abbrev pub RulesMade : Contents → ℕ → Encoder → Encoder → Type 0
RulesMade b day m0 m1 = Encodes m0 m1 (item_clauses m0.truth m0.next (rule_items b day)) (variables_of (rule_items b day))

abbrev pub UsagesMade : Contents → ℕ → Encoder → Encoder → Type 0
UsagesMade b day m1 m2 = Encodes m1 m2 (item_clauses m1.truth m1.next (usage_items b (choices b day))) (variables_of (usage_items b (choices b day)))

pub rules_room : (b : Contents) (day : ℕ) (m0 : Encoder) → IsBook b → Begun b m0 → m0.next + variables_of (rule_items b day) < 4294967296
rules_room b day m0 book begin = omega (arith, begin.next, variables_fit b day book, variables_of-append (rule_items b day) (usage_items b (choices b day)))

pub usages_begin : (b : Contents) (day : ℕ) (m0 m1 : Encoder) → Begun b m0 → RulesMade b day m0 m1 → m1.next ≡ usages_start b day
usages_begin b day m0 m1 begin rules = rules.next ∙ ap (λ (v : ℕ). v + variables_of (rule_items b day)) begin.next

pub goals_begin : (b : Contents) (day : ℕ) (m0 m1 m2 : Encoder) → Begun b m0 → RulesMade b day m0 m1 → UsagesMade b day m1 m2 → m2.next ≡ goals_start b day
goals_begin b day m0 m1 m2 begin rules usages =
    omega (arith, begin.next, rules.next, usages.next, variables_of-append (rule_items b day) (usage_items b (choices b day)))

pub usages_room : (b : Contents) (day : ℕ) (m0 m1 : Encoder) → IsBook b → Begun b m0 → RulesMade b day m0 m1 → m1.next + variables_of (usage_items b (choices b day)) < 4294967296
usages_room b day m0 m1 book begin rules =
    omega (arith, begin.next, rules.next, variables_fit b day book, variables_of-append (rule_items b day) (usage_items b (choices b day)))

pub goals_room : (b : Contents) (day : ℕ) (m0 m1 m2 : Encoder) → IsBook b → Begun b m0 → RulesMade b day m0 m1 → UsagesMade b day m1 m2 → m2.next + goals_variables (numbered_at b day m2.next) < 4294967296
goals_room b day m0 m1 m2 book begin rules usages =
    let begins : m2.next ≡ goals_start b day = goals_begin b day m0 m1 m2 begin rules usages in
    let same : goals_variables (numbered_at b day m2.next) ≡ goals_variables (numbered_choices b day) = ap (λ (w : ℕ). goals_variables (numbered_at b day w)) begins in
    omega (arith, begins, same, variables_fit b day book)

pub usages_are : (b : Contents) (day : ℕ) (m0 m1 : Encoder) (us : List Usage) → Begun b m0 → RulesMade b day m0 m1 → us ≡ all_usages b m1.truth m1.next (choices b day) → us ≡ all_usages b (length b.codes) (usages_start b day) (choices b day)
usages_are b day m0 m1 us begin rules are =
    are ∙ ap (λ (t : ℕ). all_usages b t m1.next (choices b day)) (rules.truth ∙ begin.truth)
    ∙ ap (λ (v : ℕ). all_usages b (length b.codes) v (choices b day)) (usages_begin b day m0 m1 begin rules)

pub is_coded : (b : Contents) (day void : ℕ) (m0 m1 m2 : Encoder) (c : Coded) (asked0 asked1 : List Asked) → Begun b m0 → RulesMade b day m0 m1 → UsagesMade b day m1 m2
    → c.pool.clauses ≡ m2.pool.clauses ++ goals_clauses (numbered_at b day m2.next)
    → c.vars ≡ m2.next + goals_variables (numbered_at b day m2.next)
    → void ≡ literal m2.truth true → asked0 ≡ record (void_asked (length b.codes)) { goal = void } ∷ [] → asked1 ≡ asked0 ++ codes_asked_from 0 b.codes
    → c.questions.items ≡ asked1 ++ goals_asked (length b.codes) (numbered_at b day m2.next)
    → IsCoded b day c
is_coded b day void m0 m1 m2 c asked0 asked1 begin rules usages clauses vars void_is first second third =
    let n : ℕ = length b.codes in
    let made = items_then m0 m1 m2 (rule_items b day) (usage_items b (choices b day)) rules usages in
    let begins : m2.next ≡ goals_start b day = goals_begin b day m0 m1 m2 begin rules usages in
    let void_literal : void ≡ literal n true = void_is ∙ ap (λ (t : ℕ). literal t true) (made.truth ∙ begin.truth) in
    record {
      clauses =
          clauses
          ∙ ap (λ (v : ℕ). m2.pool.clauses ++ goals_clauses (numbered_at b day v)) begins
          ∙ ap (λ (cs : List (List ℕ)). cs ++ goals_clauses (numbered_choices b day))
          (made.clauses ∙ ap (λ (cs : List (List ℕ)). cs ++ item_clauses m0.truth m0.next (items b day)) begin.clauses
          ∙ ap (λ (t : ℕ). clause_of (literal n true ∷ []) ∷ item_clauses t m0.next (items b day)) begin.truth
          ∙ ap (λ (v : ℕ). clause_of (literal n true ∷ []) ∷ item_clauses n v (items b day)) begin.next);
      variables = vars ∙ ap (λ (w : ℕ). w + goals_variables (numbered_at b day w)) begins;
      asked =
          third
          ∙ ap (λ (v : ℕ). asked1 ++ goals_asked n (numbered_at b day v)) begins
          ∙ ap (λ (qs : List Asked). qs ++ goals_asked n (numbered_choices b day))
          (second ∙ ap (λ (qs : List Asked). qs ++ codes_asked_from 0 b.codes) (first ∙ ap (λ (l : ℕ). record (void_asked n) { goal = l } ∷ []) void_literal));
    }

-- the clauses of the rules and usages
core_made : (b : Contents) (day : ℕ) (m0 m1 m2 : Encoder) → Begun b m0 → RulesMade b day m0 m1 → UsagesMade b day m1 m2 → m2.pool.clauses ≡ core_clauses b day
core_made b day m0 m1 m2 begin rules usages =
    let n : ℕ = length b.codes in
    (items_then m0 m1 m2 (rule_items b day) (usage_items b (choices b day)) rules usages).clauses
    ∙ ap (λ (cs : List (List ℕ)). cs ++ item_clauses m0.truth m0.next (items b day)) begin.clauses
    ∙ ap (λ (t : ℕ). clause_of (literal n true ∷ []) ∷ item_clauses t m0.next (items b day)) begin.truth
    ∙ ap (λ (v : ℕ). clause_of (literal n true ∷ []) ∷ item_clauses n v (items b day)) begin.next

-- where all of it stands
pub is_laid : (b : Contents) (day : ℕ) (m0 m1 m2 : Encoder) (e : Encoded) (ss0 ss1 ss2 : List Start) (goals : Start) (l : Layout) (c : Coded) → Begun b m0 → RulesMade b day m0 m1 → UsagesMade b day m1 m2
    → ss0 ≡ [] → AddsStarts m0 ss0 ss1 (rule_items b day) → AddsStarts m1 ss1 ss2 (usage_items b (choices b day)) → goals ≡ start_at m2.next (length m2.pool.clauses)
    → e.gates.first ≡ m2.gates.first → c.pool.clauses ≡ e.pool.clauses → c.vars ≡ e.vars → e.vars ≡ e.gates.first + length e.gates.list.items → AreGates e.pool.clauses e.gates
    → IsCoded b day c → l.gates ≡ e.gates → l.starts.items ≡ ss2 → l.goals ≡ goals → IsLaid b day l
is_laid b day m0 m1 m2 e ss0 ss1 ss2 goals l c begin rules usages none starts_rules starts_usages goals_are first clauses vars counted laid coded gates starts goals_is =
    let n : ℕ = length b.codes in
    let core : m2.pool.clauses ≡ core_clauses b day = core_made b day m0 m1 m2 begin rules usages in
    let all : AddsStarts m0 ss0 ss2 (items b day) = starts_then m0 m1 ss0 ss1 ss2 (rule_items b day) (usage_items b (choices b day)) rules starts_rules starts_usages in
    record {
      first = ap (λ (g : Gates). g.first) gates ∙ first ∙ usages.first ∙ rules.first ∙ begin.first;
      count = ap (λ (g : Gates). g.first + length g.list.items) gates ∙ sym counted ∙ sym vars ∙ coded.variables;
      gates = subst (AreGates (slice_clauses b day)) (sym gates) (subst (λ (cs : List (List ℕ)). AreGates cs e.gates) (sym clauses ∙ coded.clauses) laid);
      starts =
          starts ∙ all
          ∙ ap (λ (ss : List Start). ss ++ item_starts m0.truth m0.next (length m0.pool.clauses) (items b day)) none
          ∙ ap (λ (t : ℕ). item_starts t m0.next (length m0.pool.clauses) (items b day)) begin.truth
          ∙ ap (λ (v : ℕ). item_starts n v (length m0.pool.clauses) (items b day)) begin.next
          ∙ ap (λ (cs : List (List ℕ)). item_starts n (n + 1) (length cs) (items b day)) begin.clauses;
      goals =
          goals_is ∙ goals_are
          ∙ ap (λ (v : ℕ). start_at v (length m2.pool.clauses)) (goals_begin b day m0 m1 m2 begin rules usages)
          ∙ ap (λ (cs : List (List ℕ)). start_at (goals_start b day) (length cs)) core;
    }
