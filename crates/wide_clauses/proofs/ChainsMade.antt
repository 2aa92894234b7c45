-- A chain of connectives is coded: its parts one after another, the last first, and then its own variable.
use Rattle.std.proofs.Common.{◌≡◌, ℕ, ◌+◌, true, false, List, [], ◌∷◌, ◌++◌, refl, sym, ap, subst, ◌∙◌, arith, append_assoc, append-nil}
use Rattle.pb_base.specs.Rule.{Rule, both, either}
use Rattle.pb_base.specs.Shape.{rule_of_shape}
use Rattle.pb_base.specs.declared.part.Shape.{Shape}
use Rattle.pb_base.specs.declared.part.Shape.TheVariants.{Code, Not, And, Or, Yes, No}
use Rattle.clause_pool.specs.Literal.{literal, complement}
use Rattle.wide_clauses.specs.Chains.{alone, in_any, in_all, taken, wide_variables, wide_literal, any_literals, all_literals, one_of_clauses, wide_clauses}
use Rattle.wide_clauses.specs.Encoding.{Widens}
use Rattle.wide_clauses.specs.declared.wide.WideEncoder.{WideEncoder}

-- what is no chain of `/` is one part, with the same clauses and variables as alone
record SingleAny (n v : ℕ) (f : Rule) : Type 0 where
  part : any_literals n v f ≡ wide_literal n v f ∷ []
  clauses : wide_clauses n v f in_any ≡ wide_clauses n v f alone
  variables : taken f in_any ≡ wide_variables f

single_any_shape : (n v : ℕ) (s : Shape) → ((l r : Rule) → s ≡ Or l r → ⊥) → SingleAny n v (rule_of_shape s)
single_any_shape n v (Code place) none = record { part = refl; clauses = refl; variables = refl }
single_any_shape n v (Not f) none = record { part = refl; clauses = refl; variables = refl }
single_any_shape n v (And f g) none = record { part = refl; clauses = refl; variables = refl }
single_any_shape n v (Or f g) none = absurd (none f g refl)
single_any_shape n v Yes none = record { part = refl; clauses = refl; variables = refl }
single_any_shape n v No none = record { part = refl; clauses = refl; variables = refl }

single_any : (n v : ℕ) (s : Shape) (f : Rule) → rule_of_shape s ≡ f → ((l r : Rule) → s ≡ Or l r → ⊥) → SingleAny n v f
single_any n v s f is none = subst (λ (h : Rule). SingleAny n v h) is (single_any_shape n v s none)

-- a whole chain: the parts' clauses, and those of the chain's own variable behind
any_whole : (n v : ℕ) (f g : Rule) → wide_clauses n v (either f g) alone
    ≡ wide_clauses n v (either f g) in_any ++ one_of_clauses (literal (v + taken (either f g) in_any) true) (any_literals n v (either f g))
any_whole n v f g =
    let parts = wide_clauses n v g alone ++ wide_clauses n (v + taken g alone) f in_any in
    let place : v + taken g alone + taken f in_any ≡ v + taken (either f g) in_any = omega arith in
    ap (λ (w : ℕ). parts ++ one_of_clauses (literal w true) (any_literals n v (either f g))) place
    ∙ ap (λ (cs : List (List ℕ)). cs ++ one_of_clauses (literal (v + taken (either f g) in_any) true) (any_literals n v (either f g))) (sym (append-nil parts))

-- after the loop, the last part and the clauses of the chain's variable, the chain is coded
pub any_coded :
    (start m coded new : WideEncoder) (left right rest : Rule) (s : Shape) (lits every : List ℕ) (lit named : ℕ)
    → lits ++ any_literals start.truth m.next rest ≡ any_literals start.truth start.next (either left right)
    → m.pool.clauses ++ wide_clauses start.truth m.next rest in_any ≡ start.pool.clauses ++ wide_clauses start.truth start.next (either left right) in_any
    → m.next + taken rest in_any ≡ start.next + taken (either left right) in_any
    → m.truth ≡ start.truth
    → rule_of_shape s ≡ rest
    → ((l r : Rule) → s ≡ Or l r → ⊥)
    → Widens m coded (wide_clauses m.truth m.next rest alone) (wide_variables rest)
    → lit ≡ wide_literal m.truth m.next rest
    → every ≡ lits ++ lit ∷ []
    → named ≡ literal coded.next true
    → new.pool.clauses ≡ coded.pool.clauses ++ one_of_clauses named every
    → new.next ≡ coded.next + 1
    → new.truth ≡ coded.truth
    → Widens start new (wide_clauses start.truth start.next (either left right) alone) (wide_variables (either left right))
any_coded start m coded new left right rest s lits every lit named lits_are clauses_are next_is truth_is shape none made lit_is every_is named_is new_clauses new_next new_truth =
    let n = start.truth in
    let chain = either left right in
    let single = single_any n m.next s rest shape none in
    let next : coded.next ≡ start.next + taken chain in_any = omega (arith, made.next, single.variables, next_is) in
    let parts : every ≡ any_literals n start.next chain =
    every_is
    ∙ ap (λ (l : ℕ). lits ++ l ∷ []) (lit_is ∙ ap (λ (t : ℕ). wide_literal t m.next rest) truth_is)
    ∙ ap (λ (ls : List ℕ). lits ++ ls) (sym single.part)
    ∙ lits_are in
    let before : coded.pool.clauses ≡ start.pool.clauses ++ wide_clauses n start.next chain in_any =
    made.clauses
    ∙ ap (λ (t : ℕ). m.pool.clauses ++ wide_clauses t m.next rest alone) truth_is
    ∙ ap (λ (cs : List (List ℕ)). m.pool.clauses ++ cs) (sym single.clauses)
    ∙ clauses_are in
    let own : one_of_clauses named every ≡ one_of_clauses (literal (start.next + taken chain in_any) true) (any_literals n start.next chain) =
    ap (λ (l : ℕ). one_of_clauses l every) (named_is ∙ ap (λ (v : ℕ). literal v true) next)
    ∙ ap (λ (ls : List ℕ). one_of_clauses (literal (start.next + taken chain in_any) true) ls) parts in
    record {
      clauses =
          new_clauses
          ∙ ap (λ (cs : List (List ℕ)). cs ++ one_of_clauses named every) before
          ∙ ap (λ (cs : List (List ℕ)). start.pool.clauses ++ wide_clauses n start.next chain in_any ++ cs) own
          ∙ append_assoc start.pool.clauses (wide_clauses n start.next chain in_any) (one_of_clauses (literal (start.next + taken chain in_any) true) (any_literals n start.next chain))
          ∙ ap (λ (cs : List (List ℕ)). start.pool.clauses ++ cs) (sym (any_whole n start.next left right));
      next = omega (arith, new_next, next);
      truth = new_truth ∙ made.truth ∙ truth_is;
    }

pub any_literal :
    (start m coded : WideEncoder) (left right rest : Rule) (s : Shape) (named : ℕ)
    → m.next + taken rest in_any ≡ start.next + taken (either left right) in_any
    → rule_of_shape s ≡ rest
    → ((l r : Rule) → s ≡ Or l r → ⊥)
    → coded.next ≡ m.next + wide_variables rest
    → named ≡ literal coded.next true
    → named ≡ wide_literal start.truth start.next (either left right)
any_literal start m coded left right rest s named next_is shape none coded_next named_is =
    let single = single_any start.truth m.next s rest shape none in
    let next : coded.next ≡ start.next + taken right alone + taken left in_any = omega (arith, coded_next, single.variables, next_is) in
    named_is ∙ ap (λ (v : ℕ). literal v true) next

-- what is no chain of `+` is one part, with the same clauses and variables as alone
record SingleAll (n v : ℕ) (f : Rule) : Type 0 where
  part : all_literals n v f ≡ complement (wide_literal n v f) ∷ []
  clauses : wide_clauses n v f in_all ≡ wide_clauses n v f alone
  variables : taken f in_all ≡ wide_variables f

single_all_shape : (n v : ℕ) (s : Shape) → ((l r : Rule) → s ≡ And l r → ⊥) → SingleAll n v (rule_of_shape s)
single_all_shape n v (Code place) none = record { part = refl; clauses = refl; variables = refl }
single_all_shape n v (Not f) none = record { part = refl; clauses = refl; variables = refl }
single_all_shape n v (And f g) none = absurd (none f g refl)
single_all_shape n v (Or f g) none = record { part = refl; clauses = refl; variables = refl }
single_all_shape n v Yes none = record { part = refl; clauses = refl; variables = refl }
single_all_shape n v No none = record { part = refl; clauses = refl; variables = refl }

single_all : (n v : ℕ) (s : Shape) (f : Rule) → rule_of_shape s ≡ f → ((l r : Rule) → s ≡ And l r → ⊥) → SingleAll n v f
single_all n v s f is none = subst (λ (h : Rule). SingleAll n v h) is (single_all_shape n v s none)

-- a whole chain: the parts' clauses, and those of the chain's own variable behind
all_whole : (n v : ℕ) (f g : Rule) → wide_clauses n v (both f g) alone
    ≡ wide_clauses n v (both f g) in_all ++ one_of_clauses (literal (v + taken (both f g) in_all) false) (all_literals n v (both f g))
all_whole n v f g =
    let parts = wide_clauses n v g alone ++ wide_clauses n (v + taken g alone) f in_all in
    let place : v + taken g alone + taken f in_all ≡ v + taken (both f g) in_all = omega arith in
    ap (λ (w : ℕ). parts ++ one_of_clauses (literal w false) (all_literals n v (both f g))) place
    ∙ ap (λ (cs : List (List ℕ)). cs ++ one_of_clauses (literal (v + taken (both f g) in_all) false) (all_literals n v (both f g))) (sym (append-nil parts))

-- after the loop, the last part and the clauses of the chain's variable, the chain is coded
pub all_coded :
    (start m coded new : WideEncoder) (left right rest : Rule) (s : Shape) (lits every : List ℕ) (lit named : ℕ)
    → lits ++ all_literals start.truth m.next rest ≡ all_literals start.truth start.next (both left right)
    → m.pool.clauses ++ wide_clauses start.truth m.next rest in_all ≡ start.pool.clauses ++ wide_clauses start.truth start.next (both left right) in_all
    → m.next + taken rest in_all ≡ start.next + taken (both left right) in_all
    → m.truth ≡ start.truth
    → rule_of_shape s ≡ rest
    → ((l r : Rule) → s ≡ And l r → ⊥)
    → Widens m coded (wide_clauses m.truth m.next rest alone) (wide_variables rest)
    → lit ≡ wide_literal m.truth m.next rest
    → every ≡ lits ++ complement lit ∷ []
    → named ≡ literal coded.next false
    → new.pool.clauses ≡ coded.pool.clauses ++ one_of_clauses named every
    → new.next ≡ coded.next + 1
    → new.truth ≡ coded.truth
    → Widens start new (wide_clauses start.truth start.next (both left right) alone) (wide_variables (both left right))
all_coded start m coded new left right rest s lits every lit named lits_are clauses_are next_is truth_is shape none made lit_is every_is named_is new_clauses new_next new_truth =
    let n = start.truth in
    let chain = both left right in
    let single = single_all n m.next s rest shape none in
    let next : coded.next ≡ start.next + taken chain in_all = omega (arith, made.next, single.variables, next_is) in
    let parts : every ≡ all_literals n start.next chain =
    every_is
    ∙ ap (λ (l : ℕ). lits ++ complement l ∷ []) (lit_is ∙ ap (λ (t : ℕ). wide_literal t m.next rest) truth_is)
    ∙ ap (λ (ls : List ℕ). lits ++ ls) (sym single.part)
    ∙ lits_are in
    let before : coded.pool.clauses ≡ start.pool.clauses ++ wide_clauses n start.next chain in_all =
    made.clauses
    ∙ ap (λ (t : ℕ). m.pool.clauses ++ wide_clauses t m.next rest alone) truth_is
    ∙ ap (λ (cs : List (List ℕ)). m.pool.clauses ++ cs) (sym single.clauses)
    ∙ clauses_are in
    let own : one_of_clauses named every ≡ one_of_clauses (literal (start.next + taken chain in_all) false) (all_literals n start.next chain) =
    ap (λ (l : ℕ). one_of_clauses l every) (named_is ∙ ap (λ (v : ℕ). literal v false) next)
    ∙ ap (λ (ls : List ℕ). one_of_clauses (literal (start.next + taken chain in_all) false) ls) parts in
    record {
      clauses =
          new_clauses
          ∙ ap (λ (cs : List (List ℕ)). cs ++ one_of_clauses named every) before
          ∙ ap (λ (cs : List (List ℕ)). start.pool.clauses ++ wide_clauses n start.next chain in_all ++ cs) own
          ∙ append_assoc start.pool.clauses (wide_clauses n start.next chain in_all) (one_of_clauses (literal (start.next + taken chain in_all) false) (all_literals n start.next chain))
          ∙ ap (λ (cs : List (List ℕ)). start.pool.clauses ++ cs) (sym (all_whole n start.next left right));
      next = omega (arith, new_next, next);
      truth = new_truth ∙ made.truth ∙ truth_is;
    }

pub all_literal :
    (start m coded : WideEncoder) (left right rest : Rule) (s : Shape) (named : ℕ)
    → m.next + taken rest in_all ≡ start.next + taken (both left right) in_all
    → rule_of_shape s ≡ rest
    → ((l r : Rule) → s ≡ And l r → ⊥)
    → coded.next ≡ m.next + wide_variables rest
    → named ≡ literal coded.next true
    → named ≡ wide_literal start.truth start.next (both left right)
all_literal start m coded left right rest s named next_is shape none coded_next named_is =
    let single = single_all start.truth m.next s rest shape none in
    let next : coded.next ≡ start.next + taken right alone + taken left in_all = omega (arith, coded_next, single.variables, next_is) in
    named_is ∙ ap (λ (v : ℕ). literal v true) next
