use Rattle.std.proofs.Common.{◌≡◌, ℕ, ◌+◌, ◌<◌, true, List, ◌++◌, ◌∷◌, [], length, ◌∙◌, sym, ap, arith, append-nil}
use Rattle.clause_pool.specs.Literal.{literal}
use Rattle.clausify.specs.Coded.{construct_variables}
use Rattle.clausify.proofs.CodedLaws.{begun}
use Rattle.supplement_findings.specs.Clauses.{goal_clauses, own, question_lits}
use Rattle.supplement_findings.proofs.CodingLaws.{AreMade, own_begin, goals_begin, clauses_made}
use Rattle.supplement_findings.proofs.SizeLaws.{constructs_room, own_room}
use Rattle.supplement_findings.proofs.alone.coded_alone.Goals.{In_ok-lits}
use Rattle.supplement_findings.proofs.alone.coded_alone.Goals as goal

pub add_constructs-requires-clause-room : goal.add_constructs-requires-clause-room
add_constructs-requires-clause-room c =
    constructs_room c.args.book.now c.args.day c.in_ok-encoder.encoder.next c.codes.ensures.book
    (c.in_ok-encoder.ensures.next ∙ ap (λ n. n + 1) (c.len.ensures.value ∙ ap length c.codes.ensures.value))

pub add_own-requires-clause-room : goal.add_own-requires-clause-room
add_own-requires-clause-room c =
    let start = begun c.args.book.now c.in_ok-encoder.encoder c.len.result (c.len.ensures.value ∙ ap length c.codes.ensures.value) c.in_ok-encoder.ensures.clauses c.in_ok-encoder.ensures.truth c.in_ok-encoder.ensures.next c.in_ok-encoder.ensures.first in
    let next = own_begin c.args.book.now c.args.day c.in_ok-encoder.encoder c.add_constructs.new.encoder start c.in_ok-add_constructs.ensures.made in
    omega (arith, own_room c.args.book.now c.args.day c.add_constructs.new.encoder.next c.args.question c.requires.room next)

made : (c : In_ok-lits) → AreMade c.args.book.now c.args.day (own c.args.book.now c.args.day c.args.question) c.in_ok-encoder.encoder c.add_constructs.new.encoder c.add_own.new.encoder
made c = record {
  begun = begun c.args.book.now c.in_ok-encoder.encoder c.len.result (c.len.ensures.value ∙ ap length c.codes.ensures.value)
      c.in_ok-encoder.ensures.clauses c.in_ok-encoder.ensures.truth c.in_ok-encoder.ensures.next c.in_ok-encoder.ensures.first;
  constructs = c.in_ok-add_constructs.ensures.made;
  made = c.in_ok-lits.ensures.made;
}

next : (c : In_ok-lits) → c.add_constructs.new.encoder.next ≡ construct_variables c.args.book.now c.args.day
next c = own_begin c.args.book.now c.args.day c.in_ok-encoder.encoder c.add_constructs.new.encoder (made c).begun c.in_ok-add_constructs.ensures.made

pub overflow_add-result : goal.overflow_add-result
overflow_add-result c =
    let begin = next (goal.at.overflow_add-result c).In_ok-lits in
    omega (arith, own_room c.args.book.now c.args.day c.add_constructs.new.encoder.next c.args.question c.requires.room begin, c.into_parts-pool.ensures.vars, c.in_ok-lits.ensures.made.next)

pub returns-clause-clauses : goal.returns-clause-clauses
returns-clause-clauses c =
    let at = (goal.at.returns-clause-clauses c).In_ok-lits in
    let first = c.into_parts-pool.result.vars in
    clauses_made c.args.book.now c.args.day first (own c.args.book.now c.args.day c.args.question)
    (question_lits c.args.book.now c.args.day (construct_variables c.args.book.now c.args.day) c.args.question ∷ []) c.in_ok-encoder.encoder c.add_constructs.new.encoder c.add_own.new.encoder
    c.into_parts-pool.result.pool.clauses c.add_goal.new.pool.clauses (c.in_ok-lits.lits ∷ [])
    (made at) c.into_parts-pool.ensures.clauses c.into_parts-pool.ensures.vars
    (ap (λ l. l ∷ []) (c.in_ok-lits.ensures.lits ∙ ap (λ v. question_lits c.args.book.now c.args.day v c.args.question) (next at)))
    (c.in_ok-add_goal.ensures ∙ ap (λ (cs : List (List ℕ)). c.into_parts-pool.result.pool.clauses ++ cs) (sym (append-nil (goal_clauses first c.in_ok-lits.lits))))

pub returns-clause-vars : goal.returns-clause-vars
returns-clause-vars c = ap (λ (n : ℕ). n + 1) (c.into_parts-pool.ensures.vars ∙ goals_begin _ _ _ _ _ _ (made (goal.at.returns-clause-vars c).In_ok-lits))

pub returns-clause-goals : goal.returns-clause-goals
returns-clause-goals c =
    let goal_at = c.into_parts-pool.ensures.vars ∙ goals_begin _ _ _ _ _ _ (made (goal.at.returns-clause-goals c).In_ok-lits) in
    c.in_ok-push.ensures.items ∙ ap (λ (ls : List ℕ). ls ++ c.new-2.result ∷ []) c.new-goals.ensures.items
    ∙ ap (λ (l : ℕ). l ∷ []) (c.new-2.ensures ∙ ap (λ (n : ℕ). literal n true) goal_at)
