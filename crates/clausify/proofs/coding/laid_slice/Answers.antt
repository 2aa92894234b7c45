use Rattle.std.proofs.Common.{refl, map, ℕ, List, ◌∷◌, [], ◌++◌, length, ap, ◌∙◌}
use Rattle.clausify.specs.Goals.{codes_asked_from}
use Rattle.clausify.specs.declared.question.Asked.{Asked}
use Rattle.clausify.specs.declared.question.Question.TheVariants.{Void}
use Rattle.clausify.specs.declared.question.Question.{Question}
use Rattle.clausify.proofs.QuestionLaws.{asked_in_order}
use Rattle.clausify.proofs.SteadyLaws.{codes_slice}
use Rattle.clausify.proofs.RangeLaws.{slice_in_range}
use Rattle.clausify.proofs.MeetLaws.{decides_each}
use Rattle.clausify.proofs.CodedLaws.{begun, rules_room, usages_room, goals_room, usages_are, is_coded, is_laid}
use Rattle.clausify.proofs.coding.laid_slice.Goals as goal

pub add_rules-requires-clause-room : goal.add_rules-requires-clause-room
add_rules-requires-clause-room c =
    rules_room c.args.book.now c.args.slice.now.first c.in_ok-encoder.encoder c.codes-codes.ensures.book
    (begun c.args.book.now c.in_ok-encoder.encoder c.len.result (c.len.ensures.value ∙ ap length c.codes-codes.ensures.value) c.in_ok-encoder.ensures.clauses c.in_ok-encoder.ensures.truth c.in_ok-encoder.ensures.next c.in_ok-encoder.ensures.first)

pub usages_of-requires : goal.usages_of-requires
usages_of-requires c =
    usages_room c.args.book.now c.args.slice.now.first c.in_ok-encoder.encoder c.add_rules.new.encoder c.codes-codes.ensures.book
    (begun c.args.book.now c.in_ok-encoder.encoder c.len.result (c.len.ensures.value ∙ ap length c.codes-codes.ensures.value) c.in_ok-encoder.ensures.clauses c.in_ok-encoder.ensures.truth c.in_ok-encoder.ensures.next c.in_ok-encoder.ensures.first)
    c.in_ok-add_rules.ensures.made

pub ask_choices-requires-clause-usages : goal.ask_choices-requires-clause-usages
ask_choices-requires-clause-usages c =
    c.deref.ensures.value
    ∙ usages_are c.args.book.now c.args.slice.now.first c.in_ok-encoder.encoder c.add_rules.new.encoder c.in_ok-usages.usages.items
    (begun c.args.book.now c.in_ok-encoder.encoder c.len.result (c.len.ensures.value ∙ ap length c.codes-codes.ensures.value) c.in_ok-encoder.ensures.clauses c.in_ok-encoder.ensures.truth c.in_ok-encoder.ensures.next c.in_ok-encoder.ensures.first)
    c.in_ok-add_rules.ensures.made c.in_ok-usages.ensures.usages

pub ask_choices-requires-clause-room : goal.ask_choices-requires-clause-room
ask_choices-requires-clause-room c =
    goals_room c.args.book.now c.args.slice.now.first c.in_ok-encoder.encoder c.add_rules.new.encoder c.usages_of.new.encoder c.codes-codes.ensures.book
    (begun c.args.book.now c.in_ok-encoder.encoder c.len.result (c.len.ensures.value ∙ ap length c.codes-codes.ensures.value) c.in_ok-encoder.ensures.clauses c.in_ok-encoder.ensures.truth c.in_ok-encoder.ensures.next c.in_ok-encoder.ensures.first)
    c.in_ok-add_rules.ensures.made c.in_ok-usages.ensures.made

pub returns-clause-coded : goal.returns-clause-coded
returns-clause-coded c =
    is_coded c.args.book.now c.args.slice.now.first c.new-2.result c.in_ok-encoder.encoder c.add_rules.new.encoder c.usages_of.new.encoder
    (record { pool = c.into_parts-pool.result.pool; vars = c.into_parts-pool.result.vars; questions = c.ask_choices.new.asked })
    c.push.new.self.items c.ask_codes.new.asked.items
    (begun c.args.book.now c.in_ok-encoder.encoder c.len.result (c.len.ensures.value ∙ ap length c.codes-codes.ensures.value) c.in_ok-encoder.ensures.clauses c.in_ok-encoder.ensures.truth c.in_ok-encoder.ensures.next c.in_ok-encoder.ensures.first)
    c.in_ok-add_rules.ensures.made c.in_ok-usages.ensures.made
    (c.into_parts-pool.ensures.clauses ∙ c.in_ok-ask_choices.ensures.made.clauses) (c.into_parts-pool.ensures.vars ∙ c.in_ok-ask_choices.ensures.made.next)
    c.new-2.ensures
    (c.in_ok-push.ensures.items ∙ ap (λ (qs : List Asked). qs ++ record { question = Void; goal = c.new-2.result } ∷ []) c.new-questions.ensures.items)
    (c.in_ok-ask_codes.ensures ∙ ap (λ (names : List (List ℕ)). c.push.new.self.items ++ codes_asked_from 0 names) c.codes-codes.ensures.value)
    c.in_ok-ask_choices.ensures.asked

pub returns-clause-questions : goal.returns-clause-questions
returns-clause-questions c =
    let question_of : Asked → Question = λ q. q.question in
    ap (map question_of) (returns-clause-coded c).asked ∙ asked_in_order c.args.book.now c.args.slice.now.first

pub returns-clause-ranges : goal.returns-clause-ranges
returns-clause-ranges c =
    slice_in_range c.args.book.now c.args.slice.now.first _ c.codes-codes.ensures.book (returns-clause-coded c)

pub returns-clause-sets : goal.returns-clause-sets
returns-clause-sets c = codes_slice c.args.book.now c.args.slice.now _ c.codes-codes.ensures.book (returns-clause-coded c)

pub returns-clause-decides : goal.returns-clause-decides
returns-clause-decides c = λ steady order.
    decides_each c.args.book.now c.args.slice.now _
    (codes_slice c.args.book.now c.args.slice.now _ c.codes-codes.ensures.book (returns-clause-coded c) steady) order

pub returns-clause-layout : goal.returns-clause-layout
returns-clause-layout c =
    is_laid c.args.book.now c.args.slice.now.first c.in_ok-encoder.encoder c.add_rules.new.encoder c.usages_of.new.encoder c.into_parts-pool.result
    c.new-starts.result.items c.add_rules.new.starts.items c.usages_of.new.starts.items c.start-goals.result
    (record { gates = c.into_parts-pool.result.gates; starts = c.usages_of.new.starts; goals = c.start-goals.result })
    (record { pool = c.into_parts-pool.result.pool; vars = c.into_parts-pool.result.vars; questions = c.ask_choices.new.asked })
    (begun c.args.book.now c.in_ok-encoder.encoder c.len.result (c.len.ensures.value ∙ ap length c.codes-codes.ensures.value) c.in_ok-encoder.ensures.clauses c.in_ok-encoder.ensures.truth c.in_ok-encoder.ensures.next c.in_ok-encoder.ensures.first)
    c.in_ok-add_rules.ensures.made c.in_ok-usages.ensures.made
    c.new-starts.ensures.items c.in_ok-add_rules.ensures.starts c.in_ok-usages.ensures.starts c.start-goals.ensures
    (c.into_parts-pool.ensures.first ∙ c.in_ok-ask_choices.ensures.made.first) refl refl c.into_parts-pool.ensures.count c.into_parts-pool.ensures.gates
    (returns-clause-coded c) refl refl refl
