use Rattle.std.proofs.Common.{◌≡◌, length, sym, ap, ◌∙◌, arith}
use Rattle.clausify.proofs.CodedLaws.{begun, rules_room}
use Rattle.rules_met.specs.Source.{rules_at}
use Rattle.rules_met.proofs.CodingLaws.{room_left, variables_made, clauses_made}
use Rattle.rules_met.proofs.source.coded_rules.Goals as goal

pub add_rules-requires-clause-room : goal.add_rules-requires-clause-room
add_rules-requires-clause-room c =
    let e = c.in_ok-encoder.ensures in
    let start = begun c.args.book.now c.in_ok-encoder.encoder c.len.result (c.len.ensures.value ∙ ap length c.codes.ensures.value) e.clauses e.truth e.next e.first in
    rules_room c.args.book.now c.args.day c.in_ok-encoder.encoder c.codes.ensures.book start

pub literals-requires-clause-room : goal.literals-requires-clause-room
literals-requires-clause-room c =
    let e = c.in_ok-encoder.ensures in
    let start = begun c.args.book.now c.in_ok-encoder.encoder c.len.result (c.len.ensures.value ∙ ap length c.codes.ensures.value) e.clauses e.truth e.next e.first in
    let gs = rules_at c.args.rules.now c.args.questions.now in
    room_left c.args.book.now c.args.day gs c.in_ok-encoder.encoder c.add_rules.new.encoder c.add_rules.new.encoder start c.in_ok-add_rules.ensures.made c.requires.room

pub returns-clause-clauses : goal.returns-clause-clauses
returns-clause-clauses c =
    let e = c.in_ok-encoder.ensures in
    let start = begun c.args.book.now c.in_ok-encoder.encoder c.len.result (c.len.ensures.value ∙ ap length c.codes.ensures.value) e.clauses e.truth e.next e.first in
    let gs = rules_at c.args.rules.now c.args.questions.now in
    c.into_parts-pool.ensures.clauses
    ∙ clauses_made c.args.book.now c.args.day gs c.in_ok-encoder.encoder c.add_rules.new.encoder c.literals.new.encoder start c.in_ok-add_rules.ensures.made c.in_ok-goals.ensures.made

pub returns-clause-vars : goal.returns-clause-vars
returns-clause-vars c =
    let e = c.in_ok-encoder.ensures in
    let start = begun c.args.book.now c.in_ok-encoder.encoder c.len.result (c.len.ensures.value ∙ ap length c.codes.ensures.value) e.clauses e.truth e.next e.first in
    let gs = rules_at c.args.rules.now c.args.questions.now in
    c.into_parts-pool.ensures.vars
    ∙ variables_made c.args.book.now c.args.day gs c.in_ok-encoder.encoder c.add_rules.new.encoder c.literals.new.encoder start c.in_ok-add_rules.ensures.made c.in_ok-goals.ensures.made
