use Rattle.std.proofs.Common.{◌≡◌, ◌+◌, ◌<◌, length, refl, ◌∙◌, ap, arith}
use Rattle.supplement_findings.specs.Clauses.{shared_lits, shared_start}
use Rattle.supplement_findings.proofs.CodingLaws.{AreWide, are_wide, goals_room, known_count, shared_begin, wide_lits, wide_made, wide_start}
use Rattle.supplement_findings.proofs.SizeLaws.{length-shared_lits, shared_room, wide_constructs_room}
use Rattle.supplement_findings.proofs.together.coded_together.Goals.{In_ok-encoder, In_ok-add_wide_constructs, In_ok-lits}
use Rattle.supplement_findings.proofs.together.coded_together.Goals as goal

next : (c : In_ok-encoder) → c.in_ok-encoder.encoder.next ≡ length c.args.book.now.codes + 1
next c = rw (c.in_ok-encoder.ensures.next, c.len.ensures.value, c.codes.ensures.value) refl

begin : (c : In_ok-add_wide_constructs) → c.add_wide_constructs.new.encoder.next ≡ shared_start c.args.book.now c.args.day
begin c =
    let first = rw (c.len.ensures.value, c.codes.ensures.value) at c.in_ok-encoder.ensures.next in
    shared_begin c.args.book.now c.args.day c.in_ok-encoder.encoder c.add_wide_constructs.new.encoder first c.in_ok-add_wide_constructs.ensures

wide : (c : In_ok-lits)
    → AreWide c.args.book.now c.args.day c.args.codes.now c.args.questions.now c.in_ok-encoder.encoder c.add_wide_constructs.new.encoder c.add_unbroken.new.encoder c.add_all_other.new.encoder
wide c =
    are_wide c.args.book.now c.args.day c.args.codes.now c.args.questions.now c.in_ok-encoder.encoder c.add_wide_constructs.new.encoder c.add_unbroken.new.encoder c.add_all_other.new.encoder
    c.len.result (c.len.ensures.value ∙ ap length c.codes.ensures.value) c.in_ok-encoder.ensures.clauses c.in_ok-encoder.ensures.truth c.in_ok-encoder.ensures.next
    c.in_ok-add_wide_constructs.ensures c.in_ok-known.ensures.made c.in_ok-lits.ensures.made

lits : (c : In_ok-lits) → c.in_ok-lits.lits.items ≡ shared_lits c.args.book.now c.args.day c.args.codes.now (shared_start c.args.book.now c.args.day) c.args.questions.now
lits c =
    wide_lits c.args.book.now c.args.day c.args.codes.now c.args.questions.now _ _ _ _ c.deref.result.now c.in_ok-lits.lits.items (wide c) (c.deref.ensures.value ∙ c.in_ok-known.ensures.lits)
    c.in_ok-lits.ensures.lits

room : (c : In_ok-lits) → c.add_all_other.new.encoder.next + length c.args.questions.now < 4294967296
room c = goals_room _ _ _ _ _ _ _ _ (wide c) c.requires.room

pub add_wide_constructs-requires : goal.add_wide_constructs-requires
add_wide_constructs-requires c =
    wide_constructs_room c.args.book.now c.args.day c.in_ok-encoder.encoder.next c.codes.ensures.book (next (goal.at.add_wide_constructs-requires c).In_ok-encoder)

pub add_unbroken-requires-clause-room : goal.add_unbroken-requires-clause-room
add_unbroken-requires-clause-room c =
    let first = begin (goal.at.add_unbroken-requires-clause-room c).In_ok-add_wide_constructs in
    omega (arith, shared_room c.args.book.now c.args.day c.add_wide_constructs.new.encoder.next c.args.codes.now c.args.questions.now c.requires.room first)

pub add_all_other-requires-clause-counted : goal.add_all_other-requires-clause-counted
add_all_other-requires-clause-counted c =
    ap length (c.deref.ensures.value ∙ c.in_ok-known.ensures.lits)
    ∙ known_count c.args.book.now c.args.day c.add_wide_constructs.new.encoder.truth c.add_wide_constructs.new.encoder.next c.args.codes.now

pub add_all_other-requires-clause-room : goal.add_all_other-requires-clause-room
add_all_other-requires-clause-room c =
    let first = begin (goal.at.add_all_other-requires-clause-room c).In_ok-add_wide_constructs in
    omega (
      arith,
      shared_room c.args.book.now c.args.day c.add_wide_constructs.new.encoder.next c.args.codes.now c.args.questions.now c.requires.room first,
      c.in_ok-known.ensures.made.next,
    )

pub add_goals-requires : goal.add_goals-requires
add_goals-requires c =
    let at = (goal.at.add_goals-requires c).In_ok-lits in
    let count = ap length (c.deref-2.ensures.value ∙ lits at) in
    omega (arith, room at, count, length-shared_lits c.args.book.now c.args.day (shared_start c.args.book.now c.args.day) c.args.codes.now c.args.questions.now)

pub goals_from-requires : goal.goals_from-requires
goals_from-requires c = room (goal.at.goals_from-requires c).In_ok-lits

pub overflow_add-vars : goal.overflow_add-vars
overflow_add-vars c = omega (arith, room (goal.at.overflow_add-vars c).In_ok-lits)

pub returns-clause-clauses : goal.returns-clause-clauses
returns-clause-clauses c =
    let at = (goal.at.returns-clause-clauses c).In_ok-lits in
    wide_made _ _ _ _ _ _ _ _ c.add_goals.new.pool.clauses c.deref-2.result.now (wide at) (c.deref-2.ensures.value ∙ lits at) c.in_ok-add_goals.ensures

pub returns-clause-vars : goal.returns-clause-vars
returns-clause-vars c = let start = wide_start _ _ _ _ _ _ _ _ (wide (goal.at.returns-clause-vars c).In_ok-lits) in rw start refl

pub returns-clause-goals : goal.returns-clause-goals
returns-clause-goals c = let start = wide_start _ _ _ _ _ _ _ _ (wide (goal.at.returns-clause-goals c).In_ok-lits) in rw start at c.in_ok-goals.ensures
