use Rattle.std.proofs.Common.{rules, ◌≡◌, ℕ, ◌+◌, ◌++◌, ◌∷◌, [], eqb, true, length, take, refl, sym, ap, subst, arith}
use Rattle.std.specs.List.{list_any}
use Rattle.book_model.proofs.BookLimits.{constructs_below}
use Rattle.supplement_findings.specs.Answering.{IsRead}
use Rattle.supplement_findings.specs.declared.question.SupplementQuestion.TheVariants.{Breaks}
use Rattle.supplement_findings.proofs.GroupLaws.{taken_read, taken_code, read_at_last}
use Rattle.supplement_findings.proofs.SizeLaws.{touched_few}
use Rattle.supplement_findings.proofs.group.take_rule.Goals as goal

pub has_room-requires-clause-none : goal.has_room-requires-clause-none
has_room-requires-clause-none c = λ e. c.requires.group.none (ap (λ (n : ℕ). length (take n c.args.questions.now)) e)

pub has_room-requires-clause-own : goal.has_room-requires-clause-own
has_room-requires-clause-own c =
    let b = c.args.book.now in
    omega (arith, ap length c.touched_at-own.ensures, touched_few c.code_at-code.result 0 b.constructs, constructs_below b c.codes.ensures.book)

pub returns-then-is_among-clause-further : goal.returns-then-is_among-clause-further
returns-then-is_among-clause-further c = λ took.
    let b = c.args.book.now in
    let old = c.args.group.now in
    let among : list_any (λ (j : ℕ). eqb j c.code_at-code.result) old.codes.items ≡ true = search rules in
    taken_read b c.args.questions.now c.args.place (Breaks c.args.rule) c.requires.there old
    (record { codes = old.codes; touched = old.touched; len = old.len + 1 }) c.requires.group
    (subst (λ (k : ℕ). list_any (λ (j : ℕ). eqb j k) old.codes.items ≡ true) c.code_at-code.ensures.is among) refl refl

pub overflow_add-group-3 : goal.overflow_add-group-3
overflow_add-group-3 c = omega (arith, c.requires.len, c.requires.within)

pub returns-clause-further : goal.returns-clause-further
returns-clause-further c = λ took.
    let b = c.args.book.now in
    let old = c.args.group.now in
    let room : c.has_room.result ≡ true = search rules in
    taken_code b c.args.questions.now c.args.place (Breaks c.args.rule) c.requires.there old
    (record { codes = c.push.new.self; touched = old.touched + length c.touched_at-own.result.now; len = old.len + 1 }) c.requires.group c.code_at-code.result
    (subst (λ (k : ℕ). IsRead b (old.codes.items ++ k ∷ []) (Breaks c.args.rule)) (sym c.code_at-code.ensures.is) (read_at_last b old.codes.items c.args.rule))
    c.code_at-code.ensures.within c.in_ok-push.ensures.items (ap (λ (n : ℕ). old.touched + n) (ap length c.touched_at-own.ensures))
    (omega (arith, c.has_room.ensures.few room, ap length c.touched_at-own.ensures))
