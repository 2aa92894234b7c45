use Rattle.std.proofs.Common.{◌≡◌, ℕ, ◌+◌, ◌-◌, true, List, length, take, drop, length-drop, ap, sym, subst, arith, All}
use Rattle.std.proofs.lemmas.List.{take_rest}
use Rattle.std.proofs.lemmas.List.Elements.{All-take, All-drop}
use Rattle.inquiry.proofs.PartLaws.{parts_further}
use Rattle.supplement_findings.specs.Answering.{IsGroup, IsPosed, IsSource, inquiry}
use Rattle.supplement_findings.specs.Notes.{OwnNotes}
use Rattle.supplement_findings.specs.Questions.{is_put, QuestionFits}
use Rattle.supplement_findings.proofs.GroupLaws.{posed_of, ready_of}
use Rattle.supplement_findings.proofs.slice.notes_on.Goals as goal

pub notes_by-requires-clause-ready : goal.notes_by-requires-clause-ready
notes_by-requires-clause-ready c =
    subst (IsSource c.args.book.now c.args.touched.now) (sym c.deref.ensures.value)
    (ready_of c.args.book.now _ c.args.touched.now c.in_ok-group.group c.codes.ensures.book c.requires.touched c.in_ok-group.ensures.group)

pub notes_by-requires-clause-posed : goal.notes_by-requires-clause-posed
notes_by-requires-clause-posed c =
    let b = c.args.book.now in
    let day = c.args.task.slice.first in
    let group = c.in_ok-group.group in
    let at = c.loop-at.at in
    let qs = c.args.questions.now in
    let same : group.len ≡ at + group.len - at = omega arith in
    let whole : IsGroup b (take group.len (drop at qs)) group = subst (λ ls. IsGroup b (take group.len ls) group) (take_rest qs at) c.in_ok-group.ensures.group in
    subst (λ (cs : List ℕ). All (IsPosed b day cs) (take (at + group.len - at) (drop at qs))) (sym c.deref.ensures.value)
    (subst (λ (n : ℕ). All (IsPosed b day group.codes.items) (take n (drop at qs))) same
    (posed_of b day (take group.len (drop at qs)) group (All-take (QuestionFits b) group.len (drop at qs) (All-drop (QuestionFits b) at qs c.requires.fit))
    (All-take (λ q. is_put b day q ≡ true) group.len (drop at qs) (All-drop (λ q. is_put b day q ≡ true) at qs c.requires.put)) whole))

pub loop-at-preserved : goal.loop-at-preserved
loop-at-preserved c =
    let qs = c.args.questions.now in
    let group = c.in_ok-group.group in
    record {
      within = omega (arith, c.in_ok-group.ensures.within, ap length (take_rest qs c.loop-at.at), length-drop c.loop-at.at qs);
      parts =
          parts_further (OwnNotes (inquiry c.args.book.now c.args.task.budget) c.args.task.slice) qs c.loop-at.at (c.loop-at.at + group.len) c.loop-at.notes.items c.in_ok-own.own.items
          c.append.new.self.items (omega arith) c.loop-at.invariant.parts c.in_ok-own.ensures.notes c.in_ok-append.ensures.items;
      built = c.notes_by.ensures.built;
    }
