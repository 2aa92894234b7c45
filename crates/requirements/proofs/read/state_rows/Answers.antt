use Rattle.std.proofs.Common.{◌≡◌, ◌+◌, ◌<◌, ◌++◌, [], ◌∷◌, List, Ok, length, map, refl, sym, ap, ◌∙◌, arith}
use Rattle.std.proofs.lemmas.List.{length_push, map-append}
use Rattle.std.proofs.lemmas.List.Elements.{All-push}
use Rattle.requirements.specs.Pass.{pass}
use Rattle.requirements.specs.Stated.{stated_with, ids_of, IsShortText}
use Rattle.requirements.specs.declared.stated.Stated.{Stated}
use Rattle.requirements.proofs.PassLemmas.{pass-more, pass-fault, pass-end}
use Rattle.requirements.proofs.read.state_rows.Goals as goal

pub rows-init : goal.rows-init
rows-init c = record {
  rest = rw c.requires.none refl;
  ids = rw (c.requires.none, c.new-ids.ensures) refl;
  few = rw c.requires.none (omega (arith, c.requires.count));
  short = rw c.requires.none (λ k d inside. absurd (omega (arith, inside)));
}

pub rows-preserved : goal.rows-preserved
rows-preserved c =
    let inv = c.rows.invariant in
    let row = c.read.new.row in
    let next : c.rows.rows ≡ row ∷ c.read.new.self = rw c.if-branch.true at c.in_ok-read.ensures.next in
    let step = stated_with c.args.term in
    let before = c.rows.stated.items in
    let own = c.in-Ok.own in
    let n = length before + 1 in
    let made : step before row ≡ Ok (before ++ own ∷ []) = c.in-Ok.ensures.stated before inv.ids in
    let number : length (before ++ own ∷ []) + 1 ≡ n + 1 = omega (arith, length_push before own) in
    let ids : c.state_row.new.ids ≡ ids_of (before ++ own ∷ []) =
    c.in-Ok.ensures.ids ∙ ap (λ names. names ++ own.head.id ∷ []) inv.ids ∙ sym (map-append (λ (s : Stated). s.head.id) before (own ∷ [])) in
    rw c.in_ok-push-in-Ok.ensures.items (record {
      rest =
          ap (λ m. pass step m (before ++ own ∷ []) c.read.new.self) number
          ∙ sym (pass-more step n before (before ++ own ∷ []) row c.read.new.self made)
          ∙ ap (pass step n before) (sym next) ∙ inv.rest;
      ids = ids;
      few = omega (arith, length_push before own, ap length next, inv.few);
      short = All-push IsShortText before own inv.short c.in-Ok.ensures.short;
    })

pub rows-smaller : goal.rows-smaller
rows-smaller c =
    let next : c.rows.rows ≡ c.read.new.row ∷ c.read.new.self = rw c.if-branch.true at c.in_ok-read.ensures.next in
    let fewer : length c.read.new.self < length c.rows.rows = omega (arith, ap length next) in
    fewer

pub returns-in-Err-Refused-clause-stated : goal.returns-in-Err-Refused-clause-stated
returns-in-Err-Refused-clause-stated c =
    let inv = c.rows.invariant in
    let row = c.read.new.row in
    let next : c.rows.rows ≡ row ∷ c.read.new.self = rw c.if-branch.true at c.in_ok-read.ensures.next in
    let step = stated_with c.args.term in
    let before = c.rows.stated.items in
    let n = length before + 1 in
    let fault = rw c.in-Err-Refused.field-0-is at (c.in-Err-Refused.ensures.stated before inv.ids) in
    let count : c.len.result ≡ length before = omega (arith, c.len.ensures, c.rows.stated.ok.0) in
    rw (count, c.in-Err-Refused.field-0-is) (
    sym inv.rest ∙ ap (pass step n before) next
    ∙ pass-fault step n before row c.read.new.self c.in-Err-Refused.kind fault)

pub returns-clause-stated : goal.returns-clause-stated
returns-clause-stated c =
    let none : c.rows.rows ≡ [] = rw c.if-branch.false at c.in_ok-read.ensures.next in
    let step = stated_with c.args.term in
    let before = c.rows.stated.items in
    sym c.rows.invariant.rest ∙ ap (pass step (length before + 1) before) none ∙ pass-end step (length before + 1) before
