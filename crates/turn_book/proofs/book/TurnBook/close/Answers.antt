use Rattle.std.proofs.Common.{◌+◌, length, refl, ◌∙◌, sym, ap, ap₂, subst, subst₂, IsSome}
use mathlib.Core.Option.{some-injective}
use Rattle.turn_book.specs.History.{end_of, IsHistory, AreAllBelow}
use Rattle.turn_book.proofs.Histories.{end_valid}
use Rattle.turn_book.proofs.Turns.{some_same}
use Rattle.turn_book.proofs.Ends.{closes}
use Rattle.turn_book.proofs.book.TurnBook.close.Goals as goal

pub full-requires : goal.full-requires
full-requires g c =
    let counted = ap₂ (λ a b. a + b) (sym c.pass.invariant.2 ∙ ap (λ p. p.left) c.pass.view_is) (ap (λ p. length p.own) c.pass.view_is) ∙ c.requires.counted ∙ sym (ap (λ b. b.limit) c.self.view_is) in
    let closing = closes _ _ _ _ _ _ _ c.pass.invariant.1 counted c.close_with-closed.ensures.values.2 in
    let held_is = some-injective _ _ (sym closing.machine ∙ c.take-held.ensures.value) in
    subst IsSome held_is refl

pub returns : goal.returns
returns g c =
    let counted = ap₂ (λ a b. a + b) (sym c.pass.invariant.2 ∙ ap (λ p. p.left) c.pass.view_is) (ap (λ p. length p.own) c.pass.view_is) ∙ c.requires.counted ∙ sym (ap (λ b. b.limit) c.self.view_is) in
    let closing = closes _ _ _ _ _ _ _ c.pass.invariant.1 counted c.close_with-closed.ensures.values.2 in
    let held_is = some-injective _ _ (sym closing.machine ∙ c.take-held.ensures.value) in
    let same = some_same _ _ (sym c.full.ensures ∙ sym held_is) in
    let start_is = ap (λ b. b.start) c.self.view_is in
    let seen_is = ap (λ p. p.seen) c.pass.view_is in
    record {
      machine = same ∙ ap₂ end_of start_is seen_is;
      valid = subst g.M.Machine.valid (sym same) (end_valid _ _ _ g.met.M.Machine.stays_valid _ _ closing.is_good.0 closing.is_good.1);
      history = subst₂ (IsHistory g.M.Machine.fits g.M.Machine.legal) start_is seen_is closing.is_good.1;
      made = sym (ap length seen_is) ∙ closing.made_all ∙ ap (λ p. length p.own) c.pass.view_is;
      own = subst₂ (λ l own. AreAllBelow (length l) own) seen_is (ap (λ p. p.own) c.pass.view_is) closing.own;
    }
