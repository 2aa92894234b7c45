use Rattle.std.proofs.Common.{ℕ, sym, subst}
use Rattle.clausify.proofs.ItemLaws.{AllFit}
use Rattle.item_search.proofs.EncodedLaws.{encoded_below, encoded_within}
use Rattle.blame.specs.Blame.{blame_items}
use Rattle.blame.proofs.CodeLaws.{blame_fit}
use Rattle.blame.proofs.coding.begin.Goals as goal

pub solver_over-requires-clause-below : goal.solver_over-requires-clause-below
solver_over-requires-clause-below c =
    let is = blame_items c.args.book.now c.args.entries.now c.args.rule.now in
    encoded_below is c.in_ok-encoder.encoder
    (subst (λ (n : ℕ). AllFit n is) (sym c.in_ok-encoder.ensures.truth)
    (blame_fit c.args.book.now c.args.day c.codes-codes.ensures.book c.args.entries.now c.args.rule.now c.requires.fit c.requires.rule))
    c.in_ok-encoder.ensures.encoded

pub solver_over-requires-clause-codes : goal.solver_over-requires-clause-codes
solver_over-requires-clause-codes c =
    encoded_within (blame_items c.args.book.now c.args.entries.now c.args.rule.now) c.in_ok-encoder.encoder c.in_ok-encoder.ensures.encoded

pub returns : goal.returns
returns c =
    rw c.in_ok-encoder.ensures.truth at
    (c.solver_over.ensures.over (blame_items c.args.book.now c.args.entries.now c.args.rule.now) c.in_ok-encoder.ensures.encoded)
