use Rattle.std.proofs.Common.{◌≡◌, ◌++◌, ◌<◌, ◌≤◌, length, get_or, sym, subst, arith}
use Rattle.std.specs.List.{All}
use Rattle.std.proofs.lemmas.List.{take_all}
use Rattle.std.proofs.lemmas.List.Elements.{All-more}
use Rattle.clause_pool.specs.declared.chain.Pair.{Pair}
use Rattle.derivation.specs.Written.{PairFits, pair_words, spaced}
use Rattle.derivation.proofs.PairLaws.{with_pair}
use Rattle.derivation.proofs.write.put_pairs.Goals as goal

pub loop-pair-preserved : goal.loop-pair-preserved
loop-pair-preserved c =
    let pairs = c.args.pairs.now in
    let i = c.loop-pair.pair-index in
    let p = c.pair-pair.result in
    let is = subst (λ (q : Pair). q ≡ get_or pairs i q) (sym c.pair-pair.ensures) c.pair-item.is in
    let below : i < length pairs = omega arith in
    record {
      words = with_pair (c.args.text.now ++ spaced (pair_words pairs)) c.loop-pair.text c.put_literal.new.text c.put_number.new.text pairs i p below is
          c.in_ok-put_literal.ensures.word c.in_ok-put_number.ensures.word c.loop-pair.invariant.words;
      fit = All-more PairFits pairs i p below c.loop-pair.invariant.fit (subst PairFits is (record { lit = c.in_ok-put_literal.ensures.fits; other = c.put_number.ensures.fits }));
    }

pub returns-clause-fit : goal.returns-clause-fit
returns-clause-fit c =
    let done : length c.args.pairs.now ≤ c.loop-pair.pair-index = omega arith in
    subst (All PairFits) (take_all c.loop-pair.pair-index c.args.pairs.now done) c.loop-pair.invariant.fit
