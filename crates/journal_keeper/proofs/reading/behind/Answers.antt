use Rattle.std.proofs.Common.{◌≡◌, ℕ, ◌+◌, ◌<◌, List, [], ◌∷◌, length, get_or, drop, None, sym, ap, ◌∙◌}
use Rattle.std.proofs.lemmas.List.{drop_more, nil_from_length}
use Rattle.journal_keeper.specs.Journal.{behind}
use Rattle.journal_keeper.proofs.reading.behind.Goals as goal

-- the file ends within the front
ended : (front : List ℕ) (i : ℕ) (rest file : List ℕ) → i < length front → length rest ≡ 0 → behind (drop i front) rest ≡ behind front file → None ≡ behind front file
ended front i rest file within out so_far =
    let gone : behind (drop i front) rest ≡ behind (get_or front i 0 ∷ drop (i + 1) front) [] =
    ap (λ r. behind (drop i front) r) (nil_from_length rest out) ∙ ap (λ f. behind f []) (drop_more front i 0 within) in
    sym gone ∙ so_far

pub returns-in_err-first : goal.returns-in_err-first
returns-in_err-first c =
    rw c.from_residual.ensures (ended c.args.front.now c.loop-byte.byte-index c.loop-byte.rest.now c.args.file.now c.loop-byte-test.true c.in_err-first.ensures.cases c.loop-byte.invariant)
