use Rattle.std.proofs.Common.{◌≡◌, ℕ, List, [], ◌∷◌, length, take, inl, ap, subst, ◌∙◌, arith}
use Rattle.std.specs.Option.{option_map}
use Rattle.disk.specs.Disk.{overwritten, Torn, IsCutOrNot, AfterStep}
use Rattle.journal_keeper.specs.Stage.{IsBlank, KeepsBlank}
use Rattle.disk.proofs.Moments.{and_then, widened}
use Rattle.journal_keeper.proofs.Told.{came_from, mapped, map_map, Both, both, at_err}
use Rattle.journal_keeper.proofs.Blanks.{cut_only, written_only, step_from, becomes_weaker, keeps_empty, cut_blank, first_empty, others_empty}
use Rattle.journal_keeper.proofs.beginning.clear.Goals as goal

pub write_through-requires-2 : goal.write_through-requires-2
write_through-requires-2 g c =
    let content = g.D.Disk.content c.args.disk.now in
    let content'' = g.D.Disk.content c.write_through.new.disk in
    let two : content'' ≡ option_map (λ _. 0 ∷ []) content =
    c.in_ok-write_through.ensures.written ∙ ap (option_map (overwritten 0 (0 ∷ []))) c.in_ok-cut_through.ensures.cut ∙ map_map (take 0) (overwritten 0 (0 ∷ [])) content in
    λ file told.
    let from = came_from (λ f f'. f' ≡ 0 ∷ []) content content'' file (mapped (λ _. 0 ∷ []) content content'' two) told in
    omega (arith, ap length from.2)

pub returns-in_err-cut_through-clause-kept : goal.returns-in_err-cut_through-clause-kept
returns-in_err-cut_through-clause-kept g c =
    at_err c.from_residual.result (becomes_weaker (IsCutOrNot 0) KeepsBlank (g.D.Disk.content c.args.disk.now) (g.D.Disk.content c.cut_through.new.disk)
    (λ file file' told cut. cut_blank file file' cut) c.in_err-cut_through.ensures.torn)

pub returns-in_err-cut_through-clause-any_moment : goal.returns-in_err-cut_through-clause-any_moment
returns-in_err-cut_through-clause-any_moment g c = λ file told blank only.
    let leaves = g.D.Disk.may_leave c.args.disk.now in
    widened g.D.Disk.moment g.D.Disk.left_since c.args.disk.now c.cut_through.new.disk IsBlank (AfterStep (IsCutOrNot 0) leaves) c.cut_through.ensures.any_moment
    (step_from (IsCutOrNot 0) IsBlank file leaves only (λ image cut. (cut_blank file image cut).blank blank))

pub returns-in_err-write_through-clause-kept : goal.returns-in_err-write_through-clause-kept
returns-in_err-write_through-clause-kept g c =
    let content = g.D.Disk.content c.args.disk.now in
    let content' = g.D.Disk.content c.cut_through.new.disk in
    let content'' = g.D.Disk.content c.write_through.new.disk in
    let one : List ℕ → List ℕ → Type 0 = λ file file'. file' ≡ take 0 file in
    at_err c.from_residual-in_err-write_through.result (becomes_weaker (Both one (Torn 0 1) content') KeepsBlank content content''
    (λ file file' told steps. keeps_empty file file' (first_empty file' (subst (λ f. Torn 0 1 f file') steps.2 steps.3)))
    (both one (Torn 0 1) content content' content'' (mapped (take 0) content content' c.in_ok-cut_through.ensures.cut) c.in_err-write_through.ensures.torn))

pub returns-in_err-write_through-clause-any_moment : goal.returns-in_err-write_through-clause-any_moment
returns-in_err-write_through-clause-any_moment g c = λ file told blank only.
    let content' = g.D.Disk.content c.cut_through.new.disk in
    let leaves = g.D.Disk.may_leave c.args.disk.now in
    let leaves' = g.D.Disk.may_leave c.cut_through.new.disk in
    let first = widened g.D.Disk.moment g.D.Disk.left_since c.args.disk.now c.cut_through.new.disk IsBlank (AfterStep (IsCutOrNot 0) leaves) c.cut_through.ensures.any_moment
    (step_from (IsCutOrNot 0) IsBlank file leaves only (λ image cut. (cut_blank file image cut).blank blank)) in
    and_then g.D.Disk.moment g.D.Disk.left_since c.args.disk.now c.cut_through.new.disk c.write_through.new.disk IsBlank (AfterStep (Torn 0 1) leaves') first c.write_through.ensures.any_moment
    (step_from (Torn 0 1) IsBlank [] leaves' (cut_only leaves leaves' c.in_ok-cut_through.ensures.durable) (λ image torn. inl (first_empty image torn)))

pub returns-in_err-write_through-2-clause-kept : goal.returns-in_err-write_through-2-clause-kept
returns-in_err-write_through-2-clause-kept g c =
    let content = g.D.Disk.content c.args.disk.now in
    let content'' = g.D.Disk.content c.write_through.new.disk in
    let content''' = g.D.Disk.content c.write_through-2.new.disk in
    let two : content'' ≡ option_map (λ _. 0 ∷ []) content =
    c.in_ok-write_through.ensures.written ∙ ap (option_map (overwritten 0 (0 ∷ []))) c.in_ok-cut_through.ensures.cut ∙ map_map (take 0) (overwritten 0 (0 ∷ [])) content in
    let one : List ℕ → List ℕ → Type 0 = λ file file'. file' ≡ 0 ∷ [] in
    at_err c.from_residual-in_err-write_through-2.result (becomes_weaker (Both one (Torn 1 8) content'') KeepsBlank content content'''
    (λ file file' told steps. keeps_empty file file' (others_empty file' (subst (λ f. Torn 1 8 f file') steps.2 steps.3)))
    (both one (Torn 1 8) content content'' content''' (mapped (λ _. 0 ∷ []) content content'' two) c.in_err-write_through-2.ensures.torn))

pub returns-in_err-write_through-2-clause-any_moment : goal.returns-in_err-write_through-2-clause-any_moment
returns-in_err-write_through-2-clause-any_moment g c = λ file told blank only.
    let content' = g.D.Disk.content c.cut_through.new.disk in
    let content'' = g.D.Disk.content c.write_through.new.disk in
    let leaves = g.D.Disk.may_leave c.args.disk.now in
    let leaves' = g.D.Disk.may_leave c.cut_through.new.disk in
    let leaves'' = g.D.Disk.may_leave c.write_through.new.disk in
    let first = widened g.D.Disk.moment g.D.Disk.left_since c.args.disk.now c.cut_through.new.disk IsBlank (AfterStep (IsCutOrNot 0) leaves) c.cut_through.ensures.any_moment
    (step_from (IsCutOrNot 0) IsBlank file leaves only (λ image cut. (cut_blank file image cut).blank blank)) in
    let second = and_then g.D.Disk.moment g.D.Disk.left_since c.args.disk.now c.cut_through.new.disk c.write_through.new.disk IsBlank (AfterStep (Torn 0 1) leaves') first c.write_through.ensures.any_moment
    (step_from (Torn 0 1) IsBlank [] leaves' (cut_only leaves leaves' c.in_ok-cut_through.ensures.durable) (λ image torn. inl (first_empty image torn))) in
    and_then g.D.Disk.moment g.D.Disk.left_since c.args.disk.now c.write_through.new.disk c.write_through-2.new.disk IsBlank (AfterStep (Torn 1 8) leaves'') second c.write_through-2.ensures.any_moment
    (step_from (Torn 1 8) IsBlank (0 ∷ []) leaves'' (written_only 0 (0 ∷ []) [] leaves' leaves'' (omega arith) (cut_only leaves leaves' c.in_ok-cut_through.ensures.durable) c.in_ok-write_through.ensures.durable) (λ image torn. inl (others_empty image torn)))

pub returns-clause-done : goal.returns-clause-done
returns-clause-done g c =
    let content = g.D.Disk.content c.args.disk.now in
    let content'' = g.D.Disk.content c.write_through.new.disk in
    let two : content'' ≡ option_map (λ _. 0 ∷ []) content =
    c.in_ok-write_through.ensures.written ∙ ap (option_map (overwritten 0 (0 ∷ []))) c.in_ok-cut_through.ensures.cut ∙ map_map (take 0) (overwritten 0 (0 ∷ [])) content in
    let others = 80 ∷ 66 ∷ 74 ∷ 79 ∷ 85 ∷ 82 ∷ 78 ∷ 0 ∷ [] in
    c.in_ok-write_through-2.ensures.written ∙ ap (option_map (overwritten 1 others)) two ∙ map_map (λ _. 0 ∷ []) (overwritten 1 others) content

pub returns-clause-durable : goal.returns-clause-durable
returns-clause-durable g c =
    let leaves = g.D.Disk.may_leave c.args.disk.now in
    let leaves' = g.D.Disk.may_leave c.cut_through.new.disk in
    let leaves'' = g.D.Disk.may_leave c.write_through.new.disk in
    let leaves''' = g.D.Disk.may_leave c.write_through-2.new.disk in
    written_only 1 (80 ∷ 66 ∷ 74 ∷ 79 ∷ 85 ∷ 82 ∷ 78 ∷ 0 ∷ []) (0 ∷ []) leaves'' leaves''' (omega arith)
    (written_only 0 (0 ∷ []) [] leaves' leaves'' (omega arith) (cut_only leaves leaves' c.in_ok-cut_through.ensures.durable) c.in_ok-write_through.ensures.durable)
    c.in_ok-write_through-2.ensures.durable

pub returns-clause-any_moment : goal.returns-clause-any_moment
returns-clause-any_moment g c = λ file told blank only.
    let content' = g.D.Disk.content c.cut_through.new.disk in
    let content'' = g.D.Disk.content c.write_through.new.disk in
    let leaves = g.D.Disk.may_leave c.args.disk.now in
    let leaves' = g.D.Disk.may_leave c.cut_through.new.disk in
    let leaves'' = g.D.Disk.may_leave c.write_through.new.disk in
    let first = widened g.D.Disk.moment g.D.Disk.left_since c.args.disk.now c.cut_through.new.disk IsBlank (AfterStep (IsCutOrNot 0) leaves) c.cut_through.ensures.any_moment
    (step_from (IsCutOrNot 0) IsBlank file leaves only (λ image cut. (cut_blank file image cut).blank blank)) in
    let second = and_then g.D.Disk.moment g.D.Disk.left_since c.args.disk.now c.cut_through.new.disk c.write_through.new.disk IsBlank (AfterStep (Torn 0 1) leaves') first c.write_through.ensures.any_moment
    (step_from (Torn 0 1) IsBlank [] leaves' (cut_only leaves leaves' c.in_ok-cut_through.ensures.durable) (λ image torn. inl (first_empty image torn))) in
    and_then g.D.Disk.moment g.D.Disk.left_since c.args.disk.now c.write_through.new.disk c.write_through-2.new.disk IsBlank (AfterStep (Torn 1 8) leaves'') second c.write_through-2.ensures.any_moment
    (step_from (Torn 1 8) IsBlank (0 ∷ []) leaves'' (written_only 0 (0 ∷ []) [] leaves' leaves'' (omega arith) (cut_only leaves leaves' c.in_ok-cut_through.ensures.durable) c.in_ok-write_through.ensures.durable) (λ image torn. inl (others_empty image torn)))
