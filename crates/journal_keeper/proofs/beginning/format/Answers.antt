use Rattle.std.proofs.Common.{◌≡◌, ℕ, List, [], ◌∷◌, ◌++◌, refl, sym, ap, subst, ◌∙◌, arith, false}
use Rattle.std.specs.Option.{option_map}
use Rattle.keeper.specs.Rows.{bare}
use Rattle.journal_keeper.specs.declared.stage.Stage.TheVariants.{Late, Open}
use Rattle.disk.specs.Disk.{overwritten, Torn, AfterStep, Only}
use Rattle.journal_keeper.specs.Journal.{header, unopened}
use Rattle.journal_keeper.specs.Stage.{seen_by, IsBlank, KeepsBlank}
use Rattle.disk.proofs.Moments.{and_then}
use Rattle.journal_keeper.proofs.Told.{came_from, mapped, told_by, map_map, Both, both, at_err}
use Rattle.journal_keeper.proofs.Blanks.{written_only, step_from, last_blank, new_open, counted_seen, counted_still, counted_sound}
use Rattle.journal_keeper.proofs.Doubts.{empty_undoubted}
use Rattle.journal_keeper.proofs.beginning.format.Goals as goal

pub returns-in_err-clear-clause-sound : goal.returns-in_err-clear-clause-sound
returns-in_err-clear-clause-sound g c =
    let content = g.D.Disk.content c.args.disk.now in
    let content' = g.D.Disk.content c.clear.new.disk in
    counted_sound c.args.stage.now content' (g.D.Disk.may_leave c.clear.new.disk) (λ file' told.
    let from = came_from KeepsBlank content content' file' c.in_err-clear.ensures.kept told in
    let empty = c.requires.empty from.0 from.1 in
    (counted_still c.args.stage.now from.0 file' empty.0 from.2, from.2.blank empty.1))

pub returns-in_err-clear-clause-unchanged : goal.returns-in_err-clear-clause-unchanged
returns-in_err-clear-clause-unchanged g c =
    at_err c.from_residual.result (told_by KeepsBlank (λ _. bare 0) (seen_by c.args.stage.now) (g.D.Disk.content c.args.disk.now) (g.D.Disk.content c.clear.new.disk) c.in_err-clear.ensures.kept
    (λ file file' told keeps. counted_seen c.args.stage.now file' (counted_still c.args.stage.now file file' (c.requires.empty file told).0 keeps)))

pub returns-in_err-clear-clause-doubt : goal.returns-in_err-clear-clause-doubt
returns-in_err-clear-clause-doubt g c =
    empty_undoubted c.args.stage.now (g.D.Disk.content c.args.disk.now) (g.D.Disk.content c.clear.new.disk) KeepsBlank c.in_err-clear.ensures.kept
    (λ file told. (c.requires.empty file told).0)

pub returns-in_err-clear-clause-any_moment : goal.returns-in_err-clear-clause-any_moment
returns-in_err-clear-clause-any_moment g c = λ file told. c.clear.ensures.any_moment file told (c.requires.empty file told).1 (c.requires.durable file told)

pub returns-in_err-write_through-clause-sound : goal.returns-in_err-write_through-clause-sound
returns-in_err-write_through-clause-sound g c =
    let content = g.D.Disk.content c.args.disk.now in
    let content' = g.D.Disk.content c.clear.new.disk in
    let content'' = g.D.Disk.content c.write_through.new.disk in
    λ file told.
    let from = came_from (Torn 0 1) content' content'' file c.in_err-write_through.ensures.torn told in
    let was = came_from (λ f f'. f' ≡ unopened) content content' from.0 (mapped (λ _. unopened) content content' c.in_ok-clear.ensures.done) from.1 in
    last_blank file (subst (λ f. Torn 0 1 f file) was.2 from.2)

pub returns-in_err-write_through-clause-unchanged : goal.returns-in_err-write_through-clause-unchanged
returns-in_err-write_through-clause-unchanged g c =
    let content = g.D.Disk.content c.args.disk.now in
    let content' = g.D.Disk.content c.clear.new.disk in
    let content'' = g.D.Disk.content c.write_through.new.disk in
    let one : List ℕ → List ℕ → Type 0 = λ file file'. file' ≡ unopened in
    at_err c.from_residual-in_err-write_through.result (told_by (Both one (Torn 0 1) content') (λ _. bare 0) (seen_by Late) content content''
    (both one (Torn 0 1) content content' content'' (mapped (λ _. unopened) content content' c.in_ok-clear.ensures.done) c.in_err-write_through.ensures.torn)
    (λ file file' told steps. refl))

pub returns-in_err-write_through-clause-any_moment : goal.returns-in_err-write_through-clause-any_moment
returns-in_err-write_through-clause-any_moment g c = λ file told.
    let content' = g.D.Disk.content c.clear.new.disk in
    let leaves' = g.D.Disk.may_leave c.clear.new.disk in
    and_then g.D.Disk.moment g.D.Disk.left_since c.args.disk.now c.clear.new.disk c.write_through.new.disk IsBlank (AfterStep (Torn 0 1) leaves')
    (c.clear.ensures.any_moment file told (c.requires.empty file told).1 (c.requires.durable file told)) c.write_through.ensures.any_moment
    (step_from (Torn 0 1) IsBlank unopened leaves' c.in_ok-clear.ensures.durable last_blank)

pub returns-clause-sound : goal.returns-clause-sound
returns-clause-sound g c =
    let content = g.D.Disk.content c.args.disk.now in
    let content'' = g.D.Disk.content c.write_through.new.disk in
    let leaves' = g.D.Disk.may_leave c.clear.new.disk in
    let leaves'' = g.D.Disk.may_leave c.write_through.new.disk in
    let made : content'' ≡ option_map (λ _. header ++ 0 ∷ []) content =
    c.in_ok-write_through.ensures.written ∙ ap (option_map (overwritten 0 (1 ∷ []))) c.in_ok-clear.ensures.done ∙ map_map (λ _. unopened) (overwritten 0 (1 ∷ [])) content in
    λ file told.
    let from = came_from (λ f f'. f' ≡ header ++ 0 ∷ []) content content'' file (mapped (λ _. header ++ 0 ∷ []) content content'' made) told in
    new_open file leaves'' from.2 (subst (λ f. Only f leaves'') (sym from.2)
    (written_only 0 (1 ∷ []) unopened leaves' leaves'' (omega arith) c.in_ok-clear.ensures.durable c.in_ok-write_through.ensures.durable))

pub returns-clause-done : goal.returns-clause-done
returns-clause-done g c =
    let content = g.D.Disk.content c.args.disk.now in
    let content'' = g.D.Disk.content c.write_through.new.disk in
    let made : content'' ≡ option_map (λ _. header ++ 0 ∷ []) content =
    c.in_ok-write_through.ensures.written ∙ ap (option_map (overwritten 0 (1 ∷ []))) c.in_ok-clear.ensures.done ∙ map_map (λ _. unopened) (overwritten 0 (1 ∷ [])) content in
    ap (option_map (seen_by (Open 8 false))) made ∙ map_map (λ _. header ++ 0 ∷ []) (seen_by (Open 8 false)) content

pub returns-clause-any_moment : goal.returns-clause-any_moment
returns-clause-any_moment g c = λ file told.
    let content' = g.D.Disk.content c.clear.new.disk in
    let leaves' = g.D.Disk.may_leave c.clear.new.disk in
    and_then g.D.Disk.moment g.D.Disk.left_since c.args.disk.now c.clear.new.disk c.write_through.new.disk IsBlank (AfterStep (Torn 0 1) leaves')
    (c.clear.ensures.any_moment file told (c.requires.empty file told).1 (c.requires.durable file told)) c.write_through.ensures.any_moment
    (step_from (Torn 0 1) IsBlank unopened leaves' c.in_ok-clear.ensures.durable last_blank)
