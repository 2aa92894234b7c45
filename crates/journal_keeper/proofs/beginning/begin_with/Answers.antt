use Rattle.std.proofs.Common.{◌≡◌, true, false, refl, sym, ap, subst, ◌∙◌}
use Rattle.std.specs.Option.{option_map}
use Rattle.std.proofs.lemmas.Result.{on_ok_weaker, on_err_weaker}
use Rattle.pb_outside.specs.declared.error.OutError.TheVariants.{Memory}
use Rattle.keeper.specs.Rows.{begun}
use Rattle.journal_keeper.specs.declared.stage.Stage.TheVariants.{Shut}
use Rattle.disk.specs.Disk.{WhereTold}
use Rattle.journal_keeper.specs.Journal.{is_empty_store}
use Rattle.journal_keeper.specs.Stage.{seen_by, doubted, counts_empty, IsBlank, IsBegun, IsFound}
use Rattle.disk.proofs.Moments.{started, widened}
use Rattle.journal_keeper.proofs.Blanks.{counted_blank}
use Rattle.journal_keeper.proofs.Begins.{told_empty, begun_empty, begun_blank, begun_left, begun_open, found_open_before, found_sound, found_told, found_found}
use Rattle.journal_keeper.proofs.Doubts.{empty_undoubted_now, found_undoubted}
use Rattle.journal_keeper.proofs.Answered.{ok_is_no_error, no_fault}
use Rattle.journal_keeper.proofs.Held.{found_settled}
use Rattle.journal_keeper.proofs.beginning.begin_with.Goals as goal

-- ---- a store that counts as empty

pub format-requires-clause-empty : goal.format-requires-clause-empty
format-requires-clause-empty g c = λ file told.
    let empty : counts_empty c.args.stage.now file ≡ true =
    ap (counts_empty c.args.stage.now) (sym (c.requires.read file told)) ∙ sym c.counts_as_empty.ensures ∙ c.if-counts_as_empty.true in
    counted_blank c.args.stage.now (g.D.Disk.content c.args.disk.now) (g.D.Disk.may_leave c.args.disk.now) file c.requires.sound told empty

pub returns-then-counts_as_empty-clause-done : goal.returns-then-counts_as_empty-clause-done
returns-then-counts_as_empty-clause-done g c =
    let content = g.D.Disk.content c.args.disk.now in
    let empty : WhereTold content (λ file. counts_empty c.args.stage.now file ≡ true) = λ file told.
    ap (counts_empty c.args.stage.now) (sym (c.requires.read file told)) ∙ sym c.counts_as_empty.ensures ∙ c.if-counts_as_empty.true in
    on_ok_weaker c.format.result (λ e. e ∙ begun_empty c.args.stage.now content empty) c.format.ensures.done

pub returns-then-counts_as_empty-clause-unchanged : goal.returns-then-counts_as_empty-clause-unchanged
returns-then-counts_as_empty-clause-unchanged g c =
    let content = g.D.Disk.content c.args.disk.now in
    let empty : WhereTold content (λ file. counts_empty c.args.stage.now file ≡ true) = λ file told.
    ap (counts_empty c.args.stage.now) (sym (c.requires.read file told)) ∙ sym c.counts_as_empty.ensures ∙ c.if-counts_as_empty.true in
    on_err_weaker c.format.result (λ e. e ∙ told_empty c.args.stage.now content empty) c.format.ensures.unchanged

pub returns-then-counts_as_empty-clause-found : goal.returns-then-counts_as_empty-clause-found
returns-then-counts_as_empty-clause-found g c =
    let content = g.D.Disk.content c.format.new.disk in
    on_ok_weaker c.format.result (λ is. subst (λ s. WhereTold content (IsFound s)) (sym is) (λ file told. tt)) c.format.ensures.found

pub returns-then-counts_as_empty-clause-doubt : goal.returns-then-counts_as_empty-clause-doubt
returns-then-counts_as_empty-clause-doubt g c =
    let content = g.D.Disk.content c.args.disk.now in
    let empty : WhereTold content (λ file. counts_empty c.args.stage.now file ≡ true) = λ file told.
    ap (counts_empty c.args.stage.now) (sym (c.requires.read file told)) ∙ sym c.counts_as_empty.ensures ∙ c.if-counts_as_empty.true in
    c.format.ensures.doubt ∙ sym (empty_undoubted_now c.args.stage.now content empty)

pub returns-then-counts_as_empty-clause-any_moment : goal.returns-then-counts_as_empty-clause-any_moment
returns-then-counts_as_empty-clause-any_moment g c = λ file told.
    let leaves = g.D.Disk.may_leave c.args.disk.now in
    let empty : counts_empty c.args.stage.now file ≡ true =
    ap (counts_empty c.args.stage.now) (sym (c.requires.read file told)) ∙ sym c.counts_as_empty.ensures ∙ c.if-counts_as_empty.true in
    widened g.D.Disk.moment g.D.Disk.left_since c.args.disk.now c.format.new.disk (IsBegun c.args.stage.now file leaves) IsBlank (c.format.ensures.any_moment file told)
    (λ image blank. begun_blank c.args.stage.now file leaves image empty blank)

-- ---- a journal that was begun before

pub returns-in_default : goal.returns-in_default
returns-in_default g c =
    let content = g.D.Disk.content c.args.disk.now in
    let leaves = g.D.Disk.may_leave c.args.disk.now in
    let full : WhereTold content (λ file. counts_empty c.args.stage.now file ≡ false) = λ file told.
    ap (counts_empty c.args.stage.now) (sym (c.requires.read file told)) ∙ sym c.counts_as_empty.ensures ∙ c.if-counts_as_empty.false in
    record {
      sound = c.requires.sound;
      done = begun_open c.args.stage.now content leaves c.requires.sound full c.in_default.not-Shut;
      unchanged = tt;
      found = found_open_before c.args.stage.now content full c.in_default.not-Shut;
      same_disk = λ _. refl;
      sure = λ shut _. absurd (c.in_default.not-Shut shut);
      doubt = refl;
      any_moment = λ file told.
          started g.D.Disk.moment g.D.Disk.left_since c.args.disk.now (IsBegun c.args.stage.now file leaves)
          (λ image left. begun_left c.args.stage.now content leaves file image c.requires.sound told (g.met.D.Disk.only_now c.args.disk.now image left));
      no_memory = ok_is_no_error (tt {0}) Memory;
      count = no_fault (tt {0}) (g.D.Disk.failures c.args.disk.now);
    }

-- ---- a file that was found

pub returns-clause-sound : goal.returns-clause-sound
returns-clause-sound g c =
    found_sound c.args.file.now c.stage_of.result (g.D.Disk.content c.args.disk.now) (g.D.Disk.may_leave c.args.disk.now) c.stage_of.ensures c.requires.read c.requires.durable

pub returns-clause-done : goal.returns-clause-done
returns-clause-done g c =
    let content = g.D.Disk.content c.args.disk.now in
    let stage_is : c.args.stage.now ≡ Shut = cc in
    let full : is_empty_store c.args.file.now ≡ false = ap (λ s. counts_empty s c.args.file.now) (sym stage_is) ∙ sym c.counts_as_empty.ensures ∙ c.if-counts_as_empty.false in
    found_told c.args.file.now c.stage_of.result content c.stage_of.ensures full c.requires.read
    ∙ ap (λ s. option_map begun (option_map (seen_by s) content)) (sym stage_is)

pub returns-clause-found : goal.returns-clause-found
returns-clause-found g c =
    let stage_is : c.args.stage.now ≡ Shut = cc in
    let full : is_empty_store c.args.file.now ≡ false = ap (λ s. counts_empty s c.args.file.now) (sym stage_is) ∙ sym c.counts_as_empty.ensures ∙ c.if-counts_as_empty.false in
    found_found c.args.file.now c.stage_of.result (g.D.Disk.content c.args.disk.now) c.stage_of.ensures full c.requires.read

pub returns-clause-doubt : goal.returns-clause-doubt
returns-clause-doubt g c =
    let content = g.D.Disk.content c.args.disk.now in
    let stage_is : c.args.stage.now ≡ Shut = cc in
    found_undoubted c.args.file.now c.stage_of.result content c.stage_of.ensures ∙ ap (λ s. doubted s content) (sym stage_is)

pub returns-clause-any_moment : goal.returns-clause-any_moment
returns-clause-any_moment g c = λ file told.
    let leaves = g.D.Disk.may_leave c.args.disk.now in
    started g.D.Disk.moment g.D.Disk.left_since c.args.disk.now (IsBegun c.args.stage.now file leaves)
    (λ image left. begun_left c.args.stage.now (g.D.Disk.content c.args.disk.now) leaves file image c.requires.sound told (g.met.D.Disk.only_now c.args.disk.now image left))

pub returns-clause-sure : goal.returns-clause-sure
returns-clause-sure g c = λ shut full. found_settled c.args.file.now c.stage_of.result c.stage_of.ensures
