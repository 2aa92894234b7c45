use Rattle.std.proofs.Common.{◌≡◌, true, false, inl, inr, refl, sym, ap, subst, ◌∙◌, rules}
use Rattle.std.specs.Option.{option_map}
use Rattle.std.proofs.lemmas.Result.{on_ok_weaker, on_err_weaker, err_from_is_err_and}
use Rattle.pb_outside.specs.declared.error.OutError.TheVariants.{Failed}
use Rattle.keeper.specs.Causes.{HasCause}
use Rattle.journal_keeper.specs.declared.stage.Stage.TheVariants.{Open}
use Rattle.disk.specs.Disk.{CountsFaults}
use Rattle.journal_keeper.specs.Record.{effect}
use Rattle.journal_keeper.specs.Stage.{seen_by, doubted, is_open, is_refused, StillStands, StandsOrGrew}
use Rattle.journal_keeper.specs.Counts.{count_of, Refuses}
use Rattle.disk.proofs.Moments.{and_then, widened}
use Rattle.journal_keeper.proofs.Told.{at_err}
use Rattle.journal_keeper.proofs.Doubts.{settled_undoubted, settled_open_still, doubts_none, doubts_failed, doubts_wider, failed_again}
use Rattle.journal_keeper.proofs.Answered.{open_never, counts_disk, counts_refusal, not_ok, refused_shut, refused_settled, settled_open, told_file, stands_settled}
use Rattle.journal_keeper.proofs.putting.put.Goals as goal

-- ---- the gate stays in doubt

pub returns-in_err-settle-clause-unchanged : goal.returns-in_err-settle-clause-unchanged
returns-in_err-settle-clause-unchanged g c = at_err c.from_residual.result c.settle.ensures.told

pub returns-in_err-settle-clause-any_moment : goal.returns-in_err-settle-clause-any_moment
returns-in_err-settle-clause-any_moment g c = λ file told.
    widened g.D.Disk.moment g.D.Disk.left_since c.args.disk.now c.settle.new.disk (StandsOrGrew (g.R.Recorded.entry c.args.row.now) c.args.stage.now file)
    (StillStands c.args.stage.now file) (c.settle.ensures.any_moment file told) (λ image stands. inl stands)

pub returns-in_err-settle-clause-refuses : goal.returns-in_err-settle-clause-refuses
returns-in_err-settle-clause-refuses g c =
    let counts : CountsFaults c.from_residual.result (g.D.Disk.failures c.args.disk.now) (g.D.Disk.failures c.settle.new.disk) = search rules in
    record { cause = λ failed. inl (counts.cause failed); made = search rules; counted = inl refl }

pub returns-in_err-settle-clause-count : goal.returns-in_err-settle-clause-count
returns-in_err-settle-clause-count g c =
    let counts : CountsFaults c.from_residual.result (g.D.Disk.failures c.args.disk.now) (g.D.Disk.failures c.settle.new.disk) = search rules in
    counts_disk c.from_residual.result (g.D.Disk.failures c.args.disk.now) (g.D.Disk.failures c.settle.new.disk) c.args.refusals.now counts

pub returns-in_err-settle-clause-doubt : goal.returns-in_err-settle-clause-doubt
returns-in_err-settle-clause-doubt g c =
    let given = err_from_is_err_and c.from_residual.result c.from_residual.ensures.1 in
    let failed = failed_again c.from_residual.result c.settle.result given.0 c.in_err-settle.field-0.0 given.1 given.2 c.in_err-settle.was c.settle.ensures.no_memory in
    doubts_failed c.from_residual.result (g.R.Recorded.entry c.args.row.now) (doubted c.args.stage.now (g.D.Disk.content c.args.disk.now))
    (doubted c.settle.new.stage (g.D.Disk.content c.settle.new.disk)) failed (inr (inl c.in_err-settle.ensures.doubt))

pub returns-in_err-settle-clause-stays_open : goal.returns-in_err-settle-clause-stays_open
returns-in_err-settle-clause-stays_open g c = ap is_open c.in_err-settle.ensures.kept

-- ---- no journal

pub returns-in_default : goal.returns-in_default
returns-in_default g c =
    let entry = g.R.Recorded.entry c.args.row.now in
    let refused : is_refused c.args.stage.now entry ≡ true =
    refused_shut c.args.stage.now c.settle.new.stage entry c.in_ok-settle.ensures.sure c.in_default.not-Open in
    record {
      sound = c.settle.ensures.sound;
      done = not_ok _ c.refuse.result Failed c.refuse.ensures.failed;
      unchanged = at_err c.refuse.result c.settle.ensures.told;
      any_moment = λ file told.
          widened g.D.Disk.moment g.D.Disk.left_since c.args.disk.now c.settle.new.disk (StandsOrGrew entry c.args.stage.now file)
          (StillStands c.args.stage.now file) (c.settle.ensures.any_moment file told) (λ image stands. inl stands);
      doubt = doubts_none c.refuse.result entry (doubted c.args.stage.now (g.D.Disk.content c.args.disk.now)) (doubted c.settle.new.stage (g.D.Disk.content c.settle.new.disk))
          (ap (λ s. doubted s (g.D.Disk.content c.settle.new.disk)) c.in_ok-settle.ensures.sure ∙ settled_undoubted c.args.stage.now (g.D.Disk.content c.settle.new.disk));
      stays_open = ap is_open c.in_ok-settle.ensures.sure ∙ settled_open_still c.args.stage.now;
      untouched = c.settle.ensures.untouched;
      refuses = record {
        cause = λ failed. inr refused;
        made = not_ok _ c.refuse.result Failed c.refuse.ensures.failed;
        counted = inr (refused, c.refuse.ensures.counted);
      };
      count = counts_refusal c.refuse.result (g.D.Disk.failures c.args.disk.now) (g.D.Disk.failures c.settle.new.disk) c.args.refusals.now c.refuse.new.refusals
          c.refuse.ensures.failed c.settle.ensures.count.later c.refuse.ensures.rose c.refuse.ensures.more;
    }

-- ---- no gate is in doubt

pub put_behind-requires-clause-at : goal.put_behind-requires-clause-at
put_behind-requires-clause-at g c = settled_open c.args.stage.now c.settle.new.stage c.in-Open.gate _ c.in_ok-settle.ensures.sure c.in-Open.is

pub returns-clause-done : goal.returns-clause-done
returns-clause-done g c =
    on_ok_weaker c.put_behind.result (λ e. e ∙ ap (option_map (effect (g.R.Recorded.entry c.args.row.now))) c.settle.ensures.told) c.put_behind.ensures.done

pub returns-clause-unchanged : goal.returns-clause-unchanged
returns-clause-unchanged g c = on_err_weaker c.put_behind.result (λ e. e ∙ c.settle.ensures.told) c.put_behind.ensures.unchanged

pub returns-clause-any_moment : goal.returns-clause-any_moment
returns-clause-any_moment g c = λ file told.
    let entry = g.R.Recorded.entry c.args.row.now in
    let content = g.D.Disk.content c.args.disk.now in
    let content' = g.D.Disk.content c.settle.new.disk in
    let P = StandsOrGrew entry c.args.stage.now file in
    let at = settled_open c.args.stage.now c.settle.new.stage c.in-Open.gate _ c.in_ok-settle.ensures.sure c.in-Open.is in
    let mid = told_file (seen_by c.settle.new.stage) (seen_by c.args.stage.now) content content' file c.settle.ensures.told told in
    let same : seen_by (Open c.in-Open.gate false) mid.0 ≡ seen_by c.args.stage.now file = ap (λ s. seen_by s mid.0) (sym at) ∙ mid.2 in
    let first = widened g.D.Disk.moment g.D.Disk.left_since c.args.disk.now c.settle.new.disk P (StillStands c.args.stage.now file) (c.settle.ensures.any_moment file told) (λ image stands. inl stands) in
    and_then g.D.Disk.moment g.D.Disk.left_since c.args.disk.now c.settle.new.disk c.put_behind.new.disk P (StandsOrGrew entry c.settle.new.stage mid.0) first
    (c.put_behind.ensures.any_moment mid.0 mid.1)
    (λ image stands. stands_settled entry c.args.stage.now c.in-Open.gate mid.0 file image same (subst (λ s. StandsOrGrew entry s mid.0 image) at stands))

pub returns-clause-doubt : goal.returns-clause-doubt
returns-clause-doubt g c =
    doubts_wider c.put_behind.result (g.R.Recorded.entry c.args.row.now) (doubted c.args.stage.now (g.D.Disk.content c.args.disk.now))
    (doubted c.put_behind.new.stage (g.D.Disk.content c.put_behind.new.disk)) c.put_behind.ensures.doubt

pub returns-clause-stays_open : goal.returns-clause-stays_open
returns-clause-stays_open g c =
    let at = settled_open c.args.stage.now c.settle.new.stage c.in-Open.gate _ c.in_ok-settle.ensures.sure c.in-Open.is in
    c.put_behind.ensures.stays_open ∙ sym (ap is_open at) ∙ ap is_open c.in_ok-settle.ensures.sure ∙ settled_open_still c.args.stage.now

pub returns-clause-untouched : goal.returns-clause-untouched
returns-clause-untouched g c = λ shut. open_never c.settle.new.stage c.in-Open.gate _ c.in-Open.is (c.settle.ensures.stays_open ∙ shut)

pub returns-clause-refuses : goal.returns-clause-refuses
returns-clause-refuses g c =
    let entry = g.R.Recorded.entry c.args.row.now in
    let refused : is_refused c.settle.new.stage entry ≡ is_refused c.args.stage.now entry =
    ap (λ s. is_refused s entry) c.in_ok-settle.ensures.sure ∙ refused_settled c.args.stage.now entry in
    let faults = c.in_ok-settle.ensures.count.stays in
    let put = c.put_behind.ensures.refuses in
    subst (λ d. Refuses c.put_behind.result (is_refused c.args.stage.now entry) d (g.D.Disk.failures c.put_behind.new.disk) c.args.refusals.now c.put_behind.new.refusals) faults
    (subst (λ b. Refuses c.put_behind.result b (g.D.Disk.failures c.settle.new.disk) (g.D.Disk.failures c.put_behind.new.disk) c.args.refusals.now c.put_behind.new.refusals) refused put)

pub returns-clause-count : goal.returns-clause-count
returns-clause-count g c =
    let faults = c.in_ok-settle.ensures.count.stays in
    subst (λ d. HasCause c.put_behind.result (count_of d c.args.refusals.now) (count_of (g.D.Disk.failures c.put_behind.new.disk) c.put_behind.new.refusals)) faults c.put_behind.ensures.count
