use Rattle.std.proofs.Common.{◌≡◌, false, true, [], ◌∷◌, length, Err, inl, inr, refl, sym, ap, ◌∙◌, arith}
use Rattle.std.proofs.lemmas.List.{length-append}
use Rattle.std.proofs.lemmas.Result.{err_from_is_err_and}
use Rattle.journal_keeper.specs.Record.{record_of}
use Rattle.journal_keeper.specs.Stage.{is_refused, StandsOrGrew}
use Rattle.journal_keeper.specs.Sound.{IsMade}
use Rattle.journal_keeper.specs.Counts.{count_of}
use Rattle.disk.proofs.Moments.{started}
use Rattle.journal_keeper.proofs.Stages.{sound_stands}
use Rattle.journal_keeper.proofs.Written.{is_record, length_record}
use Rattle.journal_keeper.proofs.Answered.{no_room, room_for, counts_disk, counts_refusal, counts_nothing, not_ok, ok_anyway, memory_is_no_failure}
use Rattle.journal_keeper.proofs.putting.put_behind.Goals as goal

-- ---- no room

pub returns-then-not-has_room-clause-any_moment : goal.returns-then-not-has_room-clause-any_moment
returns-then-not-has_room-clause-any_moment g c = λ file told.
    started g.D.Disk.moment g.D.Disk.left_since c.args.disk.now (StandsOrGrew (g.R.Recorded.entry c.args.row.now) c.args.stage.now file)
    (λ image left. inl (sound_stands c.args.stage.now (g.D.Disk.content c.args.disk.now) (g.D.Disk.may_leave c.args.disk.now) c.requires.sound file told image
    (g.met.D.Disk.only_now c.args.disk.now image left)))

pub returns-then-not-has_room-clause-refuses : goal.returns-then-not-has_room-clause-refuses
returns-then-not-has_room-clause-refuses g c =
    let entry = g.R.Recorded.entry c.args.row.now in
    let refused : is_refused c.args.stage.now entry ≡ true =
    ap (λ s. is_refused s entry) c.requires.at
    ∙ no_room c.args.gate false entry c.payload_len-len.result c.payload_len-len.ensures.len (sym c.has_room.ensures ∙ c.if-not-has_room.true) in
    record {
      cause = λ failed. inr refused;
      made = not_ok _ c.refuse.result _ c.refuse.ensures.failed;
      counted = inr (refused, c.refuse.ensures.counted);
    }

pub returns-then-not-has_room-clause-count : goal.returns-then-not-has_room-clause-count
returns-then-not-has_room-clause-count g c =
    counts_refusal c.refuse.result (g.D.Disk.failures c.args.disk.now) (g.D.Disk.failures c.args.disk.now) c.args.refusals.now c.refuse.new.refusals
    c.refuse.ensures.failed (omega arith) c.refuse.ensures.rose c.refuse.ensures.more

-- ---- no memory

pub returns-in_err-line-clause-any_moment : goal.returns-in_err-line-clause-any_moment
returns-in_err-line-clause-any_moment g c = λ file told.
    started g.D.Disk.moment g.D.Disk.left_since c.args.disk.now (StandsOrGrew (g.R.Recorded.entry c.args.row.now) c.args.stage.now file)
    (λ image left. inl (sound_stands c.args.stage.now (g.D.Disk.content c.args.disk.now) (g.D.Disk.may_leave c.args.disk.now) c.requires.sound file told image
    (g.met.D.Disk.only_now c.args.disk.now image left)))

pub returns-in_err-line-clause-refuses : goal.returns-in_err-line-clause-refuses
returns-in_err-line-clause-refuses g c =
    let p = err_from_is_err_and c.from_residual.result c.from_residual.ensures.1 in
    record {
      cause = λ failed. absurd (memory_is_no_failure c.from_residual.result (p.1 ∙ ap Err p.2) failed);
      made = not_ok _ c.from_residual.result p.0 p.1;
      counted = inl refl;
    }

pub returns-in_err-line-clause-count : goal.returns-in_err-line-clause-count
returns-in_err-line-clause-count g c =
    let p = err_from_is_err_and c.from_residual.result c.from_residual.ensures.1 in
    counts_nothing c.from_residual.result (count_of (g.D.Disk.failures c.args.disk.now) c.args.refusals.now) (memory_is_no_failure c.from_residual.result (p.1 ∙ ap Err p.2))

-- ---- the record

pub overflow_cast-len : goal.overflow_cast-len
overflow_cast-len g c =
    let room = room_for c.args.gate false (g.R.Recorded.entry c.args.row.now) c.payload_len-len.result c.payload_len-len.ensures.len (sym c.has_room.ensures ∙ c.if-not-has_room.false) in
    omega (arith, room.2)

pub line_of-requires : goal.line_of-requires
line_of-requires g c =
    (room_for c.args.gate false (g.R.Recorded.entry c.args.row.now) c.payload_len-len.result c.payload_len-len.ensures.len (sym c.has_room.ensures ∙ c.if-not-has_room.false)).1

pub append-requires-clause-made : goal.append-requires-clause-made
append-requires-clause-made g c =
    let entry = g.R.Recorded.entry c.args.row.now in
    let room = room_for c.args.gate false entry c.payload_len-len.result c.payload_len-len.ensures.len (sym c.has_room.ensures ∙ c.if-not-has_room.false) in (
      entry,
      record {
        front = record_of entry;
        bytes_are = c.deref.ensures.value ∙ c.in_ok-line.ensures;
        is_record = is_record entry c.payload_len-len.ensures.fits (omega (arith, room.1, room.2));
      },
    )

pub append-requires-clause-room : goal.append-requires-clause-room
append-requires-clause-room g c =
    let entry = g.R.Recorded.entry c.args.row.now in
    let room = room_for c.args.gate false entry c.payload_len-len.result c.payload_len-len.ensures.len (sym c.has_room.ensures ∙ c.if-not-has_room.false) in
    let bytes_are = c.deref.ensures.value ∙ c.in_ok-line.ensures in
    omega (arith, ap length bytes_are, length-append (record_of entry) (0 ∷ []), length_record entry, room.1, room.2)

pub returns-clause-done : goal.returns-clause-done
returns-clause-done g c =
    let entry = g.R.Recorded.entry c.args.row.now in
    let room = room_for c.args.gate false entry c.payload_len-len.result c.payload_len-len.ensures.len (sym c.has_room.ensures ∙ c.if-not-has_room.false) in
    let made : IsMade c.deref.result.now entry = record {
      front = record_of entry;
      bytes_are = c.deref.ensures.value ∙ c.in_ok-line.ensures;
      is_record = is_record entry c.payload_len-len.ensures.fits (omega (arith, room.1, room.2));
    } in
    c.append.ensures.done entry made

pub returns-clause-any_moment : goal.returns-clause-any_moment
returns-clause-any_moment g c =
    let entry = g.R.Recorded.entry c.args.row.now in
    let room = room_for c.args.gate false entry c.payload_len-len.result c.payload_len-len.ensures.len (sym c.has_room.ensures ∙ c.if-not-has_room.false) in
    let made : IsMade c.deref.result.now entry = record {
      front = record_of entry;
      bytes_are = c.deref.ensures.value ∙ c.in_ok-line.ensures;
      is_record = is_record entry c.payload_len-len.ensures.fits (omega (arith, room.1, room.2));
    } in
    c.append.ensures.any_moment entry made

pub returns-clause-doubt : goal.returns-clause-doubt
returns-clause-doubt g c =
    let entry = g.R.Recorded.entry c.args.row.now in
    let room = room_for c.args.gate false entry c.payload_len-len.result c.payload_len-len.ensures.len (sym c.has_room.ensures ∙ c.if-not-has_room.false) in
    let made : IsMade c.deref.result.now entry = record {
      front = record_of entry;
      bytes_are = c.deref.ensures.value ∙ c.in_ok-line.ensures;
      is_record = is_record entry c.payload_len-len.ensures.fits (omega (arith, room.1, room.2));
    } in
    c.append.ensures.doubt entry made

pub returns-clause-refuses : goal.returns-clause-refuses
returns-clause-refuses g c =
    let entry = g.R.Recorded.entry c.args.row.now in
    let room = room_for c.args.gate false entry c.payload_len-len.result c.payload_len-len.ensures.len (sym c.has_room.ensures ∙ c.if-not-has_room.false) in
    record {
      cause = λ failed. inl (c.append.ensures.count.cause failed);
      made = ok_anyway c.append.result (ap (λ s. is_refused s entry) c.requires.at ∙ room.0);
      counted = inl refl;
    }

pub returns-clause-count : goal.returns-clause-count
returns-clause-count g c =
    counts_disk c.append.result (g.D.Disk.failures c.args.disk.now) (g.D.Disk.failures c.append.new.disk) c.args.refusals.now c.append.ensures.count
