use Rattle.std.proofs.Common.{[], ◌∷◌, ◌++◌, length, refl, ap, ◌∙◌, arith}
use Rattle.std.proofs.lemmas.List.{length-append}
use Rattle.disk.specs.declared.memory_disk.Call.TheVariants as call
use Rattle.disk.specs.Calls.{dones, total}
use Rattle.disk.proofs.Tapes.{dones_write, total_more}
use Rattle.disk.proofs.Disks.{went}
use Rattle.disk.proofs.memory_disk.record_write.Goals as goal

pub returns-clause-done : goal.returns-clause-done
returns-clause-done c =
    let written = went c.extend_from_slice.result _ _ _ _ _ c.extend_from_slice.ensures.full c.requires.room c.extend_from_slice.ensures.items in
    ap (λ cs. dones cs c.extend_from_slice.new.self.items) c.push_reserved.ensures.items
    ∙ ap (dones (c.args.calls.now.items ++ call.Wrote c.args.at (length c.args.bytes.now) ∷ [])) written
    ∙ dones_write c.args.calls.now.items c.args.written.now.items c.args.bytes.now c.args.at (length c.args.bytes.now) c.requires.fits refl

pub returns-clause-total : goal.returns-clause-total
returns-clause-total c =
    let written = went c.extend_from_slice.result _ _ _ _ _ c.extend_from_slice.ensures.full c.requires.room c.extend_from_slice.ensures.items in
    omega (
      arith,
      ap total c.push_reserved.ensures.items,
      total_more c.args.calls.now.items (call.Wrote c.args.at (length c.args.bytes.now)),
      ap length written,
      length-append c.args.written.now.items c.args.bytes.now,
      c.requires.fits,
    )
