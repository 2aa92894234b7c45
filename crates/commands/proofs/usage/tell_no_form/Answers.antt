use Rattle.std.proofs.Common.{refl, inl}
use Rattle.commands.proofs.usage.tell_no_form.Goals as goal

pub returns : goal.returns
returns g c = record { told = inl c.tell_usage-status.ensures; nothing = record { untouched = refl; kept = refl; door = refl } }
