-- The errors of statements by their kinds: want of memory, and every other one.
use Rattle.std.specs.Prelude.{Result, Ok, Err}
use Rattle.pb_base.specs.declared.answer.Fail.{Fail}
use Rattle.pb_base.specs.declared.answer.Fail.TheVariants.{Refused, Memory}
use Rattle.sqlite.specs.declared.error.Error.{Error}
use Rattle.sqlite.specs.declared.error.Error.TheVariants.{SqliteFailure}
use Rattle.sqlite.specs.declared.error.ErrorCode.TheVariants.{OutOfMemory}

abbrev pub by_kind : {T : Type 0} → Result T Error → Result T (Fail Error)
by_kind (Ok answer) = Ok answer
by_kind (Err (SqliteFailure OutOfMemory)) = Err Memory
by_kind (Err error) = Err (Refused error)
