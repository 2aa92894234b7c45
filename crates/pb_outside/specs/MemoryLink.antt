-- A link in memory: what is read of it, and what is written to it.
use Rattle.pb_outside.specs.MemorySource.{Reads}
use Rattle.pb_outside.specs.MemorySink.{Writes}

pub record Exchange : Type 0 where
  pub reads : Reads
  pub writes : Writes
