-- How a reply was told, by the status.
use Rattle.std.proofs.Common.{◌≡◌, ◌<◌, ℕ, true, false, List, length, inl, inr}
use Rattle.std.specs.Prelude.{◌⊎◌, Option, None, Some, IfSome, IsSome, IsSomeAnd}
use Rattle.pb_outside.specs.Faults.{Rose}
use Rattle.book_commands.specs.RunReply.{RunReply, memory_reply, memory_text}
use Rattle.book_commands.specs.Tells.{Outputs, IsTold, IsWritten, Tells}
use Rattle.book_commands.specs.declared.run_status.RunStatus.{RunStatus}
use Rattle.book_commands.specs.declared.run_status.RunStatus.TheVariants.{WriteFault, WantOfMemory}

-- the sink failed
pub record IsFailed (before after : Outputs) (status : RunStatus) : Type 0 where
  pub ends : status ≡ WriteFault
  pub rose : Rose before.sink.faults after.sink.faults

-- a reply was told, or the sink failed, or memory was wanting
abbrev pub Ends : RunReply → Outputs → Outputs → RunStatus → Type 0
Ends reply before after status = IsTold reply before after status ⊎ IsFailed before after status ⊎ (status ≡ WantOfMemory)

of_written : (reply : RunReply) (before after : Outputs) (status : RunStatus) → IsWritten reply before after status → Ends reply before after status
of_written reply before after status h = elim h [
  | inl told ↦ inl told
  | inr failed ↦ elim failed [
    | inl cut ↦ inr (inl (record { ends = cut.ends; rose = cut.text.rose }))
    | inr unnoted ↦ inr (inr unnoted.ends)
  ]
]

of_memory : (reply : RunReply) (before after : Outputs) (status : RunStatus) → Ends memory_reply before after status → Ends reply before after status
of_memory reply before after status h = elim h [ inl told ↦ inr (inr told.ends) | inr failed ↦ inr failed ]

pub Ends-of_tells : (reply : RunReply) (before after : Outputs) (status : RunStatus) → Tells reply before after status → Ends reply before after status
Ends-of_tells reply before after status h = elim h [
  | inl written ↦ of_written reply before after status written
  | inr memory ↦ of_memory reply before after status (of_written memory_reply before after status memory)
]

-- the sink failed, which has told that it is sure of room for fewer bytes than this text
pub record LacksRoomFor (text : List ℕ) (before : Outputs) (status : RunStatus) : Type 0 where
  pub ends : status ≡ WriteFault
  pub room : IsSomeAnd before.sink.room (λ bytes. bytes < length text)

pub told_room : (room : Option ℕ) (text : List ℕ) → IsSome room → IfSome room (λ bytes. bytes < length text) → IsSomeAnd room (λ bytes. bytes < length text)
told_room None text told short = let clash : false ≡ true = told in cc
told_room (Some bytes) text told short = short

-- a reply was told, or the sink that tells its room lacks it, or memory was wanting
pub written_or_lacks : (reply : RunReply) (before after : Outputs) (status : RunStatus) → IsSome before.sink.room → IsWritten reply before after status
    → IsTold reply before after status ⊎ LacksRoomFor reply.text before status ⊎ (status ≡ WantOfMemory)
written_or_lacks reply before after status room h = elim h [
  | inl told ↦ inl told
  | inr failed ↦ elim failed [
    | inl cut ↦ inr (inl (record { ends = cut.ends; room = told_room before.sink.room reply.text room cut.text.no_room }))
    | inr unnoted ↦ inr (inr unnoted.ends)
  ]
]

pub told_or_lacks : (reply : RunReply) (before after : Outputs) (status : RunStatus) → IsSome before.sink.room → Tells reply before after status
    → IsTold reply before after status ⊎ LacksRoomFor reply.text before status ⊎ LacksRoomFor memory_text before status ⊎ (status ≡ WantOfMemory)
told_or_lacks reply before after status room h = elim h [
  | inl written ↦ elim (written_or_lacks reply before after status room written) [
    | inl told ↦ inl told
    | inr failed ↦ elim failed [ inl lacks ↦ inr (inl lacks) | inr nine ↦ inr (inr (inr nine)) ]
  ]
  | inr memory ↦ elim (written_or_lacks memory_reply before after status room memory) [
    | inl told ↦ inr (inr (inr told.ends))
    | inr failed ↦ elim failed [ inl lacks ↦ inr (inr (inl lacks)) | inr nine ↦ inr (inr (inr nine)) ]
  ]
]
