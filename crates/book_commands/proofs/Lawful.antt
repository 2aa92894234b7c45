-- The laws that a promise keeps: what the run of any command follows from.
use Rattle.std.proofs.Common.{◌≡◌, ℕ, true, List, subst}
use Rattle.std.specs.Prelude.{IsOkAnd, IsTrue}
use Rattle.book_model.specs.Sound.{IsReleasable}
use Rattle.book_text.specs.BookText.{book_of}
use Rattle.pb_outside.specs.Faults.{Rose}
use Rattle.pb_outside.specs.Files.{FilesTold}
use Rattle.book_commands.specs.Checks.{IsUnreleasable}
use Rattle.book_commands.specs.Ends.{LeavesNothing}
use Rattle.book_commands.specs.Promise.{Promise}
use Rattle.book_commands.specs.RunReply.{RunReply}
use Rattle.book_commands.specs.declared.run_status.RunStatus.TheVariants.{Done, Refused}

pub record IsLawful (p : Promise) : Type 0 where
  -- files that nobody touched are kept
  pub same_files : (files : FilesTold) → p.keeps_files files files
  -- where the files failed, their count rose
  pub file_rose : (input : List ℕ) (files files' : FilesTold) → p.fails_at_file input files files' → Rose files.faults.count files'.faults.count
  -- files that say that no call on them fails don't fail where the input is valid
  pub no_file_fault : (input : List ℕ) (files files' : FilesTold) → p.is_valid input files.files → files.faults.faultless ≡ true
      → p.fails_at_file input files files' → ⊥
  -- each reply has one of the statuses
  pub statuses : (input : List ℕ) (files files' : FilesTold) (reply : RunReply) → p.replies input files files' reply → p.is_status reply.status
  -- and a valid input is answered
  pub answered : (input : List ℕ) (files files' : FilesTold) (reply : RunReply) → p.is_valid input files.files → p.replies input files files' reply
      → p.is_answer reply.status reply.notes
  -- done, and refused, are right of the book
  pub releasable : (input : List ℕ) (files files' : FilesTold) (reply : RunReply) → IsTrue p.tells_release → p.replies input files files' reply
      → Done ≡ reply.status → IsOkAnd (book_of input) IsReleasable
  pub unreleasable : (input : List ℕ) (files files' : FilesTold) (reply : RunReply) → IsTrue p.tells_refusal → p.replies input files files' reply
      → Refused ≡ reply.status → IsOkAnd (book_of input) IsUnreleasable
  -- an ample budget leaves nothing
  pub leaves_nothing : (input : List ℕ) (files files' : FilesTold) (reply : RunReply) → p.is_ample input files.files
      → p.replies input files files' reply → LeavesNothing reply

-- ---- for an input that was read, which is the one that was given

pub valid_answer : (p : Promise) (input read : List ℕ) (files files' : FilesTold) (reply : RunReply) → IsLawful p → input ≡ read
    → p.is_valid input files.files → p.replies read files files' reply → p.is_answer reply.status reply.notes
valid_answer p input read files files' reply lawful e valid h =
    lawful.answered read files files' reply (subst (λ (i : List ℕ). p.is_valid i files.files) e valid) h

pub no_fault : (p : Promise) (input read : List ℕ) (files files' : FilesTold) → IsLawful p → input ≡ read
    → p.is_valid input files.files → files.faults.faultless ≡ true → p.fails_at_file read files files' → ⊥
no_fault p input read files files' lawful e valid sure h =
    lawful.no_file_fault read files files' (subst (λ (i : List ℕ). p.is_valid i files.files) e valid) sure h
