-- When proofs show that a book can be released: the book keeps the limits, and there is one proof for each slice, in order.
--     ShowsSlice b s proof     what a proof has to be for a slice
--     ShowEach b proofs        all of it
--     shown_by proofs          what their certificate is answered
use Rattle.std.specs.Prelude.{◌≡◌, ℕ, ◌+◌, ◌<◌, true, List, [], ◌∷◌, Ok, length, take, slice_index_or}
use Rattle.std.specs.List.{AllZip}
use Rattle.book_model.specs.Contents.{Contents}
use Rattle.book_model.specs.Good.{is_good}
use Rattle.book_model.specs.declared.record.Slice.{Slice}
use Rattle.clause_pool.specs.Derivation.{Derivation}
use Rattle.clausify.specs.Coded.{slice_clauses, slice_asked}
use Rattle.derivation.specs.declared.closing.Closing.{Closing}
use Rattle.derivation.specs.declared.closing.ToClose.{ToClose}
use Rattle.derivation.specs.declared.fault.Certified.{Certified}
use Rattle.derivation.specs.declared.slice_proof.SliceProof.{SliceProof}
use Rattle.derivation.specs.After.{closes}
use Rattle.derivation.specs.Limits.{slices_within}
use Rattle.derivation.specs.Stage.{to_close}

-- the closing is of this question, and its clause closes it
pub record Closes (clauses : List (List ℕ)) (w : ToClose) (c : Closing) : Type 0 where
  pub question : c.question ≡ w.question
  pub place : c.at < length clauses
  pub closed : closes w.goal (slice_index_or clauses c.at []) ≡ true

-- the questions are closed one by one, in order
abbrev pub AllClosed : List (List ℕ) → List ToClose → List Closing → Type 0
AllClosed clauses asked closings = AllZip (Closes clauses) asked closings

-- the kernel's given clauses are these
pub record StandsOver (clauses : List (List ℕ)) (kernel : Derivation) : Type 0 where
  pub number : kernel.given ≡ length clauses
  pub given : take kernel.given kernel.clauses ≡ clauses

pub record ShowsSlice (b : Contents) (s : Slice) (proof : SliceProof) : Type 0 where
  pub kernel : StandsOver (slice_clauses b s.first) proof.kernel
  -- the set is one of the book's codes, and good
  pub codes : length proof.set ≡ length b.codes
  pub good : is_good b s.first proof.set ≡ true
  -- each question that has to be closed is
  pub closed : AllClosed proof.kernel.clauses (to_close 0 (slice_asked b s.first)) proof.closed.items

pub record ShowEach (b : Contents) (proofs : List SliceProof) : Type 0 where
  pub slices : List Slice
  pub within : slices_within b ≡ Ok slices
  pub each : AllZip (ShowsSlice b) slices proofs

-- the clauses that the kernels derived
abbrev pub derived_by : List SliceProof → ℕ
derived_by [] = 0
derived_by (proof ∷ proofs) = length proof.kernel.starts + derived_by proofs

-- one slice for each proof, and one step for each clause that was derived
abbrev pub shown_by : List SliceProof → Certified
shown_by proofs = record { slices = length proofs; steps = derived_by proofs }
