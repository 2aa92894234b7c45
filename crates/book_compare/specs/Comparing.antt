-- Two books that are compared on a day.
--     AreBooks first second day    two books that can be released, on a day of both terms
--     IsComparing c                such books with their clauses, the first without two codes of one name
use Rattle.std.specs.Prelude.{ℕ, ◌≤◌}
use Rattle.std.specs.List.{IsDistinct}
use Rattle.pb_base.specs.Names.{same_name}
use Rattle.book_model.specs.Book.{IsBook}
use Rattle.book_model.specs.Contents.{Contents}
use Rattle.book_model.specs.Sound.{IsReleasable}
use Rattle.book_compare.specs.JointItems.{IsJoint}
use Rattle.book_compare.specs.declared.comparing.Comparing.{Comparing}

pub record IsOfTerm (b : Contents) (day : ℕ) : Type 0 where
  pub book : IsBook b
  pub releasable : IsReleasable b
  pub first : b.first ≤ day
  pub last : day ≤ b.last

pub record AreBooks (first second : Contents) (day : ℕ) : Type 0 where
  pub one : IsOfTerm first day
  pub other : IsOfTerm second day

pub record IsComparing (c : Comparing) : Type 0 where
  pub books : AreBooks c.first.now c.second.now c.day
  pub joint : IsJoint c.first.now c.second.now c.day c.joint
  pub distinct : IsDistinct same_name c.first.now.codes
