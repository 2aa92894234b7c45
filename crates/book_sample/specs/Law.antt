-- What is known of every generated book, before it is read.
--     MaySample codes          the numbers of codes that a book may have
--     GivesBook start codes    the text reads as a book within all limits, which can be released, and each order is one of it
use Rattle.std.specs.Prelude.{◌≡◌, ℕ, ◌/◌, ◌%◌, ◌≤◌, [], ◌∷◌, length, None, Ok}
use Rattle.pb_base.specs.declared.limits.TheConstants.{MOST_QUESTIONS}
use Rattle.book_model.specs.Contents.{Contents}
use Rattle.book_model.specs.Slices.{days_from_to, slices_of}
use Rattle.book_model.specs.Sound.{IsReleasable}
use Rattle.book_text.specs.BookText.{book_of}
use Rattle.clausify.specs.Questions.{questions}
use Rattle.parts_usage.specs.Fault.{order_fault}
use Rattle.book_sample.specs.Lines.{sample_text}
use Rattle.book_sample.specs.Orders.{order_at}

-- a multiple of 4 from 8 to 2,000
pub record MaySample (codes : ℕ) : Type 0 where
  pub whole : codes % 4 ≡ 0
  pub least : 8 ≤ codes
  pub most : codes ≤ 2000

pub record GivesBook (start codes : ℕ) : Type 0 where
  pub book : Contents
  pub reads : book_of (sample_text start codes) ≡ Ok book
  pub one_slice : slices_of book ≡ Ok (days_from_to 1 1000 ∷ [])
  pub few_questions : (day : ℕ) → length (questions book day) ≤ MOST_QUESTIONS
  pub releasable : IsReleasable book
  pub orders : (state : ℕ) → order_fault book (order_at (codes / 4) state).day (order_at (codes / 4) state).codes ≡ None
