-- What is promised of `order`.
use Rattle.std.specs.Prelude.{◌≡◌, ℕ, false, List, None, IsOk, IfOk}
use Rattle.book_text.specs.BookText.{book_of}
use Rattle.parts_usage.specs.Fault.{order_fault}
use Rattle.book_commands.specs.Ends.{IsDecided, IsOrderStatus}
use Rattle.book_commands.specs.Promise.{Promise, RepliesAlone, fails_nowhere, touches_nothing, never_ample}
use Rattle.book_commands.specs.RunReply.{order_reply}

-- neither the book nor the order has a fault
pub record IsValidOrder (input : List ℕ) (day : ℕ) (ordered : List (List ℕ)) : Type 0 where
  pub book : IsOk (book_of input)
  pub order : IfOk (book_of input) (λ b. order_fault b day ordered ≡ None)

abbrev pub order_promise : ℕ → List (List ℕ) → Promise
order_promise day ordered = record {
  replies = λ input. RepliesAlone (λ r. r ≡ order_reply (book_of input) day ordered);
  fails_at_file = fails_nowhere;
  keeps_files = touches_nothing;
  is_valid = λ input files. IsValidOrder input day ordered;
  is_status = IsOrderStatus;
  is_answer = λ status notes. IsDecided status;
  tells_release = false;
  tells_refusal = false;
  is_ample = never_ample;
}
