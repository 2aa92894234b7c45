-- Each command's promise is lawful.
use Rattle.std.proofs.Common.{◌≡◌, ℕ, true, false, List, refl, arith}
use Rattle.std.specs.Prelude.{IsTrue}
use Rattle.book_text.specs.BookText.{book_of}
use Rattle.pb_outside.specs.Files.{FilesTold}
use Rattle.command_words.specs.declared.task.BookCommand.{BookCommand}
use Rattle.command_words.specs.declared.task.BookCommand.TheVariants.{Order, Check, Prove, Verify, Supplements, Compare, Free, Why, Ask, Days, Require, Changes}
use Rattle.book_commands.specs.Ask.{ask_promise}
use Rattle.book_commands.specs.Checks.{check_promise, proof_promise}
use Rattle.book_commands.specs.CompareReply.{compare_promise, changes_promise}
use Rattle.book_commands.specs.Ends.{IsDecided, IsOrderStatus}
use Rattle.book_commands.specs.Days.{days_promise}
use Rattle.book_commands.specs.Free.{free_promise}
use Rattle.book_commands.specs.Order.{order_promise}
use Rattle.book_commands.specs.Promise.{ReadsFiles}
use Rattle.book_commands.specs.Promises.{promise_of}
use Rattle.book_commands.specs.Require.{require_promise}
use Rattle.book_commands.specs.Supplements.{supplements_promise}
use Rattle.book_commands.specs.Verify.{verify_promise}
use Rattle.book_commands.specs.Why.{why_promise}
use Rattle.book_commands.specs.declared.comparing.Span.TheVariants.{OnDay, AllDays}
use Rattle.book_commands.proofs.AskLaws.{ask-kind, ask-answered}
use Rattle.book_commands.proofs.Blocked.{check-blocked, proof-blocked}
use Rattle.book_commands.proofs.Changed.{changes_nothing}
use Rattle.book_commands.proofs.DaysLaws.{days-kind, days-answered}
use Rattle.book_commands.proofs.FreeLaws.{free-kind, free-answered}
use Rattle.book_commands.proofs.Lawful.{IsLawful}
use Rattle.book_commands.proofs.Releasable.{check-releasable, proof-releasable, verified-releasable}
use Rattle.book_commands.proofs.Nothing.{check_nothing, proof_nothing, supplements_nothing, compare_nothing, free_nothing, why_nothing, ask_nothing}
use Rattle.book_commands.proofs.Required.{require_nothing}
use Rattle.book_commands.proofs.RequireLaws.{require-kind, require-told, has_stated}
use Rattle.book_commands.proofs.Statuses.{same-kind, order-kind, verify-kind, check-kind, proof-kind, supplements-kind, texts-kind, order-status, verify-status, check-answered, proof-answered, supplements-answered, compare-answered, changes-told}
use Rattle.book_commands.proofs.Valid.{has_book, has_certificate}
use Rattle.book_commands.proofs.WhyLaws.{why-kind, why-answered}

-- a command of which a status tells nothing
not_asked : {P : Type 0} → IsTrue false → P
not_asked asks = let clash : false ≡ true = asks in cc

unread : (files : FilesTold) → ReadsFiles files files
unread files = record { same = refl; later = record { never_falls = omega arith; kept = λ h. h } }

order_lawful : (day : ℕ) (ordered : List (List ℕ)) → IsLawful (order_promise day ordered)
order_lawful day ordered = record {
  same_files = λ files. refl;
  file_rose = λ input files files' h. absurd h;
  no_file_fault = λ input files files' valid sure h. h;
  statuses = λ input files files' reply h. same-kind IsOrderStatus _ reply h.is_answer (order-kind (book_of input) day ordered);
  answered = λ input files files' reply v h. same-kind IsDecided _ reply h.is_answer (order-status (book_of input) day ordered v.book v.order);
  releasable = λ input files files' reply asks h done. not_asked asks;
  unreleasable = λ input files files' reply asks h refused. not_asked asks;
  leaves_nothing = λ input files files' reply ample h. absurd ample;
}

check_lawful : (budget : ℕ) → IsLawful (check_promise budget)
check_lawful budget = record {
  same_files = λ files. refl;
  file_rose = λ input files files' h. absurd h;
  no_file_fault = λ input files files' valid sure h. h;
  statuses = λ input files files' reply h. check-kind (book_of input) budget reply h.is_answer;
  answered = λ input files files' reply v h. check-answered (book_of input) budget reply v.no_fault v.limits h.is_answer;
  releasable = λ input files files' reply asks h done. check-releasable (book_of input) budget reply h.is_answer done;
  unreleasable = λ input files files' reply asks h refused. check-blocked input (book_of input) budget reply refl h.is_answer refused;
  leaves_nothing = λ input files files' reply ample h. check_nothing input (book_of input) budget reply refl ample h.is_answer;
}

proof_lawful : (budget : ℕ) → IsLawful (proof_promise budget)
proof_lawful budget = record {
  same_files = λ files. refl;
  file_rose = λ input files files' h. absurd h;
  no_file_fault = λ input files files' valid sure h. h;
  statuses = λ input files files' reply h. proof-kind (book_of input) budget reply h.is_answer;
  answered = λ input files files' reply v h. proof-answered (book_of input) budget reply v.no_fault v.limits h.is_answer;
  releasable = λ input files files' reply asks h done. proof-releasable input (book_of input) budget reply refl h.is_answer done;
  unreleasable = λ input files files' reply asks h refused. proof-blocked input (book_of input) budget reply refl h.is_answer refused;
  leaves_nothing = λ input files files' reply ample h. proof_nothing input (book_of input) budget reply refl ample h.is_answer;
}

verify_lawful : (file : List ℕ) → IsLawful (verify_promise file)
verify_lawful file = record {
  same_files = unread;
  file_rose = λ input files files' h. h.fault.rose;
  no_file_fault = λ input files files' v sure h. has_certificate (book_of input) files.files file v.book v.certificate (h.fault.possible sure);
  statuses = λ input files files' reply h. verify-kind (book_of input) file files files' reply h;
  answered = λ input files files' reply v h. verify-status (book_of input) file files files' reply v.book v.certificate h;
  releasable = λ input files files' reply asks h done. verified-releasable input file (book_of input) files files' reply refl h done;
  unreleasable = λ input files files' reply asks h refused. not_asked asks;
  leaves_nothing = λ input files files' reply ample h. absurd ample;
}

supplements_lawful : (budget : ℕ) → IsLawful (supplements_promise budget)
supplements_lawful budget = record {
  same_files = λ files. refl;
  file_rose = λ input files files' h. absurd h;
  no_file_fault = λ input files files' valid sure h. h;
  statuses = λ input files files' reply h. supplements-kind (book_of input) budget reply h.is_answer;
  answered = λ input files files' reply v h. supplements-answered (book_of input) budget reply v.no_fault v.limits h.is_answer;
  releasable = λ input files files' reply asks h done. not_asked asks;
  unreleasable = λ input files files' reply asks h refused. not_asked asks;
  leaves_nothing = λ input files files' reply ample h. supplements_nothing input (book_of input) budget reply refl ample h.is_answer;
}

compare_lawful : (day : ℕ) (file : List ℕ) (budget : ℕ) → IsLawful (compare_promise day file budget)
compare_lawful day file budget = record {
  same_files = unread;
  file_rose = λ input files files' h. h.rose;
  no_file_fault = λ input files files' v sure h. has_book (OnDay day) files.files file v.second (h.possible sure);
  statuses = λ input files files' reply h. texts-kind input h.content (OnDay day) budget reply h.answer;
  answered = λ input files files' reply v h. compare-answered input file day budget files files' reply v h;
  releasable = λ input files files' reply asks h done. not_asked asks;
  unreleasable = λ input files files' reply asks h refused. not_asked asks;
  leaves_nothing = λ input files files' reply ample h. compare_nothing input file day budget files files' reply ample h;
}

changes_lawful : (file : List ℕ) (budget : ℕ) → IsLawful (changes_promise file budget)
changes_lawful file budget = record {
  same_files = unread;
  file_rose = λ input files files' h. h.rose;
  no_file_fault = λ input files files' v sure h. has_book AllDays files.files file v.second (h.possible sure);
  statuses = λ input files files' reply h. texts-kind input h.content AllDays budget reply h.answer;
  answered = λ input files files' reply v h. changes-told input file budget files files' reply v h;
  releasable = λ input files files' reply asks h done. not_asked asks;
  unreleasable = λ input files files' reply asks h refused. not_asked asks;
  leaves_nothing = λ input files files' reply ample h. changes_nothing input file budget files files' reply ample h;
}

require_lawful : (file : List ℕ) (budget : ℕ) → IsLawful (require_promise file budget)
require_lawful file budget = record {
  same_files = unread;
  file_rose = λ input files files' h. h.rose;
  no_file_fault = λ input files files' v sure h. has_stated input files.files file v (h.possible sure);
  statuses = λ input files files' reply h. require-kind (book_of input) h.content budget reply h.answer;
  answered = λ input files files' reply v h. require-told input file budget files files' reply v h;
  releasable = λ input files files' reply asks h done. not_asked asks;
  unreleasable = λ input files files' reply asks h refused. not_asked asks;
  leaves_nothing = λ input files files' reply ample h. require_nothing input file budget files files' reply ample h;
}

free_lawful : (day : ℕ) (ordered : List (List ℕ)) (budget : ℕ) → IsLawful (free_promise day ordered budget)
free_lawful day ordered budget = record {
  same_files = λ files. refl;
  file_rose = λ input files files' h. absurd h;
  no_file_fault = λ input files files' valid sure h. h;
  statuses = λ input files files' reply h. free-kind (book_of input) day ordered budget reply h.is_answer;
  answered = λ input files files' reply v h. free-answered (book_of input) day ordered budget reply v.book v.order h.is_answer;
  releasable = λ input files files' reply asks h done. not_asked asks;
  unreleasable = λ input files files' reply asks h refused. not_asked asks;
  leaves_nothing = λ input files files' reply ample h. free_nothing (book_of input) day ordered budget reply ample h.is_answer;
}

ask_lawful : (day : ℕ) (text : List ℕ) (budget : ℕ) → IsLawful (ask_promise day text budget)
ask_lawful day text budget = record {
  same_files = λ files. refl;
  file_rose = λ input files files' h. absurd h;
  no_file_fault = λ input files files' valid sure h. h;
  statuses = λ input files files' reply h. ask-kind (book_of input) day text budget reply h.is_answer;
  answered = λ input files files' reply v h. ask-answered (book_of input) day text budget reply v.book v.day v.rule h.is_answer;
  releasable = λ input files files' reply asks h done. not_asked asks;
  unreleasable = λ input files files' reply asks h refused. not_asked asks;
  leaves_nothing = λ input files files' reply ample h. ask_nothing (book_of input) day text budget reply ample h.is_answer;
}

why_lawful : (day : ℕ) (ordered : List (List ℕ)) (budget : ℕ) → IsLawful (why_promise day ordered budget)
why_lawful day ordered budget = record {
  same_files = λ files. refl;
  file_rose = λ input files files' h. absurd h;
  no_file_fault = λ input files files' valid sure h. h;
  statuses = λ input files files' reply h. why-kind (book_of input) day ordered budget reply h.is_answer;
  answered = λ input files files' reply v h. why-answered (book_of input) day ordered budget reply v.book v.order h.is_answer;
  releasable = λ input files files' reply asks h done. not_asked asks;
  unreleasable = λ input files files' reply asks h refused. not_asked asks;
  leaves_nothing = λ input files files' reply ample h. why_nothing (book_of input) day ordered budget reply ample h.is_answer;
}

days_lawful : (ordered : List (List ℕ)) → IsLawful (days_promise ordered)
days_lawful ordered = record {
  same_files = λ files. refl;
  file_rose = λ input files files' h. absurd h;
  no_file_fault = λ input files files' valid sure h. h;
  statuses = λ input files files' reply h. days-kind (book_of input) ordered reply h.is_answer;
  answered = λ input files files' reply v h. days-answered (book_of input) ordered reply v.book v.order h.is_answer;
  releasable = λ input files files' reply asks h done. not_asked asks;
  unreleasable = λ input files files' reply asks h refused. not_asked asks;
  leaves_nothing = λ input files files' reply ample h. absurd ample;
}

pub lawful : (command : BookCommand) → IsLawful (promise_of command)
unfolding promise_of
lawful (Order day ordered) = order_lawful day ordered
lawful (Check budget workers) = check_lawful budget
lawful (Prove budget workers) = proof_lawful budget
lawful (Verify file) = verify_lawful file
lawful (Supplements budget workers) = supplements_lawful budget
lawful (Compare day file budget workers) = compare_lawful day file budget
lawful (Free day ordered budget) = free_lawful day ordered budget
lawful (Why day ordered budget) = why_lawful day ordered budget
lawful (Ask day rule budget) = ask_lawful day rule budget
lawful (Days ordered) = days_lawful ordered
lawful (Require file budget workers) = require_lawful file budget
lawful (Changes file budget workers) = changes_lawful file budget
