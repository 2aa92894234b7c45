-- The promise of each command that reads a book.
use Rattle.command_words.specs.declared.task.BookCommand.{BookCommand}
use Rattle.command_words.specs.declared.task.BookCommand.TheVariants.{Order, Check, Prove, Verify, Supplements, Compare, Free, Why, Ask, Days, Require, Changes}
use Rattle.book_commands.specs.Ask.{ask_promise}
use Rattle.book_commands.specs.Checks.{check_promise, proof_promise}
use Rattle.book_commands.specs.CompareReply.{compare_promise, changes_promise}
use Rattle.book_commands.specs.Days.{days_promise}
use Rattle.book_commands.specs.Free.{free_promise}
use Rattle.book_commands.specs.Order.{order_promise}
use Rattle.book_commands.specs.Promise.{Promise}
use Rattle.book_commands.specs.Require.{require_promise}
use Rattle.book_commands.specs.Supplements.{supplements_promise}
use Rattle.book_commands.specs.Verify.{verify_promise}
use Rattle.book_commands.specs.Why.{why_promise}

unfoldable pub promise_of : BookCommand → Promise
promise_of (Order day ordered) = order_promise day ordered
promise_of (Check budget workers) = check_promise budget
promise_of (Prove budget workers) = proof_promise budget
promise_of (Verify file) = verify_promise file
promise_of (Supplements budget workers) = supplements_promise budget
promise_of (Compare day file budget workers) = compare_promise day file budget
promise_of (Free day ordered budget) = free_promise day ordered budget
promise_of (Why day ordered budget) = why_promise day ordered budget
promise_of (Ask day rule budget) = ask_promise day rule budget
promise_of (Days ordered) = days_promise ordered
promise_of (Require file budget workers) = require_promise file budget
promise_of (Changes file budget workers) = changes_promise file budget
