-- What the words of a command line ask for.
--     order DAY CODE..              what the order of these codes on this day comes to
--     check [--budget N] [--workers N]          what is wrong with the book
--     prove [--budget N] [--workers N]          a certificate that the book can be released, or what keeps it from its release
--     verify CERTFILE               the check of the certificate in this file
--     desk STORE                    the order desk over the rows that this store keeps
--     serve STORE PORT WORKERS LINKS    the order desk over the rows that this store keeps, at this port, for so many links
--     sample START CODES ORDERS     the release of the generated book of this size, and what its orders come to
--     supplements [--budget N] [--workers N]    what completion does with sets that break no rule
--     compare DAY FILE [--budget N] [--workers N]    what changes on this day from the book to the one in this file
--     rejudge STORE BOOK WORKERS    the orders that this store keeps, judged again by the book of this number
--     free DAY CODE.. [--budget N]    what can still be chosen on this day beside these codes
--     why DAY CODE.. [--budget N]     what an order of these codes on this day comes to, and how it would be accepted
--     days CODE..                   what an order of these codes comes to on every day of the book's term
--     impact STORE FILE WORKERS     the orders that this store keeps, judged again by the book that this file is
--     require FILE [--budget N] [--workers N]    whether the cars of the book keep the requirements in this file
--     changes FILE [--budget N] [--workers N]    what changes on all days from the book to the one in this file
--     ask DAY RULE [--budget N]     whether a car of this day meets the rule, and what is to blame if none does
-- A budget is the most clauses that may be learnt for one question. `ask` has words of its own (AskWords). The option of several
-- workers is cut out of the words, and the others are read as if it weren't there (Several).
use Rattle.std.specs.Prelude.{◌≡◌, ◌++◌, ◌==◌, ◌&&◌, ℕ, ◌%◌, List, [], ◌∷◌, Option, None, Some, codes, drop, length, nat_le, take, if◌then◌else◌}
use Rattle.std.specs.Option.{option_map, option_and_then}
use Rattle.std.specs.List.{find, list_all}
use Rattle.pb_base.specs.Names.{same_name, is_code_name}
use Rattle.pb_base.specs.Digits.{number_within, short_number}
use Rattle.command_words.specs.Parts.{Words, HasParts, dashes}
use Rattle.command_words.specs.AskWords.{behind_short, operands_of, option_value, short_front}
use Rattle.command_words.specs.Several.{is_value, workers_place, workers_value}
use Rattle.command_words.specs.Size.{Size}
use Rattle.command_words.specs.Service.{Service}
use Rattle.command_words.specs.Rejudging.{Rejudging}
use Rattle.command_words.specs.Impact.{Impact as ImpactWords}
use Rattle.command_words.specs.declared.task.Task.{Task}
use Rattle.command_words.specs.declared.task.Task.TheVariants.{Book, Desk, Serve, Rejudge, Impact, Sample}
use Rattle.command_words.specs.declared.task.BookCommand.{BookCommand}
use Rattle.command_words.specs.declared.task.BookCommand.TheVariants.{Order, Check, Prove, Verify, Supplements, Compare, Free, Why, Ask, Days, Require, Changes}
use Rattle.pb_base.specs.declared.limits.TheConstants.{MOST_BUDGET, DEFAULT_BUDGET, MOST_TEXT_BYTES}

-- the number of 1 to 10 digits, where it lies in the range
abbrev pub number_in : ℕ → ℕ → List ℕ → Option ℕ
number_in least most text =
    option_and_then (λ n. if nat_le least n && nat_le n most then Some n else None) (number_within 10 text)

abbrev pub codes_of : Words → Option Words
codes_of names = if list_all is_code_name names then Some names else None

-- a day is 1 to 5 digits
abbrev pub order_of : Option (List ℕ) → Words → Option Task
order_of None (day ∷ names) = option_and_then (λ on. option_map (λ ordered. Book (Order on ordered)) (codes_of names)) (short_number day)
order_of budget operands = None

-- the budget where no option gives one is 10,000
abbrev pub budget_of : Option (List ℕ) → Option ℕ
budget_of None = Some DEFAULT_BUDGET
budget_of (Some text) = number_in 1 MOST_BUDGET text

abbrev pub budget_alone : Option (List ℕ) → Words → Option ℕ
budget_alone budget [] = budget_of budget
budget_alone budget (word ∷ words) = None

abbrev pub check_of : Option (List ℕ) → Words → Option Task
check_of budget operands = option_map (λ n. Book (Check n 1)) (budget_alone budget operands)

abbrev pub prove_of : Option (List ℕ) → Words → Option Task
prove_of budget operands = option_map (λ n. Book (Prove n 1)) (budget_alone budget operands)

abbrev pub supplements_of : Option (List ℕ) → Words → Option Task
supplements_of budget operands = option_map (λ n. Book (Supplements n 1)) (budget_alone budget operands)

abbrev pub only_one : Option (List ℕ) → Words → Option (List ℕ)
only_one None (word ∷ []) = Some word
only_one budget operands = None

abbrev pub verify_of : Option (List ℕ) → Words → Option Task
verify_of budget operands = option_map (λ file. Book (Verify file)) (only_one budget operands)

abbrev pub desk_of : Option (List ℕ) → Words → Option Task
desk_of budget operands = option_map Desk (only_one budget operands)

-- the port, the workers and the links
abbrev pub door_of : Words → Option (ℕ × ℕ × ℕ)
door_of (port ∷ workers ∷ links ∷ []) =
    option_and_then (λ p. option_and_then (λ w. option_map (λ l. (p, w, l)) (number_in 1 1000000 links)) (number_in 1 16 workers))
    (number_in 1 65535 port)
door_of operands = None

abbrev pub service : List ℕ → ℕ × ℕ × ℕ → Service
service store d = record { store = store; port = d.0; workers = d.1; links = d.2 }

abbrev pub serve_of : Option (List ℕ) → Words → Option Task
serve_of None (store ∷ numbers) = option_map (λ d. Serve (service store d)) (door_of numbers)
serve_of budget operands = None

abbrev pub codes_number : List ℕ → Option ℕ
codes_number text = option_and_then (λ n. if n % 4 == 0 then Some n else None) (number_in 8 2000 text)

abbrev pub size : ℕ → ℕ → ℕ → Size
size start codes orders = record { start = start; codes = codes; orders = orders }

abbrev pub sample_of : Option (List ℕ) → Words → Option Task
sample_of None (start ∷ codes ∷ orders ∷ []) =
    option_and_then (λ s. option_and_then (λ c. option_map (λ o. Sample (size s c o)) (number_in 0 10000 orders)) (codes_number codes))
    (number_in 0 4294967295 start)
sample_of budget operands = None

-- a day is 1 to 5 digits
abbrev pub compare_of : Option (List ℕ) → Words → Option Task
compare_of budget (day ∷ file ∷ []) = option_and_then (λ on. option_map (λ n. Book (Compare on file n 1)) (budget_of budget)) (short_number day)
compare_of budget operands = None

abbrev pub rejudging : List ℕ → ℕ → ℕ → Rejudging
rejudging store book workers = record { store = store; book = book; workers = workers }

abbrev pub rejudge_of : Option (List ℕ) → Words → Option Task
rejudge_of None (store ∷ book ∷ workers ∷ []) =
    option_and_then (λ b. option_map (λ w. Rejudge (rejudging store b w)) (number_in 1 16 workers)) (number_in 1 4294967295 book)
rejudge_of budget operands = None

-- a day is 1 to 5 digits
abbrev pub free_of : Option (List ℕ) → Words → Option Task
free_of budget (day ∷ names) =
    option_and_then (λ on. option_and_then (λ n. option_map (λ ordered. Book (Free on ordered n)) (codes_of names)) (budget_of budget)) (short_number day)
free_of budget [] = None

-- a day is 1 to 5 digits
abbrev pub why_of : Option (List ℕ) → Words → Option Task
why_of budget (day ∷ names) =
    option_and_then (λ on. option_and_then (λ n. option_map (λ ordered. Book (Why on ordered n)) (codes_of names)) (budget_of budget)) (short_number day)
why_of budget [] = None

abbrev pub days_of : Option (List ℕ) → Words → Option Task
days_of None names = option_map (λ ordered. Book (Days ordered)) (codes_of names)
days_of (Some budget) names = None

abbrev pub impact : List ℕ → List ℕ → ℕ → ImpactWords
impact store file workers = record { store = store; file = file; workers = workers }

abbrev pub impact_of : Option (List ℕ) → Words → Option Task
impact_of None (store ∷ file ∷ workers ∷ []) = option_map (λ w. Impact (impact store file w)) (number_in 1 16 workers)
impact_of budget operands = None

abbrev pub require_of : Option (List ℕ) → Words → Option Task
require_of budget (file ∷ []) = option_map (λ n. Book (Require file n 1)) (budget_of budget)
require_of budget operands = None

abbrev pub changes_of : Option (List ℕ) → Words → Option Task
changes_of budget (file ∷ []) = option_map (λ n. Book (Changes file n 1)) (budget_of budget)
changes_of budget operands = None

-- each command word but `ask`, and what it asks with a budget and operands
abbrev pub Command : Type 0
Command = List ℕ × (Option (List ℕ) → Words → Option Task)

abbrev pub commands : List Command
commands =
    (codes "order", order_of) ∷ (codes "check", check_of) ∷ (codes "prove", prove_of) ∷ (codes "verify", verify_of)
    ∷ (codes "desk", desk_of) ∷ (codes "serve", serve_of) ∷ (codes "sample", sample_of) ∷ (codes "supplements", supplements_of)
    ∷ (codes "compare", compare_of) ∷ (codes "rejudge", rejudge_of) ∷ (codes "free", free_of) ∷ (codes "why", why_of)
    ∷ (codes "days", days_of) ∷ (codes "impact", impact_of) ∷ (codes "require", require_of) ∷ (codes "changes", changes_of) ∷ []

-- what a command word asks with a budget and operands
abbrev pub asked : List ℕ → Option (List ℕ) → Words → Option Task
asked name budget operands = option_and_then (λ c. c.1 budget operands) (find (λ c. same_name name c.0) commands)

-- the words begin with a command word, and have its parts
pub record AsksByForm (words : Words) (task : Task) : Type 0 where
  pub name : List ℕ
  pub behind : Words
  pub budget : Option (List ℕ)
  pub operands : Words
  pub words_are : words ≡ name ∷ behind
  pub parts : HasParts behind budget operands
  pub asks : asked name budget operands ≡ Some task

-- a rule has at most as many bytes as a book
abbrev pub asked_on : ℕ → List ℕ → ℕ → Option Task
asked_on budget rule day = if nat_le (length rule) MOST_TEXT_BYTES then Some (Book (Ask day rule budget)) else None

-- a day is 1 to 5 digits
abbrev pub asked_with : ℕ → Words → Option Task
asked_with budget (day ∷ rule ∷ []) = option_and_then (asked_on budget rule) (short_number day)
asked_with budget operands = None

abbrev pub ask_of : Option (List ℕ) → Words → Option Task
ask_of budget operands = option_and_then (λ n. asked_with n operands) (budget_of budget)

-- what is asked by the operands in front and the words from the first one on that begins with `--`
abbrev pub ask_from : Words → Words → Option Task
ask_from front [] = ask_of None front
ask_from front (word ∷ words) =
    if same_name word dashes then ask_of None (front ++ words)
    else option_and_then (λ p. option_and_then (λ more. ask_of (Some p.0) (front ++ more)) (operands_of p.1)) (option_value word words)

-- what the words behind `ask` ask for
abbrev pub ask_task : Words → Option Task
ask_task words = ask_from (short_front words) (behind_short words)

abbrev pub ask_word : List ℕ
ask_word = codes "ask"

-- the words begin with `ask`
pub record AsksOfCars (words : Words) (task : Task) : Type 0 where
  pub behind : Words
  pub words_are : words ≡ ask_word ∷ behind
  pub asks : ask_task behind ≡ Some task

-- how many workers share the work, and the words without that option
abbrev pub workers_cut : Words → ℕ → Option (ℕ × Words)
workers_cut words place =
    if is_value words place then None
    else option_and_then (λ p. option_map (λ n. (n, take place words ++ p.1)) (number_in 1 16 p.0)) (workers_value (drop place words))

-- the same by so many workers, which not every command has
abbrev pub command_with : ℕ → BookCommand → Option BookCommand
command_with workers (Check budget one) = Some (Check budget workers)
command_with workers (Prove budget one) = Some (Prove budget workers)
command_with workers (Supplements budget one) = Some (Supplements budget workers)
command_with workers (Compare day file budget one) = Some (Compare day file budget workers)
command_with workers (Require file budget one) = Some (Require file budget workers)
command_with workers (Changes file budget one) = Some (Changes file budget workers)
command_with workers (Order day ordered) = None
command_with workers (Verify file) = None
command_with workers (Free day ordered budget) = None
command_with workers (Why day ordered budget) = None
command_with workers (Ask day rule budget) = None
command_with workers (Days ordered) = None

abbrev pub task_with : ℕ → Task → Option Task
task_with workers (Book command) = option_map Book (command_with workers command)
task_with workers (Desk store) = None
task_with workers (Serve service) = None
task_with workers (Rejudge asked) = None
task_with workers (Impact asked) = None
task_with workers (Sample size) = None

-- the words have the option, and without it they ask for what one worker does
pub record AsksOfSeveral (words : Words) (task : Task) : Type 0 where
  pub place : ℕ
  pub stands : workers_place words ≡ Some place
  pub workers : ℕ
  pub others : Words
  pub cut : workers_cut words place ≡ Some (workers, others)
  pub one : Task
  pub asks : AsksByForm others one
  pub several : task_with workers one ≡ Some task

-- the words ask for the task
pub data Asks (words : Words) (task : Task) : Type 0 where
  by_form : AsksByForm words task → Asks words task
  of_cars : AsksOfCars words task → Asks words task
  of_several : AsksOfSeveral words task → Asks words task

-- the words are of no form
abbrev pub AsksNothing : Words → Type 0
AsksNothing words = (task : Task) → Asks words task → ⊥

-- the words ask for this task, or for nothing
abbrev pub Means : Words → Option Task → Type 0
Means words None = AsksNothing words
Means words (Some task) = Asks words task

-- the same of words that don't begin with `ask`
abbrev pub MeansByForm : Words → Option Task → Type 0
MeansByForm words None = (task : Task) → AsksByForm words task → ⊥
MeansByForm words (Some task) = AsksByForm words task

-- the same of words that have the option of several workers
abbrev pub MeansSeveral : Words → Option Task → Type 0
MeansSeveral words None = (task : Task) → AsksOfSeveral words task → ⊥
MeansSeveral words (Some task) = AsksOfSeveral words task

-- what stands behind `ask`, where the words begin so
abbrev pub behind_ask : Words → Option Words
behind_ask [] = None
behind_ask (word ∷ words) = if same_name word ask_word then Some words else None
