-- Which codes of an order can stay together.
--     IsCarWith b day kept x       a car of the day that has the codes
--     NoneBeside b day kept c      no car that has the codes has c too
--     IsGreedy b day before chosen kept    from the left a code stays just where some car has it and all that stay so far, `before` first
--     IsStay b day chosen s        the codes that stay so, with a car that has them; none of the others can be put to them
--     IsStaying b day chosen budget answer    what is told
--     IsTogether b day chosen budget together    what is told of whether the codes stay together
--     IsFoundWith b day kept budget found    what comes of a search for a car that has the codes
--     codes_literals kept            the literals that the codes are there
--     codes_of m                     the codes among entries
use Rattle.std.specs.Prelude.{◌≡◌, ◌⊎◌, ℕ, ◌==◌, Bool, true, false, List, [], ◌∷◌, ◌++◌, map, Option, Some, None}
use Rattle.std.specs.List.{list_all, list_any, AllByRecursion}
use Rattle.pb_base.specs.Rule.{always}
use Rattle.pb_base.specs.Sets.{has}
use Rattle.book_model.specs.Contents.{Contents}
use Rattle.book_model.specs.Good.{is_good}
use Rattle.clause_pool.specs.Literal.{literal}
use Rattle.clause_pool.specs.PoolContents.{PoolContents}
use Rattle.blame.specs.Blame.{AreBlamed, IsGivenUp}
use Rattle.blame.specs.Entries.{all_entries, Among}
use Rattle.blame.specs.declared.entries.Entry.{Entry}
use Rattle.blame.specs.declared.entries.Entry.TheVariants.{Supplement, Construct, Chosen}
use Rattle.order_stays.specs.declared.finding.Found.{Found}
use Rattle.order_stays.specs.declared.finding.Found.TheVariants as found
use Rattle.order_stays.specs.declared.stay.Stay.{Stay}
use Rattle.order_stays.specs.declared.stay.Staying.{Staying}
use Rattle.order_stays.specs.declared.stay.Staying.TheVariants.{Codes, NoCar, Undecided}
use Rattle.order_stays.specs.declared.stay.Together.{Together}
use Rattle.order_stays.specs.declared.stay.Together.TheVariants as together

pub record IsCarWith (b : Contents) (day : ℕ) (kept : List ℕ) (x : List Bool) : Type 0 where
  pub good : is_good b day x ≡ true
  pub has_kept : list_all (has x) kept ≡ true

abbrev pub NoneBeside : Contents → ℕ → List ℕ → ℕ → Type 0
NoneBeside b day kept c = (x : List Bool) → IsCarWith b day kept x → has x c ≡ false

abbrev pub StaysOrNot : Contents → ℕ → List ℕ → ℕ → Type 0
StaysOrNot b day kept c = (list_any (λ k. k == c) kept ≡ true) ⊎ NoneBeside b day kept c

abbrev pub IsGreedy : Contents → ℕ → List ℕ → List ℕ → List ℕ → Type 0
IsGreedy b day before [] kept = kept ≡ before
IsGreedy b day before (c ∷ cs) kept =
    (((x : List Bool) × IsCarWith b day (before ++ c ∷ []) x) × IsGreedy b day (before ++ c ∷ []) cs kept)
    ⊎ (NoneBeside b day before c × IsGreedy b day before cs kept)

pub record IsStay (b : Contents) (day : ℕ) (chosen : List ℕ) (s : Stay) : Type 0 where
  pub greedy : IsGreedy b day [] chosen s.kept.items
  pub among : Among chosen s.kept.items
  pub car : IsCarWith b day s.kept.items s.car
  pub each : AllByRecursion (StaysOrNot b day s.kept.items) chosen

-- a search for a car with some of the codes was left
pub record IsLeftWith (b : Contents) (day : ℕ) (chosen : List ℕ) (budget : ℕ) (learnt : List (List ℕ)) : Type 0 where
  pub kept : List ℕ
  pub among : Among chosen kept
  pub left : IsGivenUp b always (all_entries b day kept) budget learnt

abbrev pub IsStaying : Contents → ℕ → List ℕ → ℕ → Staying → Type 0
IsStaying b day chosen budget (Codes s) = IsStay b day chosen s
IsStaying b day chosen budget NoCar = (x : List Bool) → is_good b day x ≡ false
IsStaying b day chosen budget (Undecided learnt) = IsLeftWith b day chosen budget learnt.clauses

-- a car with all the codes; or none has them, by what is to blame, and these stay; or a search was left
abbrev pub IsTogether : Contents → ℕ → List ℕ → ℕ → Together → Type 0
IsTogether b day chosen budget (together.Car x) = IsCarWith b day chosen x
IsTogether b day chosen budget (together.Apart clash staying) = AreBlamed b day chosen always budget clash × IsStaying b day chosen budget staying
IsTogether b day chosen budget (together.Undecided learnt) = IsLeftWith b day chosen budget learnt.clauses

-- one more code: it stays, with a car that has it, or none beside those that stay has it, or the search was left
pub record IsOneMore (b : Contents) (day : ℕ) (code : ℕ) (old new : Stay) : Type 0 where
  pub car : IsCarWith b day new.kept.items new.car
  pub cases : (new.kept.items ≡ old.kept.items ++ code ∷ []) ⊎ ((new.kept.items ≡ old.kept.items) × NoneBeside b day old.kept.items code)

abbrev pub IsTried : Contents → ℕ → ℕ → ℕ → Stay → Stay → Option PoolContents → Type 0
IsTried b day budget code old new None = IsOneMore b day code old new
IsTried b day budget code old new (Some learnt) = IsLeftWith b day (old.kept.items ++ code ∷ []) budget learnt.clauses

-- no car has all the codes
abbrev pub NoneWith : Contents → ℕ → List ℕ → Type 0
NoneWith b day kept = (x : List Bool) → IsCarWith b day kept x → ⊥

abbrev pub IsFoundWith : Contents → ℕ → List ℕ → ℕ → Found → Type 0
IsFoundWith b day kept budget (found.Car x) = IsCarWith b day kept x
IsFoundWith b day kept budget found.NoCar = NoneWith b day kept
IsFoundWith b day kept budget (found.Undecided learnt) = IsGivenUp b always (all_entries b day kept) budget learnt.clauses

abbrev pub codes_literals : List ℕ → List ℕ
codes_literals kept = map (λ c. literal c true) kept

abbrev pub codes_of : List Entry → List ℕ
codes_of [] = []
codes_of (Supplement p ∷ m) = codes_of m
codes_of (Construct p ∷ m) = codes_of m
codes_of (Chosen c ∷ m) = c ∷ codes_of m
