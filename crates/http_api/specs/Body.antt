-- What a body says.
--     data_of bytes            the JSON value that the bytes are
--     what_of request body     the call, or none where the body isn't of the form
use Rattle.std.specs.Prelude.{ℕ, Bool, List, [], ◌∷◌, ◌&&◌, Option, Some, None, codes, is_some, nat_le, option_map, option_and_then, if◌then◌else◌}
use Rattle.std.specs.Str.{is_utf8}
use Rattle.serde_json.specs.Data.{Data, Items, no_items, item}
use Rattle.serde_json.specs.Read.{read}
use Rattle.serde_json.specs.Find.{get, as_array, as_number, as_object, as_str, as_u64}
use Rattle.pb_base.specs.Names.{is_name, is_code_name}
use Rattle.desk_words.specs.declared.order_words.OrderWords.{OrderWords}
use Rattle.desk_words.specs.declared.call.What.{What}
use Rattle.desk_words.specs.declared.call.What.TheVariants as call
use Rattle.http_api.specs.declared.request.Request.{Request}
use Rattle.http_api.specs.declared.request.Request.TheVariants.{Whole, PutDraft, GiveDraft, Check, Release, Free, Why, PlaceOrder}
use Rattle.pb_base.specs.declared.limits.TheConstants.{MOST_BUDGET, DEFAULT_BUDGET}

abbrev pub data_of : List ℕ → Option Data
data_of bytes = if is_utf8 bytes then read bytes else None

abbrev pub only_if : {A : Type 0} → (A → Bool) → A → Option A
only_if test value = if test value then Some value else None

-- the object that a body is
abbrev pub object_of : List ℕ → Option Data
object_of body = option_and_then (only_if (λ d. is_some (as_object d))) (data_of body)

-- a whole number from least to most, written in digits alone
abbrev pub number_within : ℕ → ℕ → Data → Option ℕ
number_within least most d = option_and_then (only_if (λ n. nat_le least n && nat_le n most)) (option_and_then as_u64 (as_number d))

abbrev pub number_at : List ℕ → ℕ → ℕ → Data → Option ℕ
number_at key least most d = option_and_then (number_within least most) (get key d)

-- the budget, which is the usual one where the object names none
abbrev pub budget_or : ℕ → Option Data → Option ℕ
budget_or usual None = Some usual
budget_or usual (Some d) = number_within 1 MOST_BUDGET d

abbrev pub budget_in : ℕ → Data → Option ℕ
budget_in usual d = budget_or usual (get (codes "budget") d)

-- the usual budget of what is asked of an order
abbrev pub order_budget : ℕ
order_budget = 1000

abbrev pub name_in : Data → Option (List ℕ)
name_in d = option_and_then (only_if is_name) (as_str d)

abbrev pub code_in : Data → Option (List ℕ)
code_in d = option_and_then (only_if is_code_name) (as_str d)

-- the codes, each a code name
abbrev pub codes_in : Items → Option (List (List ℕ))
codes_in no_items = Some []
codes_in (item d ds) = option_and_then (λ code. option_map (λ rest. code ∷ rest) (codes_in ds)) (code_in d)

abbrev pub largest : ℕ
largest = 4294967295

-- an order: its book, its day and its codes
abbrev pub order_to : Data → ℕ → Option OrderWords
order_to d book =
    option_and_then (λ day. option_map (λ names. record { book = book; day = day; codes = names })
    (option_and_then codes_in (option_and_then as_array (get (codes "codes") d))))
    (number_at (codes "day") 0 99999 d)

abbrev pub order_in : Data → Option OrderWords
order_in d = option_and_then (order_to d) (number_at (codes "book") 1 largest d)

-- an order to the book of the path, and a budget
abbrev pub asked_in : (OrderWords → ℕ → What) → ℕ → Data → Option What
asked_in call book d = option_and_then (λ order. option_map (call order) (budget_in order_budget d)) (order_to d book)

abbrev pub check_in : List ℕ → List ℕ → Option What
check_in name [] = Some (call.Check name DEFAULT_BUDGET)
check_in name (b ∷ body) = option_map (call.Check name) (option_and_then (budget_in DEFAULT_BUDGET) (object_of (b ∷ body)))

abbrev pub release_in : List ℕ → Data → Option What
release_in name d = option_and_then (λ revision. option_map (call.Release name revision) (budget_in DEFAULT_BUDGET d)) (number_at (codes "revision") 1 largest d)

abbrev pub what_of : Request → List ℕ → Option What
what_of (Whole what) body = Some what
what_of (PutDraft name) body = Some (call.PutDraft name body)
what_of (GiveDraft name) body = option_map (call.GiveDraft name) (option_and_then name_in (option_and_then (get (codes "to")) (object_of body)))
what_of (Check name) body = check_in name body
what_of (Release name) body = option_and_then (release_in name) (object_of body)
what_of (Free book) body = option_and_then (asked_in call.Free book) (object_of body)
what_of (Why book) body = option_and_then (asked_in call.Why book) (object_of body)
what_of (PlaceOrder number) body = option_map (call.Order number) (option_and_then order_in (object_of body))
