-- A call that a message asks for is within its ranges.
use Rattle.std.proofs.Common.{◌≡◌, ◌≤◌, ◌+◌, ◌*◌, ◌-◌, ◌^◌, ◌∙◌, ℕ, Bool, true, false, ◌&&◌, ◌==◌, List, [], ◌∷◌, length, refl, sym, ap, subst, arith, inl, inr, leb-true, lit<, ◌≢◌}
use Rattle.std.specs.Prelude.{Option, Some, None, Result, Ok, Err, IfSome, nat_le, option_map, option_and_then, slice_index, codes, if◌then◌else◌}
use Rattle.std.specs.List.{list_all}
use Rattle.std.specs.Cmp.{first_so, second_so}
use Rattle.std.proofs.Math.Nat.{mul-le-mul_right, mul_assoc, pow-le-pow_right, pow-succ'}
use Rattle.std.proofs.lemmas.Bool.{eqb-false}
use Rattle.std.proofs.lemmas.Bool.Decides.{leb_tells}
use Rattle.serde_json.specs.Data.{Data}
use Rattle.serde_json.specs.Find.{get, as_number, as_u64}
use Rattle.pb_base.specs.Digits.{is_digit, is_number, value_from, value_of}
use Rattle.pb_base.specs.Results.{and_then}
use Rattle.pb_base.specs.declared.limits.TheConstants.{MOST_TEXT_BYTES, MOST_BUDGET, DEFAULT_BUDGET}
use Rattle.desk_words.specs.declared.call.Call.{Call}
use Rattle.desk_words.specs.declared.call.What.{What}
use Rattle.desk_words.specs.declared.call.What.TheVariants as what
use Rattle.desk_words.specs.declared.order_words.OrderWords.{OrderWords}
use Rattle.http_wire.specs.declared.message.Message.{Message}
use Rattle.http_api.specs.Body.{budget_in, budget_or, asked_in, check_in, name_in, number_at, object_of, only_if, order_budget, order_in, order_to, release_in, what_of}
use Rattle.http_api.specs.Call.{LeadsNowhere, call_at, or_denied}
use Rattle.http_api.specs.Path.{path_of}
use Rattle.http_api.specs.Request.{method_of, request_of}
use Rattle.http_api.specs.Route.{Leads, path_number}
use Rattle.http_api.specs.declared.denied.Denied.{Denied}
use Rattle.http_api.specs.declared.denied.Denied.TheVariants.{WrongMethod, BadCaller, BadBody}
use Rattle.http_api.specs.declared.request.Request.{Request}
use Rattle.http_api.specs.declared.request.Request.TheVariants.{Whole, PutDraft, GiveDraft, Check, Release, Free, Why, PlaceOrder}
use Rattle.http_api.specs.declared.request.Verb.{Verb}
use Rattle.http_api.specs.declared.request.Verb.TheVariants.{Get, Put, Post}
use Rattle.http_api.specs.declared.route.DraftPage.TheVariants.{Text as DraftText, Owner, Check as CheckPage, Release as ReleasePage}
use Rattle.http_api.specs.declared.route.BookPage.TheVariants.{Text as BookText, Certificate, Withdraw, Free as FreePage, Why as WhyPage}
use Rattle.http_api.specs.declared.route.Route.{Route}
use Rattle.http_api.specs.declared.route.ListPage.TheVariants.{Books, Orders}
use Rattle.http_api.specs.declared.route.Route.TheVariants.{Draft, Book, Order, Listed, OrdersAfter}
use Rattle.answering.specs.Answers.{IsBudget, IsCall}
use Rattle.session.specs.Responses.{Asks}

-- ---- numbers of orders

value_grows : (front : ℕ) (digits : List ℕ) → front ≤ value_from front digits
value_grows front [] = omega arith
value_grows front (d ∷ ds) = let more = value_grows (10 * front + (d - 48)) ds in omega arith

digit_low : (d : ℕ) → is_digit d ≡ true → 48 ≤ d
digit_low d is = leb-true 48 d (first_so (nat_le 48 d) (nat_le d 57) is)

digit_high : (d : ℕ) → is_digit d ≡ true → d ≤ 57
digit_high d is = leb-true d 57 (second_so (nat_le 48 d) (nat_le d 57) is)

value_small : (front : ℕ) (digits : List ℕ) → list_all is_digit digits ≡ true → value_from front digits + 1 ≤ (front + 1) * 10 ^ length digits
value_small front [] all = omega arith
value_small front (d ∷ ds) all =
    let high : d ≤ 57 = digit_high d (first_so (is_digit d) (list_all is_digit ds) all) in
    let rest : value_from (10 * front + (d - 48)) ds + 1 ≤ (10 * front + (d - 48) + 1) * 10 ^ length ds =
    value_small (10 * front + (d - 48)) ds (second_so (is_digit d) (list_all is_digit ds) all) in
    let front_small : 10 * front + (d - 48) + 1 ≤ (front + 1) * 10 = omega arith in
    let times : (10 * front + (d - 48) + 1) * 10 ^ length ds ≤ (front + 1) * 10 * 10 ^ length ds = mul-le-mul_right (10 ^ length ds) front_small in
    let whole : (front + 1) * 10 * 10 ^ length ds ≡ (front + 1) * 10 ^ length (d ∷ ds) =
    mul_assoc (front + 1) 10 (10 ^ length ds) ∙ ap (λ (n : ℕ). (front + 1) * n) (sym (pow-succ' 10 (length ds))) in
    subst (λ (n : ℕ). value_from (10 * front + (d - 48)) ds + 1 ≤ n) whole (omega arith)

abbrev IsOrderNumber : ℕ → Type 0
IsOrderNumber number = (1 ≤ number) × (number ≤ 999999999)

of_digits : (digits : List ℕ) → (slice_index digits 0 == 48) ≡ false → is_number 9 digits ≡ true → IsOrderNumber (value_of digits)
of_digits [] first is = absurd (cc)
of_digits (d ∷ ds) first is =
    let few : (nat_le 1 (length (d ∷ ds)) && nat_le (length (d ∷ ds)) 9) ≡ true =
    first_so (nat_le 1 (length (d ∷ ds)) && nat_le (length (d ∷ ds)) 9) (list_all is_digit (d ∷ ds)) is in
    let all : list_all is_digit (d ∷ ds) ≡ true =
    second_so (nat_le 1 (length (d ∷ ds)) && nat_le (length (d ∷ ds)) 9) (list_all is_digit (d ∷ ds)) is in
    let short : length (d ∷ ds) ≤ 9 = leb-true (length (d ∷ ds)) 9 (second_so (nat_le 1 (length (d ∷ ds))) (nat_le (length (d ∷ ds)) 9) few) in
    let low : 48 ≤ d = digit_low d (first_so (is_digit d) (list_all is_digit ds) all) in
    let other : d ≢ 48 = eqb-false d 48 first in
    let grows : 10 * 0 + (d - 48) ≤ value_of (d ∷ ds) = value_grows (10 * 0 + (d - 48)) ds in
    let small : value_of (d ∷ ds) + 1 ≤ (0 + 1) * 10 ^ length (d ∷ ds) = value_small 0 (d ∷ ds) all in
    let top : 10 ^ length (d ∷ ds) ≤ 10 ^ 9 = pow-le-pow_right {n = 10} (lit< tt) short in
    (omega arith, omega arith)

order_number : (digits : List ℕ) (number : ℕ) → path_number digits ≡ Some number → IsOrderNumber number
order_number digits number is = at (slice_index digits 0 == 48) (is_number 9 digits) refl refl is
  where
    at : (zero many : Bool) → (slice_index digits 0 == 48) ≡ zero → is_number 9 digits ≡ many
        → (if zero then None else (if many then Some (value_of digits) else None)) ≡ Some number → IsOrderNumber number
    at true many z m h = absurd (cc)
    at false false z m h = absurd (cc)
    at false true z m h = let same : value_of digits ≡ number = cc in subst IsOrderNumber same (of_digits digits z m)

-- ---- what a path and a method ask for

abbrev IsRequest : Request → Type 0
IsRequest (Whole asked) = IsCall asked
IsRequest (PlaceOrder number) = IsOrderNumber number
IsRequest request = Unit {0}

request_within : (path : List ℕ) (route : Route) (verb : Verb) → Leads path route → IfSome (request_of route verb) IsRequest
request_within path (Draft name DraftText) Get leads = tt
request_within path (Draft name Owner) Get leads = tt
request_within path (Draft name CheckPage) Post leads = tt
request_within path (Draft name ReleasePage) Post leads = tt
request_within path (Book number BookText) Get leads = tt
request_within path (Book number Certificate) Get leads = tt
request_within path (Book number Withdraw) Post leads = tt
request_within path (Book number FreePage) Post leads = tt
request_within path (Book number WhyPage) Post leads = tt
request_within path (Order number) Put leads = order_number leads.0 number leads.2
request_within path (Listed Books) Get leads = tt
request_within path (Listed Orders) Get leads = tt
request_within path (OrdersAfter number) Get leads = tt
request_within path route verb leads = tt

-- ---- what a body says

map_within : {A B : Type 0} (P : A → Type 0) (Q : B → Type 0) (f : A → B) → ((a : A) → P a → Q (f a)) → (o : Option A) → IfSome o P → IfSome (option_map f o) Q
map_within P Q f so None h = tt
map_within P Q f so (Some a) h = so a h

then_within : {A B : Type 0} (Q : B → Type 0) (f : A → Option B) → ((a : A) → IfSome (f a) Q) → (o : Option A) → IfSome (option_and_then f o) Q
then_within Q f so None = tt
then_within Q f so (Some a) = so a

always : {A : Type 0} (o : Option A) → IfSome o (λ a. Unit {0})
always None = tt
always (Some a) = tt

budget_number : (n : ℕ) → IfSome (only_if (λ k. nat_le 1 k && nat_le k MOST_BUDGET) n) IsBudget
budget_number n = at (nat_le 1 n && nat_le n MOST_BUDGET) refl
  where
    at : (is : Bool) → (nat_le 1 n && nat_le n MOST_BUDGET) ≡ is → IfSome (if is then Some n else None) IsBudget
    at true is =
        let low : 1 ≤ n = leb-true 1 n (first_so (nat_le 1 n) (nat_le n MOST_BUDGET) is) in
        let high : n ≤ MOST_BUDGET = leb-true n MOST_BUDGET (second_so (nat_le 1 n) (nat_le n MOST_BUDGET) is) in (omega arith, high)
    at false is = tt

budget_within : (usual : ℕ) → IsBudget usual → (o : Option Data) → IfSome (budget_or usual o) IsBudget
budget_within usual is None = is
budget_within usual is (Some d) =
    then_within IsBudget (only_if (λ k. nat_le 1 k && nat_le k MOST_BUDGET)) budget_number (option_and_then as_u64 (as_number d))

usual_within : (o : Option Data) → IfSome (budget_or DEFAULT_BUDGET o) IsBudget
usual_within o = budget_within DEFAULT_BUDGET (omega arith, omega arith) o

check_within : (name body : List ℕ) → IfSome (check_in name body) IsCall
check_within name [] = (omega arith, omega arith)
check_within name (b ∷ body) =
    map_within IsBudget IsCall (what.Check name) (λ budget is. is) (option_and_then (budget_in DEFAULT_BUDGET) (object_of (b ∷ body)))
    (then_within IsBudget (budget_in DEFAULT_BUDGET) (λ d. usual_within (get (codes "budget") d)) (object_of (b ∷ body)))

release_within : (name : List ℕ) (d : Data) → IfSome (release_in name d) IsCall
release_within name d =
    then_within IsCall (λ revision. option_map (what.Release name revision) (budget_in DEFAULT_BUDGET d))
    (λ revision. map_within IsBudget IsCall (what.Release name revision) (λ budget is. is) (budget_in DEFAULT_BUDGET d) (usual_within (get (codes "budget") d)))
    (number_at (codes "revision") 1 4294967295 d)

asked_within : (call : OrderWords → ℕ → What) → ((order : OrderWords) (budget : ℕ) → IsBudget budget → IsCall (call order budget)) → (book : ℕ) (d : Data)
    → IfSome (asked_in call book d) IsCall
asked_within call so book d =
    then_within IsCall (λ order. option_map (call order) (budget_in order_budget d))
    (λ order. map_within IsBudget IsCall (call order) (so order) (budget_in order_budget d)
    (budget_within order_budget (omega arith, omega arith) (get (codes "budget") d)))
    (order_to d book)

what_within : (request : Request) (body : List ℕ) → IsRequest request → length body ≤ MOST_TEXT_BYTES → IfSome (what_of request body) IsCall
what_within (Whole asked) body is small = is
what_within (PutDraft name) body is small = small
what_within (GiveDraft name) body is small =
    map_within (λ to. Unit {0}) IsCall (what.GiveDraft name) (λ to is. tt) (option_and_then name_in (option_and_then (get (codes "to")) (object_of body)))
    (always (option_and_then name_in (option_and_then (get (codes "to")) (object_of body))))
what_within (Check name) body is small = check_within name body
what_within (Release name) body is small = then_within IsCall (release_in name) (release_within name) (object_of body)
what_within (Free book) body is small =
    then_within IsCall (asked_in what.Free book) (asked_within what.Free (λ order budget within. within) book) (object_of body)
what_within (Why book) body is small =
    then_within IsCall (asked_in what.Why book) (asked_within what.Why (λ order budget within. within) book) (object_of body)
what_within (PlaceOrder number) body is small =
    map_within (λ order. Unit {0}) IsCall (what.Order number) (λ order any. is) (option_and_then order_in (object_of body))
    (always (option_and_then order_in (object_of body)))

-- ---- a message

then_ok : {A B E : Type 0} (r : Result A E) (f : A → Result B E) (v : B) → and_then r f ≡ Ok v → (a : A) × (r ≡ Ok a) × (f a ≡ Ok v)
then_ok (Ok a) f v h = (a, refl, h)
then_ok (Err e) f v h = absurd (cc)

not_denied : {A : Type 0} (denied : Denied) (o : Option A) (a : A) → or_denied denied o ≡ Ok a → o ≡ Some a
not_denied denied None a h = absurd (cc)
not_denied denied (Some b) a h = let same : b ≡ a = cc in ap (λ c. Some c) same

at_value : {A : Type 0} (P : A → Type 0) (o : Option A) (a : A) → o ≡ Some a → IfSome o P → P a
at_value P o a is h = subst (λ k. IfSome k P) is h

-- the steps from a route to a call
abbrev with_what : List ℕ → What → Result Call Denied
with_what caller asked = Ok (record { caller = caller; what = asked })

abbrev with_caller : Request → Message → List ℕ → Result Call Denied
with_caller request m caller = and_then (or_denied BadBody (what_of request m.body)) (with_what caller)

abbrev with_request : Message → Request → Result Call Denied
with_request m request = and_then (or_denied BadCaller m.head.caller) (with_caller request m)

same_what : (caller : List ℕ) (asked : What) (call : Call) → with_what caller asked ≡ Ok call → asked ≡ call.what
same_what caller asked call is =
    let one : Call = record { caller = caller; what = asked } in
    let same : one ≡ call = cc in
    ap (λ (c : Call). c.what) same

call_within : (route : Route) (m : Message) (call : Call) → Leads (path_of m.head.target) route → length m.body ≤ MOST_TEXT_BYTES → call_at route m ≡ Ok call
    → IsCall call.what
call_within route m call leads small is =
    let requested : Option Request = request_of route (method_of m.head.method) in
    let by_request = then_ok (or_denied WrongMethod requested) (with_request m) call is in
    let by_caller = then_ok (or_denied BadCaller m.head.caller) (with_caller by_request.0 m) call by_request.2 in
    let by_what = then_ok (or_denied BadBody (what_of by_request.0 m.body)) (with_what by_caller.0) call by_caller.2 in
    let request_is : IsRequest by_request.0 =
    at_value IsRequest requested by_request.0 (not_denied WrongMethod requested by_request.0 by_request.1)
    (request_within (path_of m.head.target) route (method_of m.head.method) leads) in
    let what_is : IsCall by_what.0 =
    at_value IsCall (what_of by_request.0 m.body) by_what.0 (not_denied BadBody (what_of by_request.0 m.body) by_what.0 by_what.1)
    (what_within by_request.0 m.body request_is small) in
    subst IsCall (same_what by_caller.0 by_what.0 call by_what.2) what_is

-- ---- whichever route it is

stable_le : (a b : ℕ) → ¬ (¬ (a ≤ b)) → a ≤ b
stable_le a b so = elim (leb_tells a b) [ inl within ↦ within.1 | inr above ↦ absurd (so (λ le. let lt = above.1 in omega arith)) ]

stable : (asked : What) → ¬ (¬ IsCall asked) → IsCall asked
stable (what.PutDraft draft text) so = stable_le (length text) MOST_TEXT_BYTES so
stable (what.Check draft budget) so = (stable_le 1 budget (λ out. so (λ is. out is.0)), stable_le budget MOST_BUDGET (λ out. so (λ is. out is.1)))
stable (what.Release draft revision budget) so = (stable_le 1 budget (λ out. so (λ is. out is.0)), stable_le budget MOST_BUDGET (λ out. so (λ is. out is.1)))
stable (what.Free order budget) so = (stable_le 1 budget (λ out. so (λ is. out is.0)), stable_le budget MOST_BUDGET (λ out. so (λ is. out is.1)))
stable (what.Why order budget) so = (stable_le 1 budget (λ out. so (λ is. out is.0)), stable_le budget MOST_BUDGET (λ out. so (λ is. out is.1)))
stable (what.Order number order) so = (stable_le 1 number (λ out. so (λ is. out is.0)), stable_le number 999999999 (λ out. so (λ is. out is.1)))
stable _ so = tt

pub is_call : (m : Message) (call : Call) → Asks m (Ok call) → length m.body ≤ MOST_TEXT_BYTES → IsCall call.what
is_call m call asks small = stable call.what (λ out.
    let nowhere : LeadsNowhere (path_of m.head.target) = λ route leads. out (call_within route m call leads small (asks.routed route leads)) in
    let never = asks.lost nowhere in cc)
