-- Lists of books and of orders, line after line.
use Rattle.std.proofs.Common.{◌≡◌, ℕ, suc, ◌+◌, ◌≤◌, Bool, true, false, not, ◌&&◌, cond, List, [], ◌∷◌, ◌++◌, length, take, refl, sym, ap, subst, ◌∙◌, arith, append_assoc, Bor}
use Rattle.std.specs.Prelude.{Option, None, Some, is_some, nat_lt}
use Rattle.std.specs.List.{AllByRecursion, flat_map}
use Rattle.std.specs.BTreeMap.Range.{entries_between, range_contains}
use Rattle.std.specs.Cmp.{IsTotalOrder}
use Rattle.std.specs.Cmp.Lexicographic.{bytes_decides}
use Rattle.std.specs.Map.Iter.{TakesFirst, deref_pair}
use Rattle.std.specs.Ordering.{is_gt, is_lt, nat_cmp, ordering_reverse, ordering_then}
use Rattle.std.specs.declared.cmp.Ordering.{Ordering}
use Rattle.std.specs.declared.cmp.Ordering.TheVariants.{Less, Equal, Greater}
use Rattle.std.specs.declared.ops.Bound.TheVariants.{Included, Excluded}
use Rattle.std.proofs.lemmas.Bool.Decides.{nat_tests}
use Rattle.pb_base.specs.Names.{same_name}
use Rattle.desk_words.specs.declared.order_words.OrderWords.{OrderWords}
use Rattle.order_desk.specs.declared.kept_book.KeptBook.{KeptBook}
use Rattle.order_desk.specs.declared.limits.TheConstants.{MOST_ORDER_NUMBER}
use Rattle.order_desk.specs.declared.order_key.OrderKey.{OrderKey}
use Rattle.order_desk.specs.Fits.{IsPlaced}
use Rattle.order_desk.specs.Listing.{last_line, order_line, own_above}
use Rattle.order_desk.specs.Tables.{by_key, by_name, key_of}
use Rattle.order_desk.proofs.Keys.{by_name_exact, by_name_total}

-- ---- the lines of orders

-- the lines of at most n orders, and whether there are further ones
abbrev pub list_of : ℕ → List (OrderKey × OrderWords) → List ℕ
list_of n own = flat_map order_line (take n own) ++ last_line (nat_lt n (length own))

-- one more line
pub list_more : (n : ℕ) (e : OrderKey × OrderWords) (rest : List (OrderKey × OrderWords)) → list_of (suc n) (e ∷ rest) ≡ order_line e ++ list_of n rest
list_more n e rest =
    let fewer : nat_lt (suc n) (length (e ∷ rest)) ≡ nat_lt n (length rest) = grind (arith, nat_tests) in
    let lines : List ℕ = flat_map order_line (take n rest) in
    ap (λ b. (order_line e ++ lines) ++ last_line b) fewer ∙ append_assoc (order_line e) lines (last_line (nat_lt n (length rest)))

-- whether there is a further one
more_left : (orders rest : List (OrderKey × OrderWords)) (r : Option (Bor OrderKey × Bor OrderWords)) → TakesFirst deref_pair orders r rest
    → is_some r ≡ nat_lt 0 (length orders)
more_left orders rest None (none, _) = sym (ap (λ (l : List (OrderKey × OrderWords)). nat_lt 0 (length l)) none)
more_left orders rest (Some x) first =
    let some : nat_lt 0 (length orders) ≡ true = grind (arith, nat_tests, ap length first) in
    sym some

pub listed_more : (left further : ℕ) (e : OrderKey × OrderWords) (orders rest : List (OrderKey × OrderWords)) (text put whole : List ℕ) → left ≡ further + 1
    → orders ≡ e ∷ rest → put ≡ text ++ order_line e → text ++ list_of left orders ≡ whole → put ++ list_of further rest ≡ whole
listed_more left further e orders rest text put whole fewer first is so =
    let next : left ≡ suc further = omega (arith, fewer) in
    let line_and_rest : list_of left orders ≡ order_line e ++ list_of further rest =
    ap (λ (n : ℕ). list_of n orders) next ∙ ap (list_of (suc further)) first ∙ list_more further e rest in
    ap (λ (t : List ℕ). t ++ list_of further rest) is
    ∙ append_assoc text (order_line e) (list_of further rest)
    ∙ ap (λ (t : List ℕ). text ++ t) (sym line_and_rest)
    ∙ so

pub listed_last : (left : ℕ) (orders rest : List (OrderKey × OrderWords)) (r : Option (Bor OrderKey × Bor OrderWords)) (text put whole : List ℕ) → left ≡ 0
    → TakesFirst deref_pair orders r rest → put ≡ text ++ last_line (is_some r) → text ++ list_of left orders ≡ whole → put ≡ whole
listed_last left orders rest r text put whole none takes is so =
    let told : last_line (is_some r) ≡ list_of left orders = ap last_line (more_left orders rest r takes) ∙ ap (λ (n : ℕ). list_of n orders) (sym none) in
    is ∙ ap (λ (t : List ℕ). text ++ t) told ∙ so

-- ---- the caller's own orders are those between two keys

same_equal : {K : Type 0} {R : K → K → Ordering} → IsTotalOrder R → (x : K) → R x x ≡ Equal
same_equal {K} {R} total x = by (R x x) (total.antisymm x x)
  where
    by : (o : Ordering) → o ≡ ordering_reverse o → o ≡ Equal
    by Less h = cc
    by Equal h = refl
    by Greater h = cc

-- the two keys stand in their order
pub keys_forward : (caller : List ℕ) (number most : ℕ) → number ≤ most → is_gt (by_key (key_of caller number) (key_of caller most)) ≡ false
keys_forward caller number most few =
    let equal : by_name caller caller ≡ Equal = same_equal by_name_total caller in
    let not_above : is_gt (nat_cmp number most) ≡ false = grind (arith, nat_tests) in
    rw equal not_above

-- by its caller, an order is within the keys or not
own_by : (o : Ordering) (caller : List ℕ) (number most : ℕ) (k : OrderKey) → by_name caller k.caller ≡ o → k.number ≤ most
    → (is_lt (ordering_then o (nat_cmp number k.number)) && not (is_lt (ordering_then o (nat_cmp most k.number))))
    ≡ (same_name k.caller caller && nat_lt number k.number)
own_by Less caller number most k is few = other (same_name k.caller caller) refl
  where
    other : (same : Bool) → same_name k.caller caller ≡ same → false ≡ (same && nat_lt number k.number)
    other false h = refl
    other true h =
        let one : k.caller ≡ caller = (bytes_decides k.caller caller).0 h in
        let less : by_name caller caller ≡ Less = subst (λ c. by_name caller c ≡ Less) one is in
        let clash : Less ≡ Equal = sym less ∙ same_equal by_name_total caller in
        cc
own_by Greater caller number most k is few = other (same_name k.caller caller) refl
  where
    other : (same : Bool) → same_name k.caller caller ≡ same → false ≡ (same && nat_lt number k.number)
    other false h = refl
    other true h =
        let one : k.caller ≡ caller = (bytes_decides k.caller caller).0 h in
        let greater : by_name caller caller ≡ Greater = subst (λ c. by_name caller c ≡ Greater) one is in
        let clash : Greater ≡ Equal = sym greater ∙ same_equal by_name_total caller in
        cc
own_by Equal caller number most k is few =
    let one : k.caller ≡ caller = sym (by_name_exact caller k.caller is) in
    let same : same_name k.caller caller ≡ true = (bytes_decides k.caller caller).1 one in
    let within : is_lt (nat_cmp most k.number) ≡ false = grind (arith, nat_tests) in
    rw (same, within) (grind (arith, nat_tests))

is_own : (caller : List ℕ) (number most : ℕ) (k : OrderKey) → k.number ≤ most
    → range_contains by_key (Excluded (key_of caller number)) (Included (key_of caller most)) k ≡ (same_name k.caller caller && nat_lt number k.number)
is_own caller number most k few = own_by (by_name caller k.caller) caller number most k refl few

pub between_keys : (books : List KeptBook) (orders : List (OrderKey × OrderWords)) (caller : List ℕ) (number most : ℕ) → MOST_ORDER_NUMBER ≤ most
    → AllByRecursion (λ e. IsPlaced books e.0.caller e.0.number e.1) orders
    → entries_between by_key (Excluded (key_of caller number)) (Included (key_of caller most)) orders ≡ own_above caller number orders
between_keys books [] caller number most enough placed = refl
between_keys books (e ∷ rest) caller number most enough placed =
    let own = is_own caller number most e.0 (omega (arith, enough, placed.0.under.most)) in
    let further = between_keys books rest caller number most enough placed.1 in
    λ i. cond (own i) (e ∷ further i) (further i)
