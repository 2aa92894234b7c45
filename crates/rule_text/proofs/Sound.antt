-- What is read is in the grammar.
use Rattle.std.proofs.Common.{◌≡◌, ℕ, suc, ◌-◌, ◌≤◌, Bool, true, false, cond, leb, List, [], ◌∷◌, ◌++◌, Option, Some, None, Ok, Err, length, refl, sym, ap, subst, ◌∙◌, append_assoc, arith}
use Rattle.std.specs.List.{list_all}
use Rattle.std.specs.Prelude.{is_none, unwrap_or}
use Rattle.std.proofs.lemmas.List.{append-nil}
use Rattle.std.proofs.lemmas.Bool.Decides.{nat_tests}
use Rattle.pb_base.specs.Rule.{Rule, negation, both, either, never}
use Rattle.rule_text.specs.Token.{Token, Placed, word, plus, slash, minus, opening, closing, semicolon, is_blank, tokens}
use Rattle.rule_text.specs.Grammar.{word_rule, IsFactor, IsTerm, IsExpr, IsText, a_word, a_minus, a_bracket, a_factor, a_plus, a_term, a_slash, plain, ended}
use Rattle.rule_text.specs.FirstFault.{token_fault, without_signs}
use Rattle.pb_base.specs.Results.{unless}
use Rattle.rule_text.specs.Reading.{Open, nothing, joined, whole, with_factor, under_signs, rule_of}
use Rattle.rule_text.specs.Steps.{State, next, finish, begin}
use Rattle.rule_text.proofs.StepLemmas.{read_from, rule_of-read, rule_of-empty, passed, misfit, behind_end}
use Rattle.rule_text.specs.declared.standing.Stage.{Stage}
use Rattle.rule_text.specs.declared.standing.Stage.TheVariants.{Awaiting, Complete, Ended}
use Rattle.rule_text.specs.declared.standing.Pending.{Pending}
use Rattle.rule_text.specs.declared.standing.Pending.TheVariants.{Bracket, Sign}
use Rattle.rule_text.specs.declared.fault.RuleFault.{RuleFault}
use Rattle.rule_text.specs.declared.fault.RuleFault.TheVariants.{Empty, UnknownCode, TooDeep, TooLong}

at_depth : (names : List (List ℕ)) (d e : ℕ) (ts : List Placed) (rule : Rule) → d ≡ e → IsFactor names d ts rule → IsFactor names e ts rule
at_depth names d e ts rule same is_factor = subst (λ (k : ℕ). IsFactor names k ts rule) same is_factor

-- the tokens of two terms or more: those before the last slash, and the last term
record Sum (names : List (List ℕ)) (room : ℕ) (left last : Rule) (ts : List Placed) : Type 0 where
  front : List Placed
  back : List Placed
  at : ℕ
  is_front : IsExpr names room front left
  is_back : IsTerm names room back last
  joins : ts ≡ front ++ (at, slash) ∷ back

-- the tokens of an expression that may end
abbrev Spelled : (names : List (List ℕ)) → ℕ → Option Rule → Option Rule → List Placed → Type 0
Spelled names room left None ts = ⊥
Spelled names room None (Some last) ts = IsTerm names room ts last
Spelled names room (Some left) (Some last) ts = Sum names room left last ts

-- the tokens of an expression that awaits a factor: whatever spells one completes them
record Wanting (names : List (List ℕ)) (room : ℕ) (e : Open) (ts : List Placed) : Type 0 where
  completed : (factor : List Placed) (rule : Rule) → IsFactor names room factor rule
      → Spelled names room e.left (Some (joined both e.product rule)) (ts ++ factor)

-- what the tokens so far are where a factor is awaited
abbrev Waits : (names : List (List ℕ)) → List Pending → Open → List Open → List Placed → Type 0
Waits names [] e [] done = Wanting names 64 e done
Waits names [] e (o ∷ outer) done = ⊥
Waits names (Sign ∷ p) e outer done = (before : List Placed) × (at : ℕ) × Waits names p e outer before × (done ≡ before ++ (at, minus) ∷ [])
Waits names (Bracket ∷ p) e [] done = ⊥
Waits names (Bracket ∷ p) e (o ∷ outer) done = (before : List Placed) × (at : ℕ) × (inner : List Placed) × Waits names p o outer before
    × Wanting names (64 - suc (length p)) e inner × (done ≡ before ++ (at, opening) ∷ inner)

-- what they are behind a factor
abbrev Holds : (names : List (List ℕ)) → List Pending → Open → List Open → List Placed → Type 0
Holds names [] e [] done = Spelled names 64 e.left e.product done
Holds names [] e (o ∷ outer) done = ⊥
Holds names (Sign ∷ p) e outer done = ⊥
Holds names (Bracket ∷ p) e [] done = ⊥
Holds names (Bracket ∷ p) e (o ∷ outer) done = (before : List Placed) × (at : ℕ) × (inner : List Placed) × Waits names p o outer before
    × Spelled names (64 - suc (length p)) e.left e.product inner × (done ≡ before ++ (at, opening) ∷ inner)

abbrev Spells : (names : List (List ℕ)) → Stage → List Pending → Open → List Open → List Placed → Type 0
Spells names Awaiting p e outer done = Waits names p e outer done
Spells names Complete p e outer done = Holds names p e outer done
Spells names Ended p e outer done = IsText names 64 done (whole e)

-- a factor completes what is pending of it
completed : (names : List (List ℕ)) (p : List Pending) (e : Open) (outer : List Open) (done factor : List Placed) (rule : Rule) → length p ≤ 64
    → Waits names p e outer done → IsFactor names (64 - length p) factor rule → Holds names (without_signs p) (with_factor e (under_signs p rule)) outer (done ++ factor)
completed names [] e [] done factor rule shallow waits is_factor = waits.completed factor rule (at_depth names (64 - 0) 64 factor rule (omega arith) is_factor)
completed names [] e (o ∷ outer) done factor rule shallow waits is_factor = absurd waits
completed names (Sign ∷ p) e outer done factor rule shallow (before, at, waits, joins) is_factor =
    let signed : IsFactor names (64 - length p) ((at, minus) ∷ factor) (negation rule) =
    at_depth names (suc (64 - suc (length p))) (64 - length p) ((at, minus) ∷ factor) (negation rule) (omega arith) (a_minus (64 - suc (length p)) at factor rule is_factor) in
    let same : before ++ (at, minus) ∷ factor ≡ done ++ factor = sym (ap (λ xs. xs ++ factor) joins ∙ append_assoc before ((at, minus) ∷ []) factor) in
    subst (λ (xs : List Placed). Holds names (without_signs p) (with_factor e (under_signs p (negation rule))) outer xs) same
    (completed names p e outer before ((at, minus) ∷ factor) (negation rule) (omega arith) waits signed)
completed names (Bracket ∷ p) e [] done factor rule shallow waits is_factor = absurd waits
completed names (Bracket ∷ p) e (o ∷ outer) done factor rule shallow (before, at, inner, waits, wanting, joins) is_factor =
    (before, at, inner ++ factor, waits, wanting.completed factor rule is_factor, ap (λ xs. xs ++ factor) joins ∙ append_assoc before ((at, opening) ∷ inner) factor)

-- an expression that may end is one
whole_expr : (names : List (List ℕ)) (room : ℕ) (left product : Option Rule) (ts : List Placed) → Spelled names room left product ts
    → IsExpr names room ts (joined either left (unwrap_or product never))
whole_expr names room left None ts spelled = absurd spelled
whole_expr names room None (Some last) ts is_term = a_term room ts last is_term
whole_expr names room (Some left) (Some last) ts s = a_slash room s.at s.front s.back ts left last s.is_front s.is_back s.joins

-- a closing bracket makes a factor of it
closed : (names : List (List ℕ)) (p : List Pending) (e o : Open) (outer : List Open) (at : ℕ) (done : List Placed) → suc (length p) ≤ 64
    → Holds names (Bracket ∷ p) e (o ∷ outer) done → Holds names (without_signs p) (with_factor o (under_signs p (whole e))) outer (done ++ (at, closing) ∷ [])
closed names p e o outer at done shallow (before, opened, inner, waits, spelled, joins) =
    let factor = (opened, opening) ∷ (inner ++ (at, closing) ∷ []) in
    let bracket : IsFactor names (suc (64 - suc (length p))) factor (whole e) =
    a_bracket (64 - suc (length p)) opened at inner _ (whole e) (whole_expr names (64 - suc (length p)) e.left e.product inner spelled) refl in
    let same : before ++ factor ≡ done ++ (at, closing) ∷ [] = sym (ap (λ xs. xs ++ (at, closing) ∷ []) joins ∙ append_assoc before ((opened, opening) ∷ inner) ((at, closing) ∷ [])) in
    subst (λ (xs : List Placed). Holds names (without_signs p) (with_factor o (under_signs p (whole e))) outer xs) same
    (completed names p o outer before factor (whole e) (omega arith) waits (at_depth names (suc (64 - suc (length p))) (64 - length p) factor (whole e) (omega arith) bracket))

-- what goes on behind a factor: each expression that may end awaits a factor with this token more
goes_on : (names : List (List ℕ)) (p : List Pending) (e f : Open) (outer : List Open) (t : Placed) (done : List Placed)
    → ((room : ℕ) (ts : List Placed) → Spelled names room e.left e.product ts → Wanting names room f (ts ++ t ∷ [])) → Holds names p e outer done → Waits names p f outer (done ++ t ∷ [])
goes_on names [] e f [] t done more holds = more 64 done holds
goes_on names [] e f (o ∷ outer) t done more holds = absurd holds
goes_on names (Sign ∷ p) e f outer t done more holds = absurd holds
goes_on names (Bracket ∷ p) e f [] t done more holds = absurd holds
goes_on names (Bracket ∷ p) e f (o ∷ outer) t done more (before, at, inner, waits, spelled, joins) =
    (before, at, inner ++ t ∷ [], waits, more (64 - suc (length p)) inner spelled, ap (λ xs. xs ++ t ∷ []) joins ∙ append_assoc before ((at, opening) ∷ inner) (t ∷ []))

-- a further factor of the last term
plus_factor : (names : List (List ℕ)) (room : ℕ) (left product : Option Rule) (at : ℕ) (ts factor : List Placed) (rule : Rule)
    → Spelled names room left product ts → IsFactor names room factor rule → Spelled names room left (Some (joined both product rule)) ((ts ++ (at, plus) ∷ []) ++ factor)
plus_factor names room left None at ts factor rule spelled is_factor = absurd spelled
plus_factor names room None (Some last) at ts factor rule is_term is_factor =
    a_plus room at ts factor _ last rule is_term is_factor (append_assoc ts ((at, plus) ∷ []) factor)
plus_factor names room (Some left) (Some last) at ts factor rule s is_factor = record {
  front = s.front;
  back = s.back ++ (at, plus) ∷ factor;
  at = s.at;
  is_front = s.is_front;
  is_back = a_plus room at s.back factor _ last rule s.is_back is_factor refl;
  joins = append_assoc ts ((at, plus) ∷ []) factor ∙ ap (λ xs. xs ++ (at, plus) ∷ factor) s.joins ∙ append_assoc s.front ((s.at, slash) ∷ s.back) ((at, plus) ∷ factor);
}

behind_plus : (names : List (List ℕ)) (e : Open) (at room : ℕ) (ts : List Placed) → Spelled names room e.left e.product ts → Wanting names room e (ts ++ (at, plus) ∷ [])
behind_plus names e at room ts spelled = record { completed = λ factor rule is_factor. plus_factor names room e.left e.product at ts factor rule spelled is_factor }

behind_slash : (names : List (List ℕ)) (e : Open) (at room : ℕ) (ts : List Placed) → Spelled names room e.left e.product ts
    → Wanting names room (record { left = Some (whole e); product = None }) (ts ++ (at, slash) ∷ [])
behind_slash names e at room ts spelled = record {
  completed = λ factor rule is_factor. record {
    front = ts;
    back = factor;
    at = at;
    is_front = whole_expr names room e.left e.product ts spelled;
    is_back = a_factor room factor rule is_factor;
    joins = append_assoc ts ((at, slash) ∷ []) factor;
  };
}

at_start : (names : List (List ℕ)) (room : ℕ) → Wanting names room nothing []
at_start names room = record { completed = λ factor rule is_factor. a_factor room factor rule is_factor }

word_spells : (names : List (List ℕ)) (p : List Pending) (e : Open) (outer : List Open) (at : ℕ) (w : List ℕ) (done : List Placed) (meaning : Option Rule) → length p ≤ 64
    → word_rule names w ≡ meaning → is_none meaning ≡ false → Waits names p e outer done
    → Holds names (without_signs p) (with_factor e (under_signs p (unwrap_or (word_rule names w) never))) outer (done ++ (at, word w) ∷ [])
word_spells names p e outer at w done None shallow found known waits = cc
word_spells names p e outer at w done (Some rule) shallow found known waits =
    rw found (completed names p e outer done ((at, word w) ∷ []) rule shallow waits (a_word (64 - length p) at w rule found))

-- outside all brackets an expression is a text
text_expr : (names : List (List ℕ)) (e : Open) (outer : List Open) (done : List Placed) → Holds names [] e outer done → IsExpr names 64 done (whole e)
text_expr names e [] done holds = whole_expr names 64 e.left e.product done holds
text_expr names e (o ∷ outer) done holds = absurd holds

abbrev at_state : Stage → List Pending → ℕ → Open → List Open → State
at_state stage p n e outer = record { standing = record { stage = stage; pending = p; count = n }; read = record { innermost = e; outer = outer } }

abbrev SpellsAt : (names : List (List ℕ)) → State → List Placed → Type 0
SpellsAt names s done = Spells names s.standing.stage s.standing.pending s.read.innermost s.read.outer done

-- no more is pending than may be
shorter : (p : List Pending) → length (without_signs p) ≤ length p
shorter [] = omega arith
shorter (Sign ∷ p) = omega (arith, shorter p)
shorter (Bracket ∷ p) = omega arith

deep_test : (p : List Pending) (fault : RuleFault) (others : Option RuleFault) → cond (leb 64 (length p)) (Some fault) others ≡ None → suc (length p) ≤ 64
deep_test p fault others none = let test : leb 64 (length p) ≡ false = (passed (leb 64 (length p)) fault others none).0 in grind (arith, nat_tests)

-- a token that fails no test goes on spelling
spells_next : (names : List (List ℕ)) (stage : Stage) (p : List Pending) (n : ℕ) (e : Open) (outer : List Open) (at : ℕ) (t : Token) (done : List Placed)
    → token_fault names (at_state stage p n e outer).standing (at, t) ≡ None → length p ≤ 64 → Spells names stage p e outer done
    → (length (next names (at_state stage p n e outer) t).standing.pending ≤ 64) × SpellsAt names (next names (at_state stage p n e outer) t) (done ++ (at, t) ∷ [])
spells_next names Awaiting p n e outer at (word w) done none shallow waits = (
  omega (arith, shorter p),
  word_spells names p e outer at w done (word_rule names w) shallow refl (passed (is_none (word_rule names w)) (UnknownCode at) (cond (leb 512 n) (Some (TooLong at)) None) none).0 waits,
)
spells_next names Awaiting p n e outer at minus done none shallow waits =
    (deep_test p (TooDeep at) (cond (leb 512 n) (Some (TooLong at)) None) none, (done, at, waits, refl))
spells_next names Awaiting p n e outer at opening done none shallow waits =
    (deep_test p (TooDeep at) None none, (done, at, [], waits, at_start names (64 - suc (length p)), refl))
spells_next names Complete p n e outer at plus done none shallow holds = (shallow, goes_on names p e e outer (at, plus) done (behind_plus names e at) holds)
spells_next names Complete p n e outer at slash done none shallow holds = (shallow, goes_on names p e _ outer (at, slash) done (behind_slash names e at) holds)
spells_next names Complete (Bracket ∷ p) n e (o ∷ outer) at closing done none shallow holds = (omega (arith, shorter p), closed names p e o outer at done shallow holds)
spells_next names Complete (Bracket ∷ p) n e [] at closing done none shallow holds = absurd holds
spells_next names Complete [] n e outer at semicolon done none shallow holds = (shallow, ended 64 at done _ (whole e) (text_expr names e outer done holds) refl)
spells_next names Ended p n e outer at t done none shallow spells = absurd (behind_end _ _ _ none)
spells_next names stage p n e outer at t done none shallow spells = absurd (misfit _ none)

is_no_rule : (fault : RuleFault) (rule : Rule) → Err fault ≡ Ok rule → ⊥
is_no_rule fault rule same = cc

-- a token passes its tests where a rule is read
pub read_on : (names : List (List ℕ)) (end : ℕ) (s : State) (t : Placed) (ts : List Placed) (rule : Rule) (fault : Option RuleFault) → token_fault names s.standing t ≡ fault
    → unless fault (read_from names end (next names s t.1) ts) ≡ Ok rule → (token_fault names s.standing t ≡ None) × (read_from names end (next names s t.1) ts ≡ Ok rule)
read_on names end s t ts rule None is_fault is_read = (is_fault, is_read)
read_on names end s t ts rule (Some fault) is_fault is_read = absurd (is_no_rule fault rule is_read)

spells_end : (names : List (List ℕ)) (end : ℕ) (stage : Stage) (p : List Pending) (n : ℕ) (e : Open) (outer : List Open) (done : List Placed) (rule : Rule)
    → finish end (at_state stage p n e outer) ≡ Ok rule → Spells names stage p e outer done → IsText names 64 done rule
spells_end names end Complete [] n e outer done rule is_read holds =
    let same : whole e ≡ rule = cc in
    subst (λ (r : Rule). IsText names 64 done r) same (plain 64 done (whole e) (text_expr names e outer done holds))
spells_end names end Ended p n e outer done rule is_read is_text = let same : whole e ≡ rule = cc in subst (λ (r : Rule). IsText names 64 done r) same is_text
spells_end names end stage p n e outer done rule is_read spells = absurd (is_no_rule _ rule is_read)

-- where the tokens that are left read as a rule, all of them spell it
spells_all : (names : List (List ℕ)) (end : ℕ) (ts : List Placed) (s : State) (done : List Placed) (rule : Rule)
    → read_from names end s ts ≡ Ok rule → length s.standing.pending ≤ 64 → SpellsAt names s done → IsText names 64 (done ++ ts) rule
spells_all names end [] s done rule is_read shallow spells =
    subst (λ (xs : List Placed). IsText names 64 xs rule) (sym (append-nil done))
    (spells_end names end s.standing.stage s.standing.pending s.standing.count s.read.innermost s.read.outer done rule is_read spells)
spells_all names end (t ∷ ts) s done rule is_read shallow spells =
    let parts = read_on names end s t ts rule (token_fault names s.standing t) refl is_read in
    let further = spells_next names s.standing.stage s.standing.pending s.standing.count s.read.innermost s.read.outer t.0 t.1 done parts.0 shallow spells in
    subst (λ (xs : List Placed). IsText names 64 xs rule) (append_assoc done (t ∷ []) ts)
    (spells_all names end ts (next names s t.1) (done ++ t ∷ []) rule parts.1 further.0 further.1)

-- a rule was read from the tokens
pub was_read : (names : List (List ℕ)) (text : List ℕ) (rule : Rule) → rule_of names text ≡ Ok rule → read_from names (length text) begin (tokens text) ≡ Ok rule
was_read names text rule is_read = was_read-by names text rule (list_all is_blank text) refl is_read
  where
    was_read-by : (names : List (List ℕ)) (text : List ℕ) (rule : Rule) (blank : Bool) → list_all is_blank text ≡ blank → rule_of names text ≡ Ok rule
        → read_from names (length text) begin (tokens text) ≡ Ok rule
    was_read-by names text rule true blank is_read = absurd (is_no_rule Empty rule (sym (rule_of-empty names text blank) ∙ is_read))
    was_read-by names text rule false blank is_read = rule_of-read names text blank ∙ is_read

pub in_grammar : (names : List (List ℕ)) (text : List ℕ) (rule : Rule) → rule_of names text ≡ Ok rule → IsText names 64 (tokens text) rule
in_grammar names text rule is_read = spells_all names (length text) (tokens text) begin [] rule (was_read names text rule is_read) (omega arith) (at_start names 64)
