-- Reading token by token, and that this is what a text reads as.
use Rattle.std.proofs.Common.{◌≡◌, ℕ, ◌+◌, ◌<◌, cond, Bool, false, true, List, [], ◌∷◌, length, drop, get_or, Option, Some, None, Result, Ok, Err, refl, sym, ap, ◌∙◌}
use Rattle.std.specs.List.{list_all}
use Rattle.std.specs.Option.{option_or}
use Rattle.pb_base.specs.Rule.{Rule}
use Rattle.pb_base.specs.Answers.{Answers, Leaves}
use Rattle.pb_base.specs.declared.answer.Fail.{Fail}
use Rattle.pb_base.specs.declared.answer.Fail.TheVariants.{Refused, Memory}
use Rattle.rule_text.specs.Token.{Token, Placed, is_blank, tokens, tokens_from, token_at, token_len}
use Rattle.rule_text.specs.FirstFault.{token_fault, fault_from}
use Rattle.pb_base.specs.Results.{unless}
use Rattle.rule_text.specs.Reading.{rule_from, rule_of}
use Rattle.rule_text.specs.Steps.{State, next, step, finish, begin}
use Rattle.rule_text.specs.declared.fault.RuleFault.{RuleFault}
use Rattle.rule_text.specs.declared.fault.RuleFault.TheVariants.{Empty}
use Rattle.rule_text.proofs.TokenLemmas.{token-more}

abbrev pub read_from : List (List ℕ) → ℕ → State → List Placed → Result Rule RuleFault
read_from names end s [] = finish end s
read_from names end s (t ∷ ts) = unless (token_fault names s.standing t) (read_from names end (next names s t.1) ts)

unless_or : (a b : Option RuleFault) (answer : Result Rule RuleFault) → unless a (unless b answer) ≡ unless (option_or a b) answer
unless_or None b answer = refl
unless_or (Some fault) b answer = refl

-- token by token, a text reads as its first fault or the rule that is put together
pub read_from-is : (names : List (List ℕ)) (end : ℕ) (s : State) (ts : List Placed)
    → read_from names end s ts ≡ unless (fault_from names end s.standing ts) (Ok (rule_from names s.standing.pending s.read ts))
read_from-is names end s [] = refl
read_from-is names end s (t ∷ ts) =
    ap (unless (token_fault names s.standing t)) (read_from-is names end (next names s t.1) ts)
    ∙ unless_or (token_fault names s.standing t) (fault_from names end (next names s t.1).standing ts) _

-- a text that isn't all blanks is read from its start
pub rule_of-read : (names : List (List ℕ)) (text : List ℕ) → list_all is_blank text ≡ false → read_from names (length text) begin (tokens text) ≡ rule_of names text
unfolding rule_of
rule_of-read names text some = rw some (read_from-is names (length text) begin (tokens text))

pub rule_of-empty : (names : List (List ℕ)) (text : List ℕ) → list_all is_blank text ≡ true → rule_of names text ≡ Err Empty
unfolding rule_of
rule_of-empty names text none = rw none refl

unless_ok : (fault : Option RuleFault) (s u : State) → unless fault (Ok s) ≡ Ok u → (read : State → Result Rule RuleFault) → unless fault (read s) ≡ read u
unless_ok None s u is_ok read = let same : s ≡ u = cc in ap read same
unless_ok (Some fault) s u is_ok read = cc

unless_err : (fault : Option RuleFault) (s : State) (found : RuleFault) → unless fault (Ok s) ≡ Err found → (read : Result Rule RuleFault) → unless fault read ≡ Err found
unless_err None s found is_err read = cc
unless_err (Some fault) s found is_err read = let same : fault ≡ found = cc in ap Err same

-- a token that may stand is read, and then the rest
pub read_from-step : (names : List (List ℕ)) (end : ℕ) (s u : State) (t : Placed) (ts : List Placed) → step names s t ≡ Ok u
    → read_from names end s (t ∷ ts) ≡ read_from names end u ts
read_from-step names end s u t ts is_ok = unless_ok (token_fault names s.standing t) (next names s t.1) u is_ok (λ v. read_from names end v ts)

-- a token that fails a test is the fault, whatever follows
pub read_from-fault : (names : List (List ℕ)) (end : ℕ) (s : State) (t : Placed) (ts : List Placed) (fault : RuleFault) → step names s t ≡ Err fault
    → read_from names end s (t ∷ ts) ≡ Err fault
read_from-fault names end s t ts fault is_err = unless_err (token_fault names s.standing t) (next names s t.1) fault is_err (read_from names end (next names s t.1) ts)

-- the tokens from this place on, of which t is the first
from_here : (text : List ℕ) (at len : ℕ) (t : Token) → at < length text → is_blank (get_or text at 0) ≡ false → t ≡ token_at (drop at text) → len ≡ token_len t
    → tokens_from false at (drop at text) ≡ (at, t) ∷ tokens_from false (at + len) (drop (at + len) text)
from_here text at len t inside no_blank is_t is_len = rw (is_len, is_t) (token-more text at inside no_blank)

pub reads_on : (names : List (List ℕ)) (end : ℕ) (text : List ℕ) (at len : ℕ) (s u : State) (t : Token)
    → at < length text → is_blank (get_or text at 0) ≡ false → t ≡ token_at (drop at text) → len ≡ token_len t → step names s (at, t) ≡ Ok u
    → read_from names end s (tokens_from false at (drop at text)) ≡ read_from names end u (tokens_from false (at + len) (drop (at + len) text))
reads_on names end text at len s u t inside no_blank is_t is_len is_ok =
    ap (read_from names end s) (from_here text at len t inside no_blank is_t is_len) ∙ read_from-step names end s u (at, t) _ is_ok

-- a token's refusal is the text's; want of memory is passed on
pub refuses : (names : List (List ℕ)) (end : ℕ) (text : List ℕ) (at : ℕ) (s : State) (t : Token) (answer : Result Rule RuleFault) (error : Fail RuleFault) (left : State)
    → at < length text → is_blank (get_or text at 0) ≡ false → t ≡ token_at (drop at text) → read_from names end s (tokens_from false at (drop at text)) ≡ answer
    → Leaves {U = Unit {0}} (Err error) left (step names s (at, t)) → Answers {A = Rule} (Err error) answer
refuses names end text at s t answer (Refused fault) left inside no_blank is_t same is_err =
    sym same ∙ ap (read_from names end s) (from_here text at (token_len t) t inside no_blank is_t refl) ∙ read_from-fault names end s (at, t) _ fault is_err
refuses names end text at s t answer Memory left inside no_blank is_t same is_err = tt

-- a test that a token passed
pub passed : (fails : Bool) (fault : RuleFault) (others : Option RuleFault) → cond fails (Some fault) others ≡ None → (fails ≡ false) × (others ≡ None)
passed true fault others none = cc
passed false fault others none = (refl, none)

-- no test fails where there is no fault
pub misfit : (fault : RuleFault) → Some fault ≡ None → ⊥
misfit fault none = cc

pub behind_end : (bad : Bool) (fault other_fault : RuleFault) → cond bad (Some fault) (Some other_fault) ≡ None → ⊥
behind_end true fault other_fault none = cc
behind_end false fault other_fault none = cc
