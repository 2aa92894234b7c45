-- How the option parser walks over words that don't begin with `-`.
use Rattle.std.proofs.Common.{◌≡◌, ◌∙◌, ◌++◌, ◌&&◌, ◌==◌, Bool, cond, true, false, not, refl, sym, ap, List, [], ◌∷◌, Option, Some, None, codes, true≢false}
use Rattle.std.specs.List.{list_all, fold}
use Rattle.std.specs.Str.{bytes_eq}
use Rattle.std.proofs.lemmas.Bool.{and_right}
use Rattle.clap.specs.Lexer.{long_of, short_of}
use Rattle.clap.specs.Walk.{idle, positional, option, Held, Waiting, Row, Rule, Text, Walk, walked, is_pending, takes_several, pushed, settled, with_values}
use Rattle.clap.specs.Simple.{App, Shape, built, filled, filled_from, with_index}
use Rattle.clap.specs.Kinds.{or_else}
use Rattle.clap.specs.Faults.{settle_fault, turn_fault, walk_fault}
use Rattle.clap.proofs.OnLiterals.{clap_on_literals}
use Rattle.clap.specs.declared.parser.matches.ValueSource.TheVariants.{CommandLine}
use Rattle.clap.specs.declared.builder.value_parser.Reading.TheVariants.{AsWritten}
use Rattle.command_words.specs.Parts.{Words, is_plain}
use Rattle.command_words.specs.Grammar.{grammar, budget_rule, operands_rule}
use Rattle.clap.proofs.WalkLemmas.{both}

-- the rules of the grammar, as they are built
abbrev pub rules : List Rule
rules = filled_from 1 (budget_rule ∷ operands_rule ∷ [])

-- the grammar, as it is built
abbrev pub whole : App
whole = built grammar

abbrev pub leaf : Shape
leaf = whole.top

abbrev pub operands_row : Words → Row
operands_row words = record { id = codes "operands"; values = words; count = None; source = Some CommandLine; reading = AsWritten }

abbrev pub budget_row : Words → Row
budget_row words = record { id = codes "budget"; values = words; count = None; source = Some CommandLine; reading = AsWritten }

pub record IsPlainWord (word : Text) : Type 0 where
  pub no_end : bytes_eq word (45 ∷ 45 ∷ []) ≡ false
  pub no_long : long_of word ≡ None
  pub no_short : short_of word ≡ None

pub plain_word_of : (word : Text) → is_plain word ≡ true → IsPlainWord word
plain_word_of [] e = record { no_end = refl; no_long = refl; no_short = refl }
plain_word_of (b ∷ bs) e = go (b == 45) refl e
  where
    go : (t : Bool) → (b == 45) ≡ t → not t ≡ true → IsPlainWord (b ∷ bs)
    go true is e = absurd (true≢false (sym e))
    go false is e = record { no_end = rw is refl; no_long = rw is refl; no_short = rw is refl }

-- a walk that goes on with any word
abbrev pub at : Held → Waiting → Walk
at held waiting = record { held = held; waiting = waiting; position = 1; is_trailing = false; stopped = None }

abbrev pub IsFree : Waiting → Type 0
IsFree (option id) = ⊥
IsFree idle = Unit {0}
IsFree positional = Unit {0}

-- what is held settles to these rows, without a fault
pub record Settles (held : Held) (rows : List Row) : Type 0 where
  pub rows_are : (settled rules held).rows ≡ rows
  pub faultless : settle_fault rules false held ≡ []

abbrev pub with_operand : Text → List Row → List Row
with_operand word rows = with_values (codes "operands") AsWritten CommandLine (word ∷ []) rows

abbrev pub next_held : Held → Text → Held
next_held held word = record held { rows = (settled rules held).rows; pending = Some (codes "operands", word ∷ []) }

abbrev pub operands : Rule
operands = with_index 1 (filled operands_rule)

abbrev pub budget : Rule
budget = with_index 1 (filled budget_rule)

never_several : (pending : Option (Text × List Text)) → (is_pending operands pending && takes_several operands) ≡ false
never_several pending = and_right (is_pending operands pending) (takes_several operands) refl

-- the word starts the next use of the operands
to_operands : (held : Held) (word : Text)
    → at (pushed (codes "operands") word (cond (is_pending operands held.pending && takes_several operands) held (settled rules held))) positional
    ≡ at (next_held held word) positional
to_operands held word = ap (λ b. at (pushed (codes "operands") word (cond b held (settled rules held))) positional) (never_several held.pending)

settles_before : (held : Held) (rows : List Row) → Settles held rows
    → cond (is_pending operands held.pending && takes_several operands) [] (settle_fault rules false held) ≡ []
settles_before held rows s = ap (λ b. cond b [] (settle_fault rules false held)) (never_several held.pending) ∙ s.faultless

pub plain_step : (held : Held) (waiting : Waiting) (word : Text) → IsFree waiting → IsPlainWord word
    → walked rules [] (at held waiting) word ≡ at (next_held held word) positional
unfolding clap_on_literals
plain_step held (option id) word free p = absurd free
plain_step held idle word free p = rw p.no_end (rw p.no_long (rw p.no_short (to_operands held word)))
plain_step held positional word free p = rw p.no_end (rw p.no_long (rw p.no_short (to_operands held word)))

pub plain_turn : (held : Held) (waiting : Waiting) (word : Text) (rows : List Row) → IsFree waiting → IsPlainWord word → Settles held rows
    → turn_fault leaf [] (at held waiting) word ≡ []
unfolding clap_on_literals
plain_turn held (option id) word rows free p s = absurd free
plain_turn held idle word rows free p s = rw p.no_end (rw p.no_long (rw p.no_short (settles_before held rows s)))
plain_turn held positional word rows free p s = rw p.no_end (rw p.no_long (rw p.no_short (settles_before held rows s)))

pub next_settles : (held : Held) (word : Text) (rows : List Row) → Settles held rows → Settles (next_held held word) (with_operand word rows)
next_settles held word rows s = record { rows_are = ap (with_operand word) s.rows_are; faultless = refl }

-- ---- more words

abbrev pub with_operands : Words → List Row → List Row
with_operands [] rows = rows
with_operands (word ∷ words) rows = with_operands words (with_operand word rows)

-- where a walk over plain words ends
pub record PlainEnd (held : Held) (waiting : Waiting) (words : Words) (rows : List Row) : Type 0 where
  pub end : Held
  pub then : Waiting
  pub free : IsFree then
  pub walk_is : (more : Words) → fold (walked rules []) (at held waiting) (words ++ more) ≡ fold (walked rules []) (at end then) more
  pub faults : (more : Words) → walk_fault leaf [] (at held waiting) (words ++ more) ≡ walk_fault leaf [] (at end then) more
  pub settles : Settles end (with_operands words rows)

pub fault_after : (held : Held) (waiting : Waiting) (word : Text) (more : Words) (w : Walk) → turn_fault leaf [] (at held waiting) word ≡ []
    → walked rules [] (at held waiting) word ≡ w → walk_fault leaf [] (at held waiting) (word ∷ more) ≡ walk_fault leaf [] w more
unfolding walk_fault
fault_after held waiting word more w passed step = ap (λ x. or_else x (walk_fault leaf [] (walked rules [] (at held waiting) word) more)) passed
    ∙ ap (λ x. walk_fault leaf [] x more) step

pub plain_walk : (words : Words) (held : Held) (waiting : Waiting) (rows : List Row) → list_all is_plain words ≡ true → IsFree waiting → Settles held rows
    → PlainEnd held waiting words rows
plain_walk [] held waiting rows plain free s =
    record { end = held; then = waiting; free = free; walk_is = λ more. refl; faults = λ more. refl; settles = s }
plain_walk (word ∷ words) held waiting rows plain free s =
    let parts = both (is_plain word) (list_all is_plain words) plain in
    let p = plain_word_of word parts.0 in
    let step = plain_step held waiting word free p in
    let rest = plain_walk words (next_held held word) positional (with_operand word rows) parts.1 tt (next_settles held word rows s) in
    record {
      end = rest.end;
      then = rest.then;
      free = rest.free;
      walk_is = λ more. ap (λ w. fold (walked rules []) w (words ++ more)) step ∙ rest.walk_is more;
      faults = λ more. fault_after held waiting word (words ++ more) _ (plain_turn held waiting word rows free p s) step ∙ rest.faults more;
      settles = rest.settles;
    }
