-- How the option parser walks over the one word that begins with `--`, and its value.
use Rattle.std.proofs.Common.{◌≡◌, ◌∙◌, true, false, refl, ap, List, [], ◌∷◌, Option, Some, None, codes}
use Rattle.std.specs.Str.{bytes_eq}
use Rattle.clap.specs.Lexer.{long_of}
use Rattle.clap.specs.Walk.{idle, option, positional, Held, Waiting, Row, Text, has_row, reacted, settled, used, walked}
use Rattle.clap.specs.Kinds.{or_else}
use Rattle.clap.specs.Faults.{turn_fault, use_fault}
use Rattle.clap.proofs.OnLiterals.{clap_on_literals}
use Rattle.clap.specs.declared.error.kind.ErrorKind.TheVariants as kind
use Rattle.command_words.proofs.PlainWalk.{budget, rules, leaf, at, IsFree, IsPlainWord, Settles}

pub record IsOptionWord (word name : Text) (value : Option Text) : Type 0 where
  pub no_end : bytes_eq word (45 ∷ 45 ∷ []) ≡ false
  pub long : long_of word ≡ Some (name, value)

-- the option `--budget=TEXT` was met
abbrev pub valued : Held → Text → Held
valued held text = reacted rules budget (text ∷ []) held

-- the option `--budget` was met, and its value is to come
abbrev pub begun : Held → Held
begun held = record (settled rules held) { pending = Some (codes "budget", []) }

abbrev pub given : Held → Text → Held
given held text = record (settled rules held) { pending = Some (codes "budget", text ∷ []) }

fresh : (text : Text) (rows : List Row) → has_row (codes "budget") rows ≡ false → use_fault false budget (text ∷ []) rows ≡ []
fresh text rows none = rw none refl

pub valued_step : (held : Held) (waiting : Waiting) (word name text : Text) → IsFree waiting → IsOptionWord word name (Some text)
    → bytes_eq (codes "budget") name ≡ true → walked rules [] (at held waiting) word ≡ at (valued held text) idle
unfolding clap_on_literals
valued_step held (option id) word name text free p e = absurd free
valued_step held idle word name text free p e = rw p.no_end (rw p.long (rw e refl))
valued_step held positional word name text free p e = rw p.no_end (rw p.long (rw e refl))

pub begun_step : (held : Held) (waiting : Waiting) (word name : Text) → IsFree waiting → IsOptionWord word name None
    → bytes_eq (codes "budget") name ≡ true → walked rules [] (at held waiting) word ≡ at (begun held) (option (codes "budget"))
unfolding clap_on_literals
begun_step held (option id) word name free p e = absurd free
begun_step held idle word name free p e = rw p.no_end (rw p.long (rw e refl))
begun_step held positional word name free p e = rw p.no_end (rw p.long (rw e refl))

pub given_step : (held : Held) (word : Text) → IsPlainWord word
    → walked rules [] (at (begun held) (option (codes "budget"))) word ≡ at (given held word) idle
unfolding clap_on_literals
given_step held word p = rw p.no_end (rw p.no_long (rw p.no_short refl))

pub valued_turn : (held : Held) (waiting : Waiting) (word name text : Text) (rows : List Row) → IsFree waiting → IsOptionWord word name (Some text)
    → bytes_eq (codes "budget") name ≡ true → Settles held rows → has_row (codes "budget") rows ≡ false → turn_fault leaf [] (at held waiting) word ≡ []
unfolding clap_on_literals
valued_turn held (option id) word name text rows free p e s none = absurd free
valued_turn held idle word name text rows free p e s none =
    rw p.no_end (rw p.long (rw e (rw s.faultless (rw s.rows_are (ap (λ k. or_else k []) (fresh text rows none))))))
valued_turn held positional word name text rows free p e s none =
    rw p.no_end (rw p.long (rw e (rw s.faultless (rw s.rows_are (ap (λ k. or_else k []) (fresh text rows none))))))

pub begun_turn : (held : Held) (waiting : Waiting) (word name : Text) (rows : List Row) → IsFree waiting → IsOptionWord word name None
    → bytes_eq (codes "budget") name ≡ true → Settles held rows → turn_fault leaf [] (at held waiting) word ≡ []
unfolding clap_on_literals
begun_turn held (option id) word name rows free p e s = absurd free
begun_turn held idle word name rows free p e s = rw p.no_end (rw p.long (rw e (rw s.faultless refl)))
begun_turn held positional word name rows free p e s = rw p.no_end (rw p.long (rw e (rw s.faultless refl)))

pub given_turn : (held : Held) (word : Text) → IsPlainWord word → turn_fault leaf [] (at (begun held) (option (codes "budget"))) word ≡ []
unfolding clap_on_literals
given_turn held word p = rw p.no_end (rw p.no_long (rw p.no_short refl))

pub unknown_turn : (held : Held) (waiting : Waiting) (word name : Text) (value : Option Text) → IsFree waiting → IsOptionWord word name value
    → bytes_eq (codes "budget") name ≡ false → turn_fault leaf [] (at held waiting) word ≡ kind.UnknownArgument ∷ []
unfolding clap_on_literals
unknown_turn held (option id) word name value free p e = absurd free
unknown_turn held idle word name value free p e = rw p.no_end (rw p.long (rw e refl))
unknown_turn held positional word name value free p e = rw p.no_end (rw p.long (rw e refl))

pub valued_settles : (held : Held) (text : Text) (rows : List Row) → Settles held rows → Settles (valued held text) (used budget (text ∷ []) rows)
valued_settles held text rows s = record { rows_are = ap (used budget (text ∷ [])) s.rows_are; faultless = refl }

pub given_settles : (held : Held) (text : Text) (rows : List Row) → Settles held rows → has_row (codes "budget") rows ≡ false
    → Settles (given held text) (used budget (text ∷ []) rows)
given_settles held text rows s none =
    record { rows_are = ap (used budget (text ∷ [])) s.rows_are; faultless = ap (use_fault false budget (text ∷ [])) s.rows_are ∙ fresh text rows none }
