-- What the option parser reads, and that it fails exactly where `taken` has nothing.
use Rattle.std.proofs.Common.{◌≡◌, ◌∙◌, ◌++◌, ◌==◌, ◌&&◌, ℕ, Bool, cond, true, false, not, refl, sym, ap, ap₂, subst, List, [], ◌∷◌, Option, Some, None, codes, append-nil}
use Rattle.std.specs.Option.{is_some, option_map, unwrap_or}
use Rattle.std.specs.List.{fold, list_all}
use Rattle.std.specs.Str.{bytes_eq}
use Rattle.std.proofs.lemmas.Bool.{cond_both, not-true, or_right}
use Rattle.clap.specs.Lexer.{long_of, name_and_value}
use Rattle.clap.specs.Walk.{idle, Held, Waiting, Row, Rule, Text, Walk, all_of, first_of, finished, has_row, nothing_held, rows_after, settled, walk, walked, with_default}
use Rattle.clap.specs.Kinds.{Kinds, or_else}
use Rattle.clap.specs.Faults.{given_default_fault, check_fault, defaults_fault, entered_fault, fault_of, settle_fault, walk_fault}
use Rattle.clap.specs.Simple.{entered, matches_of}
use Rattle.clap.specs.declared.error.kind.ErrorKind.TheVariants as kind
use Rattle.command_words.specs.Parts.{Words, is_plain}
use Rattle.command_words.specs.Prepared.{plain_front, behind_plain, is_long}
use Rattle.command_words.specs.Grammar.{budget_in, grammar, is_tame, is_tame_option, option_in, taken, value_in}
use Rattle.command_words.proofs.Fronts.{front_plain, split}
use Rattle.command_words.proofs.PlainWalk.{budget, operands, rules, leaf, whole, at, Settles, PlainEnd, plain_walk, plain_word_of, fault_after, with_operands}
use Rattle.command_words.proofs.OptionWalk.{IsOptionWord, valued, begun, given, valued_step, begun_step, given_step, valued_turn, begun_turn, given_turn, unknown_turn, valued_settles, given_settles}
use Rattle.command_words.proofs.Rows.{operands_rows, placed, more_rows, more_placed, no_budget_yet, budget_placed, no_budget, all_operands, the_budget, placed_operands}
use Rattle.clap.proofs.WalkLemmas.{both}

-- the words were read
pub record IsRead (words : Words) (found : Option (List ℕ) × Words) : Type 0 where
  pub faultless : fault_of grammar words ≡ []
  pub budget_is : first_of (codes "budget") (matches_of grammar words) ≡ found.0
  pub operands_are : unwrap_or (all_of (codes "operands") (matches_of grammar words)) [] ≡ found.1

abbrev pub Reads : Words → Option (Option (List ℕ) × Words) → Type 0
Reads words (Some found) = IsRead words found
Reads words None = fault_of grammar words ≡ [] → ⊥

-- the faults behind a walk
abbrev behind_walk : Walk → Kinds
behind_walk w = or_else (entered_fault whole w.stopped) (or_else (settle_fault rules false w.held) (or_else (defaults_fault (settled rules w.held).rows rules)
    (check_fault leaf (finished rules w.held) (is_some (entered whole w.stopped)))))

-- those of the words, where their walk ends so
fault_is : (words : Words) (w : Walk) → fold (walked rules []) (at nothing_held idle) words ≡ w
    → fault_of grammar words ≡ or_else (walk_fault leaf [] (at nothing_held idle) words) (behind_walk w)
fault_is words w ends = ap (λ (v : Walk). or_else (walk_fault leaf [] (at nothing_held idle) words) (behind_walk v)) ends

-- ---- the end of a walk

no_defaults : (rows : List Row) → defaults_fault rows rules ≡ []
unfolding defaults_fault
no_defaults rows =
    let first = or_right (has_row (codes "budget") rows) true refl in
    let second = or_right (has_row (codes "operands") (with_default rows budget)) true refl in
    ap₂ (λ a b. or_else (cond a [] (given_default_fault budget budget.defaults)) (or_else (cond b [] (given_default_fault operands operands.defaults)) [])) first second

kept_rows : (id : Text) (rows : List Row) → cond (has_row id rows) rows rows ≡ rows
kept_rows id rows = cond_both (has_row id rows) rows rows (λ (r : List Row). r ≡ rows) (λ has. refl) (λ has. refl)

same_rows : (held : Held) (rows : List Row) → Settles held rows → finished rules held ≡ rows
same_rows held rows s = kept_rows (codes "operands") _ ∙ kept_rows (codes "budget") _ ∙ s.rows_are

pub record Ends (words : Words) (rows : List Row) : Type 0 where
  pub end : Held
  pub then : Waiting
  pub walk_is : fold (walked rules []) (at nothing_held idle) words ≡ at end then
  pub faultless : walk_fault leaf [] (at nothing_held idle) words ≡ []
  pub settles : Settles end rows

level_ends : (words : Words) (rows : List Row) (e : Ends words rows) → fault_of grammar words ≡ []
level_ends words rows e = fault_is words (at e.end e.then) e.walk_is ∙ rw e.faultless (rw e.settles.faultless (rw (no_defaults (settled rules e.end).rows) refl))

rows_at_end : (words : Words) (rows : List Row) (e : Ends words rows) → rows_after rules [] words ≡ rows
rows_at_end words rows e = ap (λ (w : Walk). finished rules w.held) e.walk_is ∙ same_rows e.end rows e.settles

-- a fault of the walk is one of the level
pub some_fault : (a b : Kinds) → (a ≡ [] → ⊥) → or_else a b ≡ [] → ⊥
some_fault [] b not_empty e = not_empty refl
some_fault (k ∷ ks) b not_empty e = not_empty e

-- words whose walk has a fault have one
walk_faults : (words : Words) → (walk_fault leaf [] (at nothing_held idle) words ≡ [] → ⊥) → fault_of grammar words ≡ [] → ⊥
walk_faults words not_empty e =
    some_fault (walk_fault leaf [] (at nothing_held idle) words) (behind_walk (fold (walked rules []) (at nothing_held idle) words)) not_empty e

read_rows : (words : Words) (rows : List Row) (text : Option (List ℕ)) (read : Words) → Ends words rows → first_of (codes "budget") rows ≡ text
    → unwrap_or (all_of (codes "operands") rows) [] ≡ read → IsRead words (text, read)
read_rows words rows text read e b o =
    let same = rows_at_end words rows e in
    record {
      faultless = level_ends words rows e;
      budget_is = ap (first_of (codes "budget")) same ∙ b;
      operands_are = ap (λ r. unwrap_or (all_of (codes "operands") r) []) same ∙ o;
    }

-- ---- plain words, and the option among them

start : Settles nothing_held []
start = record { rows_are = refl; faultless = refl }

whole_walk : (held : Held) (waiting : Waiting) (words : Words) (rows : List Row) (e : PlainEnd held waiting words rows)
    → fold (walked rules []) (at held waiting) words ≡ at e.end e.then
whole_walk held waiting words rows e = ap (fold (walked rules []) (at held waiting)) (sym (append-nil words)) ∙ e.walk_is []

whole_fault : (held : Held) (waiting : Waiting) (words : Words) (rows : List Row) (e : PlainEnd held waiting words rows)
    → walk_fault leaf [] (at held waiting) words ≡ []
unfolding walk_fault
whole_fault held waiting words rows e = ap (walk_fault leaf [] (at held waiting)) (sym (append-nil words)) ∙ e.faults []

front_rows : (front : Words) → with_operands front [] ≡ operands_rows front
front_rows front = more_rows front []

plain_end : (front : Words) → list_all is_plain front ≡ true → PlainEnd nothing_held idle front []
plain_end front plain = plain_walk front nothing_held idle [] plain tt start

front_settles : (front : Words) (plain : list_all is_plain front ≡ true) → Settles (plain_end front plain).end (operands_rows front)
front_settles front plain = subst (Settles (plain_end front plain).end) (front_rows front) (plain_end front plain).settles

plain_read : (front : Words) → list_all is_plain front ≡ true → IsRead front (None, front)
plain_read front plain =
    let w = plain_end front plain in
    let e : Ends front (operands_rows front) = record {
      end = w.end;
      then = w.then;
      walk_is = whole_walk nothing_held idle front [] w;
      faultless = whole_fault nothing_held idle front [] w;
      settles = front_settles front plain;
    } in
    read_rows front (operands_rows front) None front e (no_budget front) (all_operands front)

-- the value was read, and plain words are left
after_value : (words rest front : Words) (text : List ℕ) (held : Held)
    → fold (walked rules []) (at nothing_held idle) words ≡ fold (walked rules []) (at held idle) rest
    → walk_fault leaf [] (at nothing_held idle) words ≡ walk_fault leaf [] (at held idle) rest
    → Settles held (placed front text []) → list_all is_plain rest ≡ true → IsRead words (Some text, front ++ rest)
after_value words rest front text held walks faults s plain =
    let w = plain_walk rest held idle (placed front text []) plain tt s in
    let e : Ends words (placed front text rest) = record {
      end = w.end;
      then = w.then;
      walk_is = walks ∙ whole_walk held idle rest _ w;
      faultless = faults ∙ whole_fault held idle rest _ w;
      settles = subst (Settles w.end) (more_placed rest front text []) w.settles;
    } in
    read_rows words (placed front text rest) (Some text) (front ++ rest) e (the_budget front text rest) (placed_operands front text rest)

front_value : (front : Words) (text : List ℕ) (held : Held) → Settles held (Rattle.clap.specs.Walk.used budget (text ∷ []) (operands_rows front))
    → Settles held (placed front text [])
front_value front text held s = subst (Settles held) (budget_placed front text) s

valued_read : (front more : Words) (word option text : List ℕ) → list_all is_plain front ≡ true → list_all is_plain more ≡ true
    → IsOptionWord word option (Some text) → bytes_eq (codes "budget") option ≡ true → IsRead (front ++ word ∷ more) (Some text, front ++ more)
valued_read front more word option text plain rest p e =
    let w = plain_end front plain in
    let s = front_settles front plain in
    let step = valued_step w.end w.then word option text w.free p e in
    let turn = valued_turn w.end w.then word option text (operands_rows front) w.free p e s (no_budget_yet front) in
    after_value (front ++ word ∷ more) more front text (valued w.end text)
    (w.walk_is (word ∷ more) ∙ ap (λ x. fold (walked rules []) x more) step)
    (w.faults (word ∷ more) ∙ fault_after w.end w.then word more _ turn step)
    (front_value front text (valued w.end text) (valued_settles w.end text (operands_rows front) s)) rest

given_read : (front more : Words) (word option text : List ℕ) → list_all is_plain front ≡ true → list_all is_plain (text ∷ more) ≡ true
    → IsOptionWord word option None → bytes_eq (codes "budget") option ≡ true → IsRead (front ++ word ∷ text ∷ more) (Some text, front ++ more)
given_read front more word option text plain rest p e =
    let w = plain_end front plain in
    let s = front_settles front plain in
    let parts = both (is_plain text) (list_all is_plain more) rest in
    let q = plain_word_of text parts.0 in
    let step = begun_step w.end w.then word option w.free p e in
    let turn = begun_turn w.end w.then word option (operands_rows front) w.free p e s in
    let step2 = given_step w.end text q in
    let turn2 = given_turn w.end text q in
    after_value (front ++ word ∷ text ∷ more) more front text (given w.end text)
    (w.walk_is (word ∷ text ∷ more) ∙ ap (λ x. fold (walked rules []) x (text ∷ more)) step ∙ ap (λ x. fold (walked rules []) x more) step2)
    (w.faults (word ∷ text ∷ more) ∙ fault_after w.end w.then word (text ∷ more) _ turn step
    ∙ fault_after (begun w.end) _ text more _ turn2 step2)
    (front_value front text (given w.end text) (given_settles w.end text (operands_rows front) s (no_budget_yet front))) parts.1

-- an option without its value
missing : (front : Words) (word option : List ℕ) → list_all is_plain front ≡ true
    → IsOptionWord word option None → bytes_eq (codes "budget") option ≡ true → Reads (front ++ word ∷ []) None
unfolding walk_fault
missing front word option plain p e none =
    let w = plain_end front plain in
    let step = begun_step w.end w.then word option w.free p e in
    let turn = begun_turn w.end w.then word option (operands_rows front) w.free p e (front_settles front plain) in
    let walks = w.walk_is (word ∷ []) ∙ step in
    let faults = w.faults (word ∷ []) ∙ fault_after w.end w.then word [] _ turn step in
    let at_end : fault_of grammar (front ++ word ∷ []) ≡ kind.InvalidValue ∷ [] = fault_is (front ++ word ∷ []) _ walks ∙ rw faults refl in
    let clash : kind.InvalidValue ∷ [] ≡ [] = sym at_end ∙ none in
    cc

unknown : (front more : Words) (word option : List ℕ) (value : Option (List ℕ)) → list_all is_plain front ≡ true
    → IsOptionWord word option value → bytes_eq (codes "budget") option ≡ false → Reads (front ++ word ∷ more) None
unfolding walk_fault
unknown front more word option value plain p e passed =
    let w = plain_end front plain in
    let turn = unknown_turn w.end w.then word option value w.free p e in
    let faults : walk_fault leaf [] (at nothing_held idle) (front ++ word ∷ more) ≡ kind.UnknownArgument ∷ [] =
    w.faults (word ∷ more) ∙ ap (λ x. or_else x (walk_fault leaf [] (walked rules [] (at w.end w.then) word) more)) turn in
    walk_faults (front ++ word ∷ more) (λ none. let clash : kind.UnknownArgument ∷ [] ≡ [] = sym faults ∙ none in cc) passed

-- ---- all words that are handed to the parser

by_value : (front more : Words) (word option : List ℕ) (value : Option (List ℕ)) → list_all is_plain front ≡ true → list_all is_plain more ≡ true
    → IsOptionWord word option value → bytes_eq (codes "budget") option ≡ true
    → Reads (front ++ word ∷ more) (option_map (λ p. (p.0, front ++ p.1)) (value_in value more))
by_value front more word option (Some text) plain rest p e = valued_read front more word option text plain rest p e
by_value front [] word option None plain rest p e = missing front word option plain p e
by_value front (text ∷ more) word option None plain rest p e = given_read front more word option text plain rest p e

by_option : (front more : Words) (word : List ℕ) (found : Option (List ℕ × Option (List ℕ))) → list_all is_plain front ≡ true
    → list_all is_plain more ≡ true → bytes_eq word (45 ∷ 45 ∷ []) ≡ false → long_of word ≡ found → (found ≡ None → ⊥)
    → Reads (front ++ word ∷ more) (option_map (λ p. (p.0, front ++ p.1)) (budget_in found more))
by_option front more word None plain rest no_end long some = absurd (some refl)
by_option front more word (Some p) plain rest no_end long some = go (bytes_eq (codes "budget") p.0) refl
  where
    go : (t : Bool) → bytes_eq (codes "budget") p.0 ≡ t
        → Reads (front ++ word ∷ more) (option_map (λ q. (q.0, front ++ q.1)) (cond t (value_in p.1 more) None))
    go true e = by_value front more word p.0 p.1 plain rest (record { no_end = no_end; long = long }) e
    go false e = unknown front more word p.0 p.1 plain (record { no_end = no_end; long = long }) e

long_is_some : (word : List ℕ) → is_long word ≡ true → bytes_eq word (45 ∷ 45 ∷ []) ≡ false → long_of word ≡ None → ⊥
long_is_some [] long no_end none = let clash : false ≡ true = long in cc
long_is_some (b ∷ []) long no_end none = let clash : false ≡ true = (both (b == 45) false long).1 in cc
long_is_some (b ∷ c ∷ []) long no_end none =
    let p = both (b == 45) (c == 45) long in
    let yes : bytes_eq (b ∷ c ∷ []) (45 ∷ 45 ∷ []) ≡ true = rw p.0 (rw p.1 refl) in
    let clash : true ≡ false = sym yes ∙ no_end in
    cc
long_is_some (b ∷ c ∷ x ∷ xs) long no_end none =
    let p = both (b == 45) (c == 45) long in
    let found : long_of (b ∷ c ∷ x ∷ xs) ≡ Some (name_and_value (x ∷ xs)) = rw p.0 (rw p.1 refl) in
    let clash : Some (name_and_value (x ∷ xs)) ≡ None = sym found ∙ none in
    cc

by_behind : (front behind : Words) → list_all is_plain front ≡ true → is_tame_option behind ≡ true
    → Reads (front ++ behind) (option_map (λ p. (p.0, front ++ p.1)) (option_in behind))
by_behind front [] plain tame = subst (λ (w : Words). IsRead w (None, w)) (sym (append-nil front)) (plain_read front plain)
by_behind front (word ∷ more) plain tame =
    let parts = both (is_long word && not (bytes_eq word (45 ∷ 45 ∷ []))) (list_all is_plain more) tame in
    let front_parts = both (is_long word) (not (bytes_eq word (45 ∷ 45 ∷ []))) parts.0 in
    let no_end : bytes_eq word (45 ∷ 45 ∷ []) ≡ false = not-true (bytes_eq word (45 ∷ 45 ∷ [])) front_parts.1 in
    by_option front more word (long_of word) plain parts.1 no_end refl (λ none. long_is_some word front_parts.0 no_end none)

pub reads : (words : Words) → is_tame words ≡ true → Reads words (taken words)
reads words tame =
    subst (λ (w : Words). Reads w (taken words)) (sym (split words)) (by_behind (plain_front words) (behind_plain words) (front_plain words) tame)
