-- What the option parser's answers say of the words behind a command word.
use Rattle.std.proofs.Common.{◌≡◌, ◌∙◌, ℕ, true, refl, sym, ap, subst, List, [], Option, Some, None, inl, inr}
use Rattle.std.specs.Prelude.{◌⊎◌}
use Rattle.std.specs.Option.{option_and_then}
use Rattle.clap.specs.declared.error.kind.ErrorKind.TheVariants as kind
use Rattle.clap.specs.Simple.{App, HasMatchesOf, is_simple, matches_of}
use Rattle.clap.specs.Words.{found_of, rows_of}
use Rattle.clap.specs.Kinds.{HasKind, IsAmong}
use Rattle.clap.specs.Values.{kind_of}
use Rattle.clap.specs.declared.error.Error.{Error}
use Rattle.clap.specs.declared.parser.matches.ArgMatches.{ArgMatches}
use Rattle.clap.specs.Faults.{fault_of, is_simple_and_free}
use Rattle.clap.proofs.OnLiterals.{clap_on_literals}
use Rattle.command_words.specs.Parts.{Words}
use Rattle.command_words.specs.Meaning.{asked}
use Rattle.command_words.specs.Grammar.{grammar, is_tame, parsed_behind, rows_asked, taken}
use Rattle.command_words.proofs.FormReads.{Reads, reads}

-- what the parser's answer comes to
abbrev Parses : List ℕ → Words → Type 0
Parses name words = ((fault_of grammar words ≡ []) × (rows_asked name (matches_of grammar words) ≡ parsed_behind name words))
    ⊎ ((fault_of grammar words ≡ [] → ⊥) × (parsed_behind name words ≡ None))

by_reading : (name : List ℕ) (words : Words) (found : Option (Option (List ℕ) × Words)) → taken words ≡ found → Reads words found → Parses name words
by_reading name words (Some p) is r =
    let readings : rows_asked name (matches_of grammar words) ≡ asked name p.0 p.1 = λ i. asked name (r.budget_is i) (r.operands_are i) in
    inl (r.faultless, readings ∙ sym (ap (option_and_then (λ q. asked name q.0 q.1)) is))
by_reading name words None is r = inr (r, ap (option_and_then (λ q. asked name q.0 q.1)) is)

parses : (name : List ℕ) (words : Words) → is_tame words ≡ true → Parses name words
parses name words tame = by_reading name words (taken words) refl (reads words tame)

simple : is_simple grammar ≡ true
unfolding clap_on_literals
simple = refl

simple_and_free : is_simple_and_free grammar ≡ true
unfolding clap_on_literals
simple_and_free = refl

-- the parser found something, or it failed and not for memory
pub found_is : (app : App) (name : List ℕ) (words : Words) (found : ArgMatches) → app ≡ grammar → is_tame words ≡ true → HasMatchesOf app words found
    → (is_simple_and_free app ≡ true → fault_of app words ≡ []) → rows_asked name (rows_of (found_of found)) ≡ parsed_behind name words
found_is app name words found is tame matches faultless =
    let rows = (matches (ap is_simple is ∙ simple)).0 in
    let none : fault_of grammar words ≡ [] = ap (λ (a : App). fault_of a words) (sym is) ∙ faultless (ap is_simple_and_free is ∙ simple_and_free) in
    ap (rows_asked name) (rows ∙ ap (λ (a : App). matches_of a words) is) ∙ by (parses name words tame) none
  where
    by : Parses name words → fault_of grammar words ≡ [] → rows_asked name (matches_of grammar words) ≡ parsed_behind name words
    by (inl p) none = p.1
    by (inr q) none = absurd (q.0 none)

pub failed_is : (app : App) (name : List ℕ) (words : Words) (error : Error) → app ≡ grammar → is_tame words ≡ true
    → (is_simple_and_free app ≡ true → HasKind (fault_of app words) error) → (kind_of error ≡ kind.OutOfMemory → ⊥) → parsed_behind name words ≡ None
failed_is app name words error is tame fails not_memory = go (fails (ap is_simple_and_free is ∙ simple_and_free)) (parses name words tame)
  where
    go : HasKind (fault_of app words) error → Parses name words → parsed_behind name words ≡ None
    go (inl memory) p = absurd (not_memory memory)
    go (inr among) (inl p) =
        let clash : IsAmong (kind_of error) [] = subst (IsAmong (kind_of error)) (ap (λ (a : App). fault_of a words) is ∙ p.0) among in absurd clash
    go (inr among) (inr q) = q.1
