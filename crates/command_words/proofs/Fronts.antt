-- The plain words in front.
use Rattle.std.proofs.Common.{rules, ◌≡◌, ◌∙◌, ◌++◌, ◌==◌, Bool, true, false, refl, sym, ap, [], ◌∷◌, length}
use Rattle.std.specs.Prelude.{ℕ, suc}
use Rattle.std.specs.Option.{option_map}
use Rattle.std.specs.List.{list_all}
use Rattle.command_words.specs.Parts.{Words, is_plain}
use Rattle.command_words.specs.Prepared.{if_done, plain_front, behind_plain, last_words}

pub map_done : (f : Words → Words) (b : Bool) (words : Words) → option_map f (if_done b words) ≡ if_done b (f words)
map_done f true words = refl
map_done f false words = refl

never_empty : (n : ℕ) → (suc n == 0) ≡ false
never_empty n = search rules

front_done : (words : Words) → if_done (length (behind_plain words) == 0) (plain_front words) ≡ last_words words
front_done [] = refl
front_done (w ∷ ws) =
    go (is_plain w) refl (sym (map_done (λ more. w ∷ more) _ _) ∙ ap (option_map (λ more. w ∷ more)) (front_done ws) ∙ map_done (λ more. w ∷ more) _ _)
  where
    go : (t : Bool) → is_plain w ≡ t → if_done (length (behind_plain ws) == 0) (w ∷ plain_front ws) ≡ if_done (list_all is_plain ws) (w ∷ ws)
        → if_done (length (behind_plain (w ∷ ws)) == 0) (plain_front (w ∷ ws)) ≡ last_words (w ∷ ws)
    go true e further = rw e further
    go false e further = rw e (rw (never_empty (length ws)) refl)

-- the plain words in front are all the words, or there are others
pub last_done : (old new words behind : Words) (b : Bool) → b ≡ (length behind == 0) → new ≡ old ++ plain_front words → behind ≡ behind_plain words
    → if_done b new ≡ option_map (λ more. old ++ more) (last_words words)
last_done old new words behind b none kept left =
    let by_fronts : if_done b new ≡ if_done (length (behind_plain words) == 0) (old ++ plain_front words) = rw (none, left, kept) refl in
    by_fronts ∙ sym (map_done (λ more. old ++ more) _ _) ∙ ap (option_map (λ more. old ++ more)) (front_done words)

-- the plain words in front, and those behind them, are all the words
pub split : (words : Words) → words ≡ plain_front words ++ behind_plain words
split [] = refl
split (word ∷ words) = go (is_plain word) refl (split words)
  where
    go : (t : Bool) → is_plain word ≡ t → words ≡ plain_front words ++ behind_plain words → word ∷ words ≡ plain_front (word ∷ words) ++ behind_plain (word ∷ words)
    go true e rest = rw e (ap (λ more. word ∷ more) rest)
    go false e rest = rw e refl

pub front_plain : (words : Words) → list_all is_plain (plain_front words) ≡ true
front_plain [] = refl
front_plain (word ∷ words) = go (is_plain word) refl (front_plain words)
  where
    go : (t : Bool) → is_plain word ≡ t → list_all is_plain (plain_front words) ≡ true → list_all is_plain (plain_front (word ∷ words)) ≡ true
    go true e rest = rw e (rw e rest)
    go false e rest = rw e refl
