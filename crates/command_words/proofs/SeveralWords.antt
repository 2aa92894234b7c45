-- Where the option of several workers stands, and that words of a form don't have it.
use Rattle.std.proofs.Common.{◌≡◌, ◌∙◌, ◌++◌, ◌==◌, ℕ, zero, suc, ◌+◌, ◌-◌, ◌<◌, ◌≤◌, Bool, cond, true, false, refl, sym, ap, subst, List, [], ◌∷◌, append-nil, Option, Some, None, codes, drop, inl, inr, length, length-drop, take, arith}
use Rattle.std.specs.Prelude.{◌⊎◌, String, string_bytes}
use Rattle.std.specs.declared.alloc.Global.{Global}
use Rattle.std.specs.List.{list_all}
use Rattle.std.specs.Option.{option_and_then, option_map}
use Rattle.std.proofs.lemmas.Bool.{and_left, cond-false, not-true, or_from}
use Rattle.std.proofs.lemmas.List.{drop-map, take_all}
use Rattle.clap.proofs.WalkLemmas.{both}
use Rattle.pb_base.specs.Names.{same_name}
use Rattle.command_words.specs.Meaning.{number_in, workers_cut}
use Rattle.command_words.specs.Parts.{HasParts, IsOption, Words, dashes, is_plain}
use Rattle.command_words.specs.Prepared.{texts_of}
use Rattle.command_words.specs.Several.{is_value, is_workers, workers_from, workers_place, workers_value, workers_word}
use Rattle.command_words.proofs.Laws.{AllPlain, all_parts, never, some_same}
use Rattle.command_words.proofs.PlainWalk.{plain_word_of}

-- the place lies among the words, behind the first one
record IsBetween (least place most : ℕ) : Type 0 where
  low : least ≤ place
  high : place < most

step_within : (at count place : ℕ) (is_option is_end : Bool) (rest : Option ℕ) → (rest ≡ Some place → IsBetween (at + 1) place (at + 1 + count))
    → cond is_option (Some at) (cond is_end None rest) ≡ Some place → IsBetween at place (at + suc count)
step_within at count place true is_end rest later e = let same : at ≡ place = cc in record { low = omega (arith, same); high = omega (arith, same) }
step_within at count place false true rest later e = let clash : None ≡ Some place = e in cc
step_within at count place false false rest later e = let b = later e in record { low = omega (arith, b.low); high = omega (arith, b.high) }

from_within : (at : ℕ) (words : Words) (place : ℕ) → workers_from at words ≡ Some place → IsBetween at place (at + length words)
from_within at [] place e = let clash : None ≡ Some place = e in cc
from_within at (word ∷ words) place e =
    step_within at (length words) place (is_workers word) (same_name word dashes) (workers_from (at + 1) words) (from_within (at + 1) words place) e

pub place_within : (words : Words) (place : ℕ) → workers_place words ≡ Some place → place < length words
place_within [] place e = let clash : None ≡ Some place = e in cc
place_within (name ∷ words) place e = let b = from_within 1 words place e in omega (arith, b.high)

pub place_behind : (name : List ℕ) (words : Words) (place : ℕ) → workers_place (name ∷ words) ≡ Some place → 1 ≤ place
place_behind name words place e = (from_within 1 words place e).low

-- the first word stays
pub record KeepsFirst (name : List ℕ) (others : Words) : Type 0 where
  pub rest : Words
  pub is : others ≡ name ∷ rest

first_taken : (name : List ℕ) (words more : Words) (place : ℕ) → 1 ≤ place → KeepsFirst name (take place (name ∷ words) ++ more)
first_taken name words more zero some = absurd (omega (arith, some))
first_taken name words more (suc place) some = record { rest = take place words ++ more; is = refl }

module _ (name : List ℕ) (words : Words) (place workers : ℕ) (others : Words) (some : 1 ≤ place) where
  -- what is cut out, with the words behind it
  abbrev with_front : Words → ℕ → ℕ × Words
  with_front behind n = (n, take place (name ∷ words) ++ behind)

  abbrev from_value : List ℕ × Words → Option (ℕ × Words)
  from_value p = option_map (with_front p.1) (number_in 1 16 p.0)

  by_number : (behind : Words) (found : Option ℕ) → option_map (with_front behind) found ≡ Some (workers, others) → KeepsFirst name others
  by_number behind None e = never (workers, others) e
  by_number behind (Some n) e =
      let made : Some (with_front behind n) ≡ Some (workers, others) = e in
      subst (KeepsFirst name) (ap (λ (q : ℕ × Words). q.1) (some_same (with_front behind n) (workers, others) made)) (first_taken name words behind place some)

  by_value : (found : Option (List ℕ × Words)) → option_and_then from_value found ≡ Some (workers, others) → KeepsFirst name others
  by_value None e = never (workers, others) e
  by_value (Some p) e = by_number p.1 (number_in 1 16 p.0) e

  by_test : (t : Bool) → cond t None (option_and_then from_value (workers_value (drop place (name ∷ words)))) ≡ Some (workers, others) → KeepsFirst name others
  by_test true e = never (workers, others) e
  by_test false e = by_value (workers_value (drop place (name ∷ words))) e

pub first_stays : (name : List ℕ) (words : Words) (place workers : ℕ) (others : Words) → workers_place (name ∷ words) ≡ Some place
    → workers_cut (name ∷ words) place ≡ Some (workers, others) → KeepsFirst name others
first_stays name words place workers others stands cut =
    by_test name words place workers others (place_behind name words place stands) (is_value (name ∷ words) place) cut

-- words of a form don't have the option
head_apart : (b : ℕ) (bs rest : List ℕ) → (b == 45) ≡ false → same_name (b ∷ bs) (45 ∷ rest) ≡ false
head_apart b bs rest apart = and_left (b == 45) (same_name bs rest) apart

plain_no_option : (word : List ℕ) → is_plain word ≡ true → is_workers word ≡ false
plain_no_option [] e = refl
plain_no_option (b ∷ bs) e =
    let apart : (b == 45) ≡ false = not-true (b == 45) e in
    or_from (same_name (b ∷ bs) workers_word) (same_name (take 10 (b ∷ bs)) (codes "--workers="))
    (head_apart b bs (codes "-workers") apart) (head_apart b (take 9 bs) (codes "-workers=") apart)

abbrev HasNone : Words → Type 0
HasNone words = (at : ℕ) → workers_from at words ≡ None

none_behind : (words more : Words) → AllPlain words → HasNone more → HasNone (words ++ more)
none_behind [] more plain none at = none at
none_behind (word ∷ words) more plain none at =
    let p = both (is_plain word) (list_all is_plain words) plain in
    cond-false (is_workers word) (Some at) (cond (same_name word dashes) None (workers_from (at + 1) (words ++ more))) (plain_no_option word p.0)
    ∙ cond-false (same_name word dashes) None (workers_from (at + 1) (words ++ more)) (plain_word_of word p.0).no_end
    ∙ none_behind words more p.1 none (at + 1)

none_plain : (words : Words) → AllPlain words → HasNone words
none_plain words plain at = ap (workers_from at) (sym (append-nil words)) ∙ none_behind words [] plain (λ n. refl) at

none_ended : (ending further : Words) → (ending ≡ []) ⊎ (ending ≡ dashes ∷ []) → AllPlain further → HasNone (ending ++ further)
none_ended ending further (inl none) plain at = ap (λ (ws : Words). workers_from at (ws ++ further)) none ∙ none_plain further plain at
none_ended ending further (inr one) plain at = ap (λ (ws : Words). workers_from at (ws ++ further)) one

none_given : (budget : Option (List ℕ)) (option more : Words) → IsOption budget option → HasNone more → HasNone (option ++ more)
none_given None option more is none at = ap (λ (ws : Words). workers_from at (ws ++ more)) is ∙ none at
none_given (Some text) option more (inl apart) none at =
    ap (λ (ws : Words). workers_from at (ws ++ more)) apart.0 ∙ none_behind (text ∷ []) more (rw apart.1 refl) none (at + 1)
none_given (Some text) option more (inr joined) none at = ap (λ (ws : Words). workers_from at (ws ++ more)) joined ∙ none (at + 1)

pub none_in_form : (name : List ℕ) (behind : Words) (budget : Option (List ℕ)) (operands : Words) → HasParts behind budget operands → workers_place (name ∷ behind) ≡ None
none_in_form name behind budget operands h =
    let plain = subst AllPlain h.operands_are h.plain in
    let p = all_parts h.before (h.after ++ h.further) plain in
    let q = all_parts h.after h.further p.1 in
    ap (workers_from 1) h.words_are
    ∙ none_behind h.before (h.option ++ (h.after ++ (h.ending ++ h.further))) p.0
    (none_given budget h.option (h.after ++ (h.ending ++ h.further)) h.gives
    (none_behind h.after (h.ending ++ h.further) q.0 (none_ended h.ending h.further h.ends q.1))) 1

-- what is cut out at a place, by the value that stands there
module _ (words : List (String Global)) (place : ℕ) (free : is_value (texts_of words) place ≡ false) where
  abbrev cut_by : List ℕ × Words → Option (ℕ × Words)
  cut_by p = option_map (λ n. (n, take place (texts_of words) ++ p.1)) (number_in 1 16 p.0)

  abbrev standing : List (String Global)
  standing = take (length words - place) (drop place words)

  to_the_end : texts_of standing ≡ drop place (texts_of words)
  to_the_end =
      ap texts_of (take_all (length words - place) (drop place words) (omega (arith, length-drop place words))) ∙ sym (drop-map string_bytes place words)

  by_words : (found : Option (List ℕ × Words)) → found ≡ workers_value (texts_of standing) → option_and_then cut_by found ≡ workers_cut (texts_of words) place
  by_words found is =
      ap (option_and_then cut_by) (is ∙ ap workers_value to_the_end)
      ∙ sym (cond-false (is_value (texts_of words) place) None (option_and_then cut_by (workers_value (drop place (texts_of words)))) free)

  pub cut_nothing : None ≡ workers_value (texts_of standing) → None ≡ workers_cut (texts_of words) place
  cut_nothing is = by_words None is

  pub cut_value : (value : List ℕ) (behind : Words) (number : Option ℕ) → Some (value, behind) ≡ workers_value (texts_of standing) → number ≡ number_in 1 16 value
      → option_map (λ n. (n, take place (texts_of words) ++ behind)) number ≡ workers_cut (texts_of words) place
  cut_value value behind number is read =
      ap (option_map (λ n. (n, take place (texts_of words) ++ behind))) read ∙ by_words (Some (value, behind)) is
