-- Prepared words have the parts of the words that they come from, and no others.
use Rattle.std.proofs.Common.{arith, ◌+◌, drop, take, ◌≡◌, ◌∙◌, ◌++◌, ◌==◌, ℕ, Bool, cond, true, false, refl, sym, ap, ap₂, subst, List, [], ◌∷◌, Option, Some, None, codes, inl, inr, true≢false, append_assoc, append-nil}
use Rattle.std.specs.Prelude.{◌⊎◌, suc}
use Rattle.std.specs.Option.{option_map, option_and_then}
use Rattle.std.specs.List.{list_all, position_or_len}
use Rattle.std.specs.Str.{bytes_eq}
use Rattle.std.proofs.lemmas.Slice.Eq.{bytes_eq-Decides}
use Rattle.std.proofs.lemmas.Bool.{eqb-true}
use Rattle.clap.specs.Lexer.{has_byte, long_of, long_of_rest, name_and_value, strip_byte}
use Rattle.clap.proofs.WalkLemmas.{both}
use Rattle.command_words.specs.Parts.{Words, HasParts, budget_word, dashes, is_plain}
use Rattle.command_words.specs.Prepared.{behind_plain, ended, from_option, is_cut_short, is_long, last_words, plain_front, prepared_behind, to_end, with_option}
use Rattle.command_words.specs.Grammar.{budget_in, is_tame, taken, value_in}
use Rattle.command_words.proofs.Fronts.{front_plain, split}
use Rattle.command_words.proofs.PlainWalk.{plain_word_of}

abbrev pub AllPlain : Words → Type 0
AllPlain words = list_all is_plain words ≡ true

pub front_all : (words : Words) → AllPlain words → plain_front words ≡ words
front_all [] e = refl
front_all (w ∷ ws) e = let p = both (is_plain w) _ e in rw p.0 (ap (λ more. w ∷ more) (front_all ws p.1))

pub behind_all : (words : Words) → AllPlain words → behind_plain words ≡ []
behind_all [] e = refl
behind_all (w ∷ ws) e = let p = both (is_plain w) _ e in rw p.0 (behind_all ws p.1)

pub front_until : (words : Words) (d : List ℕ) (more : Words) → AllPlain words → is_plain d ≡ false → plain_front (words ++ d ∷ more) ≡ words
front_until [] d more e stop = rw stop refl
front_until (w ∷ ws) d more e stop = let p = both (is_plain w) _ e in rw p.0 (ap (λ rest. w ∷ rest) (front_until ws d more p.1 stop))

pub behind_until : (words : Words) (d : List ℕ) (more : Words) → AllPlain words → is_plain d ≡ false → behind_plain (words ++ d ∷ more) ≡ d ∷ more
behind_until [] d more e stop = rw stop refl
behind_until (w ∷ ws) d more e stop = let p = both (is_plain w) _ e in rw p.0 (behind_until ws d more p.1 stop)

pub all_parts : (xs ys : Words) → AllPlain (xs ++ ys) → AllPlain xs × AllPlain ys
all_parts [] ys e = (refl, e)
all_parts (x ∷ xs) ys e =
    let p = both (is_plain x) _ e in
    let more = all_parts xs ys p.1 in
    (rw p.0 more.0, more.1)

pub all_joined : (xs ys : Words) → AllPlain xs → AllPlain ys → AllPlain (xs ++ ys)
all_joined [] ys a b = b
all_joined (x ∷ xs) ys a b = let p = both (is_plain x) _ a in rw p.0 (all_joined xs ys p.1 b)

-- a `--` where the options end, or none
abbrev pub IsEnding : Words → Type 0
IsEnding ending = (ending ≡ []) ⊎ (ending ≡ dashes ∷ [])

-- plain words, with a `--` somewhere among them
pub to_end_is : (after ending further : Words) → IsEnding ending → AllPlain (after ++ further) → to_end (after ++ (ending ++ further)) ≡ Some (after ++ further)
to_end_is after ending further (inl none) plain =
    let words : after ++ (ending ++ further) ≡ after ++ further = ap (λ e. after ++ (e ++ further)) none in
    ap to_end words ∙ rw (front_all (after ++ further) plain) (rw (behind_all (after ++ further) plain) (ap Some (append-nil (after ++ further))))
to_end_is after ending further (inr one) plain =
    let p = all_parts after further plain in
    let words : after ++ (ending ++ further) ≡ after ++ dashes ∷ further = ap (λ e. after ++ (e ++ further)) one in
    ap to_end words ∙ rw (front_until after dashes further p.0 refl) (rw (behind_until after dashes further p.0 refl) (rw p.1 refl))

-- what is prepared, and what is read from it
pub record Goes (words : Words) (budget : Option (List ℕ)) (operands : Words) : Type 0 where
  pub list : Words
  pub prepares : prepared_behind words ≡ Some list
  pub takes : taken list ≡ Some (budget, operands)

takes_plain : (words : Words) → AllPlain words → taken words ≡ Some (None, words)
takes_plain words plain = rw (behind_all words plain) (rw (front_all words plain) (ap (λ w. Some (None, w)) (append-nil words)))

goes_plain : (words : Words) → AllPlain words → Goes words None words
goes_plain words plain = record {
  list = words;
  prepares = rw (behind_all words plain) (rw (front_all words plain) (ap Some (append-nil words)));
  takes = takes_plain words plain;
}

goes_ended : (front further : Words) → AllPlain (front ++ further) → Goes (front ++ dashes ∷ further) None (front ++ further)
goes_ended front further plain =
    let p = all_parts front further plain in
    record {
      list = front ++ further;
      prepares = rw (behind_until front dashes further p.0 refl) (rw (front_until front dashes further p.0 refl) (rw p.1 refl));
      takes = takes_plain (front ++ further) plain;
    }

-- the words have an option, and `to_end` gives what stands behind it
goes_option : (before : Words) (option : List ℕ) (behind rest : Words) (text : List ℕ) (left : Words) → AllPlain before → is_plain option ≡ false
    → bytes_eq option dashes ≡ false → is_long option ≡ true → is_cut_short option behind ≡ false → to_end behind ≡ Some rest
    → budget_in (long_of option) rest ≡ Some (Some text, left) → Goes (before ++ option ∷ behind) (Some text) (before ++ left)
goes_option before option behind rest text left plain stop no_end long not_cut ends found = record {
  list = before ++ option ∷ rest;
  prepares = rw (behind_until before option behind plain stop)
      (rw (front_until before option behind plain stop) (rw no_end (rw long (rw not_cut (rw ends refl)))));
  takes = rw (behind_until before option rest plain stop) (rw (front_until before option rest plain stop) (rw found refl));
}

abbrev attached : List ℕ → List ℕ
attached text = budget_word ++ 61 ∷ text

not_cut_attached : (text : List ℕ) (behind : Words) → is_cut_short (attached text) behind ≡ false
not_cut_attached text [] = refl
not_cut_attached text (w ∷ ws) = refl

pub goes : (words operands : Words) (budget : Option (List ℕ)) → HasParts words budget operands → Goes words budget operands
goes words operands None h = go h.ends
  where
    go : IsEnding h.ending → Goes words None operands
    go (inl none) =
        let same : words ≡ operands = h.words_are ∙ (λ i. h.before ++ (h.gives i ++ (h.after ++ (none i ++ h.further)))) ∙ sym h.operands_are in
        subst (λ w. Goes w None operands) (sym same) (goes_plain operands h.plain)
    go (inr one) =
        let front = h.before ++ h.after in
        let words_are : words ≡ front ++ dashes ∷ h.further =
        h.words_are ∙ (λ i. h.before ++ (h.gives i ++ (h.after ++ (one i ++ h.further)))) ∙ sym (append_assoc h.before h.after (dashes ∷ h.further)) in
        let operands_are : operands ≡ front ++ h.further = h.operands_are ∙ sym (append_assoc h.before h.after h.further) in
        let plain : AllPlain (front ++ h.further) = subst AllPlain operands_are h.plain in
        subst (λ w. Goes w None operands) (sym words_are) (subst (Goes (front ++ dashes ∷ h.further) None) (sym operands_are) (goes_ended front h.further plain))
goes words operands (Some text) h = go h.gives
  where
    plain : AllPlain (h.before ++ (h.after ++ h.further))
    plain = subst AllPlain h.operands_are h.plain

    go : ((h.option ≡ budget_word ∷ text ∷ []) × (is_plain text ≡ true)) ⊎ (h.option ≡ attached text ∷ []) → Goes words (Some text) operands
    go (inl spaced) =
        let p = all_parts h.before (h.after ++ h.further) plain in
        let words_are : words ≡ h.before ++ budget_word ∷ text ∷ (h.after ++ (h.ending ++ h.further)) =
        h.words_are ∙ ap (λ o. h.before ++ (o ++ (h.after ++ (h.ending ++ h.further)))) spaced.0 in
        let rest_plain : AllPlain (text ∷ (h.after ++ h.further)) = rw spaced.1 p.1 in
        let ends = to_end_is (text ∷ h.after) h.ending h.further h.ends rest_plain in
        subst (λ w. Goes w (Some text) operands) (sym words_are)
        (subst (Goes (h.before ++ budget_word ∷ text ∷ (h.after ++ (h.ending ++ h.further))) (Some text)) (sym h.operands_are)
        (goes_option h.before budget_word (text ∷ (h.after ++ (h.ending ++ h.further))) (text ∷ (h.after ++ h.further)) text (h.after ++ h.further) p.0 refl refl refl
        (plain_word_of text spaced.1).no_end ends refl))
    go (inr one) =
        let p = all_parts h.before (h.after ++ h.further) plain in
        let words_are : words ≡ h.before ++ attached text ∷ (h.after ++ (h.ending ++ h.further)) =
        h.words_are ∙ ap (λ o. h.before ++ (o ++ (h.after ++ (h.ending ++ h.further)))) one in
        let ends = to_end_is h.after h.ending h.further h.ends p.1 in
        subst (λ w. Goes w (Some text) operands) (sym words_are)
        (subst (Goes (h.before ++ attached text ∷ (h.after ++ (h.ending ++ h.further))) (Some text)) (sym h.operands_are)
        (goes_option h.before (attached text) (h.after ++ (h.ending ++ h.further)) (h.after ++ h.further) text (h.after ++ h.further) p.0 refl refl refl
        (not_cut_attached text (h.after ++ (h.ending ++ h.further))) ends refl))

-- ---- the other way

-- the words of a list that ends its options
pub record IsEnded (words rest : Words) : Type 0 where
  pub after : Words
  pub ending : Words
  pub further : Words
  pub words_are : words ≡ after ++ (ending ++ further)
  pub rest_is : rest ≡ after ++ further
  pub ends : ((ending ≡ []) × (further ≡ [])) ⊎ (ending ≡ dashes ∷ [])
  pub plain : AllPlain rest

pub some_same : {T : Type 0} (a b : T) → Some a ≡ Some b → a ≡ b
some_same a b e = cc

pub never : {X T : Type 0} (b : T) → None ≡ Some b → X
never b e = let clash : None ≡ Some b = e in cc

-- plain words behind the `--`
last_is : (t : Bool) (f : Words → Words) (words rest : Words) → list_all is_plain words ≡ t → option_map f (cond t (Some words) None) ≡ Some rest
    → (rest ≡ f words) × AllPlain words
last_is true f words rest plain e = (sym (some_same (f words) rest e), plain)
last_is false f words rest plain e = never rest e

ended_from : (front behind rest : Words) → AllPlain front → option_map (λ more. front ++ more) (ended behind) ≡ Some rest → IsEnded (front ++ behind) rest
ended_from front [] rest plain e =
    let same = sym (some_same (front ++ []) rest e) in
    record {
      after = front;
      ending = [];
      further = [];
      words_are = refl;
      rest_is = same;
      ends = inl (refl, refl);
      plain = subst AllPlain (sym same) (all_joined front [] plain refl);
    }
ended_from front (word ∷ words) rest plain e = go (bytes_eq word dashes) refl e
  where
    go : (t : Bool) → bytes_eq word dashes ≡ t → option_map (λ more. front ++ more) (cond t (last_words words) None) ≡ Some rest → IsEnded (front ++ word ∷ words) rest
    go true is e =
        let p = last_is (list_all is_plain words) (λ more. front ++ more) words rest refl e in
        let word_is : word ≡ dashes = (bytes_eq-Decides word dashes).0 is in
        record {
          after = front;
          ending = dashes ∷ [];
          further = words;
          words_are = ap (λ (w : List ℕ). front ++ w ∷ words) word_is;
          rest_is = p.0;
          ends = inr refl;
          plain = subst AllPlain (sym p.0) (all_joined front words plain p.1);
        }
    go false is e = never rest e

pub ended_is : (words rest : Words) → to_end words ≡ Some rest → IsEnded words rest
ended_is words rest e = subst (λ w. IsEnded w rest) (sym (split words)) (ended_from (plain_front words) (behind_plain words) rest (front_plain words) e)

abbrev joined : List ℕ → Option (List ℕ) → List ℕ
joined name None = name
joined name (Some text) = name ++ 61 ∷ text

is_joined : (text : List ℕ) → text ≡ joined (name_and_value text).0 (name_and_value text).1
is_joined [] = refl
is_joined (x ∷ xs) = go (x == 61) refl (is_joined xs)
  where
    place : ℕ
    place = position_or_len (λ b. b == 61) xs

    behind : (t : Bool) (first next : ℕ) → first ≡ suc place → next ≡ suc (place + 1) → xs ≡ joined (take place xs) (cond t (Some (drop (place + 1) xs)) None)
        → x ∷ xs ≡ joined (take first (x ∷ xs)) (cond t (Some (drop next (x ∷ xs))) None)
    behind true first next first_is next_is e = rw first_is (rw next_is (ap (λ rest. x ∷ rest) e))
    behind false first next first_is next_is e = rw first_is (ap (λ rest. x ∷ rest) e)

    go : (t : Bool) → (x == 61) ≡ t → xs ≡ joined (name_and_value xs).0 (name_and_value xs).1 → x ∷ xs ≡ joined (name_and_value (x ∷ xs)).0 (name_and_value (x ∷ xs)).1
    go true is rest = rw is (ap (λ (b : ℕ). b ∷ xs) (eqb-true x 61 is))
    go false is rest = rw is (behind (has_byte 61 xs) (1 + place) (1 + place + 1) (omega arith) (omega arith) rest)

stripped : (word rest : List ℕ) → strip_byte 45 word ≡ Some rest → word ≡ 45 ∷ rest
stripped [] rest e = let clash : None ≡ Some rest = e in cc
stripped (x ∷ xs) rest e = go (x == 45) refl e
  where
    go : (t : Bool) → (x == 45) ≡ t → cond t (Some xs) None ≡ Some rest → x ∷ xs ≡ 45 ∷ rest
    go true is e = ap₂ (λ (b : ℕ) (bs : List ℕ). b ∷ bs) (eqb-true x 45 is) (some_same xs rest e)
    go false is e = let clash : None ≡ Some rest = e in cc

long_rest : (rest : List ℕ) (p : List ℕ × Option (List ℕ)) → long_of_rest rest ≡ Some p → rest ≡ joined p.0 p.1
long_rest [] p e = let clash : None ≡ Some p = e in cc
long_rest (x ∷ xs) p e =
    let same : name_and_value (x ∷ xs) ≡ p = cc in
    subst (λ (q : List ℕ × Option (List ℕ)). x ∷ xs ≡ joined q.0 q.1) same (is_joined (x ∷ xs))

-- what a long word is made of
pub long_is : (word : List ℕ) (p : List ℕ × Option (List ℕ)) → long_of word ≡ Some p → word ≡ 45 ∷ 45 ∷ joined p.0 p.1
long_is word p e = first (strip_byte 45 word) refl e
  where
    second : (behind : List ℕ) (found : Option (List ℕ)) → strip_byte 45 word ≡ Some behind → strip_byte 45 behind ≡ found
        → option_and_then long_of_rest found ≡ Some p → word ≡ 45 ∷ 45 ∷ joined p.0 p.1
    second behind None is has e = let clash : None ≡ Some p = e in cc
    second behind (Some rest) is has e =
        stripped word behind is ∙ ap (λ more. 45 ∷ more) (stripped behind rest has) ∙ ap (λ more. 45 ∷ 45 ∷ more) (long_rest rest p e)

    first : (found : Option (List ℕ)) → strip_byte 45 word ≡ found → option_and_then long_of_rest (option_and_then (strip_byte 45) found) ≡ Some p
        → word ≡ 45 ∷ 45 ∷ joined p.0 p.1
    first None is e = let clash : None ≡ Some p = e in cc
    first (Some behind) is e = second behind (strip_byte 45 behind) is refl e

-- what is read from prepared words are their parts
abbrev pub HasTaken : Words → Option (Option (List ℕ) × Words) → Type 0
HasTaken words None = Unit {0}
HasTaken words (Some p) = HasParts words p.0 p.1

plain_parts : (front : Words) → AllPlain front → HasParts (front ++ []) None front
plain_parts front plain = record {
  before = front;
  option = [];
  after = [];
  ending = [];
  further = [];
  words_are = refl;
  operands_are = sym (append-nil front);
  gives = refl;
  ends = inl refl;
  plain = plain;
}

ended_parts : (front further : Words) → AllPlain (front ++ further) → HasParts (front ++ dashes ∷ further) None (front ++ further)
ended_parts front further plain = record {
  before = front;
  option = [];
  after = [];
  ending = dashes ∷ [];
  further = further;
  words_are = refl;
  operands_are = refl;
  gives = refl;
  ends = inr refl;
  plain = plain;
}

either_ending : (ending further : Words) → ((ending ≡ []) × (further ≡ [])) ⊎ (ending ≡ dashes ∷ []) → IsEnding ending
either_ending ending further (inl none) = inl none.0
either_ending ending further (inr one) = inr one

attached_parts : (front behind rest : Words) (text word : List ℕ) → AllPlain front → IsEnded behind rest → word ≡ attached text
    → HasParts (front ++ word ∷ behind) (Some text) (front ++ rest)
attached_parts front behind rest text word plain e is = record {
  before = front;
  option = attached text ∷ [];
  after = e.after;
  ending = e.ending;
  further = e.further;
  words_are = ap₂ (λ (w : List ℕ) (ws : Words). front ++ w ∷ ws) is e.words_are;
  operands_are = ap (λ ws. front ++ ws) e.rest_is;
  gives = inr refl;
  ends = either_ending e.ending e.further e.ends;
  plain = all_joined front rest plain e.plain;
}

spaced_parts : (front behind rest after ending further : Words) (text word x : List ℕ) → AllPlain front → AllPlain (text ∷ rest) → IsEnding ending
    → behind ≡ x ∷ (after ++ (ending ++ further)) → text ∷ rest ≡ x ∷ (after ++ further) → word ≡ budget_word
    → HasParts (front ++ word ∷ behind) (Some text) (front ++ rest)
spaced_parts front behind rest after ending further text word x plain rest_plain ends behind_is rest_is is =
    let heads : text ≡ x = cc in
    let tails : rest ≡ after ++ further = cc in
    let p = both (is_plain text) (list_all is_plain rest) rest_plain in
    record {
      before = front;
      option = budget_word ∷ text ∷ [];
      after = after;
      ending = ending;
      further = further;
      words_are = ap₂ (λ (w : List ℕ) (ws : Words). front ++ w ∷ ws) is (behind_is ∙ ap (λ (w : List ℕ). w ∷ (after ++ (ending ++ further))) (sym heads));
      operands_are = ap (λ ws. front ++ ws) tails;
      gives = inl (refl, p.0);
      ends = ends;
      plain = all_joined front rest plain p.1;
    }

-- the value isn't the `--` that ends the options
value_parts : (front behind rest : Words) (text word : List ℕ) (e : IsEnded behind (text ∷ rest)) → AllPlain front → word ≡ budget_word
    → is_cut_short word behind ≡ false → HasParts (front ++ word ∷ behind) (Some text) (front ++ rest)
value_parts front behind rest text word e plain is not_cut = go e.after refl
  where
    empty : e.after ≡ [] → ((e.ending ≡ []) × (e.further ≡ [])) ⊎ (e.ending ≡ dashes ∷ []) → HasParts (front ++ word ∷ behind) (Some text) (front ++ rest)
    empty none (inl both_none) =
        let clash : text ∷ rest ≡ [] = e.rest_is ∙ ap₂ (λ (a b : Words). a ++ b) none both_none.1 in
        cc
    empty none (inr one) =
        let behind_is : behind ≡ dashes ∷ e.further = e.words_are ∙ (λ i. none i ++ (one i ++ e.further)) in
        let cut : is_cut_short budget_word (dashes ∷ e.further) ≡ false = ap₂ is_cut_short (sym is) (sym behind_is) ∙ not_cut in
        absurd (true≢false cut)

    go : (after : Words) → e.after ≡ after → HasParts (front ++ word ∷ behind) (Some text) (front ++ rest)
    go [] none = empty none e.ends
    go (x ∷ xs) more =
        spaced_parts front behind rest xs e.ending e.further text word x plain e.plain (either_ending e.ending e.further e.ends)
        (e.words_are ∙ ap (λ (a : Words). a ++ (e.ending ++ e.further)) more) (e.rest_is ∙ ap (λ (a : Words). a ++ e.further) more) is

option_parts : (front behind rest : Words) (word : List ℕ) (found : Option (List ℕ × Option (List ℕ))) → AllPlain front → IsEnded behind rest
    → is_cut_short word behind ≡ false → long_of word ≡ found
    → HasTaken (front ++ word ∷ behind) (option_map (λ p. (p.0, front ++ p.1)) (budget_in found rest))
option_parts front behind rest word None plain e not_cut long = tt
option_parts front behind rest word (Some p) plain e not_cut long = named (bytes_eq (codes "budget") p.0) refl
  where
    by_value : (value : Option (List ℕ)) (rest : Words) → IsEnded behind rest → word ≡ 45 ∷ 45 ∷ joined (codes "budget") value
        → HasTaken (front ++ word ∷ behind) (option_map (λ q. (q.0, front ++ q.1)) (value_in value rest))
    by_value (Some text) rest e is = attached_parts front behind rest text word plain e is
    by_value None [] e is = tt
    by_value None (text ∷ rest) e is = value_parts front behind rest text word e plain is not_cut

    named : (t : Bool) → bytes_eq (codes "budget") p.0 ≡ t → HasTaken (front ++ word ∷ behind) (option_map (λ q. (q.0, front ++ q.1)) (cond t (value_in p.1 rest) None))
    named false e2 = tt
    named true same =
        let name_is : p.0 ≡ codes "budget" = sym ((bytes_eq-Decides (codes "budget") p.0).0 same) in
        by_value p.1 rest e (long_is word p long ∙ ap (λ (n : List ℕ). 45 ∷ 45 ∷ joined n p.1) name_is)

-- the list may be given to the parser, and what is read from it are the parts of the words
pub record Prepares (words list : Words) : Type 0 where
  pub tame : is_tame list ≡ true
  pub parts : HasTaken words (taken list)

tame_plain : (words : Words) → AllPlain words → is_tame words ≡ true
tame_plain words plain = rw (behind_all words plain) refl

long_dashed : (word : List ℕ) → is_long word ≡ true → is_plain word ≡ false
long_dashed [] e = let clash : false ≡ true = e in cc
long_dashed (b ∷ bs) e = let p = both (b == 45) _ e in rw p.0 refl

prepares_plain : (front list : Words) → AllPlain front → list ≡ front ++ [] → Prepares (front ++ []) list
prepares_plain front list plain is =
    let same : list ≡ front = is ∙ append-nil front in
    record {
      tame = ap is_tame same ∙ tame_plain front plain;
      parts = subst (HasTaken (front ++ [])) (sym (ap taken same ∙ takes_plain front plain)) (plain_parts front plain);
    }

prepares_ended : (front words list : Words) (word : List ℕ) → AllPlain (front ++ words) → list ≡ front ++ words → word ≡ dashes → Prepares (front ++ word ∷ words) list
prepares_ended front words list word plain same is = record {
  tame = ap is_tame same ∙ tame_plain (front ++ words) plain;
  parts = subst (λ (w : List ℕ). HasTaken (front ++ w ∷ words) (taken list)) (sym is)
      (subst (HasTaken (front ++ dashes ∷ words)) (sym (ap taken same ∙ takes_plain (front ++ words) plain)) (ended_parts front words plain));
}

prepares_option : (front words rest list : Words) (word : List ℕ) → AllPlain front → bytes_eq word dashes ≡ false → is_long word ≡ true
    → is_cut_short word words ≡ false → to_end words ≡ Some rest → list ≡ front ++ word ∷ rest → Prepares (front ++ word ∷ words) list
prepares_option front words rest list word plain no_end long not_cut ends same =
    let stop = long_dashed word long in
    let e = ended_is words rest ends in
    record {
      tame = ap is_tame same ∙ rw (behind_until front word rest plain stop) (rw long (rw no_end e.plain));
      parts = subst (HasTaken (front ++ word ∷ words))
          (sym (ap taken same ∙ rw (behind_until front word rest plain stop) (rw (front_until front word rest plain stop) refl)))
          (option_parts front words rest word (long_of word) plain e not_cut refl);
    }

by_behind : (front behind list : Words) → AllPlain front → option_map (λ more. front ++ more) (from_option behind) ≡ Some list → Prepares (front ++ behind) list
by_behind front [] list plain e = prepares_plain front list plain (sym (some_same (front ++ []) list e))
by_behind front (word ∷ words) list plain e = first (bytes_eq word dashes) refl e
  where
    found : (ends : Option Words) → to_end words ≡ ends → bytes_eq word dashes ≡ false → is_long word ≡ true → is_cut_short word words ≡ false
        → option_map (λ more. front ++ more) (option_map (λ more. word ∷ more) ends) ≡ Some list → Prepares (front ++ word ∷ words) list
    found None ends no_end long not_cut e = never list e
    found (Some rest) ends no_end long not_cut e =
        prepares_option front words rest list word plain no_end long not_cut ends (sym (some_same (front ++ word ∷ rest) list e))

    third : (t : Bool) → is_cut_short word words ≡ t → bytes_eq word dashes ≡ false → is_long word ≡ true
        → option_map (λ more. front ++ more) (cond t None (option_map (λ more. word ∷ more) (to_end words))) ≡ Some list → Prepares (front ++ word ∷ words) list
    third true cut no_end long e = never list e
    third false cut no_end long e = found (to_end words) refl no_end long cut e

    second : (t : Bool) → is_long word ≡ t → bytes_eq word dashes ≡ false
        → option_map (λ more. front ++ more) (cond t (with_option word words) None) ≡ Some list → Prepares (front ++ word ∷ words) list
    second true long no_end e = third (is_cut_short word words) refl no_end long e
    second false long no_end e = never list e

    first : (t : Bool) → bytes_eq word dashes ≡ t
        → option_map (λ more. front ++ more) (cond t (last_words words) (cond (is_long word) (with_option word words) None)) ≡ Some list
        → Prepares (front ++ word ∷ words) list
    first true is e =
        let p = last_is (list_all is_plain words) (λ more. front ++ more) words list refl e in
        prepares_ended front words list word (all_joined front words plain p.1) p.0 ((bytes_eq-Decides word dashes).0 is)
    first false is e = second (is_long word) refl is e

pub prepares : (words list : Words) → prepared_behind words ≡ Some list → Prepares words list
prepares words list e =
    subst (λ (w : Words). Prepares w list) (sym (split words)) (by_behind (plain_front words) (behind_plain words) list (front_plain words) e)
