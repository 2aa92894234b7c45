-- The words ask for a task exactly where their prepared list is read as that task.
use Rattle.std.proofs.Common.{◌≡◌, ◌∙◌, ◌++◌, ◌==◌, ℕ, Bool, cond, true, false, not, refl, sym, ap, ap₂, subst, List, [], ◌∷◌, Option, Some, None, inl, inr}
use Rattle.std.specs.Prelude.{◌⊎◌}
use Rattle.std.specs.Option.{option_and_then, option_map}
use Rattle.std.proofs.lemmas.Bool.{eqb-true}
use Rattle.std.proofs.lemmas.Slice.Eq.{bytes_eq-Decides}
use Rattle.pb_base.specs.Names.{same_name}
use Rattle.command_words.specs.Parts.{Words, is_plain}
use Rattle.command_words.specs.Prepared.{behind_plain, from_option, plain_front, prepared, prepared_behind}
use Rattle.command_words.specs.Meaning.{Asks, by_form, of_cars, of_several, AsksByForm, AsksNothing, AsksOfSeveral, Means, MeansByForm, MeansSeveral, ask_task, ask_word, asked, behind_ask, task_with, workers_cut}
use Rattle.command_words.specs.Several.{workers_place}
use Rattle.command_words.specs.Grammar.{is_prepared, parsed, taken}
use Rattle.command_words.specs.declared.task.Task.{Task}
use Rattle.command_words.proofs.Laws.{Goes, HasTaken, goes, never, prepares, some_same}
use Rattle.command_words.proofs.SeveralWords.{first_stays, none_in_form}

-- a task word doesn't begin with `-`
asks_plain : (name : List ℕ) (budget : Option (List ℕ)) (operands : Words) (task : Task) → asked name budget operands ≡ Some task → is_plain name ≡ true
asks_plain [] budget operands task e = refl
asks_plain (b ∷ bs) budget operands task e = go (b == 45) refl e
  where
    go : (t : Bool) → (b == 45) ≡ t → asked (b ∷ bs) budget operands ≡ Some task → not t ≡ true
    go false is e = refl
    go true is e =
        let none : asked (b ∷ bs) budget operands ≡ None = ap (λ (x : ℕ). asked (x ∷ bs) budget operands) (eqb-true b 45 is) in
        let clash : None ≡ Some task = sym none ∙ e in
        cc

name_first : (name : List ℕ) (front : Words) (found : Option Words)
    → option_map (λ more. (name ∷ front) ++ more) found ≡ option_map (λ more. name ∷ more) (option_map (λ more. front ++ more) found)
name_first name front None = refl
name_first name front (Some more) = refl

prepared_name : (name : List ℕ) (words : Words) → is_plain name ≡ true → prepared (name ∷ words) ≡ option_map (λ more. name ∷ more) (prepared_behind words)
prepared_name name words plain = rw plain (name_first name (plain_front words) (from_option (behind_plain words)))

-- what a task's words are prepared and read as
pub record IsRead (words : Words) (task : Task) : Type 0 where
  pub list : Words
  pub prepares : prepared words ≡ Some list
  pub reads : parsed list ≡ Some task

read_name : (name : List ℕ) (behind : Words) (budget : Option (List ℕ)) (operands : Words) (task : Task) → Goes behind budget operands
    → asked name budget operands ≡ Some task → IsRead (name ∷ behind) task
read_name name behind budget operands task g asks = record {
  list = name ∷ g.list;
  prepares = prepared_name name behind (asks_plain name budget operands task asks) ∙ ap (option_map (λ more. name ∷ more)) g.prepares;
  reads = ap (option_and_then (λ p. asked name p.0 p.1)) g.takes ∙ asks;
}

pub form_read : (words : Words) (task : Task) → AsksByForm words task → IsRead words task
form_read words task f =
    subst (λ (w : Words). IsRead w task) (sym f.words_are)
    (read_name f.name f.behind f.budget f.operands task (goes f.behind f.operands f.budget f.parts) f.asks)

form_of : (name : List ℕ) (behind : Words) (task : Task) (found : Option (Option (List ℕ) × Words)) → HasTaken behind found
    → option_and_then (λ p. asked name p.0 p.1) found ≡ Some task → AsksByForm (name ∷ behind) task
form_of name behind task None h e = let clash : None ≡ Some task = e in cc
form_of name behind task (Some p) h e =
    record { name = name; behind = behind; budget = p.0; operands = p.1; words_are = refl; parts = h; asks = e }

-- a list that is prepared
pub record IsPrepared (words list : Words) : Type 0 where
  pub may_be_given : is_prepared list ≡ true
  pub is_form : (task : Task) → parsed list ≡ Some task → AsksByForm words task

pub prepared_form : (words list : Words) → prepared words ≡ Some list → IsPrepared words list
prepared_form [] list e = never list e
prepared_form (name ∷ words) list e = by_name (is_plain name) refl
  where
    by_rest : (found : Option Words) → prepared_behind words ≡ found → is_plain name ≡ true → option_map (λ more. name ∷ more) found ≡ Some list
        → IsPrepared (name ∷ words) list
    by_rest None is plain e = never list e
    by_rest (Some rest) is plain e =
        let same : name ∷ rest ≡ list = some_same (name ∷ rest) list e in
        let p = prepares words rest is in
        subst (IsPrepared (name ∷ words)) same (record {
          may_be_given = rw plain p.tame;
          is_form = λ task reads. form_of name words task (taken rest) p.parts reads;
        })

    by_name : (t : Bool) → is_plain name ≡ t → IsPrepared (name ∷ words) list
    by_name true plain = by_rest (prepared_behind words) refl plain (sym (prepared_name name words plain) ∙ e)
    by_name false plain =
        let none : prepared (name ∷ words) ≡ None = rw plain refl in
        never list (sym none ∙ e)

-- words of a form ask for at most one task
one_by_form : (words : Words) (a b : Task) → AsksByForm words a → AsksByForm words b → a ≡ b
one_by_form words a b f g =
    let x = form_read words a f in
    let y = form_read words b g in
    let lists : x.list ≡ y.list = some_same x.list y.list (sym x.prepares ∙ y.prepares) in
    let commands : Some a ≡ Some b = sym x.reads ∙ ap parsed lists ∙ y.reads in
    cc

pub unprepared : (words : Words) → prepared words ≡ None → MeansByForm words None
unprepared words none task f =
    let x = form_read words task f in
    let clash : None ≡ Some x.list = sym none ∙ x.prepares in
    cc

unread : (words list : Words) → prepared words ≡ Some list → parsed list ≡ None → MeansByForm words None
unread words list prepares none task f =
    let x = form_read words task f in
    let lists : list ≡ x.list = some_same list x.list (sym prepares ∙ x.prepares) in
    let clash : None ≡ Some task = sym none ∙ ap parsed lists ∙ x.reads in
    cc

-- what the prepared list is read as, the words ask for
pub list_means : (words list : Words) (found : Option Task) → prepared words ≡ Some list → parsed list ≡ found → MeansByForm words found
list_means words list None is e = unread words list is e
list_means words list (Some task) is e = (prepared_form words list is).is_form task e

-- ---- words that have the option of several workers

-- words of a form don't
no_option : (words : Words) (task : Task) (place : ℕ) → AsksByForm words task → workers_place words ≡ Some place → ⊥
no_option words task place f stands =
    let none = ap workers_place f.words_are ∙ none_in_form f.name f.behind f.budget f.operands f.parts in
    let clash : None ≡ Some place = sym none ∙ stands in
    cc

one_place : (words : Words) (place : ℕ) (task : Task) (f : AsksOfSeveral words task) → workers_place words ≡ Some place → f.place ≡ place
one_place words place task f stands = let same : Some f.place ≡ Some place = sym f.stands ∙ stands in cc

pub uncut_means : (words : Words) (place : ℕ) → workers_place words ≡ Some place → workers_cut words place ≡ None → MeansSeveral words None
uncut_means words place stands none task f =
    never (f.workers, f.others) (sym none ∙ ap (workers_cut words) (sym (one_place words place task f stands)) ∙ f.cut)

-- what is cut out, and what is left
record IsCut (workers n : ℕ) (others rest : Words) : Type 0 where
  number : workers ≡ n
  words : others ≡ rest

same_cut : (p q : ℕ × Words) → Some p ≡ Some q → IsCut p.0 q.0 p.1 q.1
same_cut p q e =
    let same = some_same p q e in
    record { number = ap (λ (r : ℕ × Words). r.0) same; words = ap (λ (r : ℕ × Words). r.1) same }

module _ (words : Words) (place n : ℕ) (rest : Words) (stands : workers_place words ≡ Some place) (cut : workers_cut words place ≡ Some (n, rest)) where
  cut_is : (task : Task) (f : AsksOfSeveral words task) → IsCut f.workers n f.others rest
  cut_is task f = same_cut (f.workers, f.others) (n, rest) (sym f.cut ∙ ap (workers_cut words) (one_place words place task f stands) ∙ cut)

  unasked : MeansByForm rest None → MeansSeveral words None
  unasked none task f = none f.one (subst (λ (ws : Words). AsksByForm ws f.one) (cut_is task f).words f.asks)

  unshared : (one : Task) → AsksByForm rest one → task_with n one ≡ None → MeansSeveral words None
  unshared one asks none task f =
      let same : f.one ≡ one = one_by_form rest f.one one (subst (λ (ws : Words). AsksByForm ws f.one) (cut_is task f).words f.asks) asks in
      let clash : None ≡ Some task =
      sym none ∙ ap (task_with n) (sym same) ∙ ap (λ (k : ℕ). task_with k f.one) (sym (cut_is task f).number) ∙ f.several in
      cc

  by_command : (one : Task) (found : Option Task) → AsksByForm rest one → task_with n one ≡ found → MeansSeveral words found
  by_command one None asks is = unshared one asks is
  by_command one (Some task) asks is =
      record { place = place; stands = stands; workers = n; others = rest; cut = cut; one = one; asks = asks; several = is }

  -- by what the words without the option ask for
  several_found : (one : Option Task) → MeansByForm rest one → MeansSeveral words (option_and_then (task_with n) one)
  several_found None means = unasked means
  several_found (Some one) means = by_command one (task_with n one) means refl

pub single_means : (words : Words) (place n : ℕ) (rest others : Words) (one found : Option Task) → workers_place words ≡ Some place → workers_cut words place ≡ Some (n, rest)
    → others ≡ rest → MeansByForm others one → found ≡ option_and_then (task_with n) one → MeansSeveral words found
single_means words place n rest others one found stands cut same means is =
    subst (MeansSeveral words) (sym is) (several_found words place n rest stands cut one (subst (λ (ws : Words). MeansByForm ws one) same means))

-- ---- words that begin with `ask`

-- they are of no other form
never_by_form : (behind : Words) (task : Task) → AsksByForm (ask_word ∷ behind) task → ⊥
never_by_form behind task f =
    let name_is : ask_word ≡ f.name = cc in
    let none : asked ask_word f.budget f.operands ≡ None = refl in
    let clash : None ≡ Some task = sym none ∙ ap (λ (name : List ℕ). asked name f.budget f.operands) name_is ∙ f.asks in
    cc

rest_of : (a b : Words) → ask_word ∷ a ≡ ask_word ∷ b → a ≡ b
rest_of a b same = cc

pub begins : (words behind : Words) → behind_ask words ≡ Some behind → words ≡ ask_word ∷ behind
begins [] behind is = let clash : None ≡ Some behind = is in cc
begins (word ∷ words) behind is = go (same_name word ask_word) refl is
  where
    go : (t : Bool) → same_name word ask_word ≡ t → cond t (Some words) None ≡ Some behind → word ∷ words ≡ ask_word ∷ behind
    go true same e = let rest : words ≡ behind = some_same words behind e in ap₂ (λ (w : List ℕ) (ws : Words). w ∷ ws) ((bytes_eq-Decides word ask_word).0 same) rest
    go false same e = never behind e

no_ask : (words behind : Words) → behind_ask words ≡ None → words ≡ ask_word ∷ behind → ⊥
no_ask words behind none is =
    let found : behind_ask (ask_word ∷ behind) ≡ Some behind = refl in
    let clash : None ≡ Some behind = sym none ∙ ap behind_ask is ∙ found in
    cc

no_task : (words : Words) → behind_ask words ≡ None → workers_place words ≡ None → MeansByForm words None → AsksNothing words
no_task words none single means task (by_form f) = means task f
no_task words none single means task (of_cars f) = no_ask words f.behind none f.words_are
no_task words none single means task (of_several f) = let clash : None ≡ Some f.place = sym single ∙ f.stands in cc

-- what words mean that don't begin with `ask`
pub by_found : (words : Words) (found : Option Task) → behind_ask words ≡ None → workers_place words ≡ None → MeansByForm words found → Means words found
by_found words None none single means = no_task words none single means
by_found words (Some task) none single means = by_form means

no_several : (words : Words) (place : ℕ) → behind_ask words ≡ None → workers_place words ≡ Some place → MeansSeveral words None → AsksNothing words
no_several words place none stands means task (by_form f) = no_option words task place f stands
no_several words place none stands means task (of_cars f) = no_ask words f.behind none f.words_are
no_several words place none stands means task (of_several f) = means task f

pub by_several : (words : Words) (place : ℕ) (found : Option Task) → behind_ask words ≡ None → workers_place words ≡ Some place → MeansSeveral words found → Means words found
by_several words place None none stands means = no_several words place none stands means
by_several words place (Some task) none stands means = of_several means

-- no option makes several workers of `ask`
never_several : (behind : Words) (task : Task) → AsksOfSeveral (ask_word ∷ behind) task → ⊥
never_several behind task f =
    let first = first_stays ask_word behind f.place f.workers f.others f.stands f.cut in
    never_by_form first.rest f.one (subst (λ (ws : Words). AsksByForm ws f.one) first.is f.asks)

no_cars_task : (words behind : Words) → words ≡ ask_word ∷ behind → None ≡ ask_task behind → AsksNothing words
no_cars_task words behind is asks task (by_form f) = never_by_form behind task (subst (λ (w : Words). AsksByForm w task) is f)
no_cars_task words behind is asks task (of_cars f) =
    let rests : f.behind ≡ behind = rest_of f.behind behind (sym f.words_are ∙ is) in
    let clash : None ≡ Some task = asks ∙ ap ask_task (sym rests) ∙ f.asks in
    cc
no_cars_task words behind is asks task (of_several f) = never_several behind task (subst (λ (w : Words). AsksOfSeveral w task) is f)

-- and what those mean that do
pub cars_found : (words behind : Words) (found : Option Task) → words ≡ ask_word ∷ behind → found ≡ ask_task behind → Means words found
cars_found words behind None is asks = no_cars_task words behind is asks
cars_found words behind (Some task) is asks = of_cars (record { behind = behind; words_are = is; asks = sym asks })

-- words ask for at most one task
pub one_task : (words : Words) (a b : Task) → Asks words a → Asks words b → a ≡ b
one_task words a b (by_form f) (by_form g) = one_by_form words a b f g
one_task words a b (by_form f) (of_cars g) = absurd (never_by_form g.behind a (subst (λ (w : Words). AsksByForm w a) g.words_are f))
one_task words a b (of_cars f) (by_form g) = absurd (never_by_form f.behind b (subst (λ (w : Words). AsksByForm w b) f.words_are g))
one_task words a b (of_cars f) (of_cars g) =
    let rests : f.behind ≡ g.behind = rest_of f.behind g.behind (sym f.words_are ∙ g.words_are) in
    let tasks : Some a ≡ Some b = sym f.asks ∙ ap ask_task rests ∙ g.asks in
    cc
one_task words a b (by_form f) (of_several g) = absurd (no_option words a g.place f g.stands)
one_task words a b (of_several f) (by_form g) = absurd (no_option words b f.place g f.stands)
one_task words a b (of_cars f) (of_several g) = absurd (never_several f.behind b (subst (λ (w : Words). AsksOfSeveral w b) f.words_are g))
one_task words a b (of_several f) (of_cars g) = absurd (never_several g.behind a (subst (λ (w : Words). AsksOfSeveral w a) g.words_are f))
one_task words a b (of_several f) (of_several g) =
    let cut = cut_is words g.place g.workers g.others g.stands g.cut a f in
    let one : f.one ≡ g.one = one_by_form g.others f.one g.one (subst (λ (ws : Words). AsksByForm ws f.one) cut.words f.asks) g.asks in
    let tasks : Some a ≡ Some b = sym f.several ∙ ap (λ (k : ℕ). task_with k f.one) cut.number ∙ ap (task_with g.workers) one ∙ g.several in
    cc

pub record IsAsked (words : Words) : Type 0 where
  pub task : Task
  pub asks : Asks words task

by_task : (words : Words) (found : Option Task) → Means words found → IsAsked words ⊎ AsksNothing words
by_task words None means = inr means
by_task words (Some task) means = inl (record { task = task; asks = means })

-- what words of a form mean
record IsMeant (words : Words) : Type 0 where
  found : Option Task
  means : MeansByForm words found

meant_by : (words : Words) (list : Option Words) → prepared words ≡ list → IsMeant words
meant_by words None is = record { found = None; means = unprepared words is }
meant_by words (Some list) is = record { found = parsed list; means = list_means words list (parsed list) is refl }

by_cut : (words : Words) (place : ℕ) (found : Option (ℕ × Words)) → behind_ask words ≡ None → workers_place words ≡ Some place → workers_cut words place ≡ found
    → IsAsked words ⊎ AsksNothing words
by_cut words place None other stands is = by_task words None (by_several words place None other stands (uncut_means words place stands is))
by_cut words place (Some p) other stands is =
    let one = meant_by p.1 (prepared p.1) refl in
    by_task words (option_and_then (task_with p.0) one.found)
    (by_several words place (option_and_then (task_with p.0) one.found) other stands (several_found words place p.0 p.1 stands is one.found one.means))

by_place : (words : Words) (place : Option ℕ) → behind_ask words ≡ None → workers_place words ≡ place → IsAsked words ⊎ AsksNothing words
by_place words None other is =
    let one = meant_by words (prepared words) refl in
    by_task words one.found (by_found words one.found other is one.means)
by_place words (Some place) other is = by_cut words place (workers_cut words place) other is refl

by_front : (words : Words) (found : Option Words) → behind_ask words ≡ found → IsAsked words ⊎ AsksNothing words
by_front words None is = by_place words (workers_place words) is refl
by_front words (Some behind) is = by_task words (ask_task behind) (cars_found words behind (ask_task behind) (begins words behind is) refl)

-- words ask for a task, or for nothing
pub asked_or_nothing : (words : Words) → IsAsked words ⊎ AsksNothing words
asked_or_nothing words = by_front words (behind_ask words) refl
