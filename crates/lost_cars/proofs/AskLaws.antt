-- Questions that don't have to be asked, and what the formulas of the others say.
use Rattle.std.proofs.Common.{◌≡◌, ℕ, zero, suc, ◌+◌, ◌<◌, ◌^◌, Bool, true, false, not, ◌&&◌, ◌||◌, List, [], ◌∷◌, ◌++◌, Option, Some, None, length, map, take, get_or, refl, sym, ap, subst, ◌∙◌, arith, All, append_assoc}
use Rattle.clausify.proofs.ListLaws.{all-append}
use Rattle.std.specs.List.{slice_get, list_any, range_with_len, AllByRecursion}
use Rattle.std.specs.Option.{option_map, option_map_or, option_to_list, is_none}
use Rattle.std.proofs.lemmas.Bool.{and_parts, lt-ltb, false≢true, or_parts, not-true}
use Rattle.std.proofs.lemmas.List.Elements.{All-get_or}
use Rattle.std.proofs.lemmas.List.{length-append, length-map}
use Rattle.std.proofs.lemmas.List.FromFn.{length-range_with_len, map-range_with_len_more}
use Rattle.std.proofs.lemmas.Option.{slice_get-get_or, slice_get_within, slice_get_read, get_or_from_slice_get}
use Rattle.pb_base.specs.InParts.{InParts}
use Rattle.pb_base.specs.Leaves.{with_leaves}
use Rattle.pb_base.specs.NamedSet.{named}
use Rattle.pb_base.specs.Names.{same_name, place_in}
use Rattle.pb_base.specs.Rule.{Rule, code, never, holds}
use Rattle.pb_base.specs.Sets.{has}
use Rattle.pb_base.proofs.NamedSets.{has-named}
use Rattle.book_model.specs.Activity.{is_within}
use Rattle.book_model.specs.Book.{IsBook, SupplementFits, ConstructFits}
use Rattle.book_model.specs.Contents.{Contents}
use Rattle.book_model.specs.Good.{is_good, is_closed, is_constructible, is_met, fires, breaks}
use Rattle.book_model.specs.declared.record.Construct.{Construct}
use Rattle.book_model.specs.declared.record.Supplement.{Supplement}
use Rattle.book_model.proofs.BookLimits.{constructs_below}
use Rattle.pb_base.specs.Picked.{AreNamed}
use Rattle.lost_cars.specs.ByName.{by_name}
use Rattle.lost_cars.specs.Violation.{firing, unmet}
use Rattle.lost_cars.specs.Losses.{Says, IsCar, is_missed, is_lost, read_by_own, lost_rule, LosesNone, QuestionFits, questions}
use Rattle.lost_cars.specs.Asks.{HasSupplement, HasConstruct, IsAsk, IsRuled, IsPut, ask_with}
use Rattle.lost_cars.specs.declared.asks.Ask.{Ask}
use Rattle.lost_cars.specs.declared.question.Question.{Question}
use Rattle.lost_cars.specs.declared.question.Question.TheVariants.{Fires, Breaks, Lacks}
use Rattle.lost_cars.proofs.NameLaws.{read_holds, read_fits}
use Rattle.lost_cars.proofs.ViolationLaws.{unmet_holds, firing_below, unmet_below, firing_small, unmet_small}

pub none_at : {X : Type 0} (p : X → Bool) (xs : List X) (k : ℕ) (x : X) → slice_get xs k ≡ Some x → list_any p xs ≡ false → p x ≡ false
none_at p [] k x there none = cc
none_at p (y ∷ ys) zero x there none = let same : y ≡ x = cc in ap p (sym same) ∙ (or_parts (p y) (list_any p ys) none).0
none_at p (y ∷ ys) (suc k) x there none = none_at p ys k x there (or_parts (p y) (list_any p ys) none).1

all_there : {X : Type 0} (P : X → Type 0) (xs : List X) (k : ℕ) (x : X) → slice_get xs k ≡ Some x → All P xs → P x
all_there P xs k x there all =
    subst P (get_or_from_slice_get xs k x x there) (All-get_or P xs k x (slice_get_within xs k x there) all)

pub read_there : {X : Type 0} (xs ys : List X) (k : ℕ) (x : X) → ys ≡ xs → k < length xs → x ≡ get_or ys k x → slice_get xs k ≡ Some x
read_there xs ys k x same within is = slice_get_read xs (length xs) k x refl within (is ∙ ap (λ zs. get_or zs k x) same)

-- a car fires no active supplementing rule of its book, and breaks no constructibility rule
closed_of : (b : Contents) (day : ℕ) (x : List Bool) → is_good b day x ≡ true → list_any (fires day x) b.supplements ≡ false
closed_of b day x good = not-true _ (and_parts (is_closed b day x) (is_constructible b day x) (and_parts (is_closed b day x && is_constructible b day x) _ good).0).0

built_of : (b : Contents) (day : ℕ) (x : List Bool) → is_good b day x ≡ true → list_any (breaks day x) b.constructs ≡ false
built_of b day x good = not-true _ (and_parts (is_closed b day x) (is_constructible b day x) (and_parts (is_closed b day x && is_constructible b day x) _ good).0).1

module _ (own other : Contents) (day : ℕ) where
  -- supplementing rules of the other book
  module _ (place : ℕ) (s : Supplement) (there : slice_get other.supplements place ≡ Some s) where
    pub passive_supplement : is_within s.from s.until day ≡ false → LosesNone own other day (Fires place)
    passive_supplement off = λ names car. rw (there, off) refl

    says_firing : is_within s.from s.until day ≡ true → Says own other day (Fires place) (read_by_own own other (firing s))
    says_firing on = λ names are. rw (there, on) (read_holds own.codes other.codes names are (firing s))

    pub same_supplement : is_within s.from s.until day ≡ true → HasSupplement own day (read_by_own own other (firing s)) → LosesNone own other day (Fires place)
    same_supplement on h = λ names car.
        let x : List Bool = named own.codes names in
        sym (says_firing on names car.named_there) ∙ ap (λ f. holds f x) h.same ∙ rw h.active at (none_at (fires day x) own.supplements h.place h.rule h.there (closed_of own day x car.good))

    pub ask_firing : IsBook other → is_within s.from s.until day ≡ true → (f : Rule) → f ≡ read_by_own own other (firing s) → IsAsk own other day (Fires place) f
    ask_firing book on f is =
        let fits : SupplementFits (length other.codes) s = all_there (SupplementFits (length other.codes)) other.supplements place s there book.supplements_fit in
        rw is
        (record {
          is = rw there refl;
          says = says_firing on;
          fits = record {
            in_range = read_fits own.codes other.codes (length other.codes) (firing s) (firing_below (length other.codes) s fits);
            small = firing_small (by_name own.codes other.codes) (length other.codes) s fits;
          };
        })

  -- constructibility rules of the other book
  module _ (place : ℕ) (c : Construct) (there : slice_get other.constructs place ≡ Some c) where
    pub passive_construct : is_within c.from c.until day ≡ false → LosesNone own other day (Breaks place)
    passive_construct off = λ names car. rw (there, off) refl

    says_unmet : is_within c.from c.until day ≡ true → Says own other day (Breaks place) (read_by_own own other (unmet c.demand))
    says_unmet on = λ names are. rw (there, on) (read_holds own.codes other.codes names are (unmet c.demand) ∙ unmet_holds (named other.codes names) c.demand)

    pub same_construct : is_within c.from c.until day ≡ true → HasConstruct own day (read_by_own own other (unmet c.demand)) → LosesNone own other day (Breaks place)
    same_construct on h = λ names car.
        let x : List Bool = named own.codes names in
        sym (says_unmet on names car.named_there) ∙ ap (λ f. holds f x) h.same ∙ unmet_holds x h.rule.demand
        ∙ rw h.active at (none_at (breaks day x) own.constructs h.place h.rule h.there (built_of own day x car.good))

    pub ask_unmet : IsBook other → is_within c.from c.until day ≡ true → (f : Rule) → f ≡ read_by_own own other (unmet c.demand) → IsAsk own other day (Breaks place) f
    ask_unmet book on f is =
        let fits : ConstructFits (length other.codes) c = all_there (ConstructFits (length other.codes)) other.constructs place c there book.constructs_fit in
        rw is
        (record {
          is = rw there refl;
          says = says_unmet on;
          fits = record {
            in_range = read_fits own.codes other.codes (length other.codes) (unmet c.demand) (unmet_below (length other.codes) c.demand fits.demand);
            small = unmet_small (by_name own.codes other.codes) (length other.codes) c.demand fits.demand;
          };
        })

  -- codes of the own book
  module _ (place : ℕ) (name : List ℕ) (there : slice_get own.codes place ≡ Some name) where
    pub code_there : is_none (place_in other.codes name) ≡ false → LosesNone own other day (Lacks place)
    code_there some = λ names car. rw (there, some) refl

    pub ask_missed : is_none (place_in other.codes name) ≡ true → (f : Rule) → f ≡ code place → IsAsk own other day (Lacks place) f
    ask_missed none f is =
        rw is
        (record {
          is = refl;
          says = λ names are. rw (there, none) (has-named own.codes names name place there);
          fits = record { in_range = lt-ltb place (length own.codes) (slice_get_within own.codes place name there); small = omega arith };
        })

-- the formulas that are made
pub read_made : (own other : Contents) (codes others : List (List ℕ)) (f g : Rule) → codes ≡ own.codes → others ≡ other.codes → g ≡ with_leaves (by_name codes others) f → g ≡ read_by_own own other f
read_made own other codes others f g are others_are made = rw (are, others_are) at made

-- a rule that was found is there
pub supplement_found : (own other : Contents) (day : ℕ) (codes others : List (List ℕ)) (rs : List Supplement) (k : ℕ) (s t : Supplement) → codes ≡ own.codes → others ≡ other.codes
    → rs ≡ own.supplements → k < length rs → t ≡ get_or rs k t → is_within t.from t.until day ≡ true → with_leaves (by_name codes others) (firing s) ≡ firing t
    → HasSupplement own day (read_by_own own other (firing s))
supplement_found own other day codes others rs k s t are others_are same within read active found = record {
  place = k;
  rule = t;
  there = read_there own.supplements rs k t same (omega (arith, within, ap length same)) read;
  active = active;
  same = sym (read_made own other codes others (firing s) _ are others_are refl) ∙ found;
}

pub construct_found : (own other : Contents) (day : ℕ) (codes others : List (List ℕ)) (rs : List Construct) (k : ℕ) (c t : Construct) → codes ≡ own.codes → others ≡ other.codes
    → rs ≡ own.constructs → k < length rs → t ≡ get_or rs k t → is_within t.from t.until day ≡ true → with_leaves (by_name codes others) (unmet c.demand) ≡ unmet t.demand
    → HasConstruct own day (read_by_own own other (unmet c.demand))
construct_found own other day codes others rs k c t are others_are same within read active found = record {
  place = k;
  rule = t;
  there = read_there own.constructs rs k t same (omega (arith, within, ap length same)) read;
  active = active;
  same = sym (read_made own other codes others (unmet c.demand) _ are others_are refl) ∙ found;
}

-- a question that has to be asked, or not, is put
pub put_ruled : (own other : Contents) (day : ℕ) (q : Question) (o : Option Rule) → IsRuled own other day q o → IsPut own other day q (option_to_list (option_map (ask_with q) o))
put_ruled own other day q None none = none
put_ruled own other day q (Some f) ask = (refl, ask)

-- all questions are of records and codes that are there
module _ (own other : Contents) where
  fit_from : (f : ℕ → Question) (i n : ℕ) → ((k : ℕ) → k < i + n → QuestionFits own other (f k)) → AllByRecursion (QuestionFits own other) (map f (range_with_len i n))
  fit_from f i zero each = tt
  fit_from f i (suc n) each = (each i (omega arith), fit_from f (i + 1) n (λ k low. each k (omega (arith, low))))

  pub questions_fit : AllByRecursion (QuestionFits own other) (questions own other)
  questions_fit =
      let firing : AllByRecursion (QuestionFits own other) (map (λ p. Fires p) (range_with_len 0 (length other.supplements))) =
      fit_from (λ p. Fires p) 0 (length other.supplements) (λ k low. let within : k < length other.supplements = omega (arith, low) in within) in
      let breaking : AllByRecursion (QuestionFits own other) (map (λ p. Breaks p) (range_with_len 0 (length other.constructs))) =
      fit_from (λ p. Breaks p) 0 (length other.constructs) (λ k low. let within : k < length other.constructs = omega (arith, low) in within) in
      let lacking : AllByRecursion (QuestionFits own other) (map (λ p. Lacks p) (range_with_len 0 (length own.codes))) =
      fit_from (λ p. Lacks p) 0 (length own.codes) (λ k low. let within : k < length own.codes = omega (arith, low) in within) in
      let fires : List Question = map (λ p. Fires p) (range_with_len 0 (length other.supplements)) in
      let breaks_ : List Question = map (λ p. Breaks p) (range_with_len 0 (length other.constructs)) in
      all-append _ (fires ++ breaks_) (map (λ p. Lacks p) (range_with_len 0 (length own.codes))) (all-append _ fires breaks_ firing breaking) lacking

-- the questions are put one kind behind the other
pub questions_put : (own other : Contents) (none first second third : List Question) (n m k : ℕ) → none ≡ [] → first ≡ none ++ map (λ p. Fires p) (range_with_len 0 n)
    → second ≡ first ++ map (λ p. Breaks p) (range_with_len 0 m) → third ≡ second ++ map (λ p. Lacks p) (range_with_len 0 k)
    → n ≡ length other.supplements → m ≡ length other.constructs → k ≡ length own.codes → third ≡ questions own other
questions_put own other none first second third n m k empty firing breaking lacking rules constructs codes =
    rw (lacking, breaking, firing, empty, rules, constructs, codes) refl

-- there are few of them
pub questions_few : (own other : Contents) → IsBook own → IsBook other → length (questions own other) < 2 ^ 32
questions_few own other book others =
    let firing : List Question = map (λ p. Fires p) (range_with_len 0 (length other.supplements)) in
    let breaking : List Question = map (λ p. Breaks p) (range_with_len 0 (length other.constructs)) in
    let lacking : List Question = map (λ p. Lacks p) (range_with_len 0 (length own.codes)) in
    let one : length firing ≡ length other.supplements = length-map (range_with_len 0 (length other.supplements)) (λ p. Fires p) ∙ length-range_with_len 0 (length other.supplements) in
    let two : length breaking ≡ length other.constructs = length-map (range_with_len 0 (length other.constructs)) (λ p. Breaks p) ∙ length-range_with_len 0 (length other.constructs) in
    let three : length lacking ≡ length own.codes = length-map (range_with_len 0 (length own.codes)) (λ p. Lacks p) ∙ length-range_with_len 0 (length own.codes) in
    let whole : length (questions own other) ≡ length firing + length breaking + length lacking =
    length-append (firing ++ breaking) lacking ∙ ap (λ (a : ℕ). a + length lacking) (length-append firing breaking) in
    omega (arith, whole, one, two, three, book.codes_limit, others.supplements_limit, constructs_below other others)

-- one question of a kind more
pub put_more : (f : ℕ → Question) (old now more : List Question) (n : ℕ) → now ≡ old ++ map f (range_with_len 0 n) → more ≡ now ++ f n ∷ [] → more ≡ old ++ map f (range_with_len 0 (n + 1))
put_more f old now more n so_far pushed =
    let e : 0 + n ≡ n = omega arith in
    rw (pushed, so_far, append_assoc, map-range_with_len_more f 0 n n e) refl
