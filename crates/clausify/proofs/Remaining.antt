-- How far a loop over records has come: what is made so far and what is left make the whole.
use Rattle.std.proofs.Common.{◌≡◌, ℕ, suc, ◌+◌, ◌<◌, Bool, true, false, List, [], ◌∷◌, ◌++◌, length, get_or, drop, map, refl, sym, ap, subst, ◌≤◌, ◌∙◌, arith, append_assoc, drop-cons, length-append, take, drop_at}
use Rattle.std.proofs.lemmas.List.{take_at, length-map}
use Rattle.std.specs.List.{filter}
use Rattle.std.proofs.lemmas.Bool.{cond-true, cond-false}
use Rattle.clausify.specs.Formulas.{connectives, both_clauses}
use Rattle.book_model.specs.Activity.{is_within}
use Rattle.book_model.specs.Contents.{Contents}
use Rattle.book_model.specs.declared.record.Position.{Position}
use Rattle.clausify.specs.Items.{Item, own_clauses, item_clauses, variables_of, usage_item, usage_items}
use Rattle.clausify.specs.Choices.{Choice, choices_from, active_variants, usage}
use Rattle.clause_pool.specs.Literal.{literal}
use Rattle.clausify.specs.Pairs.{pairs}
use Rattle.clausify.specs.Goals.{usages_from, all_usages, codes_asked_from, pair_clauses, pairs_asked, choice_variables, choice_clauses, choice_asked, numbered_from, goals_variables, goals_clauses, goals_asked}
use Rattle.clausify.specs.declared.question.Asked.{Asked}
use Rattle.clausify.specs.declared.question.Question.TheVariants.{Necessary, Inadmissible, Ambiguous}
use Rattle.clausify.specs.declared.usage.Usage.{Usage}
use Rattle.clausify.proofs.ItemLaws.{item_clauses-append, variables_of-append}
use Rattle.clausify.specs.Layout.{start_at, item_starts}
use Rattle.clausify.specs.declared.layout.Start.{Start}
use Rattle.clausify.specs.Encoding.{Encodes}
use Rattle.clausify.specs.declared.encoder.Encoder.{Encoder}

pub record ItemsLeft (start m : Encoder) (all rest : List Item) : Type 0 where
  pub clauses : m.pool.clauses ++ item_clauses start.truth m.next rest ≡ start.pool.clauses ++ item_clauses start.truth start.next all
  pub next : m.next + variables_of rest ≡ start.next + variables_of all
  pub truth : m.truth ≡ start.truth
  pub first : m.gates.first ≡ start.gates.first

-- a loop over records: the items of the active ones that are left
abbrev pub ActiveLeft : {X : Type 0} → (X → Bool) → (X → Item) → Encoder → Encoder → List X → ℕ → Type 0
ActiveLeft w f start m xs i = ItemsLeft start m (map f (filter w xs)) (map f (filter w (drop i xs)))

pub items_many : (start m more : Encoder) (all is rest : List Item) → ItemsLeft start m all (is ++ rest) → Encodes m more (item_clauses m.truth m.next is) (variables_of is) → ItemsLeft start more all rest
items_many start m more all is rest left made = record {
  clauses =
      ap (λ (cs : List (List ℕ)). cs ++ item_clauses start.truth more.next rest) made.clauses
      ∙ ap (λ (t : ℕ). m.pool.clauses ++ item_clauses t m.next is ++ item_clauses start.truth more.next rest) left.truth
      ∙ ap (λ (v : ℕ). m.pool.clauses ++ item_clauses start.truth m.next is ++ item_clauses start.truth v rest) made.next
      ∙ append_assoc m.pool.clauses (item_clauses start.truth m.next is) (item_clauses start.truth (m.next + variables_of is) rest)
      ∙ ap (λ (cs : List (List ℕ)). m.pool.clauses ++ cs) (sym (item_clauses-append start.truth m.next is rest))
      ∙ left.clauses;
  next = omega (arith, made.next, left.next, variables_of-append is rest);
  truth = made.truth ∙ left.truth;
  first = made.first ∙ left.first;
}

-- where the items that are left begin
abbrev pub StartsLeft : Encoder → Encoder → List Start → List Start → List Item → List Item → Type 0
StartsLeft start m starts0 starts all rest =
    starts ++ item_starts start.truth m.next (length m.pool.clauses) rest ≡ starts0 ++ item_starts start.truth start.next (length start.pool.clauses) all

pub item_starts-append : (n v at : ℕ) (is js : List Item) → item_starts n v at (is ++ js) ≡ item_starts n v at is ++ item_starts n (v + variables_of is) (at + length (item_clauses n v is)) js
item_starts-append n v at [] js =
    ap (λ (w : ℕ). item_starts n w at js) (let e : v ≡ v + 0 = omega arith in e) ∙ ap (λ (k : ℕ). item_starts n (v + 0) k js) (let e : at ≡ at + 0 = omega arith in e)
item_starts-append n v at (i ∷ is) js =
    ap (λ (ss : List Start). start_at v at ∷ ss) (item_starts-append n (v + connectives i.rule) (at + length (own_clauses n v i)) is js)
    ∙ ap (λ (w : ℕ). item_starts n v at (i ∷ is) ++ item_starts n w (at + length (own_clauses n v i) + length (item_clauses n (v + connectives i.rule) is)) js)
    (let e : v + connectives i.rule + variables_of is ≡ v + variables_of (i ∷ is) = omega arith in e)
    ∙ ap (λ (k : ℕ). item_starts n v at (i ∷ is) ++ item_starts n (v + variables_of (i ∷ is)) k js)
    (let e : at + length (own_clauses n v i) + length (item_clauses n (v + connectives i.rule) is) ≡ at + length (item_clauses n v (i ∷ is)) =
    omega (arith, length-append (own_clauses n v i) (item_clauses n (v + connectives i.rule) is)) in e)

pub starts_many : (start m more : Encoder) (starts0 starts starts' : List Start) (all is rest : List Item) → m.truth ≡ start.truth → StartsLeft start m starts0 starts all (is ++ rest)
    → Encodes m more (item_clauses m.truth m.next is) (variables_of is) → starts' ≡ starts ++ item_starts m.truth m.next (length m.pool.clauses) is
    → StartsLeft start more starts0 starts' all rest
starts_many start m more starts0 starts starts' all is rest truth left made added =
    let size : length more.pool.clauses ≡ length m.pool.clauses + length (item_clauses m.truth m.next is) =
    ap length made.clauses ∙ length-append m.pool.clauses (item_clauses m.truth m.next is) in
    ap (λ (ss : List Start). ss ++ item_starts start.truth more.next (length more.pool.clauses) rest) added
    ∙ ap (λ (v : ℕ). starts ++ item_starts m.truth m.next (length m.pool.clauses) is ++ item_starts start.truth v (length more.pool.clauses) rest) made.next
    ∙ ap (λ (k : ℕ). starts ++ item_starts m.truth m.next (length m.pool.clauses) is ++ item_starts start.truth (m.next + variables_of is) k rest) size
    ∙ ap (λ (t : ℕ). starts ++ item_starts t m.next (length m.pool.clauses) is ++ item_starts start.truth (m.next + variables_of is) (length m.pool.clauses + length (item_clauses t m.next is)) rest) truth
    ∙ append_assoc starts (item_starts start.truth m.next (length m.pool.clauses) is) _
    ∙ ap (λ (ss : List Start). starts ++ ss) (sym (item_starts-append start.truth m.next (length m.pool.clauses) is rest))
    ∙ left

-- the choices from place i on
abbrev pub choices_left : Contents → ℕ → List Position → ℕ → List Choice
choices_left b day ps i = choices_from i b day (drop i ps)

abbrev pub choice_at : Contents → ℕ → Position → ℕ → Choice
choice_at b day p i = record { position = i; mandatory = p.mandatory; variants = active_variants b day i }

pub choices_taken : (b : Contents) (day : ℕ) (ps : List Position) (i : ℕ) (p : Position) → i < length ps → p ≡ get_or ps i p → is_within p.from p.until day ≡ true → choices_left b day ps i ≡ choice_at b day p i ∷ choices_left b day ps (i + 1)
choices_taken b day ps i p within read e =
    ap (choices_from i b day) (drop-cons ps i p within ∙ ap (λ (y : Position). y ∷ drop (suc i) ps) (sym read))
    ∙ cond-true (is_within p.from p.until day) _ _ e
    ∙ ap (λ (k : ℕ). choice_at b day p i ∷ choices_left b day ps k) (let s : suc i ≡ i + 1 = omega arith in s)

pub choices_passed : (b : Contents) (day : ℕ) (ps : List Position) (i : ℕ) (p : Position) → i < length ps → p ≡ get_or ps i p → is_within p.from p.until day ≡ false → choices_left b day ps i ≡ choices_left b day ps (i + 1)
choices_passed b day ps i p within read e =
    ap (choices_from i b day) (drop-cons ps i p within ∙ ap (λ (y : Position). y ∷ drop (suc i) ps) (sym read))
    ∙ cond-false (is_within p.from p.until day) _ _ e
    ∙ ap (choices_left b day ps) (let s : suc i ≡ i + 1 = omega arith in s)

-- how far the usages have come
pub record UsagesLeft (b : Contents) (start m : Encoder) (starts0 starts : List Start) (us : List Usage) (all rest : List Choice) : Type 0 where
  pub items : ItemsLeft start m (usage_items b all) (usage_items b rest)
  pub starts_left : StartsLeft start m starts0 starts (usage_items b all) (usage_items b rest)
  pub usages : us ++ all_usages b start.truth m.next rest ≡ all_usages b start.truth start.next all

pub usages_step : (b : Contents) (start m more : Encoder) (starts0 starts starts' : List Start) (us us' : List Usage) (all rest rest' : List Choice) (c : Choice) → UsagesLeft b start m starts0 starts us all rest → rest ≡ c ∷ rest'
    → Encodes m more (item_clauses m.truth m.next (map (usage_item b) c.variants)) (variables_of (map (usage_item b) c.variants))
    → starts' ≡ starts ++ item_starts m.truth m.next (length m.pool.clauses) (map (usage_item b) c.variants)
    → us' ≡ us ++ usages_from b m.truth m.next c.variants → UsagesLeft b start more starts0 starts' us' all rest'
usages_step b start m more starts0 starts starts' us us' all rest rest' c left is made begun added =
    let items : ItemsLeft start m (usage_items b all) (map (usage_item b) c.variants ++ usage_items b rest') =
    subst (λ (cs : List Choice). ItemsLeft start m (usage_items b all) (usage_items b cs)) is left.items in
    record {
      items = items_many start m more (usage_items b all) (map (usage_item b) c.variants) (usage_items b rest') items made;
      starts_left = starts_many start m more starts0 starts starts' (usage_items b all) (map (usage_item b) c.variants) (usage_items b rest') left.items.truth
          (subst (λ (cs : List Choice). StartsLeft start m starts0 starts (usage_items b all) (usage_items b cs)) is left.starts_left) made begun;
      usages =
          ap (λ (vs : List Usage). vs ++ all_usages b start.truth more.next rest') added
          ∙ ap (λ (t : ℕ). us ++ usages_from b t m.next c.variants ++ all_usages b start.truth more.next rest') left.items.truth
          ∙ ap (λ (v : ℕ). us ++ usages_from b start.truth m.next c.variants ++ all_usages b start.truth v rest') made.next
          ∙ append_assoc us (usages_from b start.truth m.next c.variants) (all_usages b start.truth (m.next + variables_of (map (usage_item b) c.variants)) rest')
          ∙ ap (λ (cs : List Choice). us ++ all_usages b start.truth m.next cs) (sym is)
          ∙ left.usages;
    }

-- there is room for the variables of the next choice
pub usages_room : (b : Contents) (start m : Encoder) (starts0 starts : List Start) (us : List Usage) (all rest rest' : List Choice) (c : Choice) (limit : ℕ) → UsagesLeft b start m starts0 starts us all rest → rest ≡ c ∷ rest'
    → start.next + variables_of (usage_items b all) < limit → m.next + variables_of (map (usage_item b) c.variants) < limit
usages_room b start m starts0 starts us all rest rest' c limit left is room =
    let items : ItemsLeft start m (usage_items b all) (map (usage_item b) c.variants ++ usage_items b rest') =
    subst (λ (cs : List Choice). ItemsLeft start m (usage_items b all) (usage_items b cs)) is left.items in
    omega (arith, items.next, variables_of-append (map (usage_item b) c.variants) (usage_items b rest'))

-- the questions of the code at place i, and of those after it
pub codes_step : (asked asked' asked'' all : List Asked) (i absent present : ℕ) (names : List (List ℕ)) → i < length names → absent ≡ literal i false → present ≡ literal i true → asked ++ codes_asked_from i (drop i names) ≡ all
    → asked' ≡ asked ++ record { question = Necessary i; goal = absent } ∷ [] → asked'' ≡ asked' ++ record { question = Inadmissible i; goal = present } ∷ []
    → asked'' ++ codes_asked_from (i + 1) (drop (i + 1) names) ≡ all
codes_step asked asked' asked'' all i absent present names within is_absent is_present left first second =
    let rest : List Asked = codes_asked_from (i + 1) (drop (i + 1) names) in
    ap (λ (qs : List Asked). qs ++ rest) (second ∙ ap (λ (qs : List Asked). qs ++ record { question = Inadmissible i; goal = present } ∷ []) first)
    ∙ append_assoc (asked ++ record { question = Necessary i; goal = absent } ∷ []) (record { question = Inadmissible i; goal = present } ∷ []) rest
    ∙ append_assoc asked (record { question = Necessary i; goal = absent } ∷ []) (record { question = Inadmissible i; goal = present } ∷ rest)
    ∙ ap (λ (l : ℕ). asked ++ record { question = Necessary i; goal = l } ∷ record { question = Inadmissible i; goal = present } ∷ rest) is_absent
    ∙ ap (λ (l : ℕ). asked ++ record { question = Necessary i; goal = literal i false } ∷ record { question = Inadmissible i; goal = l } ∷ rest) is_present
    ∙ ap (λ (k : ℕ). asked ++ record { question = Necessary i; goal = literal i false } ∷ record { question = Inadmissible i; goal = literal i true } ∷ codes_asked_from k (drop k names)) (let s : i + 1 ≡ suc i = omega arith in s)
    ∙ ap (λ (ns : List (List ℕ)). asked ++ codes_asked_from i ns) (sym (drop-cons names i [] within))
    ∙ left

-- the pairs of the element at place i with later ones, and those of the later ones
pub pairs_next : {X : Type 0} (xs : List X) (i : ℕ) (x : X) → i < length xs → x ≡ get_or xs i x → pairs (drop i xs) ≡ map (λ (y : X). (x, y)) (drop (i + 1) xs) ++ pairs (drop (i + 1) xs)
pairs_next {X} xs i x within read =
    ap pairs (drop-cons xs i x within ∙ ap (λ (y : X). y ∷ drop (suc i) xs) (sym read))
    ∙ ap (λ (k : ℕ). map (λ (y : X). (x, y)) (drop k xs) ++ pairs (drop k xs)) (let s : suc i ≡ i + 1 = omega arith in s)

pub pair_clauses_split : (v : ℕ) (ps qs : List (Usage × Usage)) → pair_clauses v (ps ++ qs) ≡ pair_clauses v ps ++ pair_clauses (v + length ps) qs
pair_clauses_split v [] qs = ap (λ (w : ℕ). pair_clauses w qs) (let e : v ≡ v + 0 = omega arith in e)
pair_clauses_split v (p ∷ ps) qs =
    ap (λ (cs : List (List ℕ)). both_clauses v p.0.literal p.1.literal ++ cs) (pair_clauses_split (v + 1) ps qs)
    ∙ ap (λ (w : ℕ). pair_clauses v (p ∷ ps) ++ pair_clauses w qs) (let e : v + 1 + length ps ≡ v + length (p ∷ ps) = omega arith in e)

pub pairs_asked_split : (position v : ℕ) (ps qs : List (Usage × Usage)) → pairs_asked position v (ps ++ qs) ≡ pairs_asked position v ps ++ pairs_asked position (v + length ps) qs
pairs_asked_split position v [] qs = ap (λ (w : ℕ). pairs_asked position w qs) (let e : v ≡ v + 0 = omega arith in e)
pairs_asked_split position v (p ∷ ps) qs =
    ap (λ (qs : List Asked). record { question = Ambiguous position p.0.variant p.1.variant; goal = literal v true } ∷ qs) (pairs_asked_split position (v + 1) ps qs)
    ∙ ap (λ (w : ℕ). pairs_asked position v (p ∷ ps) ++ pairs_asked position w qs) (let e : v + 1 + length ps ≡ v + length (p ∷ ps) = omega arith in e)

-- how far the pairs have come
pub record PairsLeft (start m : Encoder) (asked0 asked : List Asked) (position : ℕ) (all rest : List (Usage × Usage)) : Type 0 where
  pub clauses : m.pool.clauses ++ pair_clauses m.next rest ≡ start.pool.clauses ++ pair_clauses start.next all
  pub next : m.next + length rest ≡ start.next + length all
  pub truth : m.truth ≡ start.truth
  pub first : m.gates.first ≡ start.gates.first
  pub asked_then : asked ++ pairs_asked position m.next rest ≡ asked0 ++ pairs_asked position start.next all

pub pairs_step : (start m more : Encoder) (asked0 asked asked' : List Asked) (position : ℕ) (all rest ps qs : List (Usage × Usage)) → PairsLeft start m asked0 asked position all rest → rest ≡ ps ++ qs
    → Encodes m more (pair_clauses m.next ps) (length ps) → asked' ≡ asked ++ pairs_asked position m.next ps → PairsLeft start more asked0 asked' position all qs
pairs_step start m more asked0 asked asked' position all rest ps qs left is made added = record {
  clauses =
      ap (λ (cs : List (List ℕ)). cs ++ pair_clauses more.next qs) made.clauses
      ∙ ap (λ (v : ℕ). m.pool.clauses ++ pair_clauses m.next ps ++ pair_clauses v qs) made.next
      ∙ append_assoc m.pool.clauses (pair_clauses m.next ps) (pair_clauses (m.next + length ps) qs)
      ∙ ap (λ (cs : List (List ℕ)). m.pool.clauses ++ cs) (sym (pair_clauses_split m.next ps qs) ∙ ap (pair_clauses m.next) (sym is))
      ∙ left.clauses;
  next = omega (arith, made.next, left.next, ap length is, length-append ps qs);
  truth = made.truth ∙ left.truth;
  first = made.first ∙ left.first;
  asked_then =
      ap (λ (qs' : List Asked). qs' ++ pairs_asked position more.next qs) added
      ∙ ap (λ (v : ℕ). asked ++ pairs_asked position m.next ps ++ pairs_asked position v qs) made.next
      ∙ append_assoc asked (pairs_asked position m.next ps) (pairs_asked position (m.next + length ps) qs)
      ∙ ap (λ (qs' : List Asked). asked ++ qs') (sym (pairs_asked_split position m.next ps qs) ∙ ap (pairs_asked position m.next) (sym is))
      ∙ left.asked_then;
}

-- one usage with the later ones
pub pairs_with_step : (start m more : Encoder) (asked0 asked asked' : List Asked) (position i : ℕ) (us later : List Usage) (first : Usage) → PairsLeft start m asked0 asked position (pairs us) (pairs (drop i us)) → i < length us → first ≡ get_or us i first → later ≡ drop (i + 1) us
    → Encodes m more (pair_clauses m.next (map (λ (u : Usage). (first, u)) later)) (length later) → asked' ≡ asked ++ pairs_asked position m.next (map (λ (u : Usage). (first, u)) later)
    → PairsLeft start more asked0 asked' position (pairs us) (pairs (drop (i + 1) us))
pairs_with_step start m more asked0 asked asked' position i us later first left within read is made added =
    pairs_step start m more asked0 asked asked' position (pairs us) (pairs (drop i us)) (map (λ (u : Usage). (first, u)) later) (pairs (drop (i + 1) us)) left
    (pairs_next us i first within read ∙ ap (λ (xs : List Usage). map (λ (u : Usage). (first, u)) xs ++ pairs (drop (i + 1) us)) (sym is))
    (subst (λ (k : ℕ). Encodes m more (pair_clauses m.next (map (λ (u : Usage). (first, u)) later)) k) (sym (length-map later (λ (u : Usage). (first, u)))) made)
    added

pub length-usages_from : (b : Contents) (n v : ℕ) (variants : List ℕ) → length (usages_from b n v variants) ≡ length variants
length-usages_from b n v [] = refl
length-usages_from b n v (variant ∷ variants) = ap suc (length-usages_from b n (v + connectives (usage b variant)) variants)

-- how far the choices have come: the usages of those that are left begin at some variable
pub record ChoicesLeft (b : Contents) (n : ℕ) (start m : Encoder) (asked0 asked : List Asked) (us : List Usage) (first : ℕ) (all rest : List Choice) : Type 0 where
  pub at : ℕ
  pub usages : us ≡ all_usages b n at rest
  pub clauses : m.pool.clauses ++ goals_clauses (numbered_from b n at m.next rest) ≡ start.pool.clauses ++ goals_clauses (numbered_from b n first start.next all)
  pub next : m.next + goals_variables (numbered_from b n at m.next rest) ≡ start.next + goals_variables (numbered_from b n first start.next all)
  pub asked_then : asked ++ goals_asked n (numbered_from b n at m.next rest) ≡ asked0 ++ goals_asked n (numbered_from b n first start.next all)
  pub truth : m.truth ≡ n
  pub first_gate : m.gates.first ≡ start.gates.first

-- the usages of the first choice, and those of the later ones
pub record OwnUsages (b : Contents) (n at : ℕ) (us : List Usage) (c : Choice) (rest : List Choice) (count : ℕ) : Type 0 where
  pub within : count ≤ length us
  pub own : take count us ≡ usages_from b n at c.variants
  pub later : drop count us ≡ all_usages b n (at + variables_of (map (usage_item b) c.variants)) rest

pub own_usages : (b : Contents) (n at : ℕ) (us : List Usage) (c : Choice) (all rest : List Choice) (count : ℕ) → us ≡ all_usages b n at all → all ≡ c ∷ rest → count ≡ length c.variants → OwnUsages b n at us c rest count
own_usages b n at us c all rest count are is counted =
    let own : List Usage = usages_from b n at c.variants in
    let later : List Usage = all_usages b n (at + variables_of (map (usage_item b) c.variants)) rest in
    let split : us ≡ own ++ later = are ∙ ap (all_usages b n at) is in
    let len : count ≡ length own = counted ∙ sym (length-usages_from b n at c.variants) in
    record {
      within = omega (arith, len, ap length split, length-append own later);
      own = ap (take count) split ∙ ap (λ (k : ℕ). take k (own ++ later)) len ∙ take_at own later (length own) refl;
      later = ap (drop count) split ∙ ap (λ (k : ℕ). drop k (own ++ later)) len ∙ drop_at own later (length own) refl;
    }

pub choices_room : (b : Contents) (n : ℕ) (start m : Encoder) (asked0 asked : List Asked) (us own : List Usage) (first limit : ℕ) (all rest rest' : List Choice) (c : Choice) (count : ℕ)
    → (left : ChoicesLeft b n start m asked0 asked us first all rest) → rest ≡ c ∷ rest' → count ≡ length c.variants → own ≡ take count us
    → start.next + goals_variables (numbered_from b n first start.next all) < limit → m.next + choice_variables c.mandatory own < limit
choices_room b n start m asked0 asked us own first limit all rest rest' c count left is counted taken room =
    let parts = own_usages b n left.at us c rest rest' count left.usages is counted in
    let taken_own : ℕ = choice_variables c.mandatory (usages_from b n left.at c.variants) in
    let total : goals_variables (numbered_from b n left.at m.next rest) ≡ taken_own + goals_variables (numbered_from b n (left.at + variables_of (map (usage_item b) c.variants)) (m.next + taken_own) rest') =
    ap (λ (cs : List Choice). goals_variables (numbered_from b n left.at m.next cs)) is in
    let same : choice_variables c.mandatory own ≡ choice_variables c.mandatory (usages_from b n left.at c.variants) = ap (choice_variables c.mandatory) (taken ∙ parts.own) in
    omega (arith, left.next, total, same)

pub choices_step : (b : Contents) (n : ℕ) (start m more : Encoder) (asked0 asked asked' : List Asked) (us own later : List Usage) (first : ℕ) (all rest rest' : List Choice) (c : Choice) (count : ℕ)
    → ChoicesLeft b n start m asked0 asked us first all rest → rest ≡ c ∷ rest' → count ≡ length c.variants → own ≡ take count us → later ≡ drop count us
    → Encodes m more (choice_clauses m.next c.mandatory own) (choice_variables c.mandatory own)
    → asked' ≡ asked ++ choice_asked m.truth m.next c.position c.mandatory own
    → ChoicesLeft b n start more asked0 asked' later first all rest'
choices_step b n start m more asked0 asked asked' us own later first all rest rest' c count left is counted taken dropped made added =
    let parts = own_usages b n left.at us c rest rest' count left.usages is counted in
    let own_is : own ≡ usages_from b n left.at c.variants = taken ∙ parts.own in
    let after : ℕ = left.at + variables_of (map (usage_item b) c.variants) in
    let next_is : more.next ≡ m.next + choice_variables c.mandatory (usages_from b n left.at c.variants) = made.next ∙ ap (λ (vs : List Usage). m.next + choice_variables c.mandatory vs) own_is in
    record {
      at = after;
      usages = dropped ∙ parts.later;
      clauses =
          ap (λ (cs : List (List ℕ)). cs ++ goals_clauses (numbered_from b n after more.next rest')) made.clauses
          ∙ ap (λ (vs : List Usage). m.pool.clauses ++ choice_clauses m.next c.mandatory vs ++ goals_clauses (numbered_from b n after more.next rest')) own_is
          ∙ ap (λ (v : ℕ). m.pool.clauses ++ choice_clauses m.next c.mandatory (usages_from b n left.at c.variants) ++ goals_clauses (numbered_from b n after v rest')) next_is
          ∙ append_assoc m.pool.clauses (choice_clauses m.next c.mandatory (usages_from b n left.at c.variants)) _
          ∙ ap (λ (cs : List Choice). m.pool.clauses ++ goals_clauses (numbered_from b n left.at m.next cs)) (sym is)
          ∙ left.clauses;
      next =
          let total : goals_variables (numbered_from b n left.at m.next rest) ≡ choice_variables c.mandatory (usages_from b n left.at c.variants) + goals_variables (numbered_from b n after more.next rest') =
          ap (λ (cs : List Choice). goals_variables (numbered_from b n left.at m.next cs)) is
          ∙ ap (λ (w : ℕ). choice_variables c.mandatory (usages_from b n left.at c.variants) + goals_variables (numbered_from b n after w rest')) (sym next_is) in
          omega (arith, next_is, left.next, total);
      asked_then =
          ap (λ (qs : List Asked). qs ++ goals_asked n (numbered_from b n after more.next rest')) added
          ∙ ap (λ (t : ℕ). asked ++ choice_asked t m.next c.position c.mandatory own ++ goals_asked n (numbered_from b n after more.next rest')) left.truth
          ∙ ap (λ (vs : List Usage). asked ++ choice_asked n m.next c.position c.mandatory vs ++ goals_asked n (numbered_from b n after more.next rest')) own_is
          ∙ ap (λ (v : ℕ). asked ++ choice_asked n m.next c.position c.mandatory (usages_from b n left.at c.variants) ++ goals_asked n (numbered_from b n after v rest')) next_is
          ∙ append_assoc asked (choice_asked n m.next c.position c.mandatory (usages_from b n left.at c.variants)) _
          ∙ ap (λ (cs : List Choice). asked ++ goals_asked n (numbered_from b n left.at m.next cs)) (sym is)
          ∙ left.asked_then;
      truth = made.truth ∙ left.truth;
      first_gate = made.first ∙ left.first_gate;
    }
