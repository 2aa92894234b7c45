-- The clauses of entries and of a rule are satisfied over just the sets that meet them.
use Rattle.std.proofs.Common.{◌≡◌, ℕ, zero, suc, ◌+◌, ◌*◌, ◌<◌, ◌≤◌, Bool, true, false, not, ◌&&◌, ◌||◌, List, [], ◌∷◌, ◌++◌, Option, Some, None, length, map, take, slice_get, get_or, refl, sym, ap, subst, ◌∙◌, arith, All}
use Rattle.std.specs.Option.{option_map_or}
use Rattle.std.specs.List.{AllByRecursion}
use Rattle.std.proofs.lemmas.Bool.{and_parts, and_from, lt-ltb, false≢true, false_from_ne_true}
use Rattle.std.proofs.lemmas.List.{map-append, take_more, take_all}
use Rattle.std.proofs.lemmas.List.Elements.{recursion_from_All, All-take, All-get_or}
use Rattle.std.proofs.lemmas.Option.{slice_get_read}
use Rattle.pb_base.specs.Rule.{Rule, always, holds}
use Rattle.pb_base.specs.Sets.{has}
use Rattle.book_model.specs.Activity.{is_within}
use Rattle.book_model.specs.Book.{IsBook, RuleFits, SupplementFits, ConstructFits}
use Rattle.book_model.specs.Contents.{Contents}
use Rattle.book_model.specs.Good.{fires, breaks, is_met}
use Rattle.book_model.specs.declared.demand.Demand.{Demand}
use Rattle.book_model.specs.declared.demand.Demand.TheVariants as demand
use Rattle.book_model.specs.declared.record.Supplement.{Supplement as SupplementRecord}
use Rattle.book_model.specs.declared.record.Construct.{Construct as ConstructRecord}
use Rattle.clausify.specs.Encoding.{EncodesItem}
use Rattle.clausify.specs.Formulas.{connectives}
use Rattle.clausify.specs.Items.{Item, variables_of, free_item, supplement_item, construct_item, demand_item, rule_item}
use Rattle.clausify.specs.declared.encoder.Encoder.{Encoder}
use Rattle.clausify.proofs.Bounds.{connectives_below, demand_item_below}
use Rattle.clausify.proofs.ItemLaws.{AllFit, AllMeet, meets, item_fits, supplement_item_fits, construct_item_fits}
use Rattle.clausify.proofs.LiftLaws.{items_code}
use Rattle.clausify.proofs.ListLaws.{all-append, all_first, all_last}
use Rattle.item_search.specs.Search.{IsEncoded, IsOutcome, CodesItems}
use Rattle.item_search.specs.declared.outcome.Outcome.{Outcome}
use Rattle.item_search.specs.declared.outcome.Outcome.TheVariants as outcome
use Rattle.item_search.proofs.EncodedLaws.{encoded_item}
use Rattle.item_search.proofs.SearchLaws.{none_true}
use Rattle.blame.specs.Blame.{AreFew, IsLooked, entry_item, blame_items}
use Rattle.blame.specs.Entries.{is_active_supplement, is_active_construct, is_active, meets_entry, meets_all, IsThere, EntryFits}
use Rattle.blame.specs.declared.entries.Entry.{Entry}
use Rattle.blame.specs.declared.entries.Entry.TheVariants.{Supplement, Construct, Chosen}
use Rattle.blame.proofs.ListLaws.{length-first}

-- an item speaks of the codes, and takes few variables
pub record IsSmall (n : ℕ) (i : Item) : Type 0 where
  pub fits : item_fits n i ≡ true
  pub small : connectives i.rule ≤ 512

supplement_small : (n : ℕ) (ss : List SupplementRecord) (p : ℕ) → AllByRecursion (SupplementFits n) ss → IsSmall n (option_map_or supplement_item (slice_get ss p) (free_item always))
supplement_small n [] p h = record { fits = refl; small = omega arith }
supplement_small n (s ∷ ss) zero h = record { fits = supplement_item_fits n s h.0; small = omega (arith, connectives_below s.rule, h.0.rule.size) }
supplement_small n (s ∷ ss) (suc p) h = supplement_small n ss p h.1

construct_small : (n : ℕ) (cs : List ConstructRecord) (p : ℕ) → AllByRecursion (ConstructFits n) cs → IsSmall n (option_map_or construct_item (slice_get cs p) (free_item always))
construct_small n [] p h = record { fits = refl; small = omega arith }
construct_small n (c ∷ cs) zero h = record { fits = construct_item_fits n c h.0; small = demand_item_below n c.demand h.0.demand }
construct_small n (c ∷ cs) (suc p) h = construct_small n cs p h.1

pub entry_small : (b : Contents) → IsBook b → (e : Entry) → IsThere b e → IsSmall (length b.codes) (entry_item b e)
entry_small b book (Supplement p) there =
    supplement_small (length b.codes) b.supplements p (recursion_from_All (SupplementFits (length b.codes)) b.supplements book.supplements_fit)
entry_small b book (Construct p) there =
    construct_small (length b.codes) b.constructs p (recursion_from_All (ConstructFits (length b.codes)) b.constructs book.constructs_fit)
entry_small b book (Chosen c) there = record { fits = and_from _ _ (lt-ltb c (length b.codes) there) refl; small = omega arith }

-- a rule doesn't fire, and isn't broken, where its claim is met

unless_fires : (w p q : Bool) → w ≡ true → (not p || q) ≡ not (w && p && not q)
unless_fires true true true h = refl
unless_fires true true false h = refl
unless_fires true false q h = refl
unless_fires false p q h = absurd (false≢true h)

unless_broken : (w t : Bool) → w ≡ true → t ≡ not (w && not t)
unless_broken true true h = refl
unless_broken true false h = refl
unless_broken false t h = absurd (false≢true h)

demand_meets : (x : List Bool) (d : Demand) → meets x (demand_item d) ≡ is_met x d
demand_meets x (demand.Rule None rule) = refl
demand_meets x (demand.Rule (Some place) rule) = refl
demand_meets x (demand.One group) = refl
demand_meets x (demand.Most group) = refl

supplement_meets : (day : ℕ) (x : List Bool) (o : Option SupplementRecord) → option_map_or (is_active_supplement day) o false ≡ true
    → meets x (option_map_or supplement_item o (free_item always)) ≡ not (option_map_or (fires day x) o false)
supplement_meets day x None h = absurd (false≢true h)
supplement_meets day x (Some s) h = unless_fires (is_within s.from s.until day) (holds s.rule x) (has x s.code) h

construct_meets : (day : ℕ) (x : List Bool) (o : Option ConstructRecord) → option_map_or (is_active_construct day) o false ≡ true
    → meets x (option_map_or construct_item o (free_item always)) ≡ not (option_map_or (breaks day x) o false)
construct_meets day x None h = absurd (false≢true h)
construct_meets day x (Some c) h = demand_meets x c.demand ∙ unless_broken (is_within c.from c.until day) (is_met x c.demand) h

-- how far the clauses are made
pub record Making (b : Contents) (m : List Entry) (i : ℕ) (e : Encoder) : Type 0 where
  pub truth : e.truth ≡ length b.codes
  pub encoded : IsEncoded (map (entry_item b) (take i m)) e

module _ (b : Contents) (day : ℕ) where
  pub entry_meets : (x : List Bool) (e : Entry) → is_active b day e ≡ true → meets x (entry_item b e) ≡ meets_entry b day x e
  entry_meets x (Supplement p) on = supplement_meets day x (slice_get b.supplements p) on
  entry_meets x (Construct p) on = construct_meets day x (slice_get b.constructs p) on
  entry_meets x (Chosen c) on = refl

  entries_met : (x : List Bool) (m : List Entry) → AllByRecursion (EntryFits b day) m → meets_all b day x m ≡ true → AllMeet x (map (entry_item b) m)
  entries_met x [] fit h = tt
  entries_met x (e ∷ m) fit h =
      let parts = and_parts (meets_entry b day x e) (meets_all b day x m) h in
      (entry_meets x e fit.0.active ∙ parts.0, entries_met x m fit.1 parts.1)

  entries_from_met : (x : List Bool) (m : List Entry) → AllByRecursion (EntryFits b day) m → AllMeet x (map (entry_item b) m) → meets_all b day x m ≡ true
  entries_from_met x [] fit h = refl
  entries_from_met x (e ∷ m) fit h =
      and_from (meets_entry b day x e) (meets_all b day x m) (sym (entry_meets x e fit.0.active) ∙ h.0) (entries_from_met x m fit.1 h.1)

  pub entry_at : (m : List Entry) (i : ℕ) (d : Entry) → All (EntryFits b day) m → i < length m → EntryFits b day (get_or m i d)
  entry_at m i d fit within = All-get_or (EntryFits b day) m i d within fit

  module _ (book : IsBook b) where
    pub entries_fit : (m : List Entry) → AllByRecursion (EntryFits b day) m → AllFit (length b.codes) (map (entry_item b) m)
    entries_fit [] fit = tt
    entries_fit (e ∷ m) fit = ((entry_small b book e fit.0.there).fits, entries_fit m fit.1)

    pub entries_small : (m : List Entry) → AllByRecursion (EntryFits b day) m → variables_of (map (entry_item b) m) ≤ 512 * length m
    entries_small [] fit = omega arith
    entries_small (e ∷ m) fit = omega (arith, (entry_small b book e fit.0.there).small, entries_small m fit.1)

    pub blame_fit : (m : List Entry) (f : Rule) → All (EntryFits b day) m → RuleFits (length b.codes) f → AllFit (length b.codes) (blame_items b m f)
    blame_fit m f fit rule =
        all-append _ (map (entry_item b) m) (rule_item None f ∷ []) (entries_fit m (recursion_from_All (EntryFits b day) m fit)) (and_from _ _ rule.in_range refl, tt)

    pub blame_code : (m : List Entry) (f : Rule) → All (EntryFits b day) m → RuleFits (length b.codes) f
        → CodesItems (length b.codes) (blame_items b m f) (λ x. meets_all b day x m && holds f x)
    blame_code m f fit rule =
        let each = recursion_from_All (EntryFits b day) m fit in
        items_code (length b.codes) (blame_items b m f) (λ x. meets_all b day x m && holds f x) (blame_fit m f fit rule)
        (λ x len pass.
        let parts = and_parts (meets_all b day x m) (holds f x) pass in
        all-append _ (map (entry_item b) m) (rule_item None f ∷ []) (entries_met x m each parts.0) (parts.1, tt))
        (λ x len met.
        and_from (meets_all b day x m) (holds f x) (entries_from_met x m each (all_first _ (map (entry_item b) m) (rule_item None f ∷ []) met))
        (all_last _ (map (entry_item b) m) (rule_item None f ∷ []) met).0)

    room_by : (m : List Entry) (i : ℕ) (e : Encoder) → All (EntryFits b day) m → i ≤ length m → AreFew m → Making b m i e → e.next + 512 < 4294967296
    room_by m i e fit within few h =
        omega (
          arith,
          h.truth,
          h.encoded.variables,
          entries_small (take i m) (recursion_from_All (EntryFits b day) (take i m) (All-take (EntryFits b day) i m fit)),
          length-first i m,
          within,
          few,
          book.codes_limit,
        )

    pub entry_room : (m : List Entry) (i : ℕ) (d : Entry) (e : Encoder) → All (EntryFits b day) m → i < length m → AreFew m → Making b m i e
        → e.next + connectives (entry_item b (get_or m i d)).rule < 4294967296
    entry_room m i d e fit within few h =
        omega (arith, room_by m i e fit (omega arith) few h, (entry_small b book (get_or m i d) (entry_at m i d fit within).there).small)

    pub rule_room : (m : List Entry) (f : Rule) (i : ℕ) (e : Encoder) → All (EntryFits b day) m → RuleFits (length b.codes) f → AreFew m → i ≤ length m → Making b m i e
        → e.next + connectives f < 4294967296
    rule_room m f i e fit rule few within h = omega (arith, room_by m i e fit within few h, connectives_below f, rule.size)

module _ (b : Contents) where
  pub making_none : (m : List Entry) (n : ℕ) (e : Encoder) → n ≡ length b.codes → IsEncoded [] e → e.truth ≡ n → Making b m 0 e
  making_none m n e counted encoded truth = record { truth = truth ∙ counted; encoded = encoded }

  pub making_more : (m : List Entry) (i : ℕ) (d : Entry) (e e2 : Encoder) → i < length m → Making b m i e → EncodesItem e e2 (entry_item b (get_or m i d))
      → Making b m (i + 1) e2
  making_more m i d e e2 within h more =
      let next : map (entry_item b) (take i m) ++ entry_item b (get_or m i d) ∷ [] ≡ map (entry_item b) (take (i + 1) m) =
      sym (ap (map (entry_item b)) (take_more m i d within) ∙ map-append (entry_item b) (take i m) (get_or m i d ∷ [])) in
      record {
        truth = more.truth ∙ h.truth;
        encoded = subst (λ (is2 : List Item). IsEncoded is2 e2) next (encoded_item (map (entry_item b) (take i m)) (entry_item b (get_or m i d)) e e2 h.encoded more);
      }

  pub making_all : (m : List Entry) (f : Rule) (i : ℕ) (e e2 : Encoder) → length m ≤ i → Making b m i e → EncodesItem e e2 (rule_item None f) → IsEncoded (blame_items b m f) e2
  making_all m f i e e2 past h more =
      let all : take i m ≡ m = take_all i m past in
      encoded_item (map (entry_item b) m) (rule_item None f) e e2 (subst (λ (ds : List Entry). IsEncoded (map (entry_item b) ds) e) all h.encoded) more

-- what a search comes to
module _ (b : Contents) (day : ℕ) (m : List Entry) (f : Rule) (budget : ℕ) where
  pub looked_by : (o : Outcome) → IsOutcome (length b.codes) (blame_items b m f) (λ x. meets_all b day x m && holds f x) [] budget o → IsLooked b day f m budget o
  looked_by (outcome.Shown x) found =
      let parts = and_parts (meets_all b day x m) (holds f x) found.passes in
      record { counted = found.counted; meets = parts.0; holds_there = parts.1 }
  looked_by (outcome.NotShown at) none = λ x len met.
      false_from_ne_true (holds f x) (λ yes_.
      none x (record { counted = len; passes = and_from (meets_all b day x m) (holds f x) met yes_; lits_true = none_true x }))
  looked_by (outcome.Left learnt) left = left

-- a record at a place of a book
pub supplement_there : (b : Contents) (p : ℕ) (ss : List SupplementRecord) (s : SupplementRecord) → ss ≡ b.supplements → p < length b.supplements → s ≡ get_or ss p s
    → entry_item b (Supplement p) ≡ supplement_item s
supplement_there b p ss s same within is =
    ap (λ (o : Option SupplementRecord). option_map_or supplement_item o (free_item always))
    (slice_get_read b.supplements (length b.supplements) p s refl within (is ∙ ap (λ (rs : List SupplementRecord). get_or rs p s) same))

pub construct_there : (b : Contents) (p : ℕ) (cs : List ConstructRecord) (c : ConstructRecord) → cs ≡ b.constructs → p < length b.constructs → c ≡ get_or cs p c
    → entry_item b (Construct p) ≡ construct_item c
construct_there b p cs c same within is =
    ap (λ (o : Option ConstructRecord). option_map_or construct_item o (free_item always))
    (slice_get_read b.constructs (length b.constructs) p c refl within (is ∙ ap (λ (rs : List ConstructRecord). get_or rs p c) same))
