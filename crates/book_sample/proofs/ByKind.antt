-- What the generated book holds, kind by kind.
--     sample_names n gs       its names, with n codes
--     sample_records gs       its records
use Rattle.std.proofs.Common.{◌≡◌, ℕ, zero, suc, ◌+◌, List, [], ◌∷◌, ◌++◌, Option, None, Some, true, refl, sym, ap, ◌∙◌, append_assoc, arith}
use Rattle.std.specs.Prelude.{codes}
use Rattle.std.proofs.lemmas.List.{append-nil}
use Rattle.pb_base.specs.Rule.{Rule, code, negation}
use Rattle.book_model.specs.Contents.{Contents}
use Rattle.book_model.specs.declared.demand.Demand.TheVariants as demand
use Rattle.book_model.specs.declared.record.Supplement.{Supplement}
use Rattle.book_model.specs.declared.record.Construct.{Construct}
use Rattle.book_model.specs.declared.record.Position.{Position}
use Rattle.book_model.specs.declared.record.Variant.{Variant}
use Rattle.book_text.specs.Names.{no_names}
use Rattle.book_text.specs.Records.{Records, no_records, book_with}
use Rattle.book_text.specs.declared.names.Names.{Names}
use Rattle.book_sample.specs.Item.{Item}
use Rattle.book_sample.specs.Book.{names_after, names_of, records_after, records_of, contents_of}
use Rattle.book_sample.specs.Names.{name, names, code_name, place}
use Rattle.book_sample.specs.declared.group.Bound.{Bound}
use Rattle.book_sample.specs.declared.group.Choice.{Choice}
use Rattle.book_sample.specs.declared.group.Group.{Group}
use Rattle.book_sample.proofs.Items.{heading, none_of, some_of, none_of_three, usage, bound_then, group_items, code_items, sample_items}

-- ---- names

abbrev pub supplement_ids : ℕ → List Group → List (List ℕ)
supplement_ids j [] = []
supplement_ids j (g ∷ gs) = name 83 j ∷ supplement_ids (suc j) gs

abbrev pub bound_ids : ℕ → Option Bound → List (List ℕ)
bound_ids j None = []
bound_ids j (Some b) = name 90 j ∷ []

abbrev pub rule_ids : ℕ → List Group → List (List ℕ)
rule_ids j [] = []
rule_ids j (g ∷ gs) =
    name 71 j ∷ name 88 (place j 0) ∷ name 88 (place j 1) ∷ name 88 (place j 2) ∷ name 88 (place j 3) ∷ (bound_ids j g.bound ++ rule_ids (suc j) gs)

abbrev pub bound_count : Option Bound → ℕ
bound_count None = 0
bound_count (Some b) = 1

abbrev pub rule_count : List Group → ℕ
rule_count [] = 0
rule_count (g ∷ gs) = 5 + (bound_count g.bound + rule_count gs)

abbrev pub position_ids : ℕ → List Group → List (List ℕ)
position_ids j [] = []
position_ids j (g ∷ gs) = name 80 j ∷ position_ids (suc j) gs

abbrev pub variant_ids : ℕ → List Group → List (List ℕ)
variant_ids j [] = []
variant_ids j (g ∷ gs) = name 86 (place j 0) ∷ name 86 (place j 1) ∷ name 86 (place j 2) ∷ name 86 (place j 3) ∷ variant_ids (suc j) gs

abbrev pub sample_names : ℕ → List Group → Names
sample_names n gs = record {
  codes = names 75 n 0;
  supplements = supplement_ids 0 gs;
  constructs = record { ids = rule_ids 0 gs; rules = rule_count gs; groups = 0 };
  modules = codes "M" ∷ [];
  positions = position_ids 0 gs;
  variants = variant_ids 0 gs;
}

-- names that have the same lists
module _ (n : Names) where
  abbrev with_lists : List (List ℕ) → List (List ℕ) → ℕ → List (List ℕ) → List (List ℕ) → Names
  with_lists supplements ids rules positions variants =
      record n { supplements = supplements; constructs = record { ids = ids; rules = rules; groups = n.constructs.groups }; positions = positions; variants = variants }

  same_lists : {s s' i i' p p' v v' : List (List ℕ)} {r r' : ℕ} → s ≡ s' → i ≡ i' → r ≡ r' → p ≡ p' → v ≡ v' → with_lists s i r p v ≡ with_lists s' i' r' p' v'
  same_lists a b c d e = cc

bound_names : (n : Names) (j : ℕ) (o : Option Bound) (items : List Item) → names_after n (bound_then j o items)
    ≡ names_after (with_lists n n.supplements (n.constructs.ids ++ bound_ids j o) (n.constructs.rules + bound_count o) n.positions n.variants) items
bound_names n j None items =
    ap (λ m. names_after m items) (same_lists n refl (sym (append-nil n.constructs.ids)) (let none : n.constructs.rules ≡ n.constructs.rules + 0 = omega arith in none) refl refl)
bound_names n j (Some b) items = refl

one_behind : {A : Type 0} (xs rest : List A) (a : A) → (xs ++ a ∷ []) ++ rest ≡ xs ++ a ∷ rest
one_behind xs rest a = append_assoc xs (a ∷ []) rest

four_behind : {A : Type 0} (xs rest : List A) (a b c d : A) → ((((xs ++ a ∷ []) ++ b ∷ []) ++ c ∷ []) ++ d ∷ []) ++ rest ≡ xs ++ a ∷ b ∷ c ∷ d ∷ rest
four_behind xs rest a b c d = simp append_assoc

five_behind : {A : Type 0} (xs ys rest : List A) (a b c d e : A)
    → ((((((xs ++ a ∷ []) ++ b ∷ []) ++ c ∷ []) ++ d ∷ []) ++ e ∷ []) ++ ys) ++ rest ≡ xs ++ a ∷ b ∷ c ∷ d ∷ e ∷ (ys ++ rest)
five_behind xs ys rest a b c d e = simp append_assoc

counted : (n b rest : ℕ) → (((((n + 1) + 1) + 1) + 1) + 1 + b) + rest ≡ n + (5 + (b + rest))
counted n b rest = omega arith

group_names : (j : ℕ) (gs : List Group) (n : Names) → names_after n (group_items j gs)
    ≡ with_lists n (n.supplements ++ supplement_ids j gs) (n.constructs.ids ++ rule_ids j gs) (n.constructs.rules + rule_count gs)
    (n.positions ++ position_ids j gs) (n.variants ++ variant_ids j gs)
group_names j [] n =
    same_lists n (sym (append-nil n.supplements)) (sym (append-nil n.constructs.ids)) (let none : n.constructs.rules ≡ n.constructs.rules + 0 = omega arith in none)
    (sym (append-nil n.positions)) (sym (append-nil n.variants))
group_names j (g ∷ gs) n =
    bound_names _ j g.bound _ ∙ group_names (suc j) gs _
    ∙ same_lists n
    (one_behind n.supplements (supplement_ids (suc j) gs) (name 83 j))
    (five_behind n.constructs.ids (bound_ids j g.bound) (rule_ids (suc j) gs) (name 71 j) (name 88 (place j 0)) (name 88 (place j 1)) (name 88 (place j 2)) (name 88 (place j 3)))
    (counted n.constructs.rules (bound_count g.bound) (rule_count gs))
    (one_behind n.positions (position_ids (suc j) gs) (name 80 j))
    (four_behind n.variants (variant_ids (suc j) gs) (name 86 (place j 0)) (name 86 (place j 1)) (name 86 (place j 2)) (name 86 (place j 3)))

code_names : (n : Names) (count i : ℕ) (items : List Item) → names_after n (code_items count i items) ≡ names_after (record n { codes = n.codes ++ names 75 count i }) items
code_names n zero i items = ap (λ codes. names_after (record n { codes = codes }) items) (sym (append-nil n.codes))
code_names n (suc count) i items =
    code_names (record n { codes = n.codes ++ code_name i ∷ [] }) count (suc i) items
    ∙ ap (λ codes. names_after (record n { codes = codes }) items) (one_behind n.codes (names 75 count (suc i)) (code_name i))

pub names_are : (n : ℕ) (gs : List Group) → names_of (sample_items n gs) ≡ sample_names n gs
names_are n gs =
    code_names no_names n 0 _ ∙ group_names 0 gs (record no_names { codes = names 75 n 0; modules = codes "M" ∷ [] })
    ∙ same_lists (record no_names { codes = names 75 n 0; modules = codes "M" ∷ [] }) refl refl (let none : 0 + rule_count gs ≡ rule_count gs = omega arith in none) refl refl

-- ---- records

abbrev pub supplements : ℕ → List Group → List Supplement
supplements j [] = []
supplements j (g ∷ gs) =
    record { id = name 83 j; rank = g.rank; code = place j g.adds; rule = none_of j; from = 1; until = 1000 } ∷ supplements (suc j) gs

abbrev pub construct : List ℕ → Option ℕ → Rule → Construct
construct id on rule = record { id = id; demand = demand.Rule on rule; from = 1; until = 1000 }

abbrev pub some_rule : ℕ → Construct
some_rule j = construct (name 71 j) None (some_of j)

abbrev pub alone_rule : ℕ → ℕ → ℕ → ℕ → ℕ → Construct
alone_rule j e f g h = construct (name 88 (place j e)) (Some (place j e)) (none_of_three j f g h)

abbrev pub bound_rules : ℕ → Option Bound → List Construct
bound_rules j None = []
bound_rules j (Some b) = construct (name 90 j) (Some (place j b.code)) (negation (code (place b.group b.forbids))) ∷ []

abbrev pub constructs : ℕ → List Group → List Construct
constructs j [] = []
constructs j (g ∷ gs) =
    some_rule j ∷ alone_rule j 0 1 2 3 ∷ alone_rule j 1 0 2 3 ∷ alone_rule j 2 0 1 3 ∷ alone_rule j 3 0 1 2
    ∷ (bound_rules j g.bound ++ constructs (suc j) gs)

abbrev pub position_of : ℕ → Position
position_of j = record { id = name 80 j; «module» = Some 0; mandatory = true; from = 1; until = 1000 }

abbrev pub positions : ℕ → List Group → List Position
positions j [] = []
positions j (g ∷ gs) = position_of j ∷ positions (suc j) gs

abbrev pub variant_of : ℕ → ℕ → Choice → Variant
variant_of j e c = record {
  id = name 86 (place j e);
  position = j;
  part = name 65 (place j e);
  quantity = c.quantity;
  rule = usage (place j e) c.other;
  from = 1;
  until = 1000;
}

abbrev pub variants : ℕ → List Group → List Variant
variants j [] = []
variants j (g ∷ gs) = variant_of j 0 g.first ∷ variant_of j 1 g.second ∷ variant_of j 2 g.third ∷ variant_of j 3 g.fourth ∷ variants (suc j) gs

abbrev pub sample_records : List Group → Records
sample_records gs = record {
  supplements = supplements 0 gs;
  constructs = constructs 0 gs;
  modules = record { id = codes "M" } ∷ [];
  positions = positions 0 gs;
  variants = variants 0 gs;
}

module _ (r : Records) where
  abbrev with_kinds : List Supplement → List Construct → List Position → List Variant → Records
  with_kinds supplements constructs positions variants = record { supplements = supplements; constructs = constructs; modules = r.modules; positions = positions; variants = variants }

  same_kinds : {s s' : List Supplement} {c c' : List Construct} {p p' : List Position} {v v' : List Variant} → s ≡ s' → c ≡ c' → p ≡ p' → v ≡ v'
      → with_kinds s c p v ≡ with_kinds s' c' p' v'
  same_kinds a b c d = cc

bound_records : (r : Records) (j : ℕ) (o : Option Bound) (items : List Item) → records_after heading.term r (bound_then j o items)
    ≡ records_after heading.term (with_kinds r r.supplements (r.constructs ++ bound_rules j o) r.positions r.variants) items
bound_records r j None items = ap (λ s. records_after heading.term s items) (same_kinds r refl (sym (append-nil r.constructs)) refl refl)
bound_records r j (Some b) items = refl

group_records : (j : ℕ) (gs : List Group) (r : Records) → records_after heading.term r (group_items j gs)
    ≡ with_kinds r (r.supplements ++ supplements j gs) (r.constructs ++ constructs j gs) (r.positions ++ positions j gs) (r.variants ++ variants j gs)
group_records j [] r =
    same_kinds r (sym (append-nil r.supplements)) (sym (append-nil r.constructs)) (sym (append-nil r.positions)) (sym (append-nil r.variants))
group_records j (g ∷ gs) r =
    bound_records _ j g.bound _ ∙ group_records (suc j) gs _
    ∙ same_kinds r
    (one_behind r.supplements (supplements (suc j) gs) (record { id = name 83 j; rank = g.rank; code = place j g.adds; rule = none_of j; from = 1; until = 1000 }))
    (five_behind r.constructs (bound_rules j g.bound) (constructs (suc j) gs) (some_rule j) (alone_rule j 0 1 2 3) (alone_rule j 1 0 2 3) (alone_rule j 2 0 1 3) (alone_rule j 3 0 1 2))
    (one_behind r.positions (positions (suc j) gs) (position_of j))
    (four_behind r.variants (variants (suc j) gs) (variant_of j 0 g.first) (variant_of j 1 g.second) (variant_of j 2 g.third) (variant_of j 3 g.fourth))

code_records : (r : Records) (count i : ℕ) (items : List Item) → records_after heading.term r (code_items count i items) ≡ records_after heading.term r items
code_records r zero i items = refl
code_records r (suc count) i items = code_records r count (suc i) items

pub records_are : (n : ℕ) (gs : List Group) → records_of heading (sample_items n gs) ≡ sample_records gs
records_are n gs = code_records no_records n 0 _ ∙ group_records 0 gs (record no_records { modules = record { id = codes "M" } ∷ [] })

abbrev pub sample_contents : ℕ → List Group → Contents
sample_contents n gs = book_with heading (sample_names n gs) (sample_records gs)

pub contents_are : (n : ℕ) (gs : List Group) → contents_of heading (sample_items n gs) ≡ sample_contents n gs
contents_are n gs = ap (λ names. book_with heading names (records_of heading (sample_items n gs))) (names_are n gs) ∙ ap (book_with heading (sample_names n gs)) (records_are n gs)
