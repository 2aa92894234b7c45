-- The records of the generated book fit, so that its text reads back.
use Rattle.std.proofs.Common.{◌≡◌, ◌==◌, ℕ, zero, suc, ◌+◌, ◌*◌, ◌<◌, ◌≤◌, true, false, List, [], ◌∷◌, Option, None, Some, Ok, length, refl, sym, ap, subst, ◌∙◌, inl, inr, arith}
use Rattle.std.specs.Prelude.{codes, nat_lt, IfSome}
use Rattle.std.specs.List.{AllByRecursion, IsDistinct}
use Rattle.std.proofs.lemmas.Bool.{cases_eq, eq-eqb, ne_eqb, lt-ltb}
use Rattle.pb_base.specs.Names.{same_name}
use Rattle.pb_base.specs.Rule.{nodes}
use Rattle.book_model.specs.Parts.{variants_from}
use Rattle.book_text.specs.BookText.{book_of}
use Rattle.book_text.specs.declared.names.Names.{Names}
use Rattle.book_sample.specs.Item.{Item, a_module}
use Rattle.book_sample.specs.Book.{names_of, text_of}
use Rattle.book_sample.specs.Written.{AreNames, HeadingFits, ItemFits, IsWritten, RuleFits}
use Rattle.book_sample.proofs.BookBack.{book_back}
use Rattle.book_sample.proofs.Length.{line_most, lines_most, text_length}
use Rattle.book_sample.specs.Names.{name, names, place}
use Rattle.book_sample.specs.Fits.{BoundFits, ChoiceFits, GroupsFit}
use Rattle.book_sample.specs.declared.group.Bound.{Bound}
use Rattle.book_sample.specs.declared.group.Choice.{Choice}
use Rattle.book_sample.specs.declared.group.Group.{Group}
use Rattle.book_sample.proofs.Items.{heading, none_of, some_of, none_of_three, usage, alone_item, variant_item, bound_then, variants_then, group_items, code_items, sample_items}
use Rattle.book_sample.proofs.ByKind.{position_ids, supplement_ids, variant_ids, bound_count, rule_count, variants, sample_names, names_are, records_are, sample_contents, contents_are}
use Rattle.book_sample.proofs.Apart.{name_is, part_is, code_name_is, names_distinct, all_rules_distinct, positions_distinct, variants_distinct}

pub length-names : (letter n i : ℕ) → length (names letter n i) ≡ n
length-names letter zero i = refl
length-names letter (suc n) i = omega (arith, length-names letter n (suc i))

length-supplements : (j : ℕ) (gs : List Group) → length (supplement_ids j gs) ≡ length gs
length-supplements j [] = refl
length-supplements j (g ∷ gs) = omega (arith, length-supplements (suc j) gs)

length-positions : (j : ℕ) (gs : List Group) → length (position_ids j gs) ≡ length gs
length-positions j [] = refl
length-positions j (g ∷ gs) = omega (arith, length-positions (suc j) gs)

length-variants : (j : ℕ) (gs : List Group) → length (variant_ids j gs) ≡ 4 * length gs
length-variants j [] = refl
length-variants j (g ∷ gs) = omega (arith, length-variants (suc j) gs)

bound_count_few : (o : Option Bound) → bound_count o ≤ 1
bound_count_few None = omega arith
bound_count_few (Some b) = omega arith

rule_count_few : (gs : List Group) → rule_count gs ≤ 6 * length gs
rule_count_few [] = omega arith
rule_count_few (g ∷ gs) = omega (arith, rule_count_few gs, bound_count_few g.bound)

-- n codes are four for each group, and there are at most 500 groups
pub record Counts (n : ℕ) (gs : List Group) : Type 0 where
  pub codes : n ≡ 4 * length gs
  pub few : length gs ≤ 500

one_distinct : (name : List ℕ) → IsDistinct same_name (name ∷ [])
unfolding IsDistinct
one_distinct name = (tt, tt)

names_fit : (n : ℕ) (gs : List Group) → Counts n gs → AreNames (sample_names n gs)
names_fit n gs c = record {
  codes = record { within = omega (arith, length-names 75 n 0, c.codes, c.few); distinct = names_distinct 75 n 0 (omega (arith, c.codes, c.few)) };
  supplements = omega (arith, length-supplements 0 gs, c.few);
  constructs = omega (arith, rule_count_few gs, c.few);
  rules = all_rules_distinct gs (omega (arith, c.few));
  modules = record { within = omega arith; distinct = one_distinct (codes "M") };
  positions = record { within = omega (arith, length-positions 0 gs, c.few); distinct = positions_distinct 0 gs (omega (arith, c.few)) };
  variants = record { within = omega (arith, length-variants 0 gs, c.few); distinct = variants_distinct 0 gs (omega (arith, c.few)) };
}

-- ---- each record, beside names of four codes for each of m groups

heading_fits : HeadingFits heading
heading_fits = record { name = refl; form = refl; first = omega arith; order = omega arith; last = omega arith }

module _ (n : Names) (m : ℕ) (codes_are : length n.codes ≡ 4 * m) (modules_are : length n.modules ≡ 1) (positions_are : length n.positions ≡ m) where
  code_in : (j e : ℕ) → j < m → e < 4 → place j e < length n.codes
  code_in j e inside few = omega (arith, codes_are)

  code_test : (j e : ℕ) → j < m → e < 4 → nat_lt (place j e) (length n.codes) ≡ true
  code_test j e inside few = lt-ltb (place j e) (length n.codes) (code_in j e inside few)

  none_fits : (j : ℕ) → j < m → RuleFits (length n.codes) (none_of j)
  none_fits j inside = record {
    in_range = rw (code_test j 0 inside (omega arith), code_test j 1 inside (omega arith), code_test j 2 inside (omega arith), code_test j 3 inside (omega arith)) refl;
    depth = omega arith;
    size = omega arith;
  }

  some_fits : (j : ℕ) → j < m → RuleFits (length n.codes) (some_of j)
  some_fits j inside = record {
    in_range = rw (code_test j 0 inside (omega arith), code_test j 1 inside (omega arith), code_test j 2 inside (omega arith), code_test j 3 inside (omega arith)) refl;
    depth = omega arith;
    size = omega arith;
  }

  three_fits : (j f g h : ℕ) → j < m → f < 4 → g < 4 → h < 4 → RuleFits (length n.codes) (none_of_three j f g h)
  three_fits j f g h inside in_f in_g in_h = record {
    in_range = rw (code_test j f inside in_f, code_test j g inside in_g, code_test j h inside in_h) refl;
    depth = omega arith;
    size = omega arith;
  }

  usage_fits : (j e : ℕ) (other : Option ℕ) → j < m → e < 4 → IfSome other (λ place. place < 4 * j) → RuleFits (length n.codes) (usage (place j e) other)
  usage_fits j e None inside few h = record { in_range = code_test j e inside few; depth = omega arith; size = omega arith }
  usage_fits j e (Some other) inside few h =
      let own = code_test j e inside few in
      let theirs : nat_lt other (length n.codes) ≡ true = lt-ltb other (length n.codes) (omega (arith, codes_are)) in
      record { in_range = rw (own, theirs) refl; depth = omega arith; size = omega arith }

  bound_fits : (j : ℕ) (o : Option Bound) (items : List Item) → j < m → IfSome o (BoundFits j) → AllByRecursion (ItemFits n) items → AllByRecursion (ItemFits n) (bound_then j o items)
  bound_fits j None items inside h rest = rest
  bound_fits j (Some b) items inside h rest = (
    (
      name_is 90 j refl,
      code_in j b.code inside h.code,
      record {
        in_range = code_test b.group b.forbids (omega (arith, h.group)) h.forbids;
        depth = omega arith;
        size = omega arith;
      },
    ),
    rest,
  )

  variant_fits : (j e : ℕ) (c : Choice) → j < m → e < 4 → ChoiceFits j c → ItemFits n (variant_item j e c)
  variant_fits j e c inside few h =
      (name_is 86 (place j e) refl, omega (arith, positions_are), part_is 65 (place j e) refl, h.some, omega (arith, h.few), usage_fits j e c.other inside few h.other)

  alone_fits : (j e f g h : ℕ) → j < m → e < 4 → f < 4 → g < 4 → h < 4 → ItemFits n (alone_item j e f g h)
  alone_fits j e f g h inside in_e in_f in_g in_h = (name_is 88 (place j e) refl, code_in j e inside in_e, three_fits j f g h inside in_f in_g in_h)

  group_items_fit : (j : ℕ) (gs : List Group) → GroupsFit j gs → j + length gs ≤ m → AllByRecursion (ItemFits n) (group_items j gs)
  group_items_fit j [] fit room = tt
  group_items_fit j (g ∷ gs) (fit, rest) room =
      let inside : j < m = omega arith in (
        (name_is 83 j refl, omega (arith, fit.rank), code_in j g.adds inside fit.adds, none_fits j inside),
        (
          (name_is 71 j refl, tt, some_fits j inside),
          (
            alone_fits j 0 1 2 3 inside (omega arith) (omega arith) (omega arith) (omega arith),
            (
              alone_fits j 1 0 2 3 inside (omega arith) (omega arith) (omega arith) (omega arith),
              (
                alone_fits j 2 0 1 3 inside (omega arith) (omega arith) (omega arith) (omega arith),
                (
                  alone_fits j 3 0 1 2 inside (omega arith) (omega arith) (omega arith) (omega arith),
                  bound_fits j g.bound (variants_then j g (group_items (suc j) gs)) inside fit.bound (
                    (name_is 80 j refl, omega (arith, modules_are)),
                    (
                      variant_fits j 0 g.first inside (omega arith) fit.first,
                      (
                        variant_fits j 1 g.second inside (omega arith) fit.second,
                        (
                          variant_fits j 2 g.third inside (omega arith) fit.third,
                          (variant_fits j 3 g.fourth inside (omega arith) fit.fourth, group_items_fit (suc j) gs rest (omega arith)),
                        ),
                      ),
                    ),
                  ),
                ),
              ),
            ),
          ),
        ),
      )

  code_items_fit : (count i : ℕ) (items : List Item) → AllByRecursion (ItemFits n) items → AllByRecursion (ItemFits n) (code_items count i items)
  code_items_fit zero i items rest = rest
  code_items_fit (suc count) i items rest = (code_name_is i, code_items_fit count (suc i) items rest)

items_fit : (n : ℕ) (gs : List Group) → Counts n gs → GroupsFit 0 gs → AllByRecursion (ItemFits (names_of (sample_items n gs))) (sample_items n gs)
items_fit n gs c fit =
    let names_here = sample_names n gs in
    subst (λ (names_of_all : Names). AllByRecursion (ItemFits names_of_all) (sample_items n gs)) (sym (names_are n gs))
    (code_items_fit names_here (length gs) (length-names 75 n 0 ∙ c.codes) refl (length-positions 0 gs) n 0 _
    (refl, group_items_fit names_here (length gs) (length-names 75 n 0 ∙ c.codes) refl (length-positions 0 gs) 0 gs fit (omega arith)))

-- ---- a position has four variants

none_before : (i p j : ℕ) (gs : List Group) → p < j → variants_from i p (variants j gs) ≡ []
none_before i p j [] below = refl
none_before i p j (g ∷ gs) below =
    let other : (j == p) ≡ false = ne_eqb j p (λ same. omega arith) in
    rw other (none_before (suc (suc (suc (suc i)))) p (suc j) gs (omega arith))

pub few_variants : (i p j : ℕ) (gs : List Group) → length (variants_from i p (variants j gs)) ≤ 4
few_variants i p j [] = omega arith
few_variants i p j (g ∷ gs) = elim (cases_eq j p) [
  | inl same ↦ rw (eq-eqb j p same) (omega (arith, ap length (none_before (suc (suc (suc (suc i)))) p (suc j) gs (omega arith))))
  | inr differ ↦ rw (ne_eqb j p differ) (few_variants (suc (suc (suc (suc i)))) p (suc j) gs)
]

-- ---- the text is short

lines_of_codes : (count i : ℕ) (items : List Item) → lines_most (code_items count i items) ≡ 16 * count + lines_most items
lines_of_codes zero i items = omega arith
lines_of_codes (suc count) i items = omega (arith, lines_of_codes count (suc i) items)

usage_nodes : (own : ℕ) (other : Option ℕ) → nodes (usage own other) ≤ 8
usage_nodes own None = omega arith
usage_nodes own (Some other) = omega arith

line_of_usage : (j e : ℕ) (c : Choice) → line_most (variant_item j e c) ≤ 140
line_of_usage j e c = omega (arith, usage_nodes (place j e) c.other)

lines_of_bound : (j : ℕ) (o : Option Bound) (items : List Item) → lines_most (bound_then j o items) ≤ 55 + lines_most items
lines_of_bound j None items = omega arith
lines_of_bound j (Some b) items = omega arith

lines_of_groups : (j : ℕ) (gs : List Group) → lines_most (group_items j gs) ≤ 1400 * length gs
lines_of_groups j [] = omega arith
lines_of_groups j (g ∷ gs) =
    omega (
      arith,
      lines_of_bound j g.bound (variants_then j g (group_items (suc j) gs)),
      line_of_usage j 0 g.first,
      line_of_usage j 1 g.second,
      line_of_usage j 2 g.third,
      line_of_usage j 3 g.fourth,
      lines_of_groups (suc j) gs,
    )

-- ---- so the text reads as the book

is_written : (n : ℕ) (gs : List Group) → Counts n gs → GroupsFit 0 gs → IsWritten heading (sample_items n gs)
is_written n gs c fit = record {
  heading = heading_fits;
  names = subst AreNames (sym (names_are n gs)) (names_fit n gs c);
  each = items_fit n gs c fit;
  choices = λ place. rw (records_are n gs) (omega (arith, few_variants 0 place 0 gs));
  size = omega (
    arith,
    text_length heading (sample_items n gs) heading_fits (items_fit n gs c fit),
    lines_of_codes n 0 (a_module (codes "M") ∷ group_items 0 gs),
    lines_of_groups 0 gs,
    c.codes,
    c.few,
  );
}

pub sample_back : (n : ℕ) (gs : List Group) → Counts n gs → GroupsFit 0 gs → book_of (text_of heading (sample_items n gs)) ≡ Ok (sample_contents n gs)
sample_back n gs c fit = book_back heading (sample_items n gs) (is_written n gs c fit) ∙ ap (λ b. Ok b) (contents_are n gs)
