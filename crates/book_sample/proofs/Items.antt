-- The records of the generated book, in the order of its lines.
--     group_items j gs        those of groups, of which the first has the number j
--     sample_items n gs       all of them, with n codes
use Rattle.std.specs.Prelude.{ℕ, zero, suc, List, [], ◌∷◌, Option, None, Some, true, codes}
use Rattle.pb_base.specs.Rule.{Rule, code, negation, both, either}
use Rattle.book_text.specs.declared.entry.Heading.{Heading}
use Rattle.book_text.specs.declared.fields.Form.TheVariants as form
use Rattle.book_sample.specs.Item.{Item, a_code, a_supplement, a_construct, a_module, a_position, a_variant}
use Rattle.book_sample.specs.Names.{name, code_name, place}
use Rattle.book_sample.specs.declared.group.Bound.{Bound}
use Rattle.book_sample.specs.declared.group.Choice.{Choice}
use Rattle.book_sample.specs.declared.group.Group.{Group}

abbrev pub heading : Heading
heading = record { name = codes "SAMPLE"; term = record { from = 1; until = 1000 }; form = form.One }

-- none of the four codes of a group is there, or one of them is
abbrev pub none_of : ℕ → Rule
none_of j =
    both (both (both (negation (code (place j 0))) (negation (code (place j 1)))) (negation (code (place j 2)))) (negation (code (place j 3)))

abbrev pub some_of : ℕ → Rule
some_of j = either (either (either (code (place j 0)) (code (place j 1))) (code (place j 2))) (code (place j 3))

abbrev pub none_of_three : ℕ → ℕ → ℕ → ℕ → Rule
none_of_three j f g h = negation (either (either (code (place j f)) (code (place j g))) (code (place j h)))

abbrev pub usage : ℕ → Option ℕ → Rule
usage own None = code own
usage own (Some other) = either (both (code own) (code other)) (both (code own) (negation (code other)))

abbrev pub supplement_item : ℕ → Group → Item
supplement_item j g = a_supplement (name 83 j) g.rank (place j g.adds) (none_of j)

abbrev pub some_item : ℕ → Item
some_item j = a_construct (name 71 j) None (some_of j)

abbrev pub alone_item : ℕ → ℕ → ℕ → ℕ → ℕ → Item
alone_item j e f g h = a_construct (name 88 (place j e)) (Some (place j e)) (none_of_three j f g h)

abbrev pub bound_item : ℕ → Bound → Item
bound_item j b = a_construct (name 90 j) (Some (place j b.code)) (negation (code (place b.group b.forbids)))

abbrev pub position_item : ℕ → Item
position_item j = a_position (name 80 j) (Some 0) true

abbrev pub variant_item : ℕ → ℕ → Choice → Item
variant_item j e c = a_variant (name 86 (place j e)) j (name 65 (place j e)) c.quantity (usage (place j e) c.other)

abbrev pub bound_then : ℕ → Option Bound → List Item → List Item
bound_then j None items = items
bound_then j (Some b) items = bound_item j b ∷ items

abbrev pub variants_then : ℕ → Group → List Item → List Item
variants_then j g items =
    position_item j ∷ variant_item j 0 g.first ∷ variant_item j 1 g.second ∷ variant_item j 2 g.third ∷ variant_item j 3 g.fourth ∷ items

abbrev pub group_then : ℕ → Group → List Item → List Item
group_then j g items =
    supplement_item j g ∷ some_item j ∷ alone_item j 0 1 2 3 ∷ alone_item j 1 0 2 3 ∷ alone_item j 2 0 1 3 ∷ alone_item j 3 0 1 2
    ∷ bound_then j g.bound (variants_then j g items)

abbrev pub group_items : ℕ → List Group → List Item
group_items j [] = []
group_items j (g ∷ gs) = group_then j g (group_items (suc j) gs)

-- n codes, of which the first has the number i, before other records
abbrev pub code_items : ℕ → ℕ → List Item → List Item
code_items zero i items = items
code_items (suc n) i items = a_code (code_name i) ∷ code_items n (suc i) items

abbrev pub sample_items : ℕ → List Group → List Item
sample_items n gs = code_items n 0 (a_module (codes "M") ∷ group_items 0 gs)
