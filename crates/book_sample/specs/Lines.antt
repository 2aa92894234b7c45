-- The lines of the generated book.
--     group_text j g              those of a group
--     sample_text start codes     all of them
use Rattle.std.specs.Prelude.{ℕ, zero, suc, ◌/◌, List, [], ◌∷◌, ◌++◌, Option, None, Some, codes}
use Rattle.std.specs.List.{concat}
use Rattle.std.specs.Fmt.{decimal}
use Rattle.book_sample.specs.Names.{name, code_name, place}
use Rattle.book_sample.specs.Groups.{groups}
use Rattle.book_sample.specs.declared.group.Bound.{Bound}
use Rattle.book_sample.specs.declared.group.Choice.{Choice}
use Rattle.book_sample.specs.declared.group.Group.{Group}

abbrev pub heading_line : List ℕ
heading_line = codes "book,SAMPLE,1,1000\n"

abbrev pub code_line : ℕ → List ℕ
code_line i = concat (codes "code," ∷ code_name i ∷ codes ",\n" ∷ [])

abbrev pub module_line : List ℕ
module_line = codes "module,M,\n"

-- a code of the group is added where there is none of them
abbrev pub supplement_line : ℕ → Group → List ℕ
supplement_line j g =
    concat (codes "supplement," ∷ name 83 j ∷ codes "," ∷ decimal g.rank ∷ codes "," ∷ code_name (place j g.adds)
    ∷ codes ",-" ∷ code_name (place j 0) ∷ codes "+-" ∷ code_name (place j 1)
    ∷ codes "+-" ∷ code_name (place j 2) ∷ codes "+-" ∷ code_name (place j 3) ∷ codes ",,\n" ∷ [])

-- one of the four codes is there
abbrev pub some_line : ℕ → List ℕ
some_line j =
    concat (codes "construct," ∷ name 71 j ∷ codes ",*," ∷ code_name (place j 0) ∷ codes "/" ∷ code_name (place j 1)
    ∷ codes "/" ∷ code_name (place j 2) ∷ codes "/" ∷ code_name (place j 3) ∷ codes ",,\n" ∷ [])

-- with the code e none of these three others is there
abbrev pub alone_line : ℕ → ℕ → ℕ → ℕ → ℕ → List ℕ
alone_line j e f g h =
    concat (codes "construct," ∷ name 88 (place j e) ∷ codes "," ∷ code_name (place j e) ∷ codes ",-(" ∷ code_name (place j f)
    ∷ codes "/" ∷ code_name (place j g) ∷ codes "/" ∷ code_name (place j h) ∷ codes "),,\n" ∷ [])

-- with a code of the group a code of an earlier one is not there
abbrev pub bound_line : ℕ → Bound → List ℕ
bound_line j b =
    concat (codes "construct," ∷ name 90 j ∷ codes "," ∷ code_name (place j b.code) ∷ codes ",-" ∷ code_name (place b.group b.forbids)
    ∷ codes ",,\n" ∷ [])

abbrev pub bound_text : ℕ → Option Bound → List ℕ
bound_text j None = []
bound_text j (Some b) = bound_line j b

abbrev pub position_line : ℕ → List ℕ
position_line j = concat (codes "position," ∷ name 80 j ∷ codes ",M,mandatory,,\n" ∷ [])

-- a variant is used with its code, whether the other code is there or not
abbrev pub usage_text : ℕ → Option ℕ → List ℕ
usage_text own None = code_name own
usage_text own (Some other) =
    concat (code_name own ∷ codes "+" ∷ code_name other ∷ codes "/" ∷ code_name own ∷ codes "+-" ∷ code_name other ∷ [])

abbrev pub variant_line : ℕ → ℕ → Choice → List ℕ
variant_line j e c =
    concat (codes "variant," ∷ name 86 (place j e) ∷ codes "," ∷ name 80 j ∷ codes "," ∷ name 65 (place j e) ∷ codes "," ∷ decimal c.quantity
    ∷ codes "," ∷ usage_text (place j e) c.other ∷ codes ",,\n" ∷ [])

abbrev pub group_text : ℕ → Group → List ℕ
group_text j g =
    concat (supplement_line j g ∷ some_line j ∷ alone_line j 0 1 2 3 ∷ alone_line j 1 0 2 3 ∷ alone_line j 2 0 1 3 ∷ alone_line j 3 0 1 2
    ∷ bound_text j g.bound ∷ position_line j
    ∷ variant_line j 0 g.first ∷ variant_line j 1 g.second ∷ variant_line j 2 g.third ∷ variant_line j 3 g.fourth ∷ [])

-- the lines of n codes, of which the first has the number i, and of groups, of which the first has the number j
unfoldable pub codes_text : ℕ → ℕ → List ℕ
codes_text zero i = []
codes_text (suc n) i = code_line i ++ codes_text n (suc i)

unfoldable pub groups_text : ℕ → List Group → List ℕ
groups_text j [] = []
groups_text j (g ∷ gs) = group_text j g ++ groups_text (suc j) gs

abbrev pub sample_text : ℕ → ℕ → List ℕ
sample_text start codes = heading_line ++ (codes_text codes 0 ++ (module_line ++ groups_text 0 (groups (codes / 4) 0 start)))
