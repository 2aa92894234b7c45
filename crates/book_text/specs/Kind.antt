-- The kinds of record.
use Rattle.std.specs.Prelude.{ℕ, List, Option, Some, None, if◌then◌else◌, codes}
use Rattle.pb_base.specs.Names.{same_name}
use Rattle.book_text.specs.declared.kind.Kind.{Kind}
use Rattle.book_text.specs.declared.kind.Kind.TheVariants.{Book, Code, Supplement, Construct, Group, Module, Position, Variant}

-- the kind that the word in a row's first field names
abbrev pub kind_of : List ℕ → Option Kind
kind_of word =
    if same_name word (codes "variant") then Some Variant
    else if same_name word (codes "construct") then Some Construct
    else if same_name word (codes "supplement") then Some Supplement
    else if same_name word (codes "position") then Some Position
    else if same_name word (codes "code") then Some Code
    else if same_name word (codes "module") then Some Module
    else if same_name word (codes "group") then Some Group
    else if same_name word (codes "book") then Some Book
    else None
