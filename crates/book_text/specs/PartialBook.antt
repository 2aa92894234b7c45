-- What a book holds as far as the second pass has come.
use Rattle.std.specs.Prelude.{ℕ}
use Rattle.book_model.specs.Groups.{AreGroups}
use Rattle.book_text.specs.Records.{Records}
use Rattle.book_text.specs.declared.partial_book.PartialBook.{PartialBook}

abbrev pub records_of : PartialBook → Records
records_of b = record {
  supplements = b.supplements.items;
  constructs = b.constructs.items;
  modules = b.modules.items;
  positions = b.positions.items;
  variants = b.variants.items;
}

-- its variants are grouped by so many positions
abbrev pub IsGrouped : ℕ → PartialBook → Type 0
IsGrouped positions b = AreGroups positions b.variants.items b.groups
