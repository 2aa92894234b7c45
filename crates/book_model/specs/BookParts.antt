-- What the parts of a book say.
use Rattle.std.specs.Prelude.{length}
use Rattle.book_model.specs.Contents.{Contents}
use Rattle.book_model.specs.Book.{IsBook}
use Rattle.book_model.specs.Groups.{AreGroups}
use Rattle.book_model.specs.declared.book.BookParts.{BookParts}

abbrev pub contents_of : BookParts → Contents
contents_of p = record {
  name = p.name;
  first = p.first;
  last = p.last;
  codes = p.codes;
  supplements = p.supplements.items;
  constructs = p.constructs.items;
  modules = p.modules.items;
  positions = p.positions.items;
  variants = p.variants.items;
}

-- the parts make a book, and its variants are grouped by position
pub record AreWhole (p : BookParts) : Type 0 where
  pub book : IsBook (contents_of p)
  pub groups : AreGroups (length p.positions.items) p.variants.items p.groups
