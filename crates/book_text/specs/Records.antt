-- The records of a book as far as the second pass has come, and the book that they make.
use Rattle.std.specs.Prelude.{List, []}
use Rattle.book_model.specs.Contents.{Contents}
use Rattle.book_model.specs.declared.record.Supplement.{Supplement}
use Rattle.book_model.specs.declared.record.Construct.{Construct}
use Rattle.book_model.specs.declared.record.Module.{Module}
use Rattle.book_model.specs.declared.record.Position.{Position}
use Rattle.book_model.specs.declared.record.Variant.{Variant}
use Rattle.book_text.specs.declared.entry.Heading.{Heading}
use Rattle.book_text.specs.declared.names.Names.{Names}

pub record Records : Type 0 where
  pub supplements : List Supplement
  pub constructs : List Construct
  pub modules : List Module
  pub positions : List Position
  pub variants : List Variant

abbrev pub no_records : Records
no_records = record { supplements = []; constructs = []; modules = []; positions = []; variants = [] }

-- the book of this heading, these names and these records
abbrev pub book_with : Heading → Names → Records → Contents
book_with heading names r = record {
  name = heading.name;
  first = heading.term.from;
  last = heading.term.until;
  codes = names.codes;
  supplements = r.supplements;
  constructs = r.constructs;
  modules = r.modules;
  positions = r.positions;
  variants = r.variants;
}
