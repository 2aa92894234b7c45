-- What a contract sees of a book: its name, its term and its records, each list in the order of the book's text.
use Rattle.std.specs.Prelude.{ℕ, List}
use Rattle.book_model.specs.declared.record.Supplement.{Supplement}
use Rattle.book_model.specs.declared.record.Construct.{Construct}
use Rattle.book_model.specs.declared.record.Module.{Module}
use Rattle.book_model.specs.declared.record.Position.{Position}
use Rattle.book_model.specs.declared.record.Variant.{Variant}

pub record Contents : Type 0 where
  pub name : List ℕ
  pub first : ℕ
  pub last : ℕ
  pub codes : List (List ℕ)
  pub supplements : List Supplement
  pub constructs : List Construct
  pub modules : List Module
  pub positions : List Position
  pub variants : List Variant
