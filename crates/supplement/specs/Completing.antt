-- What a completer works with.
use Rattle.std.specs.Prelude.{ℕ, refl}
use Rattle.std.specs.Coded.{Coded, code_by, coded×, coded_ℕ}
use Rattle.book_model.specs.Contents.{Contents}
use Rattle.book_model.specs.ContentsCode.{contents_code}

-- the book and the day whose rules complete an order
pub record Completing : Type 0 where
  pub book : Contents
  pub day : ℕ

abbrev pub completing_code : Coded Completing
completing_code = code_by (Contents × ℕ) (coded× contents_code coded_ℕ) (λ c. (c.book, c.day)) (λ p. record { book = p.0; day = p.1 }) (λ _. refl)
