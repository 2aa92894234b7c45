-- The steps of reading a text of requirements, from its bytes to the passes.
use Rattle.std.proofs.Common.{◌≡◌, ◌≤◌, ◌<◌, Bool, true, false, ℕ, List, length, Err, refl, arith, nat_lt}
use Rattle.std.specs.Str.{is_utf8}
use Rattle.pb_base.specs.declared.limits.TheConstants.{MOST_TEXT_BYTES}
use Rattle.book_model.specs.Contents.{Contents}
use Rattle.book_text.specs.Rows.{rows_of}
use Rattle.book_text.specs.declared.fault.BookKind.TheVariants.{TooLarge, NotUtf8}
use Rattle.requirements.specs.Requirements.{requirements_of, requirements_of_rows}
use Rattle.requirements.specs.declared.fault.RequirementKind.TheVariants.{AsInBooks}

module _ (b : Contents) (text : List ℕ) where
  pub of-large : MOST_TEXT_BYTES < length text → requirements_of b text ≡ Err (record { row = 0; kind = AsInBooks TooLarge })
  unfolding requirements_of
  of-large h = let large : nat_lt MOST_TEXT_BYTES (length text) ≡ true = grind arith in rw large refl

  pub of-not_utf8 : length text ≤ MOST_TEXT_BYTES → is_utf8 text ≡ false → requirements_of b text ≡ Err (record { row = 0; kind = AsInBooks NotUtf8 })
  unfolding requirements_of
  of-not_utf8 h u = let small : nat_lt MOST_TEXT_BYTES (length text) ≡ false = grind arith in rw (small, u) refl

  pub of-rows : length text ≤ MOST_TEXT_BYTES → is_utf8 text ≡ true → requirements_of b text ≡ requirements_of_rows b (rows_of text)
  unfolding requirements_of
  of-rows h u = let small : nat_lt MOST_TEXT_BYTES (length text) ≡ false = grind arith in rw (small, u) refl
