-- The words of a certificate that are numbers and literals.
--     cert_number word     a number: `0`, or 1 to 20 digits of which the first is not 0
--     cert_literal word    a literal: `+` or `-`, then the number of its variable
use Rattle.std.specs.Prelude.{ℕ, Bool, true, false, not, ◌&&◌, ◌||◌, ◌==◌, nat_le, List, [], ◌∷◌, Option, None, Some, length, if◌then◌else◌}
use Rattle.std.specs.Option.{option_map}
use Rattle.std.specs.List.{list_all}
use Rattle.pb_base.specs.Digits.{is_digit, value_of}
use Rattle.clause_pool.specs.Literal.{literal}

abbrev pub has_number_form : List ℕ → Bool
has_number_form [] = false
has_number_form (first ∷ others) = (not (first == 48) || (length others == 0)) && nat_le (length others) 19

abbrev pub cert_number : List ℕ → Option ℕ
cert_number word = if has_number_form word && list_all is_digit word then Some (value_of word) else None

abbrev pub cert_literal : List ℕ → Option ℕ
cert_literal [] = None
cert_literal (sign ∷ number) =
    if sign == 43 then option_map (λ v. literal v true) (cert_number number)
    else (if sign == 45 then option_map (λ v. literal v false) (cert_number number) else None)
