-- Bytes that no method is made of are none of the methods that a path has.
use Rattle.std.proofs.Common.{◌≡◌, ◌≤◌, ℕ, Bool, true, false, List, [], ◌∷◌, length, refl, sym, subst, arith}
use Rattle.std.specs.Prelude.{IsTrue, codes}
use Rattle.std.specs.Str.{bytes_eq}
use Rattle.std.proofs.lemmas.List.Elements.{All-nil, All-cons}
use Rattle.std.proofs.lemmas.Slice.Eq.{bytes_eq-Decides}
use Rattle.http_header.specs.Token.{IsToken, is_token_byte}
use Rattle.http_api.specs.Request.{method_of}
use Rattle.http_api.specs.declared.request.Verb.TheVariants.{Other}

abbrev IsMark : ℕ → Type 0
IsMark b = IsTrue (is_token_byte b)

-- three letters and four
three : (a b c : ℕ) → IsMark a → IsMark b → IsMark c → IsToken (a ∷ b ∷ c ∷ [])
three a b c first second third =
    (omega arith, All-cons IsMark a (b ∷ c ∷ []) first (All-cons IsMark b (c ∷ []) second (All-cons IsMark c [] third (All-nil IsMark))))

get_token : IsToken (codes "GET")
unfolding is_token_byte
get_token = three 71 69 84 refl refl refl

put_token : IsToken (codes "PUT")
unfolding is_token_byte
put_token = three 80 85 84 refl refl refl

post_token : IsToken (codes "POST")
unfolding is_token_byte
post_token =
    (omega arith, All-cons IsMark 80 (79 ∷ 83 ∷ 84 ∷ []) refl (three 79 83 84 refl refl refl).1)

differs : (bytes word : List ℕ) → IsToken word → length word ≤ 15 → (IsToken bytes → length bytes ≤ 15 → ⊥) → bytes_eq bytes word ≡ false
differs bytes word token short none = by (bytes_eq bytes word) refl
  where
    by : (same : Bool) → bytes_eq bytes word ≡ same → bytes_eq bytes word ≡ false
    by false is = is
    by true is =
        let same : bytes ≡ word = (bytes_eq-Decides bytes word).0 is in
        absurd (none (subst IsToken (sym same) token) (subst (λ (b : List ℕ). length b ≤ 15) (sym same) short))

pub other_of : (bytes : List ℕ) → (IsToken bytes → length bytes ≤ 15 → ⊥) → method_of bytes ≡ Other
other_of bytes none =
    rw (
      differs bytes (codes "GET") get_token (omega arith) none,
      differs bytes (codes "PUT") put_token (omega arith) none,
      differs bytes (codes "POST") post_token (omega arith) none,
    ) refl
