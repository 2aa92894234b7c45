-- The tokens of a rule's text.
--     tokens text        the tokens, each with the place of its first byte, counted from 0
use Rattle.std.specs.Prelude.{ℕ, ◌+◌, Bool, true, false, ◌||◌, List, [], ◌∷◌, length, ◌==◌, if◌then◌else◌, take_while}
use Rattle.pb_base.specs.Names.{is_name_byte}

pub data Token : Type 0 where
  word : List ℕ → Token
  plus : Token
  slash : Token
  minus : Token
  opening : Token
  closing : Token
  semicolon : Token
  -- a byte that begins no token
  other : Token

abbrev pub Placed : Type 0
Placed = ℕ × Token

-- space, tab, carriage return and line feed
abbrev pub is_blank : ℕ → Bool
is_blank b = b == 32 || b == 9 || b == 13 || b == 10

-- the token of a byte that is neither a blank nor part of a word
abbrev pub mark : ℕ → Token
mark b =
    if b == 43 then plus
    else (if b == 47 then slash
    else (if b == 45 then minus
    else (if b == 40 then opening
    else (if b == 41 then closing
    else (if b == 59 then semicolon
    else other)))))

-- the token at the front of these bytes
abbrev pub token_at : List ℕ → Token
token_at [] = other
token_at (b ∷ bytes) = if is_name_byte b then word (take_while is_name_byte (b ∷ bytes)) else mark b

abbrev pub token_len : Token → ℕ
token_len (word w) = length w
token_len token = 1

-- A word begins at a word byte that follows no word byte, and is the longest run of word bytes from there.
-- The first argument says whether the byte before is a word byte.
abbrev pub tokens_from : Bool → ℕ → List ℕ → List Placed
tokens_from in_word at [] = []
tokens_from in_word at (b ∷ bytes) =
    if is_name_byte b then (if in_word then tokens_from true (at + 1) bytes else (at, word (take_while is_name_byte (b ∷ bytes))) ∷ tokens_from true (at + 1) bytes)
    else (if is_blank b then tokens_from false (at + 1) bytes
    else (at, mark b) ∷ tokens_from false (at + 1) bytes)

abbrev pub tokens : List ℕ → List Placed
tokens text = tokens_from false 0 text
