-- The JSON value that bytes are.
use Rattle.std.proofs.Common.{◌≡◌, ℕ, Bool, true, false, List, Some, None, is_some, option_and_then, if◌then◌else◌, refl, ◌∙◌, ap}
use Rattle.std.specs.Str.{IsUtf8, is_utf8}
use Rattle.std.proofs.lemmas.Str.{IsUtf8-from_is_utf8, is_utf8-from_IsUtf8}
use Rattle.serde_json.specs.Data.{Data}
use Rattle.serde_json.specs.Read.{read}
use Rattle.serde_json.specs.Find.{as_object}
use Rattle.http_api.specs.Body.{data_of, object_of, only_if}

pub is_read : (bytes : List ℕ) (d : Data) → IsUtf8 bytes → read bytes ≡ Some d → data_of bytes ≡ Some d
is_read bytes d utf8 is = rw (is_utf8-from_IsUtf8 bytes utf8) is

pub is_object_read : (bytes : List ℕ) (d : Data) → IsUtf8 bytes → read bytes ≡ Some d → is_some (as_object d) ≡ true → object_of bytes ≡ Some d
is_object_read bytes d utf8 is object = ap (option_and_then (only_if (λ d. is_some (as_object d)))) (is_read bytes d utf8 is) ∙ rw object refl

pub none_read : (bytes : List ℕ) → (IsUtf8 bytes → read bytes ≡ None) → object_of bytes ≡ None
none_read bytes none = ap (option_and_then (only_if (λ d. is_some (as_object d)))) (by (is_utf8 bytes) refl)
  where
    by : (v : Bool) → is_utf8 bytes ≡ v → (if v then read bytes else None) ≡ None
    by true e = none (IsUtf8-from_is_utf8 bytes e)
    by false e = refl
