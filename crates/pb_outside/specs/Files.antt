-- Files by their names, as bytes.
use Rattle.std.specs.Prelude.{◌≡◌, ◌<◌, ℕ, true, List, [], ◌∷◌, Option, Some, None, IfSome, IsSomeAnd, nat_le, length, if◌then◌else◌}
use Rattle.std.specs.Str.{bytes_eq}
use Rattle.pb_outside.specs.Faults.{Rose, Faults}

-- a file's name and content
pub record NamedBytes : Type 0 where
  pub name : List ℕ
  pub content : List ℕ

-- the files, where the object tells them, and its faults
pub record FilesTold : Type 0 where
  pub files : Option (List NamedBytes)
  pub faults : Faults

-- the content of the first file of a name
abbrev pub content_of : List NamedBytes → List ℕ → Option (List ℕ)
content_of [] name = None
content_of (file ∷ files) name = if bytes_eq file.name name then Some file.content else content_of files name

-- what a reader with room for so many bytes gets of a content: nothing where it is longer
abbrev pub within_room : ℕ → List ℕ → Option (List ℕ)
within_room max content = if nat_le (length content) max then Some content else None

-- what was read of a content, where the room is less than the last number of 64 bits
abbrev pub IsWithin : ℕ → List ℕ → Option (List ℕ) → Type 0
IsWithin max content read = max < 18446744073709551615 → read ≡ within_room max content

-- a file of this name is there and was read, where the files are told
abbrev pub ReadsFile : List ℕ → ℕ → Option (List NamedBytes) → Option (List ℕ) → Type 0
ReadsFile name max files read = IfSome files (λ all. IsSomeAnd (content_of all name) (λ content. read ≡ within_room max content))

-- a file of this name could not be read: the count rose, and where no call fails there is no such file
pub record FailsToRead (name : List ℕ) (before after : FilesTold) : Type 0 where
  pub rose : Rose before.faults.count after.faults.count
  pub possible : before.faults.faultless ≡ true → IfSome before.files (λ all. content_of all name ≡ None)
