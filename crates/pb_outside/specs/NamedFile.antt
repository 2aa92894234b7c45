-- Files in memory, as their bytes.
use Rattle.std.specs.Prelude.{List, [], ◌∷◌, string_bytes}
use Rattle.pb_outside.specs.Files.{NamedBytes}
use Rattle.pb_outside.specs.declared.named_file.NamedFile.{NamedFile}

abbrev pub named_bytes : List NamedFile → List NamedBytes
named_bytes [] = []
named_bytes (file ∷ files) = record { name = string_bytes file.name; content = file.content.items } ∷ named_bytes files
