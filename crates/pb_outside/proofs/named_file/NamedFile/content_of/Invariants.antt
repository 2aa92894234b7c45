use Rattle.std.proofs.Common.{◌≡◌, drop}
use Rattle.pb_outside.specs.Files.{content_of}
use Rattle.pb_outside.specs.NamedFile.{named_bytes}
use Rattle.pb_outside.proofs.named_file.NamedFile.content_of.Given as goal

-- no file so far has the name
abbrev pub invariant-loop-file : goal.invariant-loop-file
invariant-loop-file l = content_of (named_bytes l.files) l.name ≡ content_of (named_bytes (drop l.file-index l.files)) l.name
