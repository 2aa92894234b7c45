-- The text that tells whether a car meets a rule.
--     entry_name b e      the id of a rule, or the name of a code
--     how_blamed needed   ` by` where each entry is known to be needed, else ` within`
--     ask_text b told     `car CODE ..`, `none by ENTRY ..`, `none within ENTRY ..` or `undecided after N`
use Rattle.std.specs.Prelude.{ℕ, Bool, List, [], ◌++◌, codes, length, slice_get, if◌then◌else◌}
use Rattle.std.specs.Option.{option_map_or}
use Rattle.std.specs.List.{flat_map, list_all}
use Rattle.book_model.specs.Contents.{Contents}
use Rattle.book_model.specs.Ids.{code_name, construct_id, supplement_id}
use Rattle.pb_base.specs.Lines.{line, number_behind}
use Rattle.pb_base.specs.NamesText.{names_from}
use Rattle.blame.specs.declared.entries.Entry.{Entry}
use Rattle.blame.specs.declared.entries.Entry.TheVariants.{Supplement, Construct, Chosen}
use Rattle.blame.specs.declared.blamed.Told.{Told}
use Rattle.blame.specs.declared.blamed.Told.TheVariants.{Car, NoCar, Undecided}

-- there are no bytes where the book has nothing at a place
abbrev pub entry_name : Contents → Entry → List ℕ
entry_name b (Supplement place) = supplement_id b place
entry_name b (Construct place) = construct_id b place
entry_name b (Chosen place) = code_name b place

abbrev pub entry_behind : Contents → Entry → List ℕ
entry_behind b e = codes " " ++ entry_name b e

abbrev pub how_blamed : List Bool → List ℕ
how_blamed needed = if list_all (λ is_needed. is_needed) needed then codes " by" else codes " within"

abbrev pub told_text : Contents → Told → List ℕ
told_text b (Car set) = codes "car" ++ names_from 0 set b.codes
told_text b (NoCar m) = codes "none" ++ how_blamed m.needed.items ++ flat_map (entry_behind b) m.entries.items
told_text b (Undecided learnt) = codes "undecided after" ++ number_behind (length learnt.clauses)

abbrev pub ask_text : Contents → Told → List ℕ
ask_text b told = line (told_text b told)
