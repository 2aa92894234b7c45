-- The text of what an order comes to.
use Rattle.std.specs.Prelude.{ℕ, Bool, List, [], ◌++◌, codes, slice_get}
use Rattle.std.specs.Option.{option_map_or}
use Rattle.std.specs.List.{flat_map}
use Rattle.std.specs.Fmt.{decimal}
use Rattle.book_model.specs.Contents.{Contents}
use Rattle.book_model.specs.Ids.{construct_id, position_id, module_id}
use Rattle.book_model.specs.Parts.{PartsLine}
use Rattle.parts_usage.specs.declared.judgement.Outcome.{Outcome}
use Rattle.parts_usage.specs.declared.judgement.Outcome.TheVariants.{Accepted, Refused, Unfit}
use Rattle.pb_base.specs.Lines.{line, number_behind}
use Rattle.pb_base.specs.NamesText.{names_from}

-- the part and its quantity of the variant at a place
abbrev pub part_text : Contents → ℕ → List ℕ
part_text b place = option_map_or (λ v. v.part ++ codes "," ++ decimal v.quantity) (slice_get b.variants place) []

-- a line of the parts list: MODULE,POSITION,PART,QUANTITY
abbrev pub parts_line : Contents → PartsLine → List ℕ
parts_line b l = line (module_id b l.position ++ codes "," ++ position_id b l.position ++ codes "," ++ part_text b l.variant)

-- the codes of the set in a line, then the parts
abbrev pub accepted_text : Contents → List Bool → List PartsLine → List ℕ
accepted_text b set list = line (codes "accepted") ++ line (codes "codes" ++ names_from 0 set b.codes) ++ flat_map (parts_line b) list

abbrev pub refused_text : Contents → ℕ → List ℕ
refused_text b rule = line (codes "refused " ++ construct_id b rule)

abbrev pub unfit_text : Contents → ℕ → ℕ → List ℕ
unfit_text b position count = line (codes "unfit " ++ position_id b position ++ number_behind count)

abbrev pub outcome_text : Contents → Outcome → List ℕ
outcome_text b (Accepted set list) = accepted_text b set list
outcome_text b (Refused rule) = refused_text b rule
outcome_text b (Unfit position count) = unfit_text b position count
