-- The text that tells what an order comes to, and how it would be accepted.
--     added_line b a        `adds CODE by ENTRY`
--     clash_text b m        `clash CODE .. by ENTRY ..`: the codes, and then the rules
--     leave_text b left     `leave CODE ..`, where some codes are left out
--     change_text b change  `add CODE ..`, where some are added, or `unfit POSITION COUNT with CODE ..`
--     why_text b answer     the whole. Codes stand in record order, but for those that are added, which stand as they were added
use Rattle.std.specs.Prelude.{ℕ, Bool, List, [], ◌∷◌, ◌++◌, codes, length, nat_lt, slice_set, true, if◌then◌else◌}
use Rattle.std.specs.Option.{option_map_or}
use Rattle.std.specs.List.{flat_map, fold}
use Rattle.pb_base.specs.Sets.{none_of}
use Rattle.book_model.specs.Contents.{Contents}
use Rattle.pb_base.specs.Lines.{line, number_behind}
use Rattle.order_text.specs.OutcomeText.{refused_text, unfit_text}
use Rattle.pb_base.specs.NamesText.{names_from}
use Rattle.book_model.specs.Ids.{position_id}
use Rattle.parts_usage.specs.declared.judgement.Outcome.{Outcome}
use Rattle.parts_usage.specs.declared.judgement.Outcome.TheVariants.{Accepted, Refused, Unfit as UnfitOutcome}
use Rattle.supplement.specs.declared.completed.Added.{Added}
use Rattle.blame.specs.declared.blamed.Blamed.{Blamed}
use Rattle.blame.specs.declared.entries.Entry.{Entry}
use Rattle.blame.specs.declared.entries.Entry.TheVariants.{Supplement, Construct, Chosen}
use Rattle.blame.specs.AskText.{entry_behind, how_blamed}
use Rattle.order_repair.specs.declared.answer.Change.{Change}
use Rattle.order_repair.specs.declared.answer.Change.TheVariants.{Add, Unfit}
use Rattle.order_repair.specs.declared.answer.Kept.{Kept}
use Rattle.order_repair.specs.declared.answer.Repair.{Repair}
use Rattle.order_repair.specs.declared.answer.Repair.TheVariants.{NotNeeded, Undecided, NoOrder, Keep}
use Rattle.order_repair.specs.declared.answer.WhyAnswer.{WhyAnswer}

abbrev pub added_line : Contents → Added → List ℕ
added_line b a = line (codes "adds" ++ entry_behind b (Chosen a.code) ++ codes " by" ++ entry_behind b (Supplement a.rule))

abbrev pub standing_text : Contents → Outcome → List ℕ
standing_text b (Accepted set list) = line (codes "accepted")
standing_text b (Refused rule) = refused_text b rule
standing_text b (UnfitOutcome position count) = unfit_text b position count

-- the set of these codes
abbrev pub with_code : List Bool → ℕ → List Bool
with_code x code = if nat_lt code (length x) then slice_set x code true else x

abbrev pub set_at : ℕ → List ℕ → List Bool
set_at n places = fold with_code (none_of n) places

-- their names, each behind a space, in record order
abbrev pub codes_text : Contents → List ℕ → List ℕ
codes_text b places = names_from 0 (set_at (length b.codes) places) b.codes

abbrev pub code_in : Entry → List ℕ
code_in (Supplement place) = []
code_in (Construct place) = []
code_in (Chosen code) = code ∷ []

abbrev pub rule_behind : Contents → Entry → List ℕ
rule_behind b (Supplement place) = entry_behind b (Supplement place)
rule_behind b (Construct place) = entry_behind b (Construct place)
rule_behind b (Chosen code) = []

abbrev pub clash_text : Contents → Blamed → List ℕ
clash_text b m =
    line (codes "clash" ++ codes_text b (flat_map code_in m.entries.items) ++ how_blamed m.needed.items ++ flat_map (rule_behind b) m.entries.items)

abbrev pub leave_text : Contents → List ℕ → List ℕ
leave_text b [] = []
leave_text b (code ∷ left) = line (codes "leave" ++ codes_text b (code ∷ left))

abbrev pub name_behind : List ℕ → List ℕ
name_behind name = codes " " ++ name

abbrev pub add_text : List (List ℕ) → List ℕ
add_text [] = []
add_text (name ∷ added) = line (codes "add" ++ flat_map name_behind (name ∷ added))

abbrev pub change_text : Contents → Change → List ℕ
change_text b (Add added) = add_text added.items
change_text b (Unfit x unfit) =
    line (codes "unfit " ++ position_id b unfit.position ++ number_behind unfit.count ++ codes " with" ++ names_from 0 x b.codes)

abbrev pub kept_text : Contents → Kept → List ℕ
kept_text b k = option_map_or (clash_text b) k.clash [] ++ leave_text b k.left.items ++ change_text b k.change

abbrev pub repair_text : Contents → Repair → List ℕ
repair_text b NotNeeded = []
repair_text b (Undecided learnt) = codes "undecided\n"
repair_text b (NoOrder m) = clash_text b m ++ codes "no order\n"
repair_text b (Keep k) = kept_text b k

abbrev pub why_text : Contents → WhyAnswer → List ℕ
why_text b a = flat_map (added_line b) a.added ++ standing_text b a.outcome ++ repair_text b a.repair ++ codes "end\n"
