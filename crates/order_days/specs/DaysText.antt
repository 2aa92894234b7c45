-- The text that tells of the runs of days.
--     use_text use                  ` PART xQ`
--     uses_text uses                that of all uses, or ` -`
--     now_line b before after p     the line of a position, if other parts stand at it than by the car before
--     built_text b before car       what is told of an accepted order, beside the accepted one of the runs before
--     run_text b before run         the days of a run, and what is told of it
--     days_text b runs              the whole
use Rattle.std.specs.Prelude.{ℕ, Bool, true, false, List, [], ◌∷◌, ◌++◌, Option, None, Some, codes, if◌then◌else◌}
use Rattle.std.specs.List.{flat_map}
use Rattle.std.specs.Option.{option_or}
use Rattle.std.specs.Fmt.{decimal}
use Rattle.book_model.specs.Contents.{Contents}
use Rattle.book_model.specs.declared.record.Position.{Position}
use Rattle.chosen_parts.specs.Chosen.{chosen}
use Rattle.chosen_parts.specs.declared.part_use.PartUse.{PartUse}
use Rattle.pb_base.specs.Lines.{line, number_behind}
use Rattle.order_text.specs.OutcomeText.{refused_text, unfit_text}
use Rattle.pb_base.specs.NamesText.{names_from}
use Rattle.parts_usage.specs.declared.judgement.Outcome.{Outcome}
use Rattle.parts_usage.specs.declared.judgement.Outcome.TheVariants.{Accepted, Refused, Unfit}
use Rattle.order_days.specs.Same.{is_same_set, are_same_uses}
use Rattle.order_days.specs.declared.run.Run.{Run}

-- the codes with which an order is accepted, on the first day of its run
pub record Built : Type 0 where
  pub day : ℕ
  pub set : List Bool

abbrev pub built_of : ℕ → Outcome → Option Built
built_of day (Accepted x list) = Some (record { day = day; set = x })
built_of day (Refused rule) = None
built_of day (Unfit position count) = None

abbrev pub is_built : Outcome → Bool
is_built (Accepted x list) = true
is_built (Refused rule) = false
is_built (Unfit position count) = false

abbrev pub built_by : Run → Option Built
built_by run = built_of run.first run.outcome

abbrev pub use_text : PartUse → List ℕ
use_text u = codes " " ++ u.part ++ codes " x" ++ decimal u.quantity

abbrev pub uses_text : List PartUse → List ℕ
uses_text [] = codes " -"
uses_text (u ∷ uses) = flat_map use_text (u ∷ uses)

abbrev pub now_between : List ℕ → List PartUse → List PartUse → List ℕ
now_between id before after = if are_same_uses before after then [] else line (codes "now " ++ id ++ uses_text after)

abbrev pub now_line : Contents → Built → Built → Position → List ℕ
now_line b before after p = now_between p.id (chosen b before.day p.id before.set) (chosen b after.day p.id after.set)

abbrev pub codes_line : Contents → List Bool → List ℕ
codes_line b x = line (codes "codes" ++ names_from 0 x b.codes)

abbrev pub changed_codes : Contents → List Bool → List Bool → List ℕ
changed_codes b x y = if is_same_set x y then [] else codes_line b y

-- the first accepted one has its codes; the others what has changed
abbrev pub built_text : Contents → Option Built → Built → List ℕ
built_text b None after = codes_line b after.set
built_text b (Some before) after = changed_codes b before.set after.set ++ flat_map (now_line b before after) b.positions

abbrev pub accepted_text : Contents → Option Built → ℕ → List Bool → List ℕ
accepted_text b before day x = line (codes "accepted") ++ built_text b before (record { day = day; set = x })

abbrev pub outcome_text : Contents → Option Built → ℕ → Outcome → List ℕ
outcome_text b before day (Accepted x list) = accepted_text b before day x
outcome_text b before day (Refused rule) = refused_text b rule
outcome_text b before day (Unfit position count) = unfit_text b position count

abbrev pub days_line : ℕ → ℕ → List ℕ
days_line first last = line (codes "days" ++ number_behind first ++ number_behind last)

abbrev pub run_text : Contents → Option Built → Run → List ℕ
run_text b before run = days_line run.first run.last ++ outcome_text b before run.first run.outcome

-- before the first of these runs this one was the last that was accepted, if one was
abbrev pub runs_text : Contents → Option Built → List Run → List ℕ
runs_text b before [] = []
runs_text b before (run ∷ runs) = run_text b before run ++ runs_text b (option_or (built_by run) before) runs

abbrev pub days_text : Contents → List Run → List ℕ
days_text b runs = runs_text b None runs
