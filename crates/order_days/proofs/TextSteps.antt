-- The lines of runs, one run after the other.
use Rattle.std.proofs.Common.{◌≡◌, ℕ, ◌+◌, ◌<◌, cond, List, ◌∷◌, ◌++◌, Option, None, Some, length, get_or, drop, slice_get, option_map, option_and_then, refl, sym, ap, ◌∙◌, append_assoc}
use Rattle.std.specs.Option.{option_or}
use Rattle.std.proofs.lemmas.List.{drop_more}
use Rattle.std.proofs.lemmas.Option.{slice_get-get_or}
use Rattle.book_model.specs.Contents.{Contents}
use Rattle.parts_usage.specs.declared.judgement.Outcome.{Outcome}
use Rattle.parts_usage.specs.declared.judgement.Outcome.TheVariants.{Accepted, Refused, Unfit}
use Rattle.order_days.specs.DaysText.{Built, built_of, built_by, is_built, run_text, runs_text}
use Rattle.order_days.specs.declared.run.Run.{Run}

-- the run at a place, if it is an accepted one
abbrev pub built_at : List Run → Option ℕ → Option Built
built_at runs place = option_and_then built_by (option_and_then (slice_get runs) place)

pub seen : {X : Type 0} (f : X → Run) (o : Option X) → option_and_then (λ x. built_by (f x)) o ≡ option_and_then built_by (option_map f o)
seen f None = refl
seen f (Some x) = refl

-- an accepted run is the last accepted one from then on
later : (day : ℕ) (outcome : Outcome) (runs : List Run) (i : ℕ) (before : Option ℕ) → option_and_then built_by (slice_get runs i) ≡ built_of day outcome
    → option_or (built_of day outcome) (built_at runs before) ≡ built_at runs (cond (is_built outcome) (Some i) before)
later day (Accepted x list) runs i before is = sym is
later day (Refused rule) runs i before is = refl
later day (Unfit position count) runs i before is = refl

pub runs_step : (b : Contents) (runs : List Run) (i : ℕ) (run : Run) (before before' : Option ℕ) (text text' whole : List ℕ) → i < length runs → run ≡ get_or runs i run
    → before' ≡ cond (is_built run.outcome) (Some i) before → text' ≡ text ++ run_text b (built_at runs before) run
    → text ++ runs_text b (built_at runs before) (drop i runs) ≡ whole → text' ++ runs_text b (built_at runs before') (drop (i + 1) runs) ≡ whole
runs_step b runs i run before before' text text' whole inside is next put so_far =
    let rest : List Run = drop (i + 1) runs in
    let front : drop i runs ≡ run ∷ rest = drop_more runs i run inside ∙ ap (λ (r : Run). r ∷ rest) (sym is) in
    let here : slice_get runs i ≡ Some run = slice_get-get_or runs i run inside ∙ ap (λ (r : Run). Some r) (sym is) in
    let built : option_or (built_by run) (built_at runs before) ≡ built_at runs before' =
    later run.first run.outcome runs i before (ap (option_and_then built_by) here) ∙ ap (built_at runs) (sym next) in
    let lines : List ℕ = run_text b (built_at runs before) run in
    ap (λ (t : List ℕ). t ++ runs_text b (built_at runs before') rest) put
    ∙ append_assoc text lines (runs_text b (built_at runs before') rest)
    ∙ ap (λ (o : Option Built). text ++ (lines ++ runs_text b o rest)) (sym built)
    ∙ ap (λ (rs : List Run). text ++ runs_text b (built_at runs before) rs) (sym front)
    ∙ so_far
