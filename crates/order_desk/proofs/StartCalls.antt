-- How many calls of the keeper a start makes.
use Rattle.std.proofs.Common.{◌≡◌, ◌⊎◌, inl, inr, ℕ, Option, None, Some, sym, ap, ◌∙◌}
use Rattle.std.specs.Prelude.{IfSome}
use Rattle.std.specs.Option.{option_map}
use Rattle.pb_outside.specs.Faults.{raised}
use Rattle.keeper.specs.Rows.{Kept, begun}
use Rattle.order_desk.specs.Start.{IsBegun, loaded}

form_of : (told : Option Kept) (rows : Kept) → rows.form ≡ 1 → IfSome told (λ kept. rows ≡ begun kept) → IfSome told (λ kept. (begun kept).form ≡ 1)
form_of None rows one same = same
form_of (Some kept) rows one same = ap (λ (k : Kept). k.form) (sym same) ∙ one

pub begun_calls : (told : Option Kept) (rows : Kept) (before middle after : Option ℕ) → IfSome told (λ kept. rows ≡ begun kept) → middle ≡ loaded before
    → (after ≡ middle) ⊎ ((rows.form ≡ 1) × (after ≡ option_map raised middle)) → IsBegun told before after
begun_calls told rows before middle after same two (inl none) = inl (none ∙ two)
begun_calls told rows before middle after same two (inr third) = inr (form_of told rows third.0 same, third.1 ∙ ap (option_map raised) two)
