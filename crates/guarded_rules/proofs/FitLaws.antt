-- Items of a book over sets that have guards behind its codes.
use Rattle.std.proofs.Common.{◌≡◌, ℕ, ◌+◌, ◌<◌, ◌≤◌, Bool, true, false, List, ◌++◌, Option, length}
use Rattle.std.specs.Option.{IfSome}
use Rattle.std.proofs.lemmas.List.{get_or-append-add}
use Rattle.pb_base.specs.Sets.{has}
use Rattle.clausify.specs.Items.{Item}
use Rattle.clausify.proofs.ItemLaws.{item_fits}
use Rattle.clausify.proofs.AgreeLaws.{fits_more}
use Rattle.guarded_rules.specs.Guarded.{guarded, GuardedFits}

pub guard_appended : (x guards : List Bool) (k : ℕ) → has (x ++ guards) (length x + k) ≡ has guards k
guard_appended x guards k = get_or-append-add x guards k false

-- an item over n codes with a guard behind them
pub fits_guarded : (n m : ℕ) → n ≤ m → (g : Option ℕ) → IfSome g (λ k. k < m) → (i : Item) → item_fits n i ≡ true → GuardedFits m (guarded g i)
fits_guarded n m more g low i fit = record { guard = low; item = fits_more n m more i fit }
