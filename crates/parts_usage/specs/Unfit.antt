-- The first position that a set of codes doesn't fit.
use Rattle.std.specs.Prelude.{ℕ, suc, Bool, List, [], ◌∷◌, Option, None, Some, length, if◌then◌else◌}
use Rattle.book_model.specs.Contents.{Contents}
use Rattle.book_model.specs.Parts.{selected}
use Rattle.book_model.specs.Sound.{is_fit}
use Rattle.book_model.specs.declared.record.Position.{Position}
use Rattle.parts_usage.specs.declared.unfit.Unfit.{Unfit}

-- the first unfit one of these positions, of which the first has the place i, with the number of variants selected
abbrev pub first_unfit_from : ℕ → Contents → ℕ → List Bool → List Position → Option Unfit
first_unfit_from i b day x [] = None
first_unfit_from i b day x (p ∷ ps) =
    if is_fit b day x i p then first_unfit_from (suc i) b day x ps
    else Some (record { position = i; count = length (selected b day x i p) })

abbrev pub first_unfit_of : Contents → ℕ → List Bool → Option Unfit
first_unfit_of b day x = first_unfit_from 0 b day x b.positions
