-- How a step of the search ends.
use Rattle.std.specs.Prelude.{ℕ, ◌<◌, List}
use Rattle.propagate.specs.Trail.{Trail, level}
use Rattle.solver.specs.Answer.{AreHeld}
use Rattle.solver.specs.Search.{IsAssumed, IsClosing, IsFull, IsLearning, IsSettled}
use Rattle.solver.specs.declared.run.Found.{Found}
use Rattle.solver.specs.declared.run.Found.TheVariants.{Full, Closing, Learning}

abbrev pub IsFound : Trail → List ℕ → ℕ → Found → Type 0
IsFound t assumptions depth Full = IsFull t × AreHeld assumptions t.lits
IsFound t assumptions depth (Closing at) = IsClosing t assumptions at
IsFound t assumptions depth (Learning at) =
    IsLearning t at × IsSettled t × IsAssumed assumptions depth t × (depth < level t)
