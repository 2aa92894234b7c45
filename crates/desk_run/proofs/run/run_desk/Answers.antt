use Rattle.desk_run.proofs.Serving.{is_served}
use Rattle.desk_run.proofs.run.run_desk.Goals as goal

pub returns-in-Ok : goal.returns-in-Ok
returns-in-Ok g c =
    let start = c.in-Ok.ensures in
    is_served _ _ _ _ (record { right = start.right; tables = start.rows; valid = start.valid; count = start.count; later = start.later }) c.serve-end.ensures
