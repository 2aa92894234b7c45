use denote.Param.Send.{arg_send, param_send}
use Rattle.file_store.proofs.Crossing.{counted_send}
use Rattle.partsbook.proofs.main.Goals as goal

pub run_service-requires-send-P : goal.run_service-requires-send-P
run_service-requires-send-P g c κs = search (counted_send, arg_send, param_send) depth 8
