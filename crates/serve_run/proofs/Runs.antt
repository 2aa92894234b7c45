-- Runs of ports, as the history grows and as passes are joined.
use Rattle.std.proofs.Common.{◌≡◌, ◌⊎◌, ◌∙◌, ℕ, ◌+◌, ◌*◌, true, false, ◌||◌, List, [], ◌∷◌, ◌++◌, length, Option, Some, refl, sym, ap, subst, inl, inr, append_assoc, append-nil, length-append, arith}
use Rattle.std.specs.List.{list_any}
use Rattle.std.proofs.lemmas.Bool.{or_left, or_right}
use Rattle.std.proofs.lemmas.List.Folds.{list_any-append}
use Rattle.pb_door.specs.DoorTold.{has_failed}
use Rattle.pb_door.specs.PortTold.{PortTold}
use Rattle.turn_book.proofs.Places.{rises_wider}
use Rattle.turn_book.specs.History.{StartsWith}
use Rattle.turn_book.specs.Standing.{Opened}
use Rattle.order_desk.specs.Tables.{State}
use Rattle.answering.proofs.Seats.{steps_longer}
use Rattle.session.specs.declared.end.SessionEnd.{SessionEnd}
use Rattle.serve_run.specs.declared.work_end.WorkEnd.{WorkEnd}
use Rattle.serve_run.specs.declared.work_end.WorkEnd.TheVariants.{Over, Fault, Memory}
use Rattle.serve_run.specs.ServeRun.{AreEnded, ArePortRuns, IsEnded, IsPortRun, Log, all_of}
use Rattle.serve_run.specs.Workers.{IsDone, IsJoined, Passed, WorkerTold, worse}
use Rattle.serve_run.proofs.Done.{same_some}
use Rattle.serve_run.proofs.Shares.{share_more}

-- ---- a longer history

run_longer : (book : Opened State) (share : ℕ) (history later : Log) (port : PortTold) (places : List ℕ) (faults : List SessionEnd)
    → IsPortRun book share history port places faults → IsPortRun book share (history ++ later) port places faults
run_longer book share history later port places faults r = record {
  ends = r.ends;
  hand = r.hand;
  serves = r.serves;
  made = r.made ∙ sym (steps_longer book.start history later places r.rises);
  rises = rises_wider 0 0 (length history) (length (history ++ later)) places (omega arith) (omega (arith, length-append history later)) r.rises;
  notes = r.notes;
  none_out = r.none_out;
}

run_later : (book : Opened State) (share : ℕ) (history longer : Log) (port : PortTold) (places : List ℕ) (faults : List SessionEnd)
    → StartsWith longer history → IsPortRun book share history port places faults → IsPortRun book share longer port places faults
run_later book share history longer port places faults starts r =
    subst (λ (l : Log). IsPortRun book share l port places faults) (sym starts.1) (run_longer book share history starts.0 port places faults r)

runs_later : (book : Opened State) (share : ℕ) (history longer : Log) (ports : List PortTold) (places : List (List ℕ)) (faults : List (List SessionEnd))
    → StartsWith longer history → ArePortRuns book share history ports places faults → ArePortRuns book share longer ports places faults
runs_later book share history longer [] [] [] starts runs = tt
runs_later book share history longer (port ∷ ports) (one ∷ places) (some ∷ faults) starts runs =
    (run_later book share history longer port one some starts runs.0, runs_later book share history longer ports places faults starts runs.1)
runs_later book share history longer ports places faults starts runs = absurd runs

-- ---- one port more

runs_push : (book : Opened State) (share : ℕ) (history : Log) (ports : List PortTold) (places : List (List ℕ)) (faults : List (List SessionEnd))
    (port : PortTold) (one : List ℕ) (some : List SessionEnd) → ArePortRuns book share history ports places faults
    → IsPortRun book share history port one some → ArePortRuns book share history (ports ++ port ∷ []) (places ++ one ∷ []) (faults ++ some ∷ [])
runs_push book share history [] [] [] port one some runs run = (run, tt)
runs_push book share history (p ∷ ports) (q ∷ places) (r ∷ faults) port one some runs run =
    (runs.0, runs_push book share history ports places faults port one some runs.1 run)
runs_push book share history ports places faults port one some runs run = absurd runs

all_of_push : {A : Type 0} (lists : List (List A)) (xs : List A) → all_of (lists ++ xs ∷ []) ≡ all_of lists ++ xs
all_of_push [] xs = append-nil xs
all_of_push (l ∷ lists) xs = ap (λ z. l ++ z) (all_of_push lists xs) ∙ sym (append_assoc l (all_of lists) xs)

ended_first : (end other : WorkEnd) (port : PortTold) → IsEnded end port → IsEnded (worse end other) port
ended_first Over Over port is = is
ended_first Over Fault port is = inl is
ended_first Over Memory port is = tt
ended_first Fault Over port is = is
ended_first Fault Fault port is = is
ended_first Fault Memory port is = tt
ended_first Memory other port is = tt

ended_second : (end other : WorkEnd) (port : PortTold) → IsEnded other port → IsEnded (worse end other) port
ended_second Over other port is = is
ended_second Fault Over port is = inl is
ended_second Fault Fault port is = is
ended_second Fault Memory port is = tt
ended_second Memory other port is = tt

ended_push : (end other : WorkEnd) (ports : List PortTold) (port : PortTold) → AreEnded end ports → IsEnded other port → AreEnded (worse end other) (ports ++ port ∷ [])
ended_push end other [] port are is = (ended_second end other port is, tt)
ended_push end other (p ∷ ports) port are is = (ended_first end other p are.0, ended_push end other ports port are.1 is)

-- ---- a port that failed

-- where the worse of two ends is a fault, one of them is
worse_fault : (end other : WorkEnd) → worse end other ≡ Fault → (end ≡ Fault) ⊎ (other ≡ Fault)
worse_fault Over other is = inr is
worse_fault Fault other is = inl refl
worse_fault Memory other is = cc

failed_among : (end other : WorkEnd) (ports : List PortTold) (port : PortTold) → (end ≡ Fault → list_any has_failed ports ≡ true)
    → (other ≡ Fault → has_failed port ≡ true) → (end ≡ Fault) ⊎ (other ≡ Fault) → list_any has_failed (ports ++ port ∷ []) ≡ true
failed_among end other ports port before one (inl is) =
    list_any-append has_failed ports (port ∷ []) ∙ or_left (list_any has_failed ports) (has_failed port || false) (before is)
failed_among end other ports port before one (inr is) =
    list_any-append has_failed ports (port ∷ [])
    ∙ or_right (list_any has_failed ports) (has_failed port || false) (or_left (has_failed port) false (one is))

failed_push : (end other : WorkEnd) (ports : List PortTold) (port : PortTold) → (end ≡ Fault → list_any has_failed ports ≡ true)
    → (other ≡ Fault → has_failed port ≡ true) → worse end other ≡ Fault → list_any has_failed (ports ++ port ∷ []) ≡ true
failed_push end other ports port before one is = failed_among end other ports port before one (worse_fault end other is)

-- ---- joining

-- what is known of a joined pass, where the second is that of a worker who is done
pub joined_more : (book : Opened State) (share limit rest : ℕ) (pass own both : Passed) (ports : List PortTold) (faults : List (List SessionEnd)) (end : WorkEnd) (w : WorkerTold)
    → IsDone book share w → w.pass ≡ Some own → both.table ≡ pass.table → StartsWith both.seen pass.seen × StartsWith both.seen own.seen
    → both.own ≡ pass.own ++ own.own → both.left ≡ pass.left + own.left → IsJoined book share limit pass ports faults end (rest + 1)
    → IsJoined book share limit both (ports ++ w.port ∷ []) (faults ++ w.faults ∷ []) (worse end w.end) rest
joined_more book share limit rest pass own both ports faults end w done has same_table starts is_own is_left joined =
    let same : done.pass ≡ own = same_some done.pass own w.pass done.has has in
    let run : IsPortRun book share own.seen w.port own.own w.faults = subst (λ (p : Passed). IsPortRun book share p.seen w.port p.own w.faults) same done.run in
    let counted : own.left + length own.own ≡ share = subst (λ (p : Passed). p.left + length p.own ≡ share) same done.counted in
    let all : length both.own ≡ length pass.own + length own.own = ap length is_own ∙ length-append pass.own own.own in
    let more : share * (rest + 1) ≡ share * rest + share = share_more share rest in
    let before : pass.left + length pass.own + share * (rest + 1) ≡ limit = joined.counted in
    record {
      table = same_table ∙ joined.table;
      places = joined.places ++ own.own ∷ [];
      own = is_own ∙ (ap (λ (l : List ℕ). l ++ own.own) joined.own ∙ sym (all_of_push joined.places own.own));
      runs = runs_push book share both.seen ports joined.places faults w.port own.own w.faults
          (runs_later book share pass.seen both.seen ports joined.places faults starts.0 joined.runs)
          (run_later book share own.seen both.seen w.port own.own w.faults starts.1 run);
      counted = omega (arith, is_left, all, more, before, counted);
      ended = ended_push end w.end ports w.port joined.ended done.ended;
      cause = failed_push end w.end ports w.port joined.cause done.cause;
    }
