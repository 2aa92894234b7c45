-- From a run over some ports to one that a door tells.
use Rattle.std.proofs.Common.{◌≡◌, ◌∙◌, ℕ, ◌+◌, ◌*◌, ◌/◌, ◌≤◌, true, min, List, length, refl, sym, ap, ap₂, subst, inl, inr, ⊎_elim, arith}
use Rattle.std.specs.Prelude.{Bool, map, if◌then◌else◌}
use Rattle.std.specs.List.{list_any}
use Rattle.std.proofs.lemmas.Bool.{cases_lt}
use Rattle.std.proofs.lemmas.List.{length-map}
use Rattle.pb_outside.specs.Faults.{Rose, raised}
use Rattle.pb_door.specs.DoorTold.{AreLent, DoorTold, faults_with, has_failed, lends, takes_back}
use Rattle.pb_door.specs.PortTold.{PortTold, new_ports, numbers_below, share_of}
use Rattle.order_desk.specs.Tables.{State}
use Rattle.session.specs.declared.end.SessionEnd.{SessionEnd}
use Rattle.serve_run.specs.declared.end.ServeEnd.{ServeEnd}
use Rattle.serve_run.specs.declared.end.ServeEnd.TheVariants.{Closed, NoWorkers, Worked}
use Rattle.serve_run.specs.ServeRun.{AreEnded, IsServeRun, IsServed}
use Rattle.serve_run.specs.Work.{links_of}
use Rattle.serve_run.specs.Workers.{IsPortsRun}
use Rattle.serve_run.proofs.Fresh.{length_ports, numbers_ports, shares_ports}
use Rattle.serve_run.proofs.Shares.{shares_fit}

-- the steps of all workers are no more than the whole
pub share_fits : {Q : Type 0} (told : Q → PortTold) (ports : List Q) (steps links workers : ℕ) → 1 ≤ workers → map told ports ≡ new_ports links workers
    → (steps / workers) * length ports ≤ steps
share_fits told ports steps links workers some are =
    let long : length ports ≡ workers = sym (length-map ports told) ∙ (ap length are ∙ length_ports links workers workers) in
    subst (λ (n : ℕ). (steps / workers) * n ≤ steps) (sym long) (shares_fit steps workers (omega arith))

-- a count that was raised rose
rose_raised : (n : ℕ) → Rose n (raised n)
rose_raised n = ⊎_elim (λ less. inl (omega (arith, less))) (λ last. inr (omega (arith, last))) (cases_lt n 18446744073709551615)

rose_with : (ports : List PortTold) (n : ℕ) → list_any has_failed ports ≡ true → Rose n (faults_with ports n)
rose_with ports n failed = subst (λ (b : Bool). Rose n (if b then raised n else n)) (sym failed) (rose_raised n)

numbers_told : (links workers : ℕ) (ports : List PortTold) → ports ≡ new_ports links workers → map (λ p. p.number) ports ≡ numbers_below workers
numbers_told links workers ports are = ap (λ (ps : List PortTold). map (λ p. p.number) ps) are ∙ numbers_ports links workers workers

shares_told : (links workers : ℕ) (ports : List PortTold) → ports ≡ new_ports links workers
    → map links_of ports ≡ map (share_of links workers) (numbers_below workers)
shares_told links workers ports are = ap (λ (ps : List PortTold). map links_of ps) are ∙ shares_ports links workers workers

module _ (old new : State) (share links workers : ℕ) (ports ports' : List PortTold) (faults : List (List SessionEnd)) (are : ports ≡ new_ports links workers) where
  -- the ports that come back are those that were given
  numbers_back : (how : ServeEnd) → IsPortsRun how old new share ports ports' faults → map (λ p. p.number) ports' ≡ numbers_below workers
  numbers_back (Closed why) run = absurd run
  numbers_back NoWorkers run = numbers_told links workers ports' (run.1 ∙ are)
  numbers_back (Worked end) run = run.numbers ∙ numbers_told links workers ports are

  pub are_lent : (how : ServeEnd) (before mid : DoorTold) → mid ≡ lends workers before → IsPortsRun how old new share ports ports' faults → AreLent mid ports'
  are_lent how before mid lent run = numbers_back how run ∙ ap (λ (d : DoorTold). numbers_below d.lent) (sym lent)

  -- a run over the ports of a door
  pub door_run : (how : ServeEnd) (before mid after : DoorTold) → mid ≡ lends workers before → after ≡ takes_back ports' mid
      → IsPortsRun how old new share ports ports' faults → IsServeRun how old new share links workers faults before after
  door_run (Closed why) before mid after lent back run = absurd run
  door_run NoWorkers before mid after lent back run = ((run.0, run.2), back ∙ ap₂ takes_back (run.1 ∙ are) lent)
  door_run (Worked end) before mid after lent back run =
      let is_back : after.back ≡ ports' = ap (λ (d : DoorTold). d.back) back in
      let count : after.faults ≡ faults_with ports' before.faults =
      ap (λ (d : DoorTold). d.faults) back ∙ ap (λ (d : DoorTold). faults_with ports' d.faults) lent in
      record {
        served = subst (λ (ps : List PortTold). IsServed old new share ps faults) (sym is_back) run.served;
        ended = subst (λ (ps : List PortTold). AreEnded end ps) (sym is_back) run.ended;
        numbers = ap (λ (ps : List PortTold). map (λ p. p.number) ps) is_back ∙ numbers_back (Worked end) run;
        shares =
            ap (λ (ps : List PortTold). map links_of ps) is_back ∙ (run.shares ∙ shares_told links workers ports are);
        told = back ∙ ap₂ takes_back (sym is_back) lent;
        cause = λ is. subst (λ (n : ℕ). Rose before.faults n) (sym count) (rose_with ports' before.faults (run.cause is));
      }
