-- What the end of a service says of its ports.
use Rattle.std.proofs.Common.{◌≡◌, ℕ, ◌≤◌, true, List, [], ◌∷◌, length, refl, ap, subst, ◌∙◌}
use Rattle.std.specs.List.{AllByRecursion}
use Rattle.pb_door.specs.DoorTold.{DoorTold}
use Rattle.pb_door.specs.PortTold.{PortTold}
use Rattle.turn_book.specs.Places.{at_places}
use Rattle.turn_book.specs.Standing.{Opened}
use Rattle.answering.specs.Hand.{Hand, Made}
use Rattle.answering.specs.Seat.{steps_of}
use Rattle.order_desk.specs.Tables.{State}
use Rattle.session.specs.declared.end.SessionEnd.{SessionEnd}
use Rattle.serve_run.specs.Work.{Works}
use Rattle.serve_run.specs.ServeRun.{AreEnded, ArePortRuns, IsPortRun, IsServeRun, IsServed, IsWorked, Log, hand_at}
use Rattle.serve_run.specs.declared.end.ServeEnd.{ServeEnd}
use Rattle.serve_run.specs.declared.end.ServeEnd.TheVariants.{Worked}
use Rattle.serve_run.specs.declared.work_end.WorkEnd.{WorkEnd}
use Rattle.serve_run.specs.declared.work_end.WorkEnd.TheVariants.{Over}
use Rattle.service_guards.specs.Parts.{IsWithinPart, IsWithinParts}
use Rattle.service_guards.proofs.LaterHands.{made_within}

pub works_over : (end : WorkEnd) (h : Hand) (before after : PortTold) (log log' : List SessionEnd) (new : Hand) → Works end h before after log log' new → end ≡ Over → after.over ≡ true
works_over Over h before after log log' new works is = works.cause
works_over end h before after log log' new works is = cc

each_over : (ports : List PortTold) → AreEnded Over ports → AllByRecursion (λ p. p.over ≡ true) ports
each_over [] ended = tt
each_over (port ∷ ports) ended = (ended.0, each_over ports ended.1)

module _ (old new : State) (share links workers : ℕ) (faults : List (List SessionEnd)) (before after : DoorTold) where
  worked : (how : ServeEnd) (end : WorkEnd) → how ≡ Worked end → IsServeRun how old new share links workers faults before after
      → IsWorked end old new share links workers faults before after
  worked how end is run = subst (λ (h : ServeEnd). IsServeRun h old new share links workers faults before after) is run

  pub all_over : (how : ServeEnd) → IsServeRun how old new share links workers faults before after → how ≡ Worked Over → AllByRecursion (λ p. p.over ≡ true) after.back
  all_over how run is = each_over after.back (worked how Over is run).ended

  each_within : (book : Opened State) (history : Log) (ports : List PortTold) (places : List (List ℕ)) (kept : List (List SessionEnd)) → book.start ≡ old
      → ArePortRuns book share history ports places kept → AllByRecursion (IsWithinPart old share history) ports
  each_within book history [] [] [] opened runs = tt
  each_within book history [] [] (own ∷ kept) opened runs = absurd runs
  each_within book history [] (own ∷ places) kept opened runs = absurd runs
  each_within book history (port ∷ ports) [] kept opened runs = absurd runs
  each_within book history (port ∷ ports) (own ∷ places) [] opened runs = absurd runs
  each_within book history (port ∷ ports) (own ∷ places) (notes ∷ kept) opened runs =
      let run : IsPortRun book share history port own notes = runs.0 in
      let few : length run.hand.made ≤ share = made_within book run.ends (hand_at book share) port.given port.ended run.hand refl refl run.serves in
      let same : run.hand.made ≡ at_places (steps_of old history) own = run.made ∙ ap (λ (s : State). at_places (steps_of s history) own) opened in
      (record { places = own; few = subst (λ (ms : List Made). length ms ≤ share) same few }, each_within book history ports places kept opened runs.1)

  pub within_parts : (how : ServeEnd) → IsServeRun how old new share links workers faults before after → (end : WorkEnd) → how ≡ Worked end
      → IsWithinParts old new share after.back
  within_parts how run end is =
      let served : IsServed old new share after.back faults = (worked how end is run).served in
      record {
        history = served.history;
        legal = served.legal;
        reached = served.reached;
        each = each_within served.book served.history after.back served.places faults served.opened served.runs;
      }
