use Rattle.std.proofs.Common.{◌≡◌, ◌∙◌, true, sym, ap, subst, refl}
use Rattle.std.specs.Prelude.{All, map, List, ℕ}
use Rattle.std.proofs.lemmas.List.Elements.{All-nil, All-push}
use Rattle.pb_outside.specs.FaultPlan.{is_over}
use Rattle.pb_outside.specs.MemoryLink.{Exchange}
use Rattle.pb_door.specs.LinkTold.{IsUnwritten}
use Rattle.pb_door.specs.MemoryDoor.{are_faultless, first_of, plan_of}
use Rattle.pb_door.specs.MemoryPort.{AreUnwritten, PortState, exchange_told}
use Rattle.pb_door.proofs.Lists.{All-rest_of, first_holds, first_passes, list_all-rest_after, list_all-rest_of}
use Rattle.pb_door.proofs.Opening.{All-next, lists_next, plans_next, rest_next, told_next}
use Rattle.pb_door.proofs.memory_door.open_ports.Goals as goal

pub new-port-requires : goal.new-port-requires
new-port-requires c =
    let none = All-nil (λ (e : Exchange). IsUnwritten (exchange_told e)) in
    let left = All-next AreUnwritten c.loop-number.number _ _ c.loop-number.invariant.links_left c.requires.unwritten in
    subst AreUnwritten (sym c.take_first.ensures.first) (first_holds AreUnwritten _ none left)

pub loop-number-preserved : goal.loop-number-preserved
loop-number-preserved c =
    let n = c.loop-number.number in
    let numbers = c.take_first-in-loop-number.result.items in
    let its_links : c.new-port.result.coming ≡ c.take_first.result.items = ap (λ (p : PortState). p.coming) c.new-port.ensures in
    let its_fails : c.new-port.result.plan ≡ plan_of numbers = ap (λ (p : PortState). p.plan) c.new-port.ensures in
    record {
      told =
          rw c.in_ok-push.ensures.items
          (told_next c.loop-number.ports.items c.new-port.result c.args.count c.args.workers n c.loop-number.invariant.told (rw (c.new-port.ensures, c.share_of.ensures) refl));
      coming =
          rw c.in_ok-push.ensures.items
          (lists_next (λ (p : PortState). p.coming) c.loop-number.ports.items c.new-port.result n _ c.loop-number.invariant.coming (its_links ∙ (c.take_first.ensures.first ∙ ap first_of c.loop-number.invariant.links_left)));
      plans =
          rw c.in_ok-push.ensures.items
          (plans_next c.loop-number.ports.items c.new-port.result n _ c.loop-number.invariant.plans (its_fails ∙ ap plan_of (c.take_first-in-loop-number.ensures.first ∙ ap first_of c.loop-number.invariant.fails_left)));
      faultless = λ sure.
          let passes : is_over (plan_of numbers) ≡ true =
          subst (λ (ns : List ℕ). is_over (plan_of ns) ≡ true) (sym c.take_first-in-loop-number.ensures.first)
          (first_passes (λ (ns : List ℕ). is_over (plan_of ns)) (map (λ v. v.items) c.loop-number.fails.items) refl
          (subst (λ (ls : List (List ℕ)). are_faultless ls ≡ true) (sym c.loop-number.invariant.fails_left) (list_all-rest_after (λ (ns : List ℕ). is_over (plan_of ns)) n _ sure)))
          in
          rw c.in_ok-push.ensures.items (All-push (λ (p : PortState). is_over p.plan ≡ true) c.loop-number.ports.items c.new-port.result (c.loop-number.invariant.faultless sure) (rw its_fails passes));
      links_left = rest_next n _ _ _ c.loop-number.invariant.links_left c.take_first.ensures.rest;
      fails_left = rest_next n _ _ _ c.loop-number.invariant.fails_left c.take_first-in-loop-number.ensures.rest;
    }

pub returns-in_err-push-clause-unwritten : goal.returns-in_err-push-clause-unwritten
returns-in_err-push-clause-unwritten c =
    let left = All-next AreUnwritten c.loop-number.number _ _ c.loop-number.invariant.links_left c.requires.unwritten in
    subst (λ (ls : List (List Exchange)). All AreUnwritten ls) (sym c.take_first.ensures.rest) (All-rest_of AreUnwritten _ left)

pub returns-in_err-push-clause-later : goal.returns-in_err-push-clause-later
returns-in_err-push-clause-later c = λ sure.
    let test = λ (ns : List ℕ). is_over (plan_of ns) in
    let left = subst (λ (ls : List (List ℕ)). are_faultless ls ≡ true) (sym c.loop-number.invariant.fails_left) (list_all-rest_after test c.loop-number.number _ sure) in
    subst (λ (ls : List (List ℕ)). are_faultless ls ≡ true) (sym c.take_first-in-loop-number.ensures.rest) (list_all-rest_of test (map (λ v. v.items) c.loop-number.fails.items) left)

pub returns-clause-unwritten : goal.returns-clause-unwritten
returns-clause-unwritten c = All-next AreUnwritten c.loop-number.number _ _ c.loop-number.invariant.links_left c.requires.unwritten

pub returns-clause-later : goal.returns-clause-later
returns-clause-later c = λ sure.
    subst (λ (ls : List (List ℕ)). are_faultless ls ≡ true) (sym c.loop-number.invariant.fails_left)
    (list_all-rest_after (λ (ns : List ℕ). is_over (plan_of ns)) c.loop-number.number _ sure)
