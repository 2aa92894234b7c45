use Rattle.std.proofs.Common.{◌≡◌, ℕ, ◌+◌, ◌-◌, ◌<◌, ◌≤◌, length, refl, sym, ap, ◌∙◌, arith}
use Rattle.propagate.specs.Trail.{Trail, end_of}
use Rattle.solver.specs.Marks.{start_of}
use Rattle.solver.proofs.TrailLaws.{has_reason}
use Rattle.solver.proofs.MarkLaws.{not_none, resolving_starts, resolving_next, below_stays, uip_found, false_below, top_is, none_is, reason_attached}
use Rattle.solver.proofs.analyze.find_uip.Goals as goal

pub last_marked-requires-clause-below : goal.last_marked-requires-clause-below
last_marked-requires-clause-below c = λ k low.
    false_below c.args.engine.now c.trail-lits.result.now (length c.deref.result.now) k c.trail-lits.ensures.trail c.trail-lits.ensures.lits (ap length c.deref.ensures.value ∙ c.requires.table) low

pub unreachable-requires : goal.unreachable-requires
unreachable-requires c =
    let t : Trail = c.args.engine.now in
    let start : c.end_of-start.result ≡ start_of t = c.end_of-start.ensures ∙ ap (λ (n : ℕ). end_of t (n - 1)) c.level.ensures.level in
    not_none t c.args.resolution.now.marks.items c.trail-lits.ensures.trail c.requires.all_false c.requires.not_before
    (none_is c.trail-lits.result.now t.lits c.deref.result.now c.args.resolution.now.marks.items c.end_of-start.result (start_of t) (length c.trail-lits.result.now) (length t.lits)
    c.trail-lits.ensures.lits c.deref.ensures.value start (ap length c.trail-lits.ensures.lits) c.in_default.ensures.none)

pub loop-below-init : goal.loop-below-init
loop-below-init c =
    let t : Trail = c.args.engine.now in
    let start : c.end_of-start.result ≡ start_of t = c.end_of-start.ensures ∙ ap (λ (n : ℕ). end_of t (n - 1)) c.level.ensures.level in
    record {
      chain = c.requires.chain;
      table = c.requires.table;
      resolving = resolving_starts t c.args.resolution.now.marks.items c.in-Some.place
          (top_is c.trail-lits.result.now t.lits c.deref.result.now c.args.resolution.now.marks.items c.end_of-start.result (start_of t) (length c.trail-lits.result.now) (length t.lits) c.in-Some.place
          c.trail-lits.ensures.lits c.deref.ensures.value start (ap length c.trail-lits.ensures.lits) c.in-Some.ensures.top)
          c.requires.all_false;
    }

pub next_below-requires-clause-known : goal.next_below-requires-clause-known
next_below-requires-clause-known c =
    let t : Trail = c.args.engine.now in
    let start : c.end_of-start.result ≡ start_of t = c.end_of-start.ensures ∙ ap (λ (n : ℕ). end_of t (n - 1)) c.level.ensures.level in
    top_is t.lits c.trail-lits.result.now c.loop-below.resolution.marks.items c.deref-in-loop-below.result.now (start_of t) c.end_of-start.result (c.loop-below.known + 1) (c.loop-below.known + 1) c.loop-below.known
    (sym c.trail-lits.ensures.lits) (sym c.deref-in-loop-below.ensures.value) (sym start) refl c.loop-below.invariant.resolving.known_top

pub next_below-requires-clause-below : goal.next_below-requires-clause-below
next_below-requires-clause-below c = λ k low.
    false_below c.args.engine.now c.trail-lits.result.now (length c.deref-in-loop-below.result.now) k c.trail-lits.ensures.trail c.trail-lits.ensures.lits (ap length c.deref-in-loop-below.ensures.value ∙ c.loop-below.invariant.table) low

pub unreachable-requires-in_default-reason_at : goal.unreachable-requires-in_default-reason_at
unreachable-requires-in_default-reason_at c =
    let t : Trail = c.args.engine.now in
    let start : c.end_of-start.result ≡ start_of t = c.end_of-start.ensures ∙ ap (λ (n : ℕ). end_of t (n - 1)) c.level.ensures.level in
    let behind : c.end_of-start.result ≤ c.in-Some-next_below.below = c.in-Some-next_below.ensures.found.behind in
    let before : c.in-Some-next_below.below < c.loop-below.place = c.in-Some-next_below.ensures.before in
    has_reason t c.loop-below.place c.trail-lits.ensures.trail (omega (arith, start, behind, before)) c.loop-below.invariant.resolving.within (sym c.reason_at.ensures ∙ c.in_default-reason_at.is)

pub lits-clause-requires : goal.lits-clause-requires
lits-clause-requires c =
    reason_attached c.args.engine.now c.args.pool.now.clauses c.loop-below.place c.in-Some-reason_at.reason c.trail-lits.ensures.trail c.loop-below.invariant.resolving.within (sym c.reason_at.ensures ∙ c.in-Some-reason_at.is) c.requires.attached

pub last_marked-requires-in-Some-next_below-clause-below : goal.last_marked-requires-in-Some-next_below-clause-below
last_marked-requires-in-Some-next_below-clause-below c = λ k low.
    false_below c.args.engine.now c.trail-lits.result.now (length c.deref-in-Some-next_below-2.result.now) k c.trail-lits.ensures.trail c.trail-lits.ensures.lits (ap length c.deref-in-Some-next_below-2.ensures.value ∙ c.resolve_at.ensures.table) low

pub unreachable-requires-in_default-last_marked : goal.unreachable-requires-in_default-last_marked
unreachable-requires-in_default-last_marked c =
    let t : Trail = c.args.engine.now in
    let start : c.end_of-start.result ≡ start_of t = c.end_of-start.ensures ∙ ap (λ (n : ℕ). end_of t (n - 1)) c.level.ensures.level in
    below_stays t c.loop-below.resolution.marks.items c.resolve_at.new.resolution.marks.items c.loop-below.place c.loop-below.known c.in-Some-next_below.below c.trail-lits.ensures.trail c.loop-below.invariant.resolving
    (top_is c.trail-lits.result.now t.lits c.deref-in-loop-below.result.now c.loop-below.resolution.marks.items c.end_of-start.result (start_of t) (c.in-Some-next_below.below + 1) (c.in-Some-next_below.below + 1) c.in-Some-next_below.below
    c.trail-lits.ensures.lits c.deref-in-loop-below.ensures.value start refl c.in-Some-next_below.ensures.found)
    c.in-Some-next_below.ensures.before c.in_ok-resolve_at.ensures.resolved
    (none_is c.trail-lits.result.now t.lits c.deref-in-Some-next_below-2.result.now c.resolve_at.new.resolution.marks.items c.in-Some-next_below.below c.in-Some-next_below.below c.loop-below.place c.loop-below.place
    c.trail-lits.ensures.lits c.deref-in-Some-next_below-2.ensures.value refl refl c.in_default-last_marked.ensures.none)

pub loop-below-preserved : goal.loop-below-preserved
loop-below-preserved c =
    let t : Trail = c.args.engine.now in
    let start : c.end_of-start.result ≡ start_of t = c.end_of-start.ensures ∙ ap (λ (n : ℕ). end_of t (n - 1)) c.level.ensures.level in
    record {
      chain = c.in_ok-resolve_at.ensures.chain;
      table = c.resolve_at.ensures.table;
      resolving = resolving_next t c.loop-below.resolution.marks.items c.resolve_at.new.resolution.marks.items c.loop-below.place c.loop-below.known c.in-Some-next_below.below c.in-Some-last_marked.next c.trail-lits.ensures.trail c.loop-below.invariant.resolving
          (top_is c.trail-lits.result.now t.lits c.deref-in-loop-below.result.now c.loop-below.resolution.marks.items c.end_of-start.result (start_of t) (c.in-Some-next_below.below + 1) (c.in-Some-next_below.below + 1) c.in-Some-next_below.below
          c.trail-lits.ensures.lits c.deref-in-loop-below.ensures.value start refl c.in-Some-next_below.ensures.found)
          c.in-Some-next_below.ensures.before c.in_ok-resolve_at.ensures.resolved
          (top_is c.trail-lits.result.now t.lits c.deref-in-Some-next_below-2.result.now c.resolve_at.new.resolution.marks.items c.in-Some-next_below.below c.in-Some-next_below.below c.loop-below.place c.loop-below.place c.in-Some-last_marked.next
          c.trail-lits.ensures.lits c.deref-in-Some-next_below-2.ensures.value refl refl c.in-Some-last_marked.ensures.top);
    }

pub returns-clause-uip : goal.returns-clause-uip
returns-clause-uip c =
    let t : Trail = c.args.engine.now in
    let start : c.end_of-start.result ≡ start_of t = c.end_of-start.ensures ∙ ap (λ (n : ℕ). end_of t (n - 1)) c.level.ensures.level in
    uip_found t c.loop-below.resolution.marks.items c.loop-below.place c.loop-below.known c.loop-below.invariant.resolving
    (none_is c.trail-lits.result.now t.lits c.deref-in-loop-below.result.now c.loop-below.resolution.marks.items c.end_of-start.result (start_of t) c.loop-below.place c.loop-below.place
    c.trail-lits.ensures.lits c.deref-in-loop-below.ensures.value start refl c.in_default-next_below.ensures.none)
