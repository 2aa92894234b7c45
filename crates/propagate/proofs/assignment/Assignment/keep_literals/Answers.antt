use Rattle.std.proofs.Common.{◌≡◌, ℕ, List, ◌<◌, ◌≤◌, length, slice_index, sym, subst, ◌∙◌, ap, arith}
use Rattle.propagate.specs.Assignment.{Assigned, IsAssigned, AreTables}
use Rattle.propagate.specs.declared.assignment.Truth.{Truth}
use Rattle.propagate.proofs.AssignmentSteps.{first_by, written_back}
use Rattle.propagate.proofs.assignment.Assignment.keep_literals.Goals as goal

pub invariant_of-self : goal.invariant_of-self
invariant_of-self c =
    let inside = c.self.inside in
    let places = inside.places.items in
    let a : Assigned = record { vars = length places; lits = inside.lits.items; reasons = inside.reasons.items; starts = inside.starts.items } in
    let new : Assigned = record { vars = length places; lits = c.truncate.new.self.items; reasons = c.truncate-2.new.self.items; starts = inside.starts.items } in
    let starts = subst (λ (b : Assigned). (i : ℕ) → i < length b.starts → slice_index b.starts i ≤ c.args.end) (sym c.self.view_is) c.requires.within in
    let tables = subst (λ (v : List Truth). AreTables v places a) (sym c.deref_mut.ensures.value) c.self.invariant.1 in
    let opened = c.open_behind.ensures.opened places a (sym c.deref.ensures.value) c.self.invariant.0 tables starts in
    let same = first_by (length places) c.args.end _ _ _ _ inside.starts.items c.truncate.ensures.items c.truncate-2.ensures.items in
    let count : length c.open_behind.new.values ≡ length inside.values.items = c.open_behind.ensures.count ∙ ap length c.deref_mut.ensures.value in
    let back = written_back c.open_behind.new.values inside.values.items inside.values.len (omega (arith, inside.values.ok.0)) count in (
      subst (λ (b : Assigned). IsAssigned b) same opened.assigned,
      subst (λ (v : List Truth). AreTables v places new) (sym back) (subst (λ (b : Assigned). AreTables c.open_behind.new.values places b) same opened.tables),
      omega arith,
      omega (arith, c.truncate.ensures.capacity),
      omega (arith, c.truncate-2.ensures.capacity),
      omega arith,
    )
