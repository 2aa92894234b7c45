-- The gates that were there stand, and the new one stands where its clauses were put.
use Rattle.std.proofs.Common.{ℕ, List, length, refl, ap, subst, arith, length-append}
use Rattle.clausify.specs.Joints.{joint_clauses}
use Rattle.clausify.specs.Layout.{IsGate}
use Rattle.clausify.specs.declared.layout.Gate.{Gate}
use Rattle.clausify.specs.declared.layout.Gates.{Gates}
use Rattle.clausify.proofs.GateLaws.{gates_kept, gate_at_end, gates_pushed}
use Rattle.clausify.proofs.encoder.Encoder.join.Goals as goal

pub invariant_of-self-2 : goal.invariant_of-self-2
invariant_of-self-2 c =
    let old : List (List ℕ) = c.args.self.now.pool.clauses in
    let new : List (List ℕ) = c.tie.new.pool.clauses in
    let gates : Gates = c.args.self.now.gates in
    let gate : Gate = record { joint = c.args.joint; left = c.args.left; right = c.args.right; clause = c.len-clause.result } in
    record {
      counted = omega (arith, c.args.self.now.counted, simp length-append at (ap length c.in_ok-push.ensures.items));
      laid = gates_pushed new gates (record { first = gates.first; list = c.push.new.self }) gate refl c.in_ok-push.ensures.items
          (gates_kept old new (joint_clauses c.args.joint c.args.self.now.next c.args.left c.args.right) gates c.in_ok-tie.ensures.ok c.args.self.now.laid)
          (subst (λ (v : ℕ). IsGate new v gate) c.args.self.now.counted (gate_at_end old new c.args.self.now.next gate c.len-clause.ensures c.in_ok-tie.ensures.ok));
    }
