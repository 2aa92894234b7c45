-- Gates over clauses that grow: those that stand stay, and a new one stands where its clauses were put.
use Rattle.std.proofs.Common.{inl, inr, ◌≡◌, ◌⊎◌, ℕ, zero, suc, ◌+◌, ◌≤◌, List, [], ◌∷◌, ◌++◌, Some, length, take, drop, min, refl, sym, ap, subst, ◌∙◌, arith, length-drop}
use Rattle.std.specs.List.{slice_get}
use Rattle.std.proofs.lemmas.List.{take-append-le, drop-append-le, length-take}
use Rattle.std.proofs.Math.Seq.{drop-append_seam}
use Rattle.clausify.specs.Joints.{joint_clauses}
use Rattle.clausify.specs.Layout.{IsGate, AreGates}
use Rattle.clausify.specs.declared.joint.Joint.{Joint}
use Rattle.clausify.specs.declared.joint.Joint.TheVariants.{All, Any}
use Rattle.clausify.specs.declared.layout.Gate.{Gate}
use Rattle.clausify.specs.declared.layout.Gates.{Gates}

pub length-joint_clauses : (joint : Joint) (v k l : ℕ) → length (joint_clauses joint v k l) ≡ 3
length-joint_clauses All v k l = refl
length-joint_clauses Any v k l = refl

take-joint_clauses : (joint : Joint) (v k l : ℕ) → take 3 (joint_clauses joint v k l) ≡ joint_clauses joint v k l
take-joint_clauses All v k l = refl
take-joint_clauses Any v k l = refl

-- the three clauses of a gate are inside
pub gate_within : (clauses : List (List ℕ)) (v : ℕ) (g : Gate) → IsGate clauses v g → g.clause + 3 ≤ length clauses
gate_within clauses v g is =
    let long : length (take 3 (drop g.clause clauses)) ≡ 3 = ap length is ∙ length-joint_clauses g.joint v g.left g.right in
    let least : min 3 (length (drop g.clause clauses)) ≡ 3 = sym (length-take 3 (drop g.clause clauses)) ∙ long in
    omega (arith, least, length-drop g.clause clauses)

gate_kept : (clauses more : List (List ℕ)) (v : ℕ) (g : Gate) → IsGate clauses v g → IsGate (clauses ++ more) v g
gate_kept clauses more v g is =
    let inside : g.clause + 3 ≤ length clauses = gate_within clauses v g is in
    ap (take 3) (drop-append-le g.clause clauses more (omega arith))
    ∙ take-append-le 3 (drop g.clause clauses) more (omega (arith, length-drop g.clause clauses))
    ∙ is

pub gates_kept : (clauses longer more : List (List ℕ)) (gates : Gates) → longer ≡ clauses ++ more → AreGates clauses gates → AreGates longer gates
gates_kept clauses longer more gates is h =
    subst (λ (cs : List (List ℕ)). AreGates cs gates) (sym is) (λ k g there. gate_kept clauses more (gates.first + k) g (h k g there))

-- the clauses of a gate that were put at the end
pub gate_at_end : (clauses longer : List (List ℕ)) (v : ℕ) (g : Gate) → g.clause ≡ length clauses → longer ≡ clauses ++ joint_clauses g.joint v g.left g.right → IsGate longer v g
gate_at_end clauses longer v g at is =
    ap (λ (k : ℕ). take 3 (drop k longer)) at ∙ ap (λ (cs : List (List ℕ)). take 3 (drop (length clauses) cs)) is
    ∙ ap (take 3) (drop-append_seam clauses (joint_clauses g.joint v g.left g.right))
    ∙ take-joint_clauses g.joint v g.left g.right

last_or_before : {X : Type 0} (xs : List X) (x : X) (k : ℕ) (y : X) → slice_get (xs ++ x ∷ []) k ≡ Some y → (slice_get xs k ≡ Some y) ⊎ ((k ≡ length xs) × (x ≡ y))
last_or_before [] x zero y is = inr (refl, cc)
last_or_before [] x (suc k) y is = cc
last_or_before (z ∷ xs) x zero y is = inl is
last_or_before (z ∷ xs) x (suc k) y is = elim (last_or_before xs x k y is) [ inl before_ ↦ inl before_ | inr last ↦ inr (ap suc last.0, last.1) ]

pub gates_pushed : (clauses : List (List ℕ)) (gates more : Gates) (g : Gate) → more.first ≡ gates.first → more.list.items ≡ gates.list.items ++ g ∷ []
    → AreGates clauses gates → IsGate clauses (gates.first + length gates.list.items) g → AreGates clauses more
gates_pushed clauses gates more g first items h new = λ k e there.
    subst (λ (v : ℕ). IsGate clauses (v + k) e) (sym first)
    (elim (last_or_before gates.list.items g k e (ap (λ (gs : List Gate). slice_get gs k) (sym items) ∙ there)) [
      | inl old ↦ h k e old
      | inr last ↦ subst (λ (j : ℕ). IsGate clauses (gates.first + j) e) (sym last.0) (subst (IsGate clauses (gates.first + length gates.list.items)) last.1 new)
    ])
