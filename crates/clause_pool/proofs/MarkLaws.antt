-- What holds of the marks of a clause in the making.
use Rattle.std.proofs.Common.{◌≡◌, inl, inr, ℕ, zero, suc, Bool, true, false, ◌||◌, ◌&&◌, eqb, List, [], ◌∷◌, refl, sym, ap, ◌∙◌}
use Rattle.std.proofs.Math.ListN.{set}
use Rattle.std.specs.List.{filter}
use Rattle.std.proofs.lemmas.Bool.{cases_eq, eqb-true}
use Rattle.std.proofs.lemmas.List.{get_or-set_other}
use Rattle.std.proofs.lemmas.Map.Views.{any-filter_same}
use Rattle.clause_pool.specs.Literal.{complement}
use Rattle.clause_pool.specs.Clause.{has, without, IsRising, clause_of}
use Rattle.clause_pool.specs.Chain.{resolved}
use Rattle.clause_pool.specs.Marks.{marked, AreTouched, IsJoined, clause_marked}
use Rattle.clause_pool.proofs.ClauseLaws.{has-clause_of, has-without_other, has-without_same, same_clause, IsRising-clause_of}
use Rattle.clause_pool.proofs.ChainLaws.{IsRising-resolved, has-resolved}

-- a mark that is taken away, also past the table
marked_gone : (marks : List Bool) (x : ℕ) → marked (set marks x false) x ≡ false
marked_gone [] x = refl
marked_gone (b ∷ bs) zero = refl
marked_gone (b ∷ bs) (suc x) = marked_gone bs x

-- the clause of the marked literals has just them
pub has-clause_marked : (marks : List Bool) (lits : List ℕ) → AreTouched marks lits → (l : ℕ) → has (clause_marked marks lits) l ≡ marked marks l
has-clause_marked marks lits touched l =
    has-clause_of (filter (λ x. marked marks x) lits) l
    ∙ any-filter_same (λ x. eqb x l) (λ x. marked marks x) (marked marks l) (λ k t. ap (marked marks) (eqb-true k l t)) lits
    ∙ go (marked marks l) (has lits l) (touched l) where
      go : (m h : Bool) → (m ≡ true → h ≡ true) → (m && h) ≡ m
      go true h t = t refl
      go false h t = refl

-- the clause of the marked literals is each clause in order that has just them
pub clause_marked_is : (marks : List Bool) (lits c : List ℕ) → AreTouched marks lits → IsRising c → ((l : ℕ) → marked marks l ≡ has c l) → clause_marked marks lits ≡ c
clause_marked_is marks lits c touched rises same =
    same_clause (clause_marked marks lits) c (IsRising-clause_of (filter (λ x. marked marks x) lits)) rises
    (λ l. has-clause_marked marks lits touched l ∙ same l)

-- the marks of a clause, where none was before
pub begun : (old new : List Bool) (touched lits : List ℕ) → ((l : ℕ) → marked old l ≡ false) → AreTouched new touched → IsJoined old new lits → clause_marked new touched ≡ clause_of lits
begun old new touched lits clear t joined =
    clause_marked_is new touched (clause_of lits) t (IsRising-clause_of lits)
    (λ l. joined l ∙ ap (λ b. b || has lits l) (clear l) ∙ sym (has-clause_of lits l))

-- the marks of a resolvent
pub marks_resolved : (old fewer new : List Bool) (before after other : List ℕ) (x y : ℕ) → AreTouched old before → AreTouched new after → fewer ≡ set old x false → y ≡ complement x → IsJoined fewer new (without y other) → clause_marked new after ≡ resolved (clause_marked old before) x other
marks_resolved old fewer new before after other x y t u is pivot joined =
    let running = clause_marked old before in
    clause_marked_is new after (resolved running x other) u (IsRising-resolved running x other)
    (λ l. joined l
    ∙ ap (λ b. b || has (without y other) l) (ap (λ (ms : List Bool). marked ms l) is ∙ elim (cases_eq l x) [
      | inl e ↦ ap (marked (set old x false)) e ∙ marked_gone old x ∙ sym (ap (has (without x running)) e ∙ has-without_same x running)
      | inr ne ↦ get_or-set_other old x l false false ne ∙ sym (has-clause_marked old before t l) ∙ sym (has-without_other x running l ne)
    ])
    ∙ ap (λ z. has (without x running) l || has (without z other) l) pivot
    ∙ sym (has-resolved running x other l))
