-- What passes with each variable of formulas and claims, and with the complement of each literal with which it passes, passes with
-- each literal of their clauses.
use Rattle.std.proofs.Common.{◌≡◌, ℕ, ◌+◌, ◌<◌, true, false, List, [], ◌∷◌, ◌++◌, map, Option, None, Some, subst, arith}
use Rattle.std.specs.List.{AllByRecursion}
use Rattle.std.specs.Option.{IfSome}
use Rattle.std.proofs.lemmas.Bool.{and_parts, ltb-true}
use Rattle.pb_base.specs.Rule.{Rule, code, negation, both, either, always, never, codes_below}
use Rattle.clause_pool.specs.Literal.{literal, complement}
use Rattle.clause_pool.specs.Clause.{clause_of}
use Rattle.clause_pool.proofs.ClauseLaws.{all-insert_literal}
use Rattle.clausify.specs.Formulas.{connectives, formula_literal, formula_clauses, both_clauses, either_clauses}
use Rattle.clausify.specs.Joints.{joint_clauses}
use Rattle.clausify.specs.Items.{Claim, adds, needed_by, needed, one_of, most_of, free, any_literals, apart_literals, claim_literals, clause_where, claim_where}
use Rattle.clausify.specs.Pairs.{pairs}
use Rattle.clausify.specs.declared.joint.Joint.{Joint}
use Rattle.clausify.specs.declared.joint.Joint.TheVariants as joints
use Rattle.clausify.proofs.ListLaws.{all-append, all-map, all_pairs, all_weaker}
use Rattle.clausify.proofs.GroupLaws.{AreCodes, below_all}
use Rattle.clausify.proofs.ItemLaws.{claim_fits}

-- P of a literal and V of a variable
pub record Passes (P V : ℕ → Type 0) : Type 0 where
  pub on : (v : ℕ) → V v → P (literal v true)
  pub off : (v : ℕ) → V v → P (literal v false)
  pub flip : (l : ℕ) → P l → P (complement l)

module _ {P V : ℕ → Type 0} (p : Passes P V) where
  abbrev pub Each : List (List ℕ) → Type 0
  Each cs = AllByRecursion (AllByRecursion P) cs

  pub each-clause_of : (ls : List ℕ) → AllByRecursion P ls → AllByRecursion P (clause_of ls)
  each-clause_of [] h = tt
  each-clause_of (l ∷ ls) h = all-insert_literal P l (clause_of ls) h.0 (each-clause_of ls h.1)

  pub each_both : (v k l : ℕ) → V v → P k → P l → Each (both_clauses v k l)
  each_both v k l hv hk hl = (
    each-clause_of (literal v false ∷ k ∷ []) (p.off v hv, (hk, tt)),
    (
      each-clause_of (literal v false ∷ l ∷ []) (p.off v hv, (hl, tt)),
      (each-clause_of (literal v true ∷ complement k ∷ complement l ∷ []) (p.on v hv, (p.flip k hk, (p.flip l hl, tt))), tt),
    ),
  )

  pub each_either : (v k l : ℕ) → V v → P k → P l → Each (either_clauses v k l)
  each_either v k l hv hk hl = (
    each-clause_of (literal v false ∷ k ∷ l ∷ []) (p.off v hv, (hk, (hl, tt))),
    (
      each-clause_of (literal v true ∷ complement k ∷ []) (p.on v hv, (p.flip k hk, tt)),
      (each-clause_of (literal v true ∷ complement l ∷ []) (p.on v hv, (p.flip l hl, tt)), tt),
    ),
  )

  pub each_joint : (joint : Joint) (v k l : ℕ) → V v → P k → P l → Each (joint_clauses joint v k l)
  each_joint joints.All v k l hv hk hl = each_both v k l hv hk hl
  each_joint joints.Any v k l hv hk hl = each_either v k l hv hk hl

  -- the variables from v on are the formula's own
  abbrev pub Own : ℕ → Rule → Type 0
  Own v f = (k : ℕ) → k < connectives f → V (v + k)

  joined : (v : ℕ) (f g : Rule) → ((k : ℕ) → k < connectives f + connectives g + 1 → V (v + k)) → V (v + connectives f + connectives g)
  joined v f g own = let e : v + (connectives f + connectives g) ≡ v + connectives f + connectives g = omega arith in subst V e (own (connectives f + connectives g) (omega arith))

  own_left : (v : ℕ) (f g : Rule) → ((k : ℕ) → k < connectives f + connectives g + 1 → V (v + k)) → Own v f
  own_left v f g own = λ k below. own k (omega arith)

  own_right : (v : ℕ) (f g : Rule) → ((k : ℕ) → k < connectives f + connectives g + 1 → V (v + k)) → Own (v + connectives f) g
  own_right v f g own = λ k below. let e : v + (connectives f + k) ≡ v + connectives f + k = omega arith in subst V e (own (connectives f + k) (omega arith))

  module _ (c n : ℕ) (codes : (i : ℕ) → i < c → V i) (truth : V n) where
    pub literal_passes : (v : ℕ) (f : Rule) → codes_below c f ≡ true → Own v f → P (formula_literal n v f)
    literal_passes v (code place) fit own = p.on place (codes place (ltb-true place c fit))
    literal_passes v (negation f) fit own = p.flip (formula_literal n v f) (literal_passes v f fit own)
    literal_passes v (both f g) fit own = p.on (v + connectives f + connectives g) (joined v f g own)
    literal_passes v (either f g) fit own = p.on (v + connectives f + connectives g) (joined v f g own)
    literal_passes v always fit own = p.on n truth
    literal_passes v never fit own = p.off n truth

    pub formula_passes : (v : ℕ) (f : Rule) → codes_below c f ≡ true → Own v f → Each (formula_clauses n v f)
    formula_passes v (code place) fit own = tt
    formula_passes v (negation f) fit own = formula_passes v f fit own
    formula_passes v (both f g) fit own =
        let fits = and_parts (codes_below c f) (codes_below c g) fit in
        all-append _ (formula_clauses n v f ++ formula_clauses n (v + connectives f) g) _
        (all-append _ (formula_clauses n v f) _ (formula_passes v f fits.0 (own_left v f g own)) (formula_passes (v + connectives f) g fits.1 (own_right v f g own)))
        (each_both (v + connectives f + connectives g) (formula_literal n v f) (formula_literal n (v + connectives f) g) (joined v f g own)
        (literal_passes v f fits.0 (own_left v f g own)) (literal_passes (v + connectives f) g fits.1 (own_right v f g own)))
    formula_passes v (either f g) fit own =
        let fits = and_parts (codes_below c f) (codes_below c g) fit in
        all-append _ (formula_clauses n v f ++ formula_clauses n (v + connectives f) g) _
        (all-append _ (formula_clauses n v f) _ (formula_passes v f fits.0 (own_left v f g own)) (formula_passes (v + connectives f) g fits.1 (own_right v f g own)))
        (each_either (v + connectives f + connectives g) (formula_literal n v f) (formula_literal n (v + connectives f) g) (joined v f g own)
        (literal_passes v f fits.0 (own_left v f g own)) (literal_passes (v + connectives f) g fits.1 (own_right v f g own)))
    formula_passes v always fit own = tt
    formula_passes v never fit own = tt

  -- the clauses of a claim, where l is the literal of the formula
  module _ (c : ℕ) (codes : (i : ℕ) → i < c → V i) where
    any_passes : (group : List ℕ) → AreCodes c group → AllByRecursion P (any_literals group)
    any_passes group are =
        all-map P (λ code_. literal code_ true) group
        (all_weaker (λ code_. code_ < c) (λ code_. P (literal code_ true)) (λ code_ low. p.on code_ (codes code_ low)) group are)

    apart_pass : (group : List ℕ) → AreCodes c group → Each (map apart_literals (pairs group))
    apart_pass group are =
        all-map (AllByRecursion P) apart_literals (pairs group)
        (all_weaker (λ (q : ℕ × ℕ). (q.0 < c) × (q.1 < c)) (λ q. AllByRecursion P (apart_literals q))
        (λ q low. (p.off q.0 (codes q.0 low.0), (p.off q.1 (codes q.1 low.1), tt)))
        (pairs group) (all_pairs (λ code_. code_ < c) group are))

    pub literals_pass : (l : ℕ) (d : Claim) → claim_fits c d ≡ true → P l → Each (claim_literals d l)
    literals_pass l (adds place) fit h = ((p.flip l h, (p.on place (codes place (ltb-true place c fit)), tt)), tt)
    literals_pass l (needed_by place) fit h = ((p.off place (codes place (ltb-true place c fit)), (h, tt)), tt)
    literals_pass l needed fit h = ((h, tt), tt)
    literals_pass l (one_of group) fit h = (any_passes group (below_all c group fit), apart_pass group (below_all c group fit))
    literals_pass l (most_of group) fit h = apart_pass group (below_all c group fit)
    literals_pass l free fit h = tt

    where_passes : (g : Option ℕ) → IfSome g V → (ls : List ℕ) → AllByRecursion P ls → AllByRecursion P (clause_where g ls)
    where_passes None low ls h = each-clause_of ls h
    where_passes (Some g) low ls h = each-clause_of (literal g false ∷ ls) (p.off g low, h)

    pub claim_passes : (l : ℕ) (g : Option ℕ) (d : Claim) → IfSome g V → claim_fits c d ≡ true → P l → Each (claim_where g d l)
    claim_passes l g d low fit h =
        all-map (AllByRecursion P) (clause_where g) (claim_literals d l)
        (all_weaker (AllByRecursion P) (λ ls. AllByRecursion P (clause_where g ls)) (where_passes g low) (claim_literals d l) (literals_pass l d fit h))
