use Rattle.std.proofs.Common.{◌≡◌, List, ℕ, [], ◌∷◌, ◌++◌, length, sym, ap, subst, ◌∙◌}
use Rattle.std.specs.List.{AllByRecursion}
use Rattle.clause_pool.specs.Clause.{IsRising, clause_of}
use Rattle.clause_pool.specs.PoolContents.{PoolContents}
use Rattle.clause_pool.specs.Region.{region}
use Rattle.clause_pool.proofs.ClauseLaws.{all_push, IsRising-clause_of}
use Rattle.clause_pool.proofs.RegionLaws.{length_region, region_appended, IsRegion_appended}
use Rattle.clause_pool.proofs.pool.Pool.add_reserved.Goals as goal
use Rattle.clause_pool.proofs.pool.Pool.add_reserved.Goals.{After-put_in_order}

-- the clauses are the lists of the region
clauses_are : (c : After-put_in_order) → region c.self.inside.starts.items c.self.inside.lits.items ≡ c.args.self.now.clauses
clauses_are c = ap (λ (p : PoolContents). p.clauses) c.self.view_is

appended : (c : After-put_in_order) → region c.push_reserved.new.self.items c.put_in_order.new.items.items ≡ region c.self.inside.starts.items c.self.inside.lits.items ++ clause_of c.args.lits.now ∷ []
appended c =
    region_appended c.self.inside.starts.items _ c.self.inside.lits.items _ (clause_of c.args.lits.now) c.len.result c.self.invariant.0 (c.len.ensures ∙ c.self.inside.lits.ok.0)
    c.push_reserved.ensures.items c.put_in_order.ensures.items

pub returns-clause-place : goal.returns-clause-place
returns-clause-place c =
    c.len-at.ensures ∙ c.self.inside.starts.ok.0
    ∙ sym (length_region c.self.inside.starts.items c.self.inside.lits.items) ∙ ap length (clauses_are c)

pub returns-clause-clauses : goal.returns-clause-clauses
returns-clause-clauses c =
    appended c ∙ ap (λ (cs : List (List ℕ)). cs ++ clause_of c.args.lits.now ∷ []) (clauses_are c)

pub invariant_of-self : goal.invariant_of-self
invariant_of-self c = (
  IsRegion_appended c.self.inside.starts.items _ c.self.inside.lits.items _ (clause_of c.args.lits.now) c.len.result c.self.invariant.0 (c.len.ensures ∙ c.self.inside.lits.ok.0)
      c.push_reserved.ensures.items c.put_in_order.ensures.items,
  subst (λ (cs : List (List ℕ)). AllByRecursion IsRising cs) (sym (appended c))
      (all_push IsRising (region c.self.inside.starts.items c.self.inside.lits.items) (clause_of c.args.lits.now) c.self.invariant.1 (IsRising-clause_of c.args.lits.now)),
)
