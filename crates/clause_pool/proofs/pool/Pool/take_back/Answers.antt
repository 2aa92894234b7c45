use Rattle.std.proofs.Common.{◌≡◌, ◌<◌, ◌≤◌, List, ℕ, length, take, sym, ap, subst, ◌∙◌, arith}
use Rattle.std.specs.List.{AllByRecursion}
use Rattle.std.proofs.lemmas.List.{take_all}
use Rattle.clause_pool.specs.Clause.{IsRising}
use Rattle.clause_pool.specs.PoolContents.{PoolContents}
use Rattle.clause_pool.specs.Region.{region}
use Rattle.clause_pool.proofs.ClauseLaws.{all_take}
use Rattle.clause_pool.proofs.RegionLaws.{length_region, region_cut, IsRegion_cut}
use Rattle.clause_pool.proofs.pool.Pool.take_back.Goals as goal
use Rattle.clause_pool.proofs.pool.Pool.take_back.Goals.{After-truncate-then-mark-len}

-- the lists of the region are the first of those before
cut : (c : After-truncate-then-mark-len) → region c.truncate-then-mark-len.new.self.items c.truncate.new.self.items ≡ take c.mark.inside.clauses (region c.self.inside.starts.items c.self.inside.lits.items)
cut c =
    let below : c.mark.inside.clauses < length c.self.inside.starts.items = omega (arith, c.len.ensures, c.self.inside.starts.ok.0) in
    region_cut _ _ _ _ _ _ c.self.invariant.0 below c.index.ensures c.truncate-then-mark-len.ensures.items c.truncate.ensures.items

pub invariant_of-self : goal.invariant_of-self
invariant_of-self c =
    let below : c.mark.inside.clauses < length c.self.inside.starts.items = omega (arith, c.len.ensures, c.self.inside.starts.ok.0) in (
      IsRegion_cut _ _ _ _ _ _ c.self.invariant.0 below c.index.ensures c.truncate-then-mark-len.ensures.items c.truncate.ensures.items,
      subst (λ (cs : List (List ℕ)). AllByRecursion IsRising cs) (sym (cut c))
          (all_take IsRising c.mark.inside.clauses (region c.self.inside.starts.items c.self.inside.lits.items) c.self.invariant.1),
    )

pub returns-then-mark-len-clause-clauses : goal.returns-then-mark-len-clause-clauses
returns-then-mark-len-clause-clauses c =
    cut c ∙ ap (λ (n : ℕ). take n (region c.self.inside.starts.items c.self.inside.lits.items)) c.mark.view_is
    ∙ ap (λ (p : PoolContents). take c.args.mark p.clauses) c.self.view_is

pub returns-else-mark-len-clause-clauses : goal.returns-else-mark-len-clause-clauses
returns-else-mark-len-clause-clauses c =
    let clauses = ap (λ (p : PoolContents). p.clauses) c.self.view_is in
    let all : length c.args.self.now.clauses ≤ c.args.mark =
    omega (arith, c.mark.view_is, c.len.ensures, c.self.inside.starts.ok.0, length_region c.self.inside.starts.items c.self.inside.lits.items, ap length clauses) in
    sym (take_all c.args.mark c.args.self.now.clauses all)
