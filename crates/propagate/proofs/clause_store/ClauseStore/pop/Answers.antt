use Rattle.std.proofs.Common.{◌≡◌, ◌<◌, ◌-◌, List, ℕ, length, take, ap, ◌∙◌, arith}
use Rattle.clause_pool.specs.Region.{region}
use Rattle.clause_pool.proofs.RegionLaws.{length_region, region_cut, IsRegion_cut}
use Rattle.propagate.proofs.clause_store.ClauseStore.pop.Goals as goal

pub invariant_of-self : goal.invariant_of-self
invariant_of-self c =
    let some = ap length c.self.view_is in
    let below : c.len-last.result - 1 < length c.self.inside.starts.items =
    omega (arith, c.requires, c.len-last.ensures, c.self.inside.starts.ok.0, some, length_region c.self.inside.starts.items c.self.inside.codes.items) in
    IsRegion_cut c.self.inside.starts.items c.truncate-2.new.self.items c.self.inside.codes.items c.truncate.new.self.items (c.len-last.result - 1) c.index.result.now
    c.self.invariant below c.index.ensures c.truncate-2.ensures.items c.truncate.ensures.items

pub returns : goal.returns
returns c =
    let some = ap length c.self.view_is in
    let below : c.len-last.result - 1 < length c.self.inside.starts.items =
    omega (arith, c.requires, c.len-last.ensures, c.self.inside.starts.ok.0, some, length_region c.self.inside.starts.items c.self.inside.codes.items) in
    let same : c.len-last.result - 1 ≡ length c.args.self.now - 1 =
    omega (arith, c.len-last.ensures, c.self.inside.starts.ok.0, some, length_region c.self.inside.starts.items c.self.inside.codes.items) in
    region_cut c.self.inside.starts.items c.truncate-2.new.self.items c.self.inside.codes.items c.truncate.new.self.items (c.len-last.result - 1) c.index.result.now
    c.self.invariant below c.index.ensures c.truncate-2.ensures.items c.truncate.ensures.items
    ∙ ap (λ (n : ℕ). take n (region c.self.inside.starts.items c.self.inside.codes.items)) same
    ∙ ap (λ (cs : List (List ℕ)). take (length c.args.self.now - 1) cs) c.self.view_is
