use Rattle.std.proofs.Common.{refl, ◌∙◌, [], ◌∷◌}
use Rattle.std.proofs.lemmas.Slice.{pushed}
use Rattle.clause_pool.proofs.RegionLaws.{region_appended, IsRegion_appended}
use Rattle.clause_pool.proofs.region.append.Goals as goal

pub returns-clause-lists : goal.returns-clause-lists
returns-clause-lists g c =
    let starts = c.args.starts.now in
    let items = c.args.items.now in
    region_appended starts.items _ items.items _ c.args.list.now c.len.result c.requires.region (c.len.ensures ∙ items.ok.0)
    (pushed {was = starts.items} {now = c.push.new.self.items} (c.len.result ∷ []) refl c.unwrap.ensures c.push.ensures.items)
    (pushed {was = items.items} {now = c.extend_from_slice.new.self.items} c.args.list.now refl c.unwrap-2.ensures c.extend_from_slice.ensures.items)

pub returns-clause-region : goal.returns-clause-region
returns-clause-region g c =
    let starts = c.args.starts.now in
    let items = c.args.items.now in
    IsRegion_appended starts.items _ items.items _ c.args.list.now c.len.result c.requires.region (c.len.ensures ∙ items.ok.0)
    (pushed {was = starts.items} {now = c.push.new.self.items} (c.len.result ∷ []) refl c.unwrap.ensures c.push.ensures.items)
    (pushed {was = items.items} {now = c.extend_from_slice.new.self.items} c.args.list.now refl c.unwrap-2.ensures c.extend_from_slice.ensures.items)
