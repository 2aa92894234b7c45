use Rattle.std.proofs.Common.{◌≡◌, List, ℕ, [], ◌∷◌, ◌++◌, length, ap, ◌∙◌, arith}
use Rattle.clause_pool.proofs.RegionLaws.{region_appended, IsRegion_appended}
use Rattle.propagate.proofs.clause_store.ClauseStore.push.Goals as goal

pub invariant_of-self-2 : goal.invariant_of-self-2
invariant_of-self-2 c =
    let starts = c.push_reserved.ensures.items ∙ ap (λ (xs : List ℕ). xs ++ c.len-start.result ∷ []) c.in_ok-make_room.ensures.items in
    let codes = c.append_codes.ensures ∙ ap (λ (xs : List ℕ). xs ++ c.args.lits.now) c.in_ok-make_room-2.ensures.items in
    let start : c.len-start.result ≡ length c.self.inside.codes.items = omega (arith, c.len-start.ensures, c.self.inside.codes.ok.0) in
    IsRegion_appended c.self.inside.starts.items c.push_reserved.new.self.items c.self.inside.codes.items c.append_codes.new.codes.items c.args.lits.now c.len-start.result c.self.invariant start starts codes

pub returns-clause-ok : goal.returns-clause-ok
returns-clause-ok c =
    let starts = c.push_reserved.ensures.items ∙ ap (λ (xs : List ℕ). xs ++ c.len-start.result ∷ []) c.in_ok-make_room.ensures.items in
    let codes = c.append_codes.ensures ∙ ap (λ (xs : List ℕ). xs ++ c.args.lits.now) c.in_ok-make_room-2.ensures.items in
    let start : c.len-start.result ≡ length c.self.inside.codes.items = omega (arith, c.len-start.ensures, c.self.inside.codes.ok.0) in
    region_appended c.self.inside.starts.items c.push_reserved.new.self.items c.self.inside.codes.items c.append_codes.new.codes.items c.args.lits.now c.len-start.result c.self.invariant start starts codes
    ∙ ap (λ (cs : List (List ℕ)). cs ++ c.args.lits.now ∷ []) c.self.view_is
