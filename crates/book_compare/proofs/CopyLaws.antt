-- A pool that is copied clause by clause.
use Rattle.std.proofs.Common.{◌≡◌, ℕ, ◌+◌, ◌<◌, List, [], ◌∷◌, ◌++◌, length, get_or, take, sym, ap, ◌∙◌}
use Rattle.std.proofs.lemmas.List.{take_more}
use Rattle.clause_pool.specs.Clause.{IsRising, clause_of}
use Rattle.clause_pool.proofs.ClauseLaws.{clause_of-rising}

pub copy_more : (at : ℕ) (all old new : List (List ℕ)) (c : List ℕ) → at < length all → old ≡ take at all → c ≡ get_or all at [] → IsRising c → new ≡ old ++ clause_of c ∷ [] → new ≡ take (at + 1) all
copy_more at all old new c within is read rising added =
    added ∙ ap (λ (d : List ℕ). old ++ d ∷ []) (clause_of-rising c rising ∙ read) ∙ ap (λ (cs : List (List ℕ)). cs ++ get_or all at [] ∷ []) is ∙ sym (take_more all at [] within)
