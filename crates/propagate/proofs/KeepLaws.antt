-- What the clauses' watches keep while literals become true.
use Rattle.std.proofs.Common.{◌≡◌, ◌⊎◌, inl, inr, ℕ, zero, suc, ◌+◌, ◌<◌, ◌≤◌, true, false, List, [], ◌∷◌, ◌++◌, append_assoc, append-nil, Option, Some, None, length, map, take, get_or, eqb, refl, sym, subst, ◌∙◌, ap, arith, length-append}
use Rattle.std.specs.List.{AllByRecursion, list_any}
use Rattle.std.proofs.lemmas.Bool.{cases_eq, false≢true, true≢false, or_cases, or_left, eqb-true, eq-eqb}
use Rattle.std.proofs.lemmas.List.Folds.{list_any_at}
use Rattle.std.proofs.lemmas.List.{map-append, take-append-le, take_all, take_more}
use Rattle.std.proofs.Math.ListN.{get_or-append, get_or-eq_default}
use Rattle.std.proofs.Math.Seq.{get_or-append_seam, take-append_seam}
use Rattle.clause_pool.specs.Literal.{complement}
use Rattle.clause_pool.specs.Clause.{has}
use Rattle.clause_pool.proofs.ClauseLaws.{has-append, all_push}
use Rattle.clause_pool.proofs.LiteralLaws.{complement-complement}
use Rattle.propagate.proofs.AssignmentLaws.{has_push}
use Rattle.propagate.specs.Trail.{IsReason}
use Rattle.propagate.specs.Assignment.{Assigned, IsAssigned, end_of, with_literal}
use Rattle.propagate.specs.Watching.{HasTrue, Watching, Visits, head_of, clause_at, pair_of, list_of, IsListed, IsVisited, IsWatched, IsHeld, AreHeld, IsVisiting, Grown, AreReasons, AreTrue, Shifted, Watches}
use Rattle.propagate.specs.Watching.IsHeld.{fixed, paired}
use Rattle.propagate.specs.declared.watch.Watch.{Watch}
use Rattle.propagate.specs.declared.watch.Watched.{Watched}
use Rattle.propagate.proofs.QuietLaws.{has_take}

pub true_more : (lits more c : List ℕ) → HasTrue lits c → HasTrue (lits ++ more) c
true_more lits more c (l, is_in, is_true) = (l, is_in, has-append lits more l ∙ or_left (has lits l) (has more l) is_true)

pub grown_not : (a : Assigned) → Grown a a
grown_not a = record { more = []; why = []; counted = refl; is = rw (append-nil, append-nil) refl }

pub grown_one : (a : Assigned) (l at : ℕ) → Grown a (with_literal a l (Some at))
grown_one a l at = record { more = l ∷ []; why = at ∷ []; counted = refl; is = refl }

pub grown_twice : (a b c : Assigned) → Grown a b → Grown b c → Grown a c
grown_twice a b c g h = record {
  more = g.more ++ h.more;
  why = g.why ++ h.why;
  counted = length-append g.why h.why ∙ ap (λ (n : ℕ). n + length h.why) g.counted ∙ ap (λ (n : ℕ). length g.more + n) h.counted ∙ sym (length-append g.more h.more);
  is = h.is ∙ ap (λ (x : Assigned). record { vars = x.vars; lits = x.lits ++ h.more; reasons = x.reasons ++ map Some h.why; starts = x.starts }) g.is
      ∙ rw (append_assoc, append_assoc, map-append) refl;
}

-- a read within a list doesn't see the default
pub same_default : (xs : List ℕ) (n d e : ℕ) → n < length xs → get_or xs n d ≡ get_or xs n e
same_default [] n d e b = absurd (omega arith)
same_default (x ∷ xs) zero d e b = refl
same_default (x ∷ xs) (suc n) d e b = same_default xs n d e (omega (arith, b))

-- what is true up to a level stays so where literals are added
pub end_grown : (a : Assigned) (more c : List ℕ) (n : ℕ) → n ≤ length a.starts → end_of a n ≤ length a.lits → HasTrue (take (end_of a n) a.lits) c
    → HasTrue (take (get_or a.starts n (length (a.lits ++ more))) (a.lits ++ more)) c
end_grown a more c n within ends found = elim (cases_eq n (length a.starts)) [
  | inl last ↦
      let end : get_or a.starts n (length (a.lits ++ more)) ≡ length (a.lits ++ more) = get_or-eq_default a.starts (length (a.lits ++ more)) (omega (arith, last)) in
      let all : take (get_or a.starts n (length (a.lits ++ more))) (a.lits ++ more) ≡ a.lits ++ more = take_all (get_or a.starts n (length (a.lits ++ more))) (a.lits ++ more) (omega (arith, end)) in
      subst (λ (xs : List ℕ). HasTrue xs c) (sym all) (true_more a.lits more c (found.0, found.1, has_take (end_of a n) a.lits found.0 found.2))
  | inr other ↦
      let end : get_or a.starts n (length (a.lits ++ more)) ≡ end_of a n = same_default a.starts n (length (a.lits ++ more)) (length a.lits) (omega (arith, within, other)) in
      let same : take (get_or a.starts n (length (a.lits ++ more))) (a.lits ++ more) ≡ take (end_of a n) a.lits =
      ap (λ (k : ℕ). take k (a.lits ++ more)) end ∙ take-append-le (end_of a n) a.lits more ends in
      subst (λ (xs : List ℕ). HasTrue xs c) (sym same) found
]

-- literals that are added change nothing that was visited before
visited_grown : (a : Assigned) (more : List ℕ) (reasons : List (Option ℕ)) (v : Visits) (c : List ℕ) (code : ℕ) → IsVisiting a v → IsVisited a v c code
    → IsVisited (record { vars = a.vars; lits = a.lits ++ more; reasons = reasons; starts = a.starts }) v c code
visited_grown a more reasons v c code visiting visited n within is_false =
    let head : head_of v n ≤ length a.lits = let x = visiting.within n within in let y = visiting.ends n within in omega (arith, x, y) in
    let seen : take (head_of v n) (a.lits ++ more) ≡ take (head_of v n) a.lits = take-append-le (head_of v n) a.lits more head in
    end_grown a more c n within (visiting.ends n within) (visited n within (subst (λ (xs : List ℕ). has xs (complement code) ≡ true) seen is_false))

pub held_more : (a : Assigned) (more : List ℕ) (reasons : List (Option ℕ)) (v : Visits) (w : Watching) (k : ℕ) → IsVisiting a v → IsHeld a v w k
    → IsHeld (record { vars = a.vars; lits = a.lits ++ more; reasons = reasons; starts = a.starts }) v w k
held_more a more reasons v w k visiting (fixed h) = fixed (end_grown a more (clause_at w.clauses k) 0 (omega arith) (visiting.ends 0 (omega arith)) h)
held_more a more reasons v w k visiting (paired p) = paired (record {
  apart = p.apart;
  first = record { is_in = p.first.is_in; listed = p.first.listed; visited = visited_grown a more reasons v (clause_at w.clauses k) (pair_of w k).first visiting p.first.visited };
  second = record { is_in = p.second.is_in; listed = p.second.listed; visited = visited_grown a more reasons v (clause_at w.clauses k) (pair_of w k).second visiting p.second.visited };
})

pub held_grown : (a b : Assigned) (v : Visits) (w : Watching) → Grown a b → IsVisiting a v → AreHeld a v w → AreHeld b v w
held_grown a b v w g visiting held = λ k h. subst (λ (x : Assigned). IsHeld x v w k) (sym g.is) (held_more a g.more (a.reasons ++ map Some g.why) v w k visiting (held k h))

-- growing keeps what is visited
pub visiting_grown : (a b : Assigned) (v : Visits) → Grown a b → IsVisiting a v → IsVisiting b v
visiting_grown a b v g h = subst (λ (x : Assigned). IsVisiting x v) (sym g.is) (record {
  counted = h.counted;
  within = λ n b. elim (cases_eq n (length a.starts)) [
    | inl last ↦
        let end : get_or a.starts n (length (a.lits ++ g.more)) ≡ length (a.lits ++ g.more) = get_or-eq_default a.starts (length (a.lits ++ g.more)) (omega (arith, last)) in
        let x = h.within n b in
        let y = h.ends n b in
        omega (arith, x, y, end, length-append a.lits g.more)
    | inr other ↦
        let x = h.within n b in
        let same : get_or a.starts n (length (a.lits ++ g.more)) ≡ end_of a n = same_default a.starts n (length (a.lits ++ g.more)) (length a.lits) (omega (arith, b, other)) in
        omega (arith, x, same)
  ];
  ends = λ n b. elim (cases_eq n (length a.starts)) [
    | inl last ↦
        let end : get_or a.starts n (length (a.lits ++ g.more)) ≡ length (a.lits ++ g.more) = get_or-eq_default a.starts (length (a.lits ++ g.more)) (omega (arith, last)) in
        omega (arith, end)
    | inr other ↦
        let y = h.ends n b in
        let same : get_or a.starts n (length (a.lits ++ g.more)) ≡ end_of a n = same_default a.starts n (length (a.lits ++ g.more)) (length a.lits) (omega (arith, b, other)) in
        omega (arith, y, same, length-append a.lits g.more)
  ];
})

-- one more reason
pub reasoned_one : (clauses : List (List ℕ)) (a : Assigned) (l at : ℕ) → length a.reasons ≡ length a.lits → IsReason clauses a.lits l at → AreReasons clauses a → AreReasons clauses (with_literal a l (Some at))
reasoned_one clauses a l at counted reason all k found within is = elim (cases_eq k (length a.lits)) [
  | inl last ↦
      let read : get_or (a.reasons ++ Some at ∷ []) k None ≡ Some at = ap (λ (n : ℕ). get_or (a.reasons ++ Some at ∷ []) n None) (last ∙ sym counted) ∙ get_or-append_seam a.reasons (Some at) [] None in
      let same : at ≡ found = some_same at found (sym read ∙ is) in
      let front : take k (a.lits ++ l ∷ []) ≡ a.lits = ap (λ (n : ℕ). take n (a.lits ++ l ∷ [])) last ∙ take-append_seam a.lits (l ∷ []) in
      let here : get_or (a.lits ++ l ∷ []) k 0 ≡ l = ap (λ (n : ℕ). get_or (a.lits ++ l ∷ []) n 0) last ∙ get_or-append_seam a.lits l [] 0 in
      subst (λ (n : ℕ). IsReason clauses (take k (a.lits ++ l ∷ [])) (get_or (a.lits ++ l ∷ []) k 0) n) same (rw (front, here) reason)
  | inr other ↦
      let before : k < length a.lits = omega (arith, within, other, length-append a.lits (l ∷ [])) in
      let read : get_or (a.reasons ++ Some at ∷ []) k None ≡ get_or a.reasons k None = get_or-append a.reasons (Some at ∷ []) None k (omega (arith, before, counted)) in
      let front : take k (a.lits ++ l ∷ []) ≡ take k a.lits = take-append-le k a.lits (l ∷ []) (omega (arith, before)) in
      let here : get_or (a.lits ++ l ∷ []) k 0 ≡ get_or a.lits k 0 = get_or-append a.lits (l ∷ []) 0 k before in
      rw (front, here) (all k found before (sym read ∙ is))
] where
  some_same : (n m : ℕ) → Some n ≡ Some m → n ≡ m
  some_same n m e = cc

-- a watched literal of a clause that is as it was
watched_kept : (a : Assigned) (v : Visits) (w x : Watching) (k code : ℕ) → x.clauses ≡ w.clauses → IsListed x code k → IsWatched a v w k code → IsWatched a v x k code
watched_kept a v w x k code same listed h = record {
  is_in = subst (λ (cs : List (List ℕ)). has (clause_at cs k) code ≡ true) (sym same) h.is_in;
  listed = listed;
  visited = subst (λ (cs : List (List ℕ)). IsVisited a v (clause_at cs k) code) (sym same) h.visited;
}

-- a literal that isn't false is visited without more
pub open_visited : (a : Assigned) (v : Visits) (c : List ℕ) (code : ℕ) → has a.lits (complement code) ≡ false → IsVisited a v c code
open_visited a v c code not_false n within is_false = absurd (true≢false (sym (has_take (head_of v n) a.lits (complement code) is_false) ∙ not_false))

-- another clause watches what it watched
other_held : (a : Assigned) (v : Visits) (w x : Watching) (k other open_literal j : ℕ) → x.clauses ≡ w.clauses → Watches w x k other open_literal → (j ≡ k → ⊥) → IsHeld a v w j → IsHeld a v x j
other_held a v w x k other open_literal j same h apart (fixed t) = fixed (subst (λ (cs : List (List ℕ)). HasTrue (take (end_of a 0) a.lits) (clause_at cs j)) (sym same) t)
other_held a v w x k other open_literal j same h apart (paired p) =
    let pair = h.pairs j apart in
    paired (record {
      apart = subst (λ (q : Watched). q.first ≡ q.second → ⊥) (sym pair) p.apart;
      first = subst (λ (q : Watched). IsWatched a v x j q.first) (sym pair) (watched_kept a v w x j (pair_of w j).first same (h.others (pair_of w j).first j apart p.first.listed) p.first);
      second = subst (λ (q : Watched). IsWatched a v x j q.second) (sym pair) (watched_kept a v w x j (pair_of w j).second same (h.others (pair_of w j).second j apart p.second.listed) p.second);
    })

-- the clause itself watches another literal, which isn't false
this_held : (a : Assigned) (v : Visits) (w x : Watching) (k other open_literal : ℕ) → x.clauses ≡ w.clauses → Watches w x k other open_literal → (other ≡ open_literal → ⊥)
    → has (clause_at w.clauses k) open_literal ≡ true → has a.lits (complement open_literal) ≡ false → (other ≡ (pair_of w k).first) ⊎ (other ≡ (pair_of w k).second) → IsHeld a v w k → IsHeld a v x k
this_held a v w x k other open_literal same h apart is_in not_false one (fixed t) = fixed (subst (λ (cs : List (List ℕ)). HasTrue (take (end_of a 0) a.lits) (clause_at cs k)) (sym same) t)
this_held a v w x k other open_literal same h apart is_in not_false one (paired p) =
    let watched : IsWatched a v w k other = elim one [
      | inl e ↦ subst (λ (n : ℕ). IsWatched a v w k n) (sym e) p.first
      | inr e ↦ subst (λ (n : ℕ). IsWatched a v w k n) (sym e) p.second
    ] in
    let first : IsWatched a v x k other = watched_kept a v w x k other same (h.still watched.listed) watched in
    let second : IsWatched a v x k open_literal = record {
      is_in = subst (λ (cs : List (List ℕ)). has (clause_at cs k) open_literal ≡ true) (sym same) is_in;
      listed = h.listed;
      visited = open_visited a v (clause_at x.clauses k) open_literal not_false;
    } in
    paired (record {
      apart = subst (λ (q : Watched). q.first ≡ q.second → ⊥) (sym h.pair) apart;
      first = subst (λ (q : Watched). IsWatched a v x k q.first) (sym h.pair) first;
      second = subst (λ (q : Watched). IsWatched a v x k q.second) (sym h.pair) second;
    })

pub shifted_held : (a : Assigned) (v : Visits) (w x : Watching) (k other open_literal : ℕ) → x.clauses ≡ w.clauses → Watches w x k other open_literal → (other ≡ open_literal → ⊥)
    → has (clause_at w.clauses k) open_literal ≡ true → has a.lits (complement open_literal) ≡ false → (other ≡ (pair_of w k).first) ⊎ (other ≡ (pair_of w k).second) → AreHeld a v w → AreHeld a v x
shifted_held a v w x k other open_literal same h apart is_in not_false one held j within = elim (cases_eq j k) [
  | inl e ↦ subst (λ (n : ℕ). IsHeld a v x n) (sym e) (this_held a v w x k other open_literal same h apart is_in not_false one (subst (λ (n : ℕ). IsHeld a v w n) e (held j (subst (λ (cs : List (List ℕ)). j < length cs) same within))))
  | inr ne ↦ other_held a v w x k other open_literal j same h ne (held j (subst (λ (cs : List (List ℕ)). j < length cs) same within))
]

-- what is true stays so
all_true_more : (lits more : List ℕ) (clauses : List (List ℕ)) (entries : List Watch) → AllByRecursion (λ entry. HasTrue lits (clause_at clauses entry.clause)) entries → AllByRecursion (λ entry. HasTrue (lits ++ more) (clause_at clauses entry.clause)) entries
all_true_more lits more clauses [] h = tt
all_true_more lits more clauses (entry ∷ entries) h = (true_more lits more (clause_at clauses entry.clause) h.0, all_true_more lits more clauses entries h.1)

pub true_grown : (a b : Assigned) (w : Watching) (code n : ℕ) → Grown a b → AreTrue a w code n → AreTrue b w code n
true_grown a b w code n g h = subst (λ (x : Assigned). AreTrue x w code n) (sym g.is) (all_true_more a.lits g.more w.clauses (take n (list_of w code)) h)

pub true_shifted : (a : Assigned) (w x : Watching) (code at : ℕ) → Shifted w x code at → AreTrue a w code at → AreTrue a x code at
true_shifted a w x code at s h =
    subst (λ (entries : List Watch). AllByRecursion (λ entry. HasTrue a.lits (clause_at x.clauses entry.clause)) entries) (sym s.before)
    (subst (λ (cs : List (List ℕ)). AllByRecursion (λ (entry : Watch). HasTrue a.lits (clause_at cs entry.clause)) (take at (list_of w code))) (sym s.same_clauses) h)

pub true_one_more : (a : Assigned) (w : Watching) (code at : ℕ) (entry : Watch) → at < length (list_of w code) → get_or (list_of w code) at entry ≡ entry → HasTrue a.lits (clause_at w.clauses entry.clause)
    → AreTrue a w code at → AreTrue a w code (at + 1)
true_one_more a w code at entry within is_entry holds h =
    subst (λ (entries : List Watch). AllByRecursion (λ e. HasTrue a.lits (clause_at w.clauses e.clause)) entries)
    (sym (take_more (list_of w code) at entry within ∙ ap (λ (e : Watch). take at (list_of w code) ++ e ∷ []) is_entry))
    (all_push (λ e. HasTrue a.lits (clause_at w.clauses e.clause)) (take at (list_of w code)) entry h holds)

-- at the end of a list each clause that is listed has a true literal
listed_true : (lits : List ℕ) (clauses : List (List ℕ)) (entries : List Watch) (k : ℕ) → AllByRecursion (λ entry. HasTrue lits (clause_at clauses entry.clause)) entries
    → list_any (λ entry. eqb entry.clause k) entries ≡ true → HasTrue lits (clause_at clauses k)
listed_true lits clauses [] k all found = absurd (false≢true found)
listed_true lits clauses (entry ∷ entries) k all found = elim (or_cases (eqb entry.clause k) (list_any (λ e. eqb e.clause k) entries) found) [
  | inl here ↦ subst (λ (n : ℕ). HasTrue lits (clause_at clauses n)) (eqb-true entry.clause k here) all.0
  | inr later ↦ listed_true lits clauses entries k all.1 later
]

-- the next literal of the trail was visited
visited_next : (a : Assigned) (v : Visits) (w : Watching) (k code p : ℕ) → IsVisiting a v → v.head < length a.lits → get_or a.lits v.head 0 ≡ complement code
    → AreTrue a w code (length (list_of w code)) → IsWatched a v w k p → IsVisited a (record { heads = v.heads; head = v.head + 1 }) (clause_at w.clauses k) p
visited_next a v w k code p visiting more here all h n within is_false = elim (cases_eq n (length a.starts)) [
  | inr other ↦
      let counted = visiting.counted in
      let same : get_or v.heads n (v.head + 1) ≡ get_or v.heads n v.head = same_default v.heads n (v.head + 1) v.head (omega (arith, within, other, counted)) in
      h.visited n within (subst (λ (m : ℕ). has (take m a.lits) (complement p) ≡ true) same is_false)
  | inl last ↦
      let counted = visiting.counted in
      let now : get_or v.heads n (v.head + 1) ≡ v.head + 1 = get_or-eq_default v.heads (v.head + 1) (omega (arith, last, counted)) in
      let before : get_or v.heads n v.head ≡ v.head = get_or-eq_default v.heads v.head (omega (arith, last, counted)) in
      let split : take (get_or v.heads n (v.head + 1)) a.lits ≡ take v.head a.lits ++ complement code ∷ [] =
      ap (λ (m : ℕ). take m a.lits) now ∙ take_more a.lits v.head 0 more ∙ ap (λ (l : ℕ). take v.head a.lits ++ l ∷ []) here in
      elim (has_push (take v.head a.lits) (complement code) (complement p) (subst (λ (xs : List ℕ). has xs (complement p) ≡ true) split is_false)) [
        | inl earlier ↦ h.visited n within (subst (λ (m : ℕ). has (take m a.lits) (complement p) ≡ true) (sym before) earlier)
        | inr e ↦
            let this : p ≡ code = sym (complement-complement p) ∙ ap complement (sym e) ∙ complement-complement code in
            let listed = subst (λ (m : ℕ). IsListed w m k) this h.listed in
            let whole_list = subst (λ (entries : List Watch). AllByRecursion (λ entry. HasTrue a.lits (clause_at w.clauses entry.clause)) entries) (take_all (length (list_of w code)) (list_of w code) (omega arith)) all in
            let found = listed_true a.lits w.clauses (list_of w code) k whole_list listed in
            let end : end_of a n ≡ length a.lits = get_or-eq_default a.starts (length a.lits) (omega (arith, last)) in
            subst (λ (xs : List ℕ). HasTrue xs (clause_at w.clauses k)) (sym (take_all (end_of a n) a.lits (omega (arith, end)))) found
      ]
]

held_next : (a : Assigned) (v : Visits) (w : Watching) (k code : ℕ) → IsVisiting a v → v.head < length a.lits → get_or a.lits v.head 0 ≡ complement code
    → AreTrue a w code (length (list_of w code)) → IsHeld a v w k → IsHeld a (record { heads = v.heads; head = v.head + 1 }) w k
held_next a v w k code visiting more here all (fixed h) = fixed h
held_next a v w k code visiting more here all (paired p) = paired (record {
  apart = p.apart;
  first = record { is_in = p.first.is_in; listed = p.first.listed; visited = visited_next a v w k code (pair_of w k).first visiting more here all p.first };
  second = record { is_in = p.second.is_in; listed = p.second.listed; visited = visited_next a v w k code (pair_of w k).second visiting more here all p.second };
})

pub all_held_next : (a : Assigned) (v : Visits) (w : Watching) (code : ℕ) → IsVisiting a v → v.head < length a.lits → get_or a.lits v.head 0 ≡ complement code
    → AreTrue a w code (length (list_of w code)) → AreHeld a v w → AreHeld a (record { heads = v.heads; head = v.head + 1 }) w
all_held_next a v w code visiting more here all held = λ k h. held_next a v w k code visiting more here all (held k h)

pub counted_before : (a b : Assigned) (l : ℕ) (r : Option ℕ) → IsAssigned b → b ≡ with_literal a l r → length a.reasons ≡ length a.lits
counted_before a b l r h is =
    let same : length (a.reasons ++ r ∷ []) ≡ length (a.lits ++ l ∷ []) = (subst (λ (x : Assigned). IsAssigned x) is h).reasons_counted in
    omega (arith, same, length-append a.reasons (r ∷ []), length-append a.lits (l ∷ []))

-- a literal of a clause by its place
pub has_at : (c : List ℕ) (k l : ℕ) → k < length c → get_or c k 0 ≡ l → has c l ≡ true
has_at c k l within is = list_any_at (λ (x : ℕ). eqb x l) c k 0 within (eq-eqb (get_or c k 0) l is)
