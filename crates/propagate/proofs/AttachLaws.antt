-- What a further clause leaves as it was.
use Rattle.std.proofs.Common.{◌≡◌, ◌⊎◌, inl, inr, ℕ, zero, suc, ◌-◌, ◌<◌, ◌≤◌, Bool, true, false, ◌||◌, List, [], ◌∷◌, ◌++◌, length, take, get_or, eqb, refl, sym, subst, ◌∙◌, ap, arith, length-append}
use Rattle.std.specs.List.{AllByRecursion, list_any, slice_set}
use Rattle.std.proofs.lemmas.Bool.{cases_eq, false≢true, or_cases, or_left, or_right, eq-eqb, eqb-true}
use Rattle.std.proofs.lemmas.List.{get_or-set_same, get_or-set_other, length-set, set-get_or}
use Rattle.std.proofs.lemmas.List.Folds.{list_any-append}
use Rattle.std.proofs.Math.ListN.{get_or-append, get_or-eq_default}
use Rattle.std.proofs.Math.Seq.{get_or-append_seam, take-append_seam}
use Rattle.clause_pool.specs.Clause.{has}
use Rattle.clause_pool.proofs.ClauseLaws.{all_push}
use Rattle.propagate.specs.Watching.{Watching, IsWatching, EntryFits, IsPairIn, clause_at, pair_of, list_of, IsListed}
use Rattle.propagate.specs.Attaching.{Attached, pushed_at}
use Rattle.propagate.specs.declared.watch.Watch.{Watch}
use Rattle.propagate.specs.declared.watch.Watched.{Watched}
use Rattle.propagate.proofs.WatchLaws.{all_map}

-- clauses that were there
old_clause : (cs : List (List ℕ)) (c : List ℕ) (k : ℕ) → k < length cs → clause_at (cs ++ c ∷ []) k ≡ clause_at cs k
old_clause cs c k h = get_or-append cs (c ∷ []) [] k h

past_clause : (cs : List (List ℕ)) (k l : ℕ) → length cs ≤ k → has (clause_at cs k) l ≡ true → ⊥
past_clause cs k l h is_in = false≢true (subst (λ (xs : List ℕ). has xs l ≡ true) (get_or-eq_default cs [] h) is_in)

-- each literal of a clause of two is one of the two
pub of_two : (c : List ℕ) (first second l : ℕ) → length c ≡ 2 → has c first ≡ true → has c second ≡ true → (first ≡ second → ⊥) → has c l ≡ true → (l ≡ first) ⊎ (l ≡ second)
of_two [] first second l two a b apart h = absurd (omega (arith, two))
of_two (x ∷ []) first second l two a b apart h = absurd (omega (arith, two))
of_two (x ∷ y ∷ z ∷ c) first second l two a b apart h = absurd (omega (arith, two))
of_two (x ∷ y ∷ []) first second l two a b apart h = elim (one first a) [
  | inl fx ↦ elim (one second b) [
    | inl sx ↦ absurd (apart (sym fx ∙ sx))
    | inr sy ↦ elim (one l h) [ inl lx ↦ inl (sym lx ∙ fx) | inr ly ↦ inr (sym ly ∙ sy) ]
  ]
  | inr fy ↦ elim (one second b) [
    | inl sx ↦ elim (one l h) [ inl lx ↦ inr (sym lx ∙ sx) | inr ly ↦ inl (sym ly ∙ fy) ]
    | inr sy ↦ absurd (apart (sym fy ∙ sy))
  ]
] where
  one : (n : ℕ) → has (x ∷ y ∷ []) n ≡ true → (x ≡ n) ⊎ (y ≡ n)
  one n e = elim (or_cases (eqb x n) (eqb y n || false) e) [
    | inl here ↦ inl (eqb-true x n here)
    | inr later ↦ elim (or_cases (eqb y n) false later) [ inl there ↦ inr (eqb-true y n there) | inr none ↦ absurd (false≢true none) ]
  ]

-- a clause with a pair of its own, of which no list has an entry yet
abbrev pub with_clause : Watching → List ℕ → Watched → Watching
with_clause w c pair = record { clauses = w.clauses ++ c ∷ []; watched = w.watched ++ pair ∷ []; lists = w.lists }

module _ (w : Watching) (c : List ℕ) (pair : Watched) (ok : IsWatching w) (below : (l : ℕ) → has c l ≡ true → l < length w.lists) where
  pair_before : (k : ℕ) → k < length w.clauses → pair_of (with_clause w c pair) k ≡ pair_of w k
  pair_before k h = get_or-append w.watched (pair ∷ []) (record { first = 0; second = 0 }) k (let n = ok.counted in omega (arith, h, n))

  fits_before : (code : ℕ) (e : Watch) → EntryFits w code e → EntryFits (with_clause w c pair) code e
  fits_before code e f =
      let same = old_clause w.clauses c e.clause f.attached in
      let blocks = subst (λ (xs : List ℕ). has xs e.blocker ≡ true) (sym same) f.blocks in
      let binary = λ (b : e.is_binary ≡ true) (l : ℕ) (is_in : has (clause_at (w.clauses ++ c ∷ []) e.clause) l ≡ true). f.binary b l (subst (λ (xs : List ℕ). has xs l ≡ true) same is_in) in
      let two : IsPairIn (clause_at (w.clauses ++ c ∷ []) e.clause) (pair_of (with_clause w c pair) e.clause) =
      subst (λ (xs : List ℕ). IsPairIn xs (pair_of (with_clause w c pair) e.clause)) (sym same) (subst (λ (q : Watched). IsPairIn (clause_at w.clauses e.clause) q) (sym (pair_before e.clause f.attached)) f.pair) in
      record { attached = let a = f.attached in omega (arith, a, length-append w.clauses (c ∷ [])); blocks = blocks; binary = binary; pair = two }

  pub plain_is_watching : IsWatching (with_clause w c pair)
  plain_is_watching = record {
    counted = let n = ok.counted in omega (arith, n, length-append w.watched (pair ∷ []), length-append w.clauses (c ∷ []));
    entries = λ code. all_map (EntryFits w code) (EntryFits (with_clause w c pair) code) (fits_before code) (list_of w code) (ok.entries code);
    below = λ k l is_in. elim (cases_eq k (length w.clauses)) [
      | inl e ↦ below l (subst (λ (xs : List ℕ). has xs l ≡ true) (ap (λ (n : ℕ). clause_at (w.clauses ++ c ∷ []) n) e ∙ get_or-append_seam w.clauses c [] []) is_in)
      | inr other ↦ elim (cases_below k (length w.clauses) other) [
        | inl before ↦ ok.below k l (subst (λ (xs : List ℕ). has xs l ≡ true) (old_clause w.clauses c k before) is_in)
        | inr after ↦ absurd (past_clause (w.clauses ++ c ∷ []) k l (omega (arith, after, length-append w.clauses (c ∷ []))) is_in)
      ]
    ];
  } where
    cases_below : (n m : ℕ) → (n ≡ m → ⊥) → (n < m) ⊎ (m < n)
    cases_below zero zero h = absurd (h refl)
    cases_below zero (suc m) h = inl (omega arith)
    cases_below (suc n) zero h = inr (omega arith)
    cases_below (suc n) (suc m) h = elim (cases_below n m (λ e. h (ap suc e))) [ inl x ↦ inl (omega (arith, x)) | inr x ↦ inr (omega (arith, x)) ]

  pub plain_attached : Attached w (with_clause w c pair) c pair
  plain_attached = record {
    clauses = refl;
    same_count = refl;
    watches = ap (λ (n : ℕ). get_or (w.watched ++ pair ∷ []) n (record { first = 0; second = 0 })) (sym ok.counted) ∙ get_or-append_seam w.watched pair [] (record { first = 0; second = 0 });
    pairs = pair_before;
    listed = λ code k h. h;
  }

-- an entry that fits is put to a list
abbrev pub with_entry : Watching → ℕ → Watch → Watching
with_entry w code e = record { clauses = w.clauses; watched = w.watched; lists = slice_set w.lists code (get_or w.lists code [] ++ e ∷ []) }

module _ (w : Watching) (code : ℕ) (e : Watch) (here : code < length w.lists) where
  list_here : list_of (with_entry w code e) code ≡ list_of w code ++ e ∷ []
  list_here = get_or-set_same w.lists code (get_or w.lists code [] ++ e ∷ []) [] here

  list_other : (q : ℕ) → (q ≡ code → ⊥) → list_of (with_entry w code e) q ≡ list_of w q
  list_other q ne = get_or-set_other w.lists code q (get_or w.lists code [] ++ e ∷ []) [] ne

  still_fits : (q : ℕ) (f : Watch) → EntryFits w q f → EntryFits (with_entry w code e) q f
  still_fits q f h = record { attached = h.attached; blocks = h.blocks; binary = h.binary; pair = h.pair }

  pub entry_is_watching : IsWatching w → EntryFits w code e → IsWatching (with_entry w code e)
  entry_is_watching ok fits =
      let count = length-set w.lists code (get_or w.lists code [] ++ e ∷ []) in
      record {
        counted = ok.counted;
        entries = λ q. elim (cases_eq q code) [
          | inl same ↦ subst (λ (n : ℕ). AllByRecursion (EntryFits (with_entry w code e) n) (list_of (with_entry w code e) n)) (sym same)
              (subst (λ (xs : List Watch). AllByRecursion (EntryFits (with_entry w code e) code) xs) (sym list_here)
              (all_push (EntryFits (with_entry w code e) code) (list_of w code) e (all_map (EntryFits w code) (EntryFits (with_entry w code e) code) (still_fits code) (list_of w code) (ok.entries code)) (still_fits code e fits)))
          | inr other ↦ subst (λ (xs : List Watch). AllByRecursion (EntryFits (with_entry w code e) q) xs) (sym (list_other q other)) (all_map (EntryFits w q) (EntryFits (with_entry w code e) q) (still_fits q) (list_of w q) (ok.entries q))
        ];
        below = λ k l is_in. let b = ok.below k l is_in in omega (arith, b, count);
      }

  pub entry_listed : (q k : ℕ) → IsListed w q k → IsListed (with_entry w code e) q k
  entry_listed q k h = elim (cases_eq q code) [
    | inl same ↦ subst (λ (n : ℕ). IsListed (with_entry w code e) n k) (sym same)
        (subst (λ (xs : List Watch). list_any (λ f. eqb f.clause k) xs ≡ true) (sym list_here)
        (list_any-append (λ (f : Watch). eqb f.clause k) (list_of w code) (e ∷ []) ∙ or_left (list_any (λ f. eqb f.clause k) (list_of w code)) (eqb e.clause k || false) (subst (λ (n : ℕ). IsListed w n k) same h)))
    | inr other ↦ subst (λ (xs : List Watch). list_any (λ f. eqb f.clause k) xs ≡ true) (sym (list_other q other)) h
  ]

  pub entry_here : IsListed (with_entry w code e) code e.clause
  entry_here = subst (λ (xs : List Watch). list_any (λ f. eqb f.clause e.clause) xs ≡ true) (sym list_here)
      (list_any-append (λ (f : Watch). eqb f.clause e.clause) (list_of w code) (e ∷ []) ∙ or_right (list_any (λ f. eqb f.clause e.clause) (list_of w code)) (eqb e.clause e.clause || false) (or_left (eqb e.clause e.clause) false (eq-eqb e.clause e.clause refl)))

-- what was put to a list and taken back
pub pushed_back : (lists : List (List Watch)) (code : ℕ) (e : Watch) → code < length lists
    → slice_set (pushed_at lists code e) code (take (length (get_or (pushed_at lists code e) code []) - 1) (get_or (pushed_at lists code e) code [])) ≡ lists
pushed_back lists code e within =
    let read : get_or (pushed_at lists code e) code [] ≡ get_or lists code [] ++ e ∷ [] = get_or-set_same lists code (get_or lists code [] ++ e ∷ []) [] within in
    let front : take (length (get_or lists code [] ++ e ∷ []) - 1) (get_or lists code [] ++ e ∷ []) ≡ get_or lists code [] =
    ap (λ (n : ℕ). take n (get_or lists code [] ++ e ∷ [])) (omega (arith, length-append (get_or lists code []) (e ∷ []))) ∙ take-append_seam (get_or lists code []) (e ∷ []) in
    ap (λ (xs : List Watch). slice_set (pushed_at lists code e) code (take (length xs - 1) xs)) read ∙ ap (λ (xs : List Watch). slice_set (pushed_at lists code e) code xs) front
    ∙ set_twice lists code (get_or lists code [] ++ e ∷ []) (get_or lists code []) ∙ set-get_or lists code []
  where
    set_twice : (ls : List (List Watch)) (i : ℕ) (x y : List Watch) → slice_set (slice_set ls i x) i y ≡ slice_set ls i y
    set_twice [] i x y = refl
    set_twice (l ∷ ls) zero x y = refl
    set_twice (l ∷ ls) (suc i) x y = ap (λ (r : List (List Watch)). l ∷ r) (set_twice ls i x y)

pub pushed_clause_back : (cs : List (List ℕ)) (c : List ℕ) → take (length (cs ++ c ∷ []) - 1) (cs ++ c ∷ []) ≡ cs
pushed_clause_back cs c = ap (λ (n : ℕ). take n (cs ++ c ∷ [])) (omega (arith, length-append cs (c ∷ []))) ∙ take-append_seam cs (c ∷ [])

-- the entries are pushed by what they are
pub pushed_two : (lists : List (List Watch)) (i j : ℕ) (d e f g : Watch) → d ≡ f → e ≡ g
    → pushed_at (pushed_at lists i d) j e ≡ pushed_at (pushed_at lists i f) j g
pushed_two lists i j d e f g first second = rw (first, second) refl

-- a clause with its two entries
abbrev pub with_pair : Watching → List ℕ → Watched → Bool → Watching
with_pair w c pair is_binary =
    with_entry (with_entry (with_clause w c pair) pair.first (record { clause = length w.clauses; blocker = pair.second; is_binary = is_binary }))
    pair.second (record { clause = length w.clauses; blocker = pair.first; is_binary = is_binary })

module _ (w : Watching) (c : List ℕ) (pair : Watched) (is_binary : Bool) (ok : IsWatching w) (below : (l : ℕ) → has c l ≡ true → l < length w.lists) (two : IsPairIn c pair) (binary : is_binary ≡ true → length c ≡ 2) where
  first_entry : Watch
  first_entry = record { clause = length w.clauses; blocker = pair.second; is_binary = is_binary }

  new_clause : clause_at (w.clauses ++ c ∷ []) (length w.clauses) ≡ c
  new_clause = get_or-append_seam w.clauses c [] []

  new_pair_in : IsPairIn (clause_at (w.clauses ++ c ∷ []) (length w.clauses)) (pair_of (with_clause w c pair) (length w.clauses))
  new_pair_in =
      subst (λ (xs : List ℕ). IsPairIn xs (pair_of (with_clause w c pair) (length w.clauses))) (sym new_clause)
      (subst (λ (q : Watched). IsPairIn c q) (sym (plain_attached w c pair ok below).watches) two)

  attached_here : length w.clauses < length (w.clauses ++ c ∷ [])
  attached_here = omega (arith, length-append w.clauses (c ∷ []))

  first_fits : EntryFits (with_clause w c pair) pair.first (record { clause = length w.clauses; blocker = pair.second; is_binary = is_binary })
  first_fits = record {
    attached = attached_here;
    blocks = subst (λ (xs : List ℕ). has xs pair.second ≡ true) (sym new_clause) two.second_in;
    binary = λ b l is_in. of_two c pair.first pair.second l (binary b) two.first_in two.second_in two.apart (subst (λ (xs : List ℕ). has xs l ≡ true) new_clause is_in);
    pair = new_pair_in;
  }

  second_fits : EntryFits (with_clause w c pair) pair.second (record { clause = length w.clauses; blocker = pair.first; is_binary = is_binary })
  second_fits = record {
    attached = attached_here;
    blocks = subst (λ (xs : List ℕ). has xs pair.first ≡ true) (sym new_clause) two.first_in;
    binary = λ b l is_in. of_two c pair.second pair.first l (binary b) two.second_in two.first_in (λ e. two.apart (sym e)) (subst (λ (xs : List ℕ). has xs l ≡ true) new_clause is_in);
    pair = new_pair_in;
  }

  first_within : pair.first < length w.lists
  first_within = below pair.first two.first_in

  second_within : pair.second < length (pushed_at w.lists pair.first (record { clause = length w.clauses; blocker = pair.second; is_binary = is_binary }))
  second_within =
      let b = below pair.second two.second_in in
      omega (arith, b, length-set w.lists pair.first (get_or w.lists pair.first [] ++ record { clause = length w.clauses; blocker = pair.second; is_binary = is_binary } ∷ []))

  pub pair_is_watching : IsWatching (with_pair w c pair is_binary)
  pair_is_watching =
      entry_is_watching (with_entry (with_clause w c pair) pair.first _) pair.second _ second_within
      (entry_is_watching (with_clause w c pair) pair.first _ first_within (plain_is_watching w c pair ok below) first_fits)
      (record { attached = second_fits.attached; blocks = second_fits.blocks; binary = second_fits.binary; pair = second_fits.pair })

  pub pair_attached : Attached w (with_pair w c pair is_binary) c pair
  pair_attached =
      let plain = plain_attached w c pair ok below in
      record {
        clauses = refl;
        same_count =
            length-set (pushed_at w.lists pair.first (record { clause = length w.clauses; blocker = pair.second; is_binary = is_binary })) pair.second _
            ∙ length-set w.lists pair.first (get_or w.lists pair.first [] ++ record { clause = length w.clauses; blocker = pair.second; is_binary = is_binary } ∷ []);
        watches = plain.watches;
        pairs = plain.pairs;
        listed = λ code k h. entry_listed (with_entry (with_clause w c pair) pair.first _) pair.second _ second_within code k (entry_listed (with_clause w c pair) pair.first _ first_within code k h);
      }

  pub pair_first : IsListed (with_pair w c pair is_binary) pair.first (length w.clauses)
  pair_first = entry_listed (with_entry (with_clause w c pair) pair.first _) pair.second _ second_within pair.first (length w.clauses) (entry_here (with_clause w c pair) pair.first (record { clause = length w.clauses; blocker = pair.second; is_binary = is_binary }) first_within)

  pub pair_second : IsListed (with_pair w c pair is_binary) pair.second (length w.clauses)
  pair_second = entry_here (with_entry (with_clause w c pair) pair.first _) pair.second (record { clause = length w.clauses; blocker = pair.first; is_binary = is_binary }) second_within

pub pair_by : (w : Watching) (c : List ℕ) (pair : Watched) (is_binary : Bool) (k : ℕ) (clauses : List (List ℕ)) (watched : List Watched) (lists : List (List Watch))
    → k ≡ length w.clauses → clauses ≡ w.clauses ++ c ∷ [] → watched ≡ w.watched ++ pair ∷ []
    → lists ≡ pushed_at (pushed_at w.lists pair.first (record { clause = k; blocker = pair.second; is_binary = is_binary })) pair.second (record { clause = k; blocker = pair.first; is_binary = is_binary })
    → record { clauses = clauses; watched = watched; lists = lists } ≡ with_pair w c pair is_binary
pair_by w c pair is_binary k clauses watched lists ek ec ew el = rw (ec, ew, el, ek) refl
