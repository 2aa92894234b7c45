-- What becomes of the lists where a clause watches another literal.
use Rattle.std.proofs.Common.{◌≡◌, inl, inr, ℕ, zero, suc, ◌+◌, ◌-◌, ◌<◌, ◌≤◌, true, false, ◌||◌, List, [], ◌∷◌, ◌++◌, Some, length, take, get_or, eqb, refl, sym, subst, ◌∙◌, ap, arith}
use Rattle.std.specs.List.{AllByRecursion, list_any, slice_get, slice_set, swap_remove}
use Rattle.std.proofs.lemmas.Bool.{cases_eq, false≢true, or_cases, or_left, or_right, eq-eqb, eqb-true}
use Rattle.std.proofs.lemmas.List.{get_or-set_same, get_or-set_other, length-set, take-set, length-take-le, ext_get_or}
use Rattle.std.proofs.lemmas.List.Folds.{list_any-append}
use Rattle.std.proofs.lemmas.List.Sorted.{IsPermutation-swap_remove, list_any-IsPermutation}
use Rattle.std.proofs.lemmas.Option.{get_or_from_slice_get, slice_get-get_or}
use Rattle.clause_pool.specs.Clause.{has}
use Rattle.clause_pool.proofs.ClauseLaws.{all_push, all_take, all_at}
use Rattle.propagate.specs.Watching.{Watching, IsWatching, EntryFits, IsPairIn, clause_at, pair_of, list_of, IsListed, Shifted, Watches}
use Rattle.propagate.specs.declared.watch.Watch.{Watch}
use Rattle.propagate.specs.declared.watch.Watched.{Watched}

module _ {X : Type 0} where
  all_set : (P : X → Type 0) (xs : List X) (i : ℕ) (y : X) → AllByRecursion P xs → P y → AllByRecursion P (slice_set xs i y)
  all_set P [] i y h p = tt
  all_set P (x ∷ xs) zero y h p = (p, h.1)
  all_set P (x ∷ xs) (suc i) y h p = (h.0, all_set P xs i y h.1 p)

  all_swap_remove : (P : X → Type 0) (xs : List X) (i : ℕ) (d : X) → AllByRecursion P xs → i < length xs → AllByRecursion P (swap_remove xs i d)
  all_swap_remove P xs i d h within = all_take P (length xs - 1) _ (all_set P xs i (get_or xs (length xs - 1) d) h (all_at P xs d (length xs - 1) h (omega (arith, within))))

  pub all_map : (P Q : X → Type 0) → ((x : X) → P x → Q x) → (xs : List X) → AllByRecursion P xs → AllByRecursion Q xs
  all_map P Q f [] h = tt
  all_map P Q f (x ∷ xs) h = (f x h.0, all_map P Q f xs h.1)

  length_swap_remove : (xs : List X) (i : ℕ) (d : X) → i < length xs → length (swap_remove xs i d) + 1 ≡ length xs
  length_swap_remove xs i d within =
      let e : length (swap_remove xs i d) ≡ length xs - 1 = length-take-le (length xs - 1) (slice_set xs i (get_or xs (length xs - 1) d)) (omega (arith, length-set xs i (get_or xs (length xs - 1) d))) in
      omega (arith, e, within)

  take_swap_remove : (xs : List X) (i : ℕ) (d : X) → i < length xs → take i (swap_remove xs i d) ≡ take i xs
  take_swap_remove xs i d within =
      take_take_le i (length xs - 1) (slice_set xs i (get_or xs (length xs - 1) d)) (omega (arith, within)) ∙ take-set xs i (get_or xs (length xs - 1) d)
    where
      take_take_le : (n m : ℕ) (ys : List X) → n ≤ m → take n (take m ys) ≡ take n ys
      take_take_le zero m ys h = refl
      take_take_le (suc n) zero ys h = absurd (omega (arith, h))
      take_take_le (suc n) (suc m) [] h = refl
      take_take_le (suc n) (suc m) (y ∷ ys) h = ap (λ (zs : List X). y ∷ zs) (take_take_le n m ys (omega (arith, h)))

-- the other entries of a list stay in it
other_entries : (xs : List Watch) (i : ℕ) (r : Watch) (k : ℕ) → i < length xs → get_or xs i r ≡ r → (r.clause ≡ k → ⊥) → list_any (λ e. eqb e.clause k) xs ≡ true
    → list_any (λ e. eqb e.clause k) (swap_remove xs i r) ≡ true
other_entries xs i r k within is other found =
    elim (or_cases (eqb r.clause k) (list_any (λ e. eqb e.clause k) (swap_remove xs i r)) (sym (list_any-IsPermutation (λ (e : Watch). eqb e.clause k) xs (r ∷ swap_remove xs i r) (IsPermutation-swap_remove xs i r within (sym is))) ∙ found)) [
      | inl here ↦ absurd (other (eqb-true r.clause k here))
      | inr rest ↦ rest
    ]

abbrev pub new_entry : ℕ → ℕ → Watch
new_entry k other = record { clause = k; blocker = other; is_binary = false }

-- the lists after a further entry at one, and with one less at another
abbrev pub moved_lists : List (List Watch) → ℕ → ℕ → ℕ → Watch → Watch → List (List Watch)
moved_lists lists code at open_literal new r =
    slice_set (slice_set lists open_literal (get_or lists open_literal [] ++ new ∷ [])) code
    (swap_remove (get_or (slice_set lists open_literal (get_or lists open_literal [] ++ new ∷ [])) code []) at r)

abbrev pub moved : Watching → ℕ → ℕ → ℕ → ℕ → Watch → Watching
moved w code at other open_literal r = record {
  clauses = w.clauses;
  watched = slice_set w.watched r.clause (record { first = other; second = open_literal });
  lists = moved_lists w.lists code at open_literal (record { clause = r.clause; blocker = other; is_binary = false }) r;
}

module _ (lists : List (List Watch)) (code at open_literal : ℕ) (new r : Watch) (apart : open_literal ≡ code → ⊥) where
  at_code : code < length lists → get_or (moved_lists lists code at open_literal new r) code [] ≡ swap_remove (get_or lists code []) at r
  at_code within =
      get_or-set_same (slice_set lists open_literal (get_or lists open_literal [] ++ new ∷ [])) code _ [] (omega (arith, within, length-set lists open_literal (get_or lists open_literal [] ++ new ∷ [])))
      ∙ ap (λ (xs : List Watch). swap_remove xs at r) (get_or-set_other lists open_literal code (get_or lists open_literal [] ++ new ∷ []) [] (λ e. apart (sym e)))

  at_open : open_literal < length lists → get_or (moved_lists lists code at open_literal new r) open_literal [] ≡ get_or lists open_literal [] ++ new ∷ []
  at_open within =
      get_or-set_other (slice_set lists open_literal (get_or lists open_literal [] ++ new ∷ [])) code open_literal _ [] apart
      ∙ get_or-set_same lists open_literal (get_or lists open_literal [] ++ new ∷ []) [] within

  at_rest : (q : ℕ) → (q ≡ code → ⊥) → (q ≡ open_literal → ⊥) → get_or (moved_lists lists code at open_literal new r) q [] ≡ get_or lists q []
  at_rest q first second =
      get_or-set_other (slice_set lists open_literal (get_or lists open_literal [] ++ new ∷ [])) code q _ [] first
      ∙ get_or-set_other lists open_literal q (get_or lists open_literal [] ++ new ∷ []) [] second

pub record CanMove (w : Watching) (code at other open_literal : ℕ) (r : Watch) : Type 0 where
  pub list : code < length w.lists
  pub there : at < length (list_of w code)
  pub is_there : get_or (list_of w code) at r ≡ r
  pub open_list : open_literal < length w.lists
  pub attached : r.clause < length w.watched
  pub other_in : has (clause_at w.clauses r.clause) other ≡ true
  pub open_in : has (clause_at w.clauses r.clause) open_literal ≡ true
  pub apart : other ≡ open_literal → ⊥
  pub not_code : open_literal ≡ code → ⊥
  pub other_not_code : other ≡ code → ⊥

module _ (w : Watching) (code at other open_literal : ℕ) (r : Watch) (h : CanMove w code at other open_literal r) where
  this_pair : pair_of (moved w code at other open_literal r) r.clause ≡ record { first = other; second = open_literal }
  this_pair = get_or-set_same w.watched r.clause (record { first = other; second = open_literal }) (record { first = 0; second = 0 }) h.attached

  other_pair : (j : ℕ) → (j ≡ r.clause → ⊥) → pair_of (moved w code at other open_literal r) j ≡ pair_of w j
  other_pair j ne = get_or-set_other w.watched r.clause j (record { first = other; second = open_literal }) (record { first = 0; second = 0 }) ne

  new_pair : IsPairIn (clause_at w.clauses r.clause) (record { first = other; second = open_literal })
  new_pair = record { first_in = h.other_in; second_in = h.open_in; apart = h.apart }

  pair_still : (j : ℕ) → IsPairIn (clause_at w.clauses j) (pair_of w j) → IsPairIn (clause_at w.clauses j) (pair_of (moved w code at other open_literal r) j)
  pair_still j p = elim (cases_eq j r.clause) [
    | inl e ↦ subst (λ (n : ℕ). IsPairIn (clause_at w.clauses n) (pair_of (moved w code at other open_literal r) n)) (sym e) (subst (λ (q : Watched). IsPairIn (clause_at w.clauses r.clause) q) (sym this_pair) new_pair)
    | inr ne ↦ subst (λ (q : Watched). IsPairIn (clause_at w.clauses j) q) (sym (other_pair j ne)) p
  ]

  fits_still : (q : ℕ) (e : Watch) → EntryFits w q e → EntryFits (moved w code at other open_literal r) q e
  fits_still q e f = record { attached = f.attached; blocks = f.blocks; binary = f.binary; pair = pair_still e.clause f.pair }

  all_fit : (q : ℕ) (entries : List Watch) → AllByRecursion (EntryFits w q) entries → AllByRecursion (EntryFits (moved w code at other open_literal r) q) entries
  all_fit q entries f = all_map (EntryFits w q) (EntryFits (moved w code at other open_literal r) q) (fits_still q) entries f

  new_fits : r.clause < length w.clauses → EntryFits (moved w code at other open_literal r) open_literal (record { clause = r.clause; blocker = other; is_binary = false })
  new_fits attached = record {
    attached = attached;
    blocks = h.other_in;
    binary = λ b. absurd (false≢true b);
    pair = subst (λ (q : Watched). IsPairIn (clause_at w.clauses r.clause) q) (sym this_pair) new_pair;
  }

  moved_entries : IsWatching w → (q : ℕ) → AllByRecursion (EntryFits (moved w code at other open_literal r) q) (list_of (moved w code at other open_literal r) q)
  moved_entries ok q = elim (cases_eq q code) [
    | inl e ↦ subst (λ (n : ℕ). AllByRecursion (EntryFits (moved w code at other open_literal r) n) (list_of (moved w code at other open_literal r) n)) (sym e)
        (subst (λ (xs : List Watch). AllByRecursion (EntryFits (moved w code at other open_literal r) code) xs) (sym (at_code w.lists code at open_literal _ r h.not_code h.list))
        (all_swap_remove (EntryFits (moved w code at other open_literal r) code) (list_of w code) at r (all_fit code (list_of w code) (ok.entries code)) h.there))
    | inr first ↦ elim (cases_eq q open_literal) [
      | inl e ↦ subst (λ (n : ℕ). AllByRecursion (EntryFits (moved w code at other open_literal r) n) (list_of (moved w code at other open_literal r) n)) (sym e)
          (subst (λ (xs : List Watch). AllByRecursion (EntryFits (moved w code at other open_literal r) open_literal) xs) (sym (at_open w.lists code at open_literal _ r h.not_code h.open_list))
          (all_push (EntryFits (moved w code at other open_literal r) open_literal) (list_of w open_literal) _ (all_fit open_literal (list_of w open_literal) (ok.entries open_literal)) (new_fits (let a = h.attached in let c = ok.counted in omega (arith, a, c)))))
      | inr second ↦ subst (λ (xs : List Watch). AllByRecursion (EntryFits (moved w code at other open_literal r) q) xs) (sym (at_rest w.lists code at open_literal _ r h.not_code q first second)) (all_fit q (list_of w q) (ok.entries q))
    ]
  ]

  moved_count : length (moved w code at other open_literal r).lists ≡ length w.lists
  moved_count = length-set (slice_set w.lists open_literal (get_or w.lists open_literal [] ++ new_entry r.clause other ∷ [])) code _ ∙ length-set w.lists open_literal (get_or w.lists open_literal [] ++ new_entry r.clause other ∷ [])

  pub moved_is_watching : IsWatching w → IsWatching (moved w code at other open_literal r)
  moved_is_watching ok = record {
    counted = length-set w.watched r.clause (record { first = other; second = open_literal }) ∙ ok.counted;
    entries = moved_entries ok;
    below = λ k l is_in. let b = ok.below k l is_in in omega (arith, b, moved_count);
  }

  pub moved_shifted : Shifted w (moved w code at other open_literal r) code at
  moved_shifted = record {
    same_clauses = refl;
    same_count = moved_count;
    shorter = ap (λ (xs : List Watch). length xs + 1) (at_code w.lists code at open_literal _ r h.not_code h.list) ∙ length_swap_remove (list_of w code) at r h.there;
    before = ap (λ (xs : List Watch). take at xs) (at_code w.lists code at open_literal _ r h.not_code h.list) ∙ take_swap_remove (list_of w code) at r h.there;
  }

  pub moved_watches : Watches w (moved w code at other open_literal r) r.clause other open_literal
  moved_watches = record {
    pair = this_pair;
    pairs = other_pair;
    listed = subst (λ (xs : List Watch). list_any (λ e. eqb e.clause r.clause) xs ≡ true) (sym (at_open w.lists code at open_literal _ r h.not_code h.open_list))
        (list_any-append (λ (e : Watch). eqb e.clause r.clause) (list_of w open_literal) (new_entry r.clause other ∷ [])
        ∙ or_right (list_any (λ e. eqb e.clause r.clause) (list_of w open_literal)) (eqb r.clause r.clause || false) (or_left (eqb r.clause r.clause) false (eq-eqb r.clause r.clause refl)));
    still = λ listed. subst (λ (xs : List Watch). list_any (λ e. eqb e.clause r.clause) xs ≡ true) (sym (at_rest w.lists code at open_literal _ r h.not_code other h.other_not_code h.apart)) listed;
    others = λ q j ne listed. elim (cases_eq q code) [
      | inl e ↦ subst (λ (n : ℕ). IsListed (moved w code at other open_literal r) n j) (sym e)
          (subst (λ (xs : List Watch). list_any (λ e. eqb e.clause j) xs ≡ true) (sym (at_code w.lists code at open_literal _ r h.not_code h.list))
          (other_entries (list_of w code) at r j h.there h.is_there (λ same. ne (sym same)) (subst (λ (n : ℕ). IsListed w n j) e listed)))
      | inr first ↦ elim (cases_eq q open_literal) [
        | inl e ↦ subst (λ (n : ℕ). IsListed (moved w code at other open_literal r) n j) (sym e)
            (subst (λ (xs : List Watch). list_any (λ e. eqb e.clause j) xs ≡ true) (sym (at_open w.lists code at open_literal _ r h.not_code h.open_list))
            (list_any-append (λ (e : Watch). eqb e.clause j) (list_of w open_literal) (new_entry r.clause other ∷ [])
            ∙ or_left (list_any (λ e. eqb e.clause j) (list_of w open_literal)) (eqb r.clause j || false) (subst (λ (n : ℕ). IsListed w n j) e listed)))
        | inr second ↦ subst (λ (xs : List Watch). list_any (λ e. eqb e.clause j) xs ≡ true) (sym (at_rest w.lists code at open_literal _ r h.not_code q first second)) listed
      ]
    ];
  }

-- what a clause needs to watch another literal
pub record CanShift (w : Watching) (code at other open_literal : ℕ) : Type 0 where
  pub list : code < length w.lists
  pub there : at < length (list_of w code)
  pub open_list : open_literal < length w.lists
  pub other_in : (e : Watch) → slice_get (list_of w code) at ≡ Some e → has (clause_at w.clauses e.clause) other ≡ true
  pub open_in : (e : Watch) → slice_get (list_of w code) at ≡ Some e → has (clause_at w.clauses e.clause) open_literal ≡ true
  pub apart : other ≡ open_literal → ⊥
  pub not_code : open_literal ≡ code → ⊥
  pub other_not_code : other ≡ code → ⊥

pub can_move : (w : Watching) (code at other open_literal : ℕ) (e : Watch) → IsWatching w → CanShift w code at other open_literal → slice_get (list_of w code) at ≡ Some e → CanMove w code at other open_literal e
can_move w code at other open_literal e ok h found =
    let read : get_or (list_of w code) at e ≡ e = get_or_from_slice_get (list_of w code) at e e found in
    let fits : EntryFits w code e = subst (λ (x : Watch). EntryFits w code x) read (all_at (EntryFits w code) (list_of w code) e at (ok.entries code) h.there) in
    record {
      list = h.list;
      there = h.there;
      is_there = read;
      open_list = h.open_list;
      attached = let a = fits.attached in let n = ok.counted in omega (arith, a, n);
      other_in = h.other_in e found;
      open_in = h.open_in e found;
      apart = h.apart;
      not_code = h.not_code;
      other_not_code = h.other_not_code;
    }

-- the entry that a read of the list gives
pub entry_found : (xs list : List Watch) (at : ℕ) (d : Watch) → xs ≡ list → at < length list → slice_get list at ≡ Some (get_or xs at d)
entry_found xs list at d same there = subst (λ (ys : List Watch). slice_get list at ≡ Some (get_or ys at d)) (sym same) (slice_get-get_or list at d there)

pub moved_by : (w : Watching) (code at other open_literal : ℕ) (e r : Watch) (lists more : List (List Watch))
    → more ≡ slice_set w.lists open_literal (get_or w.lists open_literal [] ++ record { clause = e.clause; blocker = other; is_binary = false } ∷ [])
    → lists ≡ slice_set more code (swap_remove (get_or more code []) at r) → get_or (get_or more code []) at r ≡ r → slice_get (list_of w code) at ≡ Some e → (open_literal ≡ code → ⊥)
    → record { clauses = w.clauses; watched = slice_set w.watched e.clause (record { first = other; second = open_literal }); lists = lists } ≡ moved w code at other open_literal e
moved_by w code at other open_literal e r lists more is_more is_lists is_r found apart =
    let same_list : get_or more code [] ≡ list_of w code = ap (λ (ls : List (List Watch)). get_or ls code []) is_more ∙ get_or-set_other w.lists open_literal code _ [] (λ x. apart (sym x)) in
    let same : r ≡ e = sym is_r ∙ ap (λ (xs : List Watch). get_or xs at r) same_list ∙ get_or_from_slice_get (list_of w code) at e r found in
    let all : lists ≡ moved_lists w.lists code at open_literal (record { clause = e.clause; blocker = other; is_binary = false }) e =
    is_lists ∙ ap (λ (x : Watch). slice_set more code (swap_remove (get_or more code []) at x)) same ∙ ap (λ (ls : List (List Watch)). slice_set ls code (swap_remove (get_or ls code []) at e)) is_more in
    ap (λ (ls : List (List Watch)). record { clauses = w.clauses; watched = slice_set w.watched e.clause (record { first = other; second = open_literal }); lists = ls }) all

pub one_entry : (xs : List Watch) (at : ℕ) (e f : Watch) → slice_get xs at ≡ Some e → slice_get xs at ≡ Some f → e ≡ f
one_entry xs at e f first second = let same : Some e ≡ Some f = sym first ∙ second in cc

-- before any clause is there, all lists are empty
no_entries : (w : Watching) (code : ℕ) (entries : List Watch) → length w.clauses ≡ 0 → AllByRecursion (EntryFits w code) entries → entries ≡ []
no_entries w code [] none h = refl
no_entries w code (e ∷ entries) none h = let a = h.0.attached in absurd (omega (arith, a, none))

pub lists_anew : (w : Watching) (lists : List (List Watch)) → IsWatching w → length w.clauses ≡ 0 → length lists ≡ length w.lists → ((code : ℕ) → get_or lists code [] ≡ []) → lists ≡ w.lists
lists_anew w lists ok none count empty = ext_get_or [] lists w.lists count (λ code low. empty code ∙ sym (no_entries w code (list_of w code) none (ok.entries code)))
