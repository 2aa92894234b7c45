-- Beginnings of a history, and what lasts along one.
use Rattle.std.proofs.Common.{◌≡◌, ◌≤◌, List, [], ◌∷◌, ◌++◌, length, refl, sym, ap, ◌∙◌, subst, append_assoc, append-nil, length-append, arith}
use Rattle.turn_book.specs.Laws.{StaysValid, StaysFitting}
use Rattle.turn_book.specs.History.{entry, end_of, StartsWith, IsHistory, IsRun}
use Rattle.turn_book.specs.declared.entry.Entry.{Entry}

module _ {M C R : Type 0} where
  pub starts_itself : (log : List (Entry M C R)) → StartsWith log log
  starts_itself log = ([], sym (append-nil log))

  pub starts_empty : (log : List (Entry M C R)) → StartsWith log []
  starts_empty log = (log, refl)

  pub starts_further : (log seen told : List (Entry M C R)) → StartsWith log seen → StartsWith seen told → StartsWith log told
  starts_further log seen told a b = (b.0 ++ a.0, a.1 ∙ ap (λ l. l ++ a.0) b.1 ∙ append_assoc told b.0 a.0)

  pub starts_more : (log more : List (Entry M C R)) → StartsWith (log ++ more) log
  starts_more log more = (more, refl)

  pub starts_length : (log seen : List (Entry M C R)) → StartsWith log seen → length seen ≤ length log
  starts_length log seen a = omega (arith, ap length a.1, length-append seen a.0)

  -- of two beginnings of one list the longer begins with the shorter
  pub starts_between : (log xs ys : List (Entry M C R)) → StartsWith log xs → StartsWith log ys → length ys ≤ length xs → StartsWith xs ys
  starts_between log xs [] a b le = starts_empty xs
  starts_between log [] (y ∷ ys) a b le = absurd (omega arith)
  starts_between [] (x ∷ xs) (y ∷ ys) a b le = absurd (cc (a.1))
  starts_between (z ∷ zs) (x ∷ xs) (y ∷ ys) a b le =
      let c : StartsWith xs ys = starts_between zs xs ys (a.0, cc (a.1)) (b.0, cc (b.1)) (omega arith) in
      let same : x ≡ y = cc (a.1, b.1) in
      (c.0, λ i. same i ∷ c.1 i)

  -- a beginning as long as the list is the list
  pub starts_whole : (log seen : List (Entry M C R)) → StartsWith log seen → length log ≤ length seen → log ≡ seen
  starts_whole log seen a le = whole a.0 a.1 (omega (arith, ap length a.1, length-append seen a.0))
    where
      whole : (later : List (Entry M C R)) → log ≡ seen ++ later → length later ≡ 0 → log ≡ seen
      whole [] is none = is ∙ append-nil seen
      whole (e ∷ es) is none = absurd (omega arith)

  pub end_of_append : (x : M) (xs ys : List (Entry M C R)) → end_of x (xs ++ ys) ≡ end_of (end_of x xs) ys
  end_of_append x [] ys = refl
  end_of_append x (e ∷ es) ys = end_of_append e.after es ys

  module _ (fits : M → C → Type 0) (legal : M → C → R → M → Type 0) where
    pub history_append : (x : M) (xs ys : List (Entry M C R)) → IsHistory fits legal x xs → IsHistory fits legal (end_of x xs) ys → IsHistory fits legal x (xs ++ ys)
    history_append x [] ys h k = k
    history_append x (e ∷ es) ys h k = (h.0, h.1, history_append e.after es ys h.2 k)

    -- what follows a beginning of a history is a history from there
    pub history_rest : (x : M) (xs ys : List (Entry M C R)) → IsHistory fits legal x (xs ++ ys) → IsHistory fits legal (end_of x xs) ys
    history_rest x [] ys h = h
    history_rest x (e ∷ es) ys h = history_rest e.after es ys h.2

    pub history_front : (x : M) (xs ys : List (Entry M C R)) → IsHistory fits legal x (xs ++ ys) → IsHistory fits legal x xs
    history_front x [] ys h = tt
    history_front x (e ∷ es) ys h = (h.0, h.1, history_front e.after es ys h.2)

    -- what each legal step keeps to, the history keeps to
    pub history_weaker : (less : M → C → R → M → Type 0) → ((x : M) (c : C) (r : R) (y : M) → legal x c r y → less x c r y)
        → (x : M) (log : List (Entry M C R)) → IsHistory fits legal x log → IsHistory fits less x log
    history_weaker less so x [] h = tt
    history_weaker less so x (e ∷ es) h = (h.0, so x e.call e.reply e.after h.1, history_weaker less so e.after es h.2)

    module _ (valid : M → Type 0) (stays_valid : StaysValid valid fits legal) where
      pub end_valid : (x : M) (xs : List (Entry M C R)) → valid x → IsHistory fits legal x xs → valid (end_of x xs)
      end_valid x [] v h = v
      end_valid x (e ∷ es) v h = end_valid e.after es (stays_valid x e.call e.reply e.after v h.0 h.1) h.2

      -- a call that fits before a history fits after it
      pub fits_after : StaysFitting valid fits legal
          → (x : M) (xs : List (Entry M C R)) (d : C) → valid x → IsHistory fits legal x xs → fits x d → fits (end_of x xs) d
      fits_after stays_fitting x [] d v h f = f
      fits_after stays_fitting x (e ∷ es) d v h f =
          fits_after stays_fitting e.after es d (stays_valid x e.call e.reply e.after v h.0 h.1) h.2 (stays_fitting x e.call e.reply e.after d v h.0 h.1 f)

      pub fits_later : StaysFitting valid fits legal
          → (x : M) (log seen : List (Entry M C R)) (d : C) → IsRun fits legal valid x log → StartsWith log seen → fits (end_of x seen) d → fits (end_of x log) d
      fits_later stays_fitting x log seen d run begins f =
          let cut : IsHistory fits legal x (seen ++ begins.0) = subst (IsHistory fits legal x) begins.1 run.1 in
          let at_seen : valid (end_of x seen) = end_valid x seen run.0 (history_front x seen begins.0 cut) in
          let later : fits (end_of (end_of x seen) begins.0) d = fits_after stays_fitting (end_of x seen) begins.0 d at_seen (history_rest x seen begins.0 cut) f in
          subst (λ (y : M). fits y d) (sym (end_of_append x seen begins.0) ∙ ap (end_of x) (sym begins.1)) later

    pub run_longer : (valid : M → Type 0) (x x' : M) (log seen : List (Entry M C R)) (c : C) (a : R) (y : M) → x ≡ x' → IsRun fits legal valid x log → fits (end_of x log) c → legal (end_of x log) c a y
        → seen ≡ log ++ entry c a y ∷ [] → IsRun fits legal valid x' seen
    run_longer valid x x' log seen c a y same run f l is =
        subst (λ (z : M × List (Entry M C R)). IsRun fits legal valid z.0 z.1) (λ i. (same i, sym is i)) (run.0, history_append x log (entry c a y ∷ []) run.1 (f, l, tt))
