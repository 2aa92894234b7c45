-- A solver over entries, each behind its guard: which sets pass its test, and what it says that no set passes.
use Rattle.std.proofs.Common.{Vec, Global, ◌/◌, ◌%◌, if◌then◌else◌, ◌≡◌, ◌==◌, ◌⊎◌, ℕ, ◌+◌, ◌*◌, ◌<◌, ◌≤◌, Bool, true, false, not, ◌&&◌, ◌||◌, List, [], ◌∷◌, ◌++◌, Some, None, length, map, get_or, slice_get, refl, sym, ap, subst, ◌∙◌, inl, inr, arith, All, length-append, eqb, filter, slice_index_or, replicate}
use Rattle.std.proofs.lemmas.Bool.{and_from, and_parts, eq-eqb, cases_Bool, cond-true, cond-false, or_cases, or_left, or_right, eqb-true, false_from_ne_true, false≢true}
use Rattle.std.proofs.lemmas.List.{append-nil, length-replicate}
use Rattle.std.proofs.lemmas.List.Elements.{recursion_from_All}
use Rattle.std.proofs.lemmas.Option.{slice_get-get_or, get_or_from_slice_get, slice_get_within}
use Rattle.pb_base.specs.Rule.{Rule, holds}
use Rattle.pb_base.specs.Sets.{has}
use Rattle.book_model.specs.Book.{IsBook, RuleFits}
use Rattle.book_model.specs.Contents.{Contents}
use Rattle.chains.specs.Growth.{given_of}
use Rattle.clause_pool.specs.Literal.{literal, complement, is_true}
use Rattle.clause_pool.specs.Clause.{clause_of, has as has_literal, AreBelow}
use Rattle.clause_pool.specs.Derivation.{Derivation, AllFollow}
use Rattle.clause_pool.proofs.LiteralLaws.{complement-positive, complement-negative}
use Rattle.clausify.specs.Formulas.{connectives}
use Rattle.clausify.specs.Items.{rule_item}
use Rattle.clausify.specs.Lifting.{CodesJust}
use Rattle.clausify.specs.declared.encoder.Encoder.{Encoder}
use Rattle.clausify.proofs.Bounds.{connectives_below}
use Rattle.clausify.proofs.ItemLaws.{meets, item_fits}
use Rattle.clausify.proofs.ListLaws.{all-append, all_first, all_last}
use Rattle.clausify.proofs.Truth.{true_positive, true_negative}
use Rattle.guarded_rules.specs.Guarded.{GuardedItem, guarded, guarded_variables, meets_guarded, meets_all_guarded, AllGuardedFit, EncodesGuarded, IsGuarded}
use Rattle.clausify.proofs.AgreeLaws.{Agree, appended_agree, meets_agree, fits_more}
use Rattle.guarded_rules.proofs.FitLaws.{guard_appended, fits_guarded}
use Rattle.guarded_rules.proofs.GuardedLaws.{AllMeetGuarded, all_from_met, met_from_all, met_where_on}
use Rattle.guarded_rules.proofs.MadeLaws.{guarded_variables-append, guarded_item, guarded_plain, made_below, made_just}
use Rattle.item_search.specs.Search.{CodesSets, IsRefused}
use Rattle.item_search.proofs.SearchLaws.{refused_denied, core_refused}
use Rattle.propagate.specs.Trail.{AreLiterals}
use Rattle.propagate.specs.Quiet.{IsConsistent}
use Rattle.solver.specs.Answer.{Begins, IsCore}
use Rattle.solver.specs.Solver.{Solving, Onwards}
use Rattle.blame.specs.Absent.{absent_clause, are_absent, IsUnused, IsDenied}
use Rattle.blame.specs.Blame.{AreFew, entry_item}
use Rattle.blame.specs.Entries.{EntryFits}
use Rattle.blame.specs.Guards.{MeetsKept, MeetsGuarded, IsGuardOf, AreGuards, AreAllGuards, GuardedSets, IsGuarding}
use Rattle.blame.specs.Plain.{further_true}
use Rattle.blame.specs.Guarding.{plain_entry, IsOn, MeetsOn, AreItems, MayAdd, AreFurther, IsMade, MeetsBut, AreMarked, AreFewer, AreStill, IsUntried, IsFoundGuarded, WasLeft}
use Rattle.blame.specs.declared.entries.Entry.{Entry}
use Rattle.blame.specs.declared.marks.Marks.{Marks}
use Rattle.blame.proofs.AbsentLaws.{values, length-values, value_at, just_absent, absent_below, unused_low, absented}
use Rattle.blame.proofs.CodeLaws.{entry_meets, entry_small, entry_at}
use Rattle.blame.proofs.KeptLaws.{none_needed}
use Rattle.blame.proofs.PlainLaws.{just_further, further_below, or_last}

-- how far the clauses of the items are made
pub record Guarding (b : Contents) (m : List Entry) (i : ℕ) (e : Encoder) : Type 0 where
  pub truth : e.truth ≡ length b.codes + length m
  pub items : List GuardedItem
  pub made : IsGuarded items e
  pub fit : AllGuardedFit (length b.codes + length m) items
  pub small : guarded_variables items ≤ 512 * i
  pub met : (y : List Bool) → IsOn b m y → AllMeetGuarded y items
  pub back : (y : List Bool) → AllMeetGuarded y items → MeetsOn b m false i y

pub guarding_none : (b : Contents) (m : List Entry) (e : Encoder) → IsGuarded [] e → e.truth ≡ length b.codes + length m → Guarding b m 0 e
guarding_none b m e made truth = record { truth = truth; items = []; made = made; fit = tt; small = omega arith; met = λ y on. tt; back = λ y met k e inside. absurd (omega (arith, inside)) }

unless_on : (on met : Bool) → (on ≡ true → met ≡ true) → (not on || met) ≡ true
unless_on true met h = h refl
unless_on false met h = refl

module _ (b : Contents) (day : ℕ) (book : IsBook b) where
  pub item_in : (m : List Entry) (i : ℕ) (d : Entry) → All (EntryFits b day) m → i < length m → item_fits (length b.codes + length m) (entry_item b (get_or m i d)) ≡ true
  item_in m i d fit within =
      fits_more (length b.codes) (length b.codes + length m) (omega arith) (entry_item b (get_or m i d)) (entry_small b book (get_or m i d) (entry_at b day m i d fit within).there).fits

  pub guarding_more : (m : List Entry) (i g : ℕ) (d : Entry) (e e2 : Encoder) → All (EntryFits b day) m → i < length m → g ≡ length b.codes + i → Guarding b m i e
      → MayAdd (plain_entry b (get_or m i d)) e e2 (guarded (Some g) (entry_item b (get_or m i d))) → Guarding b m (i + 1) e2
  guarding_more m i g d e e2 fit within is h (inl more) =
      let x : Entry = get_or m i d in
      let one : GuardedItem = guarded (Some g) (entry_item b x) in
      let small : connectives (entry_item b x).rule ≤ 512 = (entry_small b book x (entry_at b day m i d fit within).there).small in
      record {
        truth = more.truth ∙ h.truth;
        items = h.items ++ one ∷ [];
        made = guarded_item h.items one e e2 h.made more;
        fit = all-append _ h.items (one ∷ []) h.fit (record { guard = omega (arith, is, within); item = item_in m i d fit within }, tt);
        small = omega (arith, guarded_variables-append h.items (one ∷ []), h.small, small);
        met = λ y on.
            all-append _ h.items (one ∷ []) (h.met y on)
            (unless_on (has y g) (meets y (entry_item b x)) (λ there. on i x (slice_get-get_or m i d within) (ap (has y) (sym is) ∙ there)), tt);
        back = λ y met k o inside there plain on.
            elim (or_last m i k d o there inside) [
              | inl before ↦ h.back y (all_first (λ j. meets_guarded y j ≡ true) h.items (one ∷ []) met) k o before there plain on
              | inr last ↦
                  subst (λ (p : Entry). meets y (entry_item b p) ≡ true) last.1
                  (met_where_on (has y g) (meets y (entry_item b x)) (ap (has y) (is ∙ ap (λ (j : ℕ). length b.codes + j) (sym last.0)) ∙ on)
                  (all_last (λ j. meets_guarded y j ≡ true) h.items (one ∷ []) met).0)
            ];
      }
  guarding_more m i g d e e2 fit within is h (inr none) = record {
    truth = none.1.truth ∙ h.truth;
    items = h.items;
    made = subst (λ (js : List GuardedItem). IsGuarded js e2) (append-nil h.items) (guarded_plain h.items [] e e2 h.made none.1);
    fit = h.fit;
    small = omega (arith, h.small);
    met = h.met;
    back = λ y met k o inside there plain on.
        elim (or_last m i k d o there inside) [
          | inl before ↦ h.back y met k o before there plain on
          | inr last ↦ absurd (false≢true (sym plain ∙ sym (ap (plain_entry b) last.1) ∙ none.0))
        ];
  }

  rule_fits : (f : Rule) → RuleFits (length b.codes) f → item_fits (length b.codes) (rule_item None f) ≡ true
  rule_fits f rule = and_from _ _ rule.in_range refl

  -- all of them, with the rule
  pub guarding_all : (m : List Entry) (f : Rule) (i : ℕ) (e e2 : Encoder) → RuleFits (length b.codes) f → length m ≤ i → Guarding b m i e → EncodesGuarded e e2 (guarded None (rule_item None f))
      → AreItems b m f e2
  guarding_all m f i e e2 rule end h more =
      let one : GuardedItem = guarded None (rule_item None f) in
      record {
        items = h.items ++ one ∷ [];
        made = guarded_item h.items one e e2 h.made more;
        fit =
            all-append _ h.items (one ∷ []) h.fit
            (fits_guarded (length b.codes) (length b.codes + length m) (omega arith) None tt (rule_item None f) (rule_fits f rule), tt);
        met = λ y on holds_. all_from_met y (h.items ++ one ∷ []) (all-append _ h.items (one ∷ []) (h.met y on) (holds_, tt));
        back = λ y met.
            let all : AllMeetGuarded y (h.items ++ one ∷ []) = met_from_all y (h.items ++ one ∷ []) met in (
              λ k o inside there plain on. h.back y (all_first (λ j. meets_guarded y j ≡ true) h.items (one ∷ []) all) k o (omega (arith, inside, end)) there plain on,
              (all_last (λ j. meets_guarded y j ≡ true) h.items (one ∷ []) all).0,
            );
      }

  found_fits : (m : List Entry) (k : ℕ) (e : Entry) → All (EntryFits b day) m → slice_get m k ≡ Some e → EntryFits b day e
  found_fits m k e fit there =
      subst (EntryFits b day) (get_or_from_slice_get m k e e there) (entry_at b day m k e fit (slice_get_within m k e there))

  -- a set with just the guards of kept entries that it meets
  kept_on : (m : List Entry) (x kept : List Bool) → All (EntryFits b day) m → length x ≡ length b.codes → Agree (length b.codes) x (x ++ kept)
      → ((k : ℕ) → has (x ++ kept) (length b.codes + k) ≡ has kept k) → MeetsKept b day x m kept → IsOn b m (x ++ kept)
  kept_on m x kept fit counted agree guards met k e there on =
      let fits : EntryFits b day e = found_fits m k e fit there in
      meets_agree (length b.codes) x (x ++ kept) agree (entry_item b e) (entry_small b book e fits.there).fits
      ∙ entry_meets b day x e fits.active
      ∙ met k e there (sym (guards k) ∙ on)

  -- what the clauses of the items and the further ones say
  just_second : (m : List Entry) (f : Rule) (first second : Encoder) (items : AreItems b m f first) (further : AreFurther b m (length m) first second)
      → first.truth ≡ length b.codes + length m
      → CodesJust (length b.codes + length m) (λ x. meets_all_guarded items.items x && further_true further.lists x) second.pool.clauses second.next
  just_second m f first second items further truth =
      let all : ℕ = length b.codes + length m in
      let test : List Bool → Bool = meets_all_guarded items.items in
      let both : List Bool → Bool = λ x. test x && further_true further.lists x in
      let just : CodesJust all test first.pool.clauses first.next =
      subst (λ (k : ℕ). CodesJust k test first.pool.clauses first.next) truth
      (made_just items.items first (subst (λ (k : ℕ). AllGuardedFit k items.items) (sym truth) items.fit) items.made) in
      let next : second.next ≡ first.next = omega (arith, further.made.next) in
      subst (λ (v : ℕ). CodesJust all both second.pool.clauses v) (sym next)
      (subst (λ (cs : List (List ℕ)). CodesJust all both cs first.next) (sym further.made.clauses)
      (just_further all first.next test first.pool.clauses further.lists further.low just))

  first_truth : (m : List Entry) (f : Rule) (e : Encoder) (made : IsMade b m f e) → e.truth ≡ length b.codes + length m → made.first.truth ≡ length b.codes + length m
  first_truth m f e made truth = sym made.further.made.truth ∙ sym made.denied.made.truth ∙ truth

  -- what meets the items and the further clauses
  made_reads : (m : List Entry) (f : Rule) (e : Encoder) → All (EntryFits b day) m → RuleFits (length b.codes) f → (made : IsMade b m f e) (x y : List Bool)
      → Agree (length b.codes) x y → (meets_all_guarded made.items.items y && further_true made.further.lists y) ≡ true → MeetsGuarded b day f m x y
  made_reads m f e fit rule made x y agree pass =
      let n : ℕ = length b.codes in
      let parts = and_parts (meets_all_guarded made.items.items y) (further_true made.further.lists y) pass in
      let read = made.items.back y parts.0 in
      record {
        holds_there = sym (meets_agree n x y agree (rule_item None f) (rule_fits f rule)) ∙ read.1;
        meets = λ k o there on.
            let fits : EntryFits b day o = found_fits m k o fit there in
            let inside : k < length m = slice_get_within m k o there in
            let met : meets y (entry_item b o) ≡ true =
            elim (cases_Bool (plain_entry b o)) [
              | inl plain ↦ made.further.back y parts.1 k o inside there plain on
              | inr other ↦ read.0 k o inside there other on
            ] in
            sym (entry_meets b day x o fits.active) ∙ sym (meets_agree n x y agree (entry_item b o) (entry_small b book o fits.there).fits) ∙ met;
      }

  -- what the solver over all of them says
  pub guarding_by : (m : List Entry) (f : Rule) (e : Encoder) (s : Solving) → All (EntryFits b day) m → RuleFits (length b.codes) f
      → e.truth ≡ length b.codes + length m → IsMade b m f e → given_of s.kernel ≡ e.pool.clauses → s.vars ≡ e.next → s.codes ≡ length b.codes → IsGuarding b day f m s
  guarding_by m f e s fit rule truth made clauses variables decides =
      let n : ℕ = length b.codes in
      let all : ℕ = n + length m in
      let second : Encoder = made.second in
      let denied : IsDenied n second e = made.denied in
      let us : List ℕ = denied.unused in
      let both : List Bool → Bool = λ x. meets_all_guarded made.items.items x && further_true made.further.lists x in
      let free = recursion_from_All (IsUnused denied.used) us denied.free in
      let room : length denied.used ≤ all = omega (arith, denied.counted) in
      let just : CodesJust all both second.pool.clauses second.next = just_second m f made.first second made.items made.further (first_truth m f e made truth) in
      let next : s.vars ≡ second.next = omega (arith, variables, denied.made.next) in
      record {
        test = λ x. both x && are_absent us x;
        sets = record {
          just =
              subst (λ (v : ℕ). CodesJust all (λ x. both x && are_absent us x) (given_of s.kernel) v) (sym next)
              (subst (λ (cs : List (List ℕ)). CodesJust all (λ x. both x && are_absent us x) cs second.next) (sym (clauses ∙ denied.made.clauses))
              (just_absent all second.next both second.pool.clauses us (unused_low denied.used all us room free) just));
          within = omega (arith, truth, first_truth m f e made truth, next, made.further.made.next, made.items.made.variables);
          decides = decides;
        };
        reads = λ x y counted begins pass. made_reads m f e fit rule made x y begins (and_parts (both y) (are_absent us y) pass).0;
        passes = λ x kept counted marked met h.
            let y : List Bool = x ++ kept in
            let agree : Agree n x y = subst (λ (k : ℕ). Agree k x y) counted (appended_agree x kept) in
            let guards : (k : ℕ) → has y (n + k) ≡ has kept k = λ k. ap (λ (j : ℕ). has y (j + k)) (sym counted) ∙ guard_appended x kept k in
            let on : IsOn b m y = kept_on m x kept fit counted agree guards met in
            let true_ : holds f y ≡ true = meets_agree n x y agree (rule_item None f) (rule_fits f rule) ∙ h in
            let z = absented n all second.next both second.pool.clauses denied.used us denied.counted (omega arith) denied.stands free just y
            (length-append x kept ∙ ap (λ (k : ℕ). k + length kept) counted ∙ ap (λ (k : ℕ). n + k) marked)
            (and_from (meets_all_guarded made.items.items y) (further_true made.further.lists y) (made.items.met y on true_) (made.further.met y on)) in (
              z.0,
              (z.1.counted, z.1.passes, λ k inside. z.1.same (n + k) (omega arith) (omega (arith, inside)) ∙ guards k),
            );
      }

  -- what the solver asks of these clauses
  pub made_low : (m : List Entry) (f : Rule) (e : Encoder) → e.truth ≡ length b.codes + length m → IsMade b m f e → AreBelow (2 * e.next) e.pool.clauses
  made_low m f e truth made =
      let n : ℕ = length b.codes in
      let all : ℕ = n + length m in
      let denied : IsDenied n made.second e = made.denied in
      let further : AreFurther b m (length m) made.first made.second = made.further in
      let started : made.first.truth ≡ all = first_truth m f e made truth in
      let next : e.next ≡ made.first.next = omega (arith, denied.made.next, further.made.next) in
      let room : all ≤ e.next = omega (arith, next, made.items.made.variables, started) in
      let low = made_below made.items.items made.first (subst (λ (k : ℕ). AllGuardedFit k made.items.items) (sym started) made.items.fit) made.items.made in
      subst (AreBelow (2 * e.next)) (sym (denied.made.clauses ∙ ap (λ (cs : List (List ℕ)). cs ++ map absent_clause denied.unused) further.made.clauses))
      (all-append _ (made.first.pool.clauses ++ map clause_of further.lists) (map absent_clause denied.unused)
      (all-append _ made.first.pool.clauses (map clause_of further.lists) (subst (λ (k : ℕ). AreBelow (2 * k) made.first.pool.clauses) (sym next) low)
      (further_below all e.next further.lists room further.low))
      (absent_below e.next denied.unused
      (unused_low denied.used e.next denied.unused (omega (arith, denied.counted, room)) (recursion_from_All (IsUnused denied.used) denied.unused denied.free))))

  pub made_room : (m : List Entry) (f : Rule) (e : Encoder) → e.truth ≡ length b.codes + length m → IsMade b m f e → length b.codes ≤ e.next
  made_room m f e truth made =
      omega (arith, truth, made.denied.made.next, made.denied.made.truth, made.further.made.next, made.further.made.truth, made.items.made.variables)

  room_by : (m : List Entry) (i : ℕ) (e : Encoder) → i ≤ length m → AreFew m → Guarding b m i e → e.next + 512 < 4294967296
  room_by m i e within few h = omega (arith, h.truth, h.made.variables, h.small, within, few, book.codes_limit)

  pub guarded_room : (m : List Entry) (i : ℕ) (d : Entry) (e : Encoder) → All (EntryFits b day) m → i < length m → AreFew m → Guarding b m i e
      → e.next + connectives (entry_item b (get_or m i d)).rule < 4294967296
  guarded_room m i d e fit within few h =
      omega (arith, room_by m i e (omega arith) few h, (entry_small b book (get_or m i d) (entry_at b day m i d fit within).there).small)

  pub guarded_rule_room : (m : List Entry) (f : Rule) (i : ℕ) (e : Encoder) → RuleFits (length b.codes) f → AreFew m → i ≤ length m → Guarding b m i e
      → e.next + connectives f < 4294967296
  guarded_rule_room m f i e rule few within h = omega (arith, room_by m i e within few h, connectives_below f, rule.size)

-- what is in some of a list is in the list
in_filter : (w : ℕ → Bool) (ls : List ℕ) (l : ℕ) → has_literal (filter w ls) l ≡ true → has_literal ls l ≡ true
in_filter w [] l h = h
in_filter w (x ∷ ls) l h =
    elim (cases_Bool (w x)) [
      | inl stays ↦
          elim (or_cases (eqb x l) (has_literal (filter w ls) l) (sym (ap (λ (ks : List ℕ). has_literal ks l) (cond-true (w x) (x ∷ filter w ls) (filter w ls) stays)) ∙ h)) [
            | inl same ↦ or_left (eqb x l) (has_literal ls l) same
            | inr later ↦ or_right (eqb x l) (has_literal ls l) (in_filter w ls l later)
          ]
      | inr goes ↦
          or_right (eqb x l) (has_literal ls l) (in_filter w ls l (sym (ap (λ (ks : List ℕ). has_literal ks l) (cond-false (w x) (x ∷ filter w ls) (filter w ls) goes)) ∙ h))
    ]

filtered : (w : ℕ → Bool) (ls : List ℕ) (l : ℕ) → has_literal (filter w ls) l ≡ true → w l ≡ true
filtered w [] l h = absurd (false≢true h)
filtered w (x ∷ ls) l h =
    elim (cases_Bool (w x)) [
      | inl stays ↦
          elim (or_cases (eqb x l) (has_literal (filter w ls) l) (sym (ap (λ (ks : List ℕ). has_literal ks l) (cond-true (w x) (x ∷ filter w ls) (filter w ls) stays)) ∙ h)) [
            | inl same ↦ subst (λ (j : ℕ). w j ≡ true) (eqb-true x l same) stays
            | inr later ↦ filtered w ls l later
          ]
      | inr goes ↦ filtered w ls l (sym (ap (λ (ks : List ℕ). has_literal ks l) (cond-false (w x) (x ∷ filter w ls) (filter w ls) goes)) ∙ h)
    ]

complement_guard : (v : ℕ) → complement (literal v true) ≡ literal v false
complement_guard v =
    ap complement (let e : literal v true ≡ 2 * v = omega arith in e) ∙ complement-positive v ∙ (let e : 2 * v + 1 ≡ literal v false = omega arith in e)

complement_other : (v : ℕ) → complement (literal v false) ≡ literal v true
complement_other v =
    ap complement (let e : literal v false ≡ 2 * v + 1 = omega arith in e) ∙ complement-negative v ∙ (let e : 2 * v ≡ literal v true = omega arith in e)

complement_value : (v : ℕ) (s : Bool) → complement (literal v s) ≡ literal v (not s)
complement_value v true = complement_guard v
complement_value v false = complement_other v

same_variable : (u v : ℕ) (s t : Bool) → literal u s ≡ literal v t → u ≡ v
same_variable u v true true h = omega (arith, h)
same_variable u v true false h = absurd (omega (arith, h))
same_variable u v false true h = absurd (omega (arith, h))
same_variable u v false false h = omega (arith, h)

same_value : (u v : ℕ) (s t : Bool) → literal u s ≡ literal v t → s ≡ t
same_value u v true true h = refl
same_value u v true false h = absurd (omega (arith, h))
same_value u v false true h = absurd (omega (arith, h))
same_value u v false false h = refl

literal_low : (v bound : ℕ) (s : Bool) → v < bound → literal v s < 2 * bound
literal_low v bound true h = omega (arith, h)
literal_low v bound false h = omega (arith, h)

not_itself : (s : Bool) → not s ≡ s → ⊥
not_itself true h = false≢true h
not_itself false h = false≢true (sym h)

abbrev pub value_but : List Bool → ℕ → ℕ → Bool
value_but kept but place = has kept place && not (place == but)

-- what a search asks of the literals of guards
pub guards_below : (n bound : ℕ) (kept : List Bool) (but : ℕ) (lits : List ℕ) → AreGuards n kept but lits → n + length kept ≤ bound → AreLiterals lits (2 * bound)
guards_below n bound kept but lits h room l is_in =
    let g : IsGuardOf n kept but l = h l is_in in
    subst (λ (k : ℕ). k < 2 * bound) (sym g.is) (literal_low (n + g.place) bound (value_but kept but g.place) (omega (arith, g.inside, room)))

pub guards_consistent : (n : ℕ) (kept : List Bool) (but : ℕ) (lits : List ℕ) → AreGuards n kept but lits → IsConsistent lits
guards_consistent n kept but lits h l is_in other =
    let g : IsGuardOf n kept but l = h l is_in in
    let o : IsGuardOf n kept but (complement l) = h (complement l) other in
    let s : Bool = value_but kept but g.place in
    let both : literal (n + g.place) (not s) ≡ literal (n + o.place) (value_but kept but o.place) =
    sym (ap complement g.is ∙ complement_value (n + g.place) s) ∙ o.is in
    let same : n + g.place ≡ n + o.place = same_variable (n + g.place) (n + o.place) (not s) (value_but kept but o.place) both in
    let place : o.place ≡ g.place = omega (arith, same) in
    not_itself s (same_value (n + g.place) (n + o.place) (not s) (value_but kept but o.place) both ∙ ap (value_but kept but) place)

pub value_true : (a : ℕ → Bool) (u : ℕ) (v : Bool) → a u ≡ v → is_true a (literal u v) ≡ true
value_true a u true h = true_positive a u ∙ h
value_true a u false h = true_negative a u ∙ ap not h

split_off : (a b : Bool) → (a && not b) ≡ false → (a ≡ false) ⊎ (b ≡ true)
split_off true true h = inr refl
split_off true false h = absurd (false≢true (sym h))
split_off false b h = inl refl

not_then : (b : Bool) → not b ≡ true → b ≡ true → ⊥
not_then true h is = false≢true h
not_then false h is = false≢true is

-- the entries that a search made use of are enough
module _ (b : Contents) (day : ℕ) (f : Rule) (m : List Entry) (s : Solving) (guarding : IsGuarding b day f m s) (k : Derivation) (lits : List ℕ) (at but n : ℕ) (old new : Marks)
    (first : n ≡ length b.codes) (refused : IsRefused (length b.codes + length m) guarding.test k lits at)
    (guards : AreGuards n old.kept.items but lits) (fewer : AreFewer old.kept.items new.kept.items) (left_out : has new.kept.items but ≡ false)
    (still : AreStill n but (slice_index_or k.clauses at []) old.kept.items new.kept.items) where
  -- what the clause denies of the literals is so where just the guards of these entries are there
  guard_so : (l : ℕ) → (g : IsGuardOf n old.kept.items but l) → has_literal (slice_index_or k.clauses at []) (complement l) ≡ true
      → has new.kept.items g.place ≡ value_but old.kept.items but g.place
  guard_so l g denied =
      let v : Bool = value_but old.kept.items but g.place in
      elim (cases_Bool v) [
        | inl on ↦
            let parts = and_parts (has old.kept.items g.place) (not (g.place == but)) on in
            let named : has_literal (slice_index_or k.clauses at []) (literal (n + g.place) false) ≡ true =
            subst (λ (j : ℕ). has_literal (slice_index_or k.clauses at []) j ≡ true)
            (ap complement g.is ∙ complement_value (n + g.place) v ∙ ap (λ (t : Bool). literal (n + g.place) (not t)) on) denied in
            still g.place g.inside parts.0 (λ same. not_then (g.place == but) parts.1 (eq-eqb g.place but same)) named ∙ sym on
        | inr off ↦
            elim (split_off (has old.kept.items g.place) (g.place == but) off) [
              | inl gone ↦ false_from_ne_true (has new.kept.items g.place) (λ yes_. false≢true (sym gone ∙ fewer.fewer g.place yes_)) ∙ sym off
              | inr same ↦ ap (has new.kept.items) (eqb-true g.place but same) ∙ left_out ∙ sym off
            ]
      ]

  none_used : length old.kept.items ≡ length m → (x : List Bool) → length x ≡ length b.codes → MeetsKept b day x m new.kept.items → holds f x ≡ false
  none_used counted_old x counted met =
      false_from_ne_true (holds f x) (λ yes_.
      let p = guarding.passes x new.kept.items counted (fewer.counted ∙ counted_old) met yes_ in
      refused_denied (length b.codes + length m) guarding.test k lits at refused p.0
      (record {
        counted = p.1.0;
        passes = p.1.1;
        lits_true = λ l is_in.
            let g : IsGuardOf n old.kept.items but l = guards l (in_filter (λ (j : ℕ). has_literal (slice_index_or k.clauses at []) (complement j)) lits l is_in) in
            let v : Bool = value_but old.kept.items but g.place in
            let inside : g.place < length m = subst (λ (j : ℕ). g.place < j) counted_old g.inside in
            let so : has p.0 (n + g.place) ≡ v =
            ap (λ (j : ℕ). has p.0 (j + g.place)) first
            ∙ p.1.2 g.place inside
            ∙ guard_so l g (filtered (λ (j : ℕ). has_literal (slice_index_or k.clauses at []) (complement j)) lits l is_in) in
            ap (is_true (has p.0)) g.is ∙ value_true (has p.0) (n + g.place) v so;
      }))

  pub marked_used : (budget : ℕ) → new.needed ≡ old.needed → new.left ≡ old.left → AreMarked b day f m budget old → AreMarked b day f m budget new
  marked_used budget same left h = record {
    kept_counted = fewer.counted ∙ h.kept_counted;
    none = none_used h.kept_counted;
    needed = record {
      counted = ap (λ (v : Vec Bool Global). length v.items) same ∙ h.needed.counted;
      each = λ j needed.
          let e = h.needed.each j (sym (ap (λ (v : Vec Bool Global). has v.items j) same) ∙ needed) in (
            e.0,
            record { counted = e.1.counted; meets = λ i d there kept other. e.1.meets i d there (fewer.fewer i kept) other; holds_there = e.1.holds_there },
          );
    };
    left_counted = ap (λ (v : Vec Bool Global). length v.items) left ∙ h.left_counted;
    left = λ j is.
        let was : WasLeft b day f m old.kept.items j budget = h.left j (sym (ap (λ (v : Vec Bool Global). has v.items j) left) ∙ is) in
        record {
          before = was.before;
          counted = was.counted;
          fewer = record { counted = fewer.counted ∙ was.fewer.counted; fewer = λ i on. was.fewer.fewer i (fewer.fewer i on) };
          left = was.left;
        };
  }

  -- and so they are where all were kept, and none was tried
  pub marked_first : (budget : ℕ) → new.needed ≡ old.needed → new.left ≡ old.left → IsUntried (length m) old → AreMarked b day f m budget new
  marked_first budget same also h =
      let counted_old : length old.kept.items ≡ length m = ap length h.kept ∙ length-replicate (length m) true in
      let none : new.needed.items ≡ replicate (length m) false = ap (λ (v : Vec Bool Global). v.items) same ∙ h.needed in
      let none_left : new.left.items ≡ replicate (length m) false = ap (λ (v : Vec Bool Global). v.items) also ∙ h.left in
      record {
        kept_counted = fewer.counted ∙ counted_old;
        none = none_used counted_old;
        needed = record {
          counted = ap length none ∙ length-replicate (length m) false;
          each = λ j needed. absurd (false≢true (sym (none_needed (length m) j) ∙ sym (ap (λ (ts : List Bool). has ts j) none) ∙ needed));
        };
        left_counted = ap length none_left ∙ length-replicate (length m) false;
        left = λ j is. absurd (false≢true (sym (none_needed (length m) j) ∙ sym (ap (λ (ts : List Bool). has ts j) none_left) ∙ is));
      }

-- what the solver derives changes nothing
pub sets_onwards : (codes n : ℕ) (test : List Bool → Bool) (old new : Solving) → GuardedSets codes n test old → Onwards old new → GuardedSets codes n test new
sets_onwards codes n test old new h more = record {
  just =
      subst (λ (v : ℕ). CodesJust n test (given_of new.kernel) v) (sym more.same_vars)
      (subst (λ (cs : List (List ℕ)). CodesJust n test cs old.vars) (sym more.extends.same_given) h.just);
  within = omega (arith, more.same_vars, h.within);
  decides = more.same_codes ∙ h.decides;
}

pub guarding_onwards : (b : Contents) (day : ℕ) (f : Rule) (m : List Entry) (old new : Solving) → ((codes n : ℕ) (test : List Bool → Bool) → GuardedSets codes n test old → GuardedSets codes n test new)
    → IsGuarding b day f m old → IsGuarding b day f m new
guarding_onwards b day f m old new sets h = record {
  test = h.test;
  sets = sets (length b.codes) (length b.codes + length m) h.test h.sets;
  passes = h.passes;
  reads = h.reads;
}

-- where the solver closes, no set passes with what its clause denies
pub guarded_refused : (codes n : ℕ) (test : List Bool → Bool) (s : Solving) (lits : List ℕ) (at : ℕ) → GuardedSets codes n test s → AreLiterals lits (2 * n) → AllFollow s.kernel
    → IsCore s.kernel lits at → IsRefused n test s.kernel lits at
guarded_refused codes n test s lits at h below follow core =
    let t : Solving = record { kernel = s.kernel; vars = s.vars; codes = n } in
    let sets : CodesSets n test t = record { just = h.just; codes = refl; within = h.within } in
    core_refused n test t sets lits below at follow core

-- where it answers by a set, one passes that begins with it
pub guarded_found : (codes n : ℕ) (test : List Bool → Bool) (s : Solving) (lits : List ℕ) (x : List Bool) → GuardedSets codes n test s → AreLiterals lits (2 * n)
    → Begins (given_of s.kernel) lits s.codes x → IsFoundGuarded codes n test lits x
guarded_found codes n test s lits x h below found =
    let a : ℕ → Bool = found.assignment in
    let whole : List Bool = values a 0 n in
    let count : length whole ≡ n = length-values a 0 n in
    record {
      counted = found.counted ∙ h.decides;
      whole = whole;
      whole_counted = count;
      begins = λ i low inside. value_at a n i inside ∙ found.begins i (subst (λ (k : ℕ). i < k) (sym h.decides) low);
      passes = h.just.begins_so a whole count (λ i inside. sym (value_at a n i (subst (λ (k : ℕ). i < k) count inside))) found.satisfied;
      lits_true = λ l is_in.
          let low : l < 2 * n = below l is_in in
          ap (λ (p : Bool). if l % 2 == 0 then p else not p) (value_at a n (l / 2) (omega (arith, low))) ∙ found.assumed l is_in;
    }

-- and it shows that the entry is needed which was left out
pub found_but : (b : Contents) (day : ℕ) (f : Rule) (m : List Entry) (s : Solving) (guarding : IsGuarding b day f m s) (n : ℕ) (kept : List Bool) (at : ℕ) (lits : List ℕ) (x : List Bool)
    → n ≡ length b.codes → length kept ≡ length m → AreAllGuards n kept at lits → IsFoundGuarded (length b.codes) (length b.codes + length m) guarding.test lits x
    → MeetsBut b day f m kept at x
found_but b day f m s guarding n kept at lits x first counted guards h =
    let read = guarding.reads x h.whole h.whole_counted (λ i inside. h.begins i inside (omega (arith, inside))) h.passes in
    record {
      counted = h.counted;
      holds_there = read.holds_there;
      meets = λ k e there on other.
          let inside : k < length kept = subst (λ (j : ℕ). k < j) (sym counted) (slice_get_within m k e there) in
          let so : value_but kept at k ≡ true =
          and_from (has kept k) (not (k == at)) on (ap not (false_from_ne_true (k == at) (λ same. other (eqb-true k at same)))) in
          read.meets k e there
          (ap (λ (j : ℕ). has h.whole (j + k)) (sym first)
          ∙ sym (true_positive (has h.whole) (n + k))
          ∙ h.lits_true (literal (n + k) true) (subst (λ (t : Bool). has_literal lits (literal (n + k) t) ≡ true) so (guards.each k inside)));
    }
