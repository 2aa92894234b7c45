-- The links of the lists, and what an added code can change.
use Rattle.std.proofs.Common.{◌≡◌, ◌≢◌, ℕ, zero, suc, ◌+◌, ◌<◌, ◌≤◌, Bool, true, false, not, ◌&&◌, ◌||◌, eqb, List, [], ◌∷◌, ◌++◌, length, map, take, get_or, set, cond, replicate, Option, Some, None, IfSome, refl, sym, ap, subst, ◌∙◌, ◌⊎◌, inl, inr, arith, All, length-append}
use Rattle.std.specs.List.{slice_get, Contains, AllByRecursion, list_any}
use Rattle.std.specs.Option.{option_map_or}
use Rattle.std.specs.Ordering.{nat_cmp, is_lt, ordering_then}
use Rattle.std.specs.declared.cmp.Ordering.TheVariants.{Less, Equal, Greater}
use Rattle.std.specs.declared.cmp.Reverse.{Reverse}
use Rattle.std.proofs.lemmas.Map.Keys.{ge_from_not_lt}
use Rattle.std.specs.List.Sorted.{IsPermutation}
use Rattle.std.proofs.lemmas.List.Sorted.{All-permutation, Contains-permutation}
use Rattle.std.proofs.lemmas.Bool.{cases_Bool, cases_eq, cases_order, eq-eqb, ne_eqb, lt-ltb, ltb-true, le-ltb, eqb-true, eqb-false, and_parts, and_from, or_cases, or_parts, not_from_false, not-true, false≢true}
use Rattle.std.proofs.lemmas.List.Folds.{list_any-append}
use Rattle.std.proofs.Math.Seq.{take-suc}
use Rattle.std.proofs.Math.Bool.{or_assoc, or-false}
use Rattle.std.proofs.lemmas.Option.{none-some, same_Some, slice_get_within, slice_get_read, get_or_from_slice_get}
use Rattle.std.proofs.lemmas.List.{length-set, length-replicate, get_or-set_same, get_or-set_other}
use Rattle.std.proofs.lemmas.List.Elements.{All-nil, All-cons, All-same, All-replicate, All-set, All-weaker, All-get_or}
use Rattle.pb_base.specs.Rule.{Rule, code, negation, both, either, always, never, holds}
use Rattle.pb_base.specs.Node.{size, is_below, nodes_then, nodes_of}
use Rattle.pb_base.specs.declared.node.Node.{Node}
use Rattle.pb_base.specs.declared.node.Node.TheVariants.{Code, Not, WhenTrue, WhenFalse, And, Or}
use Rattle.pb_base.specs.Sets.{has}
use Rattle.book_model.specs.Activity.{is_within}
use Rattle.book_model.specs.Good.{fires}
use Rattle.book_model.specs.declared.record.Supplement.{Supplement}
use Rattle.supplement.specs.declared.worklist.Candidate.{Candidate}
use Rattle.supplement.specs.declared.occurrences.Entry.{Entry}
use Rattle.supplement.specs.declared.occurrences.OccurrenceLists.{OccurrenceLists}
use Rattle.supplement.specs.Occurrences.{occurs, is_code, Leads, here, later, Lists, AreLinked, Notes, ListsFirst}
use Rattle.supplement.specs.Worklist.{AreCandidates, AreTryable, IsTryable, candidate_of, ComesBefore}

-- ---- lists
pub slice_get-push : {X : Type 0} (xs ys : List X) (k : ℕ) (e : X) → slice_get xs k ≡ Some e → slice_get (xs ++ ys) k ≡ Some e
slice_get-push [] ys k e is = absurd (none-some e is)
slice_get-push (x ∷ xs) ys zero e is = is
slice_get-push (x ∷ xs) ys (suc k) e is = slice_get-push xs ys k e is

pub slice_get-last : {X : Type 0} (xs : List X) (e : X) → slice_get (xs ++ e ∷ []) (length xs) ≡ Some e
slice_get-last [] e = refl
slice_get-last (x ∷ xs) e = slice_get-last xs e

-- an entry of the longer list is one of the shorter or the last
pub slice_get-push_cases : {X : Type 0} (xs : List X) (x : X) (k : ℕ) (e : X) → slice_get (xs ++ x ∷ []) k ≡ Some e → (slice_get xs k ≡ Some e) ⊎ ((k ≡ length xs) × (x ≡ e))
slice_get-push_cases [] x zero e is = inr (refl, same_Some x e is)
slice_get-push_cases [] x (suc k) e is = absurd (none-some e is)
slice_get-push_cases (y ∷ xs) x zero e is = inl is
slice_get-push_cases (y ∷ xs) x (suc k) e is =
    elim (slice_get-push_cases xs x k e is) [ inl before_ ↦ inl before_ | inr last ↦ inr (ap suc last.0, last.1) ]

-- ---- links
pub Leads-push : (es : List Entry) (e : Entry) (rule : ℕ) (at : Option ℕ) → Leads es rule at → Leads (es ++ e ∷ []) rule at
Leads-push es e rule at (here k f is there same) = here k f is (slice_get-push es (e ∷ []) k f there) same
Leads-push es e rule at (later k f is there rest) = later k f is (slice_get-push es (e ∷ []) k f there) (Leads-push es e rule f.next rest)

pub no_lead : (es : List Entry) (rule : ℕ) → Leads es rule None → ⊥
no_lead es rule (here k f is there same) = none-some k is
no_lead es rule (later k f is there rest) = none-some k is

leads_at : (es : List Entry) (rule k : ℕ) (e : Entry) (at : Option ℕ) → slice_get es k ≡ Some e → at ≡ Some k → Leads es rule at → (e.rule ≡ rule) ⊎ Leads es rule e.next
leads_at es rule k e at there is (here j f is_j there_j same) =
    let place : j ≡ k = same_Some j k (sym is_j ∙ is) in
    let entry : f ≡ e = same_Some f e (sym there_j ∙ ap (slice_get es) place ∙ there) in
    inl (ap (λ g. g.rule) (sym entry) ∙ same)
leads_at es rule k e at there is (later j f is_j there_j rest) =
    let place : j ≡ k = same_Some j k (sym is_j ∙ is) in
    let entry : f ≡ e = same_Some f e (sym there_j ∙ ap (slice_get es) place ∙ there) in
    inr (subst (λ (g : Entry). Leads es rule g.next) entry rest)

-- what an entry leads to is its own rule, or that of the next
pub leads_on : (es : List Entry) (rule k : ℕ) (e : Entry) → slice_get es k ≡ Some e → Leads es rule (Some k) → (e.rule ≡ rule) ⊎ Leads es rule e.next
leads_on es rule k e there lead = leads_at es rule k e (Some k) there refl lead

-- the entry at the place of a link, as it is read
pub entry_read : (es : List Entry) (at : Option ℕ) (k : ℕ) (e : Entry) → at ≡ Some k → IfSome at (λ j. j < length es) → e ≡ get_or es k e → slice_get es k ≡ Some e
entry_read es at k e is below read = slice_get_read es (length es) k e refl (subst (λ (o : Option ℕ). IfSome o (λ j. j < length es)) is below) read

-- ---- what an added code can change
pub holds-set : (f : Rule) (x : List Bool) (c : ℕ) → occurs c f ≡ false → holds f (set x c true) ≡ holds f x
holds-set (code place) x c off = get_or-set_other x c place true false (eqb-false place c off)
holds-set (negation f) x c off = ap not (holds-set f x c off)
holds-set (both f g) x c off =
    let parts = or_parts (occurs c f) (occurs c g) off in
    ap (λ a. a && holds g (set x c true)) (holds-set f x c parts.0) ∙ ap (λ a. holds f x && a) (holds-set g x c parts.1)
holds-set (either f g) x c off =
    let parts = or_parts (occurs c f) (occurs c g) off in
    ap (λ a. a || holds g (set x c true)) (holds-set f x c parts.0) ∙ ap (λ a. holds f x || a) (holds-set g x c parts.1)
holds-set always x c off = refl
holds-set never x c off = refl

-- what is absent from the larger set was absent, and is another code
absent_before : (x : List Bool) (c k : ℕ) → c < length x → has (set x c true) k ≡ false → (k ≢ c) × (has x k ≡ false)
absent_before x c k within absent =
    elim (cases_eq k c) [
      | inl same ↦ absurd (false≢true (sym absent ∙ ap (λ j. get_or (set x c true) j false) same ∙ get_or-set_same x c true false within))
      | inr other ↦ (other, sym (get_or-set_other x c k true false other) ∙ absent)
    ]

-- a rule that fires over the larger set adds another code, and fired before or has the added code in its formula
pub record FiresAfter (day : ℕ) (x : List Bool) (c : ℕ) (s : Supplement) : Type 0 where
  pub other : s.code ≢ c
  pub was : (fires day x s ≡ true) ⊎ (occurs c s.rule ≡ true)

pub fires_after : (day : ℕ) (x : List Bool) (c : ℕ) (s : Supplement) → c < length x → fires day (set x c true) s ≡ true → FiresAfter day x c s
fires_after day x c s within on =
    let y = set x c true in
    let first = and_parts (is_within s.from s.until day && holds s.rule y) (not (has y s.code)) on in
    let inner = and_parts (is_within s.from s.until day) (holds s.rule y) first.0 in
    let absent = absent_before x c s.code within (not-true (has y s.code) first.1) in
    record {
      other = absent.0;
      was = elim (cases_Bool (occurs c s.rule)) [
        | inl there ↦ inr there
        | inr off ↦ inl (and_from (is_within s.from s.until day && holds s.rule x) (not (has x s.code))
            (and_from (is_within s.from s.until day) (holds s.rule x) inner.0 (sym (holds-set s.rule x c off) ∙ inner.1))
            (not_from_false (has x s.code) absent.1))
      ];
    }

-- ---- noting rules
pub notes_none : (lists : OccurrenceLists) (rule : ℕ) → Notes lists lists rule (λ c. false)
notes_none lists rule = record { same_codes = refl; linked = λ codes n below l. l; keeps = λ c r w. w; noted = λ c off. absurd (false≢true off) }

pub notes_both : (a b c : OccurrenceLists) (rule : ℕ) (p q : ℕ → Bool) → Notes a b rule p → Notes b c rule q → Notes a c rule (λ k. p k || q k)
notes_both a b c rule p q one two = record {
  same_codes = two.same_codes ∙ one.same_codes;
  linked = λ codes n below l. two.linked codes n below (one.linked codes n below l);
  keeps = λ k r w. two.keeps k r (one.keeps k r w);
  noted = λ k on. elim (or_cases (p k) (q k) on) [ inl left ↦ two.keeps k rule (one.noted k left) | inr right ↦ two.noted k right ];
}

-- the rule may be noted at fewer codes
pub notes_fewer : (a b : OccurrenceLists) (rule : ℕ) (p q : ℕ → Bool) → ((c : ℕ) → q c ≡ true → p c ≡ true) → Notes a b rule p → Notes a b rule q
notes_fewer a b rule p q passes notes = record { same_codes = notes.same_codes; linked = notes.linked; keeps = notes.keeps; noted = λ c on. notes.noted c (passes c on) }

-- a code stands in a formula where a node of its list is that code
occurs-nodes_then : (c : ℕ) (f : Rule) (rest : List Node) → list_any (is_code c) (nodes_then f rest) ≡ (occurs c f || list_any (is_code c) rest)
occurs-nodes_then c (code place) rest = refl
occurs-nodes_then c (negation f) rest = occurs-nodes_then c f (Not ∷ rest)
occurs-nodes_then c (both f g) rest =
    occurs-nodes_then c f (WhenTrue (size g) ∷ nodes_then g (And (size g) ∷ rest)) ∙ ap (λ b. occurs c f || b) (occurs-nodes_then c g (And (size g) ∷ rest))
    ∙ sym (or_assoc (occurs c f) (occurs c g) (list_any (is_code c) rest))
occurs-nodes_then c (either f g) rest =
    occurs-nodes_then c f (WhenFalse (size g) ∷ nodes_then g (Or (size g) ∷ rest)) ∙ ap (λ b. occurs c f || b) (occurs-nodes_then c g (Or (size g) ∷ rest))
    ∙ sym (or_assoc (occurs c f) (occurs c g) (list_any (is_code c) rest))
occurs-nodes_then c always rest = refl
occurs-nodes_then c never rest = refl

pub is_among : (c : ℕ) (f : Rule) (ns : List Node) → ns ≡ nodes_of f → occurs c f ≡ true → list_any (is_code c) ns ≡ true
is_among c f ns are on = ap (list_any (is_code c)) are ∙ occurs-nodes_then c f [] ∙ ap (λ b. b || false) on

-- the rule was noted at the codes of the first `at` nodes, and then at the next
pub notes_next : (a b d : OccurrenceLists) (rule at : ℕ) (ns : List Node) (node e : Node) → at < length ns → get_or ns at e ≡ node
    → Notes a b rule (λ c. list_any (is_code c) (take at ns)) → Notes b d rule (λ c. is_code c node) → Notes a d rule (λ c. list_any (is_code c) (take (at + 1) ns))
notes_next a b d rule at ns node e inside is one two =
    notes_fewer a d rule (λ c. list_any (is_code c) (take at ns) || is_code c node) (λ c. list_any (is_code c) (take (at + 1) ns)) passes
    (notes_both a b d rule (λ c. list_any (is_code c) (take at ns)) (λ c. is_code c node) one two)
  where
    next : at + 1 ≡ suc at
    next = omega arith

    front : take (at + 1) ns ≡ take at ns ++ node ∷ []
    front = ap (λ k. take k ns) next ∙ take-suc ns at e inside ∙ ap (λ m. take at ns ++ m ∷ []) is

    same : (c : ℕ) → list_any (is_code c) (take (at + 1) ns) ≡ (list_any (is_code c) (take at ns) || (is_code c node || false))
    same c = ap (list_any (is_code c)) front ∙ list_any-append (is_code c) (take at ns) (node ∷ [])

    passes : (c : ℕ) → list_any (is_code c) (take (at + 1) ns) ≡ true → (list_any (is_code c) (take at ns) || is_code c node) ≡ true
    passes c on = ap (λ b. list_any (is_code c) (take at ns) || b) (sym (or-false (is_code c node))) ∙ sym (same c) ∙ on

pub is_below-code : (n place : ℕ) → is_below n (Code place) ≡ true → place < n
is_below-code n place below = ltb-true place n below

-- no code is noted at another node
pub notes_no_code : (lists : OccurrenceLists) (rule : ℕ) (node : Node) → ((c : ℕ) → is_code c node ≡ false) → Notes lists lists rule (λ c. is_code c node)
notes_no_code lists rule node none = notes_fewer lists lists rule (λ c. false) (λ c. is_code c node) (λ c on. sym (none c) ∙ on) (notes_none lists rule)

IfSome-below : (o : Option ℕ) (m n : ℕ) → m ≤ n → IfSome o (λ k. k < m) → IfSome o (λ k. k < n)
IfSome-below None m n le below = below
IfSome-below (Some k) m n le below = omega (arith, below)

-- the new entry goes before those of its code
pub notes_entry : (old new : OccurrenceLists) (c rule : ℕ) (head : Option ℕ) → c < length old.heads.items → head ≡ get_or old.heads.items c head
    → new.entries.items ≡ old.entries.items ++ record { rule = rule; next = head } ∷ []
    → new.heads.items ≡ set old.heads.items c (Some (length old.entries.items))
    → Notes old new rule (λ k. eqb c k)
notes_entry old new c rule head within is entries heads =
    let es = old.entries.items in
    let e : Entry = record { rule = rule; next = head } in
    let n = length es in
    let first : get_or old.heads.items c None ≡ head = get_or_from_slice_get old.heads.items c head None (slice_get_read old.heads.items (length old.heads.items) c head refl within is) in
    let grown : length (es ++ e ∷ []) ≡ n + 1 = length-append es (e ∷ []) in
    record {
      same_codes = ap length heads ∙ length-set old.heads.items c (Some n);
      linked = λ codes m below l. record {
        codes_have_heads = ap length heads ∙ length-set old.heads.items c (Some n) ∙ l.codes_have_heads;
        heads_in_range = subst (λ (es2 : List Entry). All (λ h. IfSome h (λ k. k < length es2)) new.heads.items) (sym entries)
            (subst (λ hs. All (λ h. IfSome h (λ k. k < length (es ++ e ∷ []))) hs) (sym heads)
            (All-set (λ h. IfSome h (λ k. k < length (es ++ e ∷ []))) old.heads.items c (Some n) (omega (arith, grown))
            (All-weaker (λ h. IfSome h (λ k. k < n)) (λ h. IfSome h (λ k. k < length (es ++ e ∷ []))) (λ h. IfSome-below h n (length (es ++ e ∷ [])) (omega (arith, grown))) old.heads.items l.heads_in_range)));
        leads_back = λ k f there.
            elim (slice_get-push_cases es e k f (ap (λ es2. slice_get es2 k) (sym entries) ∙ there)) [
              | inl before_ ↦ l.leads_back k f before_
              | inr last ↦ subst (λ (g : Entry). IfSome g.next (λ j. j < k)) last.1 (subst (λ j2. IfSome head (λ j. j < j2)) (sym last.0)
                  (subst (λ h. IfSome h (λ j. j < n)) first (All-get_or (λ h. IfSome h (λ k2. k2 < n)) old.heads.items c None within l.heads_in_range)))
            ];
        rules_in_range = λ k f there.
            elim (slice_get-push_cases es e k f (ap (λ es2. slice_get es2 k) (sym entries) ∙ there)) [
              | inl before_ ↦ l.rules_in_range k f before_
              | inr last ↦ subst (λ (g : Entry). g.rule < m) last.1 below
            ];
      };
      keeps = λ k r w.
          subst (λ (es2 : List Entry). Leads es2 r (get_or new.heads.items k None)) (sym entries)
          (subst (λ hs. Leads (es ++ e ∷ []) r (get_or hs k None)) (sym heads)
          (elim (cases_eq k c) [
            | inl same ↦
                let old_head : get_or old.heads.items k None ≡ head = ap (λ j. get_or old.heads.items j None) same ∙ first in
                let at : get_or (set old.heads.items c (Some n)) k None ≡ Some n = ap (λ j. get_or (set old.heads.items c (Some n)) j None) same ∙ get_or-set_same old.heads.items c (Some n) None within in
                subst (λ h. Leads (es ++ e ∷ []) r h) (sym at) (later n e refl (slice_get-last es e) (Leads-push es e r head (subst (λ h. Leads es r h) old_head w)))
            | inr other ↦
                subst (λ h. Leads (es ++ e ∷ []) r h) (sym (get_or-set_other old.heads.items c k (Some n) None other)) (Leads-push es e r (get_or old.heads.items k None) w)
          ]));
      noted = λ k on.
          subst (λ (es2 : List Entry). Leads es2 rule (get_or new.heads.items k None)) (sym entries)
          (subst (λ hs. Leads (es ++ e ∷ []) rule (get_or hs k None)) (sym heads)
          (let at : get_or (set old.heads.items c (Some n)) k None ≡ Some n = ap (λ j. get_or (set old.heads.items c (Some n)) j None) (sym (eqb-true c k on)) ∙ get_or-set_same old.heads.items c (Some n) None within in
          subst (λ h. Leads (es ++ e ∷ []) rule h) (sym at) (here n e refl (slice_get-last es e) refl)));
    }

-- ---- completion
Contains-front : {X : Type 0} (x : X) (xs : List X) → Contains (x ∷ xs) x
Contains-front x xs = (zero, omega arith, refl)

Contains-behind : {X : Type 0} (y x : X) (xs : List X) → Contains xs x → Contains (y ∷ xs) x
Contains-behind y x xs among = (suc among.0, omega (arith, among.1), among.2)

-- the rules up to the place `at` that fire are among the candidates
pub record AddedUpTo (rules : List Supplement) (day : ℕ) (x : List Bool) (entries : List Entry) (head : Option ℕ) (old now : List Candidate) (at : Option ℕ) : Type 0 where
  pub candidates : AreCandidates rules now
  pub keeps : (t : Candidate) → Contains old t → Contains now t
  pub added : (p : ℕ) (s : Supplement) → Leads entries p head → slice_get rules p ≡ Some s → fires day x s ≡ true → Contains now (candidate_of p s) ⊎ Leads entries p at
  pub in_range : IfSome at (λ k. k < length entries)

pub added_more : (rules : List Supplement) (day : ℕ) (x : List Bool) (entries : List Entry) (head : Option ℕ) (old now new : List Candidate) (k : ℕ) (e : Entry) (s : Supplement)
    → slice_get entries k ≡ Some e → IfSome e.next (λ j. j < k) → slice_get rules e.rule ≡ Some s → IsPermutation (candidate_of e.rule s ∷ now) new
    → AddedUpTo rules day x entries head old now (Some k) → AddedUpTo rules day x entries head old new e.next
added_more rules day x entries head old now new k e s there back of_rule moved so_far =
    let t = candidate_of e.rule s in
    let goes : (u : Candidate) → Contains (t ∷ now) u → Contains new u = λ u among. Contains-permutation (t ∷ now) new u moved among in
    record {
      candidates = All-permutation (λ u. (r : Supplement) × (slice_get rules u.rule ≡ Some r) × (u.rank ≡ r.rank)) (t ∷ now) new moved
          (All-cons (λ u. (r : Supplement) × (slice_get rules u.rule ≡ Some r) × (u.rank ≡ r.rank)) t now (s, of_rule, refl) so_far.candidates);
      keeps = λ u among. goes u (Contains-behind t u now (so_far.keeps u among));
      added = λ p r lead is_rule on.
          elim (so_far.added p r lead is_rule on) [
            | inl among ↦ inl (goes (candidate_of p r) (Contains-behind t (candidate_of p r) now among))
            | inr still ↦ elim (leads_on entries p k e there still) [
              | inl same ↦
                  let rule : s ≡ r = same_Some s r (sym of_rule ∙ ap (slice_get rules) same ∙ is_rule) in
                  let candidate : t ≡ candidate_of p r = ap (λ (q : Supplement). candidate_of e.rule q) rule ∙ ap (λ j. candidate_of j r) same in
                  inl (goes (candidate_of p r) (subst (λ (u : Candidate). Contains (t ∷ now) u) candidate (Contains-front t now)))
              | inr rest ↦ inr rest
            ]
          ];
      in_range = IfSome-below e.next k (length entries) (omega (arith, slice_get_within entries k e there)) back;
    }

-- a rule that does not fire is not needed
pub added_same : (rules : List Supplement) (day : ℕ) (x : List Bool) (entries : List Entry) (head : Option ℕ) (old now : List Candidate) (k : ℕ) (e : Entry) (s : Supplement)
    → slice_get entries k ≡ Some e → IfSome e.next (λ j. j < k) → slice_get rules e.rule ≡ Some s → fires day x s ≡ false
    → AddedUpTo rules day x entries head old now (Some k) → AddedUpTo rules day x entries head old now e.next
added_same rules day x entries head old now k e s there back of_rule off so_far = record {
  candidates = so_far.candidates;
  keeps = so_far.keeps;
  added = λ p r lead is_rule on.
      elim (so_far.added p r lead is_rule on) [
        | inl among ↦ inl among
        | inr still ↦ elim (leads_on entries p k e there still) [
          | inl same ↦
              let rule : s ≡ r = same_Some s r (sym of_rule ∙ ap (slice_get rules) same ∙ is_rule) in
              absurd (false≢true (sym off ∙ ap (fires day x) rule ∙ on))
          | inr rest ↦ inr rest
        ]
      ];
  in_range = IfSome-below e.next k (length entries) (omega (arith, slice_get_within entries k e there)) back;
}

-- ---- marks
pub has_within : (x : List Bool) (c : ℕ) → has x c ≡ true → c < length x
has_within [] c on = absurd (false≢true on)
has_within (b ∷ x) zero on = omega arith
has_within (b ∷ x) (suc c) on = omega (arith, has_within x c on)

-- a mark stays where another is set
mark_stays : (marks : List Bool) (k p : ℕ) → has marks p ≡ true → has (set marks k true) p ≡ true
mark_stays marks k p on =
    elim (cases_eq p k) [
      | inl same ↦ ap (λ j. has (set marks j true) p) (sym same) ∙ get_or-set_same marks p true false (has_within marks p on)
      | inr other ↦ get_or-set_other marks k p true false other ∙ on
    ]

-- the rules from the head up to the place `at` are marked
pub record MarkedUpTo (entries : List Entry) (head : Option ℕ) (old now : List Bool) (at : Option ℕ) : Type 0 where
  pub same_rules : length now ≡ length old
  pub keeps : (p : ℕ) → has old p ≡ true → has now p ≡ true
  pub listed : (p : ℕ) → Leads entries p head → (has now p ≡ true) ⊎ Leads entries p at

pub marked_more : (entries : List Entry) (head : Option ℕ) (old now : List Bool) (k : ℕ) (e : Entry) → slice_get entries k ≡ Some e → e.rule < length now
    → MarkedUpTo entries head old now (Some k) → MarkedUpTo entries head old (set now e.rule true) e.next
marked_more entries head old now k e there within up = record {
  same_rules = length-set now e.rule true ∙ up.same_rules;
  keeps = λ p on. mark_stays now e.rule p (up.keeps p on);
  listed = λ p lead.
      elim (up.listed p lead) [
        | inl on ↦ inl (mark_stays now e.rule p on)
        | inr still ↦ elim (leads_on entries p k e there still) [
          | inl same ↦ inl (subst (λ j. has (set now e.rule true) j ≡ true) same (get_or-set_same now e.rule true false within))
          | inr rest ↦ inr rest
        ]
      ];
}

-- what may be tried may be tried with further marks
pub tryable_kept : (rules : List Supplement) (old now : List Bool) (ts : List Candidate) → ((p : ℕ) → has old p ≡ true → has now p ≡ true) → AreTryable rules old ts → AreTryable rules now ts
tryable_kept rules old now ts keeps all =
    All-weaker (IsTryable rules old) (IsTryable rules now) (λ t one. elim one [ inl on ↦ inl (keeps t.rule on) | inr stands ↦ inr stands ]) ts all

pub tryable_marked : (rules : List Supplement) (now : List Bool) (k : ℕ) (ts : List Candidate) → AreTryable rules now ts → AreTryable rules (set now k true) ts
tryable_marked rules now k ts all = tryable_kept rules now (set now k true) ts (λ p on. mark_stays now k p on) all

-- a candidate of a rule that was marked just now
pub tryable_pushed : (rules : List Supplement) (now : List Bool) (t : Candidate) (old new : List Candidate) → t.rule < length now → IsPermutation (t ∷ old) new → AreTryable rules now old
    → AreTryable rules (set now t.rule true) new
tryable_pushed rules now t old new within moved all =
    All-permutation (IsTryable rules (set now t.rule true)) (t ∷ old) new moved
    (All-cons (IsTryable rules (set now t.rule true)) t old (inl (get_or-set_same now t.rule true false within)) (tryable_marked rules now t.rule old all))

-- the rules up to the place `at` are marked, and those of them that fire are among the candidates
pub record IsAdding (rules : List Supplement) (day : ℕ) (x : List Bool) (entries : List Entry) (head : Option ℕ) (old now : List Candidate) (old_marks marks : List Bool) (at : Option ℕ) : Type 0 where
  pub added : AddedUpTo rules day x entries head old now at
  pub marked : MarkedUpTo entries head old_marks marks at
  pub tryable : AreTryable rules marks now

pub adding_more : (rules : List Supplement) (day : ℕ) (x : List Bool) (entries : List Entry) (head : Option ℕ) (old now new : List Candidate) (old_marks marks : List Bool) (k : ℕ) (e : Entry) (s : Supplement)
    → slice_get entries k ≡ Some e → IfSome e.next (λ j. j < k) → slice_get rules e.rule ≡ Some s → e.rule < length marks → IsPermutation (candidate_of e.rule s ∷ now) new
    → IsAdding rules day x entries head old now old_marks marks (Some k) → IsAdding rules day x entries head old new old_marks (set marks e.rule true) e.next
adding_more rules day x entries head old now new old_marks marks k e s there back of_rule within moved so_far = record {
  added = added_more rules day x entries head old now new k e s there back of_rule moved so_far.added;
  marked = marked_more entries head old_marks marks k e there within so_far.marked;
  tryable = tryable_pushed rules marks (candidate_of e.rule s) now new within moved so_far.tryable;
}

-- a rule that does not fire is only marked
pub adding_same : (rules : List Supplement) (day : ℕ) (x : List Bool) (entries : List Entry) (head : Option ℕ) (old now : List Candidate) (old_marks marks : List Bool) (k : ℕ) (e : Entry) (s : Supplement)
    → slice_get entries k ≡ Some e → IfSome e.next (λ j. j < k) → slice_get rules e.rule ≡ Some s → e.rule < length marks → fires day x s ≡ false
    → IsAdding rules day x entries head old now old_marks marks (Some k) → IsAdding rules day x entries head old now old_marks (set marks e.rule true) e.next
adding_same rules day x entries head old now old_marks marks k e s there back of_rule within off so_far = record {
  added = added_same rules day x entries head old now k e s there back of_rule off so_far.added;
  marked = marked_more entries head old_marks marks k e there within so_far.marked;
  tryable = tryable_marked rules marks e.rule now so_far.tryable;
}

-- ---- building the lists
pub linked_start : (codes n : ℕ) (lists : OccurrenceLists) → lists.heads.items ≡ replicate codes None → lists.entries.items ≡ [] → AreLinked codes n lists
linked_start codes n lists heads entries = record {
  codes_have_heads = ap length heads ∙ length-replicate codes None;
  heads_in_range = All-same (λ head. IfSome head (λ k. k < length lists.entries.items)) lists.heads.items (replicate codes None) heads (All-replicate (λ head. IfSome head (λ k. k < length lists.entries.items)) codes None tt);
  leads_back = λ k e there. absurd (none-some e (sym (ap (λ es. slice_get es k) entries) ∙ there));
  rules_in_range = λ k e there. absurd (none-some e (sym (ap (λ es. slice_get es k) entries) ∙ there));
}

pub listed_more : (rules : List Supplement) (place : ℕ) (s : Supplement) (old new : OccurrenceLists) → slice_get rules place ≡ Some s → Notes old new place (λ c. occurs c s.rule)
    → ListsFirst old rules place → ListsFirst new rules (place + 1)
listed_more rules place s old new there noted so_far p r below is_rule c on =
    elim (cases_eq p place) [
      | inl same ↦
          let rule : s ≡ r = same_Some s r (sym there ∙ ap (slice_get rules) (sym same) ∙ is_rule) in
          subst (λ q. Lists new c q) (sym same) (noted.noted c (subst (λ (q : Supplement). occurs c q.rule ≡ true) (sym rule) on))
      | inr other ↦ noted.keeps c p (so_far p r (omega arith) is_rule c on)
    ]

pub links_fall : (next at : Option ℕ) (k : ℕ) → at ≡ Some k → IfSome next (λ j. j < k) → option_map_or (λ j. suc j) next 0 < option_map_or (λ j. suc j) at 0
links_fall None at k is back = subst (λ o. 0 < option_map_or (λ j. suc j) o 0) (sym is) (omega arith)
links_fall (Some j) at k is back = subst (λ o. suc j < option_map_or (λ j. suc j) o 0) (sym is) (omega (arith, back))

-- ---- the order of candidates
nat_cmp-same : (a b : ℕ) → a ≡ b → nat_cmp a b ≡ Equal
nat_cmp-same a b same = ap (λ c. cond c Less (cond (eqb a b) Equal Greater)) (le-ltb a b (omega arith)) ∙ ap (λ c. cond c Equal Greater) (eq-eqb a b same)

nat_cmp-less : (a b : ℕ) → a < b → nat_cmp a b ≡ Less
nat_cmp-less a b less = ap (λ c. cond c Less (cond (eqb a b) Equal Greater)) (lt-ltb a b less)

pub comes_before : (t u : Candidate) → is_lt (ordering_then (nat_cmp u.rank t.rank) (nat_cmp u.rule t.rule)) ≡ false → ComesBefore t u
comes_before t u not_less =
    elim (cases_order t.rank u.rank) [
      | inl same ↦
          let tie : nat_cmp u.rank t.rank ≡ Equal = nat_cmp-same u.rank t.rank (sym same) in
          inr (same, ge_from_not_lt u.rule t.rule (sym (ap (λ o. is_lt (ordering_then o (nat_cmp u.rule t.rule))) tie) ∙ not_less))
      | inr apart ↦ elim apart [
        | inl lower ↦ inl lower
        | inr higher ↦ absurd (false≢true (sym not_less ∙ ap (λ o. is_lt (ordering_then o (nat_cmp u.rule t.rule))) (nat_cmp-less u.rank t.rank higher)))
      ]
    ]

nat_cmp-greater : (a b : ℕ) → b < a → nat_cmp a b ≡ Greater
nat_cmp-greater a b greater =
    ap (λ c. cond c Less (cond (eqb a b) Equal Greater)) (le-ltb a b (omega (arith, greater))) ∙ ap (λ c. cond c Equal Greater) (ne_eqb a b (λ same. omega (arith, greater, same)))

le_from_is_lt : (a b : ℕ) → is_lt (nat_cmp a b) ≡ true → a ≤ b
le_from_is_lt a b on =
    elim (cases_order a b) [
      | inl same ↦ omega (arith, same)
      | inr apart ↦ elim apart [ inl less ↦ omega (arith, less) | inr greater ↦ absurd (false≢true (sym (ap is_lt (nat_cmp-greater a b greater)) ∙ on)) ]
    ]

pub comes_strictly : (t u : Candidate) → is_lt (ordering_then (nat_cmp t.rank u.rank) (nat_cmp t.rule u.rule)) ≡ true → ComesBefore t u
comes_strictly t u less =
    elim (cases_order t.rank u.rank) [
      | inl same ↦
          let tie : nat_cmp t.rank u.rank ≡ Equal = nat_cmp-same t.rank u.rank same in
          inr (same, le_from_is_lt t.rule u.rule (sym (ap (λ o. is_lt (ordering_then o (nat_cmp t.rule u.rule))) tie) ∙ less))
      | inr apart ↦ elim apart [
        | inl lower ↦ inl lower
        | inr higher ↦ absurd (false≢true (sym (ap (λ o. is_lt (ordering_then o (nat_cmp t.rule u.rule))) (nat_cmp-greater t.rank u.rank higher)) ∙ less))
      ]
    ]

pub all_come_after : (t : Reverse Candidate) (us : List (Reverse Candidate)) → AllByRecursion (λ u. is_lt (ordering_then (nat_cmp u.0.rank t.0.rank) (nat_cmp u.0.rule t.0.rule)) ≡ false) us → All (ComesBefore t.0) (map (λ r. r.0) us)
all_come_after t [] after = All-nil (ComesBefore t.0)
all_come_after t (u ∷ us) after = All-cons (ComesBefore t.0) u.0 (map (λ r. r.0) us) (comes_before t.0 u.0 after.0) (all_come_after t us after.1)
