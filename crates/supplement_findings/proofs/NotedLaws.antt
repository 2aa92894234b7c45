-- Rules that were noted in the lists of codes.
use Rattle.std.proofs.Common.{inl, inr, ◌≡◌, ℕ, zero, suc, ◌+◌, ◌-◌, ◌<◌, Bool, true, false, ◌||◌, cond, eqb, List, [], ◌∷◌, ◌++◌, Some, length, get_or, take, drop, replicate, set, refl, sym, ap, subst, ◌∙◌, arith, length-append}
use Rattle.std.specs.List.{list_any, AllByRecursion}
use Rattle.std.proofs.lemmas.Bool.{cases_Bool, cases_eq, cond-true, cond-false, eq-eqb, ne_eqb, and_from, and_parts, and_right, not_from_false}
use Rattle.std.proofs.lemmas.List.{get_or-append_right, get_or-replicate, get_or-set_same, get_or-set_other, length-replicate, length-set, length-take-le, take_at, take_more}
use Rattle.std.proofs.lemmas.List.Folds.{list_any-append}
use Rattle.std.proofs.Math.Bool.{or-false}
use Rattle.std.proofs.lemmas.List.Elements.{All-from_recursion, All-get_or}
use Rattle.pb_base.specs.Node.{are_below, is_below}
use Rattle.pb_base.specs.Rule.{Rule}
use Rattle.pb_base.specs.declared.node.Node.{Node}
use Rattle.book_model.specs.declared.demand.Demand.TheVariants as demand
use Rattle.book_model.specs.declared.record.Construct.{Construct}
use Rattle.supplement.specs.Occurrences.{occurs}
use Rattle.supplement_findings.specs.Answering.{AreTouched}
use Rattle.supplement_findings.specs.Touching.{IsNoted, ends_in, with_end, touched_from, touches, no_construct}
use Rattle.supplement_findings.proofs.TouchedLaws.{touched_within}

-- the list with an item at its end
last_pushed : (p : ℕ) (row : List ℕ) → get_or (row ++ p ∷ []) (length (row ++ p ∷ []) - 1) 0 ≡ p
last_pushed p row =
    let at : length (row ++ p ∷ []) - 1 ≡ length row = omega (arith, length-append row (p ∷ [])) in
    let first : length row - length row ≡ 0 = omega arith in
    ap (λ (n : ℕ). get_or (row ++ p ∷ []) n 0) at ∙ get_or-append_right row (p ∷ []) (length row) (length row) 0 refl (omega arith)
    ∙ ap (λ (n : ℕ). get_or (p ∷ []) n 0) first

pub ends_pushed : (p : ℕ) (row : List ℕ) → ends_in p (row ++ p ∷ []) ≡ true
ends_pushed p row =
    and_from _ _ (not_from_false _ (ne_eqb (length (row ++ p ∷ [])) 0 (λ (e : length (row ++ p ∷ []) ≡ 0). omega (arith, e, length-append row (p ∷ [])))))
    (eq-eqb _ p (last_pushed p row))

with_end_twice : (p : ℕ) (row : List ℕ) → with_end p (with_end p row) ≡ with_end p row
with_end_twice p row =
    elim (cases_Bool (ends_in p row)) [
      | inl e ↦ let same : with_end p row ≡ row = rw e refl in ap (with_end p) same
      | inr e ↦ let more : with_end p row ≡ row ++ p ∷ [] = rw e refl in rw (more, ends_pushed p row) refl
    ]

-- a list of smaller places doesn't end in the place
ends_below : (p : ℕ) (row : List ℕ) → AllByRecursion (λ (k : ℕ). k < p) row → ends_in p row ≡ false
ends_below p [] below = refl
ends_below p (k ∷ ks) below =
    let at : ℕ = length (k ∷ ks) - 1 in
    let less : get_or (k ∷ ks) at 0 < p = All-get_or (λ (j : ℕ). j < p) (k ∷ ks) at 0 (omega arith) (All-from_recursion (λ (j : ℕ). j < p) (k ∷ ks) below) in
    and_right _ _ (ne_eqb (get_or (k ∷ ks) at 0) p (λ (e : get_or (k ∷ ks) at 0 ≡ p). omega (arith, e, less)))

abbrev noted_row : ℕ → Bool → List ℕ → List ℕ
noted_row p t row = cond t (with_end p row) row

noted_twice : (p : ℕ) (t u : Bool) (row : List ℕ) → noted_row p u (noted_row p t row) ≡ noted_row p (t || u) row
noted_twice p true true row = with_end_twice p row
noted_twice p true false row = refl
noted_twice p false true row = refl
noted_twice p false false row = refl

pub noted_none : (p : ℕ) (t : ℕ → Bool) (table : List (List ℕ)) → ((c : ℕ) → t c ≡ false) → IsNoted p t table table
noted_none p t table none = record {
  counted = refl;
  each = λ c within. ap (λ (b : Bool). noted_row p b (get_or table c [])) (sym (none c));
}

pub noted_then : (p : ℕ) (t u v : ℕ → Bool) (old mid new : List (List ℕ)) → IsNoted p t old mid → IsNoted p u mid new → ((c : ℕ) → v c ≡ (t c || u c)) → IsNoted p v old new
noted_then p t u v old mid new first then both = record {
  counted = then.counted ∙ first.counted;
  each = λ c within.
      then.each c (subst (λ (n : ℕ). c < n) (sym first.counted) within) ∙ ap (noted_row p (u c)) (first.each c within)
      ∙ noted_twice p (t c) (u c) (get_or old c []) ∙ ap (λ (b : Bool). noted_row p b (get_or old c [])) (sym (both c));
}

-- of a rule of a code: it stands in the list of that code, and in those of the codes of its formula
pub noted_on : (p code : ℕ) (f : Rule) (old mid new : List (List ℕ)) → IsNoted p (λ c. eqb code c) old mid → IsNoted p (λ c. occurs c f) mid new
    → IsNoted p (λ c. touches c (demand.Rule (Some code) f)) old new
noted_on p code f old mid new first then =
    noted_then p (λ c. eqb code c) (λ c. occurs c f) (λ c. touches c (demand.Rule (Some code) f)) old mid new first then (λ c. refl)

-- the same codes pass
pub noted_same : (p : ℕ) (t u : ℕ → Bool) (old new : List (List ℕ)) → IsNoted p t old new → ((c : ℕ) → t c ≡ u c) → IsNoted p u old new
noted_same p t u old new is same = record {
  counted = is.counted;
  each = λ c within. is.each c within ∙ ap (λ (b : Bool). noted_row p b (get_or old c [])) (same c);
}

-- of one code: its list alone has another end
pub noted_one : (p code : ℕ) (row : List ℕ) (old : List (List ℕ)) → code < length old → row ≡ with_end p (get_or old code []) → IsNoted p (λ c. eqb code c) old (set old code row)
noted_one p code row old within is = record {
  counted = length-set old code row;
  each = λ c inside. elim (cases_eq c code) [
    | inl same ↦
        ap (λ (n : ℕ). get_or (set old code row) n []) same ∙ get_or-set_same old code row [] within ∙ is ∙ ap (λ (n : ℕ). with_end p (get_or old n [])) (sym same)
        ∙ sym (cond-true (eqb code c) (with_end p (get_or old c [])) (get_or old c []) (eq-eqb code c (sym same)))
    | inr apart ↦
        get_or-set_other old code c row [] apart
        ∙ sym (cond-false (eqb code c) (with_end p (get_or old c [])) (get_or old c []) (ne_eqb code c (λ (e : code ≡ c). apart (sym e))))
  ];
}

-- one item more of a list
pub any_next : {X : Type 0} (w : X → Bool) (xs : List X) (i : ℕ) (d : X) → i < length xs → list_any w (take (i + 1) xs) ≡ (list_any w (take i xs) || w (get_or xs i d))
any_next {X} w xs i d within =
    rw (take_more xs i d within, list_any-append, or-false) refl

pub none_yet : {X : Type 0} (w : X → Bool) (xs : List X) → list_any w (take 0 xs) ≡ false
none_yet w [] = refl
none_yet w (x ∷ xs) = refl

-- each node of a list whose nodes are below n
pub below_at : (n : ℕ) (ns : List Node) (at : ℕ) (d : Node) → are_below n ns ≡ true → at < length ns → is_below n (get_or ns at d) ≡ true
below_at n [] at d below within = absurd (omega (arith, within))
below_at n (m ∷ ns) zero d below within = (and_parts (is_below n m) (are_below n ns) below).0
below_at n (m ∷ ns) (suc at) d below within = below_at n ns at d (and_parts (is_below n m) (are_below n ns) below).1 (omega (arith, within))

-- the places of one rule more
touched_push : (c i : ℕ) (rs : List Construct) (r : Construct)
    → touched_from i c (rs ++ r ∷ []) ≡ cond (touches c r.demand) (touched_from i c rs ++ (i + length rs) ∷ []) (touched_from i c rs)
touched_push c i [] r = ap (λ (n : ℕ). cond (touches c r.demand) (n ∷ []) []) (let e : i ≡ i + 0 = omega arith in e)
touched_push c i (q ∷ rs) r =
    let later = touched_push c (suc i) rs r in
    let t : Bool = touches c r.demand in
    let ps : List ℕ = touched_from (suc i) c rs in
    let at : suc i + length rs ≡ i + length (q ∷ rs) = omega arith in
    ap (λ (ks : List ℕ). cond (touches c q.demand) (i ∷ ks) ks) later
    ∙ ap (λ (n : ℕ). cond (touches c q.demand) (i ∷ cond t (ps ++ n ∷ []) ps) (cond t (ps ++ n ∷ []) ps)) at
    ∙ swapped (touches c q.demand) t i (i + length (q ∷ rs)) ps
  where
    swapped : (u t : Bool) (k n : ℕ) (ps : List ℕ)
        → cond u (k ∷ cond t (ps ++ n ∷ []) ps) (cond t (ps ++ n ∷ []) ps) ≡ cond t (cond u (k ∷ ps) ps ++ n ∷ []) (cond u (k ∷ ps) ps)
    swapped u t k n ps = grind arith

-- what stands in a vector once a list as long as its own was written into it
pub written : (new items : List (List ℕ)) (len : ℕ) → length new ≡ length items → length items ≡ len → take len (new ++ drop (length new) items) ≡ new
written new items len same counted = take_at new (drop (length new) items) len (same ∙ counted)

pub touched_none : (codes : ℕ) (rs : List Construct) → AreTouched codes (take 0 rs) (replicate codes [])
touched_none codes rs = record {
  counted = length-replicate codes [];
  each = λ c within. get_or-replicate codes c [] [] within;
}

pub touched_next : (codes place : ℕ) (rs : List Construct) (old new : List (List ℕ)) → place < length rs → AreTouched codes (take place rs) old
    → IsNoted place (λ c. touches c (get_or rs place no_construct).demand) old new → AreTouched codes (take (place + 1) rs) new
touched_next codes place rs old new within are noted = record {
  counted = noted.counted ∙ are.counted;
  each = λ c inside.
      let r : Construct = get_or rs place no_construct in
      let so_far : List Construct = take place rs in
      let row : List ℕ = touched_from 0 c so_far in
      let count : length so_far ≡ place = length-take-le place rs (omega arith) in
      let less : c < length old = subst (λ (n : ℕ). c < n) (sym are.counted) inside in
      let below : AllByRecursion (λ (k : ℕ). k < place) row = touched_within c 0 place so_far (omega (arith, count)) in
      let pushed : with_end place row ≡ row ++ place ∷ [] = cond-false (ends_in place row) row (row ++ place ∷ []) (ends_below place row below) in
      noted.each c less
      ∙ ap (noted_row place (touches c r.demand)) (are.each c inside)
      ∙ ap (λ (ks : List ℕ). cond (touches c r.demand) ks row) (pushed ∙ ap (λ (n : ℕ). row ++ n ∷ []) (let e : place ≡ 0 + length so_far = omega (arith, count) in e))
      ∙ sym (touched_push c 0 so_far r)
      ∙ ap (touched_from 0 c) (sym (take_more rs place no_construct within));
}
