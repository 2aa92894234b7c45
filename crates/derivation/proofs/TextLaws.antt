-- The text of some lines, where lines are put behind others.
use Rattle.std.proofs.Common.{◌≡◌, ℕ, zero, suc, ◌+◌, ◌-◌, ◌<◌, ◌≤◌, ◌^◌, true, List, [], ◌∷◌, ◌++◌, Result, Ok, Err, length, get_or, take, codes, refl, sym, ap, subst, ◌∙◌, arith, append_assoc, append-nil}
use Rattle.std.proofs.Math.Numerals.{add-one}
use Rattle.std.specs.List.{list_all, All, AllByRecursion}
use Rattle.std.specs.Result.{OnOk}
use Rattle.std.specs.Fmt.{decimal}
use Rattle.std.proofs.lemmas.Grind.{flat_map-append}
use Rattle.std.proofs.lemmas.List.{take_all}
use Rattle.pb_base.specs.Names.{is_code_name}
use Rattle.book_model.specs.Contents.{Contents}
use Rattle.clause_pool.specs.Derivation.{Derivation, IsDerived}
use Rattle.clause_pool.specs.declared.chain.Pair.{Pair}
use Rattle.clausify.proofs.ListLaws.{all-append}
use Rattle.derivation.specs.declared.closing.Closing.{Closing}
use Rattle.derivation.specs.declared.slice_proof.SliceProof.{SliceProof}
use Rattle.derivation.specs.CertLine.{CertLine, book_line, slice_line, set_line, step_line, close_line, head_line, end_line}
use Rattle.derivation.specs.Written.{PairFits, LineFits, keyword_of, words_of, line_of, members, pair_words, step_lines, close_lines, slice_lines, lines_from, begun_lines, cert_lines, IsBegun, written}

written_append : (xs ys : List CertLine) → written (xs ++ ys) ≡ written xs ++ written ys
written_append xs ys = flat_map-append (λ l. line_of (keyword_of l) (words_of l)) xs ys

written_one : (line : CertLine) → written (line ∷ []) ≡ line_of (keyword_of line) (words_of line)
written_one line = append-nil (line_of (keyword_of line) (words_of line))

pub more_lines : (t₀ t₁ t₂ : List ℕ) (xs ys : List CertLine) → t₁ ≡ t₀ ++ written xs → t₂ ≡ t₁ ++ written ys → t₂ ≡ t₀ ++ written (xs ++ ys)
more_lines t₀ t₁ t₂ xs ys first next =
    next ∙ ap (λ t. t ++ written ys) first ∙ append_assoc t₀ (written xs) (written ys) ∙ ap (λ t. t₀ ++ t) (sym (written_append xs ys))

one_line : (t₀ t₁ t₂ : List ℕ) (xs : List CertLine) (line : CertLine) → t₁ ≡ t₀ ++ written xs → t₂ ≡ t₁ ++ line_of (keyword_of line) (words_of line) → t₂ ≡ t₀ ++ written (xs ++ line ∷ [])
one_line t₀ t₁ t₂ xs line first next = more_lines t₀ t₁ t₂ xs (line ∷ []) first (next ∙ ap (λ t. t₁ ++ t) (sym (written_one line)))

all_fit : (xs ys : List CertLine) → AllByRecursion LineFits xs → AllByRecursion LineFits ys → AllByRecursion LineFits (xs ++ ys)
all_fit xs ys p q = all-append LineFits xs ys p q

-- closings
closings_more : (closings : List Closing) (i : ℕ) (c : Closing) → i < length closings → c ≡ get_or closings i c → close_lines (take (i + 1) closings) ≡ close_lines (take i closings) ++ close_line c.question c.at ∷ []
closings_more [] i c below is = absurd (omega arith)
closings_more (x ∷ closings) zero c below is = ap (λ y. close_line y.question y.at ∷ []) (sym is)
closings_more (x ∷ closings) (suc i) c below is =
    ap (λ n. close_lines (take n (x ∷ closings))) (add-one (suc i)) ∙ ap (λ l. close_line x.question x.at ∷ l) (ap (λ n. close_lines (take n closings)) (sym (add-one i)) ∙ closings_more closings i c (omega arith) is)

pub one_closing_more : (t₀ t₁ t₂ : List ℕ) (closings : List Closing) (i : ℕ) (c : Closing) → i < length closings → c ≡ get_or closings i c → t₁ ≡ t₀ ++ written (close_lines (take i closings))
    → t₂ ≡ t₁ ++ line_of (codes "close") (decimal c.question ∷ decimal c.at ∷ []) → t₂ ≡ t₀ ++ written (close_lines (take (i + 1) closings))
one_closing_more t₀ t₁ t₂ closings i c below is first next =
    one_line t₀ t₁ t₂ (close_lines (take i closings)) (close_line c.question c.at) first next ∙ ap (λ ls. t₀ ++ written ls) (sym (closings_more closings i c below is))

pub one_closing_fits : (closings : List Closing) (i : ℕ) (c : Closing) → i < length closings → c ≡ get_or closings i c → AllByRecursion LineFits (close_lines (take i closings))
    → (c.question < 2 ^ 64) × (c.at < 2 ^ 64) → AllByRecursion LineFits (close_lines (take (i + 1) closings))
one_closing_fits closings i c below is all here =
    subst (AllByRecursion LineFits) (sym (closings_more closings i c below is)) (all_fit (close_lines (take i closings)) (close_line c.question c.at ∷ []) all (here, tt))

-- steps
pub step_told : {A E : Type 0} (r : Result A E) (t₀ t₁ : List ℕ) (start first : ℕ) (pairs chain : List Pair) → start ≡ first → pairs ≡ chain
    → OnOk r (t₁ ≡ t₀ ++ line_of (codes "step") (decimal start ∷ pair_words pairs)) → OnOk r (t₁ ≡ t₀ ++ line_of (codes "step") (decimal first ∷ pair_words chain))
step_told (Err e) t₀ t₁ start first pairs chain same same_pairs h = tt
step_told (Ok done) t₀ t₁ start first pairs chain same same_pairs h =
    h ∙ ap (λ n. t₀ ++ line_of (codes "step") (decimal n ∷ pair_words pairs)) same ∙ ap (λ ps. t₀ ++ line_of (codes "step") (decimal first ∷ pair_words ps)) same_pairs

pub step_fits : {A E : Type 0} (r : Result A E) (start first : ℕ) (pairs chain : List Pair) → start ≡ first → pairs ≡ chain → 0 < length pairs
    → OnOk r ((start < 2 ^ 64) × All PairFits pairs) → OnOk r (LineFits (step_line first chain))
step_fits (Err e) start first pairs chain same same_pairs some h = tt
step_fits (Ok done) start first pairs chain same same_pairs some h =
    (let below : first < 2 ^ 64 = omega (arith, h.0) in below, subst (All PairFits) same_pairs h.1, subst (λ ps. 0 < length ps) same_pairs some)

steps_more : (starts : List ℕ) (chains : List (List Pair)) (n : ℕ) → n < length starts → n < length chains
    → step_lines (take (n + 1) starts) (take (n + 1) chains) ≡ step_lines (take n starts) (take n chains) ++ step_line (get_or starts n 0) (get_or chains n []) ∷ []
steps_more [] chains n below inside = absurd (omega arith)
steps_more (s ∷ starts) [] n below inside = absurd (omega arith)
steps_more (s ∷ starts) (c ∷ chains) zero below inside = refl
steps_more (s ∷ starts) (c ∷ chains) (suc n) below inside =
    ap (λ m. step_lines (take m (s ∷ starts)) (take m (c ∷ chains))) (add-one (suc n))
    ∙ ap (λ l. step_line s c ∷ l) (ap (λ m. step_lines (take m starts) (take m chains)) (sym (add-one n)) ∙ steps_more starts chains n (omega arith) (omega arith))

pub record StepsPut (k : Derivation) (t₀ t₁ : List ℕ) (at : ℕ) : Type 0 where
  pub derived : k.given ≤ at
  pub text : t₁ ≡ t₀ ++ written (step_lines (take (at - k.given) k.starts) (take (at - k.given) k.pairs))
  pub fit : AllByRecursion LineFits (step_lines (take (at - k.given) k.starts) (take (at - k.given) k.pairs))

pub no_steps : (k : Derivation) (t : List ℕ) (at : ℕ) → at ≡ k.given → StepsPut k t t at
no_steps k t at is =
    let none : at - k.given ≡ 0 = omega arith in
    record {
      derived = omega arith;
      text = sym (append-nil t) ∙ ap (λ n. t ++ written (step_lines (take n k.starts) (take n k.pairs))) (sym none);
      fit = subst (λ n. AllByRecursion LineFits (step_lines (take n k.starts) (take n k.pairs))) (sym none) tt;
    }

pub one_step : (k : Derivation) (t₀ t₁ t₂ : List ℕ) (at : ℕ) → IsDerived k → StepsPut k t₀ t₁ at → at < length k.clauses
    → t₂ ≡ t₁ ++ line_of (codes "step") (decimal (get_or k.starts (at - k.given) 0) ∷ pair_words (get_or k.pairs (at - k.given) []))
    → LineFits (step_line (get_or k.starts (at - k.given) 0) (get_or k.pairs (at - k.given) [])) → StepsPut k t₀ t₂ (at + 1)
one_step k t₀ t₁ t₂ at derived put inside next fits =
    let n = at - k.given in
    let line : CertLine = step_line (get_or k.starts n 0) (get_or k.pairs n []) in
    let before = step_lines (take n k.starts) (take n k.pairs) in
    let count : n + 1 ≡ at + 1 - k.given = omega (arith, put.derived) in
    let more : before ++ line ∷ [] ≡ step_lines (take (at + 1 - k.given) k.starts) (take (at + 1 - k.given) k.pairs) =
    sym (steps_more k.starts k.pairs n (omega (arith, put.derived, derived.clauses_counted)) (omega (arith, put.derived, derived.clauses_counted, derived.pairs_counted)))
    ∙ ap (λ m. step_lines (take m k.starts) (take m k.pairs)) count in
    record {
      derived = omega (arith, put.derived);
      text = one_line t₀ t₁ t₂ before line put.text next ∙ ap (λ ls. t₀ ++ written ls) more;
      fit = subst (AllByRecursion LineFits) more (all_fit before (line ∷ []) put.fit (fits, tt));
    }

pub record TextPut (t₀ t₁ : List ℕ) (lines : List CertLine) : Type 0 where
  pub text : t₁ ≡ t₀ ++ written lines
  pub fit : AllByRecursion LineFits lines

pub all_steps : (k : Derivation) (t₀ t₁ : List ℕ) (at : ℕ) → IsDerived k → StepsPut k t₀ t₁ at → length k.clauses ≤ at → TextPut t₀ t₁ (step_lines k.starts k.pairs)
all_steps k t₀ t₁ at derived put past =
    let n = at - k.given in
    let starts : take n k.starts ≡ k.starts = take_all n k.starts (omega (arith, derived.clauses_counted)) in
    let chains : take n k.pairs ≡ k.pairs = take_all n k.pairs (omega (arith, derived.clauses_counted, derived.pairs_counted)) in
    let whole : step_lines (take n k.starts) (take n k.pairs) ≡ step_lines k.starts k.pairs = ap (λ s. step_lines s (take n k.pairs)) starts ∙ ap (step_lines k.starts) chains in
    record { text = put.text ∙ ap (λ ls. t₀ ++ written ls) whole; fit = subst (AllByRecursion LineFits) whole put.fit }

-- the lines of a slice
slice_put : (b : Contents) (number : ℕ) (proof : SliceProof) (t₀ t₁ t₂ t₃ t₄ : List ℕ) → number < 2 ^ 64 → t₁ ≡ t₀ ++ line_of (codes "slice") (decimal number ∷ [])
    → t₂ ≡ t₁ ++ line_of (codes "set") (members b.codes proof.set) → list_all is_code_name (members b.codes proof.set) ≡ true
    → TextPut t₂ t₃ (step_lines proof.kernel.starts proof.kernel.pairs) → TextPut t₃ t₄ (close_lines proof.closed.items) → TextPut t₀ t₄ (slice_lines b number proof)
slice_put b number proof t₀ t₁ t₂ t₃ t₄ below first next names steps closings =
    let ms = members b.codes proof.set in
    let begun : t₁ ≡ t₀ ++ written (slice_line number ∷ []) = first ∙ ap (λ t. t₀ ++ t) (sym (written_one (slice_line number))) in
    let set_put : t₂ ≡ t₀ ++ written (slice_line number ∷ set_line ms ∷ []) = one_line t₀ t₁ t₂ (slice_line number ∷ []) (set_line ms) begun next in
    let rest = more_lines t₂ t₃ t₄ (step_lines proof.kernel.starts proof.kernel.pairs) (close_lines proof.closed.items) steps.text closings.text in
    record {
      text = more_lines t₀ t₂ t₄ (slice_line number ∷ set_line ms ∷ []) (step_lines proof.kernel.starts proof.kernel.pairs ++ close_lines proof.closed.items) set_put rest;
      fit = (below, (names, all_fit (step_lines proof.kernel.starts proof.kernel.pairs) (close_lines proof.closed.items) steps.fit closings.fit));
    }

pub record SliceTold {A E : Type 0} (r : Result A E) (b : Contents) (number : ℕ) (proof : SliceProof) (t₀ t₁ : List ℕ) : Type 0 where
  pub text : OnOk r (t₁ ≡ t₀ ++ written (slice_lines b number proof))
  pub fit : OnOk r (AllByRecursion LineFits (slice_lines b number proof))
  pub derived : OnOk r (IsDerived proof.kernel)

pub slice_told : {A E : Type 0} (r : Result A E) (b : Contents) (number : ℕ) (proof : SliceProof) (t₀ t₁ t₂ t₃ t₄ : List ℕ) → number < 2 ^ 64 → t₁ ≡ t₀ ++ line_of (codes "slice") (decimal number ∷ [])
    → t₂ ≡ t₁ ++ line_of (codes "set") (members b.codes proof.set) → list_all is_code_name (members b.codes proof.set) ≡ true
    → TextPut t₂ t₃ (step_lines proof.kernel.starts proof.kernel.pairs) → IsDerived proof.kernel → OnOk r (t₄ ≡ t₃ ++ written (close_lines proof.closed.items))
    → OnOk r (AllByRecursion LineFits (close_lines proof.closed.items)) → SliceTold r b number proof t₀ t₄
slice_told (Err e) b number proof t₀ t₁ t₂ t₃ t₄ below first next names steps derived text fit = record { text = tt; fit = tt; derived = tt }
slice_told (Ok done) b number proof t₀ t₁ t₂ t₃ t₄ below first next names steps derived text fit =
    let whole = slice_put b number proof t₀ t₁ t₂ t₃ t₄ below first next names steps (record { text = text; fit = fit }) in
    record { text = whole.text; fit = whole.fit; derived = derived }

-- ---- a certificate in the making
pub cert_begun : (b : Contents) (count : ℕ) (t₀ t₁ t₂ : List ℕ) → t₀ ≡ [] → t₁ ≡ t₀ ++ codes "partsbook certificate 1\n" → t₂ ≡ t₁ ++ line_of (codes "book") (b.name ∷ decimal count ∷ [])
    → LineFits (book_line b.name count) → IsBegun b count [] t₂
cert_begun b count t₀ t₁ t₂ empty first second name =
    let head_put : t₁ ≡ [] ++ written (head_line ∷ []) = first ∙ ap (λ t. t ++ codes "partsbook certificate 1\n") empty in
    record { lines = one_line [] t₁ t₂ (head_line ∷ []) (book_line b.name count) head_put second; fit = (tt, (name, tt)); derived = tt }

-- the lines of the first slices
lines_more : (b : Contents) (k : ℕ) (proofs : List SliceProof) (p : SliceProof) → lines_from b k (proofs ++ p ∷ []) ≡ lines_from b k proofs ++ slice_lines b (k + length proofs) p
lines_more b k [] p = append-nil (slice_lines b k p) ∙ ap (λ n. slice_lines b n p) (let e : k ≡ k + 0 = omega arith in e)
lines_more b k (x ∷ proofs) p =
    ap (λ l. slice_lines b k x ++ l) (lines_more b (suc k) proofs p)
    ∙ sym (append_assoc (slice_lines b k x) (lines_from b (suc k) proofs) (slice_lines b (suc k + length proofs) p))
    ∙ ap (λ n. (slice_lines b k x ++ lines_from b (suc k) proofs) ++ slice_lines b n p) (let e : suc k + length proofs ≡ k + suc (length proofs) = omega arith in e)

pub slice_begun : (b : Contents) (count number : ℕ) (proofs : List SliceProof) (p : SliceProof) (t₁ t₂ : List ℕ) → number ≡ length proofs → IsBegun b count proofs t₁
    → t₂ ≡ t₁ ++ written (slice_lines b number p) → AllByRecursion LineFits (slice_lines b number p) → IsDerived p.kernel → IsBegun b count (proofs ++ p ∷ []) t₂
slice_begun b count number proofs p t₁ t₂ is begun next fits derived =
    let before : List CertLine = begun_lines b count proofs in
    let more : before ++ slice_lines b number p ≡ begun_lines b count (proofs ++ p ∷ []) =
    ap (λ ls. head_line ∷ book_line b.name count ∷ ls)
    (ap (λ n. lines_from b 0 proofs ++ slice_lines b n p) (let e : number ≡ 0 + length proofs = omega (arith, is) in e) ∙ sym (lines_more b 0 proofs p)) in
    record {
      lines = more_lines [] t₁ t₂ before (slice_lines b number p) begun.lines next ∙ ap written more;
      fit = subst (AllByRecursion LineFits) more (all_fit before (slice_lines b number p) begun.fit fits);
      derived = all-append (λ q. IsDerived q.kernel) proofs (p ∷ []) begun.derived (derived, tt);
    }

-- the whole
pub cert_ended : (b : Contents) (proofs : List SliceProof) (t₁ t₂ : List ℕ) → IsBegun b (length proofs) proofs t₁ → t₂ ≡ t₁ ++ codes "end\n" → (t₂ ≡ written (cert_lines b proofs)) × AllByRecursion LineFits (cert_lines b proofs)
cert_ended b proofs t₁ t₂ begun last =
    let before : List CertLine = begun_lines b (length proofs) proofs in
    (more_lines [] t₁ t₂ before (end_line ∷ []) begun.lines last, all_fit before (end_line ∷ []) begun.fit (tt, tt))
