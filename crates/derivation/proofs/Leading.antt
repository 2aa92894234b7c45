-- The lines of proofs that show that a book can be released lead from the first line to the end.
use Rattle.std.proofs.Common.{◌≡◌, ℕ, zero, suc, ◌+◌, ◌<◌, ◌≤◌, Bool, true, false, cond, eqb, ltb, ◌&&◌, List, [], ◌∷◌, ◌++◌, None, Some, Result, Ok, Err, length, get_or, take, drop, map, refl, sym, ap, subst, ◌∙◌, arith, append_assoc, eq-eqb}
use Rattle.std.proofs.Math.Numerals.{add-one}
use Rattle.std.specs.List.{slice_get, IsDistinct, AllByRecursion, AllZip}
use Rattle.std.specs.Cmp.Lexicographic.{nat_list_eq_equiv}
use Rattle.std.proofs.lemmas.Bool.{and_from, cond-true, lt-ltb}
use Rattle.std.proofs.lemmas.List.{drop_more, take_more, take_all}
use Rattle.std.proofs.lemmas.Option.{slice_get-get_or}
use Rattle.std.proofs.lemmas.Slice.Zip.{AllZip-long}
use Rattle.pb_base.specs.Names.{same_name}
use Rattle.pb_base.specs.NamedSet.{set_of_names}
use Rattle.pb_base.specs.Results.{and_then, unless}
use Rattle.book_model.specs.Contents.{Contents}
use Rattle.book_model.specs.Good.{is_good}
use Rattle.book_model.specs.declared.record.Slice.{Slice}
use Rattle.clause_pool.specs.Chain.{chain}
use Rattle.clause_pool.specs.Derivation.{IsDerived}
use Rattle.clause_pool.specs.declared.chain.Pair.{Pair}
use Rattle.derivation.specs.declared.closing.Closing.{Closing}
use Rattle.derivation.specs.declared.closing.ToClose.{ToClose}
use Rattle.derivation.specs.declared.fault.CertKind.{CertKind}
use Rattle.derivation.specs.declared.fault.CertKind.TheVariants.{Syntax, WrongBook, NotClosed, BadSet}
use Rattle.derivation.specs.declared.fault.Certified.{Certified}
use Rattle.derivation.specs.declared.slice_proof.SliceProof.{SliceProof}
use Rattle.derivation.specs.After.{after, next_slice, is_good_set, opened, good_then, with_clause, closes, closed_by, close_next}
use Rattle.derivation.specs.CertLine.{CertLine, head_line, book_line, slice_line, set_line, step_line, close_line, end_line, cert_line}
use Rattle.derivation.specs.Certificate.{at_line, past_end, is_step, taken_as, taken_line, after_last, with_line, read_lines, read_cert, within_limits, cert_answer}
use Rattle.derivation.specs.Showing.{AllClosed, ShowsSlice, ShowEach, derived_by, shown_by}
use Rattle.derivation.specs.Stage.{SliceSoFar, Stage, at_head, at_book, at_slices, at_set, within, at_end}
use Rattle.derivation.specs.Written.{members, step_lines, close_lines, slice_lines, lines_from, cert_lines, written, LineFits}
use Rattle.derivation.proofs.LimitLaws.{some_slices}
use Rattle.derivation.proofs.LineBack.{line_text, line_back, texts_back}
use Rattle.derivation.proofs.MemberLaws.{set_back}

-- the stage behind some lines
abbrev after_all : Contents → List Slice → Stage → List CertLine → Result Stage CertKind
after_all b slices stage [] = Ok stage
after_all b slices stage (line ∷ lines) = and_then (after b slices stage line) (λ behind. after_all b slices behind lines)

-- one line, and those behind it
after_one : (b : Contents) (slices : List Slice) (stage behind : Stage) (line : CertLine) (lines : List CertLine) (end : Result Stage CertKind) → after b slices stage line ≡ Ok behind
    → after_all b slices behind lines ≡ end → after_all b slices stage (line ∷ lines) ≡ end
after_one b slices stage behind line lines end here rest = ap (λ r. and_then r (λ s. after_all b slices s lines)) here ∙ rest

-- a slice is past: nothing of it is left to close
abbrev past : ℕ → List (List ℕ) → Stage
past k clauses = within (record { slice = k; clauses = clauses; left = [] })

begins : (slices k number : ℕ) → k < slices → number ≡ k → next_slice slices k None number ≡ Ok (at_set k)
begins slices k number there is =
    cond-true (eqb number k && ltb k slices) (Ok (at_set k)) (Err Syntax) (and_from (eqb number k) (ltb k slices) (eq-eqb number k is) (lt-ltb k slices there))

-- the slices before this number are past
abbrev IsPast : ℕ → Stage → Type 0
IsPast zero stage = stage ≡ at_slices
IsPast (suc k) stage = (clauses : List (List ℕ)) × (stage ≡ past k clauses)

slice_begins : (b : Contents) (slices : List Slice) (k : ℕ) (stage : Stage) → IsPast k stage → k < length slices → after b slices stage (slice_line k) ≡ Ok (at_set k)
slice_begins b slices zero stage is there = ap (λ s. after b slices s (slice_line 0)) is ∙ begins (length slices) 0 0 there refl
slice_begins b slices (suc k) stage is there =
    ap (λ s. after b slices s (slice_line (suc k))) is.1 ∙ begins (length slices) (k + 1) (suc k) (let below : k + 1 < length slices = omega arith in below) (let same : suc k ≡ k + 1 = omega arith in same)
    ∙ ap (λ n. Ok (at_set n)) (add-one k)

set_is_read : (b : Contents) (slices : List Slice) (k : ℕ) (s : Slice) (x : List Bool) → slice_get slices k ≡ Some s → IsDistinct same_name b.codes → length x ≡ length b.codes → is_good b s.first x ≡ true
    → after b slices (at_set k) (set_line (members b.codes x)) ≡ Ok (within (opened b s.first k))
set_is_read b slices k s x there apart len good =
    ap (λ o. good_then b k o (members b.codes x)) there
    ∙ cond-true (is_good_set b s.first (set_of_names b.codes (members b.codes x))) (Ok (within (opened b s.first k))) (Err (BadSet k)) (ap (is_good_set b s.first) (set_back b.codes x apart len) ∙ good)

-- the steps
abbrev Derives : List (List ℕ) → ℕ → List ℕ → List (List Pair) → Type 0
Derives clauses n starts chains = (j : ℕ) → j < length starts → chain (take (n + j) clauses) (get_or starts j 0) (get_or chains j []) ≡ Ok (get_or clauses (n + j) [])

steps_lead : (b : Contents) (slices : List Slice) (s : SliceSoFar) (clauses : List (List ℕ)) (n : ℕ) (starts : List ℕ) (chains : List (List Pair)) (lines : List CertLine) (end : Result Stage CertKind)
    → length chains ≡ length starts → n + length starts ≡ length clauses → Derives clauses n starts chains → s.clauses ≡ take n clauses
    → after_all b slices (within (record s { clauses = clauses })) lines ≡ end → after_all b slices (within s) (step_lines starts chains ++ lines) ≡ end
steps_lead b slices s clauses n [] chains lines end same count derive is rest =
    let whole : take n clauses ≡ clauses = take_all n clauses (omega arith) in
    ap (λ cs. after_all b slices (within (record s { clauses = cs })) lines) (is ∙ whole) ∙ rest
steps_lead b slices s clauses n (start ∷ starts) [] lines end same count derive is rest = absurd (omega arith)
steps_lead b slices s clauses n (start ∷ starts) (pairs ∷ chains) lines end same count derive is rest =
    let below : n < length clauses = omega arith in
    let clause = get_or clauses n [] in
    let here : chain (take n clauses) start pairs ≡ Ok clause =
    subst (λ m. chain (take m clauses) start pairs ≡ Ok (get_or clauses m [])) (let e : n + 0 ≡ n = omega arith in e) (derive 0 (let some : 0 < suc (length starts) = omega arith in some)) in
    let grown : s.clauses ++ clause ∷ [] ≡ take (n + 1) clauses = ap (λ cs. cs ++ clause ∷ []) is ∙ sym (take_more clauses n [] below) in
    let later : Derives clauses (n + 1) starts chains = λ j inside.
    subst (λ m. chain (take m clauses) (get_or starts j 0) (get_or chains j []) ≡ Ok (get_or clauses m [])) (let e : n + suc j ≡ n + 1 + j = omega arith in e) (derive (suc j) (let more : suc j < suc (length starts) = omega arith in more)) in
    after_one b slices (within s) (within (record s { clauses = s.clauses ++ clause ∷ [] })) (step_line start pairs) (step_lines starts chains ++ lines) end
    (ap (with_clause s) (ap (λ cs. chain cs start pairs) is ∙ here))
    (steps_lead b slices (record s { clauses = s.clauses ++ clause ∷ [] }) clauses (n + 1) starts chains lines end (omega arith) (omega arith) later grown rest)

-- the closings
closings_lead : (b : Contents) (slices : List Slice) (s : SliceSoFar) (left : List ToClose) (closings : List Closing) (lines : List CertLine) (end : Result Stage CertKind) → s.left ≡ left
    → AllClosed s.clauses left closings → after_all b slices (within (record s { left = [] })) lines ≡ end → after_all b slices (within s) (close_lines closings ++ lines) ≡ end
closings_lead b slices s [] [] lines end is all rest = ap (λ l. after_all b slices (within (record s { left = l })) lines) is ∙ rest
closings_lead b slices s [] (c ∷ closings) lines end is all rest = absurd all
closings_lead b slices s (w ∷ left) [] lines end is all rest = absurd all
closings_lead b slices s (w ∷ left) (c ∷ closings) lines end is all rest =
    let by = all.0 in
    let clause = get_or s.clauses c.at [] in
    let behind : Stage = within (record s { left = left }) in
    after_one b slices (within s) behind (close_line c.question c.at) (close_lines closings ++ lines) end
    (ap (λ ws. close_next s ws c.question c.at) is
    ∙ cond-true (eqb c.question w.question) (closed_by s w left (slice_get s.clauses c.at)) (Err (NotClosed w.question)) (eq-eqb c.question w.question by.question)
    ∙ ap (closed_by s w left) (slice_get-get_or s.clauses c.at [] by.place)
    ∙ cond-true (closes w.goal clause) (Ok behind) (Err (NotClosed w.question)) by.closed)
    (closings_lead b slices (record s { left = left }) left closings lines end refl all.1 rest)

-- the lines of a slice
slice_leads : (b : Contents) (slices : List Slice) (k : ℕ) (s : Slice) (proof : SliceProof) (stage : Stage) (lines : List CertLine) (end : Result Stage CertKind) → IsDistinct same_name b.codes
    → slice_get slices k ≡ Some s → k < length slices → ShowsSlice b s proof → IsDerived proof.kernel → IsPast k stage
    → after_all b slices (past k proof.kernel.clauses) lines ≡ end → after_all b slices stage (slice_lines b k proof ++ lines) ≡ end
slice_leads b slices k s proof stage lines end apart there inside shows derived is rest =
    let kernel = proof.kernel in
    let w = opened b s.first k in
    let steps = step_lines kernel.starts kernel.pairs in
    let closings = close_lines proof.closed.items in
    let given : w.clauses ≡ take kernel.given kernel.clauses = sym shows.kernel.given in
    after_one b slices stage (at_set k) (slice_line k) (set_line (members b.codes proof.set) ∷ ((steps ++ closings) ++ lines)) end (slice_begins b slices k stage is inside)
    (after_one b slices (at_set k) (within w) (set_line (members b.codes proof.set)) ((steps ++ closings) ++ lines) end (set_is_read b slices k s proof.set there apart shows.codes shows.good)
    (ap (after_all b slices (within w)) (append_assoc steps closings lines)
    ∙ steps_lead b slices w kernel.clauses kernel.given kernel.starts kernel.pairs (closings ++ lines) end derived.pairs_counted derived.clauses_counted derived.resolvents given
    (closings_lead b slices (record w { clauses = kernel.clauses }) w.left proof.closed.items lines end refl shows.closed rest)))

-- the lines of the slices from one on
slices_lead : (b : Contents) (slices : List Slice) (k : ℕ) (later : List Slice) (proofs : List SliceProof) (stage : Stage) (lines : List CertLine) (end : Result Stage CertKind) → IsDistinct same_name b.codes
    → later ≡ drop k slices → k + length later ≡ length slices → AllZip (ShowsSlice b) later proofs → AllByRecursion (λ p. IsDerived p.kernel) proofs → IsPast k stage
    → ((last : Stage) → IsPast (length slices) last → after_all b slices last lines ≡ end) → after_all b slices stage (lines_from b k proofs ++ lines) ≡ end
slices_lead b slices k [] [] stage lines end apart is count shows derived passed rest = rest stage (subst (λ n. IsPast n stage) (let e : k ≡ length slices = omega arith in e) passed)
slices_lead b slices k [] (p ∷ proofs) stage lines end apart is count shows derived passed rest = absurd shows
slices_lead b slices k (s ∷ later) [] stage lines end apart is count shows derived passed rest = absurd shows
slices_lead b slices k (s ∷ later) (p ∷ proofs) stage lines end apart is count shows derived passed rest =
    let inside : k < length slices = omega arith in
    let first : drop k slices ≡ get_or slices k s ∷ drop (k + 1) slices = drop_more slices k s inside in
    let here : s ≡ get_or slices k s = let e : s ∷ later ≡ get_or slices k s ∷ drop (k + 1) slices = is ∙ first in cc in
    let next : later ≡ drop (suc k) slices = (let e : s ∷ later ≡ get_or slices k s ∷ drop (k + 1) slices = is ∙ first in let t : later ≡ drop (k + 1) slices = cc in t) ∙ ap (λ n. drop n slices) (add-one k) in
    let there : slice_get slices k ≡ Some s = slice_get-get_or slices k s inside ∙ ap (λ x. Some x) (sym here) in
    ap (after_all b slices stage) (append_assoc (slice_lines b k p) (lines_from b (suc k) proofs) lines)
    ∙ slice_leads b slices k s p stage (lines_from b (suc k) proofs ++ lines) end apart there inside shows.0 derived.0 passed
    (slices_lead b slices (suc k) later proofs (past k p.kernel.clauses) lines end apart next (omega arith) shows.1 derived.1 (p.kernel.clauses, refl) rest)

ends : (b : Contents) (slices : List Slice) (n : ℕ) (last : Stage) → IsPast n last → n ≡ length slices → 0 < n → after_all b slices last (end_line ∷ []) ≡ Ok at_end
ends b slices zero last is all some = absurd (omega arith)
ends b slices (suc k) last is all some =
    after_one b slices last at_end end_line [] (Ok at_end)
    (ap (λ s. after b slices s end_line) is.1 ∙ cond-true (eqb (k + 1) (length slices)) (Ok at_end) (Err Syntax) (eq-eqb (k + 1) (length slices) (let e : k + 1 ≡ length slices = omega arith in e))) refl

lines_lead : (b : Contents) (proofs : List SliceProof) (shows : ShowEach b proofs) → b.first ≤ b.last → IsDistinct same_name b.codes → AllByRecursion (λ p. IsDerived p.kernel) proofs
    → after_all b shows.slices at_head (cert_lines b proofs) ≡ Ok at_end
lines_lead b proofs shows term apart derived =
    let slices = shows.slices in
    let count : length proofs ≡ length slices = omega (arith, AllZip-long (ShowsSlice b) slices proofs shows.each) in
    let named : after b slices at_book (book_line b.name (length proofs)) ≡ Ok at_slices =
    cond-true (same_name b.name b.name && eqb (length proofs) (length slices)) (Ok at_slices) (Err WrongBook)
    (and_from (same_name b.name b.name) (eqb (length proofs) (length slices)) (nat_list_eq_equiv.refl b.name) (eq-eqb (length proofs) (length slices) count)) in
    after_one b slices at_head at_book head_line (book_line b.name (length proofs) ∷ (lines_from b 0 proofs ++ end_line ∷ [])) (Ok at_end) refl
    (after_one b slices at_book at_slices (book_line b.name (length proofs)) (lines_from b 0 proofs ++ end_line ∷ []) (Ok at_end) named
    (slices_lead b slices 0 slices proofs at_slices (end_line ∷ []) (Ok at_end) apart refl (let e : 0 + length slices ≡ length slices = omega arith in e) shows.each derived refl
    (λ last passed. ends b slices (length slices) last passed refl (some_slices b slices term shows.within))))

-- the steps are counted as the lines are read
abbrev steps_in : List CertLine → ℕ
steps_in [] = 0
steps_in (line ∷ lines) = cond (is_step line) 1 0 + steps_in lines

steps_append : (xs ys : List CertLine) → steps_in (xs ++ ys) ≡ steps_in xs + steps_in ys
steps_append [] ys = let e : steps_in ys ≡ 0 + steps_in ys = omega arith in e
steps_append (x ∷ xs) ys = let e : cond (is_step x) 1 0 + steps_in (xs ++ ys) ≡ cond (is_step x) 1 0 + steps_in xs + steps_in ys = omega (arith, steps_append xs ys) in e

steps_of_steps : (starts : List ℕ) (chains : List (List Pair)) → length chains ≡ length starts → steps_in (step_lines starts chains) ≡ length starts
steps_of_steps [] chains same = refl
steps_of_steps (s ∷ starts) [] same = absurd (omega arith)
steps_of_steps (s ∷ starts) (c ∷ chains) same = let e : 1 + steps_in (step_lines starts chains) ≡ suc (length starts) = omega (arith, steps_of_steps starts chains (omega arith)) in e

steps_of_closings : (closings : List Closing) → steps_in (close_lines closings) ≡ 0
steps_of_closings [] = refl
steps_of_closings (c ∷ closings) = let e : 0 + steps_in (close_lines closings) ≡ 0 = omega (arith, steps_of_closings closings) in e

steps_from : (b : Contents) (k : ℕ) (proofs : List SliceProof) → AllByRecursion (λ p. IsDerived p.kernel) proofs → steps_in (lines_from b k proofs) ≡ derived_by proofs
steps_from b k [] derived = refl
steps_from b k (p ∷ proofs) derived =
    let steps = step_lines p.kernel.starts p.kernel.pairs in
    let own : steps_in (slice_lines b k p) ≡ length p.kernel.starts =
    omega (arith, steps_append steps (close_lines p.closed.items), steps_of_steps p.kernel.starts p.kernel.pairs derived.0.pairs_counted, steps_of_closings p.closed.items) in
    steps_append (slice_lines b k p) (lines_from b (suc k) proofs) ∙ (let e : steps_in (slice_lines b k p) + steps_in (lines_from b (suc k) proofs) ≡ derived_by (p ∷ proofs) = omega (arith, own, steps_from b (suc k) proofs derived.1) in e)

steps_of_cert : (b : Contents) (proofs : List SliceProof) → AllByRecursion (λ p. IsDerived p.kernel) proofs → steps_in (cert_lines b proofs) ≡ derived_by proofs
steps_of_cert b proofs derived =
    omega (arith, steps_append (lines_from b 0 proofs) (end_line ∷ []), steps_from b 0 proofs derived)

abbrev with_steps : Certified → ℕ → Certified
with_steps so_far n = record so_far { steps = so_far.steps + n }

one_counted : (so_far : Certified) (t : Bool) (n : ℕ) → with_steps (with_line so_far t) n ≡ with_steps so_far (cond t 1 0 + n)
one_counted so_far true n = ap (λ m. record so_far { steps = m }) (let e : so_far.steps + 1 + n ≡ so_far.steps + (1 + n) = omega arith in e)
one_counted so_far false n = ap (λ m. record so_far { steps = m }) (let e : so_far.steps + n ≡ so_far.steps + (0 + n) = omega arith in e)

ok_behind : {A : Type 0} (r : Result Stage CertKind) (more : Stage → Result A CertKind) (v : A) → and_then r more ≡ Ok v → (s : Stage) × (r ≡ Ok s) × (more s ≡ Ok v)
ok_behind (Ok s) more v h = (s, refl, h)
ok_behind (Err kind) more v h = absurd (cc)

not_past : (b : Contents) (slices : List Slice) (stage behind : Stage) (line : CertLine) → after b slices stage line ≡ Ok behind → past_end stage ≡ None
not_past b slices at_head behind line h = refl
not_past b slices at_book behind line h = refl
not_past b slices at_slices behind line h = refl
not_past b slices (at_set n) behind line h = refl
not_past b slices (within s) behind line h = refl
not_past b slices at_end behind line h = absurd (cc)

taken_is : (b : Contents) (slices : List Slice) (stage behind : Stage) (line : CertLine) → LineFits line → after b slices stage line ≡ Ok behind
    → taken_line b slices stage (cert_line (line_text line)) ≡ Ok (behind, is_step line)
taken_is b slices stage behind line fit h =
    ap (taken_line b slices stage) (line_back line fit)
    ∙ ap (λ f. and_then (unless f (Ok line)) (λ l. and_then (after b slices stage l) (taken_as (is_step l)))) (not_past b slices stage behind line h)
    ∙ ap (λ r. and_then r (taken_as (is_step line))) h

-- one text, and those behind it
read_one : (b : Contents) (slices : List Slice) (stage behind : Stage) (n : ℕ) (so_far : Certified) (line : CertLine) (next : List ℕ) (texts : List (List ℕ)) → LineFits line → after b slices stage line ≡ Ok behind
    → read_lines b slices stage n so_far (line_text line ∷ next ∷ texts) ≡ read_lines b slices behind (n + 1) (with_line so_far (is_step line)) (next ∷ texts)
read_one b slices stage behind n so_far line next texts fit h =
    ap (λ r. and_then (at_line n r) (λ taken. read_lines b slices taken.0 (n + 1) (with_line so_far taken.1) (next ∷ texts))) (taken_is b slices stage behind line fit h)

read_all : (b : Contents) (slices : List Slice) (stage : Stage) (n : ℕ) (so_far : Certified) (lines : List CertLine) → AllByRecursion LineFits lines → after_all b slices stage lines ≡ Ok at_end
    → read_lines b slices stage n so_far (map line_text lines ++ [] ∷ []) ≡ Ok (with_steps so_far (steps_in lines))
read_all b slices stage n so_far [] fit h =
    let same : at_end ≡ stage = cc in
    subst (λ s. at_line n (after_last so_far s []) ≡ Ok (with_steps so_far 0)) same (ap (λ m. Ok (record so_far { steps = m })) (let e : so_far.steps ≡ so_far.steps + 0 = omega arith in e))
read_all b slices stage n so_far (line ∷ []) fit h =
    let step = ok_behind (after b slices stage line) (λ behind. after_all b slices behind []) at_end h in
    read_one b slices stage step.0 n so_far line [] [] fit.0 step.1
    ∙ read_all b slices step.0 (n + 1) (with_line so_far (is_step line)) [] tt step.2 ∙ ap (λ c. Ok c) (one_counted so_far (is_step line) 0)
read_all b slices stage n so_far (line ∷ next ∷ lines) fit h =
    let step = ok_behind (after b slices stage line) (λ behind. after_all b slices behind (next ∷ lines)) at_end h in
    read_one b slices stage step.0 n so_far line (line_text next) (map line_text lines ++ [] ∷ []) fit.0 step.1
    ∙ read_all b slices step.0 (n + 1) (with_line so_far (is_step line)) (next ∷ lines) fit.1 step.2 ∙ ap (λ c. Ok c) (one_counted so_far (is_step line) (steps_in (next ∷ lines)))

-- the certificate of proofs is answered with their slices and steps
pub answer_shown : (b : Contents) (proofs : List SliceProof) → ShowEach b proofs → b.first ≤ b.last → IsDistinct same_name b.codes → AllByRecursion (λ p. IsDerived p.kernel) proofs
    → AllByRecursion LineFits (cert_lines b proofs) → cert_answer b (written (cert_lines b proofs)) ≡ Ok (shown_by proofs)
answer_shown b proofs shows term apart derived fit =
    let slices = shows.slices in
    let lines = cert_lines b proofs in
    let none : Certified = record { slices = length slices; steps = 0 } in
    let count : length slices ≡ length proofs = omega (arith, AllZip-long (ShowsSlice b) slices proofs shows.each) in
    ap (λ r. and_then (within_limits r) (read_cert b (written lines))) shows.within
    ∙ ap (read_lines b slices at_head 1 none) (texts_back lines fit)
    ∙ read_all b slices at_head 1 none lines fit (lines_lead b proofs shows term apart derived)
    ∙ ap (λ m. Ok (record { slices = length slices; steps = m })) (let e : 0 + steps_in lines ≡ derived_by proofs = omega (arith, steps_of_cert b proofs derived) in e)
    ∙ ap (λ m. Ok (record { slices = m; steps = derived_by proofs })) count
