-- How far the coding of questions has come.
use Rattle.std.proofs.Common.{inl, inr, ◌≡◌, ℕ, suc, ◌+◌, ◌<◌, true, cond, eqb, List, [], ◌∷◌, ◌++◌, Option, None, Some, length, map, get_or, drop, refl, sym, ap, subst, ◌∙◌, arith, append_assoc}
use Rattle.std.specs.List.{filter}
use Rattle.std.proofs.lemmas.Bool.{cases_Bool, cond-true, cond-false, ne_eqb}
use Rattle.std.proofs.lemmas.List.{drop_more, map-append}
use Rattle.book_model.specs.Contents.{Contents}
use Rattle.book_model.specs.declared.record.Construct.{Construct}
use Rattle.pb_base.specs.Rule.{Rule}
use Rattle.clause_pool.specs.Literal.{literal}
use Rattle.clause_pool.specs.Clause.{clause_of}
use Rattle.clausify.specs.Coded.{construct_variables}
use Rattle.clausify.specs.Encoding.{EncodesItems}
use Rattle.clausify.specs.Items.{Item, construct_items, free_item, item_clauses, encoded_items, variables_of}
use Rattle.clausify.specs.declared.encoder.Encoder.{Encoder}
use Rattle.clausify.proofs.CodedLaws.{Begun, items_then}
use Rattle.wide_clauses.specs.Chains.{wide_variables}
use Rattle.wide_clauses.specs.Encoding.{WidensItems}
use Rattle.wide_clauses.specs.WideItems.{taken_by, wide_item_clauses, wide_items, wide_literals}
use Rattle.wide_clauses.specs.declared.wide.WideEncoder.{WideEncoder}
use Rattle.wide_clauses.proofs.WideLeft.{WideLeft, wide_many, wide_then}
use Rattle.supplement_findings.specs.Answering.{goals_of, question_at}
use Rattle.supplement_findings.specs.Clauses.{and_rest, unbroken, unbroken_rules, unbroken_taken, literal_with, other_own, other_variables, other_lits, all_other, all_other_lits, shared_rules, shared_lits, shared_start, all_goal_clauses, asked_items, asked_start, goals_start, goals_clauses, question_clauses, question_goal, question_variables, questions_clauses, questions_variables, together_clauses, together_items, together_start, together_variables}
use Rattle.supplement_findings.specs.Touching.{after, afters_at, construct_at, is_active_rule}
use Rattle.supplement_findings.specs.declared.lits.QuestionLits.{QuestionLits}
use Rattle.supplement_findings.specs.declared.question.SupplementQuestion.{SupplementQuestion}
use Rattle.supplement_findings.specs.declared.question.SupplementQuestion.TheVariants.{Breaks}
use Rattle.supplement_findings.proofs.SizeLaws.{other_first}

-- the questions that are left, the next one first
pub left_at : (qs : List SupplementQuestion) (i : ℕ) → i < length qs → drop i qs ≡ question_at qs i ∷ drop (i + 1) qs
left_at qs i within = drop_more qs i (Breaks 0) within

other_left : (b : Contents) (i : ℕ) (qs : List SupplementQuestion) → i < length qs
    → map free_item (all_other b (drop i qs)) ≡ map free_item (other_own b (question_at qs i)) ++ map free_item (all_other b (drop (i + 1) qs))
other_left b i qs within = rw (left_at qs i within) (map-append free_item (other_own b (question_at qs i)) (all_other b (drop (i + 1) qs)))

pub other_room_left : (b : Contents) (i limit : ℕ) (qs : List SupplementQuestion) (start m : WideEncoder) → i < length qs
    → WideLeft start m (map free_item (all_other b qs)) (map free_item (all_other b (drop i qs))) → start.next + taken_by (map free_item (all_other b qs)) < limit
    → m.next + other_variables b (question_at qs i) < limit
other_room_left b i limit qs start m within left room =
    let split : taken_by (map free_item (all_other b (drop i qs))) ≡ other_variables b (question_at qs i) + taken_by (map free_item (all_other b (drop (i + 1) qs))) =
    ap (λ (ls : List SupplementQuestion). taken_by (map free_item (all_other b ls))) (left_at qs i within) ∙ other_first b (question_at qs i) (drop (i + 1) qs) in
    omega (arith, left.next, split)

pub other_made : (b : Contents) (i : ℕ) (qs : List SupplementQuestion) (start m more : WideEncoder) → i < length qs
    → WideLeft start m (map free_item (all_other b qs)) (map free_item (all_other b (drop i qs))) → WidensItems m more (map free_item (other_own b (question_at qs i)))
    → WideLeft start more (map free_item (all_other b qs)) (map free_item (all_other b (drop (i + 1) qs)))
other_made b i qs start m more within left made =
    wide_many start m more (map free_item (all_other b qs)) (map free_item (other_own b (question_at qs i))) (map free_item (all_other b (drop (i + 1) qs)))
    (rw (other_left b i qs within) at left) made

pub lits_made : (b : Contents) (codes known : List ℕ) (i v w first : ℕ) (qs : List SupplementQuestion) (old new : List QuestionLits) (lits : QuestionLits) → i < length qs
    → w ≡ v + other_variables b (question_at qs i) → lits ≡ other_lits b codes known v (question_at qs i) → new ≡ old ++ lits ∷ []
    → old ++ all_other_lits b codes known v (drop i qs) ≡ all_other_lits b codes known first qs
    → new ++ all_other_lits b codes known w (drop (i + 1) qs) ≡ all_other_lits b codes known first qs
lits_made b codes known i v w first qs old new lits within next is more so_far =
    rw (more, append_assoc, is, next) (rw (left_at qs i within) at so_far)

-- the literals of the codes are as many as these
pub known_count : (b : Contents) (day n v : ℕ) (codes : List ℕ) → length (wide_literals n v (unbroken_rules b day codes)) ≡ length codes
known_count b day n v [] = refl
known_count b day n v (c ∷ codes) = ap suc (known_count b day n (v + wide_variables (unbroken b day c)) codes)

-- behind another code the literal is that among the rest
pub literal_after : (codes lits : List ℕ) (place code d : ℕ) → place < length codes → length lits ≡ length codes → (get_or codes place d ≡ code → ⊥)
    → literal_with (drop (place + 1) codes) (drop (place + 1) lits) code ≡ literal_with (drop place codes) (drop place lits) code
literal_after codes lits place code d within counted apart =
    rw (drop_more codes place d within, drop_more lits place 0 (omega (arith, within, counted)), ne_eqb (get_or codes place d) code apart) refl

-- the formula so far with one more, and then the rest
rest_more : (so_far : Option Rule) (f : Rule) (fs : List Rule) → and_rest (Some (and_rest so_far (f ∷ []))) fs ≡ and_rest so_far (f ∷ fs)
rest_more None f fs = refl
rest_more (Some g) f fs = refl

-- what is asked by the rules at the places that are left, the next one first
pub unbroken_next : (b : Contents) (day added : ℕ) (ps : List ℕ) (i d : ℕ) (so_far : Option Rule) → i < length ps
    → and_rest
    (cond (is_active_rule day (construct_at b (get_or ps i d))) (Some (and_rest so_far (after added (construct_at b (get_or ps i d)).demand ∷ []))) so_far)
    (afters_at b day added (drop (i + 1) ps))
    ≡ and_rest so_far (afters_at b day added (drop i ps))
unbroken_next b day added ps i d so_far within =
    let r : Construct = construct_at b (get_or ps i d) in
    let split = drop_more ps i d within in
    elim (cases_Bool (is_active_rule day r)) [
      | inl active ↦ rw (split, active) (rest_more so_far (after added r.demand) (afters_at b day added (drop (i + 1) ps)))
      | inr inactive ↦ rw (split, inactive) refl
    ]

-- a question alone, and any other number of them
one_of : (qs : List SupplementQuestion) → length qs ≡ 1 → qs ≡ question_at qs 0 ∷ []
one_of [] one = absurd (omega (arith, one))
one_of (q ∷ []) one = refl
one_of (p ∷ q ∷ qs) one = absurd (omega (arith, one))

module _ (b : Contents) (day : ℕ) (codes : List ℕ) (qs : List SupplementQuestion) where
  pub one_clauses : length qs ≡ 1 → questions_clauses b day codes qs ≡ question_clauses b day (question_at qs 0)
  one_clauses one = ap (questions_clauses b day codes) (one_of qs one)

  pub one_variables : length qs ≡ 1 → questions_variables b day codes qs ≡ question_variables b day (question_at qs 0)
  one_variables one = ap (questions_variables b day codes) (one_of qs one)

  pub one_goals : length qs ≡ 1 → goals_of (asked_start b day codes qs) qs ≡ question_goal b day (question_at qs 0) ∷ []
  one_goals one = ap (λ (ls : List SupplementQuestion). goals_of (asked_start b day codes ls) ls) (one_of qs one)

-- the encoder of several questions begun, with the constructibility rules, with the formulas of the codes, and with the others
pub record AreWide (b : Contents) (day : ℕ) (codes : List ℕ) (qs : List SupplementQuestion) (m0 m1 m2 m3 : WideEncoder) : Type 0 where
  pub first : m0.pool.clauses ≡ clause_of (literal (length b.codes) true ∷ []) ∷ []
  pub truth : m0.truth ≡ length b.codes
  pub next : m0.next ≡ length b.codes + 1
  pub constructs : WidensItems m0 m1 (construct_items b day)
  pub known : WidensItems m1 m2 (map free_item (unbroken_rules b day codes))
  pub other : WidensItems m2 m3 (map free_item (all_other b qs))

pub wide_whole : (b : Contents) (day : ℕ) (codes : List ℕ) (qs : List SupplementQuestion) (m0 m1 m2 m3 : WideEncoder) → AreWide b day codes qs m0 m1 m2 m3 → WidensItems m0 m3 (together_items b day codes qs)
wide_whole b day codes qs m0 m1 m2 m3 h =
    wide_then m0 m1 m3 (construct_items b day) (map free_item (shared_rules b day codes qs)) h.constructs
    (rw map-append (wide_then m1 m2 m3 (map free_item (unbroken_rules b day codes)) (map free_item (all_other b qs)) h.known h.other))

pub wide_start : (b : Contents) (day : ℕ) (codes : List ℕ) (qs : List SupplementQuestion) (m0 m1 m2 m3 : WideEncoder) → AreWide b day codes qs m0 m1 m2 m3 → m3.next ≡ together_start b day codes qs
wide_start b day codes qs m0 m1 m2 m3 h = (wide_whole b day codes qs m0 m1 m2 m3 h).next ∙ ap (λ (n : ℕ). n + taken_by (together_items b day codes qs)) h.next

pub wide_made : (b : Contents) (day : ℕ) (codes : List ℕ) (qs : List SupplementQuestion) (m0 m1 m2 m3 : WideEncoder) (new : List (List ℕ)) (lits : List QuestionLits) → AreWide b day codes qs m0 m1 m2 m3
    → lits ≡ shared_lits b day codes (shared_start b day) qs → new ≡ m3.pool.clauses ++ all_goal_clauses m3.next lits → new ≡ together_clauses b day codes qs
wide_made b day codes qs m0 m1 m2 m3 new lits h are more =
    let start = wide_start b day codes qs m0 m1 m2 m3 h in
    let whole = (wide_whole b day codes qs m0 m1 m2 m3 h).clauses in
    let core : m3.pool.clauses ≡ wide_items (length b.codes) (together_items b day codes qs) = rw (h.first, h.truth, h.next) at whole in
    rw (more, start, core, are) refl

pub are_wide : (b : Contents) (day : ℕ) (codes : List ℕ) (qs : List SupplementQuestion) (m0 m1 m2 m3 : WideEncoder) (count : ℕ) → count ≡ length b.codes
    → m0.pool.clauses ≡ clause_of (literal count true ∷ []) ∷ [] → m0.truth ≡ count → m0.next ≡ count + 1
    → WidensItems m0 m1 (construct_items b day) → WidensItems m1 m2 (map free_item (unbroken_rules b day codes)) → WidensItems m2 m3 (map free_item (all_other b qs))
    → AreWide b day codes qs m0 m1 m2 m3
are_wide b day codes qs m0 m1 m2 m3 count counted clauses truth next constructs known other = record {
  first = rw counted at clauses;
  truth = truth ∙ counted;
  next = rw counted at next;
  constructs = constructs;
  known = known;
  other = other;
}

pub shared_begin : (b : Contents) (day : ℕ) (m0 m1 : WideEncoder) → m0.next ≡ length b.codes + 1 → WidensItems m0 m1 (construct_items b day) → m1.next ≡ shared_start b day
shared_begin b day m0 m1 next constructs = constructs.next ∙ ap (λ (n : ℕ). n + taken_by (construct_items b day)) next

pub goals_room : (b : Contents) (day : ℕ) (codes : List ℕ) (qs : List SupplementQuestion) (m0 m1 m2 m3 : WideEncoder) → AreWide b day codes qs m0 m1 m2 m3
    → together_variables b day codes qs < 4294967296 → m3.next + length qs < 4294967296
goals_room b day codes qs m0 m1 m2 m3 h room = omega (arith, room, wide_start b day codes qs m0 m1 m2 m3 h)

pub wide_lits : (b : Contents) (day : ℕ) (codes : List ℕ) (qs : List SupplementQuestion) (m0 m1 m2 m3 : WideEncoder) (known : List ℕ) (lits : List QuestionLits) → AreWide b day codes qs m0 m1 m2 m3
    → known ≡ wide_literals m1.truth m1.next (unbroken_rules b day codes) → lits ≡ all_other_lits b codes known m2.next qs
    → lits ≡ shared_lits b day codes (shared_start b day) qs
wide_lits b day codes qs m0 m1 m2 m3 known lits h known_are are =
    let begin : m1.next ≡ shared_start b day = shared_begin b day m0 m1 h.next h.constructs in
    rw (are, known_are, h.known.next, h.constructs.truth, h.truth, begin) refl

-- the encoder begun, with the constructibility rules, and with further formulas
pub record AreMade (b : Contents) (day : ℕ) (rules : List Rule) (m0 m1 m2 : Encoder) : Type 0 where
  pub begun : Begun b m0
  pub constructs : EncodesItems m0 m1 (construct_items b day)
  pub made : EncodesItems m1 m2 (map free_item rules)

pub own_begin : (b : Contents) (day : ℕ) (m0 m1 : Encoder) → Begun b m0 → EncodesItems m0 m1 (construct_items b day) → m1.next ≡ construct_variables b day
own_begin b day m0 m1 begun rules = rules.next ∙ ap (λ (n : ℕ). n + variables_of (construct_items b day)) begun.next

pub goals_begin : (b : Contents) (day : ℕ) (rules : List Rule) (m0 m1 m2 : Encoder) → AreMade b day rules m0 m1 m2 → m2.next ≡ goals_start b day rules
goals_begin b day rules m0 m1 m2 h =
    (items_then m0 m1 m2 (construct_items b day) (map free_item rules) h.constructs h.made).next ∙ ap (λ (n : ℕ). n + variables_of (asked_items b day rules)) h.begun.next

pub clauses_made : (b : Contents) (day first : ℕ) (rules : List Rule) (goals : List QuestionLits) (m0 m1 m2 : Encoder) (old new : List (List ℕ)) (lits : List QuestionLits) → AreMade b day rules m0 m1 m2
    → old ≡ m2.pool.clauses → first ≡ m2.next → lits ≡ goals → new ≡ old ++ all_goal_clauses first lits → new ≡ goals_clauses b day rules goals
clauses_made b day first rules goals m0 m1 m2 old new lits h same starts are more =
    let both : EncodesItems m0 m2 (asked_items b day rules) = items_then m0 m1 m2 (construct_items b day) (map free_item rules) h.constructs h.made in
    let whole = both.clauses in
    let core : m2.pool.clauses ≡ encoded_items (length b.codes) (length b.codes + 1) (asked_items b day rules) = rw (h.begun.clauses, h.begun.truth, h.begun.next) at whole in
    rw (more, same, starts, goals_begin b day rules m0 m1 m2 h, core, are) refl
