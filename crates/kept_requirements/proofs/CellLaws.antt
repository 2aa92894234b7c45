-- What is answered of the rules that are asked makes right cells, and the rows of all slices make the notes of each requirement.
use Rattle.std.specs.Prelude.{IfOk}
use Rattle.std.proofs.Common.{inl, inr, Result, Ok, Err, ◌≡◌, ℕ, zero, suc, ◌+◌, ◌<◌, ◌≤◌, List, [], ◌∷◌, ◌++◌, Option, Some, None, length, map, take, drop, get_or, refl, sym, ap, subst, ◌∙◌, arith}
use Rattle.std.specs.List.{AllZip, slice_get}
use Rattle.std.specs.Option.{option_to_list}
use Rattle.std.proofs.lemmas.Bool.{cases_Bool, cond-true, cond-false}
use Rattle.std.proofs.lemmas.List.{drop_all, take_more}
use Rattle.pb_base.specs.Rule.{Rule}
use Rattle.book_model.specs.Contents.{Contents}
use Rattle.book_model.specs.declared.record.Slice.{Slice}
use Rattle.requirements.specs.declared.requirement.Claim.{Claim}
use Rattle.requirements.specs.declared.requirement.Claim.TheVariants.{Meets, Uses}
use Rattle.requirements.specs.declared.requirement.Requirement.{Requirement}
use Rattle.rules_met.specs.Met.{IsAnswer}
use Rattle.rules_met.specs.declared.answer.RuleAnswer.{RuleAnswer}
use Rattle.rules_met.specs.declared.answer.RuleAnswer.TheVariants.{NotMet}
use Rattle.rules_met.proofs.AnswerLaws.{zip_push}
use Rattle.kept_requirements.specs.Kept.{asked_rules, broken_rule, claim_count, count_on, is_asked, rules_on}
use Rattle.kept_requirements.specs.Notes.{IsCell, IsMeant, IsPart, IsRow, OwnNotes, cells_of, lines_of, meant_of, part_of, parts_at, present}
use Rattle.kept_requirements.specs.declared.cells.Part.{Part}
use Rattle.kept_requirements.specs.declared.note.RequirementNote.{RequirementNote}

module _ (b : Contents) (budget : ℕ) (s : Slice) where
  -- the answers to the rules of one claim come first, and those behind it are the rest
  record Answered (c : Claim) (more : List Rule) (answers : List RuleAnswer) : Type 0 where
    broken : IsAnswer b s.first budget (broken_rule b s.first c) (get_or answers 0 NotMet)
    meant : IsMeant b s.first budget c (meant_of c answers)
    rest : AllZip (IsAnswer b s.first budget) more (drop (claim_count c) answers)

  answered : (c : Claim) (more : List Rule) (answers : List RuleAnswer) → AllZip (IsAnswer b s.first budget) (asked_rules b s.first c ++ more) answers → Answered c more answers
  answered (Meets rule) more [] h = absurd h
  answered (Meets rule) more (a ∷ answers) h = record { broken = h.0; meant = tt; rest = h.1 }
  answered (Uses part rule) more [] h = absurd h
  answered (Uses part rule) more (a ∷ []) h = absurd h.1
  answered (Uses part rule) more (a ∷ d ∷ answers) h = record { broken = h.0; meant = h.1.0; rest = h.1.1 }

  pub cells_right : (rs : List Requirement) (answers : List RuleAnswer) → AllZip (IsAnswer b s.first budget) (rules_on b s rs) answers → IsRow b budget rs s (cells_of s rs answers)
  cells_right [] answers h = tt
  cells_right (r ∷ rs) answers h =
      elim (cases_Bool (is_asked r s)) [
        | inl e ↦
            let split : AllZip (IsAnswer b s.first budget) (asked_rules b s.first r.claim ++ rules_on b s rs) answers =
            subst (λ (fs : List Rule). AllZip (IsAnswer b s.first budget) (fs ++ rules_on b s rs) answers) (cond-true (is_asked r s) (asked_rules b s.first r.claim) [] e) h in
            let a : Answered r.claim (rules_on b s rs) answers = answered r.claim (rules_on b s rs) answers split in
            let part : IsPart b budget s r (part_of s r answers) = record { first = refl; last = refl; broken = a.broken; meant = a.meant } in (
              subst (IsCell b budget s r) (sym (cond-true (is_asked r s) (Some (part_of s r answers)) None e)) (e, part),
              cells_right rs (drop (count_on r s) answers)
                  (subst (λ (n : ℕ). AllZip (IsAnswer b s.first budget) (rules_on b s rs) (drop n answers)) (sym (cond-true (is_asked r s) (claim_count r.claim) 0 e)) a.rest),
            )
        | inr e ↦
            let whole : AllZip (IsAnswer b s.first budget) (rules_on b s rs) answers =
            subst (λ (fs : List Rule). AllZip (IsAnswer b s.first budget) (fs ++ rules_on b s rs) answers) (cond-false (is_asked r s) (asked_rules b s.first r.claim) [] e) h in (
              subst (IsCell b budget s r) (sym (cond-false (is_asked r s) (Some (part_of s r answers)) None e)) e,
              cells_right rs (drop (count_on r s) answers)
                  (subst (λ (n : ℕ). AllZip (IsAnswer b s.first budget) (rules_on b s rs) (drop n answers)) (sym (cond-false (is_asked r s) (claim_count r.claim) 0 e)) whole),
            )
      ]

  -- the cell of the requirement at a place
  pub cell_at : (rs : List Requirement) (row : List (Option Part)) (place : ℕ) (d : Requirement) → IsRow b budget rs s row → place < length rs
      → IsCell b budget s (get_or rs place d) (get_or row place None)
  cell_at [] row place d h low = absurd (omega (arith, low))
  cell_at (r ∷ rs) [] place d h low = absurd h
  cell_at (r ∷ rs) (cell ∷ row) zero d h low = h.0
  cell_at (r ∷ rs) (cell ∷ row) (suc place) d h low = cell_at rs row place d h.1 (omega (arith, low))

module _ (b : Contents) (budget : ℕ) (rs : List Requirement) (place : ℕ) (d : Requirement) (low : place < length rs) where
  column : (slices : List Slice) (rows : List (List (Option Part))) → AllZip (IsRow b budget rs) slices rows
      → AllZip (λ (s : Slice) (cell : Option Part). IsCell b budget s (get_or rs place d) cell) slices (map (λ (row : List (Option Part)). get_or row place None) rows)
  column [] [] h = tt
  column [] (row ∷ rows) h = absurd h
  column (s ∷ slices) [] h = absurd h
  column (s ∷ slices) (row ∷ rows) h = (cell_at b budget s rs row place d h.0 low, column slices rows h.1)

  parts_present : (rows : List (List (Option Part))) → parts_at rows place ≡ present (map (λ (row : List (Option Part)). get_or row place None) rows)
  parts_present [] = refl
  parts_present (row ∷ rows) = ap (λ (ps : List Part). option_to_list (get_or row place None) ++ ps) (parts_present rows)

  pub own_notes : (slices : List Slice) (rows : List (List (Option Part))) (own : List RequirementNote) → AllZip (IsRow b budget rs) slices rows
      → own ≡ lines_of (get_or rs place d) (parts_at rows place) → OwnNotes b budget slices (get_or rs place d) own
  own_notes slices rows own right is = record {
    cells = map (λ (row : List (Option Part)). get_or row place None) rows;
    right = column slices rows right;
    lines = is ∙ ap (lines_of (get_or rs place d)) (parts_present rows);
  }

pub row_next : (b : Contents) (budget : ℕ) (rs : List Requirement) (slices : List Slice) (rows : List (List (Option Part))) (row : List (Option Part)) (k : ℕ) (s : Slice) → k < length slices
    → AllZip (IsRow b budget rs) (take k slices) rows → IsRow b budget rs (get_or slices k s) row → AllZip (IsRow b budget rs) (take (k + 1) slices) (rows ++ row ∷ [])
row_next b budget rs slices rows row k s low so_far is =
    subst (λ (ss : List Slice). AllZip (IsRow b budget rs) ss (rows ++ row ∷ [])) (sym (take_more slices k s low))
    (zip_push (IsRow b budget rs) (take k slices) rows (get_or slices k s) row so_far is)

pub none_behind : (count : ℕ) (answers : List RuleAnswer) → length answers ≤ count → [] ≡ drop count answers
none_behind count answers past = sym (drop_all count answers past)

-- what stands at a place
pub cell_there : (row : List (Option Part)) (place : ℕ) (cell : Option Part) → slice_get row place ≡ Some cell → cell ≡ get_or row place None
cell_there [] place cell h = absurd (cc)
cell_there (x ∷ row) zero cell h = cc
cell_there (x ∷ row) (suc place) cell h = cell_there row place cell h

pub cell_past : (row : List (Option Part)) (place : ℕ) → slice_get row place ≡ None → None ≡ get_or row place None
cell_past [] place h = refl
cell_past (x ∷ row) zero h = absurd (cc)
cell_past (x ∷ row) (suc place) h = cell_past row place h

-- right answers make a right row
pub row_through : {E : Type 0} (b : Contents) (budget : ℕ) (s : Slice) (rs : List Requirement) (answers : List RuleAnswer) (made : Result (List (Option Part)) E)
    → AllZip (IsAnswer b s.first budget) (rules_on b s rs) answers → IfOk made (λ row. row ≡ cells_of s rs answers) → IfOk made (IsRow b budget rs s)
row_through b budget s rs answers (Ok row) right is = subst (IsRow b budget rs s) (sym is) (cells_right b budget s rs answers right)
row_through b budget s rs answers (Err wanting) right is = tt
