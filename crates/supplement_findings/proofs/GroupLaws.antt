-- Questions are taken into a group, one after another.
use Rattle.std.proofs.Common.{◌≡◌, ℕ, ◌+◌, ◌≤◌, ◌<◌, true, eqb, List, [], ◌∷◌, ◌++◌, Some, length, take, All, refl, sym, ap, subst, ◌∙◌, arith, length-append}
use Rattle.std.specs.List.{list_any, slice_get, sum_by}
use Rattle.std.proofs.lemmas.Bool.{or_left, or_right, eq-eqb}
use Rattle.std.proofs.lemmas.List.{take_more}
use Rattle.std.proofs.lemmas.List.Elements.{All-push}
use Rattle.std.proofs.lemmas.List.Folds.{list_any-append}
use Rattle.std.proofs.lemmas.List.Sums.{sum_by_push}
use Rattle.std.proofs.lemmas.Option.{slice_get_within, get_or_from_slice_get}
use Rattle.book_model.specs.Book.{IsBook}
use Rattle.book_model.specs.Contents.{Contents}
use Rattle.supplement_findings.specs.Answering.{AreTouched, IsGroup, IsPosed, IsRead, IsSource, touch_count}
use Rattle.supplement_findings.specs.Questions.{rule_at, is_put, QuestionFits}
use Rattle.supplement_findings.specs.declared.group.Group.{Group}
use Rattle.supplement_findings.specs.declared.question.SupplementQuestion.{SupplementQuestion}
use Rattle.supplement_findings.specs.declared.question.SupplementQuestion.TheVariants.{Breaks, Swaps}

-- what is read of some codes is read of more
read_more : (b : Contents) (codes : List ℕ) (c : ℕ) (q : SupplementQuestion) → IsRead b codes q → IsRead b (codes ++ c ∷ []) q
read_more b codes c (Breaks place) h =
    list_any-append (λ k. eqb k (rule_at b place).code) codes (c ∷ []) ∙ or_left _ _ h
read_more b codes c (Swaps first second) h = tt

read_last : (codes : List ℕ) (c : ℕ) → list_any (λ k. eqb k c) (codes ++ c ∷ []) ≡ true
read_last codes c = list_any-append (λ k. eqb k c) codes (c ∷ []) ∙ or_right _ _ (or_left _ _ (eq-eqb c c refl))

module _ (b : Contents) (qs : List SupplementQuestion) (place : ℕ) (q : SupplementQuestion) (there : slice_get qs place ≡ Some q) (old new : Group)
    (is : IsGroup b (take place qs) old) where
  next : take (place + 1) qs ≡ take place qs ++ q ∷ []
  next = take_more qs place q (slice_get_within qs place q there) ∙ ap (λ (p : SupplementQuestion). take place qs ++ p ∷ []) (get_or_from_slice_get qs place q q there)

  -- the question is read of the codes as they are
  pub taken_read : IsRead b old.codes.items q → new.codes.items ≡ old.codes.items → new.touched ≡ old.touched
      → IsGroup b (take (place + 1) qs) new
  taken_read read same touched = record {
    read =
        subst (λ (ps : List SupplementQuestion). All (IsRead b new.codes.items) ps) (sym next)
        (subst (λ (cs : List ℕ). All (IsRead b cs) (take place qs ++ q ∷ [])) (sym same) (All-push (IsRead b old.codes.items) (take place qs) q is.read read));
    known = subst (λ (cs : List ℕ). All (λ c. c < length b.codes) cs) (sym same) is.known;
    counted = touched ∙ is.counted ∙ ap (sum_by (touch_count b)) (sym same);
    few = subst (λ (n : ℕ). n ≤ 1048576) (sym touched) is.few;
    none = λ e. absurd (omega (arith, e, ap length next, length-append (take place qs) (q ∷ [])));
  }

  -- its code is a further one
  pub taken_code : (c : ℕ) → IsRead b (old.codes.items ++ c ∷ []) q → c < length b.codes
      → new.codes.items ≡ old.codes.items ++ c ∷ [] → new.touched ≡ old.touched + touch_count b c → old.touched + touch_count b c ≤ 1048576 → IsGroup b (take (place + 1) qs) new
  taken_code c read known more touched few = record {
    read =
        subst (λ (ps : List SupplementQuestion). All (IsRead b new.codes.items) ps) (sym next)
        (subst (λ (cs : List ℕ). All (IsRead b cs) (take place qs ++ q ∷ [])) (sym more)
        (All-push (IsRead b (old.codes.items ++ c ∷ [])) (take place qs) q (λ k d inside. read_more b old.codes.items c _ (is.read k d inside)) read));
    known = subst (λ (cs : List ℕ). All (λ k. k < length b.codes) cs) (sym more) (All-push (λ k. k < length b.codes) old.codes.items c is.known known);
    counted =
        touched ∙ ap (λ (n : ℕ). n + touch_count b c) is.counted ∙ sym (sum_by_push (touch_count b) old.codes.items c) ∙ ap (sum_by (touch_count b)) (sym more);
    few = subst (λ (n : ℕ). n ≤ 1048576) (sym touched) few;
    none = λ e. absurd (omega (arith, e, ap length next, length-append (take place qs) (q ∷ [])));
  }

pub read_at_last : (b : Contents) (codes : List ℕ) (place : ℕ) → IsRead b (codes ++ (rule_at b place).code ∷ []) (Breaks place)
read_at_last b codes place = read_last codes (rule_at b place).code

-- questions of a group may be put to a source of its codes
pub posed_of : (b : Contents) (day : ℕ) (qs : List SupplementQuestion) (group : Group) → All (QuestionFits b) qs → All (λ q. is_put b day q ≡ true) qs → IsGroup b qs group
    → All (IsPosed b day group.codes.items) qs
posed_of b day qs group fits put is k d inside = record { fits = fits k d inside; put = put k d inside; read = is.read k d inside }

pub ready_of : (b : Contents) (qs : List SupplementQuestion) (table : List (List ℕ)) (group : Group) → IsBook b → AreTouched (length b.codes) b.constructs table → IsGroup b qs group
    → IsSource b table group.codes.items
ready_of b qs table group book rules is = record { book = book; rules = rules; known = is.known; few = omega (arith, is.counted, is.few) }
