-- Marks of entries, where one more is called needed, or one more is called left.
use Rattle.std.proofs.Common.{Vec, Global, ◌≡◌, ◌==◌, ◌⊎◌, ℕ, Bool, true, false, List, length, refl, sym, ap, subst, ◌∙◌, inl, inr, eq-eqb, eqb-true, ◌+◌, ◌<◌, ◌&&◌, not, ltb, arith}
use Rattle.std.proofs.lemmas.Bool.{cases_Bool, false≢true, ltb-true, ltb-false}
use Rattle.pb_base.specs.Rule.{Rule, holds}
use Rattle.pb_base.specs.Sets.{has}
use Rattle.book_model.specs.Contents.{Contents}
use Rattle.blame.specs.Guards.{MeetsKept, IsLeftBut}
use Rattle.blame.specs.Guarding.{AreFewer, AreMore, AreNeeded, WasLeft, AreMarked, IsSettled, IsMarkedAlso, AreFurtherOn}
use Rattle.blame.specs.declared.entries.Entry.{Entry}
use Rattle.blame.specs.declared.marks.Marks.{Marks}

module _ (b : Contents) (day : ℕ) (f : Rule) (m : List Entry) (budget : ℕ) (old new : Marks) (kept : new.kept ≡ old.kept) where
  pub marked_noted : new.left ≡ old.left → AreNeeded b day f m old.kept.items new.needed.items → AreMarked b day f m budget old → AreMarked b day f m budget new
  marked_noted left needed h = record {
    kept_counted = ap (λ (v : Vec Bool Global). length v.items) kept ∙ h.kept_counted;
    none = subst (λ (v : Vec Bool Global). (x : List Bool) → length x ≡ length b.codes → MeetsKept b day x m v.items → holds f x ≡ false) (sym kept) h.none;
    needed = subst (λ (v : Vec Bool Global). AreNeeded b day f m v.items new.needed.items) (sym kept) needed;
    left_counted = ap (λ (v : Vec Bool Global). length v.items) left ∙ h.left_counted;
    left = λ k is.
        subst (λ (v : Vec Bool Global). WasLeft b day f m v.items k budget) (sym kept) (h.left k (sym (ap (λ (v : Vec Bool Global). has v.items k) left) ∙ is));
  }

  pub further_noted : new.left ≡ old.left → AreMore old.needed.items new.needed.items → AreFurtherOn old new
  further_noted left more = record {
    kept = λ k on. sym (ap (λ (v : Vec Bool Global). has v.items k) kept) ∙ on;
    needed = more;
    left = λ k on. ap (λ (v : Vec Bool Global). has v.items k) left ∙ on;
  }

  was_left : (at : ℕ) → AreMarked b day f m budget old → IsMarkedAlso at old.left.items new.left.items → IsLeftBut b day f m old.kept.items at budget → (k : ℕ)
      → has new.left.items k ≡ true → WasLeft b day f m old.kept.items k budget
  was_left at h also left k is =
      elim (cases_Bool (k == at)) [
        | inl same ↦
            subst (λ (j : ℕ). WasLeft b day f m old.kept.items j budget) (sym (eqb-true k at same))
            (record { before = old.kept.items; counted = h.kept_counted; fewer = record { counted = refl; fewer = λ j on. on }; left = left })
        | inr other ↦ h.left k (also.others k is (λ same. false≢true (sym other ∙ eq-eqb k at same)))
      ]

  pub marked_left : (at : ℕ) → new.needed ≡ old.needed → AreMarked b day f m budget old → IsMarkedAlso at old.left.items new.left.items → IsLeftBut b day f m old.kept.items at budget
      → AreMarked b day f m budget new
  marked_left at needed h also left = record {
    kept_counted = ap (λ (v : Vec Bool Global). length v.items) kept ∙ h.kept_counted;
    none = subst (λ (v : Vec Bool Global). (x : List Bool) → length x ≡ length b.codes → MeetsKept b day x m v.items → holds f x ≡ false) (sym kept) h.none;
    needed =
        subst (λ (v : Vec Bool Global). AreNeeded b day f m v.items new.needed.items) (sym kept)
        (subst (λ (v : Vec Bool Global). AreNeeded b day f m old.kept.items v.items) (sym needed) h.needed);
    left_counted = also.counted ∙ h.left_counted;
    left = λ k is. subst (λ (v : Vec Bool Global). WasLeft b day f m v.items k budget) (sym kept) (was_left at h also left k is);
  }

  pub further_left : (at : ℕ) → new.needed ≡ old.needed → IsMarkedAlso at old.left.items new.left.items → AreFurtherOn old new
  further_left at needed also = record {
    kept = λ k on. sym (ap (λ (v : Vec Bool Global). has v.items k) kept) ∙ on;
    needed = λ k on. ap (λ (v : Vec Bool Global). has v.items k) needed ∙ on;
    left = also.more;
  }

known_so : (kept needed left : Bool) → (kept && not needed && not left) ≡ false → kept ≡ true → (needed ≡ true) ⊎ (left ≡ true)
known_so true true left known on = inl refl
known_so true false true known on = inr refl
known_so true false false known on = absurd (false≢true (sym known))
known_so false needed left known on = absurd (false≢true on)

-- what is known of an entry that was tried
pub settled_gone : (at : ℕ) (new : Marks) → has new.kept.items at ≡ false → IsSettled at new
settled_gone at new gone = λ on. absurd (false≢true (sym gone ∙ on))

pub settled_noted : (at : ℕ) (new : Marks) → has new.needed.items at ≡ true → IsSettled at new
settled_noted at new noted = λ on. inl noted

pub settled_left : (at : ℕ) (old new : Marks) → at < length old.left.items → IsMarkedAlso at old.left.items new.left.items → IsSettled at new
settled_left at old new inside also = λ on. inr (also.noted inside)

pub settled_known : (at : ℕ) (old : Marks) → (has old.kept.items at && not (has old.needed.items at) && not (has old.left.items at)) ≡ false → IsSettled at old
settled_known at old known = λ on. known_so (has old.kept.items at) (has old.needed.items at) (has old.left.items at) known on

pub further_used : (old new : Marks) → AreFewer old.kept.items new.kept.items → new.needed ≡ old.needed → new.left ≡ old.left → AreFurtherOn old new
further_used old new fewer needed left = record {
  kept = fewer.fewer;
  needed = λ k on. ap (λ (v : Vec Bool Global). has v.items k) needed ∙ on;
  left = λ k on. ap (λ (v : Vec Bool Global). has v.items k) left ∙ on;
}

pub further_self : (old : Marks) → AreFurtherOn old old
further_self old = record { kept = λ k on. on; needed = λ k on. on; left = λ k on. on }

settled_further : (k : ℕ) (old new : Marks) → AreFurtherOn old new → IsSettled k old → IsSettled k new
settled_further k old new h settled = λ on.
    elim (settled (h.kept k on)) [
      | inl needed ↦ inl (h.needed k needed)
      | inr left ↦ inr (h.left k left)
    ]

pub settled_more : (i : ℕ) (old new : Marks) → ((k : ℕ) → k < i → IsSettled k old) → AreFurtherOn old new → IsSettled i new → (k : ℕ) → k < i + 1 → IsSettled k new
settled_more i old new before h now k inside =
    elim (cases_Bool (ltb k i)) [
      | inl low ↦ settled_further k old new h (before k (ltb-true k i low))
      | inr past ↦
          let same : i ≡ k = omega (arith, inside, ltb-false k i past) in
          subst (λ (j : ℕ). IsSettled j new) same now
    ]
