-- Entries of which some are marked as kept, and the list of these.
use Rattle.std.proofs.Common.{◌≡◌, ℕ, zero, suc, ◌+◌, ◌<◌, Bool, true, false, List, [], ◌∷◌, ◌++◌, Some, length, take, get_or, slice_get, refl, sym, ap, subst, ◌∙◌, inl, inr, arith, replicate}
use Rattle.std.specs.List.{remove}
use Rattle.std.proofs.lemmas.Bool.{and_from, and_parts, cond-true, cond-false, false≢true}
use Rattle.std.proofs.lemmas.List.{length-replicate}
use Rattle.pb_base.specs.Rule.{Rule}
use Rattle.pb_base.specs.Sets.{has}
use Rattle.book_model.specs.Contents.{Contents}
use Rattle.blame.specs.Blame.{IsNone}
use Rattle.blame.specs.Entries.{meets_entry, meets_all, Among}
use Rattle.blame.specs.Guards.{MeetsKept}
use Rattle.blame.specs.Guarding.{kept_of, AreMarked}
use Rattle.blame.specs.declared.entries.Entry.{Entry}
use Rattle.blame.specs.declared.marks.Marks.{Marks}

module _ {X : Type 0} where
  kept_on : (x : X) (xs : List X) (t : Bool) (ts : List Bool) → t ≡ true → kept_of (x ∷ xs) (t ∷ ts) ≡ x ∷ kept_of xs ts
  kept_on x xs t ts on = cond-true t (x ∷ kept_of xs ts) (kept_of xs ts) on

  kept_off : (x : X) (xs : List X) (t : Bool) (ts : List Bool) → t ≡ false → kept_of (x ∷ xs) (t ∷ ts) ≡ kept_of xs ts
  kept_off x xs t ts off = cond-false t (x ∷ kept_of xs ts) (kept_of xs ts) off

  pub kept_among : (xs : List X) (ts : List Bool) → length ts ≡ length xs → Among xs (kept_of xs ts)
  kept_among [] ts same = refl
  kept_among (x ∷ xs) [] same = absurd (omega (arith, same))
  kept_among (x ∷ xs) (true ∷ ts) same = inr (kept_of xs ts, refl, kept_among xs ts (omega (arith, same)))
  kept_among (x ∷ xs) (false ∷ ts) same = inl (kept_among xs ts (omega (arith, same)))

  -- one element more
  kept_suc_on : (xs : List X) (ts : List Bool) (i : ℕ) (d : X) → length ts ≡ length xs → i < length xs → get_or ts i false ≡ true
      → kept_of (take (suc i) xs) ts ≡ kept_of (take i xs) ts ++ get_or xs i d ∷ []
  kept_suc_on [] ts i d same within on = absurd (omega arith)
  kept_suc_on (x ∷ xs) [] i d same within on = absurd (omega (arith, same))
  kept_suc_on (x ∷ xs) (true ∷ ts) zero d same within on = refl
  kept_suc_on (x ∷ xs) (false ∷ ts) zero d same within on = absurd (false≢true on)
  kept_suc_on (x ∷ xs) (true ∷ ts) (suc i) d same within on = ap (λ (ys : List X). x ∷ ys) (kept_suc_on xs ts i d (omega (arith, same)) (omega (arith, within)) on)
  kept_suc_on (x ∷ xs) (false ∷ ts) (suc i) d same within on = kept_suc_on xs ts i d (omega (arith, same)) (omega (arith, within)) on

  kept_suc_off : (xs : List X) (ts : List Bool) (i : ℕ) → length ts ≡ length xs → i < length xs → get_or ts i false ≡ false
      → kept_of (take (suc i) xs) ts ≡ kept_of (take i xs) ts
  kept_suc_off [] ts i same within off = absurd (omega arith)
  kept_suc_off (x ∷ xs) [] i same within off = absurd (omega (arith, same))
  kept_suc_off (x ∷ xs) (true ∷ ts) zero same within off = absurd (false≢true (sym off))
  kept_suc_off (x ∷ xs) (false ∷ ts) zero same within off = refl
  kept_suc_off (x ∷ xs) (true ∷ ts) (suc i) same within off = ap (λ (ys : List X). x ∷ ys) (kept_suc_off xs ts i (omega (arith, same)) (omega (arith, within)) off)
  kept_suc_off (x ∷ xs) (false ∷ ts) (suc i) same within off = kept_suc_off xs ts i (omega (arith, same)) (omega (arith, within)) off

  pub kept_more_on : (xs : List X) (ts : List Bool) (i : ℕ) (d : X) → length ts ≡ length xs → i < length xs → get_or ts i false ≡ true
      → kept_of (take (i + 1) xs) ts ≡ kept_of (take i xs) ts ++ get_or xs i d ∷ []
  kept_more_on xs ts i d same within on =
      ap (λ (k : ℕ). kept_of (take k xs) ts) (let e : i + 1 ≡ suc i = omega arith in e) ∙ kept_suc_on xs ts i d same within on

  pub kept_more_off : (xs : List X) (ts : List Bool) (i : ℕ) → length ts ≡ length xs → i < length xs → get_or ts i false ≡ false
      → kept_of (take (i + 1) xs) ts ≡ kept_of (take i xs) ts
  kept_more_off xs ts i same within off =
      ap (λ (k : ℕ). kept_of (take k xs) ts) (let e : i + 1 ≡ suc i = omega arith in e) ∙ kept_suc_off xs ts i same within off

  pub kept_pushed : (xs now next : List X) (ts : List Bool) (i : ℕ) (d : X) → length ts ≡ length xs → i < length xs → get_or ts i false ≡ true → now ≡ kept_of (take i xs) ts
      → next ≡ now ++ get_or xs i d ∷ [] → next ≡ kept_of (take (i + 1) xs) ts
  kept_pushed xs now next ts i d same within on h more =
      more ∙ ap (λ (ys : List X). ys ++ get_or xs i d ∷ []) h ∙ sym (kept_more_on xs ts i d same within on)

  pub length-kept : {Y : Type 0} (xs : List X) (ys : List Y) (ts : List Bool) → length xs ≡ length ys → length (kept_of xs ts) ≡ length (kept_of ys ts)
  length-kept [] [] ts same = refl
  length-kept [] (y ∷ ys) ts same = absurd (omega (arith, same))
  length-kept (x ∷ xs) [] ts same = absurd (omega (arith, same))
  length-kept (x ∷ xs) (y ∷ ys) [] same = refl
  length-kept (x ∷ xs) (y ∷ ys) (true ∷ ts) same = ap (λ (k : ℕ). suc k) (length-kept xs ys ts (omega (arith, same)))
  length-kept (x ∷ xs) (y ∷ ys) (false ∷ ts) same = length-kept xs ys ts (omega (arith, same))

pub has_within : (ts : List Bool) (k : ℕ) → has ts k ≡ true → k < length ts
has_within [] k on = absurd (false≢true on)
has_within (t ∷ ts) zero on = omega arith
has_within (t ∷ ts) (suc k) on = omega (arith, has_within ts k on)

pub some_same : (d e : Entry) → Some d ≡ Some e → d ≡ e
some_same d e h = cc

module _ (b : Contents) (day : ℕ) (x : List Bool) where
  -- what meets the list meets each kept entry
  pub kept_met : (m : List Entry) (ts : List Bool) → meets_all b day x (kept_of m ts) ≡ true → MeetsKept b day x m ts
  kept_met [] ts met k e there on = cc
  kept_met (d ∷ m) [] met k e there on = absurd (false≢true on)
  kept_met (d ∷ m) (true ∷ ts) met zero e there on = subst (λ (c : Entry). meets_entry b day x c ≡ true) (some_same d e there) (and_parts (meets_entry b day x d) (meets_all b day x (kept_of m ts)) met).0
  kept_met (d ∷ m) (false ∷ ts) met zero e there on = absurd (false≢true on)
  kept_met (d ∷ m) (true ∷ ts) met (suc k) e there on = kept_met m ts (and_parts (meets_entry b day x d) (meets_all b day x (kept_of m ts)) met).1 k e there on
  kept_met (d ∷ m) (false ∷ ts) met (suc k) e there on = kept_met m ts met k e there on

  met_kept : (m : List Entry) (ts : List Bool) → MeetsKept b day x m ts → meets_all b day x (kept_of m ts) ≡ true
  met_kept [] ts h = refl
  met_kept (d ∷ m) [] h = refl
  met_kept (d ∷ m) (true ∷ ts) h = and_from (meets_entry b day x d) (meets_all b day x (kept_of m ts)) (h 0 d refl refl) (met_kept m ts (λ k e there on. h (suc k) e there on))
  met_kept (d ∷ m) (false ∷ ts) h = met_kept m ts (λ k e there on. h (suc k) e there on)

-- at which place of all elements the one at a place of the kept ones stands
abbrev pub place_of : List Bool → ℕ → ℕ
place_of [] k = k
place_of (false ∷ ts) k = suc (place_of ts k)
place_of (true ∷ ts) zero = zero
place_of (true ∷ ts) (suc k) = suc (place_of ts k)

pub place_there : {X : Type 0} (xs : List X) (ts : List Bool) (k : ℕ) → k < length (kept_of xs ts) → slice_get (kept_of xs ts) k ≡ slice_get xs (place_of ts k)
place_there [] ts k within = absurd (omega (arith, within))
place_there (x ∷ xs) [] k within = absurd (omega (arith, within))
place_there (x ∷ xs) (false ∷ ts) k within = place_there xs ts k within
place_there (x ∷ xs) (true ∷ ts) zero within = refl
place_there (x ∷ xs) (true ∷ ts) (suc k) within = place_there xs ts k (omega (arith, within))

pub place_kept : {X : Type 0} (xs : List X) (ts : List Bool) (k : ℕ) → k < length (kept_of xs ts) → has ts (place_of ts k) ≡ true
place_kept [] ts k within = absurd (omega (arith, within))
place_kept (x ∷ xs) [] k within = absurd (omega (arith, within))
place_kept (x ∷ xs) (false ∷ ts) k within = place_kept xs ts k within
place_kept (x ∷ xs) (true ∷ ts) zero within = refl
place_kept (x ∷ xs) (true ∷ ts) (suc k) within = place_kept xs ts k (omega (arith, within))

-- where the element at a place of the list comes from
pub record IsFrom (m : List Entry) (ts : List Bool) (needed : List Bool) (place : ℕ) : Type 0 where
  pub same : has (kept_of needed ts) place ≡ has needed (place_of ts place)
  pub others : (b : Contents) (day : ℕ) (x : List Bool) → ((k : ℕ) (e : Entry) → slice_get m k ≡ Some e → has ts k ≡ true → (k ≡ place_of ts place → ⊥) → meets_entry b day x e ≡ true)
      → meets_all b day x (remove (kept_of m ts) place) ≡ true

pub from_there : (m : List Entry) (ts needed : List Bool) (place : ℕ) → length needed ≡ length m → place < length (kept_of m ts) → IsFrom m ts needed place
from_there [] ts needed place same within = absurd (omega arith)
from_there (d ∷ m) [] needed place same within = absurd (omega arith)
from_there (d ∷ m) (t ∷ ts) [] place same within = absurd (omega (arith, same))
from_there (d ∷ m) (true ∷ ts) (u ∷ needed) zero same within = record {
  same = refl;
  others = λ b day x h. met_kept b day x m ts (λ k e there on. h (suc k) e there on (λ (z : suc k ≡ 0). absurd (omega (arith, z))));
}
from_there (d ∷ m) (true ∷ ts) (u ∷ needed) (suc place) same within =
    let later : IsFrom m ts needed place = from_there m ts needed place (omega (arith, same)) (omega (arith, within)) in
    record {
      same = later.same;
      others = λ b day x h.
          and_from (meets_entry b day x d) (meets_all b day x (remove (kept_of m ts) place)) (h 0 d refl refl (λ (z : 0 ≡ suc (place_of ts place)). absurd (omega (arith, z))))
          (later.others b day x (λ k e there on other. h (suc k) e there on (λ (z : suc k ≡ suc (place_of ts place)). other (omega (arith, z)))));
    }
from_there (d ∷ m) (false ∷ ts) (u ∷ needed) place same within =
    let later : IsFrom m ts needed place = from_there m ts needed place (omega (arith, same)) within in
    record {
      same = later.same;
      others = λ b day x h. later.others b day x (λ k e there on other. h (suc k) e there on (λ (z : suc k ≡ suc (place_of ts place)). other (omega (arith, z))));
    }

pub among_kept : (m kept : List Entry) (ts : List Bool) → length ts ≡ length m → kept ≡ kept_of m ts → Among m kept
among_kept m kept ts same is = subst (Among m) (sym is) (kept_among m ts same)

-- all are kept, and none is known to be needed
kept_all : (m : List Entry) (k : ℕ) (e : Entry) → slice_get m k ≡ Some e → has (replicate (length m) true) k ≡ true
kept_all [] k e there = cc
kept_all (d ∷ m) zero e there = refl
kept_all (d ∷ m) (suc k) e there = kept_all m k e there

pub none_needed : (n k : ℕ) → has (replicate n false) k ≡ false
none_needed zero k = refl
none_needed (suc n) zero = refl
none_needed (suc n) (suc k) = none_needed n k

all_met : (b : Contents) (day : ℕ) (x : List Bool) (m : List Entry) → ((k : ℕ) (e : Entry) → slice_get m k ≡ Some e → meets_entry b day x e ≡ true) → meets_all b day x m ≡ true
all_met b day x [] h = refl
all_met b day x (d ∷ m) h = and_from (meets_entry b day x d) (meets_all b day x m) (h 0 d refl) (all_met b day x m (λ k e there. h (suc k) e there))

pub marked_untried : (b : Contents) (day : ℕ) (f : Rule) (m : List Entry) (budget count : ℕ) (marks : Marks) → count ≡ length m → marks.kept.items ≡ replicate count true
    → marks.needed.items ≡ replicate count false → marks.left.items ≡ replicate count false → IsNone b day f m → AreMarked b day f m budget marks
marked_untried b day f m budget count marks counted kept needed left none =
    let all : marks.kept.items ≡ replicate (length m) true = kept ∙ ap (λ (k : ℕ). replicate k true) counted in
    record {
      kept_counted = ap length kept ∙ length-replicate count true ∙ counted;
      none = λ x len met. none x len (all_met b day x m (λ k e there. met k e there (ap (λ (ts : List Bool). has ts k) all ∙ kept_all m k e there)));
      needed = record {
        counted = ap length needed ∙ length-replicate count false ∙ counted;
        each = λ k is. absurd (false≢true (sym (none_needed count k) ∙ sym (ap (λ (ts : List Bool). has ts k) needed) ∙ is));
      };
      left_counted = ap length left ∙ length-replicate count false ∙ counted;
      left = λ k is. absurd (false≢true (sym (none_needed count k) ∙ sym (ap (λ (ts : List Bool). has ts k) left) ∙ is));
    }
