-- What the limits of slices and questions say.
use Rattle.std.proofs.Common.{◌≡◌, ℕ, suc, ◌<◌, ◌≤◌, ◌^◌, Bool, true, false, cond, ltb, leb, List, [], ◌∷◌, Option, None, Some, Result, Ok, Err, length, map, refl, sym, ap, subst, ◌∙◌, arith}
use Rattle.std.specs.List.{AllByRecursion, flat_map}
use Rattle.std.proofs.lemmas.Bool.{leb-true, ltb-false}
use Rattle.std.proofs.lemmas.List.{length-map}
use Rattle.std.proofs.lemmas.List.Elements.{All-from_recursion}
use Rattle.pb_base.specs.Results.{and_then, unless}
use Rattle.book_model.specs.Contents.{Contents}
use Rattle.book_model.specs.Slices.{all_slices, slices_of, days_in, days_of}
use Rattle.book_model.proofs.SliceLaws.{slices_partition}
use Rattle.book_model.specs.declared.record.Slice.{Slice}
use Rattle.book_model.specs.declared.slicing.LimitFault.{LimitFault}
use Rattle.book_model.specs.declared.slicing.LimitFault.TheVariants.{Slices, Questions}
use Rattle.pb_base.specs.declared.limits.TheConstants.{MOST_QUESTIONS}
use Rattle.clausify.specs.declared.question.Asked.{Asked}
use Rattle.clausify.specs.declared.question.Question.{Question}
use Rattle.derivation.specs.Limits.{first_over, asked_of, slices_within, AreWithin}

ok_slices : (t : Bool) (all : List Slice) (fault : LimitFault) (slices : List Slice) → cond t (Ok all) (Err fault) ≡ Ok slices → (t ≡ true) × (all ≡ slices)
ok_slices true all fault slices h = (refl, cc)
ok_slices false all fault slices h = absurd (cc)

pub slices_are_all : (b : Contents) (slices : List Slice) → slices_of b ≡ Ok slices → all_slices b ≡ slices
unfolding slices_of
slices_are_all b slices h = (ok_slices (leb (length (all_slices b)) 64) (all_slices b) (Slices (length (all_slices b))) slices h).1

pub few_slices : (b : Contents) (slices : List Slice) → slices_of b ≡ Ok slices → length slices ≤ 64
unfolding slices_of
few_slices b slices h =
    let r = ok_slices (leb (length (all_slices b)) 64) (all_slices b) (Slices (length (all_slices b))) slices h in
    subst (λ l. length l ≤ 64) r.1 (leb-true (length (all_slices b)) 64 r.0)

none_if : {A : Type 0} (t : Bool) (x : A) (rest : Option A) → cond t (Some x) rest ≡ None → (t ≡ false) × (rest ≡ None)
none_if true x rest h = absurd (cc)
none_if false x rest h = (refl, h)

all_within : (k : ℕ) (b : Contents) (slices : List Slice) → first_over k b slices ≡ None → AllByRecursion (λ s. asked_of b s ≤ MOST_QUESTIONS) slices
all_within k b [] h = tt
all_within k b (s ∷ ss) h =
    let r = none_if (ltb MOST_QUESTIONS (asked_of b s)) (Questions k (asked_of b s)) (first_over (suc k) b ss) h in
    (ltb-false MOST_QUESTIONS (asked_of b s) r.0, all_within (suc k) b ss r.1)

pub within_from_none : (k : ℕ) (b : Contents) (slices : List Slice) → first_over k b slices ≡ None → AreWithin b slices
within_from_none k b slices h = All-from_recursion (λ s. asked_of b s ≤ MOST_QUESTIONS) slices (all_within k b slices h)

pub few_asked : (asked : List Asked) (qs : List Question) → map (λ q. q.question) asked ≡ qs → length qs ≤ MOST_QUESTIONS → length asked < 2 ^ 32
few_asked asked qs is few = let same : length asked ≡ length qs = sym (length-map asked (λ q. q.question)) ∙ ap length is in omega arith

-- a book that keeps the limits has the slices of its term, at least one
ok_unless : (slices all : List Slice) (over : Option LimitFault) → unless over (Ok all) ≡ Ok slices → all ≡ slices
ok_unless slices all None h = cc
ok_unless slices all (Some fault) h = absurd (cc)

within_is : (b : Contents) (slices : List Slice) (r : Result (List Slice) LimitFault) → and_then r (λ all. unless (first_over 0 b all) (Ok all)) ≡ Ok slices → r ≡ Ok slices
within_is b slices (Ok all) h = ap (λ l. Ok l) (ok_unless slices all (first_over 0 b all) h)
within_is b slices (Err fault) h = absurd (cc)

pub slices_from_within : (b : Contents) (slices : List Slice) → slices_within b ≡ Ok slices → slices_of b ≡ Ok slices
slices_from_within b slices h = within_is b slices (slices_of b) h

days_of_none : (b : Contents) (slices : List Slice) → slices ≡ [] → flat_map days_in slices ≡ days_of b → ⊥
days_of_none b slices none h = let empty : flat_map days_in [] ≡ days_of b = ap (flat_map days_in) (sym none) ∙ h in absurd (cc)

pub some_slices : (b : Contents) (slices : List Slice) → b.first ≤ b.last → slices_within b ≡ Ok slices → 0 < length slices
some_slices b [] term h =
    let all : all_slices b ≡ [] = slices_are_all b [] (within_is b [] (slices_of b) h) in
    absurd (days_of_none b (all_slices b) all (slices_partition b term))
some_slices b (s ∷ slices) term h = omega arith
