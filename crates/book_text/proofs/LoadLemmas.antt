-- From the mask of sixteen bytes to the first of them that ends a field.
use Rattle.std.proofs.Common.{◌≡◌, ◌≤◌, ◌<◌, ◌+◌, ◌%◌, ◌^◌, ◌⊎◌, ◌||◌, ℕ, Bool, true, false, not, List, [], ◌∷◌, length, map, get_or, cond, eqb, bit_or, refl, sym, ap, ap₂, ◌∙◌, inl, inr, arith, subst}
use Rattle.std.proofs.lemmas.Bool.{cases_Bool, cases_lt, eqb-true}
use Rattle.std.proofs.lemmas.List.{length-map}
use Rattle.std.proofs.lemmas.Simd.{map-map, mask_l-mod, length-chunk, first_set_mask_l, run_in_chunk_le, run_in_chunk_fails, run_in_chunk_stops}
use Rattle.std.specs.List.{prefix_len}
use lib.Lanes.{chunk, zip2, mask_l, top}
use Rattle.book_text.specs.Plain.{EndsField, EndsNoField, IsLineEnd, IsRunIn, NoFieldEnds, first_set}

zip2-map : (h : ℕ → ℕ → ℕ) (f g : ℕ → ℕ) (xs : List ℕ) → zip2 h (map f xs) (map g xs) ≡ map (λ x. h (f x) (g x)) xs
zip2-map h f g [] = refl
zip2-map h f g (x ∷ xs) = ap (λ r. h (f x) (g x) ∷ r) (zip2-map h f g xs)

-- an operation on two vectors that were computed lane by lane from v
pub joined : (h : ℕ → ℕ → ℕ) (f g : ℕ → ℕ) (v : List ℕ) {a b : List ℕ} → a ≡ map f v → b ≡ map g v → zip2 h a b ≡ map (λ x. h (f x) (g x)) v
joined h f g v p q = ap₂ (zip2 h) p q ∙ zip2-map h f g v

-- what is set in the lane of a byte
abbrev pub lane : ℕ → ℕ
lane x = bit_or (cond (eqb x 44) 255 0) (bit_or (cond (eqb x 10) 255 0) (cond (eqb x 13) 255 0))

abbrev stops : ℕ → Bool
stops x = top 7 (lane x)

abbrev one_of : ℕ → Bool
one_of x = eqb x 44 || (eqb x 10 || eqb x 13)

tops : (a b c : Bool) → top 7 (bit_or (cond a 255 0) (bit_or (cond b 255 0) (cond c 255 0))) ≡ a || (b || c)
tops true true true = refl
tops true true false = refl
tops true false true = refl
tops true false false = refl
tops false true true = refl
tops false true false = refl
tops false false true = refl
tops false false false = refl

stops_is : (x : ℕ) → stops x ≡ one_of x
stops_is x = tops (eqb x 44) (eqb x 10) (eqb x 13)

none_ends : (x : ℕ) → one_of x ≡ false → EndsNoField x
none_ends x h = (
  λ e. let no : true ≡ false = subst (λ y. one_of y ≡ false) e h in cc,
  λ e. let no : true ≡ false = subst (λ y. one_of y ≡ false) e h in cc,
  λ e. let no : true ≡ false = subst (λ y. one_of y ≡ false) e h in cc,
)

one_ends : (x : ℕ) → one_of x ≡ true → (x ≡ 44) ⊎ IsLineEnd x
one_ends x h =
    elim (cases_Bool (eqb x 44)) [
      | inl comma ↦ inl (eqb-true x 44 comma)
      | inr no_comma ↦
          elim (cases_Bool (eqb x 10)) [
            | inl feed ↦ inr (inl (eqb-true x 10 feed))
            | inr no_feed ↦ inr (inr (eqb-true x 13 (rw (no_comma, no_feed) at h)))
          ]
    ]

pub run_found : (text : List ℕ) (at r : ℕ) (z : List ℕ) → at + 16 ≤ length text → r ≡ first_set (mask_l (map (top 7) z) % 2 ^ 64) 16 → z ≡ map lane (chunk at 16 text) → IsRunIn text at 16 r
run_found text at r z room found lanes =
    let v = chunk at 16 text in
    let long : length v ≡ 16 = length-chunk at 16 text room in
    let mask : mask_l (map (top 7) z) % 2 ^ 64 ≡ mask_l (map stops v) =
    ap (λ l. mask_l l % 2 ^ 64) (ap (map (top 7)) lanes ∙ map-map (top 7) lane v) ∙ mask_l-mod (map stops v) 64 (omega (arith, length-map v stops, long)) in
    let counted : r ≡ prefix_len (λ x. not (stops x)) v = found ∙ ap (λ m. first_set m 16) mask ∙ first_set_mask_l stops v 16 long (omega arith) in
    record {
      within = run_in_chunk_le stops text at 16 r 0 room counted;
      before = λ k from to. none_ends (get_or text k 0) (sym (stops_is (get_or text k 0)) ∙ run_in_chunk_fails stops text at 16 r 0 room counted k from to);
      found = λ short. one_ends (get_or text (at + r) 0) (sym (stops_is (get_or text (at + r) 0)) ∙ run_in_chunk_stops stops text at 16 r 0 room counted short);
    }

-- what was seen from the text's first byte, and a run behind it
pub none_more : (text : List ℕ) (at to : ℕ) → NoFieldEnds text 0 at → NoFieldEnds text at to → NoFieldEnds text 0 to
none_more text at to front back k from below = elim (cases_lt k at) [ inl early ↦ front k from early | inr late ↦ back k late below ]

pub run_ends : (text : List ℕ) (at n r : ℕ) → at + n ≤ length text → NoFieldEnds text 0 at → IsRunIn text at n r → r < n → EndsField text (at + r)
run_ends text at n r room front run short = record {
  within = omega (arith, room, short);
  before = λ k below. none_more text at (at + r) front run.before k (omega arith) below;
  found = λ _. run.found short;
}

pub run_goes_on : (text : List ℕ) (at n r : ℕ) → NoFieldEnds text 0 at → IsRunIn text at n r → (r < n → ⊥) → NoFieldEnds text 0 (at + n)
run_goes_on text at n r front run whole =
    let same : r ≡ n = omega (arith, run.within, whole) in
    none_more text at (at + n) front (subst (λ m. NoFieldEnds text at (at + m)) same run.before)
