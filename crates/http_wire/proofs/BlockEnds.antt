-- Where a block ends, as more bytes are read.
use Rattle.std.proofs.Common.{◌≡◌, ◌+◌, ◌-◌, ◌∙◌, ℕ, zero, suc, cond, List, [], ◌∷◌, take, drop, refl, sym, ap, subst, arith}
use Rattle.std.specs.Prelude.{Option, Some, None}
use Rattle.std.specs.Option.{option_or, option_map}
use Rattle.http_wire.specs.Front.{is_line_feed, empty_line, empty_line_behind, block_length}

-- a place that is counted from so far behind the front
abbrev pub further : ℕ → Option ℕ → Option ℕ
further n place = option_map (λ more. n + more) place

pub further-zero : (place : Option ℕ) → further 0 place ≡ place
further-zero None = refl
further-zero (Some n) = ap (λ (k : ℕ). Some k) (omega arith)

pub further-suc : (n : ℕ) (place : Option ℕ) → further (suc n) place ≡ option_map suc (further n place)
further-suc n None = refl
further-suc n (Some k) = ap (λ (m : ℕ). Some m) (omega arith)

nowhere : (place : Option ℕ) → option_map suc place ≡ None → place ≡ None
nowhere None e = refl
nowhere (Some n) e = absurd (cc)

nor_first : (a b : Option ℕ) → option_or a b ≡ None → a ≡ None
nor_first None b e = refl
nor_first (Some n) b e = absurd (cc)

nor_second : (a b : Option ℕ) → option_or a b ≡ None → b ≡ None
nor_second None b e = e
nor_second (Some n) b e = absurd (cc)

-- two bytes show an empty line
empty_line-take : (n : ℕ) (s : List ℕ) → empty_line (take (suc (suc n)) s) ≡ empty_line s
empty_line-take n [] = refl
empty_line-take n (a ∷ []) = refl
empty_line-take n (a ∷ b ∷ s) = refl

empty_line_behind-take : (n b : ℕ) (s : List ℕ) → empty_line_behind b (take (suc (suc n)) s) ≡ empty_line_behind b s
empty_line_behind-take n b s = ap (λ (e : Option ℕ). cond (is_line_feed b) e None) (empty_line-take n s)

-- where the first bytes have no end, it is found from the last two of them on
pub resume : (n : ℕ) (s : List ℕ) → block_length (take (suc (suc n)) s) ≡ None → further n (block_length (drop n s)) ≡ block_length s
resume zero s none = further-zero (block_length s)
resume (suc n) [] none = refl
resume (suc n) (b ∷ s) none =
    let nothing : option_or (empty_line_behind b (take (suc (suc n)) s)) (block_length (take (suc (suc n)) s)) ≡ None = nowhere _ none in
    let here : empty_line_behind b s ≡ None = sym (empty_line_behind-take n b s) ∙ nor_first _ _ nothing in
    let later : further n (block_length (drop n s)) ≡ block_length s = resume n s (nor_second _ _ nothing) in
    further-suc n (block_length (drop n s)) ∙ ap (λ (p : Option ℕ). option_map suc p) (later ∙ sym (ap (λ (p : Option ℕ). option_or p (block_length s)) here))

pub resume_from : (seen from : ℕ) (s : List ℕ) → from ≡ seen - 2 → block_length (take seen s) ≡ None → further from (block_length (drop from s)) ≡ block_length s
resume_from seen zero s e none = further-zero (block_length s)
resume_from seen (suc n) s e none =
    let more : seen ≡ suc (suc (suc n)) = omega arith in
    resume (suc n) s (subst (λ (k : ℕ). block_length (take k s) ≡ None) more none)
