-- Sets that agree on the codes of a book meet the same formulas and claims of it, and what speaks of these codes speaks of more.
use Rattle.std.proofs.Common.{◌≡◌, ℕ, suc, ◌<◌, ◌≤◌, Bool, true, false, not, cond, ltb, nat_le, ◌&&◌, ◌||◌, ◌==◌, List, [], ◌∷◌, ◌++◌, length, refl, ap, ◌∙◌, arith}
use Rattle.std.specs.List.{filter, list_all}
use Rattle.std.proofs.lemmas.Bool.{and_parts, and_from, ltb-true, lt-ltb}
use Rattle.std.proofs.lemmas.List.{get_or_append_left}
use Rattle.pb_base.specs.Rule.{Rule, code, negation, both, either, always, never, holds, codes_below}
use Rattle.pb_base.specs.Sets.{has}
use Rattle.book_model.specs.Good.{present}
use Rattle.clausify.specs.Items.{Claim, adds, needed_by, needed, one_of, most_of, free, Item}
use Rattle.clausify.proofs.ItemLaws.{meets_claim, meets, claim_fits, item_fits, AllFit, AllMeet}

-- both have the same of the first n codes
abbrev pub Agree : ℕ → List Bool → List Bool → Type 0
Agree n x z = (i : ℕ) → i < n → has z i ≡ has x i

pub appended_agree : (x guards : List Bool) → Agree (length x) x (x ++ guards)
appended_agree x guards i low = get_or_append_left x guards false i low

pub holds_agree : (n : ℕ) (x z : List Bool) → Agree n x z → (f : Rule) → codes_below n f ≡ true → holds f z ≡ holds f x
holds_agree n x z same (code place) below = same place (ltb-true place n below)
holds_agree n x z same (negation f) below = ap not (holds_agree n x z same f below)
holds_agree n x z same (both f g) below =
    let sides = and_parts (codes_below n f) (codes_below n g) below in
    ap (λ b. b && holds g z) (holds_agree n x z same f sides.0) ∙ ap (λ b. holds f x && b) (holds_agree n x z same g sides.1)
holds_agree n x z same (either f g) below =
    let sides = and_parts (codes_below n f) (codes_below n g) below in
    ap (λ b. b || holds g z) (holds_agree n x z same f sides.0) ∙ ap (λ b. holds f x || b) (holds_agree n x z same g sides.1)
holds_agree n x z same always below = refl
holds_agree n x z same never below = refl

-- one item more or less on both sides
pub counted_alike : (t u : Bool) (c d : ℕ) (xs ys : List ℕ) → t ≡ u → length xs ≡ length ys → length (cond t (c ∷ xs) xs) ≡ length (cond u (d ∷ ys) ys)
counted_alike true true c d xs ys e h = ap suc h
counted_alike true false c d xs ys e h = cc
counted_alike false true c d xs ys e h = cc
counted_alike false false c d xs ys e h = h

present_agree : (n : ℕ) (x z : List Bool) → Agree n x z → (group : List ℕ) → list_all (λ code. ltb code n) group ≡ true → present z group ≡ present x group
present_agree n x z same [] below = refl
present_agree n x z same (c ∷ cs) below =
    let parts = and_parts (ltb c n) (list_all (λ code. ltb code n) cs) below in
    counted_alike (has z c) (has x c) c c (filter (has z) cs) (filter (has x) cs) (same c (ltb-true c n parts.0)) (present_agree n x z same cs parts.1)

claim_agree : (n : ℕ) (x z : List Bool) → Agree n x z → (d : Claim) (t : Bool) → claim_fits n d ≡ true → meets_claim z d t ≡ meets_claim x d t
claim_agree n x z same (adds place) t fit = ap (λ b. not t || b) (same place (ltb-true place n fit))
claim_agree n x z same (needed_by place) t fit = ap (λ b. not b || t) (same place (ltb-true place n fit))
claim_agree n x z same needed t fit = refl
claim_agree n x z same (one_of group) t fit = ap (λ k. k == 1) (present_agree n x z same group fit)
claim_agree n x z same (most_of group) t fit = ap (λ k. nat_le k 1) (present_agree n x z same group fit)
claim_agree n x z same free t fit = refl

pub meets_agree : (n : ℕ) (x z : List Bool) → Agree n x z → (i : Item) → item_fits n i ≡ true → meets z i ≡ meets x i
meets_agree n x z same i fit =
    let fits = and_parts (codes_below n i.rule) (claim_fits n i.claim) fit in
    ap (meets_claim z i.claim) (holds_agree n x z same i.rule fits.0) ∙ claim_agree n x z same i.claim (holds i.rule x) fits.1

pub all_meet_agree : (n : ℕ) (x z : List Bool) → Agree n x z → (is : List Item) → AllFit n is → AllMeet x is → AllMeet z is
all_meet_agree n x z same [] fit met = tt
all_meet_agree n x z same (i ∷ is) fit met = (meets_agree n x z same i fit.0 ∙ met.0, all_meet_agree n x z same is fit.1 met.1)

-- what speaks of n codes speaks of more
codes_more : (n m : ℕ) → n ≤ m → (f : Rule) → codes_below n f ≡ true → codes_below m f ≡ true
codes_more n m more (code place) below = lt-ltb place m (omega (arith, ltb-true place n below))
codes_more n m more (negation f) below = codes_more n m more f below
codes_more n m more (both f g) below =
    let sides = and_parts (codes_below n f) (codes_below n g) below in
    and_from _ _ (codes_more n m more f sides.0) (codes_more n m more g sides.1)
codes_more n m more (either f g) below =
    let sides = and_parts (codes_below n f) (codes_below n g) below in
    and_from _ _ (codes_more n m more f sides.0) (codes_more n m more g sides.1)
codes_more n m more always below = refl
codes_more n m more never below = refl

group_more : (n m : ℕ) → n ≤ m → (group : List ℕ) → list_all (λ code. ltb code n) group ≡ true → list_all (λ code. ltb code m) group ≡ true
group_more n m more [] below = refl
group_more n m more (c ∷ cs) below =
    let parts = and_parts (ltb c n) (list_all (λ code. ltb code n) cs) below in
    and_from _ _ (lt-ltb c m (omega (arith, ltb-true c n parts.0))) (group_more n m more cs parts.1)

claim_more : (n m : ℕ) → n ≤ m → (d : Claim) → claim_fits n d ≡ true → claim_fits m d ≡ true
claim_more n m more (adds place) fit = lt-ltb place m (omega (arith, ltb-true place n fit))
claim_more n m more (needed_by place) fit = lt-ltb place m (omega (arith, ltb-true place n fit))
claim_more n m more needed fit = refl
claim_more n m more (one_of group) fit = group_more n m more group fit
claim_more n m more (most_of group) fit = group_more n m more group fit
claim_more n m more free fit = refl

pub fits_more : (n m : ℕ) → n ≤ m → (i : Item) → item_fits n i ≡ true → item_fits m i ≡ true
fits_more n m more i fit =
    let fits = and_parts (codes_below n i.rule) (claim_fits n i.claim) fit in
    and_from _ _ (codes_more n m more i.rule fits.0) (claim_more n m more i.claim fits.1)

pub all_fit_more : (n m : ℕ) → n ≤ m → (is : List Item) → AllFit n is → AllFit m is
all_fit_more n m more [] fit = tt
all_fit_more n m more (i ∷ is) fit = (fits_more n m more i fit.0, all_fit_more n m more is fit.1)
