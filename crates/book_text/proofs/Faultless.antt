-- What was done where no fault was found, and what holds at the end of passes without a fault.
use Rattle.std.proofs.Common.{◌≡◌, ◌+◌, ℕ, Bool, true, false, if◌then◌else◌, List, [], ◌∷◌, Result, Ok, Err, refl, ap, subst}
use Rattle.book_text.specs.Rows.{Row}
use Rattle.pb_base.specs.Results.{and_then}
use Rattle.book_text.specs.Fault.{at_row}
use Rattle.book_text.specs.Pass.{pass}
use Rattle.book_text.specs.declared.fault.BookKind.{BookKind}

-- what follows a value gave the answer
pub and_then-Ok : {A B E : Type 0} (r : Result A E) (f : A → Result B E) (b : B) → and_then r f ≡ Ok b → (a : A) × (r ≡ Ok a) × (f a ≡ Ok b)
and_then-Ok (Ok a) f b h = (a, refl, h)
and_then-Ok (Err fault) f b h = cc

pub at_row-Ok : {A : Type 0} (n : ℕ) (r : Result A BookKind) (a : A) → at_row n r ≡ Ok a → r ≡ Ok a
at_row-Ok n (Ok a) b h = let same : a ≡ b = cc in ap (λ v. Ok v) same
at_row-Ok n (Err kind) b h = cc

-- what is true of the value, if there is no fault
abbrev pub Says : {A : Type 0} → (A → Type 0) → Result A BookKind → Type 0
Says P (Ok value) = P value
Says P (Err kind) = Unit {0}

pub says-then : {A B : Type 0} (P : B → Type 0) (r : Result A BookKind) (f : A → Result B BookKind) → ((a : A) → r ≡ Ok a → Says P (f a)) → Says P (and_then r f)
says-then P (Ok a) f h = h a refl
says-then P (Err kind) f h = tt

pub says-if : {A : Type 0} (P : A → Type 0) (b : Bool) (said : Result A BookKind) (kind : BookKind) → Says P said → Says P (if b then said else Err kind)
says-if P true said kind h = h
says-if P false said kind h = tt

pub says-else : {A : Type 0} (P : A → Type 0) (b : Bool) (said : Result A BookKind) (kind : BookKind) → (b ≡ false → Says P said) → Says P (if b then Err kind else said)
says-else P true said kind h = tt
says-else P false said kind h = h refl

-- what holds of a state and stays so at each row holds at the end
pub pass-keeps : {S : Type 0} (step : S → Row → Result S BookKind) (P : S → Type 0)
    → ((state next : S) (row : Row) → P state → step state row ≡ Ok next → P next)
    → (n : ℕ) (state end : S) (rows : List Row) → P state → pass step n state rows ≡ Ok end → P end
unfolding pass
pass-keeps step P keeps n state end [] holds h = let same : state ≡ end = cc in subst P same holds
pass-keeps step P keeps n state end (row ∷ rows) holds h =
    let (next, here, later) = and_then-Ok (at_row n (step state row)) (λ next. pass step (n + 1) next rows) end h in
    pass-keeps step P keeps (n + 1) next end rows (keeps state next row holds (at_row-Ok n (step state row) next here)) later

-- the same of two passes over the same rows
pub passes-keep : {S T : Type 0} (step1 : S → Row → Result S BookKind) (step2 : T → Row → Result T BookKind) (P : S → T → Type 0)
    → ((s s' : S) (t t' : T) (row : Row) → P s t → step1 s row ≡ Ok s' → step2 t row ≡ Ok t' → P s' t')
    → (n : ℕ) (s s' : S) (t t' : T) (rows : List Row) → P s t → pass step1 n s rows ≡ Ok s' → pass step2 n t rows ≡ Ok t' → P s' t'
unfolding pass
passes-keep step1 step2 P keeps n s s' t t' [] holds h g =
    let one : s ≡ s' = cc in let other : t ≡ t' = cc in subst (λ x. P x t') one (subst (P s) other holds)
passes-keep step1 step2 P keeps n s s' t t' (row ∷ rows) holds h g =
    let (next1, here1, later1) = and_then-Ok (at_row n (step1 s row)) (λ next. pass step1 (n + 1) next rows) s' h in
    let (next2, here2, later2) = and_then-Ok (at_row n (step2 t row)) (λ next. pass step2 (n + 1) next rows) t' g in
    passes-keep step1 step2 P keeps (n + 1) next1 s' next2 t' rows
    (keeps s next1 t next2 row holds (at_row-Ok n (step1 s row) next1 here1) (at_row-Ok n (step2 t row) next2 here2)) later1 later2
