-- What is told of questions, part by part.
use Rattle.std.proofs.Common.{◌≡◌, ℕ, true, List, [], ◌∷◌, ◌++◌, refl, sym, subst, ◌∙◌, arith}
use Rattle.std.specs.Prelude.{Contains}
use Rattle.std.specs.List.{AllByRecursion}
use Rattle.std.proofs.lemmas.Bool.{true≢false}
use Rattle.std.proofs.lemmas.List.Elements.{Contains-append_left, Contains-append_right}
use Rattle.pb_base.specs.InParts.{InParts}
use Rattle.inquiry.specs.Form.{Form}
use Rattle.inquiry.specs.Told.{IsTold}
use Rattle.inquiry.specs.declared.told.Told.{Told}
use Rattle.inquiry.specs.declared.told.Told.TheVariants.{Finding, Undecided}
use Rattle.logic_guards.specs.Inquiries.{AllShown, EachTold, IsNotPassedOver, IsShown}

joined : {X : Type 0} (P : X → Type 0) (xs ys : List X) → AllByRecursion P xs → AllByRecursion P ys → AllByRecursion P (xs ++ ys)
joined P [] ys h k = k
joined P (x ∷ xs) ys h k = (h.0, joined P xs ys h.1 k)

mapped : {X : Type 0} (P Q : X → Type 0) → ((x : X) → P x → Q x) → (xs : List X) → AllByRecursion P xs → AllByRecursion Q xs
mapped P Q f [] h = h
mapped P Q f (x ∷ xs) h = (f x h.0, mapped P Q f xs h.1)

own_shown : {Q : Type 0} (f : Form Q) (budget : ℕ) (q : Q) (own : List (Told Q)) → IsTold f budget q own → AllShown f own
own_shown f budget q [] h = tt
own_shown f budget q (Finding question set ∷ []) h = (subst (λ p. f.shows p set ≡ true) (sym h.0) h.1.1, tt)
own_shown f budget q (Undecided question learnt ∷ []) h = (tt, tt)
own_shown f budget q (told ∷ second ∷ more) h = absurd h

pub all_shown : {Q : Type 0} (f : Form Q) (budget : ℕ) (qs : List Q) (told : List (Told Q)) → InParts (IsTold f budget) qs told → AllShown f told
all_shown f budget [] told h = subst (AllShown f) (sym h) tt
all_shown f budget (q ∷ qs) told h =
    subst (AllShown f) (sym h.2) (joined (IsShown f) h.0 h.1 (own_shown f budget q h.0 h.3) (all_shown f budget qs h.1 h.4))

own_told : {Q : Type 0} (f : Form Q) (budget : ℕ) (q : Q) (own : List (Told Q)) → IsTold f budget q own → IsNotPassedOver f own q
own_told f budget q [] h = λ x counted shows. absurd (true≢false (sym shows ∙ h x counted))
own_told f budget q (Finding question set ∷ []) h = λ x counted shows. record { told = Finding question set; there = (0, omega arith, refl); its = h.0 }
own_told f budget q (Undecided question learnt ∷ []) h = λ x counted shows. record { told = Undecided question learnt; there = (0, omega arith, refl); its = h.0 }
own_told f budget q (told ∷ second ∷ more) h = absurd h

before : {Q : Type 0} (f : Form Q) (own later all : List (Told Q)) (q : Q) → all ≡ own ++ later → IsNotPassedOver f own q → IsNotPassedOver f all q
before f own later all q is h = λ x counted shows.
    let found = h x counted shows in
    record { told = found.told; there = subst (λ ns. Contains ns found.told) (sym is) (Contains-append_left own later found.told found.there); its = found.its }

behind : {Q : Type 0} (f : Form Q) (own later all : List (Told Q)) (q : Q) → all ≡ own ++ later → IsNotPassedOver f later q → IsNotPassedOver f all q
behind f own later all q is h = λ x counted shows.
    let found = h x counted shows in
    record { told = found.told; there = subst (λ ns. Contains ns found.told) (sym is) (Contains-append_right own later found.told found.there); its = found.its }

pub each_told : {Q : Type 0} (f : Form Q) (budget : ℕ) (qs : List Q) (told : List (Told Q)) → InParts (IsTold f budget) qs told → EachTold f qs told
each_told f budget [] told h = tt
each_told f budget (q ∷ qs) told h = (
  before f h.0 h.1 told q h.2 (own_told f budget q h.0 h.3),
  mapped (IsNotPassedOver f h.1) (IsNotPassedOver f told) (λ p. behind f h.0 h.1 told p h.2) qs (each_told f budget qs h.1 h.4),
)
