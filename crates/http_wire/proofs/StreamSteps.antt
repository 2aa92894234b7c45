-- What is read of what is held is read of the stream.
use Rattle.std.proofs.Common.{◌≡◌, ◌≤◌, ◌+◌, ◌∙◌, ℕ, List, [], ◌++◌, length, take, drop, refl, sym, ap, subst, arith, length-drop}
use Rattle.std.specs.Prelude.{Option, Some, None, IfSome}
use Rattle.std.proofs.lemmas.List.{take-append-le, drop-append-le}
use Rattle.http_wire.specs.declared.front.Front.{Front}
use Rattle.http_wire.specs.declared.front.Front.TheVariants.{End, Bad, Block}
use Rattle.http_wire.specs.declared.head.HeadStep.{HeadStep}
use Rattle.http_wire.specs.declared.head.HeadStep.TheVariants.{Head, End as NoMore, Bad as Refused}
use Rattle.http_wire.specs.Fronts.{HasFront, IsHeld}
use Rattle.http_wire.specs.Reading.{ReadsBlock}
use Rattle.http_wire.specs.Items.{behind, ReadsFront, ReadsHead}
use Rattle.http_wire.specs.Stream.{StreamStep}

pub behind-append : (step : HeadStep) (n : ℕ) (held more : List ℕ) → n ≤ length held → behind step n (held ++ more) ≡ behind step n held ++ more
behind-append (Head head) n held more within = drop-append-le n held more within
behind-append NoMore n held more within = refl
behind-append (Refused status) n held more within = refl

-- what is left changes nothing of a front that is held
reads_more : (found : Front) (step : HeadStep) (held held' more : List ℕ) → IsHeld held found → (found ≡ End → more ≡ []) → ReadsFront found step held held'
    → ReadsFront found step (held ++ more) (held' ++ more)
reads_more End step held held' more within none reads = (reads.0, ap (λ (h : List ℕ). h ++ more) reads.1 ∙ none refl)
reads_more (Bad status) step held held' more within none reads = (reads.0, ap (λ (h : List ℕ). h ++ more) reads.1)
reads_more (Block skipped n) step held held' more within none reads =
    let same_rest : drop skipped (held ++ more) ≡ drop skipped held ++ more = drop-append-le skipped held more (omega arith) in
    let same : take n (drop skipped (held ++ more)) ≡ take n (drop skipped held) =
    ap (λ (s : List ℕ). take n s) same_rest ∙ take-append-le n (drop skipped held) more (omega (arith, length-drop skipped held)) in (
      subst (λ (block : List ℕ). ReadsBlock block step) (sym same) reads.0,
      ap (λ (h : List ℕ). h ++ more) reads.1 ∙ sym (behind-append step (skipped + n) held more within),
    )

pub reads_head : (found : Front) (step : HeadStep) (was : List ℕ) (first : Option (List ℕ)) (held held' : List ℕ) (left : Option (List ℕ)) → StreamStep (HasFront found) was first held left
    → IsHeld held found → (found ≡ End → IfSome first (λ _. left ≡ Some [])) → ReadsFront found step held held' → StreamStep (ReadsHead step) was first held' left
reads_head found step was None held held' left has within ended reads = tt
reads_head found step was (Some all) held held' None has within ended reads = absurd has
reads_head found step was (Some all) held held' (Some rest) has within ended reads =
    let none : found ≡ End → rest ≡ [] = λ is_end. let e : Some rest ≡ Some [] = ended is_end in cc in
    let more : ReadsFront found step (held ++ rest) (held' ++ rest) = reads_more found step held held' rest within none reads in
    let whole : ReadsFront found step (was ++ all) (held' ++ rest) = subst (λ (s : List ℕ). ReadsFront found step s (held' ++ rest)) has.1 more in
    subst (λ (f : Front). ReadsFront f step (was ++ all) (held' ++ rest)) (sym has.0) whole
