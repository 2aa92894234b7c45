-- A body is the next bytes of the stream.
use Rattle.std.proofs.Common.{◌≡◌, ◌<◌, ◌≤◌, ◌∙◌, ℕ, List, [], ◌++◌, length, take, drop, refl, sym, ap, arith, length-append, length-take, ⊎_elim}
use Rattle.std.specs.Prelude.{Option, Some, None, IfSome}
use Rattle.std.proofs.lemmas.Bool.{cases_lt}
use Rattle.std.proofs.lemmas.List.{take-append-le, drop-append-le, take_at, drop_at, take_all, drop_all, length-take-le}
use Rattle.http_wire.specs.declared.head.Head.{Head}
use Rattle.http_wire.specs.declared.message.BodyStep.TheVariants.{Message, Cut}
use Rattle.http_wire.specs.Items.{ReadsBody}
use Rattle.http_wire.specs.Stream.{StreamStep, SameStream}

-- the body and the rest are the two parts of the stream
parts : (n : ℕ) (held all body rest : List ℕ) → body ++ rest ≡ take n held ++ all → length body ≡ n → (take n (held ++ all) ≡ body) × (drop n (held ++ all) ≡ drop n held ++ rest)
parts n held all body rest same whole = ⊎_elim short long (cases_lt (length held) n) where
  short : length held < n → (take n (held ++ all) ≡ body) × (drop n (held ++ all) ≡ drop n held ++ rest)
  short few =
      let joined : held ++ all ≡ body ++ rest = ap (λ (h : List ℕ). h ++ all) (sym (take_all n held (omega arith))) ∙ sym same in
      let none : drop n held ≡ [] = drop_all n held (omega arith) in (
        ap (λ (s : List ℕ). take n s) joined ∙ take_at body rest n whole,
        ap (λ (s : List ℕ). drop n s) joined ∙ drop_at body rest n whole ∙ ap (λ (s : List ℕ). s ++ rest) (sym none),
      )

  long : n ≤ length held → (take n (held ++ all) ≡ body) × (drop n (held ++ all) ≡ drop n held ++ rest)
  long many =
      let len : length (take n held) ≡ n = length-take-le n held many in
      let body_is : take n held ≡ body = sym (take_at (take n held) all n len) ∙ ap (λ (s : List ℕ). take n s) (sym same) ∙ take_at body rest n whole in
      let rest_is : all ≡ rest = sym (drop_at (take n held) all n len) ∙ ap (λ (s : List ℕ). drop n s) (sym same) ∙ drop_at body rest n whole in (
        take-append-le n held all many ∙ body_is,
        drop-append-le n held all many ∙ ap (λ (r : List ℕ). drop n held ++ r) rest_is,
      )

pub body_whole : (head : Head) (held held' front body kept : List ℕ) (first left : Option (List ℕ)) → front ≡ take head.length held → held' ≡ drop head.length held → kept ≡ body
    → StreamStep SameStream front first body left → length body ≡ head.length → StreamStep (ReadsBody head (Message record { head = head; body = kept })) held first held' left
body_whole head held held' front body kept None left front_is held_is kept_is same whole = tt
body_whole head held held' front body kept (Some all) None front_is held_is kept_is same whole = absurd same
body_whole head held held' front body kept (Some all) (Some rest) front_is held_is kept_is same whole =
    let joined : body ++ rest ≡ take head.length held ++ all = same ∙ ap (λ (f : List ℕ). f ++ all) front_is in
    let both = parts head.length held all body rest joined whole in
    let len : length (body ++ rest) ≡ length (take head.length held ++ all) = ap length joined in
    let within : head.length ≤ length (held ++ all) =
    omega (arith, len, length-append (take head.length held) all, length-append body rest, length-append held all, length-take head.length held) in
    (refl, (within, kept_is ∙ sym both.0), ap (λ (h : List ℕ). h ++ rest) held_is ∙ sym both.1)

pub body_cut : (head : Head) (held held' front body : List ℕ) (first left : Option (List ℕ)) → front ≡ take head.length held → held' ≡ drop head.length held
    → StreamStep SameStream front first body left → length body < head.length → IfSome first (λ _. left ≡ Some []) → StreamStep (ReadsBody head Cut) held first held' left
body_cut head held held' front body None left front_is held_is same short none = tt
body_cut head held held' front body (Some all) None front_is held_is same short none = absurd same
body_cut head held held' front body (Some all) (Some rest) front_is held_is same short none =
    let no_more : rest ≡ [] = cc in
    let joined : body ++ [] ≡ take head.length held ++ all = ap (λ (r : List ℕ). body ++ r) (sym no_more) ∙ same ∙ ap (λ (f : List ℕ). f ++ all) front_is in
    let len : length (body ++ []) ≡ length (take head.length held ++ all) = ap length joined in
    let bodies = length-append body [] in
    let fronts = length-append (take head.length held) all in
    let few : length held < head.length = omega (arith, len, fronts, bodies, length-take head.length held) in
    let all_few : length (held ++ all) < head.length = omega (arith, len, fronts, bodies, length-append held all, length-take head.length held) in
    (all_few, ap (λ (h : List ℕ). h ++ rest) (held_is ∙ drop_all head.length held (omega arith)) ∙ no_more)
