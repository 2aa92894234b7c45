-- The test of two orders tells whether they are one value.
use Rattle.std.proofs.Common.{◌≡◌, Bool, true, false, ◌&&◌, refl, ap, ◌==◌, arith}
use Rattle.std.specs.Prelude.{Decides}
use Rattle.std.specs.Cmp.Lexicographic.{pointwise, bytes_decides}
use Rattle.std.proofs.lemmas.Bool.{eqb-true}
use Rattle.std.proofs.lemmas.Slice.Eq.{slice_eq-Decides}
use Rattle.pb_base.specs.Names.{same_name}
use Rattle.desk_words.specs.declared.order_words.OrderWords.{OrderWords}
use Rattle.order_desk.specs.Effect.{same_order}

both_true : (x y : Bool) → (x && y) ≡ true → (x ≡ true) × (y ≡ true)
both_true true y h = (refl, h)
both_true false y h = cc

all_true : (x y z : Bool) → x ≡ true → y ≡ true → z ≡ true → ((x && y) && z) ≡ true
all_true x y z xs ys zs = cc

pub same_order_decides : (a b : OrderWords) → Decides (same_order a b) (a ≡ b)
unfolding same_order
same_order_decides a b =
    let codes : Decides (pointwise same_name a.codes b.codes) (a.codes ≡ b.codes) =
    slice_eq-Decides bytes_decides a.codes b.codes (pointwise same_name a.codes b.codes) refl in (
      λ h.
          let first = both_true (a.book == b.book && a.day == b.day) (pointwise same_name a.codes b.codes) h in
          let second = both_true (a.book == b.book) (a.day == b.day) first.0 in
          let book : a.book ≡ b.book = eqb-true a.book b.book second.0 in
          let day : a.day ≡ b.day = eqb-true a.day b.day second.1 in
          let same : a.codes ≡ b.codes = codes.0 first.1 in
          λ i. record { book = book i; day = day i; codes = same i },
      λ same. all_true (a.book == b.book) (a.day == b.day) (pointwise same_name a.codes b.codes)
          (grind (arith, ap (λ (o : OrderWords). o.book) same)) (grind (arith, ap (λ (o : OrderWords). o.day) same))
          (codes.1 (ap (λ (o : OrderWords). o.codes) same)),
    )
