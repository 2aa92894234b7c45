use Rattle.std.proofs.Common.{◌≡◌, ◌<◌, ◌∙◌, ℕ, List, length, ap, subst, All, sym}
use Rattle.std.specs.List.{IsDistinct}
use Rattle.pb_base.specs.Names.{same_name}
use Rattle.pb_base.specs.Places.{names_at}
use Rattle.clausify.proofs.ItemLaws.{length_from_good}
use Rattle.blame.proofs.ListLaws.{among_among}
use Rattle.blame.specs.Entries.{Among}
use Rattle.order_added.specs.Accepted.{is_accepted}
use Rattle.order_added.specs.Added.{IsAdded}
use Rattle.order_repair.specs.Places.{others_of}
use Rattle.order_repair.proofs.OrderLaws.{added_among, car_accepted, others_within}
use Rattle.order_repair.proofs.changing.addition.Goals as goal

pub names_at-requires : goal.names_at-requires
names_at-requires c =
    let b = c.args.book.now in
    let counted : length c.args.car.now ≡ length b.codes = length_from_good b c.args.day c.args.car.now c.requires.car.good in
    let places_are : c.deref.result.now ≡ others_of c.args.car.now c.args.kept.now = c.deref.ensures.value ∙ c.in_ok-places.ensures in
    subst (λ (codes : List (List ℕ)). All (λ (place : ℕ). place < length codes) c.deref.result.now) (sym c.codes-2.ensures.value)
    (subst (λ (ps : List ℕ). All (λ (place : ℕ). place < length b.codes) ps) (sym places_are) (others_within b.codes c.args.car.now c.args.kept.now counted))

pub add-requires : goal.add-requires
add-requires c =
    let b = c.args.book.now in
    let apart : IsDistinct same_name b.codes = subst (λ (codes : List (List ℕ)). IsDistinct same_name codes) c.codes.ensures.value c.names_law.ensures.distinct in
    let places_are : c.deref.result.now ≡ others_of c.args.car.now c.args.kept.now = c.deref.ensures.value ∙ c.in_ok-places.ensures in
    let others_are : c.in_ok-others.others.items ≡ names_at b.codes (others_of c.args.car.now c.args.kept.now) =
    c.in_ok-others.ensures ∙ ap (λ (codes : List (List ℕ)). names_at codes c.deref.result.now) c.codes-2.ensures.value ∙ ap (names_at b.codes) places_are in
    car_accepted b c.args.day c.args.kept.now c.args.car.now c.args.names.now c.in_ok-others.others.items apart c.requires.ordered c.requires.car c.requires.fits c.requires.names others_are

pub returns : goal.returns
returns c =
    let b = c.args.book.now in
    let counted : length c.args.car.now ≡ length b.codes = length_from_good b c.args.day c.args.car.now c.requires.car.good in
    let others : List (List ℕ) = names_at b.codes (others_of c.args.car.now c.args.kept.now) in
    let places_are : c.deref.result.now ≡ others_of c.args.car.now c.args.kept.now = c.deref.ensures.value ∙ c.in_ok-places.ensures in
    let others_are : c.in_ok-others.others.items ≡ others =
    c.in_ok-others.ensures ∙ ap (λ (codes : List (List ℕ)). names_at codes c.deref.result.now) c.codes-2.ensures.value ∙ ap (names_at b.codes) places_are in
    let among : Among others c.in_ok-added.added.items = subst (λ (os : List (List ℕ)). Among os c.in_ok-added.added.items) others_are c.in_ok-added.ensures.among in
    record {
      added = subst (λ (ns : List (List ℕ)). IsAdded b c.args.day ns c.in_ok-added.added.items) c.requires.names c.in_ok-added.ensures.added;
      in_order = among_among b.codes others c.in_ok-added.added.items (added_among b.codes c.args.car.now c.args.kept.now counted) among;
      none = λ accepted. c.in_ok-added.ensures.none (ap (is_accepted b c.args.day) c.requires.names ∙ accepted);
    }
