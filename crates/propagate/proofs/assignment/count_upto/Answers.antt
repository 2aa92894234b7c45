use Rattle.std.proofs.Common.{rules, ℕ, ◌<◌, ◌≤◌, List, length, slice_index, leb, leb-true, arith}
use Rattle.std.proofs.lemmas.Bool.{leb-false}
use Rattle.std.specs.List.Sorted.{IsNonDecreasingBy}
use Rattle.std.proofs.lemmas.List.Sorted.{IsPartitionPoint-from_clause, IsPartitionedBy-leb}
use Rattle.propagate.proofs.KeepLaws.{same_default}
use Rattle.propagate.proofs.assignment.count_upto.Goals as goal

rises : (starts : List ℕ) → ((i j : ℕ) → i ≤ j → j < length starts → slice_index starts i ≤ slice_index starts j) → IsNonDecreasingBy (λ (s : ℕ). s) starts
rises starts h i j d low within =
    let first = same_default starts i d 0 (omega arith) in
    let second = same_default starts j d 0 within in
    let r = h i j low within in
    omega (arith, first, second, r)

pub returns-clause-upto : goal.returns-clause-upto
returns-clause-upto c = λ m b.
    let parted = IsPartitionedBy-leb (λ (s : ℕ). s) c.args.starts.now c.args.place (rises c.args.starts.now c.requires) in
    let point = IsPartitionPoint-from_clause (λ (s : ℕ). leb s c.args.place) _ _ c.partition_point.ensures.partitioned parted (λ a r q k. search rules) in
    leb-true _ _ (point.0 m 0 (omega arith) b)

pub returns-clause-above : goal.returns-clause-above
returns-clause-above c = λ m low high.
    let parted = IsPartitionedBy-leb (λ (s : ℕ). s) c.args.starts.now c.args.place (rises c.args.starts.now c.requires) in
    let point = IsPartitionPoint-from_clause (λ (s : ℕ). leb s c.args.place) _ _ c.partition_point.ensures.partitioned parted (λ a r q k. search rules) in
    leb-false _ _ (point.1 m 0 low high)
