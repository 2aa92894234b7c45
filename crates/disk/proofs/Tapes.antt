-- One call more of a disk in memory.
use Rattle.std.proofs.Common.{◌≡◌, ◌⊎◌, inl, inr, ℕ, ◌+◌, ◌≤◌, List, [], ◌∷◌, ◌++◌, length, take, drop, refl, sym, ap, subst, ◌∙◌, arith, length-append}
use Rattle.std.proofs.lemmas.Bool.{cases_lt}
use Rattle.std.proofs.lemmas.List.{take_all, take-append-le, drop-append-le, nil_from_length, length-drop}
use Rattle.disk.specs.declared.memory_disk.Call.{Call}
use Rattle.disk.specs.declared.memory_disk.Call.TheVariants as call
use Rattle.disk.specs.Disk.{Elapses}
use Rattle.disk.specs.Tape.{Done, Wrote, TriedWrite, Cut, TriedCut, Synced, TriedSync, content_after, leaves_after, synced_after, content_of, leaves_of, synced_of, BeginsWithin, AreWithin, left_now, LeftSince}
use Rattle.disk.specs.Calls.{dones, total}

pub content_more : (file : List ℕ) (calls : List Done) (c : Done) → content_of file (calls ++ c ∷ []) ≡ content_after (content_of file calls) c
content_more file [] c = refl
content_more file (d ∷ calls) c = content_more (content_after file d) calls c

pub leaves_to : (leaves synced : List ℕ → Type 0) (calls : List Done) (c : Done) (image : List ℕ) → leaves_of leaves synced (calls ++ c ∷ []) image
    → leaves_after (leaves_of leaves synced calls) (synced_of leaves synced calls) c image
leaves_to leaves synced [] c image left = left
leaves_to leaves synced (d ∷ calls) c image left = leaves_to (leaves_after leaves synced d) (synced_after leaves synced d) calls c image left

pub leaves_from : (leaves synced : List ℕ → Type 0) (calls : List Done) (c : Done) (image : List ℕ) → leaves_after (leaves_of leaves synced calls) (synced_of leaves synced calls) c image
    → leaves_of leaves synced (calls ++ c ∷ []) image
leaves_from leaves synced [] c image left = left
leaves_from leaves synced (d ∷ calls) c image left = leaves_from (leaves_after leaves synced d) (synced_after leaves synced d) calls c image left

pub synced_to : (leaves synced : List ℕ → Type 0) (calls : List Done) (c : Done) (image : List ℕ) → synced_of leaves synced (calls ++ c ∷ []) image
    → synced_after (leaves_of leaves synced calls) (synced_of leaves synced calls) c image
synced_to leaves synced [] c image left = left
synced_to leaves synced (d ∷ calls) c image left = synced_to (leaves_after leaves synced d) (synced_after leaves synced d) calls c image left

pub synced_from : (leaves synced : List ℕ → Type 0) (calls : List Done) (c : Done) (image : List ℕ) → synced_after (leaves_of leaves synced calls) (synced_of leaves synced calls) c image
    → synced_of leaves synced (calls ++ c ∷ []) image
synced_from leaves synced [] c image left = left
synced_from leaves synced (d ∷ calls) c image left = synced_from (leaves_after leaves synced d) (synced_after leaves synced d) calls c image left

pub within_more : (file : List ℕ) (calls : List Done) (c : Done) → AreWithin file calls → BeginsWithin (content_of file calls) c → AreWithin file (calls ++ c ∷ [])
within_more file [] c within one = (one, tt)
within_more file (d ∷ calls) c within one = (within.0, within_more (content_after file d) calls c within.1 one)

-- ---- time

front_same : (calls : List Done) (c : Done) (k : ℕ) → k ≤ length calls → take k (calls ++ c ∷ []) ≡ take k calls
front_same calls c k le = take-append-le k calls (c ∷ []) le

one_more : (first : List ℕ) (calls : List Done) (c : Done) (t : ℕ) (image : List ℕ) → t ≤ length calls → LeftSince first (calls ++ c ∷ []) t image
    → LeftSince first calls t image ⊎ left_now first (calls ++ c ∷ []) image
one_more first calls c t image le since = elim (cases_lt (length calls) since.moment) [
  | inl last ↦
      let all : take since.moment (calls ++ c ∷ []) ≡ calls ++ c ∷ [] = take_all since.moment (calls ++ c ∷ []) (omega (arith, length-append calls (c ∷ []), last)) in
      inr (subst (λ cs. left_now first cs image) all since.left)
  | inr before ↦ inl (record {
    moment = since.moment;
    later = since.later;
    so_far = before;
    left = subst (λ cs. left_now first cs image) (front_same calls c since.moment before) since.left;
  })
]

pub time_of : (first : List ℕ) (calls calls' : List Done) (c : Done) → calls' ≡ calls ++ c ∷ []
    → Elapses (length calls) (length calls') (LeftSince first calls) (LeftSince first calls') (left_now first calls')
time_of first calls calls' c is = subst (λ cs. Elapses (length calls) (length cs) (LeftSince first calls) (LeftSince first cs) (left_now first cs)) (sym is) (record {
  later = omega (arith, length-append calls (c ∷ []));
  nothing_else = λ t image le since. one_more first calls c t image le since;
  keeps = λ t image le since. record {
    moment = since.moment;
    later = since.later;
    so_far = omega (arith, since.so_far, length-append calls (c ∷ []));
    left = subst (λ cs. left_now first cs image) (sym (front_same calls c since.moment since.so_far)) since.left;
  };
})

-- ---- calls as they are recorded

pub dones_write : (calls : List Call) (written bytes : List ℕ) (at n : ℕ) → total calls ≡ length written → n ≡ length bytes
    → dones (calls ++ call.Wrote at n ∷ []) (written ++ bytes) ≡ dones calls written ++ Wrote at bytes ∷ []
dones_write [] written bytes at n fits long =
    let none : written ≡ [] = nil_from_length written (sym fits) in
    let all : take n bytes ≡ bytes = take_all n bytes (omega (arith, long)) in
    ap (λ w. dones (call.Wrote at n ∷ []) (w ++ bytes)) none ∙ ap (λ b. Wrote at b ∷ []) all
dones_write (call.Wrote a l ∷ calls) written bytes at n fits long =
    let le : l ≤ length written = omega (arith, fits) in
    let rest = dones_write calls (drop l written) bytes at n (omega (arith, fits, length-drop l written)) long in
    rw (take-append-le l written bytes le, drop-append-le l written bytes le) (ap (λ ds. Wrote a (take l written) ∷ ds) rest)
dones_write (call.TriedWrite a l ∷ calls) written bytes at n fits long = ap (λ ds. TriedWrite a l ∷ ds) (dones_write calls written bytes at n fits long)
dones_write (call.Cut l ∷ calls) written bytes at n fits long = ap (λ ds. Cut l ∷ ds) (dones_write calls written bytes at n fits long)
dones_write (call.TriedCut l ∷ calls) written bytes at n fits long = ap (λ ds. TriedCut l ∷ ds) (dones_write calls written bytes at n fits long)
dones_write (call.Synced ∷ calls) written bytes at n fits long = ap (λ ds. Synced ∷ ds) (dones_write calls written bytes at n fits long)
dones_write (call.TriedSync ∷ calls) written bytes at n fits long = ap (λ ds. TriedSync ∷ ds) (dones_write calls written bytes at n fits long)

pub dones_other : (calls : List Call) (written : List ℕ) (c : Call) (d : Done) → ((bytes : List ℕ) → dones (c ∷ []) bytes ≡ d ∷ []) → dones (calls ++ c ∷ []) written ≡ dones calls written ++ d ∷ []
dones_other [] written c d one = one written
dones_other (call.Wrote a l ∷ calls) written c d one = ap (λ ds. Wrote a (take l written) ∷ ds) (dones_other calls (drop l written) c d one)
dones_other (call.TriedWrite a l ∷ calls) written c d one = ap (λ ds. TriedWrite a l ∷ ds) (dones_other calls written c d one)
dones_other (call.Cut l ∷ calls) written c d one = ap (λ ds. Cut l ∷ ds) (dones_other calls written c d one)
dones_other (call.TriedCut l ∷ calls) written c d one = ap (λ ds. TriedCut l ∷ ds) (dones_other calls written c d one)
dones_other (call.Synced ∷ calls) written c d one = ap (λ ds. Synced ∷ ds) (dones_other calls written c d one)
dones_other (call.TriedSync ∷ calls) written c d one = ap (λ ds. TriedSync ∷ ds) (dones_other calls written c d one)

pub total_more : (calls : List Call) (c : Call) → total (calls ++ c ∷ []) ≡ total calls + total (c ∷ [])
total_more [] c = omega arith
total_more (call.Wrote a l ∷ calls) c = omega (arith, total_more calls c)
total_more (call.TriedWrite a l ∷ calls) c = total_more calls c
total_more (call.Cut l ∷ calls) c = total_more calls c
total_more (call.TriedCut l ∷ calls) c = total_more calls c
total_more (call.Synced ∷ calls) c = total_more calls c
total_more (call.TriedSync ∷ calls) c = total_more calls c
