-- The calls of a disk in memory, gone through again.
use Rattle.std.proofs.Common.{◌≡◌, inl, inr, ℕ, suc, ◌+◌, ◌<◌, ◌≤◌, max, get_or, drop-cons, List, [], ◌∷◌, ◌++◌, length, take, drop, refl, sym, ap, subst, ◌∙◌, append_assoc, arith, length-append, length-drop, length-take}
use Rattle.std.proofs.lemmas.List.{length-take-le}
use Rattle.disk.specs.declared.memory_disk.Call.{Call}
use Rattle.disk.specs.declared.memory_disk.Call.TheVariants as call
use Rattle.disk.specs.Disk.{overwritten, Torn}
use Rattle.disk.specs.Tape.{Done, Wrote, TriedWrite, Cut, TriedCut, Synced, TriedSync, content_after, content_of, BeginsWithin, AreWithin, left_now, left_synced, synced_within}
use Rattle.disk.specs.Calls.{dones, total}
use Rattle.disk.proofs.Torn.{untouched, whole}
use Rattle.disk.proofs.Tapes.{content_more, leaves_from, synced_from, within_more}

pub length_overwritten : (at : ℕ) (bytes file : List ℕ) → at ≤ length file → length (overwritten at bytes file) ≡ max (length file) (at + length bytes)
length_overwritten at bytes file within =
    let one = length-append (take at file ++ bytes) (drop (at + length bytes) file) in
    let two = length-append (take at file) bytes in
    let three = length-take-le at file within in
    let four = length-drop (at + length bytes) file in
    omega (arith, one, two, three, four)

within_at : (file : List ℕ) (front : List Done) (c : Done) (rest : List Done) → AreWithin file (front ++ c ∷ rest) → BeginsWithin (content_of file front) c
within_at file [] c rest within = within.0
within_at file (d ∷ front) c rest within = within_at (content_after file d) front c rest within.1

-- after some of the calls: what a sync may make last, and an image that a stop may leave; neither is shorter than the file
pub record IsReplayed (first : List ℕ) (all : List Done) (calls : List Call) (bytes kept image : List ℕ) : Type 0 where
  pub front : List Done
  pub split : all ≡ front ++ dones calls bytes
  pub lasts : left_synced first front kept
  pub left : left_now first front image
  pub kept_reaches : length (content_of first front) ≤ length kept
  pub reaches : length (content_of first front) ≤ length image
  pub bytes_left : total calls ≡ length bytes

-- the same of texts that are equal
pub replayed_as : (first : List ℕ) (all : List Done) (calls : List Call) (bytes bytes' kept kept' image image' : List ℕ) → IsReplayed first all calls bytes kept image
    → bytes' ≡ bytes → kept' ≡ kept → image' ≡ image → IsReplayed first all calls bytes' kept' image'
replayed_as first all calls bytes bytes' kept kept' image image' r b k i = record {
  front = r.front;
  split = r.split ∙ ap (λ x. r.front ++ dones calls x) (sym b);
  lasts = subst (λ x. left_synced first r.front x) (sym k) r.lasts;
  left = subst (λ x. left_now first r.front x) (sym i) r.left;
  kept_reaches = omega (arith, ap length k, r.kept_reaches);
  reaches = omega (arith, ap length i, r.reaches);
  bytes_left = r.bytes_left ∙ ap length (sym b);
}

-- the next of the calls
pub replayed_at : (first : List ℕ) (all : List Done) (calls : List Call) (i : ℕ) (d c : Call) (bytes kept image : List ℕ) → i < length calls → get_or calls i d ≡ c
    → IsReplayed first all (drop i calls) bytes kept image → IsReplayed first all (c ∷ drop (i + 1) calls) bytes kept image
replayed_at first all calls i d c bytes kept image within is r =
    let next : drop i calls ≡ c ∷ drop (i + 1) calls =
    drop-cons calls i d within ∙ ap (λ x. x ∷ drop (suc i) calls) is ∙ ap (λ (k : ℕ). c ∷ drop k calls) (let e : suc i ≡ i + 1 = omega arith in e) in
    subst (λ cs. IsReplayed first all cs bytes kept image) next r

one_more : (all front : List Done) (d : Done) (rest : List Done) → all ≡ front ++ d ∷ rest → all ≡ (front ++ d ∷ []) ++ rest
one_more all front d rest is = is ∙ sym (append_assoc front (d ∷ []) rest)

module _ (first : List ℕ) (all : List Done) (within : AreWithin first all) (rest : List Call) (bytes kept image : List ℕ) where
  abbrev First : List ℕ → Type 0
  First file = file ≡ first

  -- what a sync may make last, a stop may leave
  may_leave : (front : List Done) → left_synced first front kept → left_now first front kept
  may_leave front lasts = synced_within First First front (λ file is. is) kept lasts

  begins : (front : List Done) (d : Done) (later : List Done) → all ≡ front ++ d ∷ later → BeginsWithin (content_of first front) d
  begins front d later is = within_at first front d later (subst (AreWithin first) is within)

  pub write_within : (at n : ℕ) → (r : IsReplayed first all (call.Wrote at n ∷ rest) bytes kept image) → (at ≤ length (content_of first r.front)) × (n ≤ length bytes)
  write_within at n r = (begins r.front (Wrote at (take n bytes)) (dones rest (drop n bytes)) r.split, omega (arith, r.bytes_left))

  pub try_within : (at n : ℕ) → (r : IsReplayed first all (call.TriedWrite at n ∷ rest) bytes kept image) → at ≤ length (content_of first r.front)
  try_within at n r = begins r.front (TriedWrite at n) (dones rest bytes) r.split

  pub replay_write : (at n : ℕ) (ones : List ℕ) → length ones ≡ n → IsReplayed first all (call.Wrote at n ∷ rest) bytes kept image
      → IsReplayed first all rest (drop n bytes) (overwritten at (take n bytes) kept) (overwritten at ones image)
  replay_write at n ones long r =
      let fits = write_within at n r in
      let now = take n bytes in
      let taken : length now ≡ n = length-take-le n bytes fits.1 in
      let in_kept : at ≤ length kept = omega (arith, fits.0, r.kept_reaches) in
      let in_image : at ≤ length image = omega (arith, fits.0, r.reaches) in
      let content_is = ap length (content_more first r.front (Wrote at now)) ∙ length_overwritten at now (content_of first r.front) fits.0 in
      record {
        front = r.front ++ Wrote at now ∷ [];
        split = one_more all r.front (Wrote at now) (dones rest (drop n bytes)) r.split;
        lasts = synced_from First First r.front (Wrote at now) (overwritten at now kept)
            ((kept, may_leave r.front r.lasts, whole at now kept in_kept), (kept, r.lasts, refl));
        left = leaves_from First First r.front (Wrote at now) (overwritten at ones image)
            (image, r.left, subst (λ k. Torn at k image (overwritten at ones image)) (long ∙ sym taken) (whole at ones image in_image));
        kept_reaches = omega (arith, content_is, length_overwritten at now kept in_kept, r.kept_reaches);
        reaches = omega (arith, content_is, length_overwritten at ones image in_image, taken, long, r.reaches);
        bytes_left = omega (arith, r.bytes_left, length-drop n bytes);
      }

  pub replay_try : (at n : ℕ) (ones : List ℕ) → length ones ≡ n → IsReplayed first all (call.TriedWrite at n ∷ rest) bytes kept image
      → IsReplayed first all rest bytes kept (overwritten at ones image)
  replay_try at n ones long r =
      let in_image : at ≤ length image = omega (arith, try_within at n r, r.reaches) in
      let content_is = ap length (content_more first r.front (TriedWrite at n)) in
      record {
        front = r.front ++ TriedWrite at n ∷ [];
        split = one_more all r.front (TriedWrite at n) (dones rest bytes) r.split;
        lasts = synced_from First First r.front (TriedWrite at n) kept ((kept, may_leave r.front r.lasts, untouched at n kept), r.lasts);
        left = leaves_from First First r.front (TriedWrite at n) (overwritten at ones image)
            (image, r.left, subst (λ k. Torn at k image (overwritten at ones image)) long (whole at ones image in_image));
        kept_reaches = omega (arith, content_is, r.kept_reaches);
        reaches = omega (arith, content_is, length_overwritten at ones image in_image, r.reaches);
        bytes_left = r.bytes_left;
      }

  pub replay_cut : (n : ℕ) → IsReplayed first all (call.Cut n ∷ rest) bytes kept image → IsReplayed first all rest bytes (take n kept) image
  replay_cut n r =
      let content_is = ap length (content_more first r.front (Cut n)) ∙ length-take n (content_of first r.front) in
      record {
        front = r.front ++ Cut n ∷ [];
        split = one_more all r.front (Cut n) (dones rest bytes) r.split;
        lasts = synced_from First First r.front (Cut n) (take n kept) ((kept, may_leave r.front r.lasts, inr refl), (kept, r.lasts, refl));
        left = leaves_from First First r.front (Cut n) image (image, r.left, inl refl);
        kept_reaches = omega (arith, content_is, length-take n kept, r.kept_reaches);
        reaches = omega (arith, content_is, r.reaches);
        bytes_left = r.bytes_left;
      }

  pub replay_no_cut : (n : ℕ) → IsReplayed first all (call.TriedCut n ∷ rest) bytes kept image → IsReplayed first all rest bytes kept image
  replay_no_cut n r =
      let content_is = ap length (content_more first r.front (TriedCut n)) in
      record {
        front = r.front ++ TriedCut n ∷ [];
        split = one_more all r.front (TriedCut n) (dones rest bytes) r.split;
        lasts = synced_from First First r.front (TriedCut n) kept ((kept, may_leave r.front r.lasts, inl refl), r.lasts);
        left = leaves_from First First r.front (TriedCut n) image (image, r.left, inl refl);
        kept_reaches = omega (arith, content_is, r.kept_reaches);
        reaches = omega (arith, content_is, r.reaches);
        bytes_left = r.bytes_left;
      }

  pub replay_sync : IsReplayed first all (call.Synced ∷ rest) bytes kept image → IsReplayed first all rest bytes kept kept
  replay_sync r =
      let content_is = ap length (content_more first r.front Synced) in
      record {
        front = r.front ++ Synced ∷ [];
        split = one_more all r.front Synced (dones rest bytes) r.split;
        lasts = synced_from First First r.front Synced kept (r.lasts, r.lasts);
        left = leaves_from First First r.front Synced kept r.lasts;
        kept_reaches = omega (arith, content_is, r.kept_reaches);
        reaches = omega (arith, content_is, r.kept_reaches);
        bytes_left = r.bytes_left;
      }

  pub replay_try_sync : IsReplayed first all (call.TriedSync ∷ rest) bytes kept image → IsReplayed first all rest bytes image image
  replay_try_sync r =
      let content_is = ap length (content_more first r.front TriedSync) in
      record {
        front = r.front ++ TriedSync ∷ [];
        split = one_more all r.front TriedSync (dones rest bytes) r.split;
        lasts = synced_from First First r.front TriedSync image (r.left, r.left);
        left = leaves_from First First r.front TriedSync image r.left;
        kept_reaches = omega (arith, content_is, r.reaches);
        reaches = omega (arith, content_is, r.reaches);
        bytes_left = r.bytes_left;
      }

-- one call more keeps what is so of a disk
pub keeps_call : (first content content' : List ℕ) (ds ds' : List Done) (c : Done) → content ≡ content_of first ds → AreWithin first ds → ds' ≡ ds ++ c ∷ [] → BeginsWithin content c
    → content' ≡ content_after content c → (content' ≡ content_of first ds') × AreWithin first ds'
keeps_call first content content' ds ds' c is within more begins is' = (
  is' ∙ ap (λ f. content_after f c) is ∙ sym (content_more first ds c) ∙ ap (content_of first) (sym more),
  subst (AreWithin first) (sym more) (within_more first ds c within (subst (λ f. BeginsWithin f c) is begins)),
)
