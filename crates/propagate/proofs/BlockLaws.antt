-- What a change of the block or of one room makes of the lists.
use Rattle.std.proofs.Common.{◌≡◌, ◌⊎◌, inl, inr, ℕ, zero, suc, ◌+◌, ◌-◌, ◌<◌, ◌≤◌, List, [], ◌∷◌, ◌++◌, append-nil, length, take, drop, get_or, replicate, refl, sym, subst, ◌∙◌, ap, arith, length-append}
use Rattle.std.specs.Prelude.{Result, Ok, Err, OnErr}
use Rattle.std.specs.List.{slice_set, swap_remove}
use Rattle.std.proofs.lemmas.Bool.{cases_eq}
use Rattle.std.proofs.lemmas.List.{drop-set-lt, drop-set-add, take-set-le, take_more_set, drop-append-le, take-append-le, length-drop, length-take-le, length-map, get_or-drop, get_or-take, get_or-set_same, get_or-set_other}
use Rattle.std.proofs.Math.Seq.{take-set-lt}
use Rattle.propagate.specs.Block.{no_span, span_at, entries_in, lists_in, Fits, AreSeparate, IsBlock, IsLonger, HasRoom}
use Rattle.propagate.specs.Attaching.{pushed_at, popped_at}
use Rattle.propagate.specs.declared.watch.Watch.{Watch}
use Rattle.propagate.specs.declared.watch_lists.Span.{Span}

module _ {X : Type 0} where
  take_take_le : (n m : ℕ) (ys : List X) → n ≤ m → take n (take m ys) ≡ take n ys
  take_take_le zero m ys h = refl
  take_take_le (suc n) zero ys h = absurd (omega (arith, h))
  take_take_le (suc n) (suc m) [] h = refl
  take_take_le (suc n) (suc m) (y ∷ ys) h = ap (λ (zs : List X). y ∷ zs) (take_take_le n m ys (omega (arith, h)))

-- the list at this place
pub list_at : (block : List Watch) (spans : List Span) (k : ℕ) → get_or (lists_in block spans) k [] ≡ entries_in block (span_at spans k)
list_at block [] k = refl
list_at block (s ∷ spans) zero = refl
list_at block (s ∷ spans) (suc k) = list_at block spans k

-- the same lists, where each room has the same entries
pub same_lists : (old new : List Watch) (spans : List Span) → ((k : ℕ) → entries_in new (span_at spans k) ≡ entries_in old (span_at spans k)) → lists_in new spans ≡ lists_in old spans
same_lists old new [] h = refl
same_lists old new (s ∷ spans) h =
    ap (λ (xs : List Watch). xs ∷ lists_in new spans) (h 0) ∙ ap (λ (ls : List (List Watch)). entries_in old s ∷ ls) (same_lists old new spans (λ k. h (suc k)))

-- one list is another, where the others' entries are the same
pub one_list : (old new : List Watch) (spans : List Span) (i : ℕ) (t : Span) → ((k : ℕ) → (k ≡ i → ⊥) → entries_in new (span_at spans k) ≡ entries_in old (span_at spans k))
    → lists_in new (slice_set spans i t) ≡ slice_set (lists_in old spans) i (entries_in new t)
one_list old new [] i t h = refl
one_list old new (s ∷ spans) zero t h =
    ap (λ (ls : List (List Watch)). entries_in new t ∷ ls) (same_lists old new spans (λ k. h (suc k) (λ e. absurd (omega (arith, e)))))
one_list old new (s ∷ spans) (suc i) t h =
    ap (λ (xs : List Watch). xs ∷ lists_in new (slice_set spans i t)) (h 0 (λ e. absurd (omega (arith, e))))
    ∙ ap (λ (ls : List (List Watch)). entries_in old s ∷ ls) (one_list old new spans i t (λ k ne. h (suc k) (λ e. ne (omega (arith, e)))))

-- an entry outside a list
entry_outside : (block : List Watch) (s : Span) (place : ℕ) (e : Watch) → (place < s.start) ⊎ (s.start + s.len ≤ place) → entries_in (slice_set block place e) s ≡ entries_in block s
entry_outside block s place e (inl h) = ap (take s.len) (drop-set-lt s.start block place e h)
entry_outside block s place e (inr h) =
    let at : place ≡ s.start + (place - s.start) = omega (arith, h) in
    ap (λ (p : ℕ). take s.len (drop s.start (slice_set block p e))) at
    ∙ ap (take s.len) (drop-set-add s.start block (place - s.start) e)
    ∙ take-set-le s.len (drop s.start block) (place - s.start) e (omega (arith, h))

-- an entry in the room of another list
entry_elsewhere : (block : List Watch) (s t : Span) (place : ℕ) (e : Watch) → AreSeparate t s → s.len ≤ s.room → t.start ≤ place → place < t.start + t.room
    → entries_in (slice_set block place e) s ≡ entries_in block s
entry_elsewhere block s t place e (inl h) low from to = entry_outside block s place e (inl (omega (arith, h, to)))
entry_elsewhere block s t place e (inr h) low from to = entry_outside block s place e (inr (omega (arith, h, low, from)))

-- a block with more behind
pub entries_longer : (block more : List Watch) (s : Span) → s.start + s.len ≤ length block → entries_in (block ++ more) s ≡ entries_in block s
entries_longer block more s h =
    ap (take s.len) (drop-append-le s.start block more (omega (arith, h)))
    ∙ take-append-le s.len (drop s.start block) more (let n = length-drop s.start block in omega (arith, n, h))

pub longer : (old new : List Watch) (s : Span) → IsLonger old new → Fits s (length old) → entries_in new s ≡ entries_in old s
longer old new s l f = ap (λ (b : List Watch). entries_in b s) l.1 ∙ entries_longer old l.0 s (let a = f.entries in let b = f.room in omega (arith, a, b))

pub length_longer : (old new : List Watch) → IsLonger old new → length old ≤ length new
length_longer old new l = let e : length new ≡ length old + length l.0 = ap length l.1 ∙ length-append old l.0 in omega (arith, e)

-- an entry behind the others of a list
entry_pushed : (block : List Watch) (s : Span) (e : Watch) → s.start + s.len < length block
    → take (s.len + 1) (drop s.start (slice_set block (s.start + s.len) e)) ≡ entries_in block s ++ e ∷ []
entry_pushed block s e h =
    ap (take (s.len + 1)) (drop-set-add s.start block s.len e)
    ∙ take_more_set (drop s.start block) s.len e (let n = length-drop s.start block in omega (arith, n, h))

pub length_entries : (block : List Watch) (s : Span) → s.start + s.len ≤ length block → length (entries_in block s) ≡ s.len
length_entries block s h = length-take-le s.len (drop s.start block) (let n = length-drop s.start block in omega (arith, n, h))

-- the last entry is gone
pub entries_popped : (block : List Watch) (s : Span) → s.start + s.len ≤ length block
    → take (s.len - 1) (drop s.start block) ≡ take (length (entries_in block s) - 1) (entries_in block s)
entries_popped block s h =
    sym (ap (λ (n : ℕ). take (n - 1) (entries_in block s)) (length_entries block s h) ∙ take_take_le (s.len - 1) s.len (drop s.start block) (omega arith))

-- an entry is gone, and the last one stands in its place
pub entries_removed : (block : List Watch) (s : Span) (at : ℕ) (r last : Watch) → s.start + s.len ≤ length block → at < s.len → last ≡ get_or block (s.start + (s.len - 1)) r
    → take (s.len - 1) (drop s.start (slice_set block (s.start + at) last)) ≡ swap_remove (entries_in block s) at r
entries_removed block s at r last h within is =
    ap (take (s.len - 1)) (drop-set-add s.start block at last)
    ∙ sym (take_take_le (s.len - 1) s.len (slice_set (drop s.start block) at last) (omega arith))
    ∙ ap (take (s.len - 1)) (take-set-lt s.len (drop s.start block) at last within)
    ∙ ap (λ (w : Watch). take (s.len - 1) (slice_set (entries_in block s) at w)) (is ∙ sym (get_or-drop s.start block (s.len - 1) r) ∙ sym (get_or-take s.len (drop s.start block) (s.len - 1) r (omega (arith, within))))
    ∙ ap (λ (n : ℕ). take (n - 1) (slice_set (entries_in block s) at (get_or (entries_in block s) (n - 1) r))) (sym (length_entries block s h))

turned : (s t : Span) → AreSeparate s t → AreSeparate t s
turned s t (inl h) = inr h
turned s t (inr h) = inl h

-- a list that changes in its room, or moves to another
pub block_set : (spans : List Span) (end more i : ℕ) (t : Span) → IsBlock spans end → i < length spans → end ≤ more → Fits t more → ((k : ℕ) → (k ≡ i → ⊥) → AreSeparate t (span_at spans k))
    → IsBlock (slice_set spans i t) more
block_set spans end more i t b within longer fits apart = record {
  fits = λ k. elim (cases_eq k i) [
    | inl e ↦ subst (λ (n : ℕ). Fits (span_at (slice_set spans i t) n) more) (sym e) (subst (λ (s : Span). Fits s more) (sym here) fits)
    | inr ne ↦ subst (λ (s : Span). Fits s more) (sym (there k ne)) (let f = b.fits k in record { entries = f.entries; room = let r = f.room in omega (arith, r, longer) })
  ];
  separate = λ j k ne. elim (cases_eq j i) [
    | inl e ↦ subst (λ (n : ℕ). AreSeparate (span_at (slice_set spans i t) n) (span_at (slice_set spans i t) k)) (sym e)
        (subst (λ (s : Span). AreSeparate s (span_at (slice_set spans i t) k)) (sym here)
        (subst (λ (s : Span). AreSeparate t s) (sym (there k (λ f. ne (e ∙ sym f)))) (apart k (λ f. ne (e ∙ sym f)))))
    | inr first ↦ subst (λ (s : Span). AreSeparate s (span_at (slice_set spans i t) k)) (sym (there j first)) (elim (cases_eq k i) [
      | inl e ↦ subst (λ (n : ℕ). AreSeparate (span_at spans j) (span_at (slice_set spans i t) n)) (sym e)
          (subst (λ (s : Span). AreSeparate (span_at spans j) s) (sym here) (turned t (span_at spans j) (apart j first)))
      | inr second ↦ subst (λ (s : Span). AreSeparate (span_at spans j) s) (sym (there k second)) (b.separate j k ne)
    ])
  ];
} where
  here : span_at (slice_set spans i t) i ≡ t
  here = get_or-set_same spans i t no_span within

  there : (k : ℕ) → (k ≡ i → ⊥) → span_at (slice_set spans i t) k ≡ span_at spans k
  there k ne = get_or-set_other spans i k t no_span ne

-- the block grew alone
pub block_longer : (spans : List Span) (end more : ℕ) → IsBlock spans end → end ≤ more → IsBlock spans more
block_longer spans end more b h = record {
  fits = λ k. let f = b.fits k in record { entries = f.entries; room = let r = f.room in omega (arith, r, h) };
  separate = b.separate;
}

pub longer_lists : (old new : List Watch) (spans : List Span) → IsBlock spans (length old) → IsLonger old new → lists_in new spans ≡ lists_in old spans
longer_lists old new spans b l = same_lists old new spans (λ k. longer old new (span_at spans k) l (b.fits k))

-- a list in the room where a further entry goes
module _ (old new : List Watch) (spans : List Span) (i : ℕ) (t : Span) (b : IsBlock spans (length old)) (within : i < length spans) (l : IsLonger old new) (r : HasRoom old new (span_at spans i) t) where
  apart_from : (k : ℕ) → (k ≡ i → ⊥) → AreSeparate t (span_at spans k)
  apart_from k ne = elim r.place [
    | inl same ↦ elim (b.separate i k (λ e. ne (sym e))) [
      | inl h ↦ inl (omega (arith, h, same.0, same.1))
      | inr h ↦ inr (omega (arith, h, same.0, same.1))
    ]
    | inr behind ↦ inr (let f = (b.fits k).room in omega (arith, f, behind))
  ]

  pub pushed_block : IsBlock (slice_set spans i (record { start = t.start; len = t.len + 1; room = t.room })) (length new)
  pushed_block = block_set spans (length old) (length new) i _ b within (length_longer old new l) (record { entries = let f = r.free in omega (arith, f); room = r.before }) apart_from

  pub pushed_lists : (e : Watch) → lists_in (slice_set new (t.start + t.len) e) (slice_set spans i (record { start = t.start; len = t.len + 1; room = t.room })) ≡ pushed_at (lists_in old spans) i e
  pushed_lists e =
      one_list old (slice_set new (t.start + t.len) e) spans i _ (λ k ne.
      let free = r.free in let f = b.fits k in
      entry_elsewhere new (span_at spans k) t (t.start + t.len) e (apart_from k ne) f.entries (omega arith) (omega (arith, free))
      ∙ longer old new (span_at spans k) l f)
      ∙ ap (λ (xs : List Watch). slice_set (lists_in old spans) i xs)
      ((let free = r.free in let before = r.before in entry_pushed new t e (omega (arith, free, before)))
      ∙ ap (λ (xs : List Watch). xs ++ e ∷ []) (r.same_entries ∙ sym (list_at old spans i)))

-- a list that becomes shorter where it is
module _ (block : List Watch) (spans : List Span) (i : ℕ) (b : IsBlock spans (length block)) (within : i < length spans) where
  inside : (span_at spans i).start + (span_at spans i).len ≤ length block
  inside = let f = b.fits i in let e = f.entries in let r = f.room in omega (arith, e, r)

  pub shorter_block : IsBlock (slice_set spans i (record { start = (span_at spans i).start; len = (span_at spans i).len - 1; room = (span_at spans i).room })) (length block)
  shorter_block = let f = b.fits i in
      block_set spans (length block) (length block) i _ b within (omega arith) (record { entries = let e = f.entries in omega (arith, e); room = f.room })
      (λ k ne. b.separate i k (λ e. ne (sym e)))

  pub popped_lists : lists_in block (slice_set spans i (record { start = (span_at spans i).start; len = (span_at spans i).len - 1; room = (span_at spans i).room })) ≡ popped_at (lists_in block spans) i
  popped_lists =
      one_list block block spans i _ (λ k ne. refl)
      ∙ ap (λ (xs : List Watch). slice_set (lists_in block spans) i xs)
      (entries_popped block (span_at spans i) inside ∙ ap (λ (xs : List Watch). take (length xs - 1) xs) (sym (list_at block spans i)))

  pub removed_lists : (at : ℕ) (r last : Watch) → at < (span_at spans i).len → last ≡ get_or block ((span_at spans i).start + ((span_at spans i).len - 1)) r
      → lists_in (slice_set block ((span_at spans i).start + at) last) (slice_set spans i (record { start = (span_at spans i).start; len = (span_at spans i).len - 1; room = (span_at spans i).room }))
      ≡ slice_set (lists_in block spans) i (swap_remove (get_or (lists_in block spans) i []) at r)
  removed_lists at r last low is =
      one_list block (slice_set block ((span_at spans i).start + at) last) spans i _ (λ k ne.
      let e = (b.fits i).entries in
      entry_elsewhere block (span_at spans k) (span_at spans i) ((span_at spans i).start + at) last (b.separate i k (λ f. ne (sym f))) (b.fits k).entries (omega arith) (omega (arith, low, e)))
      ∙ ap (λ (xs : List Watch). slice_set (lists_in block spans) i xs)
      (entries_removed block (span_at spans i) at r last inside low is ∙ ap (λ (xs : List Watch). swap_remove xs at r) (sym (list_at block spans i)))

-- rooms one after another
pub record AreLaid (spans : List Span) (end : ℕ) : Type 0 where
  pub block : IsBlock spans end
  pub empty : (k : ℕ) → (span_at spans k).len ≡ 0

pub none_laid : AreLaid [] 0
none_laid = record {
  block = record { fits = λ k. record { entries = omega arith; room = omega arith }; separate = λ j k ne. inl (omega arith) };
  empty = λ k. refl;
}

-- the rooms with one more behind
at_end : (spans : List Span) (new : Span) (k : ℕ) → (span_at (spans ++ new ∷ []) k ≡ span_at spans k) ⊎ ((k ≡ length spans) × (span_at (spans ++ new ∷ []) k ≡ new))
at_end [] new zero = inr (refl, refl)
at_end [] new (suc k) = inl refl
at_end (s ∷ spans) new zero = inl refl
at_end (s ∷ spans) new (suc k) = elim (at_end spans new k) [
  | inl e ↦ inl e
  | inr e ↦ inr (ap suc e.0, e.1)
]

pub one_more_laid : (spans : List Span) (end room : ℕ) → AreLaid spans end → AreLaid (spans ++ record { start = end; len = 0; room = room } ∷ []) (end + room)
one_more_laid spans end room h = record {
  block = record {
    fits = λ k. elim (which k) [
      | inl e ↦ subst (λ (s : Span). Fits s (end + room)) (sym e) (let f = h.block.fits k in let r = f.room in record { entries = f.entries; room = omega (arith, r) })
      | inr e ↦ subst (λ (s : Span). Fits s (end + room)) (sym e.1) (record { entries = omega arith; room = omega arith })
    ];
    separate = λ j k ne. elim (which j) [
      | inl e ↦ subst (λ (s : Span). AreSeparate s (span_at all k)) (sym e) (elim (which k) [
        | inl f ↦ subst (λ (s : Span). AreSeparate (span_at spans j) s) (sym f) (h.block.separate j k ne)
        | inr f ↦ subst (λ (s : Span). AreSeparate (span_at spans j) s) (sym f.1) (inl (h.block.fits j).room)
      ])
      | inr e ↦ subst (λ (s : Span). AreSeparate s (span_at all k)) (sym e.1) (elim (which k) [
        | inl f ↦ subst (λ (s : Span). AreSeparate new s) (sym f) (inr (h.block.fits k).room)
        | inr f ↦ absurd (ne (e.0 ∙ sym f.0))
      ])
    ];
  };
  empty = λ k. elim (which k) [
    | inl e ↦ ap (λ (s : Span). s.len) e ∙ h.empty k
    | inr e ↦ ap (λ (s : Span). s.len) e.1
  ];
} where
  new : Span
  new = record { start = end; len = 0; room = room }

  all : List Span
  all = spans ++ new ∷ []

  which : (k : ℕ) → (span_at all k ≡ span_at spans k) ⊎ ((k ≡ length spans) × (span_at all k ≡ new))
  which k = at_end spans new k

-- empty lists
pub all_empty : (block : List Watch) (spans : List Span) (k : ℕ) → (span_at spans k).len ≡ 0 → get_or (lists_in block spans) k [] ≡ []
all_empty block spans k h = list_at block spans k ∙ ap (λ (n : ℕ). take n (drop (span_at spans k).start block)) h

span_none : (n k : ℕ) → span_at (replicate n no_span) k ≡ no_span
span_none zero k = refl
span_none (suc n) zero = refl
span_none (suc n) (suc k) = span_none n k

pub replicated_laid : (n : ℕ) → AreLaid (replicate n no_span) 0
replicated_laid n = record {
  block = record {
    fits = λ k. subst (λ (s : Span). Fits s 0) (sym (span_none n k)) (record { entries = omega arith; room = omega arith });
    separate = λ j k ne. subst (λ (s : Span). AreSeparate s (span_at (replicate n no_span) k)) (sym (span_none n j)) (inl (omega arith));
  };
  empty = λ k. ap (λ (s : Span). s.len) (span_none n k);
}

-- what a call reads
pub within_lists : (block : List Watch) (spans : List Span) (model : List (List Watch)) (code : ℕ) → lists_in block spans ≡ model → code < length model → code < length spans
within_lists block spans model code is h = omega (arith, h, ap length is, count) where
  count : length (lists_in block spans) ≡ length spans
  count = length-map spans (λ (s : Span). entries_in block s)

any_default : {X : Type 0} (xs : List X) (n : ℕ) (d e : X) → n < length xs → get_or xs n d ≡ get_or xs n e
any_default [] n d e b = absurd (omega (arith, b))
any_default (x ∷ xs) zero d e b = refl
any_default (x ∷ xs) (suc n) d e b = any_default xs n d e (omega (arith, b))

pub read_span : (spans : List Span) (code : ℕ) (s : Span) → code < length spans → s ≡ get_or spans code s → s ≡ span_at spans code
read_span spans code s within is = is ∙ any_default spans code s no_span within

pub on_err : {T E : Type 0} {P : Type 0} (r : Result T E) → P → OnErr r P
on_err (Ok x) h = tt
on_err (Err e) h = h

pub fits_read : (block : List Watch) (spans : List Span) (model : List (List Watch)) (code : ℕ) (s : Span) → IsBlock spans (length block) → lists_in block spans ≡ model → code < length model
    → s ≡ get_or spans code s → Fits s (length block)
fits_read block spans model code s b is within read =
    subst (λ (t : Span). Fits t (length block)) (sym (read_span spans code s (within_lists block spans model code is within) read)) (b.fits code)

pub length_read : (block : List Watch) (spans : List Span) (model : List (List Watch)) (code : ℕ) (s : Span) → IsBlock spans (length block) → lists_in block spans ≡ model → code < length model
    → s ≡ get_or spans code s → length (get_or model code []) ≡ s.len
length_read block spans model code s b is within read =
    ap (λ (ls : List (List Watch)). length (get_or ls code [])) (sym is) ∙ ap length (list_at block spans code)
    ∙ ap (λ (t : Span). length (entries_in block t)) (sym (read_span spans code s (within_lists block spans model code is within) read))
    ∙ length_entries block s (let f = fits_read block spans model code s b is within read in let e = f.entries in let r = f.room in omega (arith, e, r))

-- a call that takes entries of a list away
module _ (block : List Watch) (spans : List Span) (model : List (List Watch)) (code : ℕ) (s : Span) (b : IsBlock spans (length block)) (is : lists_in block spans ≡ model) (low : code < length model)
    (read : s ≡ get_or spans code s) where
  here : s ≡ span_at spans code
  here = read_span spans code s (within_lists block spans model code is low) read

  pub popped_by : (n : ℕ) → n ≡ s.len - 1 → lists_in block (slice_set spans code (record { start = s.start; len = n; room = s.room })) ≡ popped_at model code
  popped_by n e =
      ap (λ (m : ℕ). lists_in block (slice_set spans code (record { start = s.start; len = m; room = s.room }))) e
      ∙ ap (λ (t : Span). lists_in block (slice_set spans code (record { start = t.start; len = t.len - 1; room = t.room }))) here
      ∙ popped_lists block spans code b (within_lists block spans model code is low)
      ∙ ap (λ (ls : List (List Watch)). popped_at ls code) is

  pub removed_by : (at : ℕ) (r last : Watch) → at < length (get_or model code []) → last ≡ get_or block (s.start + (s.len - 1)) last
      → lists_in (slice_set block (s.start + at) last) (slice_set spans code (record { start = s.start; len = s.len - 1; room = s.room })) ≡ slice_set model code (swap_remove (get_or model code []) at r)
  removed_by at r last there last_read =
      let f = fits_read block spans model code s b is low read in let e = f.entries in let m = f.room in let n = length_read block spans model code s b is low read in
      let found : last ≡ get_or block (s.start + (s.len - 1)) r = last_read ∙ any_default block (s.start + (s.len - 1)) last r (omega (arith, e, m, n, there)) in
      ap (λ (t : Span). lists_in (slice_set block (t.start + at) last) (slice_set spans code (record { start = t.start; len = t.len - 1; room = t.room }))) here
      ∙ removed_lists block spans code b (within_lists block spans model code is low) at r last
      (subst (λ (t : Span). at < t.len) here (omega (arith, n, there)))
      (subst (λ (t : Span). last ≡ get_or block (t.start + (t.len - 1)) r) here found)
      ∙ ap (λ (ls : List (List Watch)). slice_set ls code (swap_remove (get_or ls code []) at r)) is

-- two readings of one place
pub one_span : (spans : List Span) (code : ℕ) (s t : Span) → code < length spans → s ≡ get_or spans code s → t ≡ get_or spans code t → t ≡ s
one_span spans code s t within first second = read_span spans code t within second ∙ sym (read_span spans code s within first)

-- a further entry in the room that a list has
pub pushed_in_room : (block : List Watch) (spans : List Span) (model : List (List Watch)) (code : ℕ) (s t : Span) → IsBlock spans (length block) → lists_in block spans ≡ model → code < length model
    → s ≡ get_or spans code s → t ≡ get_or spans code t → (s.len ≡ s.room → ⊥) → (e : Watch)
    → lists_in (slice_set block (s.start + s.len) e) (slice_set spans code (record { start = t.start; len = s.len + 1; room = t.room })) ≡ pushed_at model code e
pushed_in_room block spans model code s t b is low first second other e =
    let within = within_lists block spans model code is low in
    let here : s ≡ span_at spans code = read_span spans code s within first in
    let f = fits_read block spans model code s b is low first in
    let free : s.len < s.room = let h = f.entries in omega (arith, h, other) in
    let room : HasRoom block block (span_at spans code) s = record {
      same_entries = ap (λ (r : Span). entries_in block r) here;
      same_len = ap (λ (r : Span). r.len) here;
      free = free;
      before = f.room;
      place = inl (ap (λ (r : Span). r.start) here, ap (λ (r : Span). r.room) here);
    } in
    ap (λ (r : Span). lists_in (slice_set block (s.start + s.len) e) (slice_set spans code (record { start = r.start; len = s.len + 1; room = r.room }))) (one_span spans code s t within first second)
    ∙ pushed_lists block block spans code s b within ([], sym (append-nil block)) room e
    ∙ ap (λ (ls : List (List Watch)). pushed_at ls code e) is
