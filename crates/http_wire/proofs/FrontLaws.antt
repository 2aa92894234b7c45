-- What stands at the front of a stream, as more of it is read.
use Rattle.std.proofs.Common.{◌≡◌, ◌≢◌, ◌<◌, ◌≤◌, ◌+◌, ◌-◌, ◌∙◌, ◌&&◌, ℕ, suc, Bool, true, false, cond, eqb, leb, List, [], ◌∷◌, ◌++◌, length, take, drop, refl, sym, ap, arith, length-append, length-drop, length-take}
use Rattle.std.specs.Prelude.{Option, Some, None}
use Rattle.std.specs.Option.{option_or, option_map}
use Rattle.std.proofs.lemmas.Bool.{eq-eqb, ne_eqb, le-leb, lt-leb}
use Rattle.std.proofs.lemmas.List.{take-append-drop, drop-append-le, take_at, take_all, drop-take}
use Rattle.std.proofs.lemmas.List.Folds.{prefix_len-append}
use Rattle.std.proofs.Math.Seq.{take-append-add}
use Rattle.http_wire.specs.Front.{is_line_feed, is_line_byte, skipped_bytes, empty_line, empty_line_behind, block_length, front_of, front}
use Rattle.http_wire.specs.Search.{IsSearched, IsFront}
use Rattle.http_wire.specs.declared.front.Front.TheVariants.{End, Bad, Block}
use Rattle.http_wire.specs.declared.refusal.Refusal.TheVariants.{Malformed, LongHead}

pub skipped_within : (s : List ℕ) → skipped_bytes s ≤ length s
skipped_within [] = omega arith
skipped_within (b ∷ s) = elim (is_line_byte b) as (λ is_line. cond is_line (1 + skipped_bytes s) 0 ≤ suc (length s)) [ true ↦ (let later = skipped_within s in omega arith) | false ↦ omega arith ]

-- the line ends went on to the end of what was seen
pub skipped_on : (seen : ℕ) (s : List ℕ) → seen ≤ length s → skipped_bytes (take seen s) ≡ seen → skipped_bytes s ≡ seen + skipped_bytes (drop seen s)
skipped_on seen s within all =
    let len : length (take seen s) ≡ seen = length-take seen s ∙ omega arith in
    let whole : eqb (skipped_bytes (take seen s)) (length (take seen s)) ≡ true = eq-eqb _ _ (all ∙ sym len) in
    ap skipped_bytes (sym (take-append-drop seen s)) ∙ prefix_len-append is_line_byte (take seen s) (drop seen s)
    ∙ ap (λ (t : Bool). cond t (length (take seen s) + skipped_bytes (drop seen s)) (skipped_bytes (take seen s))) whole
    ∙ ap (λ (n : ℕ). n + skipped_bytes (drop seen s)) len

-- another byte was seen behind them
pub skipped_stays : (s t : List ℕ) → skipped_bytes s < length s → skipped_bytes (s ++ t) ≡ skipped_bytes s
skipped_stays s t before =
    prefix_len-append is_line_byte s t
    ∙ ap (λ (b : Bool). cond b (length s + skipped_bytes t) (skipped_bytes s)) (ne_eqb (skipped_bytes s) (length s) (λ e. omega arith))

pub skipped_before : (seen : ℕ) (s : List ℕ) → seen ≤ length s → skipped_bytes (take seen s) ≢ seen → skipped_bytes s ≡ skipped_bytes (take seen s)
skipped_before seen s within some =
    let len : length (take seen s) ≡ seen = length-take seen s ∙ omega arith in
    let most : skipped_bytes (take seen s) ≤ length (take seen s) = skipped_within (take seen s) in
    ap skipped_bytes (sym (take-append-drop seen s)) ∙ skipped_stays (take seen s) (drop seen s) (omega (arith, some))

-- an end that was found stays found
empty_line-append : (s t : List ℕ) (n : ℕ) → empty_line s ≡ Some n → empty_line (s ++ t) ≡ Some n
empty_line-append [] t n e = absurd (cc)
empty_line-append (a ∷ []) t n e = lone (eqb a 10) (eqb a 13) _ n e where
  lone : (lf cr after : Bool) (n : ℕ) → cond lf (Some 1) (cond (cr && false) (Some 2) None) ≡ Some n → cond lf (Some 1) (cond (cr && after) (Some 2) None) ≡ Some n
  lone true cr after n e = e
  lone false true after n e = absurd (cc)
  lone false false after n e = absurd (cc)
empty_line-append (a ∷ b ∷ s) t n e = e

empty_line_behind-append : (b : ℕ) (s t : List ℕ) (n : ℕ) → empty_line_behind b s ≡ Some n → empty_line_behind b (s ++ t) ≡ Some n
empty_line_behind-append b s t n e = at (is_line_feed b) e where
  at : (is_end : Bool) → cond is_end (empty_line s) None ≡ Some n → cond is_end (empty_line (s ++ t)) None ≡ Some n
  at true e = empty_line-append s t n e
  at false e = absurd (cc)

-- behind a later end there are the two bytes that show an empty line
empty_line-before_end : (s t : List ℕ) (n : ℕ) → block_length s ≡ Some n → empty_line (s ++ t) ≡ empty_line s
empty_line-before_end [] t n e = absurd (cc)
empty_line-before_end (a ∷ []) t n e = absurd (none (is_line_feed a) e) where
  none : (is_end : Bool) → option_map suc (option_or (cond is_end (empty_line []) None) None) ≡ Some n → ⊥
  none true e = cc
  none false e = cc
empty_line-before_end (a ∷ b ∷ s) t n e = refl

first_of : (here here' later later' : Option ℕ) (n : ℕ) → ((m : ℕ) → here ≡ Some m → here' ≡ Some m)
    → ((m : ℕ) → later ≡ Some m → (later' ≡ Some m) × (here' ≡ here)) → option_map suc (option_or here later) ≡ Some n → option_map suc (option_or here' later') ≡ Some n
first_of (Some k) here' later later' n stays next e = ap (λ (p : Option ℕ). option_map suc (option_or p later')) (stays k refl) ∙ e
first_of None here' (Some k) later' n stays next e =
    let both = next k refl in
    ap (λ (p : Option ℕ). option_map suc (option_or p later')) both.1 ∙ ap (λ (p : Option ℕ). option_map suc p) both.0 ∙ e
first_of None here' None later' n stays next e = absurd (cc)

pub block_length-append : (s t : List ℕ) (n : ℕ) → block_length s ≡ Some n → block_length (s ++ t) ≡ Some n
block_length-append [] t n e = absurd (cc)
block_length-append (b ∷ s) t n e =
    first_of (empty_line_behind b s) (empty_line_behind b (s ++ t)) (block_length s) (block_length (s ++ t)) n
    (λ m here. empty_line_behind-append b s t m here)
    (λ m later. (block_length-append s t m later, ap (λ (p : Option ℕ). cond (is_line_feed b) p None) (empty_line-before_end s t m later)))
    e

not_empty : (s : List ℕ) (n : ℕ) → block_length s ≡ Some n → 0 < length s
not_empty [] n e = absurd (cc)
not_empty (b ∷ s) n e = omega arith

-- the front is known once a head ends in what is held
pub found_front : (held : List ℕ) (skipped n : ℕ) → length held ≤ 16384 → skipped ≡ skipped_bytes held → block_length (drop skipped held) ≡ Some n → IsFront held (Block skipped n)
found_front held skipped n small is_skipped ends more =
    let u : List ℕ = take (16384 - length held) more in
    let room : 16384 ≡ length held + (16384 - length held) = omega arith in
    let window : take 16384 (held ++ more) ≡ held ++ u = ap (λ (k : ℕ). take k (held ++ more)) room ∙ take-append-add held more (16384 - length held) in
    let some : 0 < length (drop skipped held) = not_empty (drop skipped held) n ends in
    let before : skipped_bytes held < length held = omega (arith, length-drop skipped held) in
    let skipped_is : skipped_bytes (held ++ u) ≡ skipped = skipped_stays held u before ∙ sym is_skipped in
    let behind : drop (skipped_bytes (held ++ u)) (held ++ u) ≡ drop skipped held ++ u = ap (λ (k : ℕ). drop k (held ++ u)) skipped_is ∙ drop-append-le skipped held u (omega arith) in
    let length_is : block_length (drop (skipped_bytes (held ++ u)) (held ++ u)) ≡ Some n = ap block_length behind ∙ block_length-append (drop skipped held) u n ends in
    let not_all : eqb (skipped_bytes (held ++ u)) (length (held ++ u)) ≡ false = ne_eqb _ _ (λ e. omega (arith, skipped_is, length-append held u)) in
    ap (λ (w : List ℕ). front_of (leb 16384 (length (held ++ more))) w) window
    ∙ found (leb 16384 (length (held ++ more))) (held ++ u) not_all length_is
    ∙ ap (λ (k : ℕ). Block k n) skipped_is
  where
    found : (is_long : Bool) (w : List ℕ) → eqb (skipped_bytes w) (length w) ≡ false → block_length (drop (skipped_bytes w) w) ≡ Some n → front_of is_long w ≡ Block (skipped_bytes w) n
    found is_long w some ends = rw (some, ends) refl

-- or once there are as many bytes as a head may have
pub full_front : (held : List ℕ) (skipped : ℕ) → length held ≡ 16384 → skipped ≡ skipped_bytes held → block_length (drop skipped held) ≡ None → IsFront held (Bad LongHead)
full_front held skipped full is_skipped no_end more =
    let window : take 16384 (held ++ more) ≡ held = take_at held more 16384 full in
    let is_long : leb 16384 (length (held ++ more)) ≡ true = le-leb 16384 _ (omega (arith, length-append held more)) in
    let none : block_length (drop (skipped_bytes held) held) ≡ None = ap (λ (k : ℕ). block_length (drop k held)) (sym is_skipped) ∙ no_end in
    rw (window, is_long) (refused held none)
  where
    refused : (w : List ℕ) → block_length (drop (skipped_bytes w) w) ≡ None → front_of true w ≡ Bad LongHead
    refused w none = rw none (elim (eqb (skipped_bytes w) (length w)) as (λ (b : Bool). cond b (Bad LongHead) (Bad LongHead) ≡ Bad LongHead) [ true ↦ refl | false ↦ refl ])

-- and at the end of the stream
pub end_front : (held : List ℕ) (skipped : ℕ) → length held < 16384 → skipped ≡ skipped_bytes held → block_length (drop skipped held) ≡ None → front held ≡ cond (eqb skipped (length held)) End (Bad Malformed)
end_front held skipped short is_skipped no_end =
    let window : take 16384 held ≡ held = take_all 16384 held (omega arith) in
    let is_short : leb 16384 (length held) ≡ false = lt-leb 16384 _ short in
    let none : block_length (drop (skipped_bytes held) held) ≡ None = ap (λ (k : ℕ). block_length (drop k held)) (sym is_skipped) ∙ no_end in
    rw (window, is_short) (rw none (ap (λ (k : ℕ). cond (eqb k (length held)) End (Bad Malformed)) (sym is_skipped)))

-- all that is held was searched
pub all_searched : (skipped seen : ℕ) (held : List ℕ) → seen ≡ length held → IsSearched skipped seen held → (skipped ≡ skipped_bytes held) × (block_length (drop skipped held) ≡ None)
all_searched skipped seen held all known =
    let whole : take seen held ≡ held = take_all seen held (omega arith) in
    (known.skipped ∙ ap skipped_bytes whole, ap (λ (s : List ℕ). block_length (drop skipped s)) (sym whole) ∙ known.no_end)

-- where line ends alone were seen, there may be more of them
pub more_skipped : (skipped seen more : ℕ) (held : List ℕ) → IsSearched skipped seen held → seen ≤ skipped → more ≡ skipped_bytes (drop seen held) → skipped + more ≡ skipped_bytes held
more_skipped skipped seen more held known none is_more =
    let len : length (take seen held) ≡ seen = length-take seen held ∙ omega (arith, known.within) in
    let all : skipped_bytes (take seen held) ≡ seen = omega (arith, known.skipped, skipped_within (take seen held)) in
    let joined = skipped_on seen held known.within all in
    omega (arith, joined, known.skipped)

pub no_more_skipped : (skipped seen : ℕ) (held : List ℕ) → IsSearched skipped seen held → skipped < seen → skipped ≡ skipped_bytes held
no_more_skipped skipped seen held known some = known.skipped ∙ sym (skipped_before seen held known.within (λ e. omega (arith, known.skipped)))

-- the bytes behind them that were seen have no end
pub none_seen : (skipped seen : ℕ) (held : List ℕ) → IsSearched skipped seen held → block_length (take (seen - skipped) (drop skipped held)) ≡ None
none_seen skipped seen held known =
    let before : skipped ≤ seen = omega (arith, known.skipped, skipped_within (take seen held), length-take seen held) in
    let same : take (seen - skipped) (drop skipped held) ≡ drop skipped (take seen held) = sym (drop-take skipped (seen - skipped) held) ∙ ap (λ (k : ℕ). drop skipped (take k held)) (omega arith) in
    ap block_length same ∙ known.no_end

-- what is behind the line ends in front begins with none
pub skipped_once : (s : List ℕ) → skipped_bytes (drop (skipped_bytes s) s) ≡ 0
skipped_once [] = refl
skipped_once (b ∷ s) = by_test (is_line_byte b) refl (skipped_once s) where
  by_test : (t : Bool) → is_line_byte b ≡ t → skipped_bytes (drop (skipped_bytes s) s) ≡ 0 → skipped_bytes (drop (skipped_bytes (b ∷ s)) (b ∷ s)) ≡ 0
  by_test true e later =
      let more : 1 + skipped_bytes s ≡ suc (skipped_bytes s) = omega arith in
      ap (λ (n : ℕ). skipped_bytes (drop n (b ∷ s))) (ap (λ (t : Bool). cond t (1 + skipped_bytes s) 0) e ∙ more) ∙ later
  by_test false e later = ap (λ (n : ℕ). skipped_bytes (drop n (b ∷ s))) (ap (λ (t : Bool). cond t (1 + skipped_bytes s) 0) e) ∙ ap (λ (t : Bool). cond t (1 + skipped_bytes s) 0) e
