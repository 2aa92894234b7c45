-- A record reads as the same whatever stands behind it, and what was written is read again.
use Rattle.std.proofs.Common.{◌≡◌, ℕ, suc, ◌+◌, ◌≤◌, Bool, true, false, cond, leb, List, [], ◌∷◌, ◌++◌, length, take, drop, Option, Some, None, refl, sym, ap, subst, ◌∙◌, arith}
use Rattle.std.specs.Int.{w32, from_be_bytes}
use Rattle.std.proofs.lemmas.Bool.{leb-true, le-leb}
use Rattle.std.proofs.lemmas.List.{take_at, drop_at, length-take-le, length-append}
use Rattle.journal_keeper.specs.Record.{Entry, ◌>>=◌, text_in, entry_in, record_in}
use Rattle.journal_keeper.specs.Journal.{IsRecord}

-- a step that gave something
pub bind_some : {A B : Type 0} (o : Option A) (f : A → Option B) (y : B) → (o >>= f) ≡ Some y → (x : A) × (o ≡ Some x) × (f x ≡ Some y)
bind_some None f y e = absurd cc
bind_some (Some x) f y e = (x, refl, e)

-- a test that was passed
guard : {A : Type 0} (b : Bool) (x y : A) → cond b (Some x) None ≡ Some y → (b ≡ true) × (x ≡ y)
guard true x y e = (refl, cc)
guard false x y e = absurd cc

-- the text at the front of the bytes, whatever stands behind it
pub record IsFrontText (bytes text rest : List ℕ) : Type 0 where
  pub within : 4 + length text ≤ length bytes
  pub rest_is : rest ≡ drop (4 + length text) bytes
  pub same : (after : List ℕ) → text_in (take (4 + length text) bytes ++ after) ≡ Some (text, after)

-- four bytes more
take_four : (a b c d n : ℕ) (more : List ℕ) → take (4 + n) (a ∷ b ∷ c ∷ d ∷ more) ≡ a ∷ b ∷ c ∷ d ∷ take n more
take_four a b c d n more = let e : 4 + n ≡ suc (suc (suc (suc n))) = omega arith in rw e refl

drop_four : (a b c d n : ℕ) (more : List ℕ) → drop (4 + n) (a ∷ b ∷ c ∷ d ∷ more) ≡ drop n more
drop_four a b c d n more = let e : 4 + n ≡ suc (suc (suc (suc n))) = omega arith in rw e refl

-- a text of this length is taken off the front
abbrev cut : ℕ → List ℕ → Option (List ℕ × List ℕ)
cut long bytes = cond (leb long (length bytes)) (Some (take long bytes, drop long bytes)) None

pub cut_at : (long : ℕ) (text after : List ℕ) → long ≡ length text → cut long (text ++ after) ≡ Some (text, after)
cut_at long text after is =
    let fits : leb long (length (text ++ after)) ≡ true = le-leb _ _ (omega (arith, length-append text after)) in
    rw (fits, take_at text after long (sym is), drop_at text after long (sym is)) refl

pub front_text : (bytes text rest : List ℕ) → text_in bytes ≡ Some (text, rest) → IsFrontText bytes text rest
front_text [] text rest e = absurd cc
front_text (a ∷ []) text rest e = absurd cc
front_text (a ∷ b ∷ []) text rest e = absurd cc
front_text (a ∷ b ∷ c ∷ []) text rest e = absurd cc
front_text (a ∷ b ∷ c ∷ d ∷ more) text rest e =
    let long = from_be_bytes w32 (a ∷ b ∷ c ∷ d ∷ []) in
    let g = guard (leb long (length more)) (take long more, drop long more) (text, rest) e in
    let fits = leb-true long (length more) g.0 in
    let text_is : take long more ≡ text = ap (λ (p : List ℕ × List ℕ). p.0) g.1 in
    let rest_is : drop long more ≡ rest = ap (λ (p : List ℕ × List ℕ). p.1) g.1 in
    let long_is : long ≡ length text = sym (length-take-le long more fits) ∙ ap length text_is in
    record {
      within = omega (arith, fits, long_is);
      rest_is = sym rest_is ∙ ap (λ n. drop n more) long_is ∙ sym (drop_four a b c d (length text) more);
      same = λ after.
          ap (λ l. text_in (l ++ after)) (take_four a b c d (length text) more ∙ ap (λ l. a ∷ b ∷ c ∷ d ∷ l) (ap (λ n. take n more) (sym long_is) ∙ text_is))
          ∙ cut_at long text after long_is;
    }

-- the record at the front of the bytes takes so many of them, and reads as the same whatever stands behind it
some_is : {A : Type 0} (x y : A) → Some x ≡ Some y → x ≡ y
some_is x y e = cc

take_five : (kind n : ℕ) (rest : List ℕ) → take (5 + n) (kind ∷ rest) ≡ kind ∷ take (4 + n) rest
take_five kind n rest = let e : 5 + n ≡ suc (4 + n) = omega arith in rw e refl

drop_five : (kind n : ℕ) (rest : List ℕ) → drop (5 + n) (kind ∷ rest) ≡ drop (4 + n) rest
drop_five kind n rest = let e : 5 + n ≡ suc (4 + n) = omega arith in rw e refl

-- a record that was read takes so many bytes, which read as the same whatever stands behind them
front_of : (kind : ℕ) (rest text behind : List ℕ) (entry : Entry) → text_in rest ≡ Some (text, behind) → entry_in kind text ≡ Some entry
    → IsRecord (take (5 + length text) (kind ∷ rest)) entry × (5 + length text ≤ length (kind ∷ rest))
unfolding record_in
front_of kind rest text behind entry is_text is_entry =
    let t = front_text rest text behind is_text in
    let within : 5 + length text ≤ length (kind ∷ rest) = omega (arith, t.within) in
    let long : length (take (5 + length text) (kind ∷ rest)) ≡ 5 + length text = length-take-le (5 + length text) (kind ∷ rest) within in
    let reads : (after : List ℕ) → record_in (kind ∷ (take (4 + length text) rest ++ after)) ≡ Some (entry, 5 + length text) =
    λ after. rw (t.same after, is_entry) refl in
    (λ after. ap (λ l. record_in (l ++ after)) (take_five kind (length text) rest) ∙ reads after ∙ ap (λ n. Some (entry, n)) (sym long), within)

pub front_record : (bytes : List ℕ) (entry : Entry) (n : ℕ) → record_in bytes ≡ Some (entry, n) → IsRecord (take n bytes) entry × (n ≤ length bytes)
unfolding record_in
front_record [] entry n e = absurd cc
front_record (kind ∷ rest) entry n e =
    let payload = bind_some (text_in rest) (λ payload. entry_in kind payload.0 >>= λ entry. Some (entry, 5 + length payload.0)) (entry, n) e in
    let read = bind_some (entry_in kind payload.0.0) (λ entry. Some (entry, 5 + length payload.0.0)) (entry, n) payload.2 in
    let both : (read.0, 5 + length payload.0.0) ≡ (entry, n) = some_is (read.0, 5 + length payload.0.0) (entry, n) read.2 in
    subst (λ (p : Entry × ℕ). IsRecord (take p.1 (kind ∷ rest)) p.0 × (p.1 ≤ length (kind ∷ rest))) both
    (front_of kind rest payload.0.0 payload.0.1 read.0 payload.1 read.1)

-- what the parts of a record were read as
pub ends_record : (bytes : List ℕ) (kind : ℕ) (rest text behind : List ℕ) (entry : Entry) → bytes ≡ kind ∷ rest → text_in rest ≡ Some (text, behind)
    → entry_in kind text ≡ Some entry → (n : ℕ) × (record_in bytes ≡ Some (entry, n)) × (behind ≡ drop n bytes)
unfolding record_in
ends_record bytes kind rest text behind entry is is_text is_entry = (
  5 + length text,
  ap record_in is ∙ rw (is_text, is_entry) refl,
  (front_text rest text behind is_text).rest_is ∙ sym (ap (drop (5 + length text)) is ∙ drop_five kind (length text) rest),
)
