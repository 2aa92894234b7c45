-- What is so after a gate in doubt was written again, and in each part of a put.
use Rattle.std.proofs.Common.{◌≡◌, inl, inr, ℕ, ◌+◌, ◌≤◌, Bool, true, false, List, [], ◌∷◌, ◌++◌, length, drop, Some, sym, ap, ◌∙◌, append_assoc, arith, length-append}
use Rattle.keeper.specs.Rows.{bare}
use Rattle.journal_keeper.specs.declared.stage.Stage.TheVariants.{Open}
use Rattle.disk.specs.Disk.{overwritten, Torn, Overwrites, AfterStep, Follows}
use Rattle.journal_keeper.specs.Record.{Entry, effect}
use Rattle.journal_keeper.specs.Journal.{after, IsRecord}
use Rattle.journal_keeper.specs.Stage.{seen_by, doubted_by, StillStands, StandsOrGrew}
use Rattle.journal_keeper.specs.Sound.{IsFront, IsClosed, IsInDoubt, IsOpen, IsMade}
use Rattle.journal_keeper.proofs.Fronts.{front_more, after_more, kept_closed, kept_in_doubt}
use Rattle.journal_keeper.proofs.Stages.{seen_front, doubted_entry, open_seen, open_stands}
use Rattle.journal_keeper.proofs.Writes.{long, torn_gate, torn_tail, written_gate, written_tail}

-- the gate stands in the file
pub gate_within : (gate : ℕ) (in_doubt : Bool) (file : List ℕ) (leaves : List ℕ → Type 0) → IsOpen gate in_doubt file leaves → gate + 1 ≤ length file
gate_within gate false file leaves o = omega (arith, long o.front o.ends.here.gate o.ends.here.rest file gate o.place o.ends.here.file_is)
gate_within gate true file leaves o = omega (arith, long o.front o.ends.here.gate (o.ends.bytes ++ 0 ∷ o.ends.here.rest) file gate o.place o.ends.here.file_is)

-- ---- a gate in doubt

doubt_torn : (front bytes file image : List ℕ) (at : ℕ) → at ≡ length front → IsInDoubt front bytes file → Torn at 1 file image → IsInDoubt front bytes image
doubt_torn front bytes file image at place doubt torn =
    let t = torn_gate front doubt.gate (bytes ++ 0 ∷ doubt.rest) file at place doubt.file_is image torn in
    record { gate = t.0; rest = doubt.rest; file_is = t.1 }

module _ (gate : ℕ) (file : List ℕ) (leaves : List ℕ → Type 0) (o : IsOpen gate true file leaves) where
  -- the write failed
  pub still_doubted : (file' : List ℕ) (leaves' : List ℕ → Type 0) → Torn gate 1 file file' → Follows (Torn gate 1) leaves leaves' → IsOpen gate true file' leaves'
  still_doubted file' leaves' torn follows = record {
    front = o.front;
    entries = o.entries;
    is_front = o.is_front;
    place = o.place;
    ends = record {
      bytes = o.ends.bytes;
      entry = o.ends.entry;
      is_record = o.ends.is_record;
      here = doubt_torn o.front o.ends.bytes file file' gate o.place o.ends.here torn;
      each = λ image left.
          let from = follows image left in
          doubt_torn o.front o.ends.bytes from.0 image gate o.place (o.ends.each from.0 from.1) from.2;
    };
  }

  -- it was made
  shut_from : (old new : List ℕ) → IsInDoubt o.front o.ends.bytes old → Overwrites gate (0 ∷ []) old new → IsClosed o.front new
  shut_from old new doubt over =
      let behind = o.ends.bytes ++ 0 ∷ doubt.rest in
      record {
        gate = 0;
        rest = behind;
        shut = λ e. absurd cc;
        file_is = over (omega (arith, long o.front doubt.gate behind old gate o.place doubt.file_is)) ∙ written_gate o.front doubt.gate behind old gate o.place doubt.file_is 0;
      }

  pub shut_again : (file' : List ℕ) (leaves' : List ℕ → Type 0) → file' ≡ overwritten gate (0 ∷ []) file → Follows (Overwrites gate (0 ∷ [])) leaves leaves' → IsOpen gate false file' leaves'
  shut_again file' leaves' is durable = record {
    front = o.front;
    entries = o.entries;
    is_front = o.is_front;
    place = o.place;
    ends = record {
      here = shut_from file file' o.ends.here (λ within. is);
      each = λ image left.
          let from = durable image left in
          shut_from from.0 image (o.ends.each from.0 from.1) from.2;
    };
  }

  same_seen : (in_doubt : Bool) (file' : List ℕ) (rest : List ℕ) → file' ≡ o.front ++ rest → seen_by (Open gate in_doubt) file' ≡ seen_by (Open gate true) file
  same_seen in_doubt file' rest is = seen_front gate in_doubt o.front rest o.entries file' o.is_front o.place is ∙ sym (open_seen gate true file leaves o)

  pub seen_still : (file' : List ℕ) → Torn gate 1 file file' → seen_by (Open gate true) file' ≡ seen_by (Open gate true) file
  seen_still file' torn = let d = doubt_torn o.front o.ends.bytes file file' gate o.place o.ends.here torn in same_seen true file' _ d.file_is

  pub seen_again : (file' : List ℕ) → file' ≡ overwritten gate (0 ∷ []) file → seen_by (Open gate false) file' ≡ seen_by (Open gate true) file
  seen_again file' is =
      same_seen false file' _ (is ∙ written_gate o.front o.ends.here.gate (o.ends.bytes ++ 0 ∷ o.ends.here.rest) file gate o.place o.ends.here.file_is 0)

  -- the record behind the gate stays
  pub doubt_still : (file' : List ℕ) → Torn gate 1 file file' → doubted_by (Open gate true) file' ≡ doubted_by (Open gate true) file
  doubt_still file' torn =
      doubted_entry gate o.front o.ends.bytes o.ends.entry file' o.place o.ends.is_record (doubt_torn o.front o.ends.bytes file file' gate o.place o.ends.here torn)
      ∙ sym (doubted_entry gate o.front o.ends.bytes o.ends.entry file o.place o.ends.is_record o.ends.here)

  -- what a stop leaves in the write
  pub doubted_step : (image : List ℕ) → AfterStep (Torn gate 1) leaves image → StillStands (Open gate true) file image
  doubted_step image from =
      let kept : IsOpen gate true file (λ later. IsInDoubt o.front o.ends.bytes later) = record {
        front = o.front;
        entries = o.entries;
        is_front = o.is_front;
        place = o.place;
        ends = record { bytes = o.ends.bytes; entry = o.ends.entry; is_record = o.ends.is_record; here = o.ends.here; each = λ later is. is };
      } in
      open_stands gate true file (λ later. IsInDoubt o.front o.ends.bytes later) kept image
      (doubt_torn o.front o.ends.bytes from.0 image gate o.place (o.ends.each from.0 from.1) from.2)

-- ---- the first write of a put: behind the closed gate

module _ (gate n : ℕ) (file : List ℕ) (leaves : List ℕ → Type 0) (o : IsOpen gate false file leaves) where
  closed_torn : (old image : List ℕ) → IsClosed o.front old → Torn (gate + 1) n old image → IsClosed o.front image
  closed_torn old image closed torn =
      let t = torn_tail o.front closed.gate closed.rest old gate o.place closed.file_is n image torn in
      record { gate = closed.gate; rest = t.0; shut = closed.shut; file_is = t.1 }

  pub still_shut : (file' : List ℕ) (leaves' : List ℕ → Type 0) → Torn (gate + 1) n file file' → Follows (Torn (gate + 1) n) leaves leaves' → IsOpen gate false file' leaves'
  still_shut file' leaves' torn follows = record {
    front = o.front;
    entries = o.entries;
    is_front = o.is_front;
    place = o.place;
    ends = record {
      here = closed_torn file file' o.ends.here torn;
      each = λ image left. let from = follows image left in closed_torn from.0 image (o.ends.each from.0 from.1) from.2;
    };
  }

  pub seen_shut : (file' : List ℕ) → Torn (gate + 1) n file file' → seen_by (Open gate false) file' ≡ seen_by (Open gate false) file
  seen_shut file' torn =
      seen_front gate false o.front _ o.entries file' o.is_front o.place (closed_torn file file' o.ends.here torn).file_is ∙ sym (open_seen gate false file leaves o)

  pub shut_step : (image : List ℕ) → AfterStep (Torn (gate + 1) n) leaves image → StillStands (Open gate false) file image
  shut_step image from =
      inl (kept_closed o.front o.entries image o.is_front (closed_torn from.0 image (o.ends.each from.0 from.1) from.2) ∙ sym (open_seen gate false file leaves o))

-- ---- the second write of a put: the gate, with the record behind it on the disk

pub record IsStaged (gate : ℕ) (entry : Entry) (bytes old file : List ℕ) (leaves : List ℕ → Type 0) : Type 0 where
  pub front : List ℕ
  pub entries : List Entry
  pub is_front : IsFront front entries
  pub place : gate ≡ length front
  pub was : seen_by (Open gate false) old ≡ after entries (bare 2)
  pub line : List ℕ
  pub made : bytes ≡ line ++ 0 ∷ []
  pub is_record : IsRecord line entry
  pub here : IsInDoubt front line file
  pub each : (image : List ℕ) → leaves image → IsInDoubt front line image

-- the record, behind a gate that was closed
staged_from : (front line bytes old new : List ℕ) (gate : ℕ) → gate ≡ length front → bytes ≡ line ++ 0 ∷ [] → IsClosed front old → Overwrites (gate + 1) bytes old new → IsInDoubt front line new
staged_from front line bytes old new gate place made closed over = record {
  gate = closed.gate;
  rest = drop (length bytes) closed.rest;
  file_is =
      over (omega (arith, long front closed.gate closed.rest old gate place closed.file_is))
      ∙ written_tail front closed.gate closed.rest old gate place closed.file_is bytes
      ∙ ap (λ l. front ++ closed.gate ∷ (l ++ drop (length bytes) closed.rest)) made
      ∙ ap (λ l. front ++ closed.gate ∷ l) (append_assoc line (0 ∷ []) (drop (length bytes) closed.rest));
}

pub staged : (gate : ℕ) (entry : Entry) (bytes old file : List ℕ) (before leaves : List ℕ → Type 0) → IsOpen gate false old before → IsMade bytes entry
    → file ≡ overwritten (gate + 1) bytes old → Follows (Overwrites (gate + 1) bytes) before leaves → IsStaged gate entry bytes old file leaves
staged gate entry bytes old file before leaves o made is durable = record {
  front = o.front;
  entries = o.entries;
  is_front = o.is_front;
  place = o.place;
  was = open_seen gate false old before o;
  line = made.front;
  made = made.bytes_are;
  is_record = made.is_record;
  here = staged_from o.front made.front bytes old file gate o.place made.bytes_are o.ends.here (λ within. is);
  each = λ image left.
      let from = durable image left in
      staged_from o.front made.front bytes from.0 image gate o.place made.bytes_are (o.ends.each from.0 from.1) from.2;
}

module _ (gate : ℕ) (entry : Entry) (bytes old file : List ℕ) (leaves : List ℕ → Type 0) (s : IsStaged gate entry bytes old file leaves) where
  staged_torn : (image : List ℕ) → Torn gate 1 file image → IsInDoubt s.front s.line image
  staged_torn image torn = doubt_torn s.front s.line file image gate s.place s.here torn

  pub staged_within : gate ≤ length file
  staged_within = omega (arith, long s.front s.here.gate (s.line ++ 0 ∷ s.here.rest) file gate s.place s.here.file_is)

  after_torn : (image : List ℕ) → AfterStep (Torn gate 1) leaves image → IsInDoubt s.front s.line image
  after_torn image from = doubt_torn s.front s.line from.0 image gate s.place (s.each from.0 from.1) from.2

  pub staged_step : (image : List ℕ) → AfterStep (Torn gate 1) leaves image → StandsOrGrew entry (Open gate false) old image
  staged_step image from = elim (kept_in_doubt s.front s.line s.entries entry image s.is_front s.is_record (after_torn image from)) [
    | inl kept ↦ inl (inl (kept ∙ sym s.was))
    | inr grown ↦ inr (grown ∙ sym (ap (effect entry) s.was))
  ]

  -- the gate may be open
  pub now_doubted : (file' : List ℕ) (leaves' : List ℕ → Type 0) → Torn gate 1 file file' → Follows (Torn gate 1) leaves leaves' → IsOpen gate true file' leaves'
  now_doubted file' leaves' torn follows = record {
    front = s.front;
    entries = s.entries;
    is_front = s.is_front;
    place = s.place;
    ends = record { bytes = s.line; entry = entry; is_record = s.is_record; here = staged_torn file' torn; each = λ image left. after_torn image (follows image left) };
  }

  pub seen_doubted : (file' : List ℕ) → Torn gate 1 file file' → seen_by (Open gate true) file' ≡ seen_by (Open gate false) old
  seen_doubted file' torn = seen_front gate true s.front _ s.entries file' s.is_front s.place (staged_torn file' torn).file_is ∙ sym s.was

  pub doubt_own : (file' : List ℕ) → Torn gate 1 file file' → doubted_by (Open gate true) file' ≡ Some entry
  doubt_own file' torn = doubted_entry gate s.front s.line entry file' s.place s.is_record (staged_torn file' torn)

  next_place : gate + length bytes ≡ length (s.front ++ 1 ∷ s.line)
  next_place = omega (arith, s.place, ap length s.made, length-append s.line (0 ∷ []), length-append s.front (1 ∷ s.line))

  opened_is : (was now : List ℕ) (doubt : IsInDoubt s.front s.line was) → Overwrites gate (1 ∷ []) was now → now ≡ (s.front ++ 1 ∷ s.line) ++ 0 ∷ doubt.rest
  opened_is was now doubt over =
      let behind = s.line ++ 0 ∷ doubt.rest in
      over (omega (arith, long s.front doubt.gate behind was gate s.place doubt.file_is))
      ∙ written_gate s.front doubt.gate behind was gate s.place doubt.file_is 1 ∙ sym (append_assoc s.front (1 ∷ s.line) (0 ∷ doubt.rest))

  opened_from : (was now : List ℕ) → IsInDoubt s.front s.line was → Overwrites gate (1 ∷ []) was now → IsClosed (s.front ++ 1 ∷ s.line) now
  opened_from was now doubt over = record { gate = 0; rest = doubt.rest; shut = λ e. absurd cc; file_is = opened_is was now doubt over }

  -- the gate is open, and the next one ends the journal
  pub now_open : (file' : List ℕ) (leaves' : List ℕ → Type 0) → file' ≡ overwritten gate (1 ∷ []) file → Follows (Overwrites gate (1 ∷ [])) leaves leaves'
      → IsOpen (gate + length bytes) false file' leaves'
  now_open file' leaves' is durable = record {
    front = s.front ++ 1 ∷ s.line;
    entries = s.entries ++ entry ∷ [];
    is_front = front_more s.front s.line s.entries entry s.is_front s.is_record;
    place = next_place;
    ends = record {
      here = opened_from file file' s.here (λ within. is);
      each = λ image left.
          let from = durable image left in
          opened_from from.0 image (s.each from.0 from.1) from.2;
    };
  }

  pub seen_grown : (file' : List ℕ) → file' ≡ overwritten gate (1 ∷ []) file → seen_by (Open (gate + length bytes) false) file' ≡ effect entry (seen_by (Open gate false) old)
  seen_grown file' is =
      seen_front (gate + length bytes) false (s.front ++ 1 ∷ s.line) (0 ∷ s.here.rest) (s.entries ++ entry ∷ []) file'
      (front_more s.front s.line s.entries entry s.is_front s.is_record) next_place (opened_is file file' s.here (λ within. is))
      ∙ after_more s.entries entry (bare 2) ∙ sym (ap (effect entry) s.was)
