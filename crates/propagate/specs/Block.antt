-- Lists that lie in one block, each with room for more entries.
--     lists_in block spans       the lists
--     IsBlock spans end          each list lies in a room of its own, and the rooms before the end of the block
--     HasRoom old new s t        the list in a room where a further entry goes
use Rattle.std.specs.Prelude.{◌≡◌, ◌⊎◌, ℕ, ◌+◌, ◌<◌, ◌≤◌, List, ◌++◌, length, map, take, drop, slice_index_or}
use Rattle.propagate.specs.declared.watch.Watch.{Watch}
use Rattle.propagate.specs.declared.watch_lists.Span.{Span}

-- a list without entries and room
abbrev pub no_span : Span
no_span = record { start = 0; len = 0; room = 0 }

abbrev pub span_at : List Span → ℕ → Span
span_at spans k = slice_index_or spans k no_span

-- the entries of a list
abbrev pub entries_in : List Watch → Span → List Watch
entries_in block s = take s.len (drop s.start block)

abbrev pub lists_in : List Watch → List Span → List (List Watch)
lists_in block spans = map (λ s. entries_in block s) spans

-- a list lies in its room, and the room before the end of the block
pub record Fits (s : Span) (end : ℕ) : Type 0 where
  pub entries : s.len ≤ s.room
  pub room : s.start + s.room ≤ end

-- no place is in both rooms
abbrev pub AreSeparate : Span → Span → Type 0
AreSeparate s t = (s.start + s.room ≤ t.start) ⊎ (t.start + t.room ≤ s.start)

pub record IsBlock (spans : List Span) (end : ℕ) : Type 0 where
  pub fits : (k : ℕ) → Fits (span_at spans k) end
  pub separate : (j k : ℕ) → (j ≡ k → ⊥) → AreSeparate (span_at spans j) (span_at spans k)

-- the block is as it was, or has more behind
abbrev pub IsLonger : List Watch → List Watch → Type 0
IsLonger old new = (more : List Watch) × (new ≡ old ++ more)

pub record HasRoom (old new : List Watch) (s t : Span) : Type 0 where
  pub same_entries : entries_in new t ≡ entries_in old s
  pub same_len : t.len ≡ s.len
  pub free : t.len < t.room
  pub before : t.start + t.room ≤ length new
  -- where it was, or behind all that was there
  pub place : ((t.start ≡ s.start) × (t.room ≡ s.room)) ⊎ (length old ≤ t.start)
