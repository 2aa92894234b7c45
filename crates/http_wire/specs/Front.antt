-- Where the head of a message stands in a stream.
--     skipped_bytes s    the CR and LF bytes in front, which are skipped
--     block_length s     through the first line end with an empty line behind it, that line included
--     front s            what stands at the front of a stream
use Rattle.std.specs.Prelude.{ℕ, suc, Bool, ◌&&◌, ◌||◌, ◌==◌, nat_le, List, [], ◌∷◌, Option, Some, None, length, take, drop, slice_index, if◌then◌else◌}
use Rattle.std.specs.List.{prefix_len}
use Rattle.std.specs.Option.{option_or, option_map}
use Rattle.http_wire.specs.declared.limits.TheConstants.{MOST_HEAD_BYTES}
use Rattle.http_wire.specs.declared.front.Front.{Front}
use Rattle.http_wire.specs.declared.front.Front.TheVariants.{End, Bad, Block}
use Rattle.http_wire.specs.declared.refusal.Refusal.TheVariants.{Malformed, LongHead}

-- LF
abbrev pub is_line_feed : ℕ → Bool
is_line_feed b = b == 10

-- CR or LF
abbrev pub is_line_byte : ℕ → Bool
is_line_byte b = b == 13 || is_line_feed b

abbrev pub skipped_bytes : List ℕ → ℕ
skipped_bytes s = prefix_len is_line_byte s

-- the length of the empty line in front, which is LF or CR LF
abbrev pub empty_line : List ℕ → Option ℕ
empty_line s = if slice_index s 0 == 10 then Some 1 else (if slice_index s 0 == 13 && slice_index s 1 == 10 then Some 2 else None)

-- the same behind a byte that ends a line
abbrev pub empty_line_behind : ℕ → List ℕ → Option ℕ
empty_line_behind b s = if is_line_feed b then empty_line s else None

abbrev pub block_length : List ℕ → Option ℕ
block_length [] = None
block_length (b ∷ s) = option_map suc (option_or (empty_line_behind b s) (block_length s))

-- a head that was found, or none: the stream is too long for one, or ends before
abbrev pub block_front : Bool → ℕ → Option ℕ → Front
block_front is_long skipped (Some n) = Block skipped n
block_front is_long skipped None = Bad (if is_long then LongHead else Malformed)

-- the front of the first bytes of a stream, as many as a head may have, where it is so long
abbrev pub front_of : Bool → List ℕ → Front
front_of is_long s =
    if skipped_bytes s == length s
    then (if is_long then Bad LongHead else End)
    else block_front is_long (skipped_bytes s) (block_length (drop (skipped_bytes s) s))

abbrev pub front : List ℕ → Front
front s = front_of (nat_le MOST_HEAD_BYTES (length s)) (take MOST_HEAD_BYTES s)
