-- What the head of a message comes to.
--     judge parts            the head, or why it is refused
--     ReadsBlock block step  the same of the bytes of a head
use Rattle.std.specs.Prelude.{◌≡◌, ◌≤◌, ◌⊎◌, ⊤, ℕ, ◌-◌, Bool, not, ◌&&◌, ◌||◌, ◌==◌, nat_lt, List, [], length, Result, Ok, Err, codes, MatchBool, count_by, if◌then◌else◌}
use Rattle.std.specs.List.{list_any}
use Rattle.httparse.specs.Grammar.{RequestHead, ReadsRequest}
use Rattle.http_wire.specs.Front.{is_line_feed}
use Rattle.http_wire.specs.Parts.{HeadParts, parts_of}
use Rattle.http_wire.specs.Fields.{values_of, body_length, says_close, is_continue, one_caller}
use Rattle.pb_base.specs.declared.limits.TheConstants.{MOST_TEXT_BYTES}
use Rattle.http_wire.specs.declared.limits.TheConstants.{MOST_FIELD_LINES}
use Rattle.http_wire.specs.declared.head.Head.{Head as Kept}
use Rattle.http_wire.specs.declared.head.HeadStep.{HeadStep}
use Rattle.http_wire.specs.declared.head.HeadStep.TheVariants.{Head, End, Bad}
use Rattle.http_wire.specs.declared.refusal.Refusal.{Refusal}
use Rattle.http_wire.specs.declared.refusal.Refusal.TheVariants.{Malformed, LongHead, Coded}

-- HTTP/1.1 asks for just one Host field
abbrev pub lacks_host : HeadParts → Bool
lacks_host p = p.minor == 1 && not (length (values_of (codes "Host") p.fields) == 1)

abbrev pub is_coded : HeadParts → Bool
is_coded p = nat_lt 0 (length (values_of (codes "Transfer-Encoding") p.fields))

-- the connection closes after HTTP/1.0, and where a Connection field asks for it
abbrev pub closes : HeadParts → Bool
closes p = p.minor == 0 || list_any says_close (values_of (codes "Connection") p.fields)

-- with HTTP/1.1 an Expect field may ask for 100 Continue before a body is sent
abbrev pub expects : HeadParts → ℕ → Bool
expects p len = p.minor == 1 && nat_lt 0 len && list_any is_continue (values_of (codes "Expect") p.fields)

abbrev pub kept_of : HeadParts → ℕ → Kept
kept_of p len = record {
  method = p.method;
  target = p.target;
  version = p.minor;
  close = closes p;
  length = len;
  expects = expects p len;
  caller = one_caller (values_of (codes "X-Caller") p.fields);
}

abbrev pub with_length : HeadParts → Result ℕ Refusal → HeadStep
with_length p (Ok len) = Head (kept_of p len)
with_length p (Err refusal) = Bad refusal

abbrev pub judge : HeadParts → HeadStep
judge p =
    if lacks_host p then Bad Malformed
    else (if is_coded p then Bad Coded else with_length p (body_length (values_of (codes "Content-Length") p.fields)))

-- the lines between the request line and the empty line
abbrev pub field_lines : List ℕ → ℕ
field_lines block = count_by is_line_feed block - 2

-- the block is no head of the grammar
abbrev pub IsNoHead : List ℕ → Type 0
IsNoHead block = (h : RequestHead) → ¬ (ReadsRequest block h [])

abbrev pub ReadsLines : List ℕ → HeadStep → Type 0
ReadsLines block step = ((h : RequestHead) × ReadsRequest block h [] × (step ≡ judge (parts_of h))) ⊎ (IsNoHead block × (step ≡ Bad Malformed))

abbrev pub ReadsBlock : List ℕ → HeadStep → Type 0
ReadsBlock block step = MatchBool (nat_lt MOST_FIELD_LINES (field_lines block)) (step ≡ Bad LongHead) (ReadsLines block step)

-- a body that is read has at most as many bytes as a text may have
abbrev pub HasSmallBody : HeadStep → Type 0
HasSmallBody (Head head) = head.length ≤ MOST_TEXT_BYTES
HasSmallBody End = ⊤
HasSmallBody (Bad refusal) = ⊤
