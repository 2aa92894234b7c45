-- The definitions, evaluated on small streams.
use Rattle.std.proofs.Common.{◌≡◌, ℕ, true, false, List, [], ◌∷◌, ◌++◌, refl}
use Rattle.std.specs.Prelude.{Some, None, Ok, Err, codes}
use Rattle.httparse.specs.Grammar.{trim_ows}
use Rattle.http_wire.specs.declared.front.Front.TheVariants.{End, Bad, Block}
use Rattle.http_wire.specs.declared.head.HeadStep.TheVariants.{Head, Bad as Refused}
use Rattle.http_wire.specs.declared.refusal.Refusal.TheVariants.{Malformed, LongBody, Coded}
use Rattle.http_wire.specs.Front.{block_length, front}
use Rattle.http_wire.specs.Fields.{Field, values_of, body_length, says_close, is_continue, one_caller}
use Rattle.http_wire.specs.Parts.{HeadParts}
use Rattle.http_wire.specs.Reading.{field_lines, kept_of, judge}

abbrev crlf : List ℕ
crlf = 13 ∷ 10 ∷ []

abbrev a_request : List ℕ
a_request = codes "GET /a HTTP/1.1" ++ crlf ++ codes "Host: x" ++ crlf ++ crlf

-- the line ends in front are skipped, and the block goes through the empty line
behind_a_line_end : front (crlf ++ a_request ++ codes "GET") ≡ Block 2 28
behind_a_line_end = refl

nothing : front [] ≡ End
nothing = refl

line_ends_alone : front (crlf ++ crlf) ≡ End
line_ends_alone = refl

cut_short : front (codes "GET /a") ≡ Bad Malformed
cut_short = refl

-- an empty line is LF or CR LF, behind any LF
bare_line_feeds : block_length (codes "a" ++ 10 ∷ 10 ∷ []) ≡ Some 3
bare_line_feeds = refl

mixed_line_ends : block_length (codes "a" ++ 10 ∷ 13 ∷ 10 ∷ []) ≡ Some 4
mixed_line_ends = refl

no_empty_line : block_length (codes "a" ++ crlf ++ codes "b" ++ crlf) ≡ None
no_empty_line = refl

one_field : field_lines a_request ≡ 1
one_field = refl

-- the fields of a name, in any case
abbrev some_fields : List Field
some_fields = (codes "Host", codes "x") ∷ (codes "X-Caller", codes "K1") ∷ (codes "hOST", codes "y") ∷ []

two_hosts : values_of (codes "host") some_fields ≡ codes "x" ∷ codes "y" ∷ []
two_hosts = refl

-- the length of the body
no_body : body_length [] ≡ Ok 0
no_body = refl

five_bytes : body_length (codes "005" ∷ []) ≡ Ok 5
five_bytes = refl

too_many_bytes : body_length (codes "1048577" ∷ []) ≡ Err LongBody
too_many_bytes = refl

a_sign : body_length (codes "+5" ∷ []) ≡ Err Malformed
a_sign = refl

no_digits : body_length ([] ∷ []) ≡ Err Malformed
no_digits = refl

two_lengths : body_length (codes "5" ∷ codes "5" ∷ []) ≡ Err Malformed
two_lengths = refl

-- words and names
asks_to_close : says_close (codes "keep-alive, Close") ≡ true
unfolding trim_ows
asks_to_close = refl

asks_no_such_thing : says_close (codes "closed") ≡ false
unfolding trim_ows
asks_no_such_thing = refl

waits : is_continue (codes "100-Continue") ≡ true
waits = refl

a_caller : one_caller (codes "K1" ∷ []) ≡ Some (codes "K1")
a_caller = refl

no_name : one_caller (codes "k1" ∷ []) ≡ None
no_name = refl

two_callers : one_caller (codes "K1" ∷ codes "K1" ∷ []) ≡ None
two_callers = refl

-- what heads come to
abbrev parts_with : ℕ → List Field → HeadParts
parts_with minor fields = record { method = codes "PUT"; target = codes "/a"; minor = minor; fields = fields }

without_host : judge (parts_with 1 []) ≡ Refused Malformed
without_host = refl

before_hosts : judge (parts_with 0 []) ≡ Head (kept_of (parts_with 0 []) 0)
before_hosts = refl

with_two_hosts : judge (parts_with 1 some_fields) ≡ Refused Malformed
with_two_hosts = refl

in_chunks : judge (parts_with 0 ((codes "Transfer-Encoding", codes "chunked") ∷ [])) ≡ Refused Coded
in_chunks = refl

with_a_body : judge (parts_with 0 ((codes "Content-Length", codes "7") ∷ [])) ≡ Head record { method = codes "PUT"; target = codes "/a"; version = 0; close = true; length = 7; expects = false; caller = None }
with_a_body = refl
