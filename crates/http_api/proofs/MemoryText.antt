-- The bytes of the response of want of memory.
use Rattle.std.proofs.Common.{◌≡◌, ℕ, Bool, true, false, List, codes, refl}
use Rattle.std.specs.Fmt.{digits}
use Rattle.desk_words.specs.declared.reply.Reply.TheVariants.{Memory}
use Rattle.http_api.specs.Response.{response_of}

abbrev pub memory_text : Bool → Bool → List ℕ
memory_text true true = codes "HTTP/1.1 500 Internal Server Error\r\nContent-Type: text/plain\r\nContent-Length: 15\r\nConnection: close\r\n\r\n"
memory_text true false = codes "HTTP/1.1 500 Internal Server Error\r\nContent-Type: text/plain\r\nContent-Length: 15\r\nConnection: close\r\n\r\nwant of memory\n"
memory_text false true = codes "HTTP/1.1 500 Internal Server Error\r\nContent-Type: text/plain\r\nContent-Length: 15\r\n\r\n"
memory_text false false = codes "HTTP/1.1 500 Internal Server Error\r\nContent-Type: text/plain\r\nContent-Length: 15\r\n\r\nwant of memory\n"

pub is_memory_response : (close bare : Bool) → memory_text close bare ≡ response_of Memory close bare
unfolding digits
is_memory_response true true = refl
is_memory_response true false = refl
is_memory_response false true = refl
is_memory_response false false = refl
