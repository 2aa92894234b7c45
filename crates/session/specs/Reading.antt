-- How far a session reads its stream.
--     Stop                        where it stops reading
--     ReadsMessage m s rest       m is the next message of the stream, and rest is behind it
--     Reads stop s messages       up to there, these are the messages
use Rattle.std.specs.Prelude.{◌≡◌, ℕ, false, List, [], ◌∷◌, Option, None, Some, drop}
use Rattle.http_wire.specs.Items.{HasBody, Items, Last, ReadsHead}
use Rattle.http_wire.specs.declared.head.Head.{Head as Kept}
use Rattle.http_wire.specs.declared.head.HeadStep.TheVariants.{Head}
use Rattle.http_wire.specs.declared.message.Message.{Message}

-- where the stream itself stops; or where a message may begin, or behind a head, because reading failed, or because there is no
-- memory to read on
pub data Stop : Type 0 where
  whole : Last → Stop
  unread : Option Kept → Stop
  wanting : Option Kept → Stop

pub record ReadsMessage (m : Message) (s rest : List ℕ) : Type 0 where
  pub behind : List ℕ
  pub head : ReadsHead (Head m.head) s behind
  pub body : HasBody m behind
  pub next : rest ≡ drop m.head.length behind

-- the stream begins with these messages, of which none closes, and goes on with this head, if there is one
abbrev pub BeginsWith : List ℕ → List Message → Option Kept → Type 0
BeginsWith s [] None = Unit {0}
BeginsWith s [] (Some head) = (behind : List ℕ) × ReadsHead (Head head) s behind
BeginsWith s (m ∷ messages) head = (rest : List ℕ) × ReadsMessage m s rest × (m.head.close ≡ false) × BeginsWith rest messages head

abbrev pub Reads : Stop → List ℕ → List Message → Type 0
Reads (whole last) s messages = Items s messages last
Reads (unread head) s messages = BeginsWith s messages head
Reads (wanting head) s messages = BeginsWith s messages head
