-- The items of a stream.
--     ReadsHead step s rest         what comes next where a message may begin, and what is behind it
--     ReadsBody head step s rest    what comes behind a head
--     Items s messages last         the stream is these messages, and then it stops like this
use Rattle.std.specs.Prelude.{◌≡◌, ℕ, ◌+◌, ◌<◌, ◌≤◌, List, [], ◌∷◌, length, take, drop, MatchBool, ⊤}
use Rattle.http_wire.specs.Front.{front}
use Rattle.http_wire.specs.Reading.{ReadsBlock}
use Rattle.http_wire.specs.declared.front.Front.{Front}
use Rattle.http_wire.specs.declared.front.Front.TheVariants.{End as NoMore, Bad as NoHead, Block}
use Rattle.http_wire.specs.declared.head.Head.{Head as Kept}
use Rattle.http_wire.specs.declared.head.HeadStep.{HeadStep}
use Rattle.http_wire.specs.declared.head.HeadStep.TheVariants.{Head, End, Bad}
use Rattle.http_wire.specs.declared.message.Message.{Message as Whole}
use Rattle.http_wire.specs.declared.refusal.Refusal.{Refusal}
use Rattle.http_wire.specs.declared.message.BodyStep.{BodyStep}
use Rattle.http_wire.specs.declared.message.BodyStep.TheVariants.{Message, Cut}

-- what is behind a head; what is refused stays
abbrev pub behind : HeadStep → ℕ → List ℕ → List ℕ
behind (Head head) n s = drop n s
behind End n s = s
behind (Bad refusal) n s = s

abbrev pub ReadsFront : Front → HeadStep → List ℕ → List ℕ → Type 0
ReadsFront NoMore step s rest = (step ≡ End) × (rest ≡ [])
ReadsFront (NoHead refusal) step s rest = (step ≡ Bad refusal) × (rest ≡ s)
ReadsFront (Block skipped n) step s rest = ReadsBlock (take n (drop skipped s)) step × (rest ≡ behind step (skipped + n) s)

abbrev pub ReadsHead : HeadStep → List ℕ → List ℕ → Type 0
ReadsHead step s rest = ReadsFront (front s) step s rest

-- the body is the next bytes
abbrev pub HasBody : Whole → List ℕ → Type 0
HasBody m s = (m.head.length ≤ length s) × (m.body ≡ take m.head.length s)

abbrev pub ReadsBody : Kept → BodyStep → List ℕ → List ℕ → Type 0
ReadsBody head (Message m) s rest = (m.head ≡ head) × HasBody m s × (rest ≡ drop head.length s)
ReadsBody head Cut s rest = (length s < head.length) × (rest ≡ [])

-- whatever is told, a body has the length that its head gives
abbrev pub IsWhole : Kept → BodyStep → Type 0
IsWhole head (Message m) = (m.head ≡ head) × (length m.body ≡ head.length)
IsWhole head Cut = ⊤

-- how a stream stops: at its end, at what is refused, inside a body, or behind a message that closes
pub data Last : Type 0 where
  ended : Last
  refused : Refusal → Last
  cut : Kept → Last
  closed : Last

abbrev pub Stops : List ℕ → Last → Type 0
Stops s ended = ReadsHead End s []
Stops s (refused refusal) = ReadsHead (Bad refusal) s s
Stops s (cut head) = (rest : List ℕ) × ReadsHead (Head head) s rest × (length rest < head.length)
Stops s closed = ⊥

abbrev pub Items : List ℕ → List Whole → Last → Type 0
Items s [] last = Stops s last
Items s (m ∷ messages) last =
    (rest : List ℕ) × ReadsHead (Head m.head) s rest × HasBody m rest
    × MatchBool m.head.close ((messages ≡ []) × (last ≡ closed)) (Items (drop m.head.length rest) messages last)
