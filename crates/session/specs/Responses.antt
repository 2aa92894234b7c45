-- What the messages of a stream are answered.
--     Asks m asked                   what a message asks for: the call at the route of its path, or why there is none
--     AnswersMessage m h text new    this is the response to one message, and its call has led the holder from h to new
--     AnswersAll messages h out new  the same of many, in their order
--     IsLast stop text              what is written where a session stops reading, behind all responses
use Rattle.std.specs.Prelude.{◌≡◌, ◌⊎◌, ℕ, Bool, true, false, List, [], ◌∷◌, ◌++◌, Option, None, Some, Result, Ok, Err, codes, if◌then◌else◌}
use Rattle.std.specs.Str.{bytes_eq}
use Rattle.desk_words.specs.declared.call.Call.{Call}
use Rattle.desk_words.specs.declared.reply.Reply.{Reply}
use Rattle.desk_words.specs.declared.reply.Reply.TheVariants.{Memory}
use Rattle.http_wire.specs.Items.{ended, refused, cut, closed}
use Rattle.http_wire.specs.declared.head.Head.{Head}
use Rattle.http_wire.specs.declared.message.Message.{Message}
use Rattle.http_api.specs.Call.{LeadsNowhere, call_at}
use Rattle.http_api.specs.Path.{path_of}
use Rattle.http_api.specs.Response.{IsDeniedResponse, bad_response, response_of}
use Rattle.http_api.specs.Route.{Leads}
use Rattle.http_api.specs.declared.denied.Denied.{Denied}
use Rattle.http_api.specs.declared.denied.Denied.TheVariants.{NoPath}
use Rattle.http_api.specs.declared.route.Route.{Route}
use Rattle.answering.specs.Answers.{Answers}
use Rattle.answering.specs.Hand.{Hand}
use Rattle.session.specs.Reading.{Stop, whole, unread, wanting}

-- ---- one message

pub record Asks (m : Message) (asked : Result Call Denied) : Type 0 where
  pub routed : (route : Route) → Leads (path_of m.head.target) route → call_at route m ≡ asked
  pub lost : LeadsNowhere (path_of m.head.target) → Err NoPath ≡ asked

-- the response to HEAD has no body
abbrev pub is_bare : Head → Bool
is_bare head = bytes_eq head.method (codes "HEAD")

-- the response of want of memory
abbrev pub memory_response : Head → List ℕ
memory_response head = response_of Memory head.close (is_bare head)

-- the response of a reply, memory allowing
abbrev pub IsResponse : Head → Reply → List ℕ → Type 0
IsResponse head reply text = (text ≡ response_of reply head.close (is_bare head)) ⊎ (text ≡ memory_response head)

-- the response that tells why nothing is asked for, memory allowing
abbrev pub IsDenial : Head → Denied → List ℕ → Type 0
IsDenial head denied text = IsDeniedResponse denied head.target head.close (is_bare head) text ⊎ (text ≡ memory_response head)

-- a call that is answered has its effect, also where there is no memory for the response; what is denied has none
abbrev pub AnswersAsked : Result Call Denied → Head → Hand → List ℕ → Hand → Type 0
AnswersAsked (Ok call) head h text new = (reply : Reply) × Answers call h reply new × IsResponse head reply text
AnswersAsked (Err denied) head h text new = IsDenial head denied text × (new ≡ h)

-- there was no memory for the call, which has no effect
pub record IsUnasked (head : Head) (h : Hand) (text : List ℕ) (new : Hand) : Type 0 where
  pub response : text ≡ memory_response head
  pub no_effect : new ≡ h

pub record AnswersCall (m : Message) (h : Hand) (text : List ℕ) (new : Hand) : Type 0 where
  pub asked : Result Call Denied
  pub asks : Asks m asked
  pub answers : AnswersAsked asked m.head h text new

abbrev pub AnswersMessage : Message → Hand → List ℕ → Hand → Type 0
AnswersMessage m h text new = AnswersCall m h text new ⊎ IsUnasked m.head h text new

-- ---- all messages

-- what is written before a body is read, where the head awaits it
abbrev pub interim : Head → List ℕ
interim head = if head.expects then codes "HTTP/1.1 100 Continue\r\n\r\n" else []

abbrev pub AnswersAll : List Message → Hand → List ℕ → Hand → Type 0
AnswersAll [] h out new = (out ≡ []) × (new ≡ h)
AnswersAll (m ∷ messages) h out new =
    (between : Hand) × (text : List ℕ) × (more : List ℕ)
    × AnswersMessage m h text between × AnswersAll messages between more new × (out ≡ interim m.head ++ text ++ more)

-- ---- where the session stops

abbrev pub interim_of : Option Head → List ℕ
interim_of None = []
interim_of (Some head) = interim head

-- the connection closes
abbrev pub closing_memory_response : List ℕ
closing_memory_response = response_of Memory true false

abbrev pub IsLast : Stop → List ℕ → Type 0
IsLast (whole ended) text = text ≡ []
IsLast (whole (refused refusal)) text = (text ≡ bad_response refusal) ⊎ (text ≡ closing_memory_response)
IsLast (whole (cut head)) text = text ≡ interim head
IsLast (whole closed) text = text ≡ []
IsLast (unread head) text = text ≡ interim_of head
IsLast (wanting head) text = text ≡ interim_of head ++ closing_memory_response
