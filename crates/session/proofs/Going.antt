-- A session that follows a message that was answered.
use Rattle.std.proofs.Common.{◌≡◌, ◌∙◌, ℕ, false, List, [], ◌∷◌, ◌++◌, refl, sym, ap, subst, append_assoc}
use Rattle.std.specs.Prelude.{Option, Some, Result, Ok, Err, OnOk}
use Rattle.pb_outside.specs.Sink.{SinkTold, Takes}
use Rattle.pb_outside.specs.Source.{SourceTold}
use Rattle.http_wire.specs.Items.{ended, refused, cut, closed}
use Rattle.http_wire.specs.declared.message.Message.{Message}
use Rattle.answering.specs.Hand.{Hand}
use Rattle.session.specs.Reading.{Stop, whole, unread, wanting, ReadsMessage, Reads}
use Rattle.session.specs.Responses.{AnswersMessage, interim}
use Rattle.session.specs.Session.{FailsLast, LinkTold, IsDue, IsWritten, IsReadOut, IsSession, StopsWriting, told}
use Rattle.session.specs.Steps.{ReadsOn, Receives, GoesOn, seen}
use Rattle.session.specs.declared.end.SessionEnd.{SessionEnd}
use Rattle.session.specs.declared.end.SessionEnd.TheVariants.{Done, Broken, ReadFault, WriteFault, Memory}
use Rattle.session.specs.declared.end.WriteFault.{WriteFault as Unwritten}
use Rattle.session.proofs.Faults.{counted_behind, later_twice}
use Rattle.session.proofs.Streams.{reads-cons, stream_of-nothing, told_behind}
use Rattle.session.proofs.Writing.{takes_both, fails_behind}

due-cons : (m : Message) (stop : Stop) (h between new : Hand) (left left' : Option (List ℕ)) (text out : List ℕ)
    → ReadsOn (ReadsMessage m) left left' → m.head.close ≡ false → AnswersMessage m h text between → IsDue stop left' between out new
    → IsDue stop left h (interim m.head ++ text ++ out) new
due-cons m stop h between new left left' text out reads stays answers due = record {
  messages = m ∷ due.messages;
  read = told_behind (ReadsMessage m) (λ r. Reads stop r due.messages) (λ s. Reads stop s (m ∷ due.messages))
      (λ s r one more. reads-cons stop m due.messages s r one stays more) left left' reads due.read;
  responses = interim m.head ++ text ++ due.responses;
  answered = (between, text, due.responses, answers, due.answered, refl);
  last = due.last;
  behind = due.behind;
  joined = ap (λ (t : List ℕ). interim m.head ++ text ++ t) due.joined ∙ sym (append_assoc (interim m.head ++ text) due.responses due.last);
}

pub written_behind : (end : SessionEnd) (a b : List ℕ) (x y z : SinkTold) → Takes a x y → IsWritten end b y z → IsWritten end (a ++ b) x z
written_behind Done a b x y z first second = takes_both a b x y z first second
written_behind Broken a b x y z first second = takes_both a b x y z first second
written_behind (ReadFault fault) a b x y z first second = takes_both a b x y z first second
written_behind (WriteFault fault) a b x y z first second = fails_behind a b x y z fault first second
written_behind Memory a b x y z first second = takes_both a b x y z first second

-- a message that was answered is one more of those that are done
fails_later : (m : Message) (messages : List Message) (h between : Hand) (text out : List ℕ) (x y z : SinkTold) (fault : Unwritten)
    → AnswersMessage m h text between → Takes (interim m.head ++ text) x y → FailsLast messages between out y z fault
    → FailsLast (m ∷ messages) h (interim m.head ++ text ++ out) x z fault
fails_later m messages h between text out x y z fault answers first f = record {
  done = m ∷ f.done;
  last = f.last;
  are_all = ap (λ (ms : List Message). m ∷ ms) f.are_all;
  one = f.one;
  responses = interim m.head ++ text ++ f.responses;
  between = f.between;
  answered = (between, text, f.responses, answers, f.answered, refl);
  piece = f.piece;
  joined = ap (λ (t : List ℕ). interim m.head ++ text ++ t) f.joined ∙ sym (append_assoc (interim m.head ++ text) f.responses f.piece);
  middle = f.middle;
  whole = takes_both (interim m.head ++ text) f.responses x y f.middle first f.whole;
  fails = f.fails;
}

stops_later : (end : SessionEnd) (m : Message) (messages : List Message) (h between : Hand) (text out : List ℕ) (x y z : SinkTold)
    → AnswersMessage m h text between → Takes (interim m.head ++ text) x y → StopsWriting end messages between out y z
    → StopsWriting end (m ∷ messages) h (interim m.head ++ text ++ out) x z
stops_later (WriteFault fault) m messages h between text out x y z answers first f =
    fails_later m messages h between text out x y z fault answers first f
stops_later Done m messages h between text out x y z answers first f = tt
stops_later Broken m messages h between text out x y z answers first f = tt
stops_later (ReadFault fault) m messages h between text out x y z answers first f = tt
stops_later Memory m messages h between text out x y z answers first f = tt

read_out_behind : (R : List ℕ → List ℕ → Type 0) (stop : Stop) (x y z : Option (List ℕ)) → ReadsOn R x y → IsReadOut stop y z → IsReadOut stop x z
read_out_behind R (whole ended) x y z reads out = told_behind R (λ _. z ≡ Some []) (λ _. z ≡ Some []) (λ s t _ nothing. nothing) x y reads out
read_out_behind R (whole (refused refusal)) x y z reads out = tt
read_out_behind R (whole (cut head)) x y z reads out = told_behind R (λ _. z ≡ Some []) (λ _. z ≡ Some []) (λ s t _ nothing. nothing) x y reads out
read_out_behind R (whole closed) x y z reads out = tt
read_out_behind R (unread head) x y z reads out = tt
read_out_behind R (wanting head) x y z reads out = tt

behind_message : (m : Message) (h between : Hand) (before mid : LinkTold) (output : SinkTold) (text : List ℕ) → Receives m before mid → m.head.close ≡ false
    → AnswersMessage m h text between → Takes text mid.output output → GoesOn h before between (told mid.input output)
unfolding due-cons
behind_message m h between before mid output text received stays answers taken = λ end last new s. record {
  stop = s.stop;
  stops = s.stops;
  out = interim m.head ++ text ++ s.out;
  due = due-cons m s.stop h between new before.input.left mid.input.left text s.out received.read stays answers s.due;
  written = written_behind end (interim m.head ++ text) s.out before.output output last.output
      (takes_both (interim m.head) text before.output mid.output output received.written taken) s.written;
  stops_writing = stops_later end m s.due.messages h between text s.out before.output output last.output answers
      (takes_both (interim m.head) text before.output mid.output output received.written taken) s.stops_writing;
  counted = counted_behind end before.input.faults mid.input.faults last.input.faults received.quiet s.counted;
  later = later_twice before.input.faults mid.input.faults last.input.faults received.quiet.later s.later;
  read_out = read_out_behind (ReadsMessage m) s.stop before.input.left mid.input.left last.input.left received.read s.read_out;
}

goes_on : (m : Message) (h between : Hand) (before mid after : LinkTold) (text : List ℕ) → Receives m before mid → m.head.close ≡ false
    → AnswersMessage m h text between → Takes text mid.output after.output → after.input ≡ mid.input → GoesOn h before between after
goes_on m h between before mid after text received stays answers taken same =
    subst (λ (input : SourceTold). GoesOn h before between (told input after.output)) (sym same)
    (behind_message m h between before mid after.output text received stays answers taken)

pub goes_on_ok : (r : Result (Unit {0}) SessionEnd) (m : Message) (h between : Hand) (before mid after : LinkTold) (text : List ℕ) → Receives m before mid
    → AnswersMessage m h text between → OnOk r (m.head.close ≡ false) → OnOk r (Takes text mid.output after.output) → after.input ≡ mid.input
    → OnOk r (GoesOn h before between after)
goes_on_ok (Ok done) m h between before mid after text received answers stays taken same = goes_on m h between before mid after text received stays answers taken same
goes_on_ok (Err end) m h between before mid after text received answers stays taken same = tt

-- at the start of a session nothing is held
pub from_start : (held : List ℕ) (input : SourceTold) (output : SinkTold) (h : Hand) → held ≡ [] → GoesOn h (told input output) h (seen held input output)
from_start held input output h none = λ end last new s.
    let empty : IsSession end h (seen [] input output) last new = subst (λ (k : List ℕ). IsSession end h (seen k input output) last new) none s in
    subst (λ (left : Option (List ℕ)). IsSession end h (told (record { left = left; faults = input.faults }) output) last new)
    (stream_of-nothing input.left) empty
