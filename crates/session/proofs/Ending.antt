-- How a session ends.
use Rattle.std.proofs.Common.{◌≡◌, ◌<◌, ◌≤◌, ◌∙◌, ℕ, Bool, true, false, List, [], ◌∷◌, ◌++◌, length, refl, sym, ap, subst, arith, inl, inr}
use Rattle.std.specs.Prelude.{Option, Some, None, Result, Ok, Err, IfErr, IfOk, IfSome}
use Rattle.std.proofs.lemmas.List.{append-nil}
use Rattle.pb_base.specs.Answers.{ForRefusal}
use Rattle.pb_base.specs.declared.answer.Fail.{Fail}
use Rattle.pb_base.specs.declared.answer.Fail.TheVariants.{Refused, Memory as NoRoom}
use Rattle.pb_base.specs.declared.limits.TheConstants.{MOST_TEXT_BYTES}
use Rattle.pb_outside.specs.Faults.{Faults, IsLater}
use Rattle.pb_outside.specs.Sink.{SinkTold, Takes}
use Rattle.pb_outside.specs.Source.{SourceTold}
use Rattle.http_wire.specs.Items.{ReadsHead, ReadsBody, IsWhole, ended, refused, cut, closed}
use Rattle.http_wire.specs.Stream.{ReadFails, StreamStep}
use Rattle.http_wire.specs.declared.fault.ReadFault.{ReadFault as Unread}
use Rattle.http_wire.specs.declared.head.Head.{Head as Kept}
use Rattle.http_wire.specs.declared.head.HeadStep.TheVariants.{Head, End, Bad}
use Rattle.http_wire.specs.declared.message.Message.{Message as Whole}
use Rattle.http_wire.specs.declared.message.BodyStep.TheVariants.{Message, Cut}
use Rattle.http_wire.specs.declared.refusal.Refusal.{Refusal}
use Rattle.answering.specs.Hand.{Hand}
use Rattle.session.specs.Reading.{Stop, whole, unread, wanting, ReadsMessage, Reads}
use Rattle.session.specs.Responses.{AnswersMessage, IsLast, interim, closing_memory_response}
use Rattle.session.specs.Session.{FailsLast, LinkTold, IsDue, IsWritten, IsCounted, IsReadOut, IsSession, NothingLeft, StopsAt, StopsWriting, WriteFails, told}
use Rattle.session.specs.Steps.{AwaitsBody, EndsAnswered, EndsBehind, EndsRefused, EndsUnanswered, EndsUnread, EndsWith, IsQuiet, ReadsOn, Receives, ReceivesBehind, ReceivesHead, seen, stream_of}
use Rattle.session.specs.declared.end.SessionEnd.{SessionEnd}
use Rattle.session.specs.declared.end.SessionEnd.TheVariants.{Done, Broken, ReadFault, WriteFault, Memory}
use Rattle.session.specs.declared.end.WriteFault.{WriteFault as Unwritten}
use Rattle.session.proofs.Faults.{later_twice, quiet_twice, read_fails_behind}
use Rattle.session.proofs.Streams.{nothing_behind, nothing_left, reads_closed, reads_message, reads_on, reads_on-then, reads_one, stops_ended, stops_refused, told_behind, told_first}
use Rattle.session.proofs.Writing.{fails_behind, takes_both, takes_nothing}

-- ---- in front of a message

-- the last piece was written, or writing it failed, behind another one
pub ends_with_behind : (due : SessionEnd) (a b : List ℕ) (end : SessionEnd) (x y z : SinkTold) → Takes a x y → EndsWith due b end y z → EndsWith due (a ++ b) end x z
ends_with_behind due a b end x y z first (inl (is, taken)) = inl (is, takes_both a b x y z first taken)
ends_with_behind due a b end x y z first (inr (fault, is, fails)) = inr (fault, is, fails_behind a b x y z fault first fails)

-- where nothing was answered, only the last piece is due
due_alone : (stop : Stop) (left : Option (List ℕ)) (last : List ℕ) (h : Hand) → IsLast stop last → IfSome left (λ s. Reads stop s []) → IsDue stop left h last h
due_alone stop left last h is read = record {
  messages = [];
  read = read;
  responses = [];
  answered = (refl, refl);
  last = last;
  behind = is;
  joined = refl;
}

-- and it is the piece whose writing failed
fails_alone : (h : Hand) (last : List ℕ) (x y : SinkTold) (fault : Unwritten) → WriteFails last x y fault → FailsLast [] h last x y fault
fails_alone h last x y fault fails = record {
  done = [];
  last = [];
  are_all = refl;
  one = omega arith;
  responses = [];
  between = h;
  answered = (refl, refl);
  piece = last;
  joined = refl;
  middle = x;
  whole = takes_nothing x;
  fails = fails;
}

-- what is known of reading where nothing was answered
pub record ReadsNone (due : SessionEnd) (stop : Stop) (before after : SourceTold) : Type 0 where
  pub read : IfSome before.left (λ s. Reads stop s [])
  pub counted : IsCounted due before.faults after.faults
  pub later : IsLater before.faults after.faults
  pub read_out : IsReadOut stop before.left after.left

-- how a session ends where the last piece was written
pub record IsEnd (due : SessionEnd) (stop : Stop) (last : List ℕ) : Type 0 where
  pub stops : StopsAt due stop
  pub stops_writing : (h : Hand) (x y : SinkTold) → StopsWriting due [] h last x y
  pub is_last : IsLast stop last
  pub written : (x y : SinkTold) → Takes last x y → IsWritten due last x y

pub ends_alone : (due : SessionEnd) (stop : Stop) (last : List ℕ) (end : SessionEnd) (before after : LinkTold) → IsEnd due stop last
    → ReadsNone due stop before.input after.input → EndsWith due last end before.output after.output → EndsUnanswered end before after
unfolding due_alone
ends_alone due stop last end before after is reads (inl (same, taken)) = λ h.
    let s : IsSession due h before after h = record {
      stop = stop;
      stops = is.stops;
      out = last;
      due = due_alone stop before.input.left last h is.is_last reads.read;
      written = is.written before.output after.output taken;
      stops_writing = is.stops_writing h before.output after.output;
      counted = reads.counted;
      later = reads.later;
      read_out = reads.read_out;
    } in
    subst (λ (e : SessionEnd). IsSession e h before after h) (sym same) s
ends_alone due stop last end before after is reads (inr (fault, same, fails)) = λ h.
    let s : IsSession (WriteFault fault) h before after h = record {
      stop = stop;
      stops = tt;
      out = last;
      due = due_alone stop before.input.left last h is.is_last reads.read;
      written = fails;
      stops_writing = fails_alone h last before.output after.output fault fails;
      counted = tt;
      later = reads.later;
      read_out = reads.read_out;
    } in
    subst (λ (e : SessionEnd). IsSession e h before after h) (sym same) s

-- nothing was written
silent : (due : SessionEnd) (x y : SinkTold) → y ≡ x → EndsWith due [] due x y
silent due x y same = inl (refl, subst (λ (s : SinkTold). Takes [] x s) (sym same) (takes_nothing x))

moved : (due : SessionEnd) (last : List ℕ) (end : SessionEnd) (x y z : SinkTold) → y ≡ x → EndsWith due last end y z → EndsWith due last end x z
moved due last end x y z same ends = subst (λ (s : SinkTold). EndsWith due last end s z) same ends

-- nothing is left behind what is held
none_left : (R : List ℕ → List ℕ → Type 0) → ((s t : List ℕ) → R s t → t ≡ []) → (held held' : List ℕ) (left left' : Option (List ℕ))
    → StreamStep R held left held' left' → NothingLeft (stream_of held left) left'
none_left R nothing held held' None left' step = tt
none_left R nothing held held' (Some bytes) None step = absurd step
none_left R nothing held held' (Some bytes) (Some rest) step =
    ap (λ (b : List ℕ). Some b) (nothing_left held' rest (nothing (held ++ bytes) (held' ++ rest) step))

pub at_end : (held held' : List ℕ) (input input' : SourceTold) (output output' : SinkTold) → StreamStep (ReadsHead End) held input.left held' input'.left
    → input'.faults.count ≡ input.faults.count → IsLater input.faults input'.faults → output' ≡ output
    → EndsUnanswered Done (seen held input output) (told input' output')
at_end held held' input input' output output' step count later same =
    ends_alone Done (whole ended) [] Done (seen held input output) (told input' output')
    (record { stops = tt; stops_writing = λ h x y. tt; is_last = refl; written = λ x y taken. taken })
    (record {
      read = told_first (ReadsHead End) (λ s. Reads (whole ended) s []) stops_ended (stream_of held input.left) (stream_of held' input'.left)
          (reads_on (ReadsHead End) held held' input.left input'.left step);
      counted = count;
      later = later;
      read_out = none_left (ReadsHead End) nothing_behind held held' input.left input'.left step;
    })
    (silent Done output output' same)

pub at_refusal : (refusal : Refusal) (end : SessionEnd) (held held' : List ℕ) (input input' : SourceTold) (output mid output' : SinkTold)
    → StreamStep (ReadsHead (Bad refusal)) held input.left held' input'.left → input'.faults.count ≡ input.faults.count → IsLater input.faults input'.faults
    → mid ≡ output → EndsRefused refusal end mid output' → EndsUnanswered end (seen held input output) (told input' output')
at_refusal refusal end held held' input input' output mid output' step count later same (last, is, ends) =
    ends_alone Broken (whole (refused refusal)) last end (seen held input output) (told input' output')
    (record { stops = tt; stops_writing = λ h x y. tt; is_last = is; written = λ x y taken. taken })
    (record {
      read = told_first (ReadsHead (Bad refusal)) (λ s. Reads (whole (refused refusal)) s []) (stops_refused refusal) (stream_of held input.left) (stream_of held' input'.left)
          (reads_on (ReadsHead (Bad refusal)) held held' input.left input'.left step);
      counted = count;
      later = later;
      read_out = tt;
    })
    (moved Broken last end output mid output' same ends)

unknown : (stop : Stop) (left : Option (List ℕ)) → ((s : List ℕ) → Reads stop s []) → IfSome left (λ s. Reads stop s [])
unknown stop None read = tt
unknown stop (Some s) read = read s

read_fault : (fault : Unread) (held : List ℕ) (input input' : SourceTold) (output output' : SinkTold) → ReadFails input.faults input'.faults fault
    → IsLater input.faults input'.faults → output' ≡ output → EndsUnanswered (ReadFault fault) (seen held input output) (told input' output')
read_fault fault held input input' output output' fails later same =
    ends_alone (ReadFault fault) (unread None) [] (ReadFault fault) (seen held input output) (told input' output')
    (record { stops = tt; stops_writing = λ h x y. tt; is_last = refl; written = λ x y taken. taken })
    (record { read = unknown (unread None) (stream_of held input.left) (λ s. tt); counted = fails; later = later; read_out = tt })
    (silent (ReadFault fault) output output' same)

want : (end : SessionEnd) (held : List ℕ) (input input' : SourceTold) (output mid output' : SinkTold) → IsLater input.faults input'.faults
    → mid ≡ output → EndsWith Memory closing_memory_response end mid output' → EndsUnanswered end (seen held input output) (told input' output')
want end held input input' output mid output' later same ends =
    ends_alone Memory (wanting None) closing_memory_response end (seen held input output) (told input' output')
    (record { stops = tt; stops_writing = λ h x y. tt; is_last = refl; written = λ x y taken. taken })
    (record { read = unknown (wanting None) (stream_of held input.left) (λ s. tt); counted = tt; later = later; read_out = tt })
    (moved Memory closing_memory_response end output mid output' same ends)

pub at_unread : (fail : Fail Unread) (end : SessionEnd) (held : List ℕ) (input input' : SourceTold) (output mid output' : SinkTold)
    → ForRefusal fail (ReadFails input.faults input'.faults) → IsLater input.faults input'.faults → mid ≡ output → EndsUnread fail end mid output'
    → EndsUnanswered end (seen held input output) (told input' output')
at_unread (Refused fault) end held input input' output mid output' fails later same (is, unchanged) =
    subst (λ (e : SessionEnd). EndsUnanswered e (seen held input output) (told input' output')) (sym is)
    (read_fault fault held input input' output output' fails later (unchanged ∙ same))
at_unread NoRoom end held input input' output mid output' fails later same ends = want end held input input' output mid output' later same ends

-- there was no memory, and nothing was read
pub gives_up : (end : SessionEnd) (held : List ℕ) (input input' : SourceTold) (output output' : SinkTold) → input' ≡ input
    → EndsWith Memory closing_memory_response end output output' → EndsUnanswered end (seen held input output) (told input' output')
gives_up end held input input' output output' same ends =
    let later : IsLater input.faults input.faults = record { never_falls = omega arith; kept = λ faultless. faultless } in
    want end held input input' output output output' (subst (λ (i : SourceTold). IsLater input.faults i.faults) (sym same) later) refl ends

-- ---- behind a head

-- what is known of a stream behind a head is known in front of it
behind_head : (head : Kept) (stop : Stop) → ((s t : List ℕ) → ReadsHead (Head head) s t → Reads stop s []) → (x y : Option (List ℕ))
    → ReadsOn (ReadsHead (Head head)) x y → IfSome x (λ s. Reads stop s [])
behind_head head stop so x y reads = told_first (ReadsHead (Head head)) (λ s. Reads stop s []) so x y reads

pub at_interim_fault : (head : Kept) (fault : Unwritten) (start before : LinkTold) (input : SourceTold) (output : SinkTold) → ReceivesHead head start before
    → input.faults ≡ before.input.faults → WriteFails (interim head) before.output output fault → EndsUnanswered (WriteFault fault) start (told input output)
unfolding due_alone
at_interim_fault head fault start before input output received same fails = λ h. record {
  stop = unread (Some head);
  stops = tt;
  out = interim head;
  due = due_alone (unread (Some head)) start.input.left (interim head) h refl
      (behind_head head (unread (Some head)) (λ s t reads. (t, reads)) start.input.left before.input.left received.read);
  written = subst (λ (s : SinkTold). WriteFails (interim head) s output fault) received.output fails;
  stops_writing = fails_alone h (interim head) start.output output fault
      (subst (λ (s : SinkTold). WriteFails (interim head) s output fault) received.output fails);
  counted = tt;
  later = subst (λ (f : Faults). IsLater start.input.faults f) (sym same) received.quiet.later;
  read_out = tt;
}

pub awaits_body : (head : Kept) (held : List ℕ) (start : LinkTold) (input input' : SourceTold) (output output' : SinkTold)
    → ReceivesHead head start (seen held input output) → input' ≡ input → Takes (interim head) output output' → AwaitsBody head start (seen held input' output')
awaits_body head held start input input' output output' received same taken = record {
  read = subst (λ (i : SourceTold). ReadsOn (ReadsHead (Head head)) start.input.left (stream_of held i.left)) (sym same) received.read;
  small = received.small;
  quiet = subst (λ (i : SourceTold). IsQuiet start.input.faults i.faults) (sym same) received.quiet;
  written = subst (λ (s : SinkTold). Takes (interim head) s output') received.output taken;
}

-- reads and writes up to where the body begins, and on to the end
pub at_cut : (head : Kept) (held held' : List ℕ) (input input' : SourceTold) (output output' : SinkTold) → StreamStep (ReadsBody head Cut) held input.left held' input'.left
    → input'.faults.count ≡ input.faults.count → IsLater input.faults input'.faults → output' ≡ output → EndsBehind head Broken (seen held input output) (told input' output')
at_cut head held held' input input' output output' step count later same = λ start awaits.
    ends_alone Broken (whole (cut head)) (interim head) Broken start (told input' output')
    (record { stops = tt; stops_writing = λ h x y. tt; is_last = refl; written = λ x y taken. taken })
    (record {
      read = told_behind (ReadsHead (Head head)) (λ t. length t < head.length) (λ s. Reads (whole (cut head)) s []) (λ s t reads short. (t, reads, short))
          start.input.left (stream_of held input.left) awaits.read
          (told_first (ReadsBody head Cut) (λ t. length t < head.length) (λ t u cuts. cuts.0) (stream_of held input.left) (stream_of held' input'.left)
          (reads_on (ReadsBody head Cut) held held' input.left input'.left step));
      counted = count ∙ awaits.quiet.count;
      later = later_twice start.input.faults input.faults input'.faults awaits.quiet.later later;
      read_out = told_behind (ReadsHead (Head head)) (λ _. input'.left ≡ Some []) (λ _. input'.left ≡ Some []) (λ s t _ nothing. nothing)
          start.input.left (stream_of held input.left) awaits.read
          (none_left (ReadsBody head Cut) (λ t u cuts. cuts.1) held held' input.left input'.left step);
    })
    (inl (refl, subst (λ (s : SinkTold). Takes (interim head) start.output s) (sym same) awaits.written))

body_fault : (head : Kept) (fault : Unread) (held : List ℕ) (input input' : SourceTold) (output output' : SinkTold) → ReadFails input.faults input'.faults fault
    → IsLater input.faults input'.faults → output' ≡ output → EndsBehind head (ReadFault fault) (seen held input output) (told input' output')
body_fault head fault held input input' output output' fails later same = λ start awaits.
    ends_alone (ReadFault fault) (unread (Some head)) (interim head) (ReadFault fault) start (told input' output')
    (record { stops = tt; stops_writing = λ h x y. tt; is_last = refl; written = λ x y taken. taken })
    (record {
      read = behind_head head (unread (Some head)) (λ s t reads. (t, reads)) start.input.left (stream_of held input.left) awaits.read;
      counted = read_fails_behind start.input.faults input.faults input'.faults fault awaits.quiet fails;
      later = later_twice start.input.faults input.faults input'.faults awaits.quiet.later later;
      read_out = tt;
    })
    (inl (refl, subst (λ (s : SinkTold). Takes (interim head) start.output s) (sym same) awaits.written))

body_want : (head : Kept) (end : SessionEnd) (held : List ℕ) (input input' : SourceTold) (output mid output' : SinkTold) → IsLater input.faults input'.faults
    → mid ≡ output → EndsWith Memory closing_memory_response end mid output' → EndsBehind head end (seen held input output) (told input' output')
body_want head end held input input' output mid output' later same ends = λ start awaits.
    ends_alone Memory (wanting (Some head)) (interim head ++ closing_memory_response) end start (told input' output')
    (record { stops = tt; stops_writing = λ h x y. tt; is_last = refl; written = λ x y taken. taken })
    (record {
      read = behind_head head (wanting (Some head)) (λ s t reads. (t, reads)) start.input.left (stream_of held input.left) awaits.read;
      counted = tt;
      later = later_twice start.input.faults input.faults input'.faults awaits.quiet.later later;
      read_out = tt;
    })
    (ends_with_behind Memory (interim head) closing_memory_response end start.output output output' awaits.written
    (moved Memory closing_memory_response end output mid output' same ends))

pub at_unread_body : (head : Kept) (fail : Fail Unread) (end : SessionEnd) (held : List ℕ) (input input' : SourceTold) (output mid output' : SinkTold)
    → ForRefusal fail (ReadFails input.faults input'.faults) → IsLater input.faults input'.faults → mid ≡ output → EndsUnread fail end mid output'
    → EndsBehind head end (seen held input output) (told input' output')
at_unread_body head (Refused fault) end held input input' output mid output' fails later same (is, unchanged) =
    subst (λ (e : SessionEnd). EndsBehind head e (seen held input output) (told input' output')) (sym is)
    (body_fault head fault held input input' output output' fails later (unchanged ∙ same))
at_unread_body head NoRoom end held input input' output mid output' fails later same ends =
    body_want head end held input input' output mid output' later same ends

pub receives : (head : Kept) (m : Whole) (held held' : List ℕ) (input input' : SourceTold) (output output' : SinkTold)
    → StreamStep (ReadsBody head (Message m)) held input.left held' input'.left → input'.faults.count ≡ input.faults.count → IsLater input.faults input'.faults
    → IsWhole head (Message m) → output' ≡ output → ReceivesBehind head m (seen held input output) (seen held' input' output')
receives head m held held' input input' output output' step count later is same = λ start awaits. record {
  read = reads_on-then (ReadsHead (Head head)) (ReadsBody head (Message m)) (ReadsMessage m) (reads_message head m)
      start.input.left (stream_of held input.left) (stream_of held' input'.left) awaits.read (reads_on (ReadsBody head (Message m)) held held' input.left input'.left step);
  small = subst (λ (n : ℕ). n ≤ MOST_TEXT_BYTES) (sym is.1) awaits.small;
  quiet = quiet_twice start.input.faults input.faults input'.faults awaits.quiet (record { count = count; later = later });
  written = subst (λ (k : Kept). Takes (interim k) start.output output') (sym is.0)
      (subst (λ (s : SinkTold). Takes (interim head) start.output s) (sym same) awaits.written);
}

-- from where the head stood
pub body_received : (r : Result Whole SessionEnd) (head : Kept) (start before after : LinkTold) → IfOk r (λ m. ReceivesBehind head m before after)
    → AwaitsBody head start before → IfOk r (λ m. Receives m start after)
body_received (Ok m) head start before after received awaits = received start awaits
body_received (Err end) head start before after received awaits = tt

pub body_ended : (r : Result Whole SessionEnd) (head : Kept) (start before after : LinkTold) → IfErr r (λ end. EndsBehind head end before after)
    → AwaitsBody head start before → IfErr r (λ end. EndsUnanswered end start after)
body_ended (Ok m) head start before after ends awaits = tt
body_ended (Err end) head start before after ends awaits = ends start awaits

-- ---- behind a response

-- one message was answered, and its response is the last that is due
due_one : (m : Whole) (stop : Stop) (left : Option (List ℕ)) (h : Hand) (text : List ℕ) (new : Hand) → IsLast stop [] → IfSome left (λ s. Reads stop s (m ∷ []))
    → AnswersMessage m h text new → IsDue stop left h (interim m.head ++ text) new
due_one m stop left h text new is read answers = record {
  messages = m ∷ [];
  read = read;
  responses = interim m.head ++ text ++ [];
  answered = (new, text, [], answers, (refl, refl), refl);
  last = [];
  behind = is;
  joined = sym (append-nil (interim m.head ++ text ++ []) ∙ append-nil (interim m.head ++ text));
}

read_closed : (m : Whole) → m.head.close ≡ true → (x y : Option (List ℕ)) → ReadsOn (ReadsMessage m) x y → IfSome x (λ s. Reads (whole closed) s (m ∷ []))
read_closed m closes x y reads =
    told_first (ReadsMessage m) (λ s. Reads (whole closed) s (m ∷ [])) (λ s t one. reads_closed m s t one closes) x y reads

read_open : (m : Whole) → m.head.close ≡ false → (x y : Option (List ℕ)) → ReadsOn (ReadsMessage m) x y → IfSome x (λ s. Reads (unread None) s (m ∷ []))
read_open m stays x y reads =
    told_first (ReadsMessage m) (λ s. Reads (unread None) s (m ∷ [])) (λ s t one. reads_one m s t one stays) x y reads

at_close : (m : Whole) (h new : Hand) (before mid after : LinkTold) (text : List ℕ) → Receives m before mid → AnswersMessage m h text new
    → m.head.close ≡ true → Takes text mid.output after.output → after.input.faults ≡ mid.input.faults → IsSession Done h before after new
at_close m h new before mid after text received answers closes taken same = record {
  stop = whole closed;
  stops = tt;
  out = interim m.head ++ text;
  due = due_one m (whole closed) before.input.left h text new refl (read_closed m closes before.input.left mid.input.left received.read) answers;
  written = takes_both (interim m.head) text before.output mid.output after.output received.written taken;
  stops_writing = tt;
  counted = ap (λ (f : Faults). f.count) same ∙ received.quiet.count;
  later = subst (λ (f : Faults). IsLater before.input.faults f) (sym same) received.quiet.later;
  read_out = tt;
}

-- a response that could not be written is the last that was due, whether or not its message closes
record IsUnwritten (m : Whole) (h new : Hand) (x : Option (List ℕ)) (text : List ℕ) : Type 0 where
  stop : Stop
  due : IsDue stop x h (interim m.head ++ text) new
  one : due.messages ≡ m ∷ []
  read_out : (z : Option (List ℕ)) → IsReadOut stop x z

due_unwritten : (close : Bool) (m : Whole) (h new : Hand) (x y : Option (List ℕ)) (text : List ℕ) → m.head.close ≡ close → ReadsOn (ReadsMessage m) x y
    → AnswersMessage m h text new → IsUnwritten m h new x text
unfolding due_one
due_unwritten true m h new x y text closes reads answers = record {
  stop = whole closed;
  due = due_one m (whole closed) x h text new refl (read_closed m closes x y reads) answers;
  one = refl;
  read_out = λ z. tt;
}
due_unwritten false m h new x y text stays reads answers = record {
  stop = unread None;
  due = due_one m (unread None) x h text new refl (read_open m stays x y reads) answers;
  one = refl;
  read_out = λ z. tt;
}

-- what is written for it is the piece whose writing failed
fails_one : (m : Whole) (messages : List Whole) (h : Hand) (piece : List ℕ) (x y : SinkTold) (fault : Unwritten) → messages ≡ m ∷ []
    → WriteFails piece x y fault → FailsLast messages h piece x y fault
fails_one m messages h piece x y fault one fails = record {
  done = [];
  last = m ∷ [];
  are_all = one;
  one = omega arith;
  responses = [];
  between = h;
  answered = (refl, refl);
  piece = piece;
  joined = refl;
  middle = x;
  whole = takes_nothing x;
  fails = fails;
}

at_write_fault : (m : Whole) (h new : Hand) (before mid after : LinkTold) (text : List ℕ) (fault : Unwritten) → Receives m before mid → AnswersMessage m h text new
    → WriteFails text mid.output after.output fault → after.input.faults ≡ mid.input.faults → IsSession (WriteFault fault) h before after new
at_write_fault m h new before mid after text fault received answers fails same =
    let is = due_unwritten m.head.close m h new before.input.left mid.input.left text refl received.read answers in
    let both = fails_behind (interim m.head) text before.output mid.output after.output fault received.written fails in
    record {
      stop = is.stop;
      stops = tt;
      out = interim m.head ++ text;
      due = is.due;
      written = both;
      stops_writing = fails_one m is.due.messages h (interim m.head ++ text) before.output after.output fault is.one both;
      counted = tt;
      later = subst (λ (f : Faults). IsLater before.input.faults f) (sym same) received.quiet.later;
      read_out = is.read_out after.input.left;
    }

answered_last : (end : SessionEnd) (m : Whole) (h new : Hand) (before mid after : LinkTold) (text : List ℕ) → Receives m before mid → AnswersMessage m h text new
    → EndsAnswered end m.head text mid.output after.output → after.input.faults ≡ mid.input.faults → IsSession end h before after new
answered_last Done m h new before mid after text received answers ends same = at_close m h new before mid after text received answers ends.0 ends.1 same
answered_last Broken m h new before mid after text received answers ends same = absurd ends
answered_last (ReadFault fault) m h new before mid after text received answers ends same = absurd ends
answered_last (WriteFault fault) m h new before mid after text received answers ends same =
    at_write_fault m h new before mid after text fault received answers ends same
answered_last Memory m h new before mid after text received answers ends same = absurd ends

pub answered : (r : Result (Unit {0}) SessionEnd) (m : Whole) (h new : Hand) (before mid after : LinkTold) (text : List ℕ) → Receives m before mid
    → AnswersMessage m h text new → IfErr r (λ end. EndsAnswered end m.head text mid.output after.output) → after.input.faults ≡ mid.input.faults
    → IfErr r (λ end. IsSession end h before after new)
answered (Ok done) m h new before mid after text received answers ends same = tt
answered (Err end) m h new before mid after text received answers ends same = answered_last end m h new before mid after text received answers ends same
