-- How calls go: the events that one makes, one after the other, and the reply at its end.
--     ends P              nothing more happens, and P is true of the reply
--     ends_with r         the same, with the reply r
--     never               it doesn't come to this
--     or_memory c         as c, or want of memory before anything more happens
--     says e              the event e, whose answer is the reply, which ends the call
--     asks e own next     the event e: as says, or it has an answer of its own, and the call goes on with that
use Rattle.std.specs.Prelude.{◌≡◌, ◌⊎◌}
use Rattle.desk_words.specs.declared.reply.Reply.{Reply}
use Rattle.desk_words.specs.declared.reply.Reply.TheVariants as reply
use Rattle.order_desk.specs.declared.answer.Answer.{Answer}
use Rattle.order_desk.specs.declared.answer.Answer.TheVariants.{Say}
use Rattle.order_desk.specs.declared.event.Event.{Event}
use Rattle.answering.specs.Hand.{Hand, Takes}

-- from where a holder stands, by what is replied, to where it stands then
abbrev pub Course : Type 1
Course = Hand → Reply → Hand → Type 0

abbrev pub ends : (Reply → Type 0) → Course
ends P h said new = P said × (new ≡ h)

abbrev pub ends_with : Reply → Course
ends_with r = ends (λ said. said ≡ r)

abbrev pub never : Course
never h said new = ⊥

abbrev pub or_memory : Course → Course
or_memory course h said new = ends_with reply.Memory h said new ⊎ course h said new

abbrev pub says : Event → Course
says event h said new = Takes h event (Say said) new

abbrev pub asks : {A : Type 0} → Event → (A → Answer) → (A → Course) → Course
asks {A} event own next h said new =
    says event h said new ⊎ ((a : A) × (between : Hand) × Takes h event (own a) between × next a between said new)
