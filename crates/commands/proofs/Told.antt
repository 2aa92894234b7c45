-- How the end of a service is told.
use Rattle.std.proofs.Common.{◌≡◌, ◌∙◌, ℕ, ◌/◌, List, Result, Ok, Err, IfOk, ap, subst, inl, inr}
use Rattle.pb_base.specs.declared.answer.Memory.{Memory}
use Rattle.pb_door.specs.DoorTold.{DoorTold}
use Rattle.order_desk.specs.Tables.{State}
use Rattle.session.specs.declared.end.SessionEnd.{SessionEnd}
use Rattle.serve_run.specs.ServeRun.{IsServeRun}
use Rattle.serve_run.specs.declared.end.ServeEnd.{ServeEnd}
use Rattle.book_commands.specs.RunReply.{RunReply, due_of}
use Rattle.book_commands.specs.Tells.{Outputs, Tells}
use Rattle.book_commands.specs.declared.run_status.RunStatus.{RunStatus}
use Rattle.commands.specs.Serves.{end_reply}

-- a reply that could not be made is told as want of memory
pub told_made : (made : Result RunReply Memory) (reply : RunReply) (before after : Outputs) (status : RunStatus) → IfOk made (λ r. r ≡ reply)
    → Tells (due_of made) before after status → Tells reply before after status
told_made (Ok r) reply before after status same told = subst (λ (k : RunReply). Tells k before after status) same told
told_made (Err wanting) reply before after status same told = elim told [ inl memory ↦ inr memory | inr memory ↦ inr memory ]

-- the same counts make the same reply
pub same_end : (how : ServeEnd) (d d' b b' o o' f f' l l' : ℕ) → d ≡ d' → b ≡ b' → o ≡ o' → f ≡ f' → l ≡ l' → end_reply how d b o f l ≡ end_reply how d' b' o' f' l'
same_end how d d' b b' o o' f f' l l' drafts books orders first last =
    ap (λ (n : ℕ). end_reply how n b o f l) drafts
    ∙ ap (λ (n : ℕ). end_reply how d' n o f l) books
    ∙ ap (λ (n : ℕ). end_reply how d' b' n f l) orders
    ∙ ap (λ (n : ℕ). end_reply how d' b' o' n l) first
    ∙ ap (λ (n : ℕ). end_reply how d' b' o' f' n) last

pub told_as : (made : Result RunReply Memory) (first second : RunReply) (before after : Outputs) (status : RunStatus) → IfOk made (λ r. r ≡ first)
    → first ≡ second → Tells (due_of made) before after status → Tells second before after status
told_as made first second before after status same more told =
    subst (λ (k : RunReply). Tells k before after status) more (told_made made first before after status same told)

-- a run of as many workers and links
pub served_by : (how : ServeEnd) (old new : State) (steps links links' workers workers' : ℕ) (faults : List (List SessionEnd)) (before after : DoorTold)
    → links ≡ links' → workers ≡ workers' → IsServeRun how old new (steps / workers) links workers faults before after
    → IsServeRun how old new (steps / workers') links' workers' faults before after
served_by how old new steps links links' workers workers' faults before after same_links same_workers run =
    subst (λ (w : ℕ). IsServeRun how old new (steps / w) links' w faults before after) same_workers
    (subst (λ (l : ℕ). IsServeRun how old new (steps / workers) l workers faults before after) same_links run)
