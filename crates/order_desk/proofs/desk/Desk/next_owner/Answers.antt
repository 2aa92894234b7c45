use Rattle.std.proofs.Common.{List, ℕ, Some, ap, subst, sym}
use Rattle.order_desk.specs.declared.draft.Draft.{Draft}
use Rattle.order_desk.specs.History.{Stays, IsLaterDraft}
use Rattle.order_desk.specs.Tables.{State, draft_at}
use Rattle.order_desk.specs.Valid.{IsDraft, IsValid}
use Rattle.order_desk.proofs.Requests.{given_form, given_room, given_is_later}
use Rattle.order_desk.proofs.desk.Desk.next_owner.Goals as goal

-- the draft with another owner, and a copy of its text
abbrev given : List ℕ → Draft → List ℕ → Draft
given to draft text = record { owner = to; revision = draft.revision; text = text }

pub returns-in-Ok-copy-clause-form : goal.returns-in-Ok-copy-clause-form
returns-in-Ok-copy-clause-form g c =
    subst (λ text. IsDraft c.args.name (given c.args.to c.in-Ok.draft.now text)) (sym c.in-Ok-copy.ensures)
    (given_form c.args.self.now.tables c.args.caller c.args.name c.args.to c.in-Ok.draft.now
    (subst IsValid (ap (λ (s : State). s.tables) c.self.view_is) c.self.invariant.valid) c.requires c.in-Ok.ensures)

pub returns-in-Ok-copy-clause-room : goal.returns-in-Ok-copy-clause-room
returns-in-Ok-copy-clause-room g c =
    given_room c.args.self.now.tables c.args.caller c.args.name c.in-Ok.draft.now c.in-Ok.ensures

pub returns-in-Ok-copy-clause-later : goal.returns-in-Ok-copy-clause-later
returns-in-Ok-copy-clause-later g c =
    subst (λ text. Stays IsLaterDraft (draft_at c.args.self.now.tables.drafts c.args.name) (Some (given c.args.to c.in-Ok.draft.now text)))
    (sym c.in-Ok-copy.ensures)
    (given_is_later c.args.self.now.tables c.args.caller c.args.name c.args.to c.in-Ok.draft.now c.in-Ok.ensures)
