use Rattle.order_desk.proofs.Requests.{next_form, next_room, next_is_later}
use Rattle.order_desk.proofs.desk.Desk.put_draft.Goals as goal

pub keep_draft-requires-clause-form : goal.keep_draft-requires-clause-form
keep_draft-requires-clause-form g c =
    next_form c.args.self.now.tables c.args.caller c.args.name c.args.text c.in-Ok.draft c.requires c.in-Ok.ensures

pub keep_draft-requires-clause-room : goal.keep_draft-requires-clause-room
keep_draft-requires-clause-room g c =
    next_room c.args.self.now.tables c.args.caller c.args.name c.args.text c.in-Ok.draft c.in-Ok.ensures

pub keep_draft-requires-clause-later : goal.keep_draft-requires-clause-later
keep_draft-requires-clause-later g c =
    next_is_later c.args.self.now.tables c.args.caller c.args.name c.args.text c.in-Ok.draft c.in-Ok.ensures
