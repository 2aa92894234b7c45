use Rattle.order_desk.proofs.Requests.{release_room}
use Rattle.order_desk.proofs.desk.Desk.commit.Goals as goal

pub keep_book-requires-clause-room : goal.keep_book-requires-clause-room
keep_book-requires-clause-room g c =
    (release_room c.args.self.now.tables c.args.caller c.args.name c.args.revision c.in-Ok.field-0.now c.in-Ok.ensures).0

pub keep_book-requires-clause-fresh : goal.keep_book-requires-clause-fresh
keep_book-requires-clause-fresh g c =
    (release_room c.args.self.now.tables c.args.caller c.args.name c.args.revision c.in-Ok.field-0.now c.in-Ok.ensures).1
