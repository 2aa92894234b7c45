use Rattle.inquiry.proofs.AskingLaws.{room, begins_below, codes_few}
use Rattle.inquiry.proofs.asking.begin.Goals as goal

pub encode-requires-clause-room : goal.encode-requires-clause-room
encode-requires-clause-room g c =
    room (g.S.Inquiry.form c.args.source.now) (g.S.Inquiry.IsPosed c.args.source.now) (g.S.Inquiry.MayShow c.args.source.now) c.lawful.ensures c.args.questions.now c.requires.posed c.requires.few

pub new-requires-clause-below : goal.new-requires-clause-below
new-requires-clause-below g c =
    begins_below (g.S.Inquiry.form c.args.source.now) (g.S.Inquiry.IsPosed c.args.source.now) (g.S.Inquiry.MayShow c.args.source.now) c.lawful.ensures c.args.questions.now c.requires.posed
    c.in_ok-coded.coded.vars c.in_ok-coded.coded.pool.clauses c.of-kernel.result c.of-kernel.ensures c.in_ok-coded.ensures.clauses c.in_ok-coded.ensures.vars

pub new-requires-clause-codes : goal.new-requires-clause-codes
new-requires-clause-codes g c =
    codes_few (g.S.Inquiry.form c.args.source.now) (g.S.Inquiry.IsPosed c.args.source.now) (g.S.Inquiry.MayShow c.args.source.now) c.lawful.ensures c.args.questions.now c.requires.posed
    c.codes-codes.result c.in_ok-coded.coded.vars c.codes-codes.ensures c.in_ok-coded.ensures.vars
