use Rattle.rule_text.proofs.reader.Reader.take_connective.Goals as goal

pub returns-in-Plus : goal.returns-in-Plus
returns-in-Plus c = λ names. rw c.in-Plus.is (c.plus.ensures names)

pub returns-in-Slash : goal.returns-in-Slash
returns-in-Slash c = λ names. rw c.in-Slash.is (c.slash.ensures names)

pub returns-in-Closing : goal.returns-in-Closing
returns-in-Closing c = λ names. rw c.in-Closing.is (c.closing.ensures names)

pub returns-in-Semicolon : goal.returns-in-Semicolon
returns-in-Semicolon c = λ names. rw c.in-Semicolon.is (c.semicolon.ensures names)
