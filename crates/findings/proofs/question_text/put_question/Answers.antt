use Rattle.findings.proofs.question_text.put_question.Goals as goal

pub returns-in-Inadmissible : goal.returns-in-Inadmissible
returns-in-Inadmissible c = rw (c.in-Inadmissible.is, ← c.code_name-in-Inadmissible.ensures) c.put_two-in-Inadmissible.ensures
