use Rattle.kept_requirements.proofs.check.check_slices.Goals as goal

pub make_all-requires-clause-ready : goal.make_all-requires-clause-ready
make_all-requires-clause-ready g c κs lives = record { fit = c.requires.fit; few = c.requires.few; some = c.requires.some; most = c.requires.most }
