use Rattle.jh_explanations.proofs.marking.marks_of.Goals as goal

pub marks_of_cause-requires-clause-history : goal.marks_of_cause-requires-clause-history
marks_of_cause-requires-clause-history c = c.requires.history

pub marks_of_cause-requires-clause-cause : goal.marks_of_cause-requires-clause-cause
marks_of_cause-requires-clause-cause c = c.requires.cause

pub mark_down-requires-clause-explained : goal.mark_down-requires-clause-explained
mark_down-requires-clause-explained c = c.in_ok-marks.ensures
