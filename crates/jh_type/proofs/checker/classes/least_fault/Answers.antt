use Rattle.jh_type.proofs.checker.classes.least_fault.Goals as goal

pub returns : goal.returns
returns c = c.in_ok-found.ensures c.in_ok-lookups.ensures
