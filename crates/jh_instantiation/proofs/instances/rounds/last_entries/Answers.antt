use Rattle.jh_instantiation.proofs.instances.rounds.last_entries.Goals as goal

pub returns-clause-made : goal.returns-clause-made
returns-clause-made c = λ p hp. (c.in_ok-put_each.ensures.made p hp).entries
