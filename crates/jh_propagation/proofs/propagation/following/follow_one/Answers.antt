use Rattle.jh_propagation.proofs.propagation.following.follow_one.Goals as goal

pub returns-in-Some-clause-followed : goal.returns-in-Some-clause-followed
returns-in-Some-clause-followed c = λ undecided holds may. absurd (undecided c.in-Some._holds ((c.said.ensures c.in-Some._holds).0 c.in-Some.is))
