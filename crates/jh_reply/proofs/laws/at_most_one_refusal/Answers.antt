use Rattle.jh_reply.proofs.Apart.{one-number, one-place, one-name, one-method, refused-typed, refused-crowded, refused-circular, ill-crowded, ill-circular, circular-crowded}
use Rattle.jh_reply.proofs.laws.at_most_one_refusal.Goals as goal

pub returns-clause-number : goal.returns-clause-number
returns-clause-number c = one-number

pub returns-clause-place : goal.returns-clause-place
returns-clause-place c = one-place

pub returns-clause-typed : goal.returns-clause-typed
returns-clause-typed c = refused-typed

pub returns-clause-spelled : goal.returns-clause-spelled
returns-clause-spelled c = refused-crowded

pub returns-clause-apart : goal.returns-clause-apart
returns-clause-apart c = ill-crowded

pub returns-clause-circular : goal.returns-clause-circular
returns-clause-circular c = refused-circular

pub returns-clause-ordered : goal.returns-clause-ordered
returns-clause-ordered c = ill-circular

pub returns-clause-acyclic : goal.returns-clause-acyclic
returns-clause-acyclic c = circular-crowded

pub returns-clause-name : goal.returns-clause-name
returns-clause-name c = one-name

pub returns-clause-method : goal.returns-clause-method
returns-clause-method c = one-method c.too_many_is_exact.ensures.first
