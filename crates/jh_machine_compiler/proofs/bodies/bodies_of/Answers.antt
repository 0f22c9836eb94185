use Rattle.jh_machine_compiler.proofs.Growing.{if-ok}
use Rattle.jh_machine_compiler.proofs.BodySteps.{bodies-are}
use Rattle.jh_machine_compiler.proofs.bodies.bodies_of.Goals as goal

pub returns-clause-bodies : goal.returns-clause-bodies
returns-clause-bodies c = if-ok c.all_bodies.result (λ made h p q f has later u grows extends. bodies-are p c.args.source.now q c.all_bodies.new.names later c.all_bodies.new.table u made.items has (h p f) grows extends) c.all_bodies.ensures.are
