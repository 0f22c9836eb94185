use Rattle.jh_guard.specs.Terms.{is_not_null}
use Rattle.jh_command_terms.proofs.terms.CheckSteps.{adds-one}
use Rattle.jh_command_terms.proofs.terms.checks.push_not_null.Goals as goal

pub returns-clause-checks : goal.returns-clause-checks
returns-clause-checks c = λ a h. adds-one c.not_null.new.table c.args.checks.now.items c.push.new.self.items c.args.place c.in_ok-fact.fact (is_not_null a) c.in_ok-push.ensures.items (c.in_ok-fact.ensures.node a h)
