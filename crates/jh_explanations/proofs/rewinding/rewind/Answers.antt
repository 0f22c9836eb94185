use Rattle.std.proofs.Common.{◌∙◌, arith}
use Rattle.jh_explanations.proofs.Readiness.{rewound}
use Rattle.jh_explanations.proofs.rewinding.rewind.Goals as goal

pub returns-clause-quiet : goal.returns-clause-quiet
returns-clause-quiet c = rewound c.args.problem.now c.args.classes.now c.undo.new.self c.args.trail.now c.truncate.new.self c.shared-count.result c.requires.ready (omega arith) c.undo.ensures c.truncate.ensures

pub returns-clause-trail : goal.returns-clause-trail
returns-clause-trail c = c.truncate.ensures ∙ c.shared-count.ensures.same
