use Rattle.std.proofs.Common.{sym, ◌∙◌, arith}
use Rattle.jh_query.specs.queries.Bare.{cond_tree}
use Rattle.jh_query.proofs.partial_truth.Tellings.{tells-chosen}
use Rattle.jh_query.proofs.partial_truth.judging.chosen_truth.Goals as goal

pub returns-then-same_atom-clause-tells : goal.returns-then-same_atom-clause-tells
returns-then-same_atom-clause-tells c = λ s. tells-chosen s c.args.atoms.now (cond_tree c.args.cond.now) c.loop-place.place c.index-atoms-place.result _ (omega arith) c.index-atoms-place.is (sym c.same_atom.ensures ∙ c.if-same_atom.true) c.case_truth.ensures
