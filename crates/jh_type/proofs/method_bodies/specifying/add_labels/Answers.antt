use Rattle.std.proofs.Common.{sym, ◌∙◌}
use Rattle.jh_symbols.specs.scopes.Lookings.{scope_by}
use Rattle.jh_type.proofs.method_bodies.Scopings.{labels-next, labels-end}
use Rattle.jh_type.proofs.method_bodies.specifying.add_labels.Goals as goal

pub loop-invariant-preserved : goal.loop-invariant-preserved
loop-invariant-preserved c = record {
  scope = labels-next (scope_by c.loop-invariant.at) (scope_by c.add_label.new.at) c.args.invariants.now c.loop-invariant.invariant-index c.invariant-item.result c.loop-invariant-test.true c.invariant-item.is c.in_ok-add_label.ensures.scope ∙ c.loop-invariant.invariant.scope;
  undos = c.in_ok-add_label.ensures.undos ∙ c.loop-invariant.invariant.undos;
}

pub returns-clause-scope : goal.returns-clause-scope
returns-clause-scope c = sym (labels-end (scope_by c.loop-invariant.at) c.args.invariants.now c.loop-invariant.invariant-index c.loop-invariant-test.false) ∙ c.loop-invariant.invariant.scope

pub returns-clause-undos : goal.returns-clause-undos
returns-clause-undos c = c.loop-invariant.invariant.undos
