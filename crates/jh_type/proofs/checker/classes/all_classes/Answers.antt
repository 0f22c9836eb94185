use Rattle.std.proofs.Common.{sym, ◌∙◌, refl}
use Rattle.jh_symbols.specs.scopes.Firsts.{is_behind}
use Rattle.jh_symbols.specs.scopes.Lookings.{declared_by}
use Rattle.jh_type.proofs.checker.Joining.{classes-next, classes-end}
use Rattle.jh_type.proofs.checker.classes.all_classes.Goals as goal

pub loop-index-init : goal.loop-index-init
loop-index-init c = refl

pub loop-index-preserved : goal.loop-index-preserved
loop-index-preserved c = classes-next (declared_by c.args.lookups.now) (is_behind c.args.names.now) c.args.classes.now c.loop-index.index c.index-classes-index.result c.loop-index.found c.lesser-found.result _ c.loop-index-test.true c.index-classes-index.is c.in_ok-next.ensures c.lesser-found.ensures ∙ c.loop-index.invariant

pub returns : goal.returns
returns c = sym (classes-end (declared_by c.args.lookups.now) (is_behind c.args.names.now) c.args.classes.now c.loop-index.index c.loop-index.found c.loop-index-test.false) ∙ c.loop-index.invariant
