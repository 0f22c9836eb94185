use Rattle.std.proofs.Common.{refl}
use Rattle.jh_symbols.specs.scopes.Firsts.{is_behind}
use Rattle.jh_type.specs.checker.Parts.{words_of}
use Rattle.jh_type.proofs.checker.Following.{follows-next, follows-end}
use Rattle.jh_type.proofs.checker.words.add_labels.Goals as goal

pub loop-invariant-init : goal.loop-invariant-init
loop-invariant-init c = λ w. refl

pub loop-invariant-preserved : goal.loop-invariant-preserved
loop-invariant-preserved c = follows-next words_of (is_behind c.args.found.now) (is_behind c.loop-invariant.found) (is_behind c.add_label.new.found) c.args.invariants.now c.loop-invariant.invariant-index c.invariant-item.result c.loop-invariant-test.true c.invariant-item.is c.in_ok-add_label.ensures c.loop-invariant.invariant

pub returns : goal.returns
returns c = follows-end words_of (is_behind c.args.found.now) (is_behind c.loop-invariant.found) c.args.invariants.now c.loop-invariant.invariant-index c.loop-invariant-test.false c.loop-invariant.invariant
