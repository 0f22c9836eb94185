use Rattle.std.proofs.Common.{ap, ◌∙◌, refl, ◌||◌, ◌∷◌, []}
use Rattle.jh_rules.specs.Words.{used_before}
use Rattle.jh_symbols.specs.scopes.Firsts.{is_behind}
use Rattle.jh_type.proofs.checker.Following.{follows-next, follows-end, single, one-used}
use Rattle.jh_ast.specs.declared.program.Class.{Class}
use Rattle.jh_type.proofs.checker.words.add_classes.Goals as goal

pub loop-class-init : goal.loop-class-init
loop-class-init c = λ w. refl

pub loop-class-preserved : goal.loop-class-preserved
loop-class-preserved c = follows-next (λ (a : Class). a.name ∷ []) (is_behind c.args.found.now) (is_behind c.loop-class.found) (is_behind c.add.new.self) c.args.classes.now c.loop-class.class-index c.class-item.result c.loop-class-test.true c.class-item.is (λ w. c.in_ok-add.ensures.behind w ∙ one-used (is_behind c.loop-class.found w) c.class-item.result.name w) c.loop-class.invariant

pub returns : goal.returns
returns c = λ w. follows-end (λ (a : Class). a.name ∷ []) (is_behind c.args.found.now) (is_behind c.loop-class.found) c.args.classes.now c.loop-class.class-index c.loop-class-test.false c.loop-class.invariant w ∙ ap (λ ws. is_behind c.args.found.now w || used_before ws w) (single (λ (a : Class). a.name) c.args.classes.now)
