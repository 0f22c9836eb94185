use Rattle.std.proofs.Common.{ap, ◌∙◌, refl, ◌||◌, ◌∷◌, []}
use Rattle.jh_rules.specs.Words.{used_before}
use Rattle.jh_symbols.specs.scopes.Firsts.{is_behind}
use Rattle.jh_type.proofs.checker.Following.{follows-next, follows-end, single, one-used}
use Rattle.jh_ast.specs.declared.program.Method.{Method}
use Rattle.jh_type.proofs.checker.words.add_methods.Goals as goal

pub loop-method-init : goal.loop-method-init
loop-method-init c = λ w. refl

pub loop-method-preserved : goal.loop-method-preserved
loop-method-preserved c = follows-next (λ (a : Method). a.name ∷ []) (is_behind c.args.found.now) (is_behind c.loop-method.found) (is_behind c.add.new.self) c.args.methods.now c.loop-method.method-index c.method-item.result c.loop-method-test.true c.method-item.is (λ w. c.in_ok-add.ensures.behind w ∙ one-used (is_behind c.loop-method.found w) c.method-item.result.name w) c.loop-method.invariant

pub returns : goal.returns
returns c = λ w. follows-end (λ (a : Method). a.name ∷ []) (is_behind c.args.found.now) (is_behind c.loop-method.found) c.args.methods.now c.loop-method.method-index c.loop-method-test.false c.loop-method.invariant w ∙ ap (λ ws. is_behind c.args.found.now w || used_before ws w) (single (λ (a : Method). a.name) c.args.methods.now)
