use Rattle.std.proofs.Common.{ap, ◌∙◌, refl, ◌||◌, ◌∷◌, []}
use Rattle.jh_rules.specs.Words.{used_before}
use Rattle.jh_symbols.specs.scopes.Firsts.{is_behind}
use Rattle.jh_type.proofs.checker.Following.{follows-next, follows-end, single, one-used}
use Rattle.jh_ast.specs.declared.program.SpecVar.{SpecVar}
use Rattle.jh_type.proofs.checker.words.add_vars.Goals as goal

pub loop-var-init : goal.loop-var-init
loop-var-init c = λ w. refl

pub loop-var-preserved : goal.loop-var-preserved
loop-var-preserved c = follows-next (λ (a : SpecVar). a.name ∷ []) (is_behind c.args.found.now) (is_behind c.loop-var.found) (is_behind c.add.new.self) c.args.vars.now c.loop-var.var-index c.var-item.result c.loop-var-test.true c.var-item.is (λ w. c.in_ok-add.ensures.behind w ∙ one-used (is_behind c.loop-var.found w) c.var-item.result.name w) c.loop-var.invariant

pub returns : goal.returns
returns c = λ w. follows-end (λ (a : SpecVar). a.name ∷ []) (is_behind c.args.found.now) (is_behind c.loop-var.found) c.args.vars.now c.loop-var.var-index c.loop-var-test.false c.loop-var.invariant w ∙ ap (λ ws. is_behind c.args.found.now w || used_before ws w) (single (λ (a : SpecVar). a.name) c.args.vars.now)
