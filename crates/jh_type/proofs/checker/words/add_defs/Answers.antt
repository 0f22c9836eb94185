use Rattle.std.proofs.Common.{ap, ◌∙◌, refl, ◌||◌, ◌∷◌, []}
use Rattle.jh_rules.specs.Words.{used_before}
use Rattle.jh_symbols.specs.scopes.Firsts.{is_behind}
use Rattle.jh_type.proofs.checker.Following.{follows-next, follows-end, single, one-used}
use Rattle.jh_ast.specs.declared.program.VarDef.{VarDef}
use Rattle.jh_type.proofs.checker.words.add_defs.Goals as goal

pub loop-definition-init : goal.loop-definition-init
loop-definition-init c = λ w. refl

pub loop-definition-preserved : goal.loop-definition-preserved
loop-definition-preserved c = follows-next (λ (a : VarDef). a.name ∷ []) (is_behind c.args.found.now) (is_behind c.loop-definition.found) (is_behind c.add.new.self) c.args.defs.now c.loop-definition.definition-index c.definition-item.result c.loop-definition-test.true c.definition-item.is (λ w. c.in_ok-add.ensures.behind w ∙ one-used (is_behind c.loop-definition.found w) c.definition-item.result.name w) c.loop-definition.invariant

pub returns : goal.returns
returns c = λ w. follows-end (λ (a : VarDef). a.name ∷ []) (is_behind c.args.found.now) (is_behind c.loop-definition.found) c.args.defs.now c.loop-definition.definition-index c.loop-definition-test.false c.loop-definition.invariant w ∙ ap (λ ws. is_behind c.args.found.now w || used_before ws w) (single (λ (a : VarDef). a.name) c.args.defs.now)
