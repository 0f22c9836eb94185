use Rattle.std.proofs.Common.{ap, ◌∙◌, refl, ◌||◌, ◌∷◌, []}
use Rattle.jh_rules.specs.Words.{used_before}
use Rattle.jh_symbols.specs.scopes.Firsts.{is_behind}
use Rattle.jh_type.proofs.checker.Following.{follows-next, follows-end, single, one-used}
use Rattle.jh_ast.specs.declared.program.Field.{Field}
use Rattle.jh_type.proofs.checker.words.add_fields.Goals as goal

pub loop-field-init : goal.loop-field-init
loop-field-init c = λ w. refl

pub loop-field-preserved : goal.loop-field-preserved
loop-field-preserved c = follows-next (λ (a : Field). a.name ∷ []) (is_behind c.args.found.now) (is_behind c.loop-field.found) (is_behind c.add.new.self) c.args.fields.now c.loop-field.field-index c.field-item.result c.loop-field-test.true c.field-item.is (λ w. c.in_ok-add.ensures.behind w ∙ one-used (is_behind c.loop-field.found w) c.field-item.result.name w) c.loop-field.invariant

pub returns : goal.returns
returns c = λ w. follows-end (λ (a : Field). a.name ∷ []) (is_behind c.args.found.now) (is_behind c.loop-field.found) c.args.fields.now c.loop-field.field-index c.loop-field-test.false c.loop-field.invariant w ∙ ap (λ ws. is_behind c.args.found.now w || used_before ws w) (single (λ (a : Field). a.name) c.args.fields.now)
