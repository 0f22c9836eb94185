use Rattle.std.proofs.Common.{ap, ◌∙◌, true}
use Rattle.jh_rules.specs.Faults.{each}
use Rattle.jh_symbols.specs.scopes.Lookings.{declared_by}
use Rattle.jh_type.specs.formula_kinds.Parts as parts
use Rattle.jh_type.proofs.formula_kinds.Gathering.{gathers-start, gathers-next, each-none, each-more, gathers-end}
use Rattle.jh_type.proofs.formula_kinds.fields.fields_known.Goals as goal

pub loop-word-init : goal.loop-word-init
loop-word-init c = gathers-start (λ x. true) (parts.field_state (declared_by c.args.lookups.now) c.args.class) (each (parts.field_state (declared_by c.args.lookups.now) c.args.class)) (each-none (parts.field_state (declared_by c.args.lookups.now) c.args.class)) (each-more (parts.field_state (declared_by c.args.lookups.now) c.args.class)) c.args.words.now c.right-found.result c.right-found.ensures

pub loop-word-preserved : goal.loop-word-preserved
loop-word-preserved c = gathers-next (λ x. true) (parts.field_state (declared_by c.args.lookups.now) c.args.class) (each (parts.field_state (declared_by c.args.lookups.now) c.args.class)) (each-none (parts.field_state (declared_by c.args.lookups.now) c.args.class)) (each-more (parts.field_state (declared_by c.args.lookups.now) c.args.class)) c.args.words.now c.loop-word.word-index c.word-item.result c.loop-word.found c.merge-found.result c.field_state.result c.loop-word-test.true c.word-item.is c.field_state.ensures (c.merge-found.ensures ∙ ap (parts.merged c.loop-word.found) c.note_known.ensures) c.loop-word.invariant

pub returns : goal.returns
returns c = gathers-end (λ x. true) (parts.field_state (declared_by c.args.lookups.now) c.args.class) (each (parts.field_state (declared_by c.args.lookups.now) c.args.class)) (each-none (parts.field_state (declared_by c.args.lookups.now) c.args.class)) (each-more (parts.field_state (declared_by c.args.lookups.now) c.args.class)) c.args.words.now c.loop-word.word-index c.loop-word.found c.loop-word-test.false c.loop-word.invariant
