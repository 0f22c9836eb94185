use Rattle.jh_rules.specs.Faults.{given}
use Rattle.jh_type.specs.formula_kinds.Parts as parts
use Rattle.jh_type.proofs.formula_kinds.fields.object_field.Goals as goal

pub returns-in-None : goal.returns-in-None
returns-in-None c = c.stop.ensures (given c.args.entry.kind) (parts.object_field c.args.word.now c.args.entry) c.given-kind.ensures c.in-None.is

pub returns-in-Some : goal.returns-in-Some
returns-in-Some c = c.after.ensures (given c.args.entry.kind) (parts.object_field c.args.word.now c.args.entry) _ c.given-kind.ensures c.in-Some.is c.needs_object.ensures
