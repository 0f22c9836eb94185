use Rattle.jh_ast.specs.Bare.{form_tree}
use Rattle.jh_rules.specs.Faults.{both, second_of}
use Rattle.jh_type.specs.formula_kinds.Parts as parts
use Rattle.jh_type.proofs.formula_kinds.operators.read.Goals as goal

pub returns-in-None : goal.returns-in-None
returns-in-None c = λ j m h n. c.stop.ensures (both j m) (λ u. parts.read_of (form_tree c.args.form.now) u.0 (second_of u)) (c.both-found.ensures j m h n) c.in-None.is

pub returns-in-Some : goal.returns-in-Some
returns-in-Some c = λ j m h n. c.after.ensures (both j m) (λ u. parts.read_of (form_tree c.args.form.now) u.0 (second_of u)) _ (c.both-found.ensures j m h n) c.in-Some.is c.read_of.ensures
