use Rattle.std.proofs.Common.{subst, ◌&&◌}
use Rattle.jh_ast.specs.Bare.{form_tree}
use Rattle.jh_ast.specs.Forms as f
use Rattle.jh_rules.specs.Faults.{both}
use Rattle.jh_rules.specs.Found.{Finds}
use Rattle.jh_rules.specs.Rules.{rule_28}
use Rattle.jh_rules.specs.Kinds.{same_kind}
use Rattle.jh_type.specs.formula_kinds.Parts as parts
use Rattle.jh_type.proofs.formula_kinds.operators.alike.Goals as goal

pub returns-in-None : goal.returns-in-None
returns-in-None c = λ j m h n. c.stop.ensures (both j m) (λ u. rule_28 (same_kind u.0 u.1 && parts.passes c.args.wanted u.0) (f.place_of (form_tree c.args.form.now)) (parts.instead_of c.args.kind u.0)) (c.both-found.ensures j m h n) c.in-None.is

pub returns-in-Some : goal.returns-in-Some
returns-in-Some c = λ j m h n. c.after.ensures (both j m) (λ u. rule_28 (same_kind u.0 u.1 && parts.passes c.args.wanted u.0) (f.place_of (form_tree c.args.form.now)) (parts.instead_of c.args.kind u.0)) _ (c.both-found.ensures j m h n) c.in-Some.is (subst (λ r. Finds c.needs_kind.result r) (λ i. rule_28 (c.both_alike.ensures i) (f.place_of (form_tree c.args.form.now)) (c.instead_of.ensures i)) c.needs_kind.ensures)
