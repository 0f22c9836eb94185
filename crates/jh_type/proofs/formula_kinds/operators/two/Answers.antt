use Rattle.std.proofs.Common.{subst, ◌&&◌}
use Rattle.jh_ast.specs.Bare.{form_tree}
use Rattle.jh_ast.specs.Forms as f
use Rattle.jh_rules.specs.Faults.{both}
use Rattle.jh_rules.specs.Found.{Finds}
use Rattle.jh_rules.specs.Rules.{rule_28}
use Rattle.jh_type.specs.formula_kinds.Parts as parts
use Rattle.jh_type.proofs.formula_kinds.operators.two.Goals as goal

pub returns-in-None : goal.returns-in-None
returns-in-None c = λ j m h n. c.stop.ensures (both j m) (λ u. rule_28 (parts.passes c.args.first u.0 && parts.passes c.args.second u.1) (f.place_of (form_tree c.args.form.now)) c.args.kind) (c.both-found.ensures j m h n) c.in-None.is

pub returns-in-Some : goal.returns-in-Some
returns-in-Some c = λ j m h n. c.after.ensures (both j m) (λ u. rule_28 (parts.passes c.args.first u.0 && parts.passes c.args.second u.1) (f.place_of (form_tree c.args.form.now)) c.args.kind) _ (c.both-found.ensures j m h n) c.in-Some.is (subst (λ b. Finds c.needs_kind.result (rule_28 b (f.place_of (form_tree c.args.form.now)) c.args.kind)) c.both_pass.ensures c.needs_kind.ensures)
