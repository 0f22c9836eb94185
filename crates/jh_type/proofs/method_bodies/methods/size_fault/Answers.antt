use Rattle.std.proofs.Common.{ap, ◌∙◌, nat_lt}
use Rattle.jh_ast.specs.Bare.{stmt_trees, method_part}
use Rattle.jh_rules.specs.Faults.{broken}
use Rattle.jh_rules.specs.Found.{least}
use Rattle.jh_rules.specs.Scopes.{all_counted}
use Rattle.jh_type.proofs.method_bodies.Wholes.{long-is}
use Rattle.jh_type.proofs.method_bodies.methods.size_fault.Goals as goal

pub returns : goal.returns
unfolding method_part
returns c = c.broken.ensures ∙ ap (λ b. least (broken 32 c.args.method.now.name.place b)) (c.is_long.ensures ∙ ap (nat_lt 256) c.all_counted.ensures ∙ long-is (all_counted (stmt_trees c.items.result.now)) ∙ ap (λ ss. nat_lt 256 (all_counted (stmt_trees ss))) c.items.ensures)
