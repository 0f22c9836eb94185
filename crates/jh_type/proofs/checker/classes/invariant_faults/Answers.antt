use Rattle.std.proofs.Common.{ap, ◌∙◌, map}
use Rattle.std.specs.List.{flat_map}
use Rattle.jh_ast.specs.Bare.{labelled_part}
use Rattle.jh_rules.specs.Found.{least}
use Rattle.jh_symbols.specs.scopes.Lookings.{declared_by}
use Rattle.jh_type.specs.checker.Parts as parts
use Rattle.jh_type.proofs.checker.classes.invariant_faults.Goals as goal

pub returns : goal.returns
returns c = c.in_ok-found.ensures ∙ ap (λ s. least (flat_map (parts.invariant_in (declared_by c.args.lookups.now) s) (map labelled_part c.args.invariants.now))) c.outermost-at.ensures
