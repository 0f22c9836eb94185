use Rattle.std.proofs.Common.{◌∙◌}
use Rattle.jh_form.specs.Closed.{is_closed_fields}
use Rattle.jh_arena.specs.table.Nodes.{nodes}
use Rattle.jh_derivation_rules.specs.Cited.{is_closed_base}
use Rattle.jh_derivation_steps.specs.premises.Nodes.{formula_at, forest_fields}
use Rattle.jh_derivation_steps.proofs.premises.Cited.{forest-formula, forest-closed, and-true}
use Rattle.jh_derivation_steps.proofs.premises.closing.listed.Goals as goal

pub formula-requires : goal.formula-requires
formula-requires c = forest-formula (nodes c.args.table.now) c.args.list c.requires

pub returns : goal.returns
unfolding is_closed_base
returns c =
    let ts = nodes c.args.table.now in
    c.formula.ensures ∙ forest-closed ts c.args.list c.requires ∙ and-true (is_closed_fields (forest_fields (formula_at ts c.args.list)) 0)
