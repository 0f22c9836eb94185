use Rattle.std.proofs.Common.{ap, sym, ◌∙◌}
use Rattle.std.specs.Option.{option_map_or}
use Rattle.jh_form.specs.Tree as t
use Rattle.jh_arena.specs.table.Entries.{are_fields, fields_at}
use Rattle.jh_arena.specs.table.Nodes.{nodes}
use Rattle.jh_resolution.specs.Spots.{fields_in}
use Rattle.jh_resolution.proofs.fields.path_nodes.Goals as goal

-- src/fields.rt
pub returns-in-None-clause-fields : goal.returns-in-None-clause-fields
unfolding are_fields
returns-in-None-clause-fields c = ap (are_fields (nodes c.args.table.now)) c.new.ensures.items

-- src/fields.rt
pub returns-in-None-clause-trees : goal.returns-in-None-clause-trees
unfolding fields_at
returns-in-None-clause-trees c =
    ap (fields_at (nodes c.args.table.now)) c.new.ensures.items ∙ ap (λ o. option_map_or (fields_in c.args.context.now c.args.at.now) o t.none) (sym c.in-None.is ∙ c.in_ok-equation_fields.ensures)
