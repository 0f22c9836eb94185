use Rattle.std.proofs.Common.{◌≡◌, true, slice_get, subst}
use Rattle.jh_form.specs.Tree.{of_field}
use Rattle.jh_arena.specs.declared.table.shapes.Shape.{Shape}
use Rattle.jh_arena.specs.table.Entries.{the_field}
use Rattle.jh_arena.specs.table.Nodes.{nodes, fits_in}
use Rattle.jh_arena.proofs.table.Children.{it-is-field}
use Rattle.jh_arena.proofs.table.Listed.{node-inside}
use Rattle.jh_arena.proofs.table.PartSteps.{part-FreeField-n}
use Rattle.jh_command_statements.proofs.simple_statements.LeftSteps.{some-within}
use Rattle.jh_command_statements.proofs.simple_statements.lefts.read_left.Goals as goal

pub shape-requires : goal.shape-requires
shape-requires c =
    let t = c.args.table.now in
    node-inside t c.args.field (of_field (the_field (slice_get (nodes t) c.args.field))) (it-is-field (slice_get (nodes t) c.args.field) c.requires.field)

pub name_of-requires : goal.name_of-requires
name_of-requires c =
    let t = c.args.table.now in
    some-within t.pools.names c.in-FreeField.number (part-FreeField-n t.pools (nodes t) c.in-FreeField.number (subst (λ (x : Shape). fits_in t x ≡ true) c.in-FreeField.is c.shape.ensures.fits))
