use Rattle.std.proofs.Common.{◌≡◌, true, subst}
use Rattle.jh_arena.specs.declared.table.shapes.Shape.{Shape}
use Rattle.jh_arena.specs.table.Nodes.{nodes, fits_in}
use Rattle.jh_arena.proofs.table.PartSteps.{part-FreeObject-n, part-FreeNumber-n, part-FreeTruth-n, part-FreeSet-n}
use Rattle.jh_command_statements.proofs.simple_statements.LeftSteps.{some-within}
use Rattle.jh_command_statements.proofs.simple_statements.lefts.left_of.Goals as goal

pub name_left-requires : goal.name_left-requires
name_left-requires c =
    let t = c.args.table.now in
    some-within t.pools.names c.in-FreeObject.number (part-FreeObject-n t.pools (nodes t) c.in-FreeObject.number (subst (λ (x : Shape). fits_in t x ≡ true) c.in-FreeObject.is c.shape.ensures.fits))

pub name_left-requires-in-FreeNumber : goal.name_left-requires-in-FreeNumber
name_left-requires-in-FreeNumber c =
    let t = c.args.table.now in
    some-within t.pools.names c.in-FreeNumber.number (part-FreeNumber-n t.pools (nodes t) c.in-FreeNumber.number (subst (λ (x : Shape). fits_in t x ≡ true) c.in-FreeNumber.is c.shape.ensures.fits))

pub name_left-requires-in-FreeTruth : goal.name_left-requires-in-FreeTruth
name_left-requires-in-FreeTruth c =
    let t = c.args.table.now in
    some-within t.pools.names c.in-FreeTruth.number (part-FreeTruth-n t.pools (nodes t) c.in-FreeTruth.number (subst (λ (x : Shape). fits_in t x ≡ true) c.in-FreeTruth.is c.shape.ensures.fits))

pub name_left-requires-in-FreeSet : goal.name_left-requires-in-FreeSet
name_left-requires-in-FreeSet c =
    let t = c.args.table.now in
    some-within t.pools.names c.in-FreeSet.number (part-FreeSet-n t.pools (nodes t) c.in-FreeSet.number (subst (λ (x : Shape). fits_in t x ≡ true) c.in-FreeSet.is c.shape.ensures.fits))
