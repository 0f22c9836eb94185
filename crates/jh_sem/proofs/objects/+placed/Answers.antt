use Rattle.std.proofs.Common.{rules, ◌≡◌, ◌<◌, true, sym, ◌∙◌, slice_get, arith}
use Rattle.jh_name.specs.declared.place.Sort.TheVariants as Sort
use Rattle.jh_form.specs.Sorts.{tree_sort}
use Rattle.jh_arena.specs.table.Entries.{is_object, the_value}
use Rattle.jh_arena.specs.table.Nodes.{nodes}
use Rattle.jh_export.proofs.ValueSteps.{term-else, field-else, below-Update-c}
use Rattle.jh_sem.proofs.Updates.{sorted-object}
use Rattle.jh_sem.proofs.objects.+placed.Goals as goal

pub object_of-unreachable-requires : goal.object_of-unreachable-requires
object_of-unreachable-requires g t c =
    term-else (g.W.World.listing c.args.world.now) c.args.node c.standing.result c.standing.ensures c.requires.sort
    c.in_default.not-Bound c.in_default.not-FreeObject c.in_default.not-Null c.in_default.not-ReadObject

pub object_in-unreachable-requires : goal.object_in-unreachable-requires
object_in-unreachable-requires g t c =
    field-else (g.W.World.listing c.args.world.now) c.args.node c.standing.result c.standing.ensures c.requires.sort
    c.in_default.not-FreeField c.in_default.not-Update

pub object_updated-object_of-requires-in-Obj : goal.object_updated-object_of-requires-in-Obj
object_updated-object_of-requires-in-Obj g t c κs within =
    let table = g.W.World.listing c.args.world.now in
    let is : tree_sort (the_value (slice_get (nodes table) c.args.c)) ≡ Sort.Obj = sym c.sort_of.ensures ∙ c.in-Obj.is in
    let sorted : is_object (slice_get (nodes table) c.args.c) ≡ true = sorted-object table c.args.node (g.W.World.meaning c.args.world.now) c.args.a c.args.b c.args.c c.requires.stands is in
    let below : c.args.c < c.args.node = below-Update-c table c.args.node c.args.a c.args.b c.args.c c.requires.stands in
    search (rules, arith)
