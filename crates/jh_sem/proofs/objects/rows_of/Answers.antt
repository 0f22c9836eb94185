use Rattle.std.proofs.Common.{rules, ◌≡◌, ◌+◌, ◌<◌, ◌++◌, ◌∷◌, [], ℕ, suc, List, Some, length, slice_get, slice_index, sym, ap, subst, ◌∙◌, arith, add-one}
use Rattle.std.proofs.lemmas.Result.{err_from_is_err_and}
use Rattle.jh_arena.specs.table.Nodes.{nodes}
use Rattle.jh_sem.specs.Bounds.{bound_list}
use Rattle.jh_sem.specs.Graphs.{AreRows}
use Rattle.jh_sem.proofs.Tabulated.{length-pushed, wide-item, rows-more, objects-more, same-rows, ListObjects}
use Rattle.jh_sem.proofs.objects.rows_of.Goals as goal

pub loop-field-preserved : goal.loop-field-preserved
loop-field-preserved g c =
    let known = c.loop-field.invariant in
    let old = c.loop-field.rows.items in
    let m = g.W.World.meaning c.args.world.now in
    let ts = nodes (g.W.World.listing c.args.world.now) in
    let e = bound_list c.args.bound.now in
    let row = c.in_ok-row.row in
    let pushed = sym c.in_ok-push.ensures.items in
    record {
      counted = ap length (sym pushed) ∙ length-pushed old row c.loop-field.field-index known.counted;
      rows = subst (λ (rs : List (List ℕ)). AreRows m.last rs) pushed (rows-more m.last old row known.rows c.in_ok-row.ensures.row);
      objects = subst (λ (rs : List (List ℕ)). ListObjects m.last m e ts c.args.fields.now rs) pushed (objects-more m.last m e ts c.args.fields.now old row c.loop-field.field-index (sym known.counted) c.loop-field-test.true known.objects c.in_ok-row.ensures.value);
    }

pub returns-clause-value : goal.returns-clause-value
returns-clause-value g c =
    let known = c.loop-field.invariant in
    let m = g.W.World.meaning c.args.world.now in
    same-rows m.last m (bound_list c.args.bound.now) (nodes (g.W.World.listing c.args.world.now)) c.args.fields.now c.loop-field.rows.items (search (rules, arith)) known.objects

pub returns-in_err-row-clause-wide : goal.returns-in_err-row-clause-wide
returns-in_err-row-clause-wide g c =
    let p = err_from_is_err_and c.from_residual.result c.from_residual.ensures.1 in
    rw (p.1, p.2) (λ wide v parts. wide-item (g.W.World.meaning c.args.world.now) (nodes (g.W.World.listing c.args.world.now)) c.args.fields.now c.loop-field.field-index c.loop-field-test.true (c.in_err-row.ensures.wide wide) v parts)
