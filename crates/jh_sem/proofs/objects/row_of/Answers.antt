use Rattle.std.proofs.Common.{rules, ◌≡◌, ◌+◌, ◌<◌, ◌++◌, ◌∷◌, [], ℕ, suc, List, Some, length, slice_get, slice_index, sym, ap, subst, ◌∙◌, arith, add-one}
use Rattle.jh_form.specs.Meaning.{field_value}
use Rattle.jh_arena.specs.table.Entries.{the_field}
use Rattle.jh_arena.specs.table.Nodes.{nodes}
use Rattle.jh_sem.specs.Bounds.{bound_list}
use Rattle.jh_sem.proofs.Tabulated.{length-pushed, inside-pushed, objects-pushed}
use Rattle.jh_sem.proofs.objects.row_of.Goals as goal

pub loop-place-preserved : goal.loop-place-preserved
loop-place-preserved g c =
    let known = c.loop-place.invariant in
    let old = c.loop-place.row.items in
    let o = c.in_ok-object.object in
    let pushed = sym c.in_ok-push.ensures.items in
    record {
      counted = ap length (sym pushed) ∙ length-pushed old o c.loop-place.place known.counted;
      inside = subst (λ (xs : List ℕ). (j x : ℕ) → slice_get xs j ≡ Some x → x < suc (g.W.World.meaning c.args.world.now).last) pushed (inside-pushed (g.W.World.meaning c.args.world.now).last old o c.in_ok-object.ensures.inside known.inside);
      objects = subst (λ (xs : List ℕ). (x : ℕ) → x < c.loop-place.place + 1 → slice_index xs x ≡ (field_value (the_field (slice_get (nodes (g.W.World.listing c.args.world.now)) c.args.node)) (g.W.World.meaning c.args.world.now) (bound_list c.args.bound.now)).objects x) pushed
          (objects-pushed (field_value (the_field (slice_get (nodes (g.W.World.listing c.args.world.now)) c.args.node)) (g.W.World.meaning c.args.world.now) (bound_list c.args.bound.now)).objects old o c.loop-place.place known.counted c.in_ok-object.ensures.value known.objects);
    }
