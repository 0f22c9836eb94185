use Rattle.std.proofs.Common.{◌≡◌, refl, sym, ap, ◌∙◌, Some, slice_get}
use Rattle.std.proofs.lemmas.Result.{IfOk-weaker}
use Rattle.jh_form.specs.Tree.{TermTree, FieldTree, FormulaTree, ValueTree, of_object, of_field, of_truth}
use Rattle.jh_form.specs.Tree as t
use Rattle.jh_arena.specs.table.Entries.{the_field}
use Rattle.jh_arena.specs.table.Nodes.{nodes}
use Rattle.jh_approx.specs.jh_derivation_rules.Rules.{at_each}
use Rattle.jh_reach.proofs.NodeSteps.{holds-field, holds-object, holds-formula}
use Rattle.jh_local_form.specs.updates.Describing.{read_as, same_as, told_as}
use Rattle.jh_local_form.proofs.updates.Described.{read-sort, held-grows}
use Rattle.jh_local_form.proofs.updates.describing.told_as.Goals as goal

pub read_as-requires-clause-field : goal.read_as-requires-clause-field
read_as-requires-clause-field c = holds-field (slice_get (nodes c.bound.new.table) c.args.new) _ (c.bound.ensures.grows.nodes.keeps c.args.new _ c.requires.new)

pub read_as-requires-clause-object : goal.read_as-requires-clause-object
read_as-requires-clause-object c = holds-object (slice_get (nodes c.bound.new.table) c.in_ok-object.object) _ c.in_ok-object.ensures.node

pub read_as-requires-2-clause-field : goal.read_as-requires-2-clause-field
read_as-requires-2-clause-field c =
    holds-field (slice_get (nodes c.read_as.new.table) c.args.old) _ (c.read_as.ensures.grows.nodes.keeps c.args.old _ (c.bound.ensures.grows.nodes.keeps c.args.old _ c.requires.old))

pub read_as-requires-2-clause-object : goal.read_as-requires-2-clause-object
read_as-requires-2-clause-object c = holds-object (slice_get (nodes c.read_as.new.table) c.in_ok-object.object) _ (c.read_as.ensures.grows.nodes.keeps c.in_ok-object.object _ c.in_ok-object.ensures.node)

pub same_as-requires-clause-a : goal.same_as-requires-clause-a
same_as-requires-clause-a c =
    let g = the_field (slice_get (nodes c.args.table.now) c.args.new) in
    record {
      value = read_as c.args.sort g (t.bound 0);
      there = c.read_as-2.ensures.grows.nodes.keeps c.in_ok-after.after _ (c.in_ok-after.ensures.node g (t.bound 0) (c.bound.ensures.grows.nodes.keeps c.args.new _ c.requires.new) c.in_ok-object.ensures.node);
      sort = read-sort c.args.sort g (t.bound 0);
    }

pub same_as-requires-clause-b : goal.same_as-requires-clause-b
same_as-requires-clause-b c =
    held-grows (nodes c.read_as.new.table) (nodes c.read_as-2.new.table) c.read_as-2.ensures.grows.nodes c.args.sort c.args.value
    (held-grows (nodes c.bound.new.table) (nodes c.read_as.new.table) c.read_as.ensures.grows.nodes c.args.sort c.args.value
    (held-grows (nodes c.args.table.now) (nodes c.bound.new.table) c.bound.ensures.grows.nodes c.args.sort c.args.value c.requires.value))

pub same_as-requires-2-clause-a : goal.same_as-requires-2-clause-a
same_as-requires-2-clause-a c =
    let g = the_field (slice_get (nodes c.args.table.now) c.args.new) in
    record {
      value = read_as c.args.sort g (t.bound 0);
      there = c.same_as.ensures.grows.nodes.keeps c.in_ok-after.after _ (c.read_as-2.ensures.grows.nodes.keeps c.in_ok-after.after _ (c.in_ok-after.ensures.node g (t.bound 0) (c.bound.ensures.grows.nodes.keeps c.args.new _ c.requires.new) c.in_ok-object.ensures.node));
      sort = read-sort c.args.sort g (t.bound 0);
    }

pub same_as-requires-2-clause-b : goal.same_as-requires-2-clause-b
same_as-requires-2-clause-b c =
    let f = the_field (slice_get (nodes c.args.table.now) c.args.old) in
    record {
      value = read_as c.args.sort f (t.bound 0);
      there = c.same_as.ensures.grows.nodes.keeps c.in_ok-before.before _
          (c.in_ok-before.ensures.node f (t.bound 0) (c.read_as.ensures.grows.nodes.keeps c.args.old _ (c.bound.ensures.grows.nodes.keeps c.args.old _ c.requires.old)) (c.read_as.ensures.grows.nodes.keeps c.in_ok-object.object _ c.in_ok-object.ensures.node));
      sort = read-sort c.args.sort f (t.bound 0);
    }

pub at_each-requires-clause-at : goal.at_each-requires-clause-at
at_each-requires-clause-at c =
    holds-object (slice_get (nodes c.same_as-2.new.table) c.args.at) _
    (c.same_as-2.ensures.grows.nodes.keeps c.args.at _ (c.same_as.ensures.grows.nodes.keeps c.args.at _ (c.read_as-2.ensures.grows.nodes.keeps c.args.at _ (c.read_as.ensures.grows.nodes.keeps c.args.at _ (c.bound.ensures.grows.nodes.keeps c.args.at _ c.requires.at)))))

pub at_each-requires-clause-this : goal.at_each-requires-clause-this
at_each-requires-clause-this c =
    let g = the_field (slice_get (nodes c.args.table.now) c.args.new) in
    let v = c.requires.value.value in
    holds-formula (slice_get (nodes c.same_as-2.new.table) c.in_ok-here.here) _
    (c.same_as-2.ensures.grows.nodes.keeps c.in_ok-here.here _
    (c.in_ok-here.ensures.node (read_as c.args.sort g (t.bound 0)) v
    (c.read_as-2.ensures.grows.nodes.keeps c.in_ok-after.after _ (c.in_ok-after.ensures.node g (t.bound 0) (c.bound.ensures.grows.nodes.keeps c.args.new _ c.requires.new) c.in_ok-object.ensures.node))
    (c.read_as-2.ensures.grows.nodes.keeps c.args.value v (c.read_as.ensures.grows.nodes.keeps c.args.value v (c.bound.ensures.grows.nodes.keeps c.args.value v c.requires.value.there)))))

pub at_each-requires-clause-that : goal.at_each-requires-clause-that
at_each-requires-clause-that c =
    let g = the_field (slice_get (nodes c.args.table.now) c.args.new) in
    let f = the_field (slice_get (nodes c.args.table.now) c.args.old) in
    holds-formula (slice_get (nodes c.same_as-2.new.table) c.in_ok-elsewhere.elsewhere) _
    (c.in_ok-elsewhere.ensures.node (read_as c.args.sort g (t.bound 0)) (read_as c.args.sort f (t.bound 0))
    (c.same_as.ensures.grows.nodes.keeps c.in_ok-after.after _ (c.read_as-2.ensures.grows.nodes.keeps c.in_ok-after.after _ (c.in_ok-after.ensures.node g (t.bound 0) (c.bound.ensures.grows.nodes.keeps c.args.new _ c.requires.new) c.in_ok-object.ensures.node)))
    (c.same_as.ensures.grows.nodes.keeps c.in_ok-before.before _
    (c.in_ok-before.ensures.node f (t.bound 0) (c.read_as.ensures.grows.nodes.keeps c.args.old _ (c.bound.ensures.grows.nodes.keeps c.args.old _ c.requires.old)) (c.read_as.ensures.grows.nodes.keeps c.in_ok-object.object _ c.in_ok-object.ensures.node))))

pub returns-clause-node : goal.returns-clause-node
returns-clause-node c =
    let t0 = nodes c.args.table.now in
    let t6 = nodes c.at_each.new.table in
    IfOk-weaker
    c.at_each.result
    (λ made. (a : TermTree) (p q : FormulaTree) → slice_get (nodes c.same_as-2.new.table) c.args.at ≡ Some (of_object a) → slice_get (nodes c.same_as-2.new.table) c.in_ok-here.here ≡ Some (of_truth p) → slice_get (nodes c.same_as-2.new.table) c.in_ok-elsewhere.elsewhere ≡ Some (of_truth q) → slice_get t6 made ≡ Some (of_truth (at_each a p q)))
    (λ made. (g f : FieldTree) (a : TermTree) (v : ValueTree) → slice_get t0 c.args.new ≡ Some (of_field g) → slice_get t0 c.args.old ≡ Some (of_field f) → slice_get t0 c.args.at ≡ Some (of_object a) → slice_get t0 c.args.value ≡ Some v → slice_get t6 made ≡ Some (of_truth (told_as c.args.sort g f a v)))
    (λ made h g f a v hg hf ha hv.
    let after1 = c.in_ok-after.ensures.node g (t.bound 0) (c.bound.ensures.grows.nodes.keeps c.args.new _ hg) c.in_ok-object.ensures.node in
    let before1 = c.in_ok-before.ensures.node f (t.bound 0) (c.read_as.ensures.grows.nodes.keeps c.args.old _ (c.bound.ensures.grows.nodes.keeps c.args.old _ hf)) (c.read_as.ensures.grows.nodes.keeps c.in_ok-object.object _ c.in_ok-object.ensures.node) in
    let after2 = c.read_as-2.ensures.grows.nodes.keeps c.in_ok-after.after _ after1 in
    let value2 = c.read_as-2.ensures.grows.nodes.keeps c.args.value v (c.read_as.ensures.grows.nodes.keeps c.args.value v (c.bound.ensures.grows.nodes.keeps c.args.value v hv)) in
    let at5 =
    c.same_as-2.ensures.grows.nodes.keeps c.args.at _ (c.same_as.ensures.grows.nodes.keeps c.args.at _ (c.read_as-2.ensures.grows.nodes.keeps c.args.at _ (c.read_as.ensures.grows.nodes.keeps c.args.at _ (c.bound.ensures.grows.nodes.keeps c.args.at _ ha)))) in
    h a (same_as (read_as c.args.sort g (t.bound 0)) v) (same_as (read_as c.args.sort g (t.bound 0)) (read_as c.args.sort f (t.bound 0))) at5
    (c.same_as-2.ensures.grows.nodes.keeps c.in_ok-here.here _ (c.in_ok-here.ensures.node (read_as c.args.sort g (t.bound 0)) v after2 value2))
    (c.in_ok-elsewhere.ensures.node (read_as c.args.sort g (t.bound 0)) (read_as c.args.sort f (t.bound 0)) (c.same_as.ensures.grows.nodes.keeps c.in_ok-after.after _ after2) (c.same_as.ensures.grows.nodes.keeps c.in_ok-before.before _ before1)))
    c.at_each.ensures.node
