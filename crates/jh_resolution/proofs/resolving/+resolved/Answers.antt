use Rattle.std.proofs.Common.{[], ◌∷◌, ◌≡◌, ap, sym, ◌∙◌, None, length, slice_get, arith}
use Rattle.std.specs.Option.{option_map_or}
use Rattle.jh_ast.specs.Bare.{form_body_tree, form_tree, form_trees}
use Rattle.jh_ast.specs.Forms as f
use Rattle.jh_ast.proofs.FormSteps.{tree-Null as form-Null, tree-True as form-True, tree-False as form-False, tree-Univ as form-Univ, tree-Number as form-Number, tree-Name as form-Name, tree-Member as form-Member, tree-Not as form-Not, tree-Minus as form-Minus, tree-Old as form-Old, tree-Card as form-Card, tree-Binary as form-Binary, tree-Dvd as form-Dvd, tree-All as form-All, tree-Ex as form-Ex, tree-Tree as form-Tree, tree-Rtrancl as form-Rtrancl, tree-Braces as form-Braces, tree-Compr as form-Compr}
use Rattle.jh_form.specs.Tree.{of_object, of_number, of_truth, of_set}
use Rattle.jh_form.specs.Tree as t
use Rattle.jh_boxed.specs.Mapped.{mapped_value}
use Rattle.jh_arena.specs.table.Entries.{the_value}
use Rattle.jh_arena.specs.table.Nodes.{nodes}
use Rattle.jh_arena.proofs.table.Listed.{extends-trans}
use Rattle.jh_arena.proofs.table.NodeSteps.{tree-Null, tree-True, tree-False, tree-Univ}
use Rattle.jh_vars.specs.Resolved as r
use Rattle.jh_resolution.specs.Meant.{AreHeld}
use Rattle.jh_resolution.specs.Spots.{value_in, after_dots_in, fields_in, path_in, union_in, set_at}
use Rattle.jh_resolution.proofs.Meant.{held-grows}
use Rattle.jh_resolution.proofs.Loops.{union-step, union-end, sets-grow, is-set-known}
use Rattle.jh_resolution.proofs.Arms.{made-as, part-value, under-value, part-stays, arm-Null, arm-True, arm-False, arm-Univ, arm-Number, arm-Name, arm-Member, arm-Not, arm-Minus, arm-Old, arm-Card, arm-Binary, arm-Dvd, arm-All, arm-Ex, arm-Tree, arm-Rtrancl, arm-Braces, arm-Compr}
use Rattle.jh_resolution.proofs.resolving.+resolved.Goals as goal

pub resolved-returns-in-Null-clause-node : goal.resolved-returns-in-Null-clause-node
resolved-returns-in-Null-clause-node time c =
    let x = c.args.context.now in
    let at = c.args.at.now in
    let p = c.args.form.now.place in
    let new = c.make.new.self in
    let whole : form_tree c.args.form.now ≡ f.null p = ap (form_body_tree p) c.in-Null.is ∙ form-Null p in
    made-as (nodes new) c.make.result _ (value_in (nodes new) x at (form_tree c.args.form.now))
    (tree-Null c.args.table.now.pools (nodes c.args.table.now) ∙ arm-Null x at (nodes new) p ∙ ap (value_in (nodes new) x at) (sym whole)) c.make.ensures.node

pub resolved-returns-in-True-clause-node : goal.resolved-returns-in-True-clause-node
resolved-returns-in-True-clause-node time c =
    let x = c.args.context.now in
    let at = c.args.at.now in
    let p = c.args.form.now.place in
    let new = c.make-in-True.new.self in
    let whole : form_tree c.args.form.now ≡ f.yes p = ap (form_body_tree p) c.in-True.is ∙ form-True p in
    made-as (nodes new) c.make-in-True.result _ (value_in (nodes new) x at (form_tree c.args.form.now))
    (tree-True c.args.table.now.pools (nodes c.args.table.now) ∙ arm-True x at (nodes new) p ∙ ap (value_in (nodes new) x at) (sym whole)) c.make-in-True.ensures.node

pub resolved-returns-in-False-clause-node : goal.resolved-returns-in-False-clause-node
resolved-returns-in-False-clause-node time c =
    let x = c.args.context.now in
    let at = c.args.at.now in
    let p = c.args.form.now.place in
    let new = c.make-in-False.new.self in
    let whole : form_tree c.args.form.now ≡ f.no p = ap (form_body_tree p) c.in-False.is ∙ form-False p in
    made-as (nodes new) c.make-in-False.result _ (value_in (nodes new) x at (form_tree c.args.form.now))
    (tree-False c.args.table.now.pools (nodes c.args.table.now) ∙ arm-False x at (nodes new) p ∙ ap (value_in (nodes new) x at) (sym whole)) c.make-in-False.ensures.node

pub resolved-returns-in-Univ-clause-node : goal.resolved-returns-in-Univ-clause-node
resolved-returns-in-Univ-clause-node time c =
    let x = c.args.context.now in
    let at = c.args.at.now in
    let p = c.args.form.now.place in
    let new = c.make-in-Univ.new.self in
    let whole : form_tree c.args.form.now ≡ f.univ p = ap (form_body_tree p) c.in-Univ.is ∙ form-Univ p in
    made-as (nodes new) c.make-in-Univ.result _ (value_in (nodes new) x at (form_tree c.args.form.now))
    (tree-Univ c.args.table.now.pools (nodes c.args.table.now) ∙ arm-Univ x at (nodes new) p ∙ ap (value_in (nodes new) x at) (sym whole)) c.make-in-Univ.ensures.node

pub resolved-returns-in-Number-clause-node : goal.resolved-returns-in-Number-clause-node
resolved-returns-in-Number-clause-node time c =
    let x = c.args.context.now in
    let at = c.args.at.now in
    let p = c.args.form.now.place in
    let new = c.constant.new.table in
    let whole : form_tree c.args.form.now ≡ f.number p c.in-Number.number = ap (form_body_tree p) c.in-Number.is ∙ form-Number p c.in-Number.number in
    made-as (nodes new) c.constant.result _ (value_in (nodes new) x at (form_tree c.args.form.now))
    (arm-Number x at (nodes new) p c.in-Number.number ∙ ap (value_in (nodes new) x at) (sym whole)) c.constant.ensures.node

pub resolved-returns-in-Name-clause-node : goal.resolved-returns-in-Name-clause-node
resolved-returns-in-Name-clause-node time c =
    let x = c.args.context.now in
    let at = c.args.at.now in
    let p = c.args.form.now.place in
    let new = c.name_value.new.table in
    let whole : form_tree c.args.form.now ≡ f.name p c.in-Name.word = ap (form_body_tree p) c.in-Name.is ∙ form-Name p c.in-Name.word in
    made-as (nodes new) c.name_value.result _ (value_in (nodes new) x at (form_tree c.args.form.now)) (arm-Name x at (nodes new) p c.in-Name.word ∙ ap (value_in (nodes new) x at) (sym whole)) c.name_value.ensures.node

pub resolved-returns-in_ok-node-in-Member-clause-node : goal.resolved-returns-in_ok-node-in-Member-clause-node
resolved-returns-in_ok-node-in-Member-clause-node time c =
    let x = c.args.context.now in
    let at = c.args.at.now in
    let p = c.args.form.now.place in
    let new = c.after_dots.new.table in
    let mid = c.resolved.new.table in
    let a = form_tree c.in-Member.inner.value in
    let whole : form_tree c.args.form.now ≡ f.member p a c.in-Member.word = ap (form_body_tree p) c.in-Member.is ∙ form-Member p _ _ _ _ in
    let held : AreHeld (nodes mid) x.meanings.now = held-grows c.args.table.now mid x.meanings.now c.in_ok-node-in-Member.ensures.grows c.requires.held in
    let part : the_value (slice_get (nodes mid) c.in_ok-node-in-Member.node) ≡ value_in (nodes new) x at a =
    part-value x at mid new c.in_ok-node-in-Member.node (form_tree c.deref.result.now) a c.after_dots.ensures.grows held (ap form_tree c.deref.ensures) c.in_ok-node-in-Member.ensures.node in
    made-as (nodes new) c.after_dots.result _ (value_in (nodes new) x at (form_tree c.args.form.now))
    ((λ i. after_dots_in (nodes new) x at (r.as_object (part i)) c.in-Member.word) ∙ arm-Member x at (nodes new) p a c.in-Member.word ∙ ap (value_in (nodes new) x at) (sym whole)) c.after_dots.ensures.node

pub resolved-returns-in_ok-node-in-Not-clause-node : goal.resolved-returns-in_ok-node-in-Not-clause-node
resolved-returns-in_ok-node-in-Not-clause-node time c =
    let x = c.args.context.now in
    let at = c.args.at.now in
    let p = c.args.form.now.place in
    let new = c.negation.new.table in
    let mid = c.resolved-in-Not.new.table in
    let a = form_tree c.in-Not.inner.value in
    let whole : form_tree c.args.form.now ≡ f.negation p a = ap (form_body_tree p) c.in-Not.is ∙ form-Not p _ _ _ in
    let held : AreHeld (nodes mid) x.meanings.now = held-grows c.args.table.now mid x.meanings.now c.in_ok-node-in-Not.ensures.grows c.requires.held in
    let part : the_value (slice_get (nodes mid) c.in_ok-node-in-Not.node) ≡ value_in (nodes new) x at a =
    part-value x at mid new c.in_ok-node-in-Not.node (form_tree c.deref-in-Not.result.now) a c.negation.ensures.grows held (ap form_tree c.deref-in-Not.ensures) c.in_ok-node-in-Not.ensures.node in
    made-as (nodes new) c.negation.result _ (value_in (nodes new) x at (form_tree c.args.form.now))
    ((λ i. of_truth (t.negation (r.as_truth (part i)))) ∙ arm-Not x at (nodes new) p a ∙ ap (value_in (nodes new) x at) (sym whole)) c.negation.ensures.node

pub resolved-returns-in_ok-node-in-Minus-clause-node : goal.resolved-returns-in_ok-node-in-Minus-clause-node
resolved-returns-in_ok-node-in-Minus-clause-node time c =
    let x = c.args.context.now in
    let at = c.args.at.now in
    let p = c.args.form.now.place in
    let new = c.opposite.new.table in
    let mid = c.resolved-in-Minus.new.table in
    let a = form_tree c.in-Minus.inner.value in
    let whole : form_tree c.args.form.now ≡ f.minus p a = ap (form_body_tree p) c.in-Minus.is ∙ form-Minus p _ _ _ in
    let held : AreHeld (nodes mid) x.meanings.now = held-grows c.args.table.now mid x.meanings.now c.in_ok-node-in-Minus.ensures.grows c.requires.held in
    let part : the_value (slice_get (nodes mid) c.in_ok-node-in-Minus.node) ≡ value_in (nodes new) x at a =
    part-value x at mid new c.in_ok-node-in-Minus.node (form_tree c.deref-in-Minus.result.now) a c.opposite.ensures.grows held (ap form_tree c.deref-in-Minus.ensures) c.in_ok-node-in-Minus.ensures.node in
    made-as (nodes new) c.opposite.result _ (value_in (nodes new) x at (form_tree c.args.form.now))
    ((λ i. r.opposite (part i)) ∙ arm-Minus x at (nodes new) p a ∙ ap (value_in (nodes new) x at) (sym whole)) c.opposite.ensures.node

pub resolved-returns-in_ok-node-in-Old-clause-node : goal.resolved-returns-in_ok-node-in-Old-clause-node
resolved-returns-in_ok-node-in-Old-clause-node time c =
    let x = c.args.context.now in
    let at = c.args.at.now in
    let p = c.args.form.now.place in
    let new = c.at_entry.new.table in
    let mid = c.resolved-in-Old.new.table in
    let a = form_tree c.in-Old.inner.value in
    let whole : form_tree c.args.form.now ≡ f.old p a = ap (form_body_tree p) c.in-Old.is ∙ form-Old p _ _ _ in
    let held : AreHeld (nodes mid) x.meanings.now = held-grows c.args.table.now mid x.meanings.now c.in_ok-node-in-Old.ensures.grows c.requires.held in
    let part : the_value (slice_get (nodes mid) c.in_ok-node-in-Old.node) ≡ value_in (nodes new) x at a =
    part-value x at mid new c.in_ok-node-in-Old.node (form_tree c.deref-in-Old.result.now) a c.at_entry.ensures.grows held (ap form_tree c.deref-in-Old.ensures) c.in_ok-node-in-Old.ensures.node in
    made-as (nodes new) c.at_entry.result _ (value_in (nodes new) x at (form_tree c.args.form.now))
    ((λ i. mapped_value (part i) r.at_entry 0) ∙ arm-Old x at (nodes new) p a ∙ ap (value_in (nodes new) x at) (sym whole)) c.at_entry.ensures.tree

pub resolved-returns-in_ok-node-in-Card-clause-node : goal.resolved-returns-in_ok-node-in-Card-clause-node
resolved-returns-in_ok-node-in-Card-clause-node time c =
    let x = c.args.context.now in
    let at = c.args.at.now in
    let p = c.args.form.now.place in
    let new = c.cardinality.new.table in
    let mid = c.resolved-in-Card.new.table in
    let a = form_tree c.in-Card.inner.value in
    let whole : form_tree c.args.form.now ≡ f.card p a = ap (form_body_tree p) c.in-Card.is ∙ form-Card p _ _ _ in
    let held : AreHeld (nodes mid) x.meanings.now = held-grows c.args.table.now mid x.meanings.now c.in_ok-node-in-Card.ensures.grows c.requires.held in
    let part : the_value (slice_get (nodes mid) c.in_ok-node-in-Card.node) ≡ value_in (nodes new) x at a =
    part-value x at mid new c.in_ok-node-in-Card.node (form_tree c.deref-in-Card.result.now) a c.cardinality.ensures.grows held (ap form_tree c.deref-in-Card.ensures) c.in_ok-node-in-Card.ensures.node in
    made-as (nodes new) c.cardinality.result _ (value_in (nodes new) x at (form_tree c.args.form.now))
    ((λ i. of_number (t.card (r.as_set (part i)))) ∙ arm-Card x at (nodes new) p a ∙ ap (value_in (nodes new) x at) (sym whole)) c.cardinality.ensures.node

pub resolved-returns-in_ok-node-in-Dvd-clause-node : goal.resolved-returns-in_ok-node-in-Dvd-clause-node
resolved-returns-in_ok-node-in-Dvd-clause-node time c =
    let x = c.args.context.now in
    let at = c.args.at.now in
    let p = c.args.form.now.place in
    let new = c.divides.new.table in
    let mid = c.resolved-in-Dvd.new.table in
    let a = form_tree c.in-Dvd.inner.value in
    let whole : form_tree c.args.form.now ≡ f.dvd p c.in-Dvd.number a = ap (form_body_tree p) c.in-Dvd.is ∙ form-Dvd p _ _ _ _ in
    let held : AreHeld (nodes mid) x.meanings.now = held-grows c.args.table.now mid x.meanings.now c.in_ok-node-in-Dvd.ensures.grows c.requires.held in
    let part : the_value (slice_get (nodes mid) c.in_ok-node-in-Dvd.node) ≡ value_in (nodes new) x at a =
    part-value x at mid new c.in_ok-node-in-Dvd.node (form_tree c.deref-in-Dvd.result.now) a c.divides.ensures.grows held (ap form_tree c.deref-in-Dvd.ensures) c.in_ok-node-in-Dvd.ensures.node in
    made-as (nodes new) c.divides.result _ (value_in (nodes new) x at (form_tree c.args.form.now))
    ((λ i. of_truth (t.divides c.in-Dvd.number (r.as_number (part i)))) ∙ arm-Dvd x at (nodes new) p c.in-Dvd.number a ∙ ap (value_in (nodes new) x at) (sym whole)) c.divides.ensures.node

pub resolved-returns-in_ok-node-in-All-clause-node : goal.resolved-returns-in_ok-node-in-All-clause-node
resolved-returns-in_ok-node-in-All-clause-node time c =
    let x = c.args.context.now in
    let at = c.args.at.now in
    let p = c.args.form.now.place in
    let new = c.for_all.new.table in
    let mid = c.resolved_under.new.table in
    let a = form_tree c.in-All.inner.value in
    let ws = c.in-All.words in
    let whole : form_tree c.args.form.now ≡ f.all p c.in-All.words a = ap (form_body_tree p) c.in-All.is ∙ form-All p _ _ _ _ in
    let held : AreHeld (nodes mid) x.meanings.now = held-grows c.args.table.now mid x.meanings.now c.in_ok-node-in-All.ensures.grows c.requires.held in
    let part = under-value x at mid new c.in_ok-node-in-All.node c.items.result.now ws (form_tree c.deref-in-All.result.now) a c.for_all.ensures.grows held c.items.ensures (ap form_tree c.deref-in-All.ensures) c.in_ok-node-in-All.ensures.node in
    made-as (nodes new) c.for_all.result _ (value_in (nodes new) x at (form_tree c.args.form.now))
    ((λ i. of_truth (r.quantified t.all (length (c.items-in-All.ensures i)) (r.as_truth (part i)))) ∙ arm-All x at (nodes new) p ws a ∙ ap (value_in (nodes new) x at) (sym whole)) c.for_all.ensures.node

pub resolved-returns-in_ok-node-in-Ex-clause-node : goal.resolved-returns-in_ok-node-in-Ex-clause-node
resolved-returns-in_ok-node-in-Ex-clause-node time c =
    let x = c.args.context.now in
    let at = c.args.at.now in
    let p = c.args.form.now.place in
    let new = c.for_some.new.table in
    let mid = c.resolved_under-in-Ex.new.table in
    let a = form_tree c.in-Ex.inner.value in
    let ws = c.in-Ex.words in
    let whole : form_tree c.args.form.now ≡ f.ex p c.in-Ex.words a = ap (form_body_tree p) c.in-Ex.is ∙ form-Ex p _ _ _ _ in
    let held : AreHeld (nodes mid) x.meanings.now = held-grows c.args.table.now mid x.meanings.now c.in_ok-node-in-Ex.ensures.grows c.requires.held in
    let part = under-value x at mid new c.in_ok-node-in-Ex.node c.items-in-Ex.result.now ws (form_tree c.deref-in-Ex.result.now) a c.for_some.ensures.grows held c.items-in-Ex.ensures (ap form_tree c.deref-in-Ex.ensures) c.in_ok-node-in-Ex.ensures.node in
    made-as (nodes new) c.for_some.result _ (value_in (nodes new) x at (form_tree c.args.form.now))
    ((λ i. of_truth (r.quantified t.ex (length (c.items-in-Ex-2.ensures i)) (r.as_truth (part i)))) ∙ arm-Ex x at (nodes new) p ws a ∙ ap (value_in (nodes new) x at) (sym whole)) c.for_some.ensures.node

pub resolved-returns-in_ok-node-in-Compr-clause-node : goal.resolved-returns-in_ok-node-in-Compr-clause-node
resolved-returns-in_ok-node-in-Compr-clause-node time c =
    let x = c.args.context.now in
    let at = c.args.at.now in
    let p = c.args.form.now.place in
    let new = c.comprehension.new.table in
    let mid = c.resolved_under-in-Compr.new.table in
    let a = form_tree c.in-Compr.inner.value in
    let whole : form_tree c.args.form.now ≡ f.compr p c.in-Compr.word a = ap (form_body_tree p) c.in-Compr.is ∙ form-Compr p _ _ _ _ in
    let held : AreHeld (nodes mid) x.meanings.now = held-grows c.args.table.now mid x.meanings.now c.in_ok-node-in-Compr.ensures.grows c.requires.held in
    let part = under-value x at mid new c.in_ok-node-in-Compr.node c.from_ref.result.now (c.in-Compr.word ∷ []) (form_tree c.deref-in-Compr.result.now) a c.comprehension.ensures.grows held c.from_ref.ensures.value (ap form_tree c.deref-in-Compr.ensures) c.in_ok-node-in-Compr.ensures.node in
    made-as (nodes new) c.comprehension.result _ (value_in (nodes new) x at (form_tree c.args.form.now))
    ((λ i. of_set (t.compr (r.as_truth (part i)))) ∙ arm-Compr x at (nodes new) p c.in-Compr.word a ∙ ap (value_in (nodes new) x at) (sym whole)) c.comprehension.ensures.node

pub resolved-returns-in-Tree-clause-node : goal.resolved-returns-in-Tree-clause-node
resolved-returns-in-Tree-clause-node time c =
    let x = c.args.context.now in
    let at = c.args.at.now in
    let p = c.args.form.now.place in
    let new = c.forest_of.new.table in
    let whole : form_tree c.args.form.now ≡ f.tree p c.in-Tree.words = ap (form_body_tree p) c.in-Tree.is ∙ form-Tree p c.in-Tree.words in
    made-as (nodes new) c.forest_of.result _ (value_in (nodes new) x at (form_tree c.args.form.now))
    ((λ i. of_truth (t.tree (fields_in x at (c.items-in-Tree.ensures i)))) ∙ arm-Tree x at (nodes new) p c.in-Tree.words ∙ ap (value_in (nodes new) x at) (sym whole)) c.forest_of.ensures.node

pub resolved-returns-in-Braces-clause-node : goal.resolved-returns-in-Braces-clause-node
resolved-returns-in-Braces-clause-node time c =
    let x = c.args.context.now in
    let at = c.args.at.now in
    let p = c.args.form.now.place in
    let new = c.union_of.new.table in
    let whole : form_tree c.args.form.now ≡ f.braces p (form_trees c.in-Braces.forms) = ap (form_body_tree p) c.in-Braces.is ∙ form-Braces p c.in-Braces.forms in
    made-as (nodes new) c.union_of.result _ (value_in (nodes new) x at (form_tree c.args.form.now))
    ((λ i. of_set (union_in (nodes new) x at (form_trees (c.items-in-Braces.ensures i)) None)) ∙ arm-Braces x at (nodes new) p (form_trees c.in-Braces.forms) ∙ ap (value_in (nodes new) x at) (sym whole)) c.union_of.ensures.node

pub resolved-returns-in_ok-right_node-in-Binary-clause-node : goal.resolved-returns-in_ok-right_node-in-Binary-clause-node
resolved-returns-in_ok-right_node-in-Binary-clause-node time c =
    let x = c.args.context.now in
    let at = c.args.at.now in
    let p = c.args.form.now.place in
    let new = c.binary.new.table in
    let first = c.resolved-in-Binary.new.table in
    let mid = c.resolved-in-Binary-2.new.table in
    let a = form_tree c.in-Binary.left.value in
    let b = form_tree c.in-Binary.right.value in
    let whole : form_tree c.args.form.now ≡ f.binary p c.in-Binary.op a b = ap (form_body_tree p) c.in-Binary.is ∙ form-Binary p _ _ _ _ _ _ _ in
    let held : AreHeld (nodes first) x.meanings.now = held-grows c.args.table.now first x.meanings.now c.in_ok-left_node-in-Binary.ensures.grows c.requires.held in
    let held-mid : AreHeld (nodes mid) x.meanings.now = held-grows first mid x.meanings.now c.in_ok-right_node-in-Binary.ensures.grows held in
    let stays : slice_get (nodes mid) c.in_ok-left_node-in-Binary.left_node ≡ slice_get (nodes first) c.in_ok-left_node-in-Binary.left_node = part-stays x at first mid c.in_ok-left_node-in-Binary.left_node (form_tree c.deref-in-Binary.result.now) c.in_ok-right_node-in-Binary.ensures.grows c.in_ok-left_node-in-Binary.ensures.node in
    let left : the_value (slice_get (nodes mid) c.in_ok-left_node-in-Binary.left_node) ≡ value_in (nodes new) x at a =
    ap the_value stays ∙ part-value x at first new c.in_ok-left_node-in-Binary.left_node (form_tree c.deref-in-Binary.result.now) a (extends-trans first mid new c.in_ok-right_node-in-Binary.ensures.grows c.binary.ensures.grows) held (ap form_tree c.deref-in-Binary.ensures) c.in_ok-left_node-in-Binary.ensures.node in
    let right : the_value (slice_get (nodes mid) c.in_ok-right_node-in-Binary.right_node) ≡ value_in (nodes new) x at b =
    part-value x at mid new c.in_ok-right_node-in-Binary.right_node (form_tree c.deref-in-Binary-2.result.now) b c.binary.ensures.grows held-mid (ap form_tree c.deref-in-Binary-2.ensures) c.in_ok-right_node-in-Binary.ensures.node in
    made-as (nodes new) c.binary.result _ (value_in (nodes new) x at (form_tree c.args.form.now))
    ((λ i. r.binary c.in-Binary.op (r.literal (form_tree (c.deref-in-Binary-3.ensures i))) (left i) (r.literal (form_tree (c.deref-in-Binary-4.ensures i))) (right i)) ∙ arm-Binary x at (nodes new) p c.in-Binary.op a b ∙ ap (value_in (nodes new) x at) (sym whole)) c.binary.ensures.node

pub resolved-returns-in_ok-right_node-in-Rtrancl-clause-node : goal.resolved-returns-in_ok-right_node-in-Rtrancl-clause-node
resolved-returns-in_ok-right_node-in-Rtrancl-clause-node time c =
    let x = c.args.context.now in
    let at = c.args.at.now in
    let p = c.args.form.now.place in
    let new = c.reach_of.new.table in
    let first = c.resolved-in-Rtrancl.new.table in
    let mid = c.resolved-in-Rtrancl-2.new.table in
    let a = form_tree c.in-Rtrancl.left.value in
    let b = form_tree c.in-Rtrancl.right.value in
    let whole : form_tree c.args.form.now ≡ f.rtrancl p c.in-Rtrancl.first c.in-Rtrancl.second (form_tree c.in-Rtrancl.body.value) a b = ap (form_body_tree p) c.in-Rtrancl.is ∙ form-Rtrancl p _ _ _ _ _ _ _ _ _ _ _ in
    let held : AreHeld (nodes first) x.meanings.now = held-grows c.args.table.now first x.meanings.now c.in_ok-left_node-in-Rtrancl.ensures.grows c.requires.held in
    let held-mid : AreHeld (nodes mid) x.meanings.now = held-grows first mid x.meanings.now c.in_ok-right_node-in-Rtrancl.ensures.grows held in
    let stays : slice_get (nodes mid) c.in_ok-left_node-in-Rtrancl.left_node ≡ slice_get (nodes first) c.in_ok-left_node-in-Rtrancl.left_node = part-stays x at first mid c.in_ok-left_node-in-Rtrancl.left_node (form_tree c.deref-in-Rtrancl.result.now) c.in_ok-right_node-in-Rtrancl.ensures.grows c.in_ok-left_node-in-Rtrancl.ensures.node in
    let left : the_value (slice_get (nodes mid) c.in_ok-left_node-in-Rtrancl.left_node) ≡ value_in (nodes new) x at a =
    ap the_value stays ∙ part-value x at first new c.in_ok-left_node-in-Rtrancl.left_node (form_tree c.deref-in-Rtrancl.result.now) a (extends-trans first mid new c.in_ok-right_node-in-Rtrancl.ensures.grows c.reach_of.ensures.grows) held (ap form_tree c.deref-in-Rtrancl.ensures) c.in_ok-left_node-in-Rtrancl.ensures.node in
    let right : the_value (slice_get (nodes mid) c.in_ok-right_node-in-Rtrancl.right_node) ≡ value_in (nodes new) x at b =
    part-value x at mid new c.in_ok-right_node-in-Rtrancl.right_node (form_tree c.deref-in-Rtrancl-2.result.now) b c.reach_of.ensures.grows held-mid (ap form_tree c.deref-in-Rtrancl-2.ensures) c.in_ok-right_node-in-Rtrancl.ensures.node in
    made-as (nodes new) c.reach_of.result _ (value_in (nodes new) x at (form_tree c.args.form.now))
    ((λ i. of_truth (t.reach (path_in x at c.in-Rtrancl.first c.in-Rtrancl.second (form_tree (c.deref-in-Rtrancl-3.ensures i))) (r.as_object (left i)) (r.as_object (right i)))) ∙ arm-Rtrancl x at (nodes new) p c.in-Rtrancl.first c.in-Rtrancl.second (form_tree c.in-Rtrancl.body.value) a b ∙ ap (value_in (nodes new) x at) (sym whole)) c.reach_of.ensures.node

pub union_of-with_single-requires-clause-made : goal.union_of-with_single-requires-clause-made
union_of-with_single-requires-clause-made time c = sets-grow c.loop-form.table c.resolved.new.table c.loop-form.made c.in_ok-member.ensures.grows c.loop-form.invariant.stand

pub union_of-loop-form-preserved : goal.union_of-loop-form-preserved
union_of-loop-form-preserved time c =
    let x = c.args.context.now in
    let old = c.args.table.now in
    let l = c.loop-form.table in
    let m = c.resolved.new.table in
    let n = c.with_single.new.table in
    let held : AreHeld (nodes l) x.meanings.now = held-grows old l x.meanings.now c.loop-form.invariant.grows c.requires.held in
    record {
      grows = extends-trans old m n (extends-trans old l m c.loop-form.invariant.grows c.in_ok-member.ensures.grows) c.in_ok-with_single.ensures.grows;
      held = held-grows m n x.meanings.now c.in_ok-with_single.ensures.grows c.in_ok-member.ensures.held;
      stand = is-set-known (slice_get (nodes n) c.in_ok-with_single.field-0) _ c.in_ok-with_single.ensures.node;
      whole =
          union-step x c.args.at.now c.args.forms.now l m n c.loop-form.made c.in_ok-member.member c.loop-form.form-index c.in_ok-with_single.field-0 c.form-item.result c.in_ok-member.ensures.grows c.in_ok-with_single.ensures.grows held
          (held-grows l m x.meanings.now c.in_ok-member.ensures.grows held) c.loop-form.invariant.stand c.in_ok-member.ensures.node c.in_ok-with_single.ensures.node c.loop-form-test.true c.form-item.is c.loop-form.invariant.whole;
    }

pub union_of-returns-clause-node : goal.union_of-returns-clause-node
union_of-returns-clause-node time c =
    let x = c.args.context.now in
    let l = c.loop-form.table in
    let n = c.made_or_empty.new.table in
    made-as (nodes n) c.made_or_empty.result (of_set (option_map_or (λ s. s) (set_at (nodes l) c.loop-form.made) t.empty)) (of_set (union_in (nodes n) x c.args.at.now (form_trees c.args.forms.now) None))
    (ap of_set (union-end x c.args.at.now c.args.forms.now l n c.loop-form.made c.loop-form.form-index c.made_or_empty.ensures.grows (held-grows c.args.table.now l x.meanings.now c.loop-form.invariant.grows c.requires.held) (omega arith) c.loop-form.invariant.whole))
    c.made_or_empty.ensures.node
