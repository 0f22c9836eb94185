use Rattle.std.proofs.Common.{append_assoc, ◌≡◌, ap, sym, ◌∙◌, ◌++◌, []}
use Rattle.std.specs.Option.{option_map_or}
use Rattle.jh_ast.specs.Bare.{form_body_tree, form_tree, form_trees}
use Rattle.jh_ast.specs.Forms as f
use Rattle.jh_ast.proofs.FormSteps.{tree-Null as form-Null, tree-True as form-True, tree-False as form-False, tree-Univ as form-Univ, tree-Number as form-Number, tree-Name as form-Name, tree-Member as form-Member, tree-Not as form-Not, tree-Minus as form-Minus, tree-Old as form-Old, tree-Card as form-Card, tree-Binary as form-Binary, tree-Dvd as form-Dvd, tree-All as form-All, tree-Ex as form-Ex, tree-Tree as form-Tree, tree-Rtrancl as form-Rtrancl, tree-Braces as form-Braces, tree-Compr as form-Compr}
use Rattle.jh_symbols.specs.scopes.Lookings.{declared_by}
use Rattle.jh_rules.specs.Words.{text_of}
use Rattle.jh_rules.specs.Formulas.{equations}
use Rattle.jh_vars.specs.Reading.{fields_read}
use Rattle.jh_definitions.specs.reads.Listed.{states_in, reads_at, all_reads_at, reads_under}
use Rattle.jh_definitions.proofs.reads.Adding.{added, added-behind, unchanged, all-step, all-end, arm-Null, arm-True, arm-False, arm-Univ, arm-Number, arm-Name, arm-Member, arm-Not, arm-Minus, arm-Old, arm-Card, arm-Binary, arm-Dvd, arm-All, arm-Ex, arm-Tree, arm-Rtrancl, arm-Braces, arm-Compr}
use Rattle.jh_definitions.proofs.reads.reading.+reads.Goals as goal

pub add_all-loop-form-preserved : goal.add_all-loop-form-preserved
add_all-loop-form-preserved time c = all-step c.args.at.now c.args.forms.now (states_in c.add_reads.new.made.items) (states_in c.loop-form.made.items) (states_in c.args.made.now.items) c.loop-form.form-index c.form-item.result c.loop-form-test.true c.form-item.is c.in_ok-add_reads.ensures c.loop-form.invariant

pub add_all-returns : goal.add_all-returns
add_all-returns time c = all-end c.args.at.now c.args.forms.now (states_in c.loop-form.made.items) (states_in c.args.made.now.items) c.loop-form.form-index c.loop-form-test.false c.loop-form.invariant

pub add_reads-returns-in-Null : goal.add_reads-returns-in-Null
add_reads-returns-in-Null time c =
    let at = c.args.at.now in
    let p = c.args.form.now.place in
    let whole : form_tree c.args.form.now ≡ f.null p = ap (form_body_tree p) c.in-Null.is ∙ form-Null p in
    unchanged (states_in c.args.made.now.items) (reads_at at (form_tree c.args.form.now)) (arm-Null at p ∙ ap (reads_at at) (sym whole))

pub add_reads-returns-in-True : goal.add_reads-returns-in-True
add_reads-returns-in-True time c =
    let at = c.args.at.now in
    let p = c.args.form.now.place in
    let whole : form_tree c.args.form.now ≡ f.yes p = ap (form_body_tree p) c.in-True.is ∙ form-True p in
    unchanged (states_in c.args.made.now.items) (reads_at at (form_tree c.args.form.now)) (arm-True at p ∙ ap (reads_at at) (sym whole))

pub add_reads-returns-in-False : goal.add_reads-returns-in-False
add_reads-returns-in-False time c =
    let at = c.args.at.now in
    let p = c.args.form.now.place in
    let whole : form_tree c.args.form.now ≡ f.no p = ap (form_body_tree p) c.in-False.is ∙ form-False p in
    unchanged (states_in c.args.made.now.items) (reads_at at (form_tree c.args.form.now)) (arm-False at p ∙ ap (reads_at at) (sym whole))

pub add_reads-returns-in-Univ : goal.add_reads-returns-in-Univ
add_reads-returns-in-Univ time c =
    let at = c.args.at.now in
    let p = c.args.form.now.place in
    let whole : form_tree c.args.form.now ≡ f.univ p = ap (form_body_tree p) c.in-Univ.is ∙ form-Univ p in
    unchanged (states_in c.args.made.now.items) (reads_at at (form_tree c.args.form.now)) (arm-Univ at p ∙ ap (reads_at at) (sym whole))

pub add_reads-returns-in-Number : goal.add_reads-returns-in-Number
add_reads-returns-in-Number time c =
    let at = c.args.at.now in
    let p = c.args.form.now.place in
    let whole : form_tree c.args.form.now ≡ f.number p c.in-Number.field-0 = ap (form_body_tree p) c.in-Number.is ∙ form-Number p c.in-Number.field-0 in
    unchanged (states_in c.args.made.now.items) (reads_at at (form_tree c.args.form.now)) (arm-Number at p c.in-Number.field-0 ∙ ap (reads_at at) (sym whole))

pub add_reads-returns-in-Name : goal.add_reads-returns-in-Name
add_reads-returns-in-Name time c =
    let at = c.args.at.now in
    let p = c.args.form.now.place in
    let whole : form_tree c.args.form.now ≡ f.name p c.in-Name.word = ap (form_body_tree p) c.in-Name.is ∙ form-Name p c.in-Name.word in
    added c.add_name.result (states_in c.add_name.new.made.items) (states_in c.args.made.now.items) (_) (reads_at at (form_tree c.args.form.now)) (arm-Name at p c.in-Name.word ∙ ap (reads_at at) (sym whole)) c.add_name.ensures

pub add_reads-returns-in-Not : goal.add_reads-returns-in-Not
add_reads-returns-in-Not time c =
    let at = c.args.at.now in
    let p = c.args.form.now.place in
    let whole : form_tree c.args.form.now ≡ f.negation p (form_tree c.in-Not.inner.value) = ap (form_body_tree p) c.in-Not.is ∙ form-Not p _ _ _ in
    added c.add_reads-in-Not.result (states_in c.add_reads-in-Not.new.made.items) (states_in c.args.made.now.items) (reads_at at (form_tree c.deref-in-Not.result.now)) (reads_at at (form_tree c.args.form.now)) (ap (λ a. reads_at at (form_tree a)) c.deref-in-Not.ensures ∙ arm-Not at p (form_tree c.in-Not.inner.value) ∙ ap (reads_at at) (sym whole)) c.add_reads-in-Not.ensures

pub add_reads-returns-in-Minus : goal.add_reads-returns-in-Minus
add_reads-returns-in-Minus time c =
    let at = c.args.at.now in
    let p = c.args.form.now.place in
    let whole : form_tree c.args.form.now ≡ f.minus p (form_tree c.in-Minus.inner.value) = ap (form_body_tree p) c.in-Minus.is ∙ form-Minus p _ _ _ in
    added c.add_reads-in-Minus.result (states_in c.add_reads-in-Minus.new.made.items) (states_in c.args.made.now.items) (reads_at at (form_tree c.deref-in-Minus.result.now)) (reads_at at (form_tree c.args.form.now)) (ap (λ a. reads_at at (form_tree a)) c.deref-in-Minus.ensures ∙ arm-Minus at p (form_tree c.in-Minus.inner.value) ∙ ap (reads_at at) (sym whole)) c.add_reads-in-Minus.ensures

pub add_reads-returns-in-Old : goal.add_reads-returns-in-Old
add_reads-returns-in-Old time c =
    let at = c.args.at.now in
    let p = c.args.form.now.place in
    let whole : form_tree c.args.form.now ≡ f.old p (form_tree c.in-Old.inner.value) = ap (form_body_tree p) c.in-Old.is ∙ form-Old p _ _ _ in
    added c.add_reads-in-Old.result (states_in c.add_reads-in-Old.new.made.items) (states_in c.args.made.now.items) (reads_at at (form_tree c.deref-in-Old.result.now)) (reads_at at (form_tree c.args.form.now)) (ap (λ a. reads_at at (form_tree a)) c.deref-in-Old.ensures ∙ arm-Old at p (form_tree c.in-Old.inner.value) ∙ ap (reads_at at) (sym whole)) c.add_reads-in-Old.ensures

pub add_reads-returns-in-Card : goal.add_reads-returns-in-Card
add_reads-returns-in-Card time c =
    let at = c.args.at.now in
    let p = c.args.form.now.place in
    let whole : form_tree c.args.form.now ≡ f.card p (form_tree c.in-Card.inner.value) = ap (form_body_tree p) c.in-Card.is ∙ form-Card p _ _ _ in
    added c.add_reads-in-Card.result (states_in c.add_reads-in-Card.new.made.items) (states_in c.args.made.now.items) (reads_at at (form_tree c.deref-in-Card.result.now)) (reads_at at (form_tree c.args.form.now)) (ap (λ a. reads_at at (form_tree a)) c.deref-in-Card.ensures ∙ arm-Card at p (form_tree c.in-Card.inner.value) ∙ ap (reads_at at) (sym whole)) c.add_reads-in-Card.ensures

pub add_reads-returns-in-Dvd : goal.add_reads-returns-in-Dvd
add_reads-returns-in-Dvd time c =
    let at = c.args.at.now in
    let p = c.args.form.now.place in
    let whole : form_tree c.args.form.now ≡ f.dvd p c.in-Dvd.field-0 (form_tree c.in-Dvd.inner.value) = ap (form_body_tree p) c.in-Dvd.is ∙ form-Dvd p _ _ _ _ in
    added c.add_reads-in-Dvd.result (states_in c.add_reads-in-Dvd.new.made.items) (states_in c.args.made.now.items) (reads_at at (form_tree c.deref-in-Dvd.result.now)) (reads_at at (form_tree c.args.form.now)) (ap (λ a. reads_at at (form_tree a)) c.deref-in-Dvd.ensures ∙ arm-Dvd at p c.in-Dvd.field-0 (form_tree c.in-Dvd.inner.value) ∙ ap (reads_at at) (sym whole)) c.add_reads-in-Dvd.ensures

pub add_reads-returns-in-All : goal.add_reads-returns-in-All
add_reads-returns-in-All time c =
    let at = c.args.at.now in
    let p = c.args.form.now.place in
    let whole : form_tree c.args.form.now ≡ f.all p c.in-All.words (form_tree c.in-All.inner.value) = ap (form_body_tree p) c.in-All.is ∙ form-All p _ _ _ _ in
    added c.add_under.result (states_in c.add_under.new.made.items) (states_in c.args.made.now.items) (reads_under at c.items.result.now (form_tree c.deref-in-All.result.now)) (reads_at at (form_tree c.args.form.now)) ((λ i. reads_under at (c.items.ensures i) (form_tree (c.deref-in-All.ensures i))) ∙ arm-All at p c.in-All.words (form_tree c.in-All.inner.value) ∙ ap (reads_at at) (sym whole)) c.add_under.ensures

pub add_reads-returns-in-Ex : goal.add_reads-returns-in-Ex
add_reads-returns-in-Ex time c =
    let at = c.args.at.now in
    let p = c.args.form.now.place in
    let whole : form_tree c.args.form.now ≡ f.ex p c.in-Ex.words (form_tree c.in-Ex.inner.value) = ap (form_body_tree p) c.in-Ex.is ∙ form-Ex p _ _ _ _ in
    added c.add_under-in-Ex.result (states_in c.add_under-in-Ex.new.made.items) (states_in c.args.made.now.items) (reads_under at c.items-in-Ex.result.now (form_tree c.deref-in-Ex.result.now)) (reads_at at (form_tree c.args.form.now)) ((λ i. reads_under at (c.items-in-Ex.ensures i) (form_tree (c.deref-in-Ex.ensures i))) ∙ arm-Ex at p c.in-Ex.words (form_tree c.in-Ex.inner.value) ∙ ap (reads_at at) (sym whole)) c.add_under-in-Ex.ensures

pub add_reads-returns-in-Compr : goal.add_reads-returns-in-Compr
add_reads-returns-in-Compr time c =
    let at = c.args.at.now in
    let p = c.args.form.now.place in
    let whole : form_tree c.args.form.now ≡ f.compr p c.in-Compr.word (form_tree c.in-Compr.inner.value) = ap (form_body_tree p) c.in-Compr.is ∙ form-Compr p _ _ _ _ in
    added c.add_under-in-Compr.result (states_in c.add_under-in-Compr.new.made.items) (states_in c.args.made.now.items) (reads_under at c.from_ref-in-Compr.result.now (form_tree c.deref-in-Compr.result.now)) (reads_at at (form_tree c.args.form.now)) ((λ i. reads_under at (c.from_ref-in-Compr.ensures.value i) (form_tree (c.deref-in-Compr.ensures i))) ∙ arm-Compr at p c.in-Compr.word (form_tree c.in-Compr.inner.value) ∙ ap (reads_at at) (sym whole)) c.add_under-in-Compr.ensures

pub add_reads-returns-in-Tree : goal.add_reads-returns-in-Tree
add_reads-returns-in-Tree time c =
    let at = c.args.at.now in
    let p = c.args.form.now.place in
    let whole : form_tree c.args.form.now ≡ f.tree p c.in-Tree.words = ap (form_body_tree p) c.in-Tree.is ∙ form-Tree p c.in-Tree.words in
    added c.add_fields-in-Tree.result (states_in c.add_fields-in-Tree.new.made.items) (states_in c.args.made.now.items) (fields_read (declared_by at.lookups.now) at.class c.items-in-Tree.result.now) (reads_at at (form_tree c.args.form.now)) (ap (fields_read (declared_by at.lookups.now) at.class) c.items-in-Tree.ensures ∙ arm-Tree at p c.in-Tree.words ∙ ap (reads_at at) (sym whole)) c.add_fields-in-Tree.ensures

pub add_reads-returns-in-Braces : goal.add_reads-returns-in-Braces
add_reads-returns-in-Braces time c =
    let at = c.args.at.now in
    let p = c.args.form.now.place in
    let whole : form_tree c.args.form.now ≡ f.braces p (form_trees c.in-Braces.forms) = ap (form_body_tree p) c.in-Braces.is ∙ form-Braces p c.in-Braces.forms in
    added c.add_all.result (states_in c.add_all.new.made.items) (states_in c.args.made.now.items) (all_reads_at at (form_trees c.items-in-Braces.result.now)) (reads_at at (form_tree c.args.form.now)) (ap (λ fs. all_reads_at at (form_trees fs)) c.items-in-Braces.ensures ∙ arm-Braces at p (form_trees c.in-Braces.forms) ∙ ap (reads_at at) (sym whole)) c.add_all.ensures

pub add_reads-returns-in_ok-add_reads-in-Member : goal.add_reads-returns-in_ok-add_reads-in-Member
add_reads-returns-in_ok-add_reads-in-Member time c =
    let at = c.args.at.now in
    let p = c.args.form.now.place in
    let whole : form_tree c.args.form.now ≡ f.member p (form_tree c.in-Member.inner.value) c.in-Member.word = ap (form_body_tree p) c.in-Member.is ∙ form-Member p _ _ _ _ in
    added-behind c.add_fields.result (states_in c.add_fields.new.made.items) (states_in c.args.made.now.items) (states_in c.add_reads.new.made.items)
    (reads_at at (form_tree c.deref.result.now)) (fields_read (declared_by at.lookups.now) at.class c.from_ref.result.now) (reads_at at (form_tree c.args.form.now)) c.in_ok-add_reads-in-Member.ensures
    ((λ i. reads_at at (form_tree (c.deref.ensures i)) ++ fields_read (declared_by at.lookups.now) at.class (c.from_ref.ensures.value i)) ∙ arm-Member at p (form_tree c.in-Member.inner.value) c.in-Member.word ∙ ap (reads_at at) (sym whole)) c.add_fields.ensures

pub add_reads-returns-in_ok-add_reads-in-Binary : goal.add_reads-returns-in_ok-add_reads-in-Binary
add_reads-returns-in_ok-add_reads-in-Binary time c =
    let at = c.args.at.now in
    let p = c.args.form.now.place in
    let whole : form_tree c.args.form.now ≡ f.binary p c.in-Binary.field-0 (form_tree c.in-Binary.left.value) (form_tree c.in-Binary.right.value) = ap (form_body_tree p) c.in-Binary.is ∙ form-Binary p _ _ _ _ _ _ _ in
    added-behind c.add_reads-in-Binary-2.result (states_in c.add_reads-in-Binary-2.new.made.items) (states_in c.args.made.now.items) (states_in c.add_reads-in-Binary.new.made.items)
    (reads_at at (form_tree c.deref-in-Binary.result.now)) (reads_at at (form_tree c.deref-in-Binary-2.result.now)) (reads_at at (form_tree c.args.form.now)) c.in_ok-add_reads-in-Binary.ensures
    ((λ i. reads_at at (form_tree (c.deref-in-Binary.ensures i)) ++ reads_at at (form_tree (c.deref-in-Binary-2.ensures i))) ∙ arm-Binary at p c.in-Binary.field-0 (form_tree c.in-Binary.left.value) (form_tree c.in-Binary.right.value) ∙ ap (reads_at at) (sym whole)) c.add_reads-in-Binary-2.ensures

pub add_reads-returns-in_ok-add_reads-in-Rtrancl : goal.add_reads-returns-in_ok-add_reads-in-Rtrancl
add_reads-returns-in_ok-add_reads-in-Rtrancl time c =
    let at = c.args.at.now in
    let p = c.args.form.now.place in
    let whole : form_tree c.args.form.now ≡ f.rtrancl p c.in-Rtrancl.first c.in-Rtrancl.second (form_tree c.in-Rtrancl.body.value) (form_tree c.in-Rtrancl.left.value) (form_tree c.in-Rtrancl.right.value) = ap (form_body_tree p) c.in-Rtrancl.is ∙ form-Rtrancl p _ _ _ _ _ _ _ _ _ _ _ in
    let path = option_map_or (fields_read (declared_by at.lookups.now) at.class) (equations (text_of c.in-Rtrancl.first) (text_of c.in-Rtrancl.second) (form_tree c.deref-in-Rtrancl.result.now)) [] in
    let left = reads_at at (form_tree c.deref-in-Rtrancl-2.result.now) in
    let before : states_in c.add_reads-in-Rtrancl.new.made.items ≡ states_in c.args.made.now.items ++ (path ++ left) =
    c.in_ok-add_reads-in-Rtrancl.ensures ∙ ap (λ us. us ++ left) c.in_ok-add_path-in-Rtrancl.ensures ∙ append_assoc (states_in c.args.made.now.items) path left in
    added-behind c.add_reads-in-Rtrancl-2.result (states_in c.add_reads-in-Rtrancl-2.new.made.items) (states_in c.args.made.now.items) (states_in c.add_reads-in-Rtrancl.new.made.items)
    (path ++ left) (reads_at at (form_tree c.deref-in-Rtrancl-3.result.now)) (reads_at at (form_tree c.args.form.now)) before
    ((λ i. (option_map_or (fields_read (declared_by at.lookups.now) at.class) (equations (text_of c.in-Rtrancl.first) (text_of c.in-Rtrancl.second) (form_tree (c.deref-in-Rtrancl.ensures i))) [] ++ reads_at at (form_tree (c.deref-in-Rtrancl-2.ensures i))) ++ reads_at at (form_tree (c.deref-in-Rtrancl-3.ensures i))) ∙ arm-Rtrancl at p c.in-Rtrancl.first c.in-Rtrancl.second (form_tree c.in-Rtrancl.body.value) (form_tree c.in-Rtrancl.left.value) (form_tree c.in-Rtrancl.right.value) ∙ ap (reads_at at) (sym whole)) c.add_reads-in-Rtrancl-2.ensures
