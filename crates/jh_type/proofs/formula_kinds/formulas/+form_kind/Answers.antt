use Rattle.std.proofs.Common.{◌≡◌, ◌∷◌, [], subst, sym, ap, ◌∙◌}
use Rattle.std.specs.List.{list_all}
use Rattle.jh_ast.specs.Bare.{form_body_tree, form_tree, form_trees}
use Rattle.jh_rules.specs.Found.{Finds, asked_of}
use Rattle.jh_rules.specs.Words.{text_of}
use Rattle.jh_rules.specs.Kinds.{is_obj}
use Rattle.jh_rules.specs.Formulas.{binary_kind, form_kind, form_kinds, under}
use Rattle.jh_rules.specs.Rules.{rule_27_field}
use Rattle.jh_name.specs.declared.place.Kind.TheVariants as k
use Rattle.jh_type.specs.declared.formula_kinds.operators.Wanted.TheVariants as wanted
use Rattle.jh_symbols.specs.scopes.Lookings.{declared_by, scope_by}
use Rattle.jh_type.specs.formula_kinds.Parts as parts
use Rattle.jh_type.specs.formula_kinds.Standing.{where_by}
use Rattle.jh_type.proofs.formula_kinds.Gathering.{gathers-start, gathers-next, gathers-end}
use Rattle.jh_type.proofs.formula_kinds.Steps.{kinds-none, kinds-more, kind-member, kind-not, kind-minus, kind-card, kind-binary, kind-dvd, kind-all, kind-ex, kind-compr, kind-tree, kind-path, kind-braces}
use Rattle.jh_ast.proofs.FormSteps.{tree-Tree, tree-Rtrancl, tree-Braces}
use Rattle.jh_type.proofs.formula_kinds.formulas.+form_kind.Goals as goal

pub form_kind-returns-in-Tree : goal.form_kind-returns-in-Tree
form_kind-returns-in-Tree t c = subst (Finds c.fields_kind.result)
    (ap (parts.fields_kind (declared_by c.args.lookups.now) c.args.at.now.class c.args.form.now.place) c.items-in-Tree.ensures ∙ sym (kind-tree (declared_by c.args.lookups.now) (where_by c.args.spot (scope_by c.args.at.now) c.args.bound.now) c.args.form.now.place c.in-Tree.words)
    ∙ sym (ap (λ a. form_kind (declared_by c.args.lookups.now) a (where_by c.args.spot (scope_by c.args.at.now) c.args.bound.now)) (ap (form_body_tree c.args.form.now.place) c.in-Tree.is ∙ tree-Tree c.args.form.now.place c.in-Tree.words)))
    c.fields_kind.ensures

pub form_kind-returns-in_ok-end-in-Rtrancl : goal.form_kind-returns-in_ok-end-in-Rtrancl
form_kind-returns-in_ok-end-in-Rtrancl t c =
    let d1 : c.deref-in-Rtrancl.result.now ≡ c.in-Rtrancl.body.value = c.deref-in-Rtrancl.ensures in
    let d2 : c.deref-in-Rtrancl-2.result.now ≡ c.in-Rtrancl.left.value = c.deref-in-Rtrancl-2.ensures in
    let d3 : c.deref-in-Rtrancl-3.result.now ≡ c.in-Rtrancl.right.value = c.deref-in-Rtrancl-3.ensures in
    let d4 : c.deref-in-Rtrancl-4.result.now ≡ c.in-Rtrancl.left.value = c.deref-in-Rtrancl-4.ensures in
    subst (Finds c.path.result)
    ((λ i. parts.path (parts.path_fields (declared_by c.args.lookups.now) c.args.at.now.class c.args.form.now.place (text_of c.in-Rtrancl.first) (text_of c.in-Rtrancl.second) (form_tree (d1 i))) (form_tree (d4 i)) (form_kind (declared_by c.args.lookups.now) (form_tree (d2 i)) (where_by c.args.spot (scope_by c.args.at.now) c.args.bound.now)) (form_kind (declared_by c.args.lookups.now) (form_tree (d3 i)) (where_by c.args.spot (scope_by c.args.at.now) c.args.bound.now)))
    ∙ sym (kind-path (declared_by c.args.lookups.now) (where_by c.args.spot (scope_by c.args.at.now) c.args.bound.now) c.args.form.now.place c.in-Rtrancl.first c.in-Rtrancl.second (form_tree c.in-Rtrancl.body.value) (form_tree c.in-Rtrancl.left.value) (form_tree c.in-Rtrancl.right.value))
    ∙ sym (ap (λ a. form_kind (declared_by c.args.lookups.now) a (where_by c.args.spot (scope_by c.args.at.now) c.args.bound.now)) (ap (form_body_tree c.args.form.now.place) c.in-Rtrancl.is ∙ tree-Rtrancl c.args.form.now.place c.in-Rtrancl.first c.in-Rtrancl.second _ _ _ _ _ _ _ _ _)))
    (c.path.ensures (parts.path_fields (declared_by c.args.lookups.now) c.args.at.now.class c.args.form.now.place (text_of c.in-Rtrancl.first) (text_of c.in-Rtrancl.second) (form_tree c.deref-in-Rtrancl.result.now)) (form_kind (declared_by c.args.lookups.now) (form_tree c.deref-in-Rtrancl-2.result.now) (where_by c.args.spot (scope_by c.args.at.now) c.args.bound.now)) (form_kind (declared_by c.args.lookups.now) (form_tree c.deref-in-Rtrancl-3.result.now) (where_by c.args.spot (scope_by c.args.at.now) c.args.bound.now))
    c.in_ok-fields-in-Rtrancl.ensures c.in_ok-start-in-Rtrancl.ensures c.in_ok-end-in-Rtrancl.ensures)

pub form_kind-returns-in_ok-found-in-Braces : goal.form_kind-returns-in_ok-found-in-Braces
form_kind-returns-in_ok-found-in-Braces t c = subst (Finds c.braces.result)
    (ap (λ xs. asked_of (parts.seen (list_all is_obj) (form_kinds (declared_by c.args.lookups.now) (form_trees c.in-Braces.items) (where_by c.args.spot (scope_by c.args.at.now) c.args.bound.now))) (parts.braces c.args.form.now.place (form_trees xs))) c.items-in-Braces-2.ensures
    ∙ sym (kind-braces (declared_by c.args.lookups.now) (where_by c.args.spot (scope_by c.args.at.now) c.args.bound.now) c.args.form.now.place c.in-Braces.items)
    ∙ sym (ap (λ a. form_kind (declared_by c.args.lookups.now) a (where_by c.args.spot (scope_by c.args.at.now) c.args.bound.now)) (ap (form_body_tree c.args.form.now.place) c.in-Braces.is ∙ tree-Braces c.args.form.now.place c.in-Braces.items)))
    (c.braces.ensures (parts.seen (list_all is_obj) (form_kinds (declared_by c.args.lookups.now) (form_trees c.in-Braces.items) (where_by c.args.spot (scope_by c.args.at.now) c.args.bound.now)))
    (subst (λ xs. Finds c.in_ok-found-in-Braces.found (parts.seen (list_all is_obj) (form_kinds (declared_by c.args.lookups.now) (form_trees xs) (where_by c.args.spot (scope_by c.args.at.now) c.args.bound.now)))) c.items-in-Braces.ensures c.in_ok-found-in-Braces.ensures))

pub objects-loop-form-init : goal.objects-loop-form-init
objects-loop-form-init t c = gathers-start is_obj (λ a. form_kind (declared_by c.args.lookups.now) (form_tree a) (where_by c.args.spot (scope_by c.args.at.now) c.args.bound.now)) (λ fs. form_kinds (declared_by c.args.lookups.now) (form_trees fs) (where_by c.args.spot (scope_by c.args.at.now) c.args.bound.now)) (kinds-none (declared_by c.args.lookups.now) (where_by c.args.spot (scope_by c.args.at.now) c.args.bound.now)) (kinds-more (declared_by c.args.lookups.now) (where_by c.args.spot (scope_by c.args.at.now) c.args.bound.now)) c.args.items.now c.right-found.result c.right-found.ensures

pub objects-loop-form-preserved : goal.objects-loop-form-preserved
objects-loop-form-preserved t c = gathers-next is_obj (λ a. form_kind (declared_by c.args.lookups.now) (form_tree a) (where_by c.args.spot (scope_by c.args.at.now) c.args.bound.now)) (λ fs. form_kinds (declared_by c.args.lookups.now) (form_trees fs) (where_by c.args.spot (scope_by c.args.at.now) c.args.bound.now)) (kinds-none (declared_by c.args.lookups.now) (where_by c.args.spot (scope_by c.args.at.now) c.args.bound.now)) (kinds-more (declared_by c.args.lookups.now) (where_by c.args.spot (scope_by c.args.at.now) c.args.bound.now)) c.args.items.now c.loop-form.form-index c.form-item.result c.loop-form.found _ c.in_ok-next.next c.loop-form-test.true c.form-item.is c.in_ok-next.ensures (c.merge-found.ensures ∙ ap (parts.merged c.loop-form.found) c.note_object.ensures) c.loop-form.invariant

pub objects-returns : goal.objects-returns
objects-returns t c = gathers-end is_obj (λ a. form_kind (declared_by c.args.lookups.now) (form_tree a) (where_by c.args.spot (scope_by c.args.at.now) c.args.bound.now)) (λ fs. form_kinds (declared_by c.args.lookups.now) (form_trees fs) (where_by c.args.spot (scope_by c.args.at.now) c.args.bound.now)) (kinds-none (declared_by c.args.lookups.now) (where_by c.args.spot (scope_by c.args.at.now) c.args.bound.now)) (kinds-more (declared_by c.args.lookups.now) (where_by c.args.spot (scope_by c.args.at.now) c.args.bound.now)) c.args.items.now c.loop-form.form-index c.loop-form.found c.loop-form-test.false c.loop-form.invariant

pub form_kind-returns-in_ok-object-in-Member : goal.form_kind-returns-in_ok-object-in-Member
form_kind-returns-in_ok-object-in-Member t c = subst (Finds c.read.result)
    ((λ i. parts.read (form_tree (c.deref-in-Member.ensures i)) (form_kind (declared_by c.args.lookups.now) (form_tree (c.deref.ensures i)) (where_by c.args.spot (scope_by c.args.at.now) c.args.bound.now)) (rule_27_field (declared_by c.args.lookups.now) c.args.at.now.class c.in-Member.word))
    ∙ sym (ap (λ b. form_kind (declared_by c.args.lookups.now) (form_body_tree c.args.form.now.place b) (where_by c.args.spot (scope_by c.args.at.now) c.args.bound.now)) c.in-Member.is ∙ kind-member (declared_by c.args.lookups.now) (where_by c.args.spot (scope_by c.args.at.now) c.args.bound.now) c.args.form.now.place c.in-Member.of c.in-Member.word))
    (c.read.ensures (form_kind (declared_by c.args.lookups.now) (form_tree c.deref.result.now) (where_by c.args.spot (scope_by c.args.at.now) c.args.bound.now)) (rule_27_field (declared_by c.args.lookups.now) c.args.at.now.class c.in-Member.word) c.in_ok-object-in-Member.ensures c.field_named.ensures)

pub form_kind-returns-in_ok-found-in-Not : goal.form_kind-returns-in_ok-found-in-Not
form_kind-returns-in_ok-found-in-Not t c = subst (Finds c.one.result)
    ((λ i. parts.one wanted.Truth (form_tree (c.deref-in-Not-2.ensures i)) (form_kind (declared_by c.args.lookups.now) (form_tree (c.deref-in-Not.ensures i)) (where_by c.args.spot (scope_by c.args.at.now) c.args.bound.now)) k.Bool)
    ∙ sym (ap (λ b. form_kind (declared_by c.args.lookups.now) (form_body_tree c.args.form.now.place b) (where_by c.args.spot (scope_by c.args.at.now) c.args.bound.now)) c.in-Not.is ∙ kind-not (declared_by c.args.lookups.now) (where_by c.args.spot (scope_by c.args.at.now) c.args.bound.now) c.args.form.now.place c.in-Not.inner))
    (c.one.ensures (form_kind (declared_by c.args.lookups.now) (form_tree c.deref-in-Not.result.now) (where_by c.args.spot (scope_by c.args.at.now) c.args.bound.now)) c.in_ok-found-in-Not.ensures)

pub form_kind-returns-in_ok-found-in-Minus : goal.form_kind-returns-in_ok-found-in-Minus
form_kind-returns-in_ok-found-in-Minus t c = subst (Finds c.complement.result)
    ((λ i. parts.complement (form_tree (c.deref-in-Minus-2.ensures i)) (form_kind (declared_by c.args.lookups.now) (form_tree (c.deref-in-Minus.ensures i)) (where_by c.args.spot (scope_by c.args.at.now) c.args.bound.now)))
    ∙ sym (ap (λ b. form_kind (declared_by c.args.lookups.now) (form_body_tree c.args.form.now.place b) (where_by c.args.spot (scope_by c.args.at.now) c.args.bound.now)) c.in-Minus.is ∙ kind-minus (declared_by c.args.lookups.now) (where_by c.args.spot (scope_by c.args.at.now) c.args.bound.now) c.args.form.now.place c.in-Minus.inner))
    (c.complement.ensures (form_kind (declared_by c.args.lookups.now) (form_tree c.deref-in-Minus.result.now) (where_by c.args.spot (scope_by c.args.at.now) c.args.bound.now)) c.in_ok-found-in-Minus.ensures)

pub form_kind-returns-in_ok-found-in-Card : goal.form_kind-returns-in_ok-found-in-Card
form_kind-returns-in_ok-found-in-Card t c = subst (Finds c.one-in-Card.result)
    ((λ i. parts.one wanted.Set (form_tree (c.deref-in-Card-2.ensures i)) (form_kind (declared_by c.args.lookups.now) (form_tree (c.deref-in-Card.ensures i)) (where_by c.args.spot (scope_by c.args.at.now) c.args.bound.now)) k.Int)
    ∙ sym (ap (λ b. form_kind (declared_by c.args.lookups.now) (form_body_tree c.args.form.now.place b) (where_by c.args.spot (scope_by c.args.at.now) c.args.bound.now)) c.in-Card.is ∙ kind-card (declared_by c.args.lookups.now) (where_by c.args.spot (scope_by c.args.at.now) c.args.bound.now) c.args.form.now.place c.in-Card.inner))
    (c.one-in-Card.ensures (form_kind (declared_by c.args.lookups.now) (form_tree c.deref-in-Card.result.now) (where_by c.args.spot (scope_by c.args.at.now) c.args.bound.now)) c.in_ok-found-in-Card.ensures)

pub form_kind-returns-in_ok-second-in-Binary : goal.form_kind-returns-in_ok-second-in-Binary
form_kind-returns-in_ok-second-in-Binary t c = subst (Finds c.binary_kind.result)
    ((λ i. binary_kind (declared_by c.args.lookups.now) c.args.form.now.place c.in-Binary.op (form_tree (c.deref-in-Binary-3.ensures i)) (form_kind (declared_by c.args.lookups.now) (form_tree (c.deref-in-Binary.ensures i)) (where_by c.args.spot (scope_by c.args.at.now) c.args.bound.now)) (form_tree (c.deref-in-Binary-4.ensures i)) (form_kind (declared_by c.args.lookups.now) (form_tree (c.deref-in-Binary-2.ensures i)) (where_by c.args.spot (scope_by c.args.at.now) c.args.bound.now)))
    ∙ sym (ap (λ b. form_kind (declared_by c.args.lookups.now) (form_body_tree c.args.form.now.place b) (where_by c.args.spot (scope_by c.args.at.now) c.args.bound.now)) c.in-Binary.is ∙ kind-binary (declared_by c.args.lookups.now) (where_by c.args.spot (scope_by c.args.at.now) c.args.bound.now) c.args.form.now.place c.in-Binary.op c.in-Binary.left c.in-Binary.right))
    (c.binary_kind.ensures (form_kind (declared_by c.args.lookups.now) (form_tree c.deref-in-Binary.result.now) (where_by c.args.spot (scope_by c.args.at.now) c.args.bound.now)) (form_kind (declared_by c.args.lookups.now) (form_tree c.deref-in-Binary-2.result.now) (where_by c.args.spot (scope_by c.args.at.now) c.args.bound.now)) c.in_ok-first-in-Binary.ensures c.in_ok-second-in-Binary.ensures)

pub form_kind-returns-in_ok-found-in-Dvd : goal.form_kind-returns-in_ok-found-in-Dvd
form_kind-returns-in_ok-found-in-Dvd t c = subst (Finds c.multiple.result)
    ((λ i. parts.multiple c.args.form.now.place c.in-Dvd.number (form_kind (declared_by c.args.lookups.now) (form_tree (c.deref-in-Dvd.ensures i)) (where_by c.args.spot (scope_by c.args.at.now) c.args.bound.now)))
    ∙ sym (ap (λ b. form_kind (declared_by c.args.lookups.now) (form_body_tree c.args.form.now.place b) (where_by c.args.spot (scope_by c.args.at.now) c.args.bound.now)) c.in-Dvd.is ∙ kind-dvd (declared_by c.args.lookups.now) (where_by c.args.spot (scope_by c.args.at.now) c.args.bound.now) c.args.form.now.place c.in-Dvd.number c.in-Dvd.inner))
    (c.multiple.ensures (form_kind (declared_by c.args.lookups.now) (form_tree c.deref-in-Dvd.result.now) (where_by c.args.spot (scope_by c.args.at.now) c.args.bound.now)) c.in_ok-found-in-Dvd.ensures)

pub form_kind-returns-in_ok-found-in-All : goal.form_kind-returns-in_ok-found-in-All
form_kind-returns-in_ok-found-in-All t c = subst (Finds c.one-in-All.result)
    ((λ i. parts.one wanted.Truth (form_tree (c.deref-in-All-2.ensures i)) (form_kind (declared_by c.args.lookups.now) (form_tree (c.deref-in-All.ensures i)) (under (where_by c.args.spot (scope_by c.args.at.now) c.args.bound.now) (c.items.ensures i))) k.Bool)
    ∙ sym (ap (λ b. form_kind (declared_by c.args.lookups.now) (form_body_tree c.args.form.now.place b) (where_by c.args.spot (scope_by c.args.at.now) c.args.bound.now)) c.in-All.is ∙ kind-all (declared_by c.args.lookups.now) (where_by c.args.spot (scope_by c.args.at.now) c.args.bound.now) c.args.form.now.place c.in-All.words c.in-All.inner))
    (c.one-in-All.ensures (form_kind (declared_by c.args.lookups.now) (form_tree c.deref-in-All.result.now) (under (where_by c.args.spot (scope_by c.args.at.now) c.args.bound.now) c.items.result.now)) c.in_ok-found-in-All.ensures)

pub form_kind-returns-in_ok-found-in-Ex : goal.form_kind-returns-in_ok-found-in-Ex
form_kind-returns-in_ok-found-in-Ex t c = subst (Finds c.one-in-Ex.result)
    ((λ i. parts.one wanted.Truth (form_tree (c.deref-in-Ex-2.ensures i)) (form_kind (declared_by c.args.lookups.now) (form_tree (c.deref-in-Ex.ensures i)) (under (where_by c.args.spot (scope_by c.args.at.now) c.args.bound.now) (c.items-in-Ex.ensures i))) k.Bool)
    ∙ sym (ap (λ b. form_kind (declared_by c.args.lookups.now) (form_body_tree c.args.form.now.place b) (where_by c.args.spot (scope_by c.args.at.now) c.args.bound.now)) c.in-Ex.is ∙ kind-ex (declared_by c.args.lookups.now) (where_by c.args.spot (scope_by c.args.at.now) c.args.bound.now) c.args.form.now.place c.in-Ex.words c.in-Ex.inner))
    (c.one-in-Ex.ensures (form_kind (declared_by c.args.lookups.now) (form_tree c.deref-in-Ex.result.now) (under (where_by c.args.spot (scope_by c.args.at.now) c.args.bound.now) c.items-in-Ex.result.now)) c.in_ok-found-in-Ex.ensures)

pub form_kind-returns-in_ok-found-in-Compr : goal.form_kind-returns-in_ok-found-in-Compr
form_kind-returns-in_ok-found-in-Compr t c = subst (Finds c.one-in-Compr.result)
    ((λ i. parts.one wanted.Truth (form_tree (c.deref-in-Compr-2.ensures i)) (form_kind (declared_by c.args.lookups.now) (form_tree (c.deref-in-Compr.ensures i)) (under (where_by c.args.spot (scope_by c.args.at.now) c.args.bound.now) (c.in-Compr.word ∷ []))) k.Set)
    ∙ sym (ap (λ b. form_kind (declared_by c.args.lookups.now) (form_body_tree c.args.form.now.place b) (where_by c.args.spot (scope_by c.args.at.now) c.args.bound.now)) c.in-Compr.is ∙ kind-compr (declared_by c.args.lookups.now) (where_by c.args.spot (scope_by c.args.at.now) c.args.bound.now) c.args.form.now.place c.in-Compr.word c.in-Compr.inner))
    (c.one-in-Compr.ensures (form_kind (declared_by c.args.lookups.now) (form_tree c.deref-in-Compr.result.now) (under (where_by c.args.spot (scope_by c.args.at.now) c.args.bound.now) (c.in-Compr.word ∷ []))) c.in_ok-found-in-Compr.ensures)
