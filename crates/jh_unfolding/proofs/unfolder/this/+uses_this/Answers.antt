use Rattle.std.proofs.Common.{◌≡◌, ◌∙◌, ◌||◌, ◌++◌, ap, sym, refl, map}
use Rattle.jh_ast.specs.Bare.{form_tree, form_trees, form_body_tree}
use Rattle.std.proofs.Common.{List}
use Rattle.jh_ast.specs.declared.word.Word.{Word}
use Rattle.jh_ast.specs.declared.spec.SpecTree.{SpecTree}
use Rattle.jh_ast.specs.Forms as f
use Rattle.jh_ast.specs.Forms.{FormTree}
use Rattle.jh_ast.proofs.FormSteps as steps
use Rattle.jh_rules.specs.Words.{text_of}
use Rattle.jh_definitions.specs.jh_resolution.Spots.{texts_of}
use Rattle.jh_vars.specs.Opened.{uses_this, one_uses_this}
use Rattle.jh_unfolding.specs.unfolder.Adding.{program_of}
use Rattle.jh_unfolding.proofs.unfolder.Using.{if-as, one-next, one-end}
use Rattle.jh_unfolding.proofs.unfolder.this.+uses_this.Goals as goal

pub one_uses-loop-form-init : goal.one_uses-loop-form-init
one_uses-loop-form-init t c = refl

pub one_uses-loop-form-preserved : goal.one_uses-loop-form-preserved
one_uses-loop-form-preserved t c = one-next (program_of c.args.at.now.context.now) c.args.forms.now c.args.at.now.class (texts_of c.args.at.now.bound.now) c.loop-form.found c.either-found.result c.in_ok-next.next c.loop-form.form-index c.form-item.result c.loop-form-test.true c.form-item.is c.in_ok-next.ensures c.either-found.ensures ∙ c.loop-form.invariant

pub one_uses-returns : goal.one_uses-returns
one_uses-returns t c = sym (one-end (program_of c.args.at.now.context.now) c.args.forms.now c.args.at.now.class (texts_of c.args.at.now.bound.now) c.loop-form.found c.loop-form.form-index c.loop-form-test.false) ∙ c.loop-form.invariant

pub uses_this-returns-in-Null : goal.uses_this-returns-in-Null
unfolding uses_this
uses_this-returns-in-Null t c =
    let u : FormTree → _ = λ a. uses_this (program_of c.args.at.now.context.now) a c.args.at.now.class (texts_of c.args.at.now.bound.now) in
    let q = c.args.form.now.place in
    let whole : form_tree c.args.form.now ≡ f.null q = ap (form_body_tree q) c.in-Null.is ∙ steps.tree-Null q in
    ap u (sym whole)

pub uses_this-returns-in-True : goal.uses_this-returns-in-True
unfolding uses_this
uses_this-returns-in-True t c =
    let u : FormTree → _ = λ a. uses_this (program_of c.args.at.now.context.now) a c.args.at.now.class (texts_of c.args.at.now.bound.now) in
    let q = c.args.form.now.place in
    let whole : form_tree c.args.form.now ≡ f.yes q = ap (form_body_tree q) c.in-True.is ∙ steps.tree-True q in
    ap u (sym whole)

pub uses_this-returns-in-False : goal.uses_this-returns-in-False
unfolding uses_this
uses_this-returns-in-False t c =
    let u : FormTree → _ = λ a. uses_this (program_of c.args.at.now.context.now) a c.args.at.now.class (texts_of c.args.at.now.bound.now) in
    let q = c.args.form.now.place in
    let whole : form_tree c.args.form.now ≡ f.no q = ap (form_body_tree q) c.in-False.is ∙ steps.tree-False q in
    ap u (sym whole)

pub uses_this-returns-in-Univ : goal.uses_this-returns-in-Univ
unfolding uses_this
uses_this-returns-in-Univ t c =
    let u : FormTree → _ = λ a. uses_this (program_of c.args.at.now.context.now) a c.args.at.now.class (texts_of c.args.at.now.bound.now) in
    let q = c.args.form.now.place in
    let whole : form_tree c.args.form.now ≡ f.univ q = ap (form_body_tree q) c.in-Univ.is ∙ steps.tree-Univ q in
    ap u (sym whole)

pub uses_this-returns-in-Number : goal.uses_this-returns-in-Number
unfolding uses_this
uses_this-returns-in-Number t c =
    let u : FormTree → _ = λ a. uses_this (program_of c.args.at.now.context.now) a c.args.at.now.class (texts_of c.args.at.now.bound.now) in
    let q = c.args.form.now.place in
    let whole : form_tree c.args.form.now ≡ f.number q _ = ap (form_body_tree q) c.in-Number.is ∙ steps.tree-Number q _ in
    ap u (sym whole)

pub uses_this-returns-in-Tree : goal.uses_this-returns-in-Tree
unfolding uses_this
uses_this-returns-in-Tree t c =
    let u : FormTree → _ = λ a. uses_this (program_of c.args.at.now.context.now) a c.args.at.now.class (texts_of c.args.at.now.bound.now) in
    let q = c.args.form.now.place in
    let whole : form_tree c.args.form.now ≡ f.tree q _ = ap (form_body_tree q) c.in-Tree.is ∙ steps.tree-Tree q _ in
    ap u (sym whole)

pub uses_this-returns-in-Name : goal.uses_this-returns-in-Name
unfolding uses_this
uses_this-returns-in-Name t c =
    let u : FormTree → _ = λ a. uses_this (program_of c.args.at.now.context.now) a c.args.at.now.class (texts_of c.args.at.now.bound.now) in
    let q = c.args.form.now.place in
    let whole : form_tree c.args.form.now ≡ f.name q c.in-Name.word = ap (form_body_tree q) c.in-Name.is ∙ steps.tree-Name q _ in
    c.name_uses.ensures ∙ ap u (sym whole)

pub uses_this-returns-in-Member : goal.uses_this-returns-in-Member
unfolding uses_this
uses_this-returns-in-Member t c =
    let u : FormTree → _ = λ a. uses_this (program_of c.args.at.now.context.now) a c.args.at.now.class (texts_of c.args.at.now.bound.now) in
    let q = c.args.form.now.place in
    let whole : form_tree c.args.form.now ≡ f.member q (form_tree c.in-Member.inner.value) _ = ap (form_body_tree q) c.in-Member.is ∙ steps.tree-Member q _ _ _ _ in
    if-as c.uses_this.result (u (form_tree c.deref.result.now)) (u (form_tree c.args.form.now)) (ap (λ a. u (form_tree a)) c.deref.ensures ∙ ap u (sym whole)) c.uses_this.ensures

pub uses_this-returns-in-Not : goal.uses_this-returns-in-Not
unfolding uses_this
uses_this-returns-in-Not t c =
    let u : FormTree → _ = λ a. uses_this (program_of c.args.at.now.context.now) a c.args.at.now.class (texts_of c.args.at.now.bound.now) in
    let q = c.args.form.now.place in
    let whole : form_tree c.args.form.now ≡ f.negation q (form_tree c.in-Not.inner.value) = ap (form_body_tree q) c.in-Not.is ∙ steps.tree-Not q _ _ _ in
    if-as c.uses_this-in-Not.result (u (form_tree c.deref-in-Not.result.now)) (u (form_tree c.args.form.now)) (ap (λ a. u (form_tree a)) c.deref-in-Not.ensures ∙ ap u (sym whole)) c.uses_this-in-Not.ensures

pub uses_this-returns-in-Minus : goal.uses_this-returns-in-Minus
unfolding uses_this
uses_this-returns-in-Minus t c =
    let u : FormTree → _ = λ a. uses_this (program_of c.args.at.now.context.now) a c.args.at.now.class (texts_of c.args.at.now.bound.now) in
    let q = c.args.form.now.place in
    let whole : form_tree c.args.form.now ≡ f.minus q (form_tree c.in-Minus.inner.value) = ap (form_body_tree q) c.in-Minus.is ∙ steps.tree-Minus q _ _ _ in
    if-as c.uses_this-in-Minus.result (u (form_tree c.deref-in-Minus.result.now)) (u (form_tree c.args.form.now)) (ap (λ a. u (form_tree a)) c.deref-in-Minus.ensures ∙ ap u (sym whole)) c.uses_this-in-Minus.ensures

pub uses_this-returns-in-Old : goal.uses_this-returns-in-Old
unfolding uses_this
uses_this-returns-in-Old t c =
    let u : FormTree → _ = λ a. uses_this (program_of c.args.at.now.context.now) a c.args.at.now.class (texts_of c.args.at.now.bound.now) in
    let q = c.args.form.now.place in
    let whole : form_tree c.args.form.now ≡ f.old q (form_tree c.in-Old.inner.value) = ap (form_body_tree q) c.in-Old.is ∙ steps.tree-Old q _ _ _ in
    if-as c.uses_this-in-Old.result (u (form_tree c.deref-in-Old.result.now)) (u (form_tree c.args.form.now)) (ap (λ a. u (form_tree a)) c.deref-in-Old.ensures ∙ ap u (sym whole)) c.uses_this-in-Old.ensures

pub uses_this-returns-in-Card : goal.uses_this-returns-in-Card
unfolding uses_this
uses_this-returns-in-Card t c =
    let u : FormTree → _ = λ a. uses_this (program_of c.args.at.now.context.now) a c.args.at.now.class (texts_of c.args.at.now.bound.now) in
    let q = c.args.form.now.place in
    let whole : form_tree c.args.form.now ≡ f.card q (form_tree c.in-Card.inner.value) = ap (form_body_tree q) c.in-Card.is ∙ steps.tree-Card q _ _ _ in
    if-as c.uses_this-in-Card.result (u (form_tree c.deref-in-Card.result.now)) (u (form_tree c.args.form.now)) (ap (λ a. u (form_tree a)) c.deref-in-Card.ensures ∙ ap u (sym whole)) c.uses_this-in-Card.ensures

pub uses_this-returns-in-Dvd : goal.uses_this-returns-in-Dvd
unfolding uses_this
uses_this-returns-in-Dvd t c =
    let u : FormTree → _ = λ a. uses_this (program_of c.args.at.now.context.now) a c.args.at.now.class (texts_of c.args.at.now.bound.now) in
    let q = c.args.form.now.place in
    let whole : form_tree c.args.form.now ≡ f.dvd q _ (form_tree c.in-Dvd.inner.value) = ap (form_body_tree q) c.in-Dvd.is ∙ steps.tree-Dvd q _ _ _ _ in
    if-as c.uses_this-in-Dvd.result (u (form_tree c.deref-in-Dvd.result.now)) (u (form_tree c.args.form.now)) (ap (λ a. u (form_tree a)) c.deref-in-Dvd.ensures ∙ ap u (sym whole)) c.uses_this-in-Dvd.ensures

pub uses_this-returns-in_ok-second-in-Binary : goal.uses_this-returns-in_ok-second-in-Binary
unfolding uses_this
uses_this-returns-in_ok-second-in-Binary t c =
    let u : FormTree → _ = λ a. uses_this (program_of c.args.at.now.context.now) a c.args.at.now.class (texts_of c.args.at.now.bound.now) in
    let q = c.args.form.now.place in
    let whole : form_tree c.args.form.now ≡ f.binary q _ (form_tree c.in-Binary.left.value) (form_tree c.in-Binary.right.value) = ap (form_body_tree q) c.in-Binary.is ∙ steps.tree-Binary q _ _ _ _ _ _ _ in
    c.either.ensures ∙ (λ i. (c.in_ok-first-in-Binary.ensures ∙ ap (λ a. u (form_tree a)) c.deref-in-Binary.ensures) i || (c.in_ok-second-in-Binary.ensures ∙ ap (λ a. u (form_tree a)) c.deref-in-Binary-2.ensures) i) ∙ ap u (sym whole)

pub uses_this-returns-in_ok-second-in-Rtrancl : goal.uses_this-returns-in_ok-second-in-Rtrancl
unfolding uses_this
uses_this-returns-in_ok-second-in-Rtrancl t c =
    let u : FormTree → _ = λ a. uses_this (program_of c.args.at.now.context.now) a c.args.at.now.class (texts_of c.args.at.now.bound.now) in
    let q = c.args.form.now.place in
    let whole : form_tree c.args.form.now ≡ f.rtrancl q _ _ _ (form_tree c.in-Rtrancl.left.value) (form_tree c.in-Rtrancl.right.value) = ap (form_body_tree q) c.in-Rtrancl.is ∙ steps.tree-Rtrancl q _ _ _ _ _ _ _ _ _ _ _ in
    c.either-in-Rtrancl.ensures ∙ (λ i. (c.in_ok-first-in-Rtrancl.ensures ∙ ap (λ a. u (form_tree a)) c.deref-in-Rtrancl.ensures) i || (c.in_ok-second-in-Rtrancl.ensures ∙ ap (λ a. u (form_tree a)) c.deref-in-Rtrancl-2.ensures) i) ∙ ap u (sym whole)

pub uses_this-returns-in-All : goal.uses_this-returns-in-All
unfolding uses_this
uses_this-returns-in-All t c =
    let u : FormTree → _ = λ a. uses_this (program_of c.args.at.now.context.now) a c.args.at.now.class (texts_of c.args.at.now.bound.now) in
    let q = c.args.form.now.place in
    let whole : form_tree c.args.form.now ≡ f.all q c.in-All.words (form_tree c.in-All.inner.value) = ap (form_body_tree q) c.in-All.is ∙ steps.tree-All q _ _ _ _ in
    let w : SpecTree → List Word → _ = λ a ws. uses_this (program_of c.args.at.now.context.now) (form_tree a) c.args.at.now.class (texts_of c.args.at.now.bound.now ++ map text_of ws) in
    if-as c.uses_under.result (w c.deref-in-All.result.now c.items.result.now) (u (form_tree c.args.form.now)) ((λ i. w (c.deref-in-All.ensures i) (c.items.ensures i)) ∙ ap u (sym whole)) c.uses_under.ensures

pub uses_this-returns-in-Ex : goal.uses_this-returns-in-Ex
unfolding uses_this
uses_this-returns-in-Ex t c =
    let u : FormTree → _ = λ a. uses_this (program_of c.args.at.now.context.now) a c.args.at.now.class (texts_of c.args.at.now.bound.now) in
    let q = c.args.form.now.place in
    let whole : form_tree c.args.form.now ≡ f.ex q c.in-Ex.words (form_tree c.in-Ex.inner.value) = ap (form_body_tree q) c.in-Ex.is ∙ steps.tree-Ex q _ _ _ _ in
    let w : SpecTree → List Word → _ = λ a ws. uses_this (program_of c.args.at.now.context.now) (form_tree a) c.args.at.now.class (texts_of c.args.at.now.bound.now ++ map text_of ws) in
    if-as c.uses_under-in-Ex.result (w c.deref-in-Ex.result.now c.items-in-Ex.result.now) (u (form_tree c.args.form.now)) ((λ i. w (c.deref-in-Ex.ensures i) (c.items-in-Ex.ensures i)) ∙ ap u (sym whole)) c.uses_under-in-Ex.ensures

pub uses_this-returns-in-Compr : goal.uses_this-returns-in-Compr
unfolding uses_this
uses_this-returns-in-Compr t c =
    let u : FormTree → _ = λ a. uses_this (program_of c.args.at.now.context.now) a c.args.at.now.class (texts_of c.args.at.now.bound.now) in
    let q = c.args.form.now.place in
    let whole : form_tree c.args.form.now ≡ f.compr q c.in-Compr.word (form_tree c.in-Compr.inner.value) = ap (form_body_tree q) c.in-Compr.is ∙ steps.tree-Compr q _ _ _ _ in
    let w : SpecTree → List Word → _ = λ a ws. uses_this (program_of c.args.at.now.context.now) (form_tree a) c.args.at.now.class (texts_of c.args.at.now.bound.now ++ map text_of ws) in
    if-as c.uses_under-in-Compr.result (w c.deref-in-Compr.result.now c.from_ref.result.now) (u (form_tree c.args.form.now)) ((λ i. w (c.deref-in-Compr.ensures i) (c.from_ref.ensures.value i)) ∙ ap u (sym whole)) c.uses_under-in-Compr.ensures

pub uses_this-returns-in-Braces : goal.uses_this-returns-in-Braces
unfolding uses_this
uses_this-returns-in-Braces t c =
    let u : FormTree → _ = λ a. uses_this (program_of c.args.at.now.context.now) a c.args.at.now.class (texts_of c.args.at.now.bound.now) in
    let q = c.args.form.now.place in
    let whole : form_tree c.args.form.now ≡ f.braces q (form_trees c.in-Braces.forms) = ap (form_body_tree q) c.in-Braces.is ∙ steps.tree-Braces q _ in
    let w : List SpecTree → _ = λ fs. one_uses_this (program_of c.args.at.now.context.now) (form_trees fs) c.args.at.now.class (texts_of c.args.at.now.bound.now) in
    if-as c.one_uses.result (w c.items-in-Braces.result.now) (u (form_tree c.args.form.now)) (ap w c.items-in-Braces.ensures ∙ ap u (sym whole)) c.one_uses.ensures
