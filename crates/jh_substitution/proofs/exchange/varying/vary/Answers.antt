use Rattle.std.proofs.Common.{◌≡◌, ◌∷◌, refl, sym, ap, ◌∙◌, ℕ, List, Some, slice_get}
use Rattle.std.proofs.lemmas.Result.{IfOk-weaker}
use Rattle.jh_form.specs.Tree.{of_object, of_truth}
use Rattle.jh_form.specs.Tree as tree
use Rattle.jh_form.specs.Meaning.{Interp, InUniverse, term_value, truth}
use Rattle.jh_form.specs.Sorts.{tree_sort}
use Rattle.jh_boxed.specs.Mapped.{mapped_formula}
use Rattle.jh_boxed_operations.specs.comparison.Inside.{AreInside}
use Rattle.jh_arena.specs.table.Entries.{is_truth, the_object, the_truth, the_value}
use Rattle.jh_arena.specs.table.Nodes.{nodes, fits}
use Rattle.jh_arena.proofs.table.Listed.{extends-trans}
use Rattle.jh_substitution.proofs.rewriting.Sorted.{listed-truth, listed-value, truth-within}
use Rattle.jh_substitution.specs.simultaneous.Lifted.{lifting}
use Rattle.jh_substitution.specs.exchange.Under.{raised, exchanged_under, varied}
use Rattle.jh_substitution.proofs.exchange.Rules.{object-within, raised-sort, risen-object, risen-truth, variable-is}
use Rattle.jh_substitution.proofs.exchange.varying.vary.Goals as goal

pub lift-requires : goal.lift-requires
lift-requires c = truth-within (nodes c.args.table.now) c.args.formula c.requires.formula

pub lift-requires-2 : goal.lift-requires-2
lift-requires-2 c = object-within c.args.table.now c.lift.new.table c.args.term c.lift.ensures.grows c.requires.term

pub make-requires : goal.make-requires
unfolding fits
make-requires c = refl

pub exchange_under-requires-clause-formula : goal.exchange_under-requires-clause-formula
unfolding is_truth
exchange_under-requires-clause-formula c =
    ap is_truth
    (risen-truth c.args.table.now c.lift.new.table c.make.new.self c.args.formula c.in_ok-risen.risen c.requires.formula c.in_ok-risen.ensures.tree (extends-trans c.lift.new.table c.lift-2.new.table c.make.new.self c.lift-2.ensures.grows c.make.ensures.grows))

pub exchange_under-requires-clause-sort : goal.exchange_under-requires-clause-sort
exchange_under-requires-clause-sort c =
    let w = c.make.new.self in
    let b = of_object (the_object (slice_get (nodes c.args.table.now) c.args.term)) in
    let old = risen-object c.args.table.now c.lift.new.table c.lift-2.new.table w c.args.term c.in_ok-old.old c.requires.term c.lift.ensures.grows c.in_ok-old.ensures.tree c.make.ensures.grows in
    let variable = variable-is c.lift-2.new.table w c.in_ok-variable.variable c.in_ok-variable.ensures.node in
    ap tree_sort (listed-value (slice_get (nodes w) c.in_ok-variable.variable) (of_object (tree.bound 0)) variable) ∙ sym (raised-sort 1 b) ∙ ap tree_sort (sym (listed-value (slice_get (nodes w) c.in_ok-old.old) (raised 1 b) old))

pub returns-clause-tree : goal.returns-clause-tree
returns-clause-tree c =
    let w = c.make.new.self in
    let us = nodes c.exchange_under.new.table in
    let a = the_truth (slice_get (nodes c.args.table.now) c.args.formula) in
    let b = the_object (slice_get (nodes c.args.table.now) c.args.term) in
    let old = risen-object c.args.table.now c.lift.new.table c.lift-2.new.table w c.args.term c.in_ok-old.old c.requires.term c.lift.ensures.grows c.in_ok-old.ensures.tree c.make.ensures.grows in
    let variable = variable-is c.lift-2.new.table w c.in_ok-variable.variable c.in_ok-variable.ensures.node in
    let risen = risen-truth c.args.table.now c.lift.new.table w c.args.formula c.in_ok-risen.risen c.requires.formula c.in_ok-risen.ensures.tree (extends-trans c.lift.new.table c.lift-2.new.table w c.lift-2.ensures.grows c.make.ensures.grows) in
    let first = listed-truth (slice_get (nodes w) c.in_ok-risen.risen) (mapped_formula a (lifting 1) 0) risen in
    let second = listed-value (slice_get (nodes w) c.in_ok-old.old) (raised 1 (of_object b)) old in
    let third = listed-value (slice_get (nodes w) c.in_ok-variable.variable) (of_object (tree.bound 0)) variable in
    IfOk-weaker
    c.exchange_under.result
    (λ made. slice_get us made ≡ Some (of_truth (exchanged_under (the_truth (slice_get (nodes w) c.in_ok-risen.risen)) (the_value (slice_get (nodes w) c.in_ok-old.old)) (the_value (slice_get (nodes w) c.in_ok-variable.variable)))))
    (λ made. slice_get us made ≡ Some (of_truth (varied a b)))
    (λ made e. e ∙ (λ i. Some (of_truth (exchanged_under (first i) (second i) (third i)))))
    c.exchange_under.ensures.tree

pub returns-clause-meaning : goal.returns-clause-meaning
returns-clause-meaning c =
    let us = nodes c.exchange_under.new.table in
    let a = the_truth (slice_get (nodes c.args.table.now) c.args.formula) in
    let b = the_object (slice_get (nodes c.args.table.now) c.args.term) in
    IfOk-weaker
    c.exchange_under.result
    (λ made. slice_get us made ≡ Some (of_truth (varied a b)))
    (λ made. (m : Interp) (e : List ℕ) → InUniverse m → AreInside m.last e → truth (the_truth (slice_get us made)) m (term_value b m e ∷ e) ≡ truth a m e)
    (λ made q m e universe inside. ap (λ x. truth x m (term_value b m e ∷ e)) (listed-truth (slice_get us made) (varied a b) q) ∙ c.varied_keeps_meaning.ensures a b m e universe inside)
    (returns-clause-tree c)
