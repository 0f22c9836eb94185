use Rattle.std.proofs.Common.{◌≡◌, refl, sym, ap, ◌∙◌, Some, slice_get}
use Rattle.std.proofs.lemmas.Result.{IfOk-weaker}
use Rattle.jh_form.specs.Tree.{of_set, of_truth}
use Rattle.jh_form.specs.Tree as t
use Rattle.jh_boxed.specs.Mapped.{mapped_term}
use Rattle.jh_arena.specs.table.Entries.{the_object, the_set}
use Rattle.jh_arena.specs.table.Nodes.{nodes, fits_in, shape_tree, tree_in}
use Rattle.jh_arena.specs.declared.table.shapes.Shape.TheVariants as s
use Rattle.jh_arena.proofs.table.PartSteps.{part-Single-a, part-Union-a, part-Union-b, part-Inter-a, part-Inter-b, part-Diff-a, part-Diff-b, part-Compl-a, part-EqSet-a, part-EqSet-b, part-Subset-a, part-Subset-b, part-Member-a, part-Member-b}
use Rattle.jh_normal_forms.specs.rebuilding.Walking.{applied}
use Rattle.jh_substitution.specs.simultaneous.Lifted.{lifting}
use Rattle.jh_normal_forms.specs.set_opening.SetsOpened.{body, as_comprehension, is_in, relation, opening_sets}
use Rattle.jh_normal_forms.proofs.set_opening.Arms.{made-as, other-made}
use Rattle.jh_normal_forms.proofs.set_opening.opening.OpeningSetsBuildRules.made.Goals as goal

pub returns-in-Empty-clause-node : goal.returns-in-Empty-clause-node
unfolding applied shape_tree as_comprehension relation
returns-in-Empty-clause-node c =
    let v = c.args.table.now in
    IfOk-weaker
    c.none.result
    (λ made. slice_get (nodes c.none.new.table) made ≡ Some (of_set (t.compr t.false_formula)))
    (λ made. slice_get (nodes c.none.new.table) made ≡ Some (applied (tree_in v c.args.shape) opening_sets c.args._polarity))
    (λ made at. at ∙ ap (λ w. Some w) (made-as v.pools (nodes v) c.args.shape s.Empty c.args._polarity (of_set (t.compr t.false_formula)) c.in-Empty.is refl))
    c.none.ensures.node

pub returns-in-Univ-clause-node : goal.returns-in-Univ-clause-node
unfolding applied shape_tree as_comprehension relation
returns-in-Univ-clause-node c =
    let v = c.args.table.now in
    IfOk-weaker
    c.everything.result
    (λ made. slice_get (nodes c.everything.new.table) made ≡ Some (of_set (t.compr t.true_formula)))
    (λ made. slice_get (nodes c.everything.new.table) made ≡ Some (applied (tree_in v c.args.shape) opening_sets c.args._polarity))
    (λ made at. at ∙ ap (λ w. Some w) (made-as v.pools (nodes v) c.args.shape s.Univ c.args._polarity (of_set (t.compr t.true_formula)) c.in-Univ.is refl))
    c.everything.ensures.node

pub only-requires : goal.only-requires
only-requires c =
    let v = c.args.table.now in
    record { object = part-Single-a v.pools (nodes v) c.in-Single.a (ap (fits_in v) (sym c.in-Single.is) ∙ c.requires.fits) }

pub returns-in-Single-clause-node : goal.returns-in-Single-clause-node
unfolding applied shape_tree as_comprehension relation
returns-in-Single-clause-node c =
    let v = c.args.table.now in
    IfOk-weaker
    c.only.result
    (λ made. slice_get (nodes c.only.new.table) made ≡ Some (of_set (t.compr (t.eq_object (t.bound 0) (mapped_term (the_object (slice_get (nodes v) c.in-Single.a)) (lifting 1) 0)))))
    (λ made. slice_get (nodes c.only.new.table) made ≡ Some (applied (tree_in v c.args.shape) opening_sets c.args._polarity))
    (λ made at. at ∙ ap (λ w. Some w) (made-as v.pools (nodes v) c.args.shape (s.Single c.in-Single.a) c.args._polarity (of_set (t.compr (t.eq_object (t.bound 0) (mapped_term (the_object (slice_get (nodes v) c.in-Single.a)) (lifting 1) 0)))) c.in-Single.is refl))
    c.only.ensures.node

pub where_said-requires : goal.where_said-requires
where_said-requires c =
    let v = c.args.table.now in
    record { a = part-Union-a v.pools (nodes v) c.in-Union.a c.in-Union.b (ap (fits_in v) (sym c.in-Union.is) ∙ c.requires.fits); b = part-Union-b v.pools (nodes v) c.in-Union.a c.in-Union.b (ap (fits_in v) (sym c.in-Union.is) ∙ c.requires.fits) }

pub returns-in-Union-clause-node : goal.returns-in-Union-clause-node
unfolding applied shape_tree as_comprehension relation
returns-in-Union-clause-node c =
    let v = c.args.table.now in
    IfOk-weaker
    c.where_said.result
    (λ made. slice_get (nodes c.where_said.new.table) made ≡ Some (of_set (t.compr (t.or (body (the_set (slice_get (nodes v) c.in-Union.a))) (body (the_set (slice_get (nodes v) c.in-Union.b)))))))
    (λ made. slice_get (nodes c.where_said.new.table) made ≡ Some (applied (tree_in v c.args.shape) opening_sets c.args._polarity))
    (λ made at. at ∙ ap (λ w. Some w) (made-as v.pools (nodes v) c.args.shape (s.Union c.in-Union.a c.in-Union.b) c.args._polarity (of_set (t.compr (t.or (body (the_set (slice_get (nodes v) c.in-Union.a))) (body (the_set (slice_get (nodes v) c.in-Union.b)))))) c.in-Union.is refl))
    c.where_said.ensures.node

pub where_said-requires-in-Inter : goal.where_said-requires-in-Inter
where_said-requires-in-Inter c =
    let v = c.args.table.now in
    record { a = part-Inter-a v.pools (nodes v) c.in-Inter.a c.in-Inter.b (ap (fits_in v) (sym c.in-Inter.is) ∙ c.requires.fits); b = part-Inter-b v.pools (nodes v) c.in-Inter.a c.in-Inter.b (ap (fits_in v) (sym c.in-Inter.is) ∙ c.requires.fits) }

pub returns-in-Inter-clause-node : goal.returns-in-Inter-clause-node
unfolding applied shape_tree as_comprehension relation
returns-in-Inter-clause-node c =
    let v = c.args.table.now in
    IfOk-weaker
    c.where_said-in-Inter.result
    (λ made. slice_get (nodes c.where_said-in-Inter.new.table) made ≡ Some (of_set (t.compr (t.and (body (the_set (slice_get (nodes v) c.in-Inter.a))) (body (the_set (slice_get (nodes v) c.in-Inter.b)))))))
    (λ made. slice_get (nodes c.where_said-in-Inter.new.table) made ≡ Some (applied (tree_in v c.args.shape) opening_sets c.args._polarity))
    (λ made at. at ∙ ap (λ w. Some w) (made-as v.pools (nodes v) c.args.shape (s.Inter c.in-Inter.a c.in-Inter.b) c.args._polarity (of_set (t.compr (t.and (body (the_set (slice_get (nodes v) c.in-Inter.a))) (body (the_set (slice_get (nodes v) c.in-Inter.b)))))) c.in-Inter.is refl))
    c.where_said-in-Inter.ensures.node

pub where_said-requires-in-Diff : goal.where_said-requires-in-Diff
where_said-requires-in-Diff c =
    let v = c.args.table.now in
    record { a = part-Diff-a v.pools (nodes v) c.in-Diff.a c.in-Diff.b (ap (fits_in v) (sym c.in-Diff.is) ∙ c.requires.fits); b = part-Diff-b v.pools (nodes v) c.in-Diff.a c.in-Diff.b (ap (fits_in v) (sym c.in-Diff.is) ∙ c.requires.fits) }

pub returns-in-Diff-clause-node : goal.returns-in-Diff-clause-node
unfolding applied shape_tree as_comprehension relation
returns-in-Diff-clause-node c =
    let v = c.args.table.now in
    IfOk-weaker
    c.where_said-in-Diff.result
    (λ made. slice_get (nodes c.where_said-in-Diff.new.table) made ≡ Some (of_set (t.compr (t.and (body (the_set (slice_get (nodes v) c.in-Diff.a))) (t.negation (body (the_set (slice_get (nodes v) c.in-Diff.b))))))))
    (λ made. slice_get (nodes c.where_said-in-Diff.new.table) made ≡ Some (applied (tree_in v c.args.shape) opening_sets c.args._polarity))
    (λ made at. at ∙ ap (λ w. Some w) (made-as v.pools (nodes v) c.args.shape (s.Diff c.in-Diff.a c.in-Diff.b) c.args._polarity (of_set (t.compr (t.and (body (the_set (slice_get (nodes v) c.in-Diff.a))) (t.negation (body (the_set (slice_get (nodes v) c.in-Diff.b))))))) c.in-Diff.is refl))
    c.where_said-in-Diff.ensures.node

pub outside-requires : goal.outside-requires
outside-requires c =
    let v = c.args.table.now in
    record { set = part-Compl-a v.pools (nodes v) c.in-Compl.a (ap (fits_in v) (sym c.in-Compl.is) ∙ c.requires.fits) }

pub returns-in-Compl-clause-node : goal.returns-in-Compl-clause-node
unfolding applied shape_tree as_comprehension relation
returns-in-Compl-clause-node c =
    let v = c.args.table.now in
    IfOk-weaker
    c.outside.result
    (λ made. slice_get (nodes c.outside.new.table) made ≡ Some (of_set (t.compr (t.negation (body (the_set (slice_get (nodes v) c.in-Compl.a)))))))
    (λ made. slice_get (nodes c.outside.new.table) made ≡ Some (applied (tree_in v c.args.shape) opening_sets c.args._polarity))
    (λ made at. at ∙ ap (λ w. Some w) (made-as v.pools (nodes v) c.args.shape (s.Compl c.in-Compl.a) c.args._polarity (of_set (t.compr (t.negation (body (the_set (slice_get (nodes v) c.in-Compl.a)))))) c.in-Compl.is refl))
    c.outside.ensures.node

pub said_of_each-requires : goal.said_of_each-requires
said_of_each-requires c =
    let v = c.args.table.now in
    record { a = part-EqSet-a v.pools (nodes v) c.in-EqSet.a c.in-EqSet.b (ap (fits_in v) (sym c.in-EqSet.is) ∙ c.requires.fits); b = part-EqSet-b v.pools (nodes v) c.in-EqSet.a c.in-EqSet.b (ap (fits_in v) (sym c.in-EqSet.is) ∙ c.requires.fits) }

pub returns-in-EqSet-clause-node : goal.returns-in-EqSet-clause-node
unfolding applied shape_tree as_comprehension relation
returns-in-EqSet-clause-node c =
    let v = c.args.table.now in
    IfOk-weaker
    c.said_of_each.result
    (λ made. slice_get (nodes c.said_of_each.new.table) made ≡ Some (of_truth (t.all (t.iff (body (the_set (slice_get (nodes v) c.in-EqSet.a))) (body (the_set (slice_get (nodes v) c.in-EqSet.b)))))))
    (λ made. slice_get (nodes c.said_of_each.new.table) made ≡ Some (applied (tree_in v c.args.shape) opening_sets c.args._polarity))
    (λ made at. at ∙ ap (λ w. Some w) (made-as v.pools (nodes v) c.args.shape (s.EqSet c.in-EqSet.a c.in-EqSet.b) c.args._polarity (of_truth (t.all (t.iff (body (the_set (slice_get (nodes v) c.in-EqSet.a))) (body (the_set (slice_get (nodes v) c.in-EqSet.b)))))) c.in-EqSet.is refl))
    c.said_of_each.ensures.node

pub said_of_each-requires-in-Subset : goal.said_of_each-requires-in-Subset
said_of_each-requires-in-Subset c =
    let v = c.args.table.now in
    record { a = part-Subset-a v.pools (nodes v) c.in-Subset.a c.in-Subset.b (ap (fits_in v) (sym c.in-Subset.is) ∙ c.requires.fits); b = part-Subset-b v.pools (nodes v) c.in-Subset.a c.in-Subset.b (ap (fits_in v) (sym c.in-Subset.is) ∙ c.requires.fits) }

pub returns-in-Subset-clause-node : goal.returns-in-Subset-clause-node
unfolding applied shape_tree as_comprehension relation
returns-in-Subset-clause-node c =
    let v = c.args.table.now in
    IfOk-weaker
    c.said_of_each-in-Subset.result
    (λ made. slice_get (nodes c.said_of_each-in-Subset.new.table) made ≡ Some (of_truth (t.all (t.implies (body (the_set (slice_get (nodes v) c.in-Subset.a))) (body (the_set (slice_get (nodes v) c.in-Subset.b)))))))
    (λ made. slice_get (nodes c.said_of_each-in-Subset.new.table) made ≡ Some (applied (tree_in v c.args.shape) opening_sets c.args._polarity))
    (λ made at. at ∙ ap (λ w. Some w) (made-as v.pools (nodes v) c.args.shape (s.Subset c.in-Subset.a c.in-Subset.b) c.args._polarity (of_truth (t.all (t.implies (body (the_set (slice_get (nodes v) c.in-Subset.a))) (body (the_set (slice_get (nodes v) c.in-Subset.b)))))) c.in-Subset.is refl))
    c.said_of_each-in-Subset.ensures.node

pub is_in-requires : goal.is_in-requires
is_in-requires c =
    let v = c.args.table.now in
    record { object = part-Member-a v.pools (nodes v) c.in-Member.a c.in-Member.b (ap (fits_in v) (sym c.in-Member.is) ∙ c.requires.fits); set = part-Member-b v.pools (nodes v) c.in-Member.a c.in-Member.b (ap (fits_in v) (sym c.in-Member.is) ∙ c.requires.fits) }

pub returns-in-Member-clause-node : goal.returns-in-Member-clause-node
unfolding applied shape_tree as_comprehension relation
returns-in-Member-clause-node c =
    let v = c.args.table.now in
    IfOk-weaker
    c.is_in.result
    (λ made. slice_get (nodes c.is_in.new.table) made ≡ Some (of_truth (is_in (the_object (slice_get (nodes v) c.in-Member.a)) (the_set (slice_get (nodes v) c.in-Member.b)))))
    (λ made. slice_get (nodes c.is_in.new.table) made ≡ Some (applied (tree_in v c.args.shape) opening_sets c.args._polarity))
    (λ made at. at ∙ ap (λ w. Some w) (made-as v.pools (nodes v) c.args.shape (s.Member c.in-Member.a c.in-Member.b) c.args._polarity (of_truth (is_in (the_object (slice_get (nodes v) c.in-Member.a)) (the_set (slice_get (nodes v) c.in-Member.b)))) c.in-Member.is refl))
    c.is_in.ensures.node

pub returns-in_default : goal.returns-in_default
returns-in_default c = record {
  node = IfOk-weaker
      c.make.result
      (λ made. slice_get (nodes c.make.new.self) made ≡ Some (tree_in c.args.table.now c.args.shape))
      (λ made. slice_get (nodes c.make.new.self) made ≡ Some (applied (tree_in c.args.table.now c.args.shape) opening_sets c.args._polarity))
      (λ made at. at ∙ ap (λ v. Some v) (sym (other-made c.args.table.now.pools (nodes c.args.table.now) c.args.shape c.args._polarity c.in_default.not-Empty c.in_default.not-Univ c.in_default.not-Single c.in_default.not-Union c.in_default.not-Inter c.in_default.not-Diff c.in_default.not-Compl c.in_default.not-EqSet c.in_default.not-Subset c.in_default.not-Member)))
      c.make.ensures.node;
  grows = c.make.ensures.grows;
}
