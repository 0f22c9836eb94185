use Rattle.std.proofs.Common.{◌≡◌, refl, ap, sym, ◌∙◌, ◌<◌, not, true, Some, slice_get, rules, arith}
use Rattle.std.proofs.lemmas.Result.{IfOk-weaker}
use Rattle.jh_form.specs.Tree.{of_truth}
use Rattle.jh_form.specs.Tree as t
use Rattle.jh_arena.specs.table.Entries.{is_truth, the_truth, the_mark}
use Rattle.jh_arena.specs.table.Growth.{Extends}
use Rattle.jh_arena.specs.table.Nodes.{nodes, fits_in, tree_in}
use Rattle.jh_arena.specs.table.Parts.{own_parts, list_parts}
use Rattle.jh_arena.specs.declared.table.shapes.Shape.TheVariants as s
use Rattle.jh_arena.proofs.table.Listed.{extends-trans}
use Rattle.jh_arena.proofs.table.NodeSteps.{fits-Mark, tree-Mark}
use Rattle.jh_arena.proofs.table.PartSteps.{part-Negation-a, part-And-a, part-And-b, part-Or-a, part-Or-b, part-Implies-a, part-Implies-b, part-Iff-a, part-Iff-b, part-All-a, part-Ex-a, part-Mark-m, part-Mark-a}
use Rattle.jh_normal_forms.specs.negation_normal_form.Normal.{normal}
use Rattle.jh_normal_forms.specs.negation_normal_form.Negating.{IsNormalised, joined, quantified, opened_second, literal}
use Rattle.jh_normal_forms.specs.negation_normal_form.Memos.{found}
use Rattle.jh_normal_forms.proofs.negation_normal_form.Arms.{still-truth, truth-inside, truth-stays, truth-there, truth-at, normal-at, mark-stays, part-below, holds-stay, holds-note, on-ok, answered, opened-as, negation-arm, and-arm, or-arm, implies-arm, iff-arm, all-arm, ex-arm, mark-arm, atom-arm}
use Rattle.jh_normal_forms.proofs.negation_normal_form.negating.+normalised.Goals as goal

pub both-normalised-requires-2 : goal.both-normalised-requires-2
both-normalised-requires-2 τ c =
    let formula = still-truth c.args.table.now c.normalised.new.table c.args.b c.normalised.ensures.grows c.requires.b in
    let less = c.requires.below.1 in
    search (rules, arith)

pub both-join-requires-clause-a : goal.both-join-requires-clause-a
both-join-requires-clause-a τ c =
    truth-there (slice_get (nodes c.normalised-2.new.table) c.in_ok-left.left) _ (c.normalised-2.ensures.grows.nodes.keeps c.in_ok-left.left _ (normal-at c.args.table.now c.normalised.new.table c.args.a c.in_ok-left.left c.args.first c.normalised.ensures.grows c.requires.a c.in_ok-left.ensures.node))

pub both-join-requires-clause-b : goal.both-join-requires-clause-b
both-join-requires-clause-b τ c = truth-there (slice_get (nodes c.normalised-2.new.table) c.in_ok-right.right) _ c.in_ok-right.ensures.node.is

pub both-returns-clause-node : goal.both-returns-clause-node
both-returns-clause-node τ c =
    let old = nodes c.args.table.now in
    let us = nodes c.normalised-2.new.table in
    let grows : Extends c.args.table.now c.normalised-2.new.table = extends-trans c.args.table.now c.normalised.new.table c.normalised-2.new.table c.normalised.ensures.grows c.normalised-2.ensures.grows in
    let left : the_truth (slice_get us c.in_ok-left.left) ≡ normal (the_truth (slice_get old c.args.a)) c.args.first =
    truth-at (slice_get us c.in_ok-left.left) _ (c.normalised-2.ensures.grows.nodes.keeps c.in_ok-left.left _ (normal-at c.args.table.now c.normalised.new.table c.args.a c.in_ok-left.left c.args.first c.normalised.ensures.grows c.requires.a c.in_ok-left.ensures.node)) in
    let right : the_truth (slice_get us c.in_ok-right.right) ≡ normal (the_truth (slice_get old c.args.b)) c.args.second =
    truth-at (slice_get us c.in_ok-right.right) _ (normal-at c.args.table.now c.normalised-2.new.table c.args.b c.in_ok-right.right c.args.second grows c.requires.b c.in_ok-right.ensures.node) in
    IfOk-weaker
    c.join.result
    (λ made. slice_get (nodes c.join.new.table) made ≡ Some (of_truth (joined c.args.conjoined (the_truth (slice_get us c.in_ok-left.left)) (the_truth (slice_get us c.in_ok-right.right)))))
    (λ made. slice_get (nodes c.join.new.table) made ≡ Some (of_truth (joined c.args.conjoined (normal (the_truth (slice_get old c.args.a)) c.args.first) (normal (the_truth (slice_get old c.args.b)) c.args.second))))
    (λ made at. at ∙ (λ i. Some (of_truth (joined c.args.conjoined (left i) (right i)))))
    c.join.ensures.node

pub both-returns-clause-memo : goal.both-returns-clause-memo
both-returns-clause-memo τ c =
    on-ok c.join.result (holds-stay (nodes c.normalised-2.new.table) (nodes c.join.new.table) (found c.normalised-2.new.memo.answers) c.join.ensures.grows.nodes c.in_ok-right.ensures.memo)

pub bound-quantify-requires : goal.bound-quantify-requires
bound-quantify-requires τ c = record { a = truth-there (slice_get (nodes c.normalised.new.table) c.in_ok-body.body) _ c.in_ok-body.ensures.node.is }

pub bound-returns-clause-node : goal.bound-returns-clause-node
bound-returns-clause-node τ c =
    let old = nodes c.args.table.now in
    let us = nodes c.normalised.new.table in
    let body : the_truth (slice_get us c.in_ok-body.body) ≡ normal (the_truth (slice_get old c.args.a)) c.args.positive =
    truth-at (slice_get us c.in_ok-body.body) _ (normal-at c.args.table.now c.normalised.new.table c.args.a c.in_ok-body.body c.args.positive c.normalised.ensures.grows c.requires.a c.in_ok-body.ensures.node) in
    IfOk-weaker
    c.quantify.result
    (λ made. slice_get (nodes c.quantify.new.table) made ≡ Some (of_truth (quantified c.args.universal (the_truth (slice_get us c.in_ok-body.body)))))
    (λ made. slice_get (nodes c.quantify.new.table) made ≡ Some (of_truth (quantified c.args.universal (normal (the_truth (slice_get old c.args.a)) c.args.positive))))
    (λ made at. at ∙ (λ i. Some (of_truth (quantified c.args.universal (body i)))))
    c.quantify.ensures.node

pub bound-returns-clause-memo : goal.bound-returns-clause-memo
bound-returns-clause-memo τ c =
    on-ok c.quantify.result (holds-stay (nodes c.normalised.new.table) (nodes c.quantify.new.table) (found c.normalised.new.memo.answers) c.quantify.ensures.grows.nodes c.in_ok-body.ensures.memo)

pub labelled-make-requires : goal.labelled-make-requires
labelled-make-requires τ c =
    fits-Mark c.normalised.new.table.pools (nodes c.normalised.new.table) c.args.label c.in_ok-body.body _ _ (mark-stays c.args.table.now c.normalised.new.table c.args.label c.normalised.ensures.grows c.requires.label) c.in_ok-body.ensures.node.is

pub labelled-returns-clause-node : goal.labelled-returns-clause-node
labelled-returns-clause-node τ c =
    let w = t.mark (the_mark (slice_get c.args.table.now.pools.marks c.args.label)) (normal (the_truth (slice_get (nodes c.args.table.now) c.args.a)) c.args.positive) in
    IfOk-weaker
    c.make.result
    (λ made. slice_get (nodes c.make.new.self) made ≡ Some (tree_in c.normalised.new.table (s.Mark c.args.label c.in_ok-body.body)))
    (λ made. slice_get (nodes c.make.new.self) made ≡ Some (of_truth w))
    (λ made at. at
    ∙ ap (λ v. Some v) (tree-Mark c.normalised.new.table.pools (nodes c.normalised.new.table) c.args.label c.in_ok-body.body (the_mark (slice_get c.args.table.now.pools.marks c.args.label)) (normal (the_truth (slice_get (nodes c.args.table.now) c.args.a)) c.args.positive)
    (mark-stays c.args.table.now c.normalised.new.table c.args.label c.normalised.ensures.grows c.requires.label)
    (normal-at c.args.table.now c.normalised.new.table c.args.a c.in_ok-body.body c.args.positive c.normalised.ensures.grows c.requires.a c.in_ok-body.ensures.node)))
    c.make.ensures.node

pub labelled-returns-clause-memo : goal.labelled-returns-clause-memo
labelled-returns-clause-memo τ c =
    on-ok c.make.result (holds-stay (nodes c.normalised.new.table) (nodes c.make.new.self) (found c.normalised.new.memo.answers) c.make.ensures.grows.nodes c.in_ok-body.ensures.memo)

pub normalised-shape-shape-requires : goal.normalised-shape-shape-requires
normalised-shape-shape-requires τ c = truth-inside (nodes c.args.table.now) c.args.formula.node c.requires.formula

pub normalised-returns-in_ok-note-in-None-clause-memo : goal.normalised-returns-in_ok-note-in-None-clause-memo
normalised-returns-in_ok-note-in-None-clause-memo τ c =
    holds-note (nodes c.normalised_shape.new.table) (found c.normalised_shape.new.memo.answers) (found c.note.new.self.answers) c.args.formula c.in_ok-answer-in-None.answer c.in_ok-answer-in-None.ensures.memo c.in_ok-answer-in-None.ensures.node c.in_ok-note-in-None.ensures.others

pub normalised_shape-normalised-requires : goal.normalised_shape-normalised-requires
unfolding own_parts list_parts
normalised_shape-normalised-requires τ c =
    let fits : fits_in c.args.table.now (s.Negation c.in-Negation.a) ≡ true = ap (fits_in c.args.table.now) (sym c.in-Negation.is) ∙ c.requires.fits in
    let truth_a = part-Negation-a c.args.table.now.pools (nodes c.args.table.now) c.in-Negation.a fits in
    let below_a : c.in-Negation.a < c.args.formula.node = part-below c.args.formula.node c.args.table.now.pools.lists c.args.shape (s.Negation c.in-Negation.a) 0 c.in-Negation.a c.requires.below c.in-Negation.is refl in
    search (rules, arith)

pub normalised_shape-both-requires : goal.normalised_shape-both-requires
unfolding own_parts list_parts
normalised_shape-both-requires τ c =
    let fits : fits_in c.args.table.now (s.And c.in-And.a c.in-And.b) ≡ true = ap (fits_in c.args.table.now) (sym c.in-And.is) ∙ c.requires.fits in
    let truth_a = part-And-a c.args.table.now.pools (nodes c.args.table.now) c.in-And.a c.in-And.b fits in
    let below_a : c.in-And.a < c.args.formula.node = part-below c.args.formula.node c.args.table.now.pools.lists c.args.shape (s.And c.in-And.a c.in-And.b) 0 c.in-And.a c.requires.below c.in-And.is refl in
    let truth_b = part-And-b c.args.table.now.pools (nodes c.args.table.now) c.in-And.a c.in-And.b fits in
    let below_b : c.in-And.b < c.args.formula.node = part-below c.args.formula.node c.args.table.now.pools.lists c.args.shape (s.And c.in-And.a c.in-And.b) 1 c.in-And.b c.requires.below c.in-And.is refl in
    search (rules, arith)

pub normalised_shape-both-requires-in-Or : goal.normalised_shape-both-requires-in-Or
unfolding own_parts list_parts
normalised_shape-both-requires-in-Or τ c =
    let fits : fits_in c.args.table.now (s.Or c.in-Or.a c.in-Or.b) ≡ true = ap (fits_in c.args.table.now) (sym c.in-Or.is) ∙ c.requires.fits in
    let truth_a = part-Or-a c.args.table.now.pools (nodes c.args.table.now) c.in-Or.a c.in-Or.b fits in
    let below_a : c.in-Or.a < c.args.formula.node = part-below c.args.formula.node c.args.table.now.pools.lists c.args.shape (s.Or c.in-Or.a c.in-Or.b) 0 c.in-Or.a c.requires.below c.in-Or.is refl in
    let truth_b = part-Or-b c.args.table.now.pools (nodes c.args.table.now) c.in-Or.a c.in-Or.b fits in
    let below_b : c.in-Or.b < c.args.formula.node = part-below c.args.formula.node c.args.table.now.pools.lists c.args.shape (s.Or c.in-Or.a c.in-Or.b) 1 c.in-Or.b c.requires.below c.in-Or.is refl in
    search (rules, arith)

pub normalised_shape-both-requires-in-Implies : goal.normalised_shape-both-requires-in-Implies
unfolding own_parts list_parts
normalised_shape-both-requires-in-Implies τ c =
    let fits : fits_in c.args.table.now (s.Implies c.in-Implies.a c.in-Implies.b) ≡ true = ap (fits_in c.args.table.now) (sym c.in-Implies.is) ∙ c.requires.fits in
    let truth_a = part-Implies-a c.args.table.now.pools (nodes c.args.table.now) c.in-Implies.a c.in-Implies.b fits in
    let below_a : c.in-Implies.a < c.args.formula.node = part-below c.args.formula.node c.args.table.now.pools.lists c.args.shape (s.Implies c.in-Implies.a c.in-Implies.b) 0 c.in-Implies.a c.requires.below c.in-Implies.is refl in
    let truth_b = part-Implies-b c.args.table.now.pools (nodes c.args.table.now) c.in-Implies.a c.in-Implies.b fits in
    let below_b : c.in-Implies.b < c.args.formula.node = part-below c.args.formula.node c.args.table.now.pools.lists c.args.shape (s.Implies c.in-Implies.a c.in-Implies.b) 1 c.in-Implies.b c.requires.below c.in-Implies.is refl in
    search (rules, arith)

pub normalised_shape-opened-requires : goal.normalised_shape-opened-requires
unfolding own_parts list_parts
normalised_shape-opened-requires τ c =
    let fits : fits_in c.args.table.now (s.Iff c.in-Iff.a c.in-Iff.b) ≡ true = ap (fits_in c.args.table.now) (sym c.in-Iff.is) ∙ c.requires.fits in
    let truth_a = part-Iff-a c.args.table.now.pools (nodes c.args.table.now) c.in-Iff.a c.in-Iff.b fits in
    let below_a : c.in-Iff.a < c.args.formula.node = part-below c.args.formula.node c.args.table.now.pools.lists c.args.shape (s.Iff c.in-Iff.a c.in-Iff.b) 0 c.in-Iff.a c.requires.below c.in-Iff.is refl in
    let truth_b = part-Iff-b c.args.table.now.pools (nodes c.args.table.now) c.in-Iff.a c.in-Iff.b fits in
    let below_b : c.in-Iff.b < c.args.formula.node = part-below c.args.formula.node c.args.table.now.pools.lists c.args.shape (s.Iff c.in-Iff.a c.in-Iff.b) 1 c.in-Iff.b c.requires.below c.in-Iff.is refl in
    search (rules, arith)

pub normalised_shape-bound-requires : goal.normalised_shape-bound-requires
unfolding own_parts list_parts
normalised_shape-bound-requires τ c =
    let fits : fits_in c.args.table.now (s.All c.in-All.a) ≡ true = ap (fits_in c.args.table.now) (sym c.in-All.is) ∙ c.requires.fits in
    let truth_a = part-All-a c.args.table.now.pools (nodes c.args.table.now) c.in-All.a fits in
    let below_a : c.in-All.a < c.args.formula.node = part-below c.args.formula.node c.args.table.now.pools.lists c.args.shape (s.All c.in-All.a) 0 c.in-All.a c.requires.below c.in-All.is refl in
    search (rules, arith)

pub normalised_shape-bound-requires-in-Ex : goal.normalised_shape-bound-requires-in-Ex
unfolding own_parts list_parts
normalised_shape-bound-requires-in-Ex τ c =
    let fits : fits_in c.args.table.now (s.Ex c.in-Ex.a) ≡ true = ap (fits_in c.args.table.now) (sym c.in-Ex.is) ∙ c.requires.fits in
    let truth_a = part-Ex-a c.args.table.now.pools (nodes c.args.table.now) c.in-Ex.a fits in
    let below_a : c.in-Ex.a < c.args.formula.node = part-below c.args.formula.node c.args.table.now.pools.lists c.args.shape (s.Ex c.in-Ex.a) 0 c.in-Ex.a c.requires.below c.in-Ex.is refl in
    search (rules, arith)

pub normalised_shape-labelled-requires : goal.normalised_shape-labelled-requires
unfolding own_parts list_parts
normalised_shape-labelled-requires τ c =
    let fits : fits_in c.args.table.now (s.Mark c.in-Mark.label c.in-Mark.a) ≡ true = ap (fits_in c.args.table.now) (sym c.in-Mark.is) ∙ c.requires.fits in
    let marked = part-Mark-m c.args.table.now.pools (nodes c.args.table.now) c.in-Mark.label c.in-Mark.a fits in
    let truth_a = part-Mark-a c.args.table.now.pools (nodes c.args.table.now) c.in-Mark.label c.in-Mark.a fits in
    let below_a : c.in-Mark.a < c.args.formula.node = part-below c.args.formula.node c.args.table.now.pools.lists c.args.shape (s.Mark c.in-Mark.label c.in-Mark.a) 0 c.in-Mark.a c.requires.below c.in-Mark.is refl in
    search (rules, arith)

pub normalised_shape-returns-in-And-clause-node : goal.normalised_shape-returns-in-And-clause-node
normalised_shape-returns-in-And-clause-node τ c =
    let w = joined c.args.formula.positive (normal (the_truth (slice_get (nodes c.args.table.now) c.in-And.a)) c.args.formula.positive) (normal (the_truth (slice_get (nodes c.args.table.now) c.in-And.b)) c.args.formula.positive) in
    IfOk-weaker
    c.both.result
    (λ made. slice_get (nodes c.both.new.table) made ≡ Some (of_truth w))
    (λ made. IsNormalised (nodes c.both.new.table) c.args.formula.node c.args.formula.positive made)
    (λ made at. answered c.args.table.now c.both.new.table c.args.formula.node made c.args.formula.positive c.args.shape w c.both.ensures.grows c.requires.there c.requires.formula
    (and-arm c.args.table.now.pools (nodes c.args.table.now) c.args.shape c.in-And.a c.in-And.b c.args.formula.positive c.in-And.is) at)
    c.both.ensures.node

pub normalised_shape-returns-in-Or-clause-node : goal.normalised_shape-returns-in-Or-clause-node
normalised_shape-returns-in-Or-clause-node τ c =
    let w = joined (not c.args.formula.positive) (normal (the_truth (slice_get (nodes c.args.table.now) c.in-Or.a)) c.args.formula.positive) (normal (the_truth (slice_get (nodes c.args.table.now) c.in-Or.b)) c.args.formula.positive) in
    IfOk-weaker
    c.both-in-Or.result
    (λ made. slice_get (nodes c.both-in-Or.new.table) made ≡ Some (of_truth w))
    (λ made. IsNormalised (nodes c.both-in-Or.new.table) c.args.formula.node c.args.formula.positive made)
    (λ made at. answered c.args.table.now c.both-in-Or.new.table c.args.formula.node made c.args.formula.positive c.args.shape w c.both-in-Or.ensures.grows c.requires.there c.requires.formula
    (or-arm c.args.table.now.pools (nodes c.args.table.now) c.args.shape c.in-Or.a c.in-Or.b c.args.formula.positive c.in-Or.is) at)
    c.both-in-Or.ensures.node

pub normalised_shape-returns-in-Implies-clause-node : goal.normalised_shape-returns-in-Implies-clause-node
normalised_shape-returns-in-Implies-clause-node τ c =
    let w = joined (not c.args.formula.positive) (normal (the_truth (slice_get (nodes c.args.table.now) c.in-Implies.a)) (not c.args.formula.positive)) (normal (the_truth (slice_get (nodes c.args.table.now) c.in-Implies.b)) c.args.formula.positive) in
    IfOk-weaker
    c.both-in-Implies.result
    (λ made. slice_get (nodes c.both-in-Implies.new.table) made ≡ Some (of_truth w))
    (λ made. IsNormalised (nodes c.both-in-Implies.new.table) c.args.formula.node c.args.formula.positive made)
    (λ made at. answered c.args.table.now c.both-in-Implies.new.table c.args.formula.node made c.args.formula.positive c.args.shape w c.both-in-Implies.ensures.grows c.requires.there c.requires.formula
    (implies-arm c.args.table.now.pools (nodes c.args.table.now) c.args.shape c.in-Implies.a c.in-Implies.b c.args.formula.positive c.in-Implies.is) at)
    c.both-in-Implies.ensures.node

pub normalised_shape-returns-in-Iff-clause-node : goal.normalised_shape-returns-in-Iff-clause-node
normalised_shape-returns-in-Iff-clause-node τ c =
    let w = normal (t.iff (the_truth (slice_get (nodes c.args.table.now) c.in-Iff.a)) (the_truth (slice_get (nodes c.args.table.now) c.in-Iff.b))) c.args.formula.positive in
    IfOk-weaker
    c.opened.result
    (λ made. slice_get (nodes c.opened.new.table) made ≡ Some (of_truth w))
    (λ made. IsNormalised (nodes c.opened.new.table) c.args.formula.node c.args.formula.positive made)
    (λ made at. answered c.args.table.now c.opened.new.table c.args.formula.node made c.args.formula.positive c.args.shape w c.opened.ensures.grows c.requires.there c.requires.formula
    (iff-arm c.args.table.now.pools (nodes c.args.table.now) c.args.shape c.in-Iff.a c.in-Iff.b c.args.formula.positive c.in-Iff.is) at)
    c.opened.ensures.node

pub normalised_shape-returns-in-All-clause-node : goal.normalised_shape-returns-in-All-clause-node
normalised_shape-returns-in-All-clause-node τ c =
    let w = quantified c.args.formula.positive (normal (the_truth (slice_get (nodes c.args.table.now) c.in-All.a)) c.args.formula.positive) in
    IfOk-weaker
    c.bound.result
    (λ made. slice_get (nodes c.bound.new.table) made ≡ Some (of_truth w))
    (λ made. IsNormalised (nodes c.bound.new.table) c.args.formula.node c.args.formula.positive made)
    (λ made at. answered c.args.table.now c.bound.new.table c.args.formula.node made c.args.formula.positive c.args.shape w c.bound.ensures.grows c.requires.there c.requires.formula
    (all-arm c.args.table.now.pools (nodes c.args.table.now) c.args.shape c.in-All.a c.args.formula.positive c.in-All.is) at)
    c.bound.ensures.node

pub normalised_shape-returns-in-Ex-clause-node : goal.normalised_shape-returns-in-Ex-clause-node
normalised_shape-returns-in-Ex-clause-node τ c =
    let w = quantified (not c.args.formula.positive) (normal (the_truth (slice_get (nodes c.args.table.now) c.in-Ex.a)) c.args.formula.positive) in
    IfOk-weaker
    c.bound-in-Ex.result
    (λ made. slice_get (nodes c.bound-in-Ex.new.table) made ≡ Some (of_truth w))
    (λ made. IsNormalised (nodes c.bound-in-Ex.new.table) c.args.formula.node c.args.formula.positive made)
    (λ made at. answered c.args.table.now c.bound-in-Ex.new.table c.args.formula.node made c.args.formula.positive c.args.shape w c.bound-in-Ex.ensures.grows c.requires.there c.requires.formula
    (ex-arm c.args.table.now.pools (nodes c.args.table.now) c.args.shape c.in-Ex.a c.args.formula.positive c.in-Ex.is) at)
    c.bound-in-Ex.ensures.node

pub normalised_shape-returns-in-Mark-clause-node : goal.normalised_shape-returns-in-Mark-clause-node
normalised_shape-returns-in-Mark-clause-node τ c =
    let w = t.mark (the_mark (slice_get c.args.table.now.pools.marks c.in-Mark.label)) (normal (the_truth (slice_get (nodes c.args.table.now) c.in-Mark.a)) c.args.formula.positive) in
    IfOk-weaker
    c.labelled.result
    (λ made. slice_get (nodes c.labelled.new.table) made ≡ Some (of_truth w))
    (λ made. IsNormalised (nodes c.labelled.new.table) c.args.formula.node c.args.formula.positive made)
    (λ made at. answered c.args.table.now c.labelled.new.table c.args.formula.node made c.args.formula.positive c.args.shape w c.labelled.ensures.grows c.requires.there c.requires.formula
    (mark-arm c.args.table.now.pools (nodes c.args.table.now) c.args.shape c.in-Mark.label c.in-Mark.a c.args.formula.positive c.in-Mark.is) at)
    c.labelled.ensures.node

pub normalised_shape-returns-in-Negation-clause-node : goal.normalised_shape-returns-in-Negation-clause-node
normalised_shape-returns-in-Negation-clause-node τ c =
    let fits : fits_in c.args.table.now (s.Negation c.in-Negation.a) ≡ true = ap (fits_in c.args.table.now) (sym c.in-Negation.is) ∙ c.requires.fits in
    let w = normal (the_truth (slice_get (nodes c.args.table.now) c.in-Negation.a)) (not c.args.formula.positive) in
    IfOk-weaker
    c.normalised.result
    (λ made. IsNormalised (nodes c.normalised.new.table) c.in-Negation.a (not c.args.formula.positive) made)
    (λ made. IsNormalised (nodes c.normalised.new.table) c.args.formula.node c.args.formula.positive made)
    (λ made m. answered c.args.table.now c.normalised.new.table c.args.formula.node made c.args.formula.positive c.args.shape w c.normalised.ensures.grows c.requires.there c.requires.formula
    (negation-arm c.args.table.now.pools (nodes c.args.table.now) c.args.shape c.in-Negation.a c.args.formula.positive c.in-Negation.is)
    (normal-at c.args.table.now c.normalised.new.table c.in-Negation.a made (not c.args.formula.positive) c.normalised.ensures.grows (part-Negation-a c.args.table.now.pools (nodes c.args.table.now) c.in-Negation.a fits) m))
    c.normalised.ensures.node

pub normalised_shape-returns-in_default : goal.normalised_shape-returns-in_default
normalised_shape-returns-in_default τ c =
    let ts = nodes c.args.table.now in
    let w = literal (the_truth (slice_get ts c.args.formula.node)) c.args.formula.positive in
    let same : w ≡ normal (the_truth (Some (tree_in c.args.table.now c.args.shape))) c.args.formula.positive =
    ap (λ o. literal (the_truth o) c.args.formula.positive) c.requires.there
    ∙ atom-arm c.args.table.now.pools ts c.args.shape c.args.formula.positive c.in_default.not-Negation c.in_default.not-And c.in_default.not-Or c.in_default.not-Implies c.in_default.not-Iff c.in_default.not-All c.in_default.not-Ex c.in_default.not-Mark (ap is_truth (sym c.requires.there) ∙ c.requires.formula) in
    record {
      node = IfOk-weaker
          c.literal.result
          (λ made. slice_get (nodes c.literal.new.table) made ≡ Some (of_truth w))
          (λ made. IsNormalised (nodes c.literal.new.table) c.args.formula.node c.args.formula.positive made)
          (λ made at. answered c.args.table.now c.literal.new.table c.args.formula.node made c.args.formula.positive c.args.shape w c.literal.ensures.grows c.requires.there c.requires.formula same at)
          c.literal.ensures.node;
      grows = c.literal.ensures.grows;
      memo = on-ok c.literal.result (holds-stay ts (nodes c.literal.new.table) (found c.args.memo.now.answers) c.literal.ensures.grows.nodes c.requires.memo);
    }

pub opened-opened_right-requires : goal.opened-opened_right-requires
opened-opened_right-requires τ c =
    let first = still-truth c.args.table.now c.both.new.table c.args.a c.both.ensures.grows c.requires.a in
    let second = still-truth c.args.table.now c.both.new.table c.args.b c.both.ensures.grows c.requires.b in
    search (rules, arith)

pub opened-conjunction-requires-clause-a : goal.opened-conjunction-requires-clause-a
opened-conjunction-requires-clause-a τ c =
    truth-there (slice_get (nodes c.opened_right.new.table) c.in_ok-left.left) _ (c.opened_right.ensures.grows.nodes.keeps c.in_ok-left.left _ c.in_ok-left.ensures.node)

pub opened-conjunction-requires-clause-b : goal.opened-conjunction-requires-clause-b
opened-conjunction-requires-clause-b τ c = truth-there (slice_get (nodes c.opened_right.new.table) c.in_ok-right.right) _ c.in_ok-right.ensures.node

pub opened-returns-clause-node : goal.opened-returns-clause-node
opened-returns-clause-node τ c =
    let u = c.opened_right.new.table in
    let a = the_truth (slice_get (nodes c.args.table.now) c.args.a) in
    let b = the_truth (slice_get (nodes c.args.table.now) c.args.b) in
    let left : the_truth (slice_get (nodes u) c.in_ok-left.left) ≡ t.or (normal a (not c.args.positive)) (normal b true) =
    truth-at (slice_get (nodes u) c.in_ok-left.left) _ (c.opened_right.ensures.grows.nodes.keeps c.in_ok-left.left _ c.in_ok-left.ensures.node) in
    let first : the_truth (slice_get (nodes c.both.new.table) c.args.a) ≡ a = truth-at (slice_get (nodes c.both.new.table) c.args.a) a (truth-stays c.args.table.now c.both.new.table c.args.a c.both.ensures.grows c.requires.a) in
    let second : the_truth (slice_get (nodes c.both.new.table) c.args.b) ≡ b = truth-at (slice_get (nodes c.both.new.table) c.args.b) b (truth-stays c.args.table.now c.both.new.table c.args.b c.both.ensures.grows c.requires.b) in
    let right : the_truth (slice_get (nodes u) c.in_ok-right.right) ≡ opened_second a b c.args.positive =
    truth-at (slice_get (nodes u) c.in_ok-right.right) _ c.in_ok-right.ensures.node ∙ (λ i. opened_second (first i) (second i) c.args.positive) in
    IfOk-weaker
    c.conjunction.result
    (λ made. slice_get (nodes c.conjunction.new.table) made ≡ Some (of_truth (t.and (the_truth (slice_get (nodes u) c.in_ok-left.left)) (the_truth (slice_get (nodes u) c.in_ok-right.right)))))
    (λ made. slice_get (nodes c.conjunction.new.table) made ≡ Some (of_truth (normal (t.iff a b) c.args.positive)))
    (λ made at. at ∙ (λ i. Some (of_truth (t.and (left i) (right i)))) ∙ ap (λ w. Some (of_truth w)) (opened-as a b c.args.positive))
    c.conjunction.ensures.node

pub opened-returns-clause-memo : goal.opened-returns-clause-memo
opened-returns-clause-memo τ c =
    on-ok c.conjunction.result (holds-stay (nodes c.opened_right.new.table) (nodes c.conjunction.new.table) (found c.opened_right.new.memo.answers) c.conjunction.ensures.grows.nodes c.in_ok-right.ensures.memo)
