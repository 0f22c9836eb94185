use Rattle.std.proofs.Common.{sym, ap, ◌∙◌, slice_get, arith}
use Rattle.std.proofs.lemmas.Result.{on_ok_weaker}
use Rattle.jh_form.specs.Tree.{TermTree, of_object, of_number, of_set, of_truth}
use Rattle.jh_form.specs.Tree as tree
use Rattle.jh_arena.specs.table.Nodes.{nodes, tree_in}
use Rattle.jh_arena.specs.declared.table.shapes.Shape.TheVariants as s
use Rattle.jh_inst.specs.instances.Terms.{terms_in, number_terms, set_terms, object_terms, closed_terms, with_terms}
use Rattle.jh_instantiation.specs.closed_terms.Listed.{closed_among}
use Rattle.jh_instantiation.proofs.skolem_constants.Shapes.{shaped}
use Rattle.jh_instantiation.proofs.closed_terms.Additions.{adds-two, adds-as, adds-both}
use Rattle.jh_instantiation.proofs.closed_terms.Shapes.{IsPlain, object-there, number-there, set-there, plain-terms, formula_terms, value-same, truth-part, objects-parts, numbers-parts, member-parts, reach-parts}
use Rattle.jh_instantiation.proofs.skolem_constants.Shapes.{truth-inside, formula-same, formula-there, negation-part, and-parts, or-parts, all-part, ex-part}
use Rattle.jh_instantiation.proofs.closed_terms.adding.+add_formula.Goals as goal

pub add_formula-shape-requires : goal.add_formula-shape-requires
add_formula-shape-requires t c = truth-inside (nodes c.args.table.now) c.args.node c.requires.there

pub add_formula-add_formula-requires : goal.add_formula-add_formula-requires
add_formula-add_formula-requires t c =
    let u = c.args.table.now in
    let p = negation-part u c.args.node c.in-Negation.a (shaped u c.args.node c.shape.result (s.Negation c.in-Negation.a) c.shape.ensures.tree c.shape.ensures.fits c.shape.ensures.below c.in-Negation.is) in
    (omega (arith, c.decreases, p.first), formula-there (nodes u) c.in-Negation.a p.a p.left)

pub add_formula-returns-in-Negation : goal.add_formula-returns-in-Negation
add_formula-returns-in-Negation t c = λ a e.
    let u = c.args.table.now in
    let old = c.args.terms.now.nodes.keys in
    let new = c.add_formula.new.terms.nodes.keys in
    let p = negation-part u c.args.node c.in-Negation.a (shaped u c.args.node c.shape.result (s.Negation c.in-Negation.a) c.shape.ensures.tree c.shape.ensures.fits c.shape.ensures.below c.in-Negation.is) in
    let is = ap closed_terms (formula-same (slice_get (nodes u) c.args.node) a (tree.negation p.a) e p.whole) in
    on_ok_weaker c.add_formula.result (adds-as u old new _ _ (λ ts. ap (with_terms ts) (sym is))) (c.add_formula.ensures p.a p.left)

pub add_formula-add_formula-requires-in-All : goal.add_formula-add_formula-requires-in-All
add_formula-add_formula-requires-in-All t c =
    let u = c.args.table.now in
    let p = all-part u c.args.node c.in-All.a (shaped u c.args.node c.shape.result (s.All c.in-All.a) c.shape.ensures.tree c.shape.ensures.fits c.shape.ensures.below c.in-All.is) in
    (omega (arith, c.decreases, p.first), formula-there (nodes u) c.in-All.a p.a p.left)

pub add_formula-returns-in-All : goal.add_formula-returns-in-All
add_formula-returns-in-All t c = λ a e.
    let u = c.args.table.now in
    let old = c.args.terms.now.nodes.keys in
    let new = c.add_formula-in-All.new.terms.nodes.keys in
    let p = all-part u c.args.node c.in-All.a (shaped u c.args.node c.shape.result (s.All c.in-All.a) c.shape.ensures.tree c.shape.ensures.fits c.shape.ensures.below c.in-All.is) in
    let is = ap closed_terms (formula-same (slice_get (nodes u) c.args.node) a (tree.all p.a) e p.whole) in
    on_ok_weaker c.add_formula-in-All.result (adds-as u old new _ _ (λ ts. ap (with_terms ts) (sym is))) (c.add_formula-in-All.ensures p.a p.left)

pub add_formula-add_formula-requires-in-Ex : goal.add_formula-add_formula-requires-in-Ex
add_formula-add_formula-requires-in-Ex t c =
    let u = c.args.table.now in
    let p = ex-part u c.args.node c.in-Ex.a (shaped u c.args.node c.shape.result (s.Ex c.in-Ex.a) c.shape.ensures.tree c.shape.ensures.fits c.shape.ensures.below c.in-Ex.is) in
    (omega (arith, c.decreases, p.first), formula-there (nodes u) c.in-Ex.a p.a p.left)

pub add_formula-returns-in-Ex : goal.add_formula-returns-in-Ex
add_formula-returns-in-Ex t c = λ a e.
    let u = c.args.table.now in
    let old = c.args.terms.now.nodes.keys in
    let new = c.add_formula-in-Ex.new.terms.nodes.keys in
    let p = ex-part u c.args.node c.in-Ex.a (shaped u c.args.node c.shape.result (s.Ex c.in-Ex.a) c.shape.ensures.tree c.shape.ensures.fits c.shape.ensures.below c.in-Ex.is) in
    let is = ap closed_terms (formula-same (slice_get (nodes u) c.args.node) a (tree.ex p.a) e p.whole) in
    on_ok_weaker c.add_formula-in-Ex.result (adds-as u old new _ _ (λ ts. ap (with_terms ts) (sym is))) (c.add_formula-in-Ex.ensures p.a p.left)

pub add_formula-add_both-requires : goal.add_formula-add_both-requires
add_formula-add_both-requires t c =
    let u = c.args.table.now in
    let p = and-parts u c.args.node c.in-And.a c.in-And.b (shaped u c.args.node c.shape.result (s.And c.in-And.a c.in-And.b) c.shape.ensures.tree c.shape.ensures.fits c.shape.ensures.below c.in-And.is) in
    (omega (arith, c.decreases, p.first, p.second), (formula-there (nodes u) c.in-And.a p.a p.left, (formula-there (nodes u) c.in-And.b p.b p.right, (p.first, p.second))))

pub add_formula-returns-in-And : goal.add_formula-returns-in-And
add_formula-returns-in-And t c = λ a e.
    let u = c.args.table.now in
    let old = c.args.terms.now.nodes.keys in
    let new = c.add_both.new.terms.nodes.keys in
    let p = and-parts u c.args.node c.in-And.a c.in-And.b (shaped u c.args.node c.shape.result (s.And c.in-And.a c.in-And.b) c.shape.ensures.tree c.shape.ensures.fits c.shape.ensures.below c.in-And.is) in
    let is = ap closed_terms (formula-same (slice_get (nodes u) c.args.node) a (tree.and p.a p.b) e p.whole) in
    on_ok_weaker c.add_both.result (adds-as u old new _ _ (λ ts. adds-both (object_terms p.a) (object_terms p.b) ts ∙ ap (with_terms ts) (sym is))) (c.add_both.ensures p.a p.b p.left p.right)

pub add_formula-add_both-requires-in-Or : goal.add_formula-add_both-requires-in-Or
add_formula-add_both-requires-in-Or t c =
    let u = c.args.table.now in
    let p = or-parts u c.args.node c.in-Or.a c.in-Or.b (shaped u c.args.node c.shape.result (s.Or c.in-Or.a c.in-Or.b) c.shape.ensures.tree c.shape.ensures.fits c.shape.ensures.below c.in-Or.is) in
    (omega (arith, c.decreases, p.first, p.second), (formula-there (nodes u) c.in-Or.a p.a p.left, (formula-there (nodes u) c.in-Or.b p.b p.right, (p.first, p.second))))

pub add_formula-returns-in-Or : goal.add_formula-returns-in-Or
add_formula-returns-in-Or t c = λ a e.
    let u = c.args.table.now in
    let old = c.args.terms.now.nodes.keys in
    let new = c.add_both-in-Or.new.terms.nodes.keys in
    let p = or-parts u c.args.node c.in-Or.a c.in-Or.b (shaped u c.args.node c.shape.result (s.Or c.in-Or.a c.in-Or.b) c.shape.ensures.tree c.shape.ensures.fits c.shape.ensures.below c.in-Or.is) in
    let is = ap closed_terms (formula-same (slice_get (nodes u) c.args.node) a (tree.or p.a p.b) e p.whole) in
    on_ok_weaker c.add_both-in-Or.result (adds-as u old new _ _ (λ ts. adds-both (object_terms p.a) (object_terms p.b) ts ∙ ap (with_terms ts) (sym is))) (c.add_both-in-Or.ensures p.a p.b p.left p.right)

pub add_formula-add_term-requires : goal.add_formula-add_term-requires
add_formula-add_term-requires t c =
    let u = c.args.table.now in
    let p = truth-part u c.args.node c.in-ReadTruth.field-0 c.in-ReadTruth.a (shaped u c.args.node c.shape.result (s.ReadTruth c.in-ReadTruth.field-0 c.in-ReadTruth.a) c.shape.ensures.tree c.shape.ensures.fits c.shape.ensures.below c.in-ReadTruth.is) in
    record { there = p.there }

pub add_formula-returns-in-ReadTruth : goal.add_formula-returns-in-ReadTruth
add_formula-returns-in-ReadTruth t c = λ a e.
    let u = c.args.table.now in
    let old = c.args.terms.now.nodes.keys in
    let new = c.add_term.new.terms.nodes.keys in
    let p = truth-part u c.args.node c.in-ReadTruth.field-0 c.in-ReadTruth.a (shaped u c.args.node c.shape.result (s.ReadTruth c.in-ReadTruth.field-0 c.in-ReadTruth.a) c.shape.ensures.tree c.shape.ensures.fits c.shape.ensures.below c.in-ReadTruth.is) in
    let is = ap closed_terms (formula-same (slice_get (nodes u) c.args.node) a _ e p.whole) in
    on_ok_weaker c.add_term.result (adds-as u old new _ _ (λ ts. ap (with_terms ts) (sym is))) (c.add_term.ensures p.inner p.part)

pub add_formula-returns-in-EqObject : goal.add_formula-returns-in-EqObject
add_formula-returns-in-EqObject t c = λ a e.
    let u = c.args.table.now in
    let old = c.args.terms.now.nodes.keys in
    let new = c.add_two.new.terms.nodes.keys in
    let p = objects-parts u c.args.node c.in-EqObject.a c.in-EqObject.b (shaped u c.args.node c.shape.result (s.EqObject c.in-EqObject.a c.in-EqObject.b) c.shape.ensures.tree c.shape.ensures.fits c.shape.ensures.below c.in-EqObject.is) in
    let is = ap closed_terms (formula-same (slice_get (nodes u) c.args.node) a _ e p.whole) in
    on_ok_weaker c.add_two.result (adds-as u old new _ _ (λ ts. adds-both (terms_in p.a) (terms_in p.b) ts ∙ ap (with_terms ts) (sym is))) (c.add_two.ensures p.a p.b p.left p.right)

pub add_formula-returns-in-EqNumber : goal.add_formula-returns-in-EqNumber
add_formula-returns-in-EqNumber t c = λ a e.
    let u = c.args.table.now in
    let old = c.args.terms.now.nodes.keys in
    let new = c.add_numbers.new.terms.nodes.keys in
    let p = numbers-parts u c.args.node c.in-EqNumber.a c.in-EqNumber.b (shaped u c.args.node c.shape.result (s.EqNumber c.in-EqNumber.a c.in-EqNumber.b) c.shape.ensures.tree c.shape.ensures.fits c.shape.ensures.below c.in-EqNumber.is) in
    let is = ap closed_terms (formula-same (slice_get (nodes u) c.args.node) a _ e p.whole) in
    on_ok_weaker c.add_numbers.result (adds-as u old new _ _ (λ ts. adds-both (number_terms p.a) (number_terms p.b) ts ∙ ap (with_terms ts) (sym is))) (c.add_numbers.ensures p.a p.b p.left p.right)

pub add_formula-returns-in-Member : goal.add_formula-returns-in-Member
add_formula-returns-in-Member t c = λ a e.
    let u = c.args.table.now in
    let old = c.args.terms.now.nodes.keys in
    let new = c.add_member.new.terms.nodes.keys in
    let p = member-parts u c.args.node c.in-Member.a c.in-Member.b (shaped u c.args.node c.shape.result (s.Member c.in-Member.a c.in-Member.b) c.shape.ensures.tree c.shape.ensures.fits c.shape.ensures.below c.in-Member.is) in
    let is = ap closed_terms (formula-same (slice_get (nodes u) c.args.node) a _ e p.whole) in
    on_ok_weaker c.add_member.result (adds-as u old new _ _ (λ ts. adds-both (terms_in p.a) (set_terms p.b) ts ∙ ap (with_terms ts) (sym is))) (c.add_member.ensures p.a p.b p.left p.right)

pub add_formula-returns-in-Reach : goal.add_formula-returns-in-Reach
add_formula-returns-in-Reach t c = λ a e.
    let u = c.args.table.now in
    let old = c.args.terms.now.nodes.keys in
    let new = c.add_two-in-Reach.new.terms.nodes.keys in
    let p = reach-parts u c.args.node c.in-Reach.field-0 c.in-Reach.a c.in-Reach.b (shaped u c.args.node c.shape.result (s.Reach c.in-Reach.field-0 c.in-Reach.a c.in-Reach.b) c.shape.ensures.tree c.shape.ensures.fits c.shape.ensures.below c.in-Reach.is) in
    let is = ap closed_terms (formula-same (slice_get (nodes u) c.args.node) a _ e p.whole) in
    on_ok_weaker c.add_two-in-Reach.result (adds-as u old new _ _ (λ ts. adds-both (terms_in p.a) (terms_in p.b) ts ∙ ap (with_terms ts) (sym is))) (c.add_two-in-Reach.ensures p.a p.b p.left p.right)

pub add_formula-returns-in_default : goal.add_formula-returns-in_default
add_formula-returns-in_default t c = λ a e.
    let u = c.args.table.now in
    let old = c.args.terms.now.nodes.keys in
    let plain : IsPlain c.shape.result = record {
      negation = c.in_default.not-Negation;
      both = c.in_default.not-And;
      either = c.in_default.not-Or;
      each = c.in_default.not-All;
      some = c.in_default.not-Ex;
      read = c.in_default.not-ReadTruth;
      objects = c.in_default.not-EqObject;
      numbers = c.in_default.not-EqNumber;
      member = c.in_default.not-Member;
      reach = c.in_default.not-Reach;
    } in
    let is = ap formula_terms (sym (value-same (slice_get (nodes u) c.args.node) (tree_in u c.shape.result) (of_truth a) c.shape.ensures.tree e)) ∙ plain-terms u.pools (nodes u) c.shape.result plain in
    adds-as u old old (λ ts. ts) _ (λ ts. ap (λ ws. with_terms ts (closed_among ws)) (sym is)) (λ ts h. h)

pub add_both-returns : goal.add_both-returns
add_both-returns t c = λ p q e f.
    on_ok_weaker c.add_formula-2.result (adds-two c.args.table.now c.args.terms.now.nodes.keys c.add_formula.new.terms.nodes.keys c.add_formula-2.new.terms.nodes.keys _ _ (c.in_ok-add_formula.ensures p e)) (c.add_formula-2.ensures q f)

pub add_formula-add_two-requires-clause-first : goal.add_formula-add_two-requires-clause-first
add_formula-add_two-requires-clause-first t c =
    let u = c.args.table.now in
    let p = objects-parts u c.args.node c.in-EqObject.a c.in-EqObject.b (shaped u c.args.node c.shape.result (s.EqObject c.in-EqObject.a c.in-EqObject.b) c.shape.ensures.tree c.shape.ensures.fits c.shape.ensures.below c.in-EqObject.is) in
    object-there (nodes u) c.in-EqObject.a p.a p.left

pub add_formula-add_two-requires-clause-second : goal.add_formula-add_two-requires-clause-second
add_formula-add_two-requires-clause-second t c =
    let u = c.args.table.now in
    let p = objects-parts u c.args.node c.in-EqObject.a c.in-EqObject.b (shaped u c.args.node c.shape.result (s.EqObject c.in-EqObject.a c.in-EqObject.b) c.shape.ensures.tree c.shape.ensures.fits c.shape.ensures.below c.in-EqObject.is) in
    object-there (nodes u) c.in-EqObject.b p.b p.right

pub add_formula-add_numbers-requires-clause-first : goal.add_formula-add_numbers-requires-clause-first
add_formula-add_numbers-requires-clause-first t c =
    let u = c.args.table.now in
    let p = numbers-parts u c.args.node c.in-EqNumber.a c.in-EqNumber.b (shaped u c.args.node c.shape.result (s.EqNumber c.in-EqNumber.a c.in-EqNumber.b) c.shape.ensures.tree c.shape.ensures.fits c.shape.ensures.below c.in-EqNumber.is) in
    number-there (nodes u) c.in-EqNumber.a p.a p.left

pub add_formula-add_numbers-requires-clause-second : goal.add_formula-add_numbers-requires-clause-second
add_formula-add_numbers-requires-clause-second t c =
    let u = c.args.table.now in
    let p = numbers-parts u c.args.node c.in-EqNumber.a c.in-EqNumber.b (shaped u c.args.node c.shape.result (s.EqNumber c.in-EqNumber.a c.in-EqNumber.b) c.shape.ensures.tree c.shape.ensures.fits c.shape.ensures.below c.in-EqNumber.is) in
    number-there (nodes u) c.in-EqNumber.b p.b p.right

pub add_formula-add_member-requires-clause-first : goal.add_formula-add_member-requires-clause-first
add_formula-add_member-requires-clause-first t c =
    let u = c.args.table.now in
    let p = member-parts u c.args.node c.in-Member.a c.in-Member.b (shaped u c.args.node c.shape.result (s.Member c.in-Member.a c.in-Member.b) c.shape.ensures.tree c.shape.ensures.fits c.shape.ensures.below c.in-Member.is) in
    object-there (nodes u) c.in-Member.a p.a p.left

pub add_formula-add_member-requires-clause-second : goal.add_formula-add_member-requires-clause-second
add_formula-add_member-requires-clause-second t c =
    let u = c.args.table.now in
    let p = member-parts u c.args.node c.in-Member.a c.in-Member.b (shaped u c.args.node c.shape.result (s.Member c.in-Member.a c.in-Member.b) c.shape.ensures.tree c.shape.ensures.fits c.shape.ensures.below c.in-Member.is) in
    set-there (nodes u) c.in-Member.b p.b p.right

pub add_formula-add_two-requires-in-Reach-clause-first : goal.add_formula-add_two-requires-in-Reach-clause-first
add_formula-add_two-requires-in-Reach-clause-first t c =
    let u = c.args.table.now in
    let p = reach-parts u c.args.node c.in-Reach.field-0 c.in-Reach.a c.in-Reach.b (shaped u c.args.node c.shape.result (s.Reach c.in-Reach.field-0 c.in-Reach.a c.in-Reach.b) c.shape.ensures.tree c.shape.ensures.fits c.shape.ensures.below c.in-Reach.is) in
    object-there (nodes u) c.in-Reach.a p.a p.left

pub add_formula-add_two-requires-in-Reach-clause-second : goal.add_formula-add_two-requires-in-Reach-clause-second
add_formula-add_two-requires-in-Reach-clause-second t c =
    let u = c.args.table.now in
    let p = reach-parts u c.args.node c.in-Reach.field-0 c.in-Reach.a c.in-Reach.b (shaped u c.args.node c.shape.result (s.Reach c.in-Reach.field-0 c.in-Reach.a c.in-Reach.b) c.shape.ensures.tree c.shape.ensures.fits c.shape.ensures.below c.in-Reach.is) in
    object-there (nodes u) c.in-Reach.b p.b p.right
