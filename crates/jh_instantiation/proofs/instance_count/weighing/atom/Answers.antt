use Rattle.std.proofs.Common.{sym, ap, ◌∙◌, List, slice_get}
use Rattle.jh_form.specs.Tree.{TermTree, FormulaTree, of_truth}
use Rattle.jh_arena.specs.table.Nodes.{nodes, tree_in}
use Rattle.jh_arena.specs.declared.table.shapes.Shape.TheVariants as s
use Rattle.jh_query.specs.queries.Size.{capped}
use Rattle.jh_inst.specs.instances.Count.{total, term_weight}
use Rattle.jh_instantiation.proofs.skolem_constants.Shapes.{shaped, truth-inside, formula-same}
use Rattle.jh_instantiation.proofs.closed_terms.Shapes.{object-there, number-there, set-there, value-same, truth-part, objects-parts, numbers-parts, member-parts, reach-parts}
use Rattle.jh_instantiation.specs.instance_count.Atoms.{atom_terms}
use Rattle.jh_instantiation.proofs.instance_count.Weights.{IsOther, nothing-weighs, other-terms, terms_of_atom}
use Rattle.jh_instantiation.proofs.instance_count.weighing.atom.Goals as goal

pub shape-requires : goal.shape-requires
shape-requires c = truth-inside (nodes c.args.table.now) c.args.node c.requires.there

pub chain-requires : goal.chain-requires
chain-requires c =
    let u = c.args.table.now in
    let p = truth-part u c.args.node c.in-ReadTruth.field-0 c.in-ReadTruth.a (shaped u c.args.node c.shape.result (s.ReadTruth c.in-ReadTruth.field-0 c.in-ReadTruth.a) c.shape.ensures.tree c.shape.ensures.fits c.shape.ensures.below c.in-ReadTruth.is) in
    record { there = p.there }

pub returns-in-ReadTruth : goal.returns-in-ReadTruth
returns-in-ReadTruth c = λ a e.
    let u = c.args.table.now in
    let p = truth-part u c.args.node c.in-ReadTruth.field-0 c.in-ReadTruth.a (shaped u c.args.node c.shape.result (s.ReadTruth c.in-ReadTruth.field-0 c.in-ReadTruth.a) c.shape.ensures.tree c.shape.ensures.fits c.shape.ensures.below c.in-ReadTruth.is) in
    c.chain.ensures.all p.inner p.part ∙ ap (λ (z : FormulaTree). capped (total (term_weight c.args.scope.terms c.args.scope.powers.now) (atom_terms z))) (sym (formula-same (slice_get (nodes u) c.args.node) a _ e p.whole))

pub two-requires-clause-first : goal.two-requires-clause-first
two-requires-clause-first c =
    let u = c.args.table.now in
    let p = objects-parts u c.args.node c.in-EqObject.a c.in-EqObject.b (shaped u c.args.node c.shape.result (s.EqObject c.in-EqObject.a c.in-EqObject.b) c.shape.ensures.tree c.shape.ensures.fits c.shape.ensures.below c.in-EqObject.is) in
    object-there (nodes u) c.in-EqObject.a p.a p.left

pub two-requires-clause-second : goal.two-requires-clause-second
two-requires-clause-second c =
    let u = c.args.table.now in
    let p = objects-parts u c.args.node c.in-EqObject.a c.in-EqObject.b (shaped u c.args.node c.shape.result (s.EqObject c.in-EqObject.a c.in-EqObject.b) c.shape.ensures.tree c.shape.ensures.fits c.shape.ensures.below c.in-EqObject.is) in
    object-there (nodes u) c.in-EqObject.b p.b p.right

pub returns-in-EqObject : goal.returns-in-EqObject
returns-in-EqObject c = λ a e.
    let u = c.args.table.now in
    let p = objects-parts u c.args.node c.in-EqObject.a c.in-EqObject.b (shaped u c.args.node c.shape.result (s.EqObject c.in-EqObject.a c.in-EqObject.b) c.shape.ensures.tree c.shape.ensures.fits c.shape.ensures.below c.in-EqObject.is) in
    c.two.ensures p.a p.b p.left p.right ∙ ap (λ (z : FormulaTree). capped (total (term_weight c.args.scope.terms c.args.scope.powers.now) (atom_terms z))) (sym (formula-same (slice_get (nodes u) c.args.node) a _ e p.whole))

pub two_numbers-requires-clause-first : goal.two_numbers-requires-clause-first
two_numbers-requires-clause-first c =
    let u = c.args.table.now in
    let p = numbers-parts u c.args.node c.in-EqNumber.a c.in-EqNumber.b (shaped u c.args.node c.shape.result (s.EqNumber c.in-EqNumber.a c.in-EqNumber.b) c.shape.ensures.tree c.shape.ensures.fits c.shape.ensures.below c.in-EqNumber.is) in
    number-there (nodes u) c.in-EqNumber.a p.a p.left

pub two_numbers-requires-clause-second : goal.two_numbers-requires-clause-second
two_numbers-requires-clause-second c =
    let u = c.args.table.now in
    let p = numbers-parts u c.args.node c.in-EqNumber.a c.in-EqNumber.b (shaped u c.args.node c.shape.result (s.EqNumber c.in-EqNumber.a c.in-EqNumber.b) c.shape.ensures.tree c.shape.ensures.fits c.shape.ensures.below c.in-EqNumber.is) in
    number-there (nodes u) c.in-EqNumber.b p.b p.right

pub returns-in-EqNumber : goal.returns-in-EqNumber
returns-in-EqNumber c = λ a e.
    let u = c.args.table.now in
    let p = numbers-parts u c.args.node c.in-EqNumber.a c.in-EqNumber.b (shaped u c.args.node c.shape.result (s.EqNumber c.in-EqNumber.a c.in-EqNumber.b) c.shape.ensures.tree c.shape.ensures.fits c.shape.ensures.below c.in-EqNumber.is) in
    c.two_numbers.ensures p.a p.b p.left p.right ∙ ap (λ (z : FormulaTree). capped (total (term_weight c.args.scope.terms c.args.scope.powers.now) (atom_terms z))) (sym (formula-same (slice_get (nodes u) c.args.node) a _ e p.whole))

pub member-requires-clause-first : goal.member-requires-clause-first
member-requires-clause-first c =
    let u = c.args.table.now in
    let p = member-parts u c.args.node c.in-Member.a c.in-Member.b (shaped u c.args.node c.shape.result (s.Member c.in-Member.a c.in-Member.b) c.shape.ensures.tree c.shape.ensures.fits c.shape.ensures.below c.in-Member.is) in
    object-there (nodes u) c.in-Member.a p.a p.left

pub member-requires-clause-second : goal.member-requires-clause-second
member-requires-clause-second c =
    let u = c.args.table.now in
    let p = member-parts u c.args.node c.in-Member.a c.in-Member.b (shaped u c.args.node c.shape.result (s.Member c.in-Member.a c.in-Member.b) c.shape.ensures.tree c.shape.ensures.fits c.shape.ensures.below c.in-Member.is) in
    set-there (nodes u) c.in-Member.b p.b p.right

pub returns-in-Member : goal.returns-in-Member
returns-in-Member c = λ a e.
    let u = c.args.table.now in
    let p = member-parts u c.args.node c.in-Member.a c.in-Member.b (shaped u c.args.node c.shape.result (s.Member c.in-Member.a c.in-Member.b) c.shape.ensures.tree c.shape.ensures.fits c.shape.ensures.below c.in-Member.is) in
    c.member.ensures p.a p.b p.left p.right ∙ ap (λ (z : FormulaTree). capped (total (term_weight c.args.scope.terms c.args.scope.powers.now) (atom_terms z))) (sym (formula-same (slice_get (nodes u) c.args.node) a _ e p.whole))

pub two-requires-in-Reach-clause-first : goal.two-requires-in-Reach-clause-first
two-requires-in-Reach-clause-first c =
    let u = c.args.table.now in
    let p = reach-parts u c.args.node c.in-Reach.field-0 c.in-Reach.a c.in-Reach.b (shaped u c.args.node c.shape.result (s.Reach c.in-Reach.field-0 c.in-Reach.a c.in-Reach.b) c.shape.ensures.tree c.shape.ensures.fits c.shape.ensures.below c.in-Reach.is) in
    object-there (nodes u) c.in-Reach.a p.a p.left

pub two-requires-in-Reach-clause-second : goal.two-requires-in-Reach-clause-second
two-requires-in-Reach-clause-second c =
    let u = c.args.table.now in
    let p = reach-parts u c.args.node c.in-Reach.field-0 c.in-Reach.a c.in-Reach.b (shaped u c.args.node c.shape.result (s.Reach c.in-Reach.field-0 c.in-Reach.a c.in-Reach.b) c.shape.ensures.tree c.shape.ensures.fits c.shape.ensures.below c.in-Reach.is) in
    object-there (nodes u) c.in-Reach.b p.b p.right

pub returns-in-Reach : goal.returns-in-Reach
returns-in-Reach c = λ a e.
    let u = c.args.table.now in
    let p = reach-parts u c.args.node c.in-Reach.field-0 c.in-Reach.a c.in-Reach.b (shaped u c.args.node c.shape.result (s.Reach c.in-Reach.field-0 c.in-Reach.a c.in-Reach.b) c.shape.ensures.tree c.shape.ensures.fits c.shape.ensures.below c.in-Reach.is) in
    c.two-in-Reach.ensures p.a p.b p.left p.right ∙ ap (λ (z : FormulaTree). capped (total (term_weight c.args.scope.terms c.args.scope.powers.now) (atom_terms z))) (sym (formula-same (slice_get (nodes u) c.args.node) a _ e p.whole))

pub returns-in_default : goal.returns-in_default
returns-in_default c = λ a e.
    let u = c.args.table.now in
    let other : IsOther c.shape.result = record {
      read = c.in_default.not-ReadTruth;
      objects = c.in_default.not-EqObject;
      numbers = c.in_default.not-EqNumber;
      member = c.in_default.not-Member;
      reach = c.in_default.not-Reach;
    } in
    let none = ap terms_of_atom (sym (value-same (slice_get (nodes u) c.args.node) (tree_in u c.shape.result) (of_truth a) c.shape.ensures.tree e)) ∙ other-terms u.pools (nodes u) c.shape.result other in
    nothing-weighs ∙ ap (λ (ts : List TermTree). capped (total (term_weight c.args.scope.terms c.args.scope.powers.now) ts)) (sym none)
