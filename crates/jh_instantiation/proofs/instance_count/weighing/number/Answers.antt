use Rattle.std.proofs.Common.{sym, ap, ◌∙◌, List, slice_get}
use Rattle.jh_form.specs.Tree.{IntTree, TermTree, of_number}
use Rattle.jh_arena.specs.table.Nodes.{nodes, tree_in}
use Rattle.jh_arena.specs.declared.table.shapes.Shape.TheVariants as s
use Rattle.jh_query.specs.queries.Size.{capped}
use Rattle.jh_inst.specs.instances.Count.{total, term_weight}
use Rattle.jh_inst.specs.instances.Terms.{number_terms}
use Rattle.jh_instantiation.proofs.skolem_constants.Shapes.{shaped}
use Rattle.jh_instantiation.proofs.closed_terms.Shapes.{number-inside, number-part, no-number, no-read_number, value-same, number-of}
use Rattle.jh_instantiation.proofs.instance_count.Weights.{nothing-weighs}
use Rattle.jh_instantiation.proofs.instance_count.weighing.number.Goals as goal

pub shape-requires : goal.shape-requires
shape-requires c = number-inside (nodes c.args.table.now) c.args.node c.requires.there

pub chain-requires : goal.chain-requires
chain-requires c =
    let u = c.args.table.now in
    let p = number-part u c.args.node c.in-ReadNumber.field-0 c.in-ReadNumber.inner (shaped u c.args.node c.shape.result (s.ReadNumber c.in-ReadNumber.field-0 c.in-ReadNumber.inner) c.shape.ensures.tree c.shape.ensures.fits c.shape.ensures.below c.in-ReadNumber.is) in
    record { there = p.there }

pub returns-in-ReadNumber : goal.returns-in-ReadNumber
returns-in-ReadNumber c = λ a e.
    let u = c.args.table.now in
    let p = number-part u c.args.node c.in-ReadNumber.field-0 c.in-ReadNumber.inner (shaped u c.args.node c.shape.result (s.ReadNumber c.in-ReadNumber.field-0 c.in-ReadNumber.inner) c.shape.ensures.tree c.shape.ensures.fits c.shape.ensures.below c.in-ReadNumber.is) in
    c.chain.ensures.all p.inner p.part ∙ ap (λ (z : IntTree). capped (total (term_weight c.args.scope.terms c.args.scope.powers.now) (number_terms z))) (sym (number-of (slice_get (nodes u) c.args.node) a _ e p.whole))

pub returns-in_default : goal.returns-in_default
returns-in_default c = λ a e.
    let u = c.args.table.now in
    let whole = value-same (slice_get (nodes u) c.args.node) (tree_in u c.shape.result) (of_number a) c.shape.ensures.tree e in
    let none = no-number a (λ f b same. no-read_number u.pools (nodes u) c.shape.result f b c.in_default.not-ReadNumber (whole ∙ ap of_number same)) in
    nothing-weighs ∙ ap (λ (ts : List TermTree). capped (total (term_weight c.args.scope.terms c.args.scope.powers.now) ts)) (sym none)
