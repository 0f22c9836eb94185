use Rattle.std.proofs.Common.{refl, sym, subst, ◌∙◌, slice_get}
use Rattle.std.specs.Prelude.{Option}
use Rattle.jh_form.specs.Tree.{FormulaTree}
use Rattle.jh_form.specs.Closed.{is_closed_formula}
use Rattle.jh_arena.specs.table.Entries.{the_truth}
use Rattle.jh_arena.specs.table.Nodes.{nodes, shape_tree}
use Rattle.jh_arena.specs.declared.table.shapes.Shape.TheVariants as s
use Rattle.jh_arena.proofs.table.PartSteps.{part-Negation-a}
use Rattle.jh_arena.proofs.table.Children.{it-is-truth}
use Rattle.jh_derivation_rules.specs.Rules.{fact_opened, relation_opened}
use Rattle.jh_derivation_steps.specs.premises.Nodes.{Makes}
use Rattle.jh_derivation_steps.proofs.premises.Shaping.{fits-at, formula-at, fact-other}
use Rattle.jh_derivation_steps.proofs.premises.opening.fact_opened.Goals as goal

pub negated-requires-clause-formula : goal.negated-requires-clause-formula
negated-requires-clause-formula c =
    let t0 = c.args.table.now in
    it-is-truth (slice_get (nodes t0) c.in-Negation.a) (part-Negation-a t0.pools (nodes t0) c.in-Negation.a (fits-at t0 c.shape.result (s.Negation c.in-Negation.a) c.shape.ensures.fits c.in-Negation.is))

pub negated-requires-clause-closed : goal.negated-requires-clause-closed
unfolding is_closed_formula shape_tree the_truth
negated-requires-clause-closed c =
    let t0 = c.args.table.now in
    sym (formula-at (λ f. is_closed_formula f 0) t0 c.args.node c.shape.result (s.Negation c.in-Negation.a) c.shape.ensures.tree c.in-Negation.is) ∙ c.requires.closed

pub returns-in-Negation-clause-made : goal.returns-in-Negation-clause-made
unfolding fact_opened shape_tree the_truth
returns-in-Negation-clause-made c =
    let t0 = c.args.table.now in
    subst (λ (o : Option FormulaTree). Makes (nodes c.negated.new.table) o c.negated.result) (sym (formula-at fact_opened t0 c.args.node c.shape.result (s.Negation c.in-Negation.a) c.shape.ensures.tree c.in-Negation.is)) c.negated.ensures.made

pub returns-in_default : goal.returns-in_default
returns-in_default c =
    let t0 = c.args.table.now in
    let other = formula-at fact_opened t0 c.args.node c.shape.result c.shape.result c.shape.ensures.tree refl ∙ fact-other t0.pools (nodes t0) c.shape.result c.in_default.not-Negation ∙ sym (formula-at relation_opened t0 c.args.node c.shape.result c.shape.result c.shape.ensures.tree refl) in
    record { made = subst (λ (o : Option FormulaTree). Makes (nodes c.relation_opened.new.table) o c.relation_opened.result) (sym other) c.relation_opened.ensures.made; grows = c.relation_opened.ensures.grows }
