use Rattle.std.proofs.Common.{◌≡◌, ◌∙◌, ◌≤◌, sym, ap, subst, ℕ, List, length, take, arith, add-one}
use Rattle.std.proofs.lemmas.List.{take_all}
use Rattle.jh_form.specs.Tree.{FormulaTree}
use Rattle.jh_arena.specs.table.Nodes.{nodes}
use Rattle.jh_query.proofs.queries.Ceilings.{fits-capped}
use Rattle.jh_inst.specs.instances.Count as spec
use Rattle.jh_instantiation.proofs.skolem_constants.Shapes.{formula-there}
use Rattle.jh_instantiation.specs.instance_count.Grouping.{AreGroups, single_groups}
use Rattle.jh_instantiation.proofs.instance_count.Tallying.{formula-of, formulas-length, singles-more}
use Rattle.jh_instantiation.proofs.instance_count.counting.groups_of.Goals as goal

pub add_group-requires : goal.add_group-requires
add_group-requires c =
    let t = c.args.table.now in
    let some = formula-of t c.args.formulas.now c.requires.there.0 c.loop-index.index c.formula_at-formula.result c.requires.there.1 c.formula_at-formula.ensures in
    record { there = formula-there (nodes t) c.formula_at-formula.result some.0 some.2 }

pub loop-index-preserved : goal.loop-index-preserved
loop-index-preserved c = λ fs h.
    let t = c.args.table.now in
    let i = c.loop-index.index in
    let some = formula-of t c.args.formulas.now fs i c.formula_at-formula.result h c.formula_at-formula.ensures in
    let more = ap (λ (j : ℕ). single_groups (take j fs)) (add-one i) ∙ singles-more fs i some.0 some.1 in
    subst (λ (gs : List spec.Group). AreGroups t c.add_group.new.groups.items gs) (sym more)
    (c.in_ok-add_group.ensures (single_groups (take i fs)) some.0 1 (c.loop-index.invariant fs h) some.2 (fits-capped 1 (omega arith)))

pub returns : goal.returns
returns c = λ fs h.
    let t = c.args.table.now in
    let end : c.loop-index.index ≡ length c.args.formulas.now = search arith in
    let count = formulas-length t c.args.formulas.now fs h in
    let enough : length fs ≤ c.loop-index.index = omega (arith, end, count) in
    subst (λ (gs : List FormulaTree). AreGroups t c.loop-index.groups.items (single_groups gs)) (take_all c.loop-index.index fs enough) (c.loop-index.invariant fs h)
