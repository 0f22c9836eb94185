use Rattle.std.proofs.Common.{sym, subst, List, ℕ, [], refl, arith}
use Rattle.std.specs.List.{filter}
use Rattle.std.proofs.lemmas.Option.{slice_get_within}
use Rattle.jh_form.specs.Tree.{ValueTree, of_truth}
use Rattle.jh_arena.specs.table.Nodes.{nodes}
use Rattle.jh_normal_forms.specs.parts.Collected.{IsCollected, all_parts}
use Rattle.jh_normal_forms.specs.declared.parts.order.Order.TheVariants as order
use Rattle.jh_approx.specs.definition.Names.{without_repeats}
use Rattle.jh_reach.proofs.Standings.{formula-of}
use Rattle.jh_local_form.specs.updates.Updating.{AreValues}
use Rattle.jh_local_form.proofs.updates.Collecting.{collected-once, parts-facts, collected-none, collected-step, collected-whole}
use Rattle.jh_local_form.proofs.updates.gathering.parts_of.Goals as goal

pub loop-place-init : goal.loop-place-init
loop-place-init g c = subst (λ (ks : List ℕ). IsCollected (nodes c.args.table.now) [] [] ks) (sym c.new-list.ensures) (collected-none (nodes c.args.table.now) [])

pub add_parts-requires : goal.add_parts-requires
add_parts-requires g c =
    let there = formula-of c.args.table.now c.args.formulas.now c.requires.formulas.0 c.loop-place.place c.node_at-formula.result c.requires.formulas.1 c.node_at-formula.ensures in
    record { inside = slice_get_within (nodes c.args.table.now) c.node_at-formula.result (of_truth there.0) there.2 }

pub loop-place-preserved : goal.loop-place-preserved
loop-place-preserved g c =
    collected-step (g.T.PartTest.test c.args.test.now) order.InnerFirst (nodes c.args.table.now) c.args.formulas.now [] c.loop-place.list c.add_parts.new.self c.loop-place.place c.node_at-formula.result c.loop-place.invariant c.in_ok-add_parts.ensures.parts c.node_at-formula.ensures

pub returns : goal.returns
returns g c = record {
  parts = λ facts are.
      let ts = nodes c.args.table.now in
      let q = g.T.PartTest.test c.args.test.now in
      let whole : IsCollected ts [] (filter q (all_parts order.InnerFirst ts c.args.formulas.now)) c.loop-place.list = collected-whole q order.InnerFirst ts c.args.formulas.now [] c.loop-place.list c.loop-place.place c.loop-place.invariant (search arith) in
      subst (λ (ws : List ValueTree). AreValues ts c.loop-place.list (without_repeats (filter q ws))) (parts-facts c.args.table.now c.args.formulas.now facts are)
      (collected-once ts c.nodes_differ.ensures.different c.loop-place.list [] (filter q (all_parts order.InnerFirst ts c.args.formulas.now)) refl whole);
}
