use Rattle.std.proofs.Common.{refl, ◌∙◌, arith}
use Rattle.std.proofs.lemmas.Option.{slice_get_within}
use Rattle.jh_form.specs.Tree.{of_truth}
use Rattle.jh_arena.specs.table.Nodes.{nodes}
use Rattle.jh_reach.proofs.Standings.{formula-of}
use Rattle.jh_fca.specs.local_form.Named.{turn_behind}
use Rattle.jh_local_form.proofs.updates.Beyond.{turn-next, turn-all}
use Rattle.jh_local_form.proofs.updates.turns.greatest.Goals as goal

pub loop-place-init : goal.loop-place-init
unfolding turn_behind
loop-place-init c = λ facts are. refl

pub next_turn-requires : goal.next_turn-requires
next_turn-requires c =
    let there = formula-of c.args.table.now c.args.formulas.now c.requires.formulas.0 c.loop-place.place c.node_at-formula.result c.requires.formulas.1 c.node_at-formula.ensures in
    slice_get_within (nodes c.args.table.now) c.node_at-formula.result (of_truth there.0) there.2

pub loop-place-preserved : goal.loop-place-preserved
loop-place-preserved c = λ facts are.
    c.max-first.ensures ∙ turn-next c.args.table.now c.args.formulas.now facts c.loop-place.place c.node_at-formula.result c.next_turn.result c.loop-place.first are c.node_at-formula.ensures c.next_turn.ensures (c.loop-place.invariant facts are)

pub returns : goal.returns
returns c = λ facts are. turn-all c.args.table.now c.args.formulas.now facts c.loop-place.place c.loop-place.first are (search arith) (c.loop-place.invariant facts are)
