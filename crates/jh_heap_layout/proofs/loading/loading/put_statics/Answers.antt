use Rattle.std.proofs.Common.{rules, refl, sym, subst, ◌∙◌, map}
use Rattle.jh_store.specs.heaps.Cells.{cell_in}
use Rattle.jh_store.specs.memory.Held.{state_of}
use Rattle.jh_heap_layout.specs.loading.Places.{ArePlaces}
use Rattle.jh_heap_layout.specs.loading.Steps.{static_put}
use Rattle.jh_heap_layout.proofs.loading.Folds.{turn-init, turn-more, turn-end, statics-all}
use Rattle.jh_heap_layout.proofs.loading.Numbers.{as-many-places}
use Rattle.jh_heap_layout.proofs.loading.loading.put_statics.Goals as goal

pub loop-turn-init : goal.loop-turn-init
loop-turn-init c = record {
  names = refl;
  last = refl;
  state = λ xs are. turn-init static_put xs (map cell_in c.args.cells.now) _ (as-many-places c.args.memory.now.names c.args.places.now xs are) (state_of c.args.memory.now);
}

pub loop-turn-preserved : goal.loop-turn-preserved
loop-turn-preserved c =
    let known = c.loop-turn.invariant in
    record {
      names = c.put_static.ensures.names ∙ known.names;
      last = c.put_static.ensures.last ∙ known.last;
      state = λ xs are.
          let here : ArePlaces c.loop-turn.memory.names c.args.places.now xs = subst (λ ns. ArePlaces ns c.args.places.now xs) (sym known.names) are in
          turn-more static_put xs (map cell_in c.args.cells.now) _ (as-many-places c.args.memory.now.names c.args.places.now xs are) c.loop-turn.turn (state_of c.args.memory.now) (state_of c.loop-turn.memory) (state_of c.put_static.new.memory) c.loop-turn-test.true (known.state xs are) (search rules);
    }

pub returns-clause-state : goal.returns-clause-state
returns-clause-state c = λ xs are.
    turn-end static_put xs (map cell_in c.args.cells.now) _ (as-many-places c.args.memory.now.names c.args.places.now xs are) c.loop-turn.turn (state_of c.args.memory.now) (state_of c.loop-turn.memory) c.loop-turn-test.false (c.loop-turn.invariant.state xs are)
    ∙ sym (statics-all xs (map cell_in c.args.cells.now) (state_of c.args.memory.now))
