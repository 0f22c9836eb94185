use Rattle.std.proofs.Common.{rules, refl, sym, subst, ◌∙◌, map}
use Rattle.jh_store.specs.heaps.Cells.{cell_in}
use Rattle.jh_store.specs.memory.Held.{state_of}
use Rattle.jh_heap_layout.specs.loading.Places.{ArePlaces}
use Rattle.jh_heap_layout.specs.loading.Steps.{field_put}
use Rattle.jh_heap_layout.proofs.loading.Folds.{turn-init, turn-more, turn-end, fields-all}
use Rattle.jh_heap_layout.proofs.loading.Numbers.{as-many-places}
use Rattle.jh_heap_layout.proofs.loading.loading.put_fields.Goals as goal

pub loop-turn-init : goal.loop-turn-init
loop-turn-init c = record {
  names = refl;
  last = refl;
  state = λ xs are. turn-init field_put xs (map (map cell_in) c.args.rows.now) _ (as-many-places c.args.memory.now.names c.args.places.now xs are) (state_of c.args.memory.now);
}

pub loop-turn-preserved : goal.loop-turn-preserved
loop-turn-preserved c =
    let known = c.loop-turn.invariant in
    record {
      names = c.put_field.ensures.names ∙ known.names;
      last = c.put_field.ensures.last ∙ known.last;
      state = λ xs are.
          let here : ArePlaces c.loop-turn.memory.names c.args.places.now xs = subst (λ ns. ArePlaces ns c.args.places.now xs) (sym known.names) are in
          turn-more field_put xs (map (map cell_in) c.args.rows.now) _ (as-many-places c.args.memory.now.names c.args.places.now xs are) c.loop-turn.turn (state_of c.args.memory.now) (state_of c.loop-turn.memory) (state_of c.put_field.new.memory) c.loop-turn-test.true (known.state xs are) (search rules);
    }

pub returns-clause-state : goal.returns-clause-state
returns-clause-state c = λ xs are.
    turn-end field_put xs (map (map cell_in) c.args.rows.now) _ (as-many-places c.args.memory.now.names c.args.places.now xs are) c.loop-turn.turn (state_of c.args.memory.now) (state_of c.loop-turn.memory) c.loop-turn-test.false (c.loop-turn.invariant.state xs are)
    ∙ sym (fields-all xs (map (map cell_in) c.args.rows.now) (state_of c.args.memory.now))
