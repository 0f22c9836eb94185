use Rattle.std.proofs.Common.{rules, refl, sym, subst, ◌∙◌}
use Rattle.jh_store.specs.memory.Held.{state_of}
use Rattle.jh_heap_layout.specs.loading.Places.{AreNumbers}
use Rattle.jh_heap_layout.specs.loading.Steps.{class_put}
use Rattle.jh_heap_layout.proofs.loading.Folds.{turn-init, turn-more, turn-end, classes-all}
use Rattle.jh_heap_layout.proofs.loading.Numbers.{as-many-numbers}
use Rattle.jh_heap_layout.proofs.loading.sets.put_classes.Goals as goal

pub loop-turn-init : goal.loop-turn-init
loop-turn-init c = record {
  names = refl;
  last = refl;
  state = λ cs are. turn-init class_put cs c.args.classes.now _ (as-many-numbers c.args.memory.now.names c.args.numbers.now cs are) (state_of c.args.memory.now);
}

pub loop-turn-preserved : goal.loop-turn-preserved
loop-turn-preserved c =
    let known = c.loop-turn.invariant in
    record {
      names = c.put_class.ensures.names ∙ known.names;
      last = c.put_class.ensures.last ∙ known.last;
      state = λ cs are.
          let here : AreNumbers c.loop-turn.memory.names c.args.numbers.now cs = subst (λ ns. AreNumbers ns c.args.numbers.now cs) (sym known.names) are in
          turn-more class_put cs c.args.classes.now _ (as-many-numbers c.args.memory.now.names c.args.numbers.now cs are) c.loop-turn.turn (state_of c.args.memory.now) (state_of c.loop-turn.memory) (state_of c.put_class.new.memory) c.loop-turn-test.true (known.state cs are) (search rules);
    }

pub returns-clause-state : goal.returns-clause-state
returns-clause-state c = λ cs are.
    turn-end class_put cs c.args.classes.now _ (as-many-numbers c.args.memory.now.names c.args.numbers.now cs are) c.loop-turn.turn (state_of c.args.memory.now) (state_of c.loop-turn.memory) c.loop-turn-test.false (c.loop-turn.invariant.state cs are)
    ∙ sym (classes-all cs c.args.classes.now (state_of c.args.memory.now))
