use Rattle.std.proofs.Common.{sym, subst, ◌++◌, ◌∷◌, [], List}
use Rattle.jh_containers.specs.declared.transitive_closure.facts.Fact.{Fact}
use Rattle.jh_effects.specs.written_state.Arising.{AreTold}
use Rattle.jh_effects.proofs.written_state.Numbers.{told-push, told-keeps}
use Rattle.jh_effects.proofs.written_state.numbering.number_given.Goals as goal

-- src/numbering.rt
pub loop-next-preserved : goal.loop-next-preserved
loop-next-preserved c =
    let old = c.loop-next.keys.keys in
    let new = c.number.new.keys.keys in
    let made = c.loop-next.made.items in
    let next = c.in-Some.next in
    record {
      told = subst (λ (fs : List Fact). AreTold new fs (c.loop-next.yielded ++ next ∷ [])) (sym c.in_ok-push.ensures.items)
          (told-push new made c.loop-next.yielded next.of c.in_ok-what.what next.what c.in_ok-what.ensures.stands (told-keeps old new c.in_ok-what.ensures.keeps made c.loop-next.yielded c.loop-next.invariant.told));
      keeps = λ n x e. c.in_ok-what.ensures.keeps n x (c.loop-next.invariant.keeps n x e);
    }
