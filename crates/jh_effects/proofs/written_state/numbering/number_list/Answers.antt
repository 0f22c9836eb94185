use Rattle.std.proofs.Common.{sym, subst, ◌++◌, ◌∷◌, [], ℕ, List}
use Rattle.jh_effects.specs.written_state.Arising.{AreNumbers}
use Rattle.jh_effects.proofs.written_state.Numbers.{numbers-push, numbers-keep}
use Rattle.jh_effects.proofs.written_state.numbering.number_list.Goals as goal

-- src/numbering.rt
pub loop-key-preserved : goal.loop-key-preserved
loop-key-preserved c =
    let old = c.loop-key.keys.keys in
    let new = c.number.new.keys.keys in
    let made = c.loop-key.made.items in
    let number = c.in_ok-number.field-0 in
    record {
      numbers = subst (λ (ns : List ℕ). AreNumbers new ns (c.loop-key.yielded ++ c.in-Some.key ∷ [])) (sym c.in_ok-push.ensures.items)
          (numbers-push new made c.loop-key.yielded number c.in-Some.key c.in_ok-number.ensures.stands (numbers-keep old new c.in_ok-number.ensures.keeps made c.loop-key.yielded c.loop-key.invariant.numbers));
      keeps = λ n x e. c.in_ok-number.ensures.keeps n x (c.loop-key.invariant.keeps n x e);
    }
