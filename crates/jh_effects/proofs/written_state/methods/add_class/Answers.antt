use Rattle.std.proofs.Common.{◌≡◌, inr, refl, ◌∙◌, Some, slice_get, arith}
use Rattle.jh_rules.specs.Words.{text_of}
use Rattle.jh_symbols.proofs.member_numbers.Puttings.{item-is}
use Rattle.jh_effects.proofs.written_state.Collecting.{method-fresh, take-none, take-end, all-next, both-others}
use Rattle.jh_effects.proofs.written_state.methods.add_class.Goals as goal

-- src/methods.rt
pub loop-method-init : goal.loop-method-init
loop-method-init c = record {
  numbered = c.requires.numbered;
  sound = λ p same old. old;
  all = λ x none. take-none x c.args.methods.now;
  others = λ d x. inr refl;
  classes = refl;
}

-- src/methods.rt
pub loop-method-preserved : goal.loop-method-preserved
loop-method-preserved c =
    let methods = c.args.methods.now in
    let i = c.loop-method.method-index in
    let method = c.method-item.result in
    let old = c.loop-method.made in
    let new = c.add.new.made in
    let at : slice_get methods i ≡ Some method = item-is methods i method c.loop-method-test.true c.method-item.is in
    record {
      numbered = c.in_ok-add.ensures.numbered;
      sound = λ p same first. c.in_ok-add.ensures.sound p (λ none. same (text_of method.name) ∙ method-fresh methods i method at (c.loop-method.invariant.all (text_of method.name) none)) (c.loop-method.invariant.sound p same first);
      all = all-next old.numbers new.numbers c.args.class methods i method at c.in_ok-add.ensures.named c.in_ok-add.ensures.others c.loop-method.invariant.all;
      others = λ d x. both-others c.args.made.now.numbers old.numbers new.numbers c.args.class d (text_of method.name) x (c.in_ok-add.ensures.others d x) (c.loop-method.invariant.others d x);
      classes = c.in_ok-add.ensures.classes ∙ c.loop-method.invariant.classes;
    }

-- src/methods.rt
pub returns-clause-all : goal.returns-clause-all
returns-clause-all c = λ x none. take-end x c.args.methods.now c.loop-method.method-index (omega arith) (c.loop-method.invariant.all x none)
