use Rattle.std.proofs.Common.{◌≡◌, ◌≤◌, ◌+◌, inr, refl, ◌∙◌, Some, length, slice_get, arith}
use Rattle.jh_rules.specs.Words.{text_of}
use Rattle.jh_symbols.proofs.member_numbers.Puttings.{item-is}
use Rattle.jh_definitions.proofs.dependency_order.Collected.{def-fresh, take-none, take-end, all-next, both-others}
use Rattle.jh_definitions.proofs.dependency_order.collecting.add_class.Goals as goal

-- src/collecting.rt
pub loop-def-init : goal.loop-def-init
loop-def-init c = record {
  numbered = c.requires.numbered;
  sound = λ p declared inside same old. old;
  all = λ x none. take-none x c.args.defs.now;
  others = λ d x. inr refl;
  classes = refl;
  few = omega arith;
}

-- src/collecting.rt
pub loop-def-preserved : goal.loop-def-preserved
loop-def-preserved c =
    let defs = c.args.defs.now in
    let i = c.loop-def.def-index in
    let def = c.def-item.result in
    let old = c.loop-def.made in
    let new = c.add.new.made in
    let at : slice_get defs i ≡ Some def = item-is defs i def c.loop-def-test.true c.def-item.is in
    record {
      numbered = c.in_ok-add.ensures.numbered;
      sound = λ p declared inside same first. c.in_ok-add.ensures.sound p declared inside (λ none. same (text_of def.name) ∙ def-fresh defs i def at (c.loop-def.invariant.all (text_of def.name) none)) (c.loop-def.invariant.sound p declared inside same first);
      all = all-next old.numbers new.numbers c.args.class defs i def at c.in_ok-add.ensures.named c.in_ok-add.ensures.others c.loop-def.invariant.all;
      others = λ d x. both-others c.args.made.now.numbers old.numbers new.numbers c.args.class d (text_of def.name) x (c.in_ok-add.ensures.others d x) (c.loop-def.invariant.others d x);
      classes = c.in_ok-add.ensures.classes ∙ c.loop-def.invariant.classes;
      few =
          let step : length new.list.items ≤ length old.list.items + 1 = c.in_ok-add.ensures.few in
          let before : length old.list.items ≤ length c.args.made.now.list.items + i = c.loop-def.invariant.few in
          omega arith;
    }

-- src/collecting.rt
pub returns-clause-all : goal.returns-clause-all
returns-clause-all c = λ x none. take-end x c.args.defs.now c.loop-def.def-index (omega arith) (c.loop-def.invariant.all x none)
