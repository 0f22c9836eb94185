use Rattle.std.proofs.Common.{◌≡◌, ◌+◌, ◌≤◌, sym, ap, subst, ◌∙◌, arith, List, ◌++◌, length, take}
use Rattle.std.proofs.lemmas.List.{take_all, append-nil}
use Rattle.jh_form.specs.Tree.{FormulaTree}
use Rattle.jh_arena.specs.table.Nodes.{nodes}
use Rattle.jh_arena.proofs.table.Listed.{extends-refl, extends-trans}
use Rattle.jh_inst.specs.instances.Entries.{Entry, taken, all_witnesses}
use Rattle.jh_instantiation.proofs.skolem_constants.Shapes.{formula-grows, formula-there}
use Rattle.jh_instantiation.specs.instances.Standing.{IsMade}
use Rattle.jh_instantiation.proofs.instances.Growing.{formula-of, formulas-length}
use Rattle.jh_instantiation.proofs.instances.Parts.{taken-next, witnesses-next}
use Rattle.jh_instantiation.proofs.instances.beginning.take_all.Goals as goal

pub loop-number-init : goal.loop-number-init
loop-number-init c = record {
  grows = extends-refl c.args.table.now;
  made = λ es fs hm hf. subst (λ (xs : List Entry). IsMade c.args.table.now c.args.entries.now xs) (sym (append-nil es)) hm;
  next = λ fs hf. let same : c.args.first ≡ c.args.first + 0 = omega arith in same;
}

pub take_fact-requires : goal.take_fact-requires
take_fact-requires c =
    let facts = c.requires.there in
    let f = formula-of c.args.table.now c.args.facts.now facts.0 c.loop-number.number c.node_at.result facts.1 c.node_at.ensures in
    record { there = formula-there (nodes c.loop-number.table) c.node_at.result f.0 (formula-grows c.args.table.now c.loop-number.table c.node_at.result f.0 c.loop-number.invariant.grows f.2) }

pub loop-number-preserved : goal.loop-number-preserved
loop-number-preserved c = record {
  grows = extends-trans c.args.table.now c.loop-number.table c.take_fact.new.table c.loop-number.invariant.grows c.take_fact.ensures.grows;
  made = λ es fs hm hf.
      let f = formula-of c.args.table.now c.args.facts.now fs c.loop-number.number c.node_at.result hf c.node_at.ensures in
      let here = formula-grows c.args.table.now c.loop-number.table c.node_at.result f.0 c.loop-number.invariant.grows f.2 in
      subst (λ (xs : List Entry). IsMade c.take_fact.new.table c.take_fact.new.entries xs)
      (taken-next fs c.loop-number.number c.args.first c.loop-number.next f.0 es f.1 (c.loop-number.invariant.next fs hf))
      (c.in_ok-next.ensures.made (es ++ taken (take c.loop-number.number fs) 0 c.args.first) f.0 (c.loop-number.invariant.made es fs hm hf) here);
  next = λ fs hf.
      let f = formula-of c.args.table.now c.args.facts.now fs c.loop-number.number c.node_at.result hf c.node_at.ensures in
      let here = formula-grows c.args.table.now c.loop-number.table c.node_at.result f.0 c.loop-number.invariant.grows f.2 in
      witnesses-next fs c.loop-number.number c.args.first c.loop-number.next c.in_ok-next.next f.0 f.1 (c.loop-number.invariant.next fs hf) (c.in_ok-next.ensures.next f.0 here);
}

pub returns-clause-made : goal.returns-clause-made
returns-clause-made c = λ es fs hm hf.
    let long = formulas-length c.args.table.now c.args.facts.now fs hf in
    let all : length fs ≤ c.loop-number.number = omega (arith, c.loop-number-test.false, long) in
    subst (λ (xs : List FormulaTree). IsMade c.loop-number.table c.loop-number.entries (es ++ taken xs 0 c.args.first)) (take_all c.loop-number.number fs all) (c.loop-number.invariant.made es fs hm hf)

pub returns-clause-next : goal.returns-clause-next
returns-clause-next c = λ fs hf.
    let long = formulas-length c.args.table.now c.args.facts.now fs hf in
    let all : length fs ≤ c.loop-number.number = omega (arith, c.loop-number-test.false, long) in
    c.loop-number.invariant.next fs hf ∙ ap (λ (xs : List FormulaTree). c.args.first + all_witnesses xs) (take_all c.loop-number.number fs all)
