use Rattle.std.proofs.Common.{◌≡◌, ◌≤◌, ◌+◌, sym, ap, subst, ◌∙◌, ℕ, List, None, Some, map, length, get_or, slice_get, arith}
use Rattle.jh_ast.specs.declared.program.VarDef.{VarDef}
use Rattle.jh_ast.specs.Bare.{def_part}
use Rattle.jh_rules.specs.Names.{def_in}
use Rattle.jh_symbols.specs.member_numbers.Numbering.{number_in}
use Rattle.jh_containers.proofs.transitive_closure.Places.{item-get}
use Rattle.jh_definitions.specs.expansion.Opening.{source_of}
use Rattle.jh_definitions.proofs.dependency_order.Collected.{def-of-class, all-below, all-end, few-next, inside-source}
use Rattle.jh_definitions.proofs.dependency_order.collecting.definitions_of.Goals as goal

-- src/collecting.rt
pub loop-class-preserved : goal.loop-class-preserved
loop-class-preserved c =
    let cs = c.args.classes.now in
    let n = c.loop-class.class in
    let class = get_or cs n c.index-classes-class.result in
    let old = c.loop-class.made in
    let new = c.add_class.new.made in
    let at : slice_get cs n ≡ Some class = item-get cs n c.index-classes-class.result c.loop-class-test.true in
    record {
      numbered = c.in_ok-add_class.ensures.numbered;
      sound = c.in_ok-add_class.ensures.sound (source_of cs) c.requires.declared (inside-source cs n c.loop-class-test.true) (λ x. def-of-class cs n class at x ∙ ap (λ (ds : List VarDef). def_in x (map def_part ds)) (sym c.items.ensures)) c.loop-class.invariant.sound;
      all = all-below cs old.numbers new.numbers n class at (subst (λ (ds : List VarDef). (x : List ℕ) → number_in new.numbers n x ≡ None → def_in x (map def_part ds) ≡ None) c.items.ensures c.in_ok-add_class.ensures.all) c.in_ok-add_class.ensures.others c.loop-class.invariant.all;
      classes = c.in_ok-add_class.ensures.classes ∙ c.loop-class.invariant.classes;
      few = few-next cs n class (length old.list.items) (length new.list.items) _ at (subst (λ (ds : List VarDef). length new.list.items ≤ length old.list.items + length ds) c.items.ensures c.in_ok-add_class.ensures.few) c.loop-class.invariant.few;
    }

-- src/collecting.rt
pub returns-clause-all : goal.returns-clause-all
returns-clause-all c = all-end c.args.classes.now c.loop-class.made.numbers c.loop-class.class (omega arith) c.loop-class.invariant.all
