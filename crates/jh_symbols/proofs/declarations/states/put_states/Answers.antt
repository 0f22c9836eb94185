use Rattle.std.proofs.Common.{◌+◌, refl, ◌≡◌, length, arith}
use Rattle.indexmap.specs.IndexMap.{get_by_text}
use Rattle.jh_symbols.specs.declarations.States.{first_of, last_of}
use Rattle.jh_symbols.proofs.declarations.Stating.{firsts-next, lasts-next, states-start, none-last, states-end}
use Rattle.jh_symbols.proofs.declarations.states.put_states.Goals as goal

pub loop-back-init : goal.loop-back-init
loop-back-init c = record {
  firsts = λ p tables. states-start first_of refl (λ x. get_by_text c.args.firsts.now x) c.args.classes.now c.requires.firsts p;
  lasts = λ p tables. states-start last_of none-last (λ x. get_by_text c.args.lasts.now x) c.args.classes.now c.requires.lasts p;
}

pub loop-back-preserved : goal.loop-back-preserved
loop-back-preserved c =
    let found : c.from_end-index.result + c.loop-back.back + 1 ≡ length c.args.classes.now = c.from_end-index.ensures in
    record {
      firsts = λ p tables. firsts-next p c.args.tables.now c.args.classes.now tables c.from_end-index.result c.index-tables-index.result c.index-classes-index.result (omega arith) c.index-tables-index.is c.index-classes-index.is (λ x. get_by_text c.loop-back.firsts x) (λ x. get_by_text c.put_class_states.new.firsts x) c.loop-back.back c.from_end-index.ensures (c.loop-back.invariant.firsts p tables) c.in_ok-put_class_states.ensures.firsts;
      lasts = λ p tables. lasts-next p c.args.tables.now c.args.classes.now tables c.from_end-index.result c.index-tables-index.result c.index-classes-index.result (omega arith) c.index-tables-index.is c.index-classes-index.is (λ x. get_by_text c.loop-back.lasts x) (λ x. get_by_text c.put_class_states.new.lasts x) c.loop-back.back c.from_end-index.ensures (c.loop-back.invariant.lasts p tables) c.in_ok-put_class_states.ensures.lasts;
    }

pub returns-clause-firsts : goal.returns-clause-firsts
returns-clause-firsts c = λ p tables x. states-end first_of (λ y. get_by_text c.loop-back.firsts y) c.args.classes.now c.loop-back.back p x c.loop-back-test.false (c.loop-back.invariant.firsts p tables x)

pub returns-clause-lasts : goal.returns-clause-lasts
returns-clause-lasts c = λ p tables x. states-end last_of (λ y. get_by_text c.loop-back.lasts y) c.args.classes.now c.loop-back.back p x c.loop-back-test.false (c.loop-back.invariant.lasts p tables x)
