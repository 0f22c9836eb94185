use Rattle.std.proofs.Common.{◌-◌, sym, ◌∙◌, ap, length, take, arith}
use Rattle.std.proofs.lemmas.List.{take-take}
use Rattle.jh_closure.proofs.congruence_closure.classes.cut.Goals as goal

pub loop-core-preserved : goal.loop-core-preserved
loop-core-preserved c =
    let ms = c.loop-core.core.forest.merges in
    let long = c.len.ensures.len in
    let more = c.loop-core-test.true in
    record {
      count = c.part.ensures.lists ∙ (c.loop-core.invariant.count ∙ sym c.part.ensures.count);
      uses = λ ns u. c.part.ensures.uses ns (c.loop-core.invariant.uses ns u);
      merges = ap (take c.args.merges) c.part.ensures.merges ∙ (take-take c.args.merges (length ms - 1) ms (omega (arith, long, more)) ∙ c.loop-core.invariant.merges);
      same = c.part.ensures.count ∙ c.loop-core.invariant.same;
      entries = c.part.ensures.table ∙ c.loop-core.invariant.entries;
    }
