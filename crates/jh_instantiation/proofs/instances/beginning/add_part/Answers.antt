use Rattle.std.proofs.Common.{refl}
use Rattle.jh_arena.proofs.table.Listed.{grows-refl}
use Rattle.jh_inst.specs.instances.Entries.{part_of}
use Rattle.jh_inst.specs.instances.Witnesses.{constants_from}
use Rattle.jh_instantiation.proofs.instances.Growing.{entries-grow}
use Rattle.jh_instantiation.proofs.instances.beginning.add_part.Goals as goal

pub returns-clause-made : goal.returns-clause-made
returns-clause-made c = λ es a hm hf.
    let t = c.args.table.now in
    let u = c.prenexed.new.table in
    let pool = c.args.entries.now.terms.items in
    c.add.ensures u es (part_of c.args.fact.number (constants_from c.args.fact.first c.args.fact.fresh) a)
    (entries-grow t u c.prenexed.ensures.grows pool pool (grows-refl pool) c.args.entries.now.items.items es hm)
    (record {
      formula = c.in_ok-formula.ensures.node a hf;
      source = refl;
      counted = refl;
      terms = tt;
      fresh = refl;
    })
