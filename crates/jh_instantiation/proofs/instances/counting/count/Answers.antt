use Rattle.jh_arena.proofs.table.Listed.{extends-trans}
use Rattle.jh_instantiation.proofs.instances.counting.count.Goals as goal

pub count_begun-requires : goal.count_begun-requires
count_begun-requires c = let f = c.requires.there in record { there = (f.0, c.args.first, c.in_ok-progress.ensures.made f.0 f.1) }

pub returns-clause-count : goal.returns-clause-count
returns-clause-count c = λ fs hf. c.count_begun.ensures.count fs c.args.first (c.in_ok-progress.ensures.made fs hf)

pub returns-clause-grows : goal.returns-clause-grows
returns-clause-grows c = extends-trans c.args.table.now c.begun.new.table c.count_begun.new.table c.begun.ensures.grows c.count_begun.ensures.grows
