use Rattle.std.proofs.Common.{subst, List}
use Rattle.jh_closure.specs.declared.union_find.merge.Merge.{Merge}
use Rattle.jh_closure.specs.congruence_closure.Uses.{AreUses}
use Rattle.jh_closure.proofs.congruence_closure.Using.{uses-parted}
use Rattle.jh_closure.proofs.congruence_closure.classes.part.Goals as goal

pub returns-in-Some-clause-uses : goal.returns-in-Some-clause-uses
returns-in-Some-clause-uses c ns u =
    uses-parted ns c.detach.new.self.merges c.in-Some.merge c.args.core.now.uses.items
    (subst (λ (us : List Merge). AreUses ns us c.args.core.now.uses.items) c.in-Some.ensures.some u) c.in-Some.ensures.apart
    c.take_uses.new.uses.items c.take_uses.ensures.count c.take_uses.ensures.taken
