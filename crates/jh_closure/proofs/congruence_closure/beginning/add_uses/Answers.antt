use Rattle.jh_closure.specs.congruence_closure.Uses.{row}
use Rattle.jh_closure.proofs.congruence_closure.Adding.{both-here, both-keep, both-only}
use Rattle.jh_closure.proofs.congruence_closure.Oks.{on-ok-then}
use Rattle.jh_closure.proofs.congruence_closure.beginning.add_uses.Goals as goal

pub returns-in_ok-add_use-in-Apply-clause-covers : goal.returns-in_ok-add_use-in-Apply-clause-covers
returns-in_ok-add_use-in-Apply-clause-covers c =
    on-ok-then c.add_use-in-Apply.result
    (λ f. both-here (row c.args.uses.now.items) (row c.add_use.new.uses.items) (row c.add_use-in-Apply.new.uses.items) c.in-Apply.left c.in-Apply.right c.args.number c.in_ok-add_use-in-Apply.ensures.added f c.args.node c.in-Apply.field-0 c.in-Apply.is)
    c.add_use-in-Apply.ensures.added

pub returns-in_ok-add_use-in-Apply-clause-keeps : goal.returns-in_ok-add_use-in-Apply-clause-keeps
returns-in_ok-add_use-in-Apply-clause-keeps c =
    on-ok-then c.add_use-in-Apply.result
    (λ f. both-keep (row c.args.uses.now.items) (row c.add_use.new.uses.items) (row c.add_use-in-Apply.new.uses.items) c.in-Apply.left c.in-Apply.right c.args.number c.in_ok-add_use-in-Apply.ensures.added f)
    c.add_use-in-Apply.ensures.added

pub returns-in_ok-add_use-in-Apply-clause-only : goal.returns-in_ok-add_use-in-Apply-clause-only
returns-in_ok-add_use-in-Apply-clause-only c =
    on-ok-then c.add_use-in-Apply.result
    (λ f. both-only (row c.args.uses.now.items) (row c.add_use.new.uses.items) (row c.add_use-in-Apply.new.uses.items) c.in-Apply.left c.in-Apply.right c.args.number c.in_ok-add_use-in-Apply.ensures.added f)
    c.add_use-in-Apply.ensures.added
