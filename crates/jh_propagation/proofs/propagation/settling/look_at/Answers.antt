use Rattle.std.proofs.Common.{sym, subst, List}
use Rattle.jh_closure.proofs.congruence_closure.Having.{has-at}
use Rattle.jh_arena.specs.table.Nodes.{nodes}
use Rattle.jh_propagation.specs.declared.trail.decided.Decided.{Decided}
use Rattle.jh_propagation.specs.declared.trail.looking.Looked.{Looked}
use Rattle.jh_propagation.specs.trail.Looks.{AreForced, IsSeen, list_of}
use Rattle.jh_propagation.specs.trail.Saying.{truth_at}
use Rattle.jh_propagation.specs.propagation.Branches.{parts_of}
use Rattle.jh_propagation.proofs.propagation.Quieting.{busy-done, quiet-again}
use Rattle.jh_propagation.proofs.propagation.settling.look_at.Goals as goal

pub look-requires : goal.look-requires
look-requires c = (c.requires.branch.problem.posed.truths c.instance_at-instance.result (has-at c.args.problem.now.instances.items c.args.place c.instance_at-instance.result c.instance_at-instance.ensures))

pub take_all-requires-clause-forced : goal.take_all-requires-clause-forced
take_all-requires-clause-forced c =
    let seen = c.in_ok-look.ensures in
    let list = subst (λ (x : Looked). IsSeen (nodes c.args.problem.now.table) c.args.branch.now.trail (truth_at (nodes c.args.problem.now.table) c.instance_at-instance.result) (list_of x)) c.in-Forces.is seen in
    subst (λ (xs : List Decided). AreForced (nodes c.args.problem.now.table) c.args.branch.now.trail (truth_at (nodes c.args.problem.now.table) c.instance_at-instance.result) xs) (sym c.items.ensures) list

pub returns-in-False-clause-is_false : goal.returns-in-False-clause-is_false
returns-in-False-clause-is_false c =
    let seen = c.in_ok-look.ensures in
    let none = subst (λ (x : Looked). IsSeen (nodes c.args.problem.now.table) c.args.branch.now.trail (truth_at (nodes c.args.problem.now.table) c.instance_at-instance.result) (list_of x)) c.in-False.is seen in
    λ e. record { instance = c.instance_at-instance.result; here = c.instance_at-instance.ensures; is_false = none }

pub returns-in_ok-take_all-in-Forces-clause-quiet : goal.returns-in_ok-take_all-in-Forces-clause-quiet
returns-in_ok-take_all-in-Forces-clause-quiet c =
    let seen = c.in_ok-look.ensures in
    let list = subst (λ (x : Looked). IsSeen (nodes c.args.problem.now.table) c.args.branch.now.trail (truth_at (nodes c.args.problem.now.table) c.instance_at-instance.result) (list_of x)) c.in-Forces.is seen in
    let forced = subst (λ (xs : List Decided). AreForced (nodes c.args.problem.now.table) c.args.branch.now.trail (truth_at (nodes c.args.problem.now.table) c.instance_at-instance.result) xs) (sym c.items.ensures) list in
    λ e. busy-done c.args.problem.now (parts_of c.take_all.new.branch) c.args.place c.in_ok-take_all-in-Forces.ensures.branch
    (quiet-again c.args.problem.now c.args.branch.now c.take_all.new.branch c.args.place c.instance_at-instance.result c.items.result.now c.in_ok-take_all-in-Forces.ensures.more c.instance_at-instance.ensures forced c.in_ok-take_all-in-Forces.ensures.said c.in_ok-take_all-in-Forces.ensures.waits)
