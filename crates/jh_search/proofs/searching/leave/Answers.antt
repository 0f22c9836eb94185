use Rattle.std.proofs.Common.{sym, ap, subst, ◌<◌, List, length}
use Rattle.jh_arena.specs.table.Nodes.{nodes}
use Rattle.jh_search.specs.declared.turn.ClosedBranch.{ClosedBranch}
use Rattle.jh_search.specs.Searches.{IsRetreat}
use Rattle.jh_search.proofs.searching.leave.Goals as goal

pub resume-requires : goal.resume-requires
resume-requires c =
    let turned = subst (IsRetreat (nodes c.args.problem.now.table) c.args.problem.now c.go_back.new.path.items c.args.searching.now.closed.items c.args.leaves) c.in-Turned.is (c.in_ok-go_back.ensures.retreat (nodes c.args.problem.now.table) c.args.problem.now c.args.searching.now.closed.items (ap length (sym c.as_slice-count.ensures.value)) c.requires.back) in
    record { problem = c.requires.problem; path = c.args.searching.now.path.items; same = c.requires.path; levels = c.requires.levels; from = c.in_ok-go_back.ensures.turned c.in-Turned.is; turned = turned.0 }

pub returns-in_ok-resume-in-Turned-clause-left : goal.returns-in_ok-resume-in-Turned-clause-left
returns-in_ok-resume-in-Turned-clause-left c =
    let turned = subst (IsRetreat (nodes c.args.problem.now.table) c.args.problem.now c.go_back.new.path.items c.args.searching.now.closed.items c.args.leaves) c.in-Turned.is (c.in_ok-go_back.ensures.retreat (nodes c.args.problem.now.table) c.args.problem.now c.args.searching.now.closed.items (ap length (sym c.as_slice-count.ensures.value)) c.requires.back) in
    (c.in_ok-resume-in-Turned.ensures.searching, subst (λ (xs : List ClosedBranch). length xs < c.args.leaves) (sym c.in_ok-resume-in-Turned.ensures.closed) turned.1)

pub returns-in-Finished-clause-left : goal.returns-in-Finished-clause-left
returns-in-Finished-clause-left c = subst (IsRetreat (nodes c.args.problem.now.table) c.args.problem.now c.go_back.new.path.items c.args.searching.now.closed.items c.args.leaves) c.in-Finished.is (c.in_ok-go_back.ensures.retreat (nodes c.args.problem.now.table) c.args.problem.now c.args.searching.now.closed.items (ap length (sym c.as_slice-count.ensures.value)) c.requires.back)

pub returns-in-Spent-clause-left : goal.returns-in-Spent-clause-left
returns-in-Spent-clause-left c = subst (IsRetreat (nodes c.args.problem.now.table) c.args.problem.now c.go_back.new.path.items c.args.searching.now.closed.items c.args.leaves) c.in-Spent.is (c.in_ok-go_back.ensures.retreat (nodes c.args.problem.now.table) c.args.problem.now c.args.searching.now.closed.items (ap length (sym c.as_slice-count.ensures.value)) c.requires.back)
