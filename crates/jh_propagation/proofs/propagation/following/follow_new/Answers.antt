use Rattle.std.proofs.Common.{sym, subst, [], ◌∷◌}
use Rattle.jh_cong.proofs.classes.Oks.{on-ok}
use Rattle.jh_arena.specs.table.Nodes.{nodes}
use Rattle.jh_propagation.specs.trail.Listing.{decided}
use Rattle.jh_propagation.specs.propagation.Branches.{IsEqual, parts_of}
use Rattle.jh_propagation.proofs.propagation.Implied.{implied-equal}
use Rattle.jh_propagation.proofs.propagation.Resting.{resting-last, resting-more}
use Rattle.jh_propagation.proofs.propagation.following.follow_new.Goals as goal

pub returns-in-Some-clause-branch : goal.returns-in-Some-clause-branch
returns-in-Some-clause-branch c = on-ok c.push.result (λ h. h [] c.requires.branch) c.push.ensures.branch

pub returns-in-Some-clause-followed : goal.returns-in-Some-clause-followed
returns-in-Some-clause-followed c = on-ok c.push.result (λ e. resting-last c.args.problem.now c.args.branch.now c.push.new.branch c.args.atom c.in-Some.holds e) c.push.ensures.trail

pub returns-in-Some-clause-kept : goal.returns-in-Some-clause-kept
returns-in-Some-clause-kept c = on-ok c.push.result (λ e k h. resting-more c.args.problem.now c.args.branch.now c.push.new.branch (decided c.args.atom c.in-Some.holds ∷ []) c.push.ensures.classes e k h) c.push.ensures.trail

pub push-requires-clause-why : goal.push-requires-clause-why
push-requires-clause-why c = subst (λ n. IsEqual (nodes c.args.problem.now.table) c.args.branch.now.trail (decided c.args.atom c.in-Some.holds) n) (sym c.len-count.ensures) (implied-equal c.args.problem.now [] (parts_of c.args.branch.now) c.requires.branch c.args.atom c.in-Some.holds c.in-Some.ensures.some.0 c.in-Some.ensures.some.1)
