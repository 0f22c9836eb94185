use Rattle.std.proofs.Common.{sym, ◌∙◌, subst, List, ◌++◌, ◌∷◌, [], inr}
use Rattle.std.proofs.lemmas.Bool.{true≢false}
use Rattle.jh_arena.specs.table.Nodes.{nodes}
use Rattle.jh_propagation.specs.declared.trail.decided.Decided.{Decided}
use Rattle.jh_propagation.specs.trail.Occurring.{places_in}
use Rattle.jh_explanations.specs.Testing.{IsFalseAmong}
use Rattle.jh_explanations.proofs.Readiness.{ready-asked, ready-more}
use Rattle.jh_explanations.proofs.Tests.{among-some, none-longer, kept-clash, kept-quiet}
use Rattle.jh_explanations.proofs.keeping.keep.Goals as goal

pub some_false-requires : goal.some_false-requires
some_false-requires c = c.requires.problem.posed

pub returns-then-branch-clause-clash : goal.returns-then-branch-clause-clash
returns-then-branch-clause-clash c =
    let ts = nodes c.args.problem.now.table in
    let p = c.args.problem.now in
    let longer = c.args.trail.now ++ c.args.literal ∷ [] in
    λ is. inr (among-some ts p c.requires.problem.posed longer (places_in p.ground c.args.literal.atom)
    (subst (λ (xs : List Decided). IsFalseAmong ts p xs (places_in p.ground c.args.literal.atom)) c.in_ok-push.ensures.ok (c.in_ok-some_false.ensures.0 c.if-branch.true)))

pub returns-clause-clash : goal.returns-clause-clash
returns-clause-clash c = kept-clash c.args.problem.now c.args.classes.now c.is_met.new.classes c.args.literal c.in_ok-is_met.field-0 c.in_ok-is_met.ensures.asked c.args.trail.now c.requires.quiet.spoken

pub returns-clause-quiet : goal.returns-clause-quiet
returns-clause-quiet c =
    let ts = nodes c.args.problem.now.table in
    let p = c.args.problem.now in
    kept-quiet p c.args.classes.now c.is_met.new.classes c.args.literal c.in_ok-is_met.field-0 c.in_ok-is_met.ensures.asked c.args.trail.now c.requires.quiet.spoken
    (none-longer ts p c.requires.problem.posed c.others_say_nothing.ensures c.args.trail.now c.args.literal c.requires.atom (λ h. c.requires.quiet.quiet (inr h))
    (λ among. true≢false (sym (c.in_ok-some_false.ensures.1 (subst (λ (xs : List Decided). IsFalseAmong ts p xs (places_in p.ground c.args.literal.atom)) (sym c.in_ok-push.ensures.ok) among)) ∙ c.if-branch.false)))

pub returns-then-branch-clause-ready : goal.returns-then-branch-clause-ready
returns-then-branch-clause-ready c = ready-more c.args.problem.now c.args.classes.now c.args.trail.now c.args.literal c.requires.quiet

pub returns-clause-ready : goal.returns-clause-ready
returns-clause-ready c = ready-asked c.args.problem.now c.args.classes.now c.is_met.new.classes c.args.literal c.in_ok-is_met.field-0 c.in_ok-is_met.ensures.asked c.args.trail.now c.requires.quiet (returns-clause-quiet c)
