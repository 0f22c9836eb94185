use Rattle.std.proofs.Common.{sym, ◌∙◌, true, false}
use Rattle.std.proofs.lemmas.Bool.{true≢false}
use Rattle.jh_arena.specs.table.Nodes.{nodes}
use Rattle.jh_deriv.proofs.Sights.{apart-one, apart-two}
use Rattle.jh_deriv.proofs.suiting.differ.Goals as goal

pub returns-then-left-right : goal.returns-then-left-right
returns-then-left-right c = (
  λ h. absurd (true≢false (sym h)),
  λ h. absurd (apart-one (nodes c.args.table.now) c.args.left c.args.right c.if-left-right.true h),
)

pub returns : goal.returns
returns c =
    let both = apart-two (nodes c.args.table.now) c.nodes_differ.ensures.different c.args.left c.args.right c.requires.left c.requires.right c.if-left-right.false in
    (λ h. both.0 (sym c.are_constants.ensures ∙ h), λ h. c.are_constants.ensures ∙ both.1 h)
