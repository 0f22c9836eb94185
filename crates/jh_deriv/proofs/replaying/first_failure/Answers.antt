use Rattle.std.proofs.Common.{ap, subst, Ok, refl, ◌∷◌, ◌+◌, drop, List, length, arith}
use Rattle.jh_arena.specs.table.Nodes.{nodes}
use Rattle.jh_derivation_rules.specs.Steps.{StepTree, step_tree, bare_step}
use Rattle.jh_deriv.specs.Replays.{bare_steps, open_at}
use Rattle.jh_deriv.proofs.Following.{Led, led-begin, led-next, led-stuck, steps-at, comes-end}
use Rattle.jh_deriv.proofs.replaying.first_failure.Goals as goal

pub loop-index-init : goal.loop-index-init
loop-index-init c = record {
  branches = c.requires;
  led = led-begin (open_at (nodes c.args.table.now) c.args.branches.now.facts.facts.items c.args.branches.now.waiting.items) (bare_steps c.args.steps.now);
}

pub returns-then-not-branch : goal.returns-then-not-branch
returns-then-not-branch c =
    let start = open_at (nodes c.args.table.now) c.args.branches.now.facts.facts.items c.args.branches.now.waiting.items in
    let ss = c.args.steps.now in
    let i = c.loop-index.index in
    let s = c.index-steps-index.result in
    let now = open_at (nodes c.loop-index.table) c.loop-index.branches.facts.facts.items c.loop-index.branches.waiting.items in
    let at = steps-at ss i s c.loop-index-test.true c.index-steps-index.is in
    let led : Led start (bare_steps ss) now (bare_step (step_tree s) ∷ bare_steps (drop (i + 1) ss)) i = subst (λ (zs : List StepTree). Led start (bare_steps ss) now zs i) at c.loop-index.invariant.led in
    led-stuck start (bare_steps ss) now (bare_step (step_tree s)) (bare_steps (drop (i + 1) ss)) i led (c.in_ok-turn.ensures.stuck (ap Ok c.if-not-branch.true))

pub loop-index-preserved : goal.loop-index-preserved
loop-index-preserved c =
    let start = open_at (nodes c.args.table.now) c.args.branches.now.facts.facts.items c.args.branches.now.waiting.items in
    let ss = c.args.steps.now in
    let i = c.loop-index.index in
    let s = c.index-steps-index.result in
    let now = open_at (nodes c.loop-index.table) c.loop-index.branches.facts.facts.items c.loop-index.branches.waiting.items in
    let at = steps-at ss i s c.loop-index-test.true c.index-steps-index.is in
    let led : Led start (bare_steps ss) now (bare_step (step_tree s) ∷ bare_steps (drop (i + 1) ss)) i = subst (λ (zs : List StepTree). Led start (bare_steps ss) now zs i) at c.loop-index.invariant.led in
    let new = open_at (nodes c.turn.new.table) c.turn.new.branches.facts.facts.items c.turn.new.branches.waiting.items in
    record {
      branches = c.in_ok-turn.ensures.branches (ap Ok c.if-not-branch.false);
      led = led-next start (bare_steps ss) now (bare_step (step_tree s)) (bare_steps (drop (i + 1) ss)) new i led (c.in_ok-turn.ensures.turns (ap Ok c.if-not-branch.false));
    }

pub returns : goal.returns
returns c =
    let start = open_at (nodes c.args.table.now) c.args.branches.now.facts.facts.items c.args.branches.now.waiting.items in
    let ss = c.args.steps.now in
    comes-end start ss (nodes c.loop-index.table) c.loop-index.branches.facts.facts.items c.loop-index.branches.waiting.items c.loop-index.index (length ss) c.at_end.result c.loop-index.invariant.led (omega (arith, c.loop-index-test.false, c.loop-index.auto.index-end)) refl c.at_end.ensures.none c.at_end.ensures.missing c.at_end.ensures.waiting
