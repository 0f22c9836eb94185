use Rattle.std.proofs.Common.{take, arith}
use Rattle.jh_arena.specs.table.Nodes.{nodes}
use Rattle.jh_arena.proofs.table.Listed.{extends-trans}
use Rattle.jh_import.proofs.carrying.Carries.{all-at, all-grow, all-length, all-step, all-whole}
use Rattle.jh_import.proofs.carrying.carrying.carry_all.Goals as goal

pub carry_next-requires-clause-inside : goal.carry_next-requires-clause-inside
carry_next-requires-clause-inside c = c.requires.inside c.loop-place.place c.node_at.result c.node_at.ensures

pub loop-place-preserved : goal.loop-place-preserved
loop-place-preserved c =
    let ts = nodes c.args.from.now in
    let before = all-grow ts (nodes c.loop-place.into) (nodes c.carry_next.new.into) (take c.loop-place.place c.args.list.now) c.loop-place.answers.items c.carry_next.ensures.grows.nodes c.loop-place.invariant.answers in
    record {
      grows = extends-trans c.args.into.now c.loop-place.into c.carry_next.new.into c.loop-place.invariant.grows c.carry_next.ensures.grows;
      holds = c.in_ok-answer.ensures.memo;
      answers = all-step ts (nodes c.carry_next.new.into) c.args.list.now c.loop-place.answers.items c.push.new.self.items c.loop-place.place c.node_at.result c.in_ok-answer.answer before c.in_ok-answer.ensures.node c.node_at.ensures c.in_ok-push.ensures.items;
    }

pub returns-clause-long : goal.returns-clause-long
returns-clause-long c = all-length (nodes c.args.from.now) (nodes c.loop-place.into) c.args.list.now c.loop-place.answers.items (all-whole (nodes c.args.from.now) (nodes c.loop-place.into) c.args.list.now c.loop-place.answers.items c.loop-place.place c.loop-place.invariant.answers (omega (arith, c.loop-place-test.false)))

pub returns-clause-each : goal.returns-clause-each
returns-clause-each c = λ place node answer here made. (all-at (nodes c.args.from.now) (nodes c.loop-place.into) c.args.list.now c.loop-place.answers.items place node answer (all-whole (nodes c.args.from.now) (nodes c.loop-place.into) c.args.list.now c.loop-place.answers.items c.loop-place.place c.loop-place.invariant.answers (omega (arith, c.loop-place-test.false))) here made).is
