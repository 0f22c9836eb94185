use Rattle.std.proofs.Common.{arith}
use Rattle.jh_arena.specs.table.Nodes.{nodes}
use Rattle.jh_arena.proofs.table.Listed.{extends-trans}
use Rattle.jh_method_commands.specs.commands.Made.{frame_formula}
use Rattle.jh_method_commands.proofs.commands.MethodSteps.{facts-next, facts-all, truth-of}
use Rattle.jh_method_commands.proofs.commands.SideSteps.{truth-stays}
use Rattle.jh_method_commands.proofs.commands.returning.push_all_frames.Goals as goal

pub push_bare-requires : goal.push_bare-requires
push_bare-requires c =
    truth-stays c.args.table.now c.loop-index.table c.node_at.result (truth-of (nodes c.args.table.now) c.args.frames.now c.node_at.result c.loop-index.index c.requires c.node_at.ensures) c.loop-index.invariant.grows

pub loop-index-preserved : goal.loop-index-preserved
loop-index-preserved c =
    let t = c.loop-index.table in
    let u = c.push_bare.new.table in
    record {
      grows = extends-trans c.args.table.now t u c.loop-index.invariant.grows c.push_bare.ensures.grows;
      facts = λ fs are.
          facts-next (frame_formula c.args.place) c.args.table.now t u c.args.frames.now fs c.args.facts.now.items c.loop-index.facts.items c.push_bare.new.facts.items c.node_at.result c.loop-index.index are c.node_at.ensures c.loop-index.invariant.grows c.push_bare.ensures.grows (c.loop-index.invariant.facts fs are) c.in_ok-push_bare.ensures.facts;
    }

pub returns-clause-facts : goal.returns-clause-facts
returns-clause-facts c = λ fs are.
    facts-all (frame_formula c.args.place) c.args.table.now c.loop-index.table c.args.frames.now fs c.args.facts.now.items c.loop-index.facts.items c.loop-index.index are (omega (arith, c.loop-index-test.false)) (c.loop-index.invariant.facts fs are)
