use Rattle.jh_ast.specs.Bare.{var_part}
use Rattle.jh_definitions.specs.jh_resolution.Spots.{spot_of}
use Rattle.jh_vars.specs.Opened as opened
use Rattle.jh_ast.specs.Programs.{VarPart}
use Rattle.jh_unfolding.specs.unfolder.Adding.{program_of}
use Rattle.jh_unfolding.proofs.unfolder.Addings.{adds-next, adds-end}
use Rattle.jh_unfolding.proofs.unfolder.classes.add_inits.Goals as goal

pub loop-next-init : goal.loop-next-init
loop-next-init c = record { ready = c.requires; adds = λ new rest. rest }

pub loop-next-preserved : goal.loop-next-preserved
loop-next-preserved c = record {
  ready = c.in_ok-add_some.ensures.ready;
  adds = λ new rest. c.loop-next.invariant.adds new (adds-next (program_of c.args.context.now) var_part (λ (u : VarPart). opened.valued_some (program_of c.args.context.now) (spot_of c.args.at.now) u.init) c.args.vars.now c.loop-next.gathered c.add_some.new.gathered c.loop-next.next-index c.next-item.result c.loop-next-test.true c.next-item.is c.in_ok-add_some.ensures.adds new rest);
}

pub returns-clause-ready : goal.returns-clause-ready
returns-clause-ready c = c.loop-next.invariant.ready

pub returns-clause-adds : goal.returns-clause-adds
returns-clause-adds c = c.loop-next.invariant.adds c.loop-next.gathered (adds-end (program_of c.args.context.now) var_part (λ (u : VarPart). opened.valued_some (program_of c.args.context.now) (spot_of c.args.at.now) u.init) c.args.vars.now c.loop-next.gathered c.loop-next.next-index c.loop-next-test.false)
