use Rattle.jh_unfolding.specs.unfolder.Adding.{program_of}
use Rattle.jh_unfolding.proofs.unfolder.Addings.{opened-of}
use Rattle.jh_unfolding.proofs.unfolder.gathering.gather_in.Goals as goal

pub returns : goal.returns
returns c = opened-of (program_of c.args.context) (record { table = c.args.table; places = c.new-places.result }) c.add_classes.new.visitor.gathered c.new-places.ensures c.in_ok-add_classes.ensures.adds
