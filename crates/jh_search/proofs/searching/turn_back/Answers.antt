use Rattle.std.proofs.Common.{sym, subst}
use Rattle.jh_propagation.specs.propagation.Branches.{parts_of}
use Rattle.jh_search.specs.Levels.{AreLevels}
use Rattle.jh_search.proofs.Moves.{levels-kept}
use Rattle.jh_search.proofs.searching.turn_back.Goals as goal

pub leave-requires-clause-levels : goal.leave-requires-clause-levels
leave-requires-clause-levels c =
    subst (AreLevels c.args.problem.now (parts_of c.close.new.searching.branch)) (sym c.in_ok-needs.ensures.path)
    (levels-kept c.args.problem.now c.args.searching.now.branch c.close.new.searching.branch c.args.searching.now.path.items c.in_ok-needs.ensures.kept c.requires.leaf.levels)
