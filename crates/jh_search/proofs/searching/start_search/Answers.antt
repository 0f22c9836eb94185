use Rattle.jh_search.proofs.Descents.{begins}
use Rattle.jh_search.proofs.searching.start_search.Goals as goal

pub returns-clause-searching : goal.returns-clause-searching
returns-clause-searching c = begins c.search_goes_on.ensures c.args.problem.now _ c.in_ok-begin.ensures.branch c.in_ok-begin.ensures.decisions c.new.ensures.items c.new-2.ensures.items
