use Rattle.jh_query_names.proofs.query_names.Steps.{none-found}
use Rattle.jh_query_names.proofs.query_names.found.Found.new.Goals as goal

pub returns-clause-found : goal.returns-clause-found
returns-clause-found c = λ ts. none-found ts c.empty-made.result.names.keys c.empty-made.result.seen.keys c.empty-made.ensures.names c.empty-made.ensures.seen
