use Rattle.jh_query.proofs.queries.Renamings.{fits-same, true-same}
use Rattle.jh_query.proofs.queries.laws.classes_may_be_renamed.Goals as goal

pub returns : goal.returns
returns c = record { same = true-same; fit = fits-same }
