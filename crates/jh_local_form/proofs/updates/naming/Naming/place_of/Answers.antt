use Rattle.std.proofs.Common.{ap, ◌∙◌, nat_eq, position}
use Rattle.jh_local_form.proofs.updates.Places.{found-some, found-none}
use Rattle.jh_local_form.proofs.updates.naming.Naming.place_of.Goals as goal

pub returns-clause-found : goal.returns-clause-found
returns-clause-found c = found-some c.args.self.now.updates c.args.node c.get_index_of.result (c.get_index_of.ensures.index ∙ ap (λ n. position (nat_eq c.args.node) n.updates) c.self.view_is)

pub returns-clause-missed : goal.returns-clause-missed
returns-clause-missed c = found-none c.args.self.now.updates c.args.node c.get_index_of.result (c.get_index_of.ensures.index ∙ ap (λ n. position (nat_eq c.args.node) n.updates) c.self.view_is)
