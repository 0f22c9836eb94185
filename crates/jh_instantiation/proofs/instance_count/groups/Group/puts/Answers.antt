use Rattle.std.proofs.Common.{◌∙◌, ◌^◌}
use Rattle.jh_query.specs.queries.Size.{capped}
use Rattle.jh_query.proofs.queries.Ceilings.{times-capped}
use Rattle.jh_inst.specs.instances.Prenex.{in_front}
use Rattle.jh_instantiation.proofs.instance_count.Capping.{power-capped}
use Rattle.jh_instantiation.proofs.instance_count.groups.Group.puts.Goals as goal

pub returns : goal.returns
returns c = λ t g n h e.
    times-capped c.times.result c.args.self.many c.power.result g.many (n ^ in_front g.formula) c.times.ensures h.many
    (c.power.ensures ∙ (λ i. capped (e i ^ h.variables i)) ∙ power-capped n (in_front g.formula))
