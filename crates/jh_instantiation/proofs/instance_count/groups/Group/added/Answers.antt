use Rattle.std.proofs.Common.{◌∙◌, []}
use Rattle.jh_query.specs.queries.Size.{capped}
use Rattle.jh_query.proofs.queries.Ceilings.{times-capped}
use Rattle.jh_inst.specs.instances.Count.{weight}
use Rattle.jh_instantiation.proofs.instance_count.Capping.{weight-capped}
use Rattle.jh_instantiation.proofs.instance_count.groups.Group.added.Goals as goal

pub returns : goal.returns
returns c = λ g n h e.
    times-capped c.times.result c.args.self.many c.in_ok-each.each g.many (weight n g.formula [] 0) c.times.ensures h.many
    (c.in_ok-each.ensures g.formula h.formula ∙ (λ i. capped (weight (e i) g.formula [] 0)) ∙ weight-capped n g.formula [] 0)
