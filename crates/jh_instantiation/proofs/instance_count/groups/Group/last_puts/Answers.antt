use Rattle.std.proofs.Common.{◌∙◌, sym, ◌*◌, ◌==◌, if◌then◌else◌}
use Rattle.jh_query.specs.queries.Size.{capped}
use Rattle.jh_query.proofs.queries.Ceilings.{times-capped}
use Rattle.jh_instantiation.proofs.instance_count.groups.Group.last_puts.Goals as goal

pub returns-then-self-eq1 : goal.returns-then-self-eq1
returns-then-self-eq1 c = λ t g n h e.
    let one = sym (sym h.variables ∙ c.if-self-eq1.true) in
    times-capped c.times.result c.args.self.many c.args.terms g.many n c.times.ensures h.many e ∙ (λ i. capped (if one i == 1 then g.many * n else 0))
