use Rattle.std.proofs.Common.{sym, ◌∙◌, arith}
use Rattle.jh_query.specs.queries.Bare.{set_tree}
use Rattle.jh_query.proofs.partial_truth.Tellings.{member-told}
use Rattle.jh_query.proofs.partial_truth.judging.is_member.Goals as goal

pub returns-then-names_below-clause-tells : goal.returns-then-names_below-clause-tells
returns-then-names_below-clause-tells c = λ z w. member-told c.args.spots.now c.args.atoms.now c.args.element (set_tree c.args.set.now) z (omega arith) (sym c.names_below.ensures ∙ c.if-names_below.true) w ∙ sym c.class_lies.ensures
