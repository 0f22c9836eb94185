use Rattle.std.proofs.Common.{ap, subst, ◌∙◌, SFits, arith, rules}
use Rattle.std.specs.Int.{w64}
use Rattle.std.proofs.lemmas.Int.{to_z-of_z}
use Rattle.jh_closure.specs.declared.congruence_closure.node.Node.TheVariants as n
use Rattle.jh_cong.specs.flattening.Plain.{IsHelper, minus, plus}
use Rattle.jh_cong.proofs.flattening.Gathering.{adds-then, factor-made, helper-inside}
use Rattle.jh_cong.proofs.flattening.Oks.{on-ok-then}
use Rattle.jh_cong.proofs.flattening.helpers.add_factor.Goals as goal

pub add_both-requires-clause-left : goal.add_both-requires-clause-left
add_both-requires-clause-left c =
    let l = helper-inside c.args.count c.add_number.new.helpers.items c.in_ok-plus.plus (n.Leaf c.plus_part.result) c.in_ok-plus.ensures.here in
    let m = c.in_ok-minus.ensures.adds.long in
    omega (arith, l, m)

pub add_both-requires-clause-right : goal.add_both-requires-clause-right
add_both-requires-clause-right c = helper-inside c.args.count c.add_number-2.new.helpers.items c.in_ok-minus.minus (n.Leaf c.minus_part.result) c.in_ok-minus.ensures.here

pub returns-clause-here : goal.returns-clause-here
returns-clause-here c =
    let fits : SFits w64 c.args.factor = search rules in
    factor-made c.args.count c.add_number.new.helpers.items c.add_number-2.new.helpers.items c.add_both.new.helpers.items c.args.factor c.in_ok-plus.plus c.in_ok-minus.minus
    (subst (λ z. IsHelper c.args.count c.add_number.new.helpers.items c.in_ok-plus.plus (n.Leaf z)) (c.plus_part.ensures ∙ ap plus (to_z-of_z w64 c.args.factor fits)) c.in_ok-plus.ensures.here)
    (subst (λ z. IsHelper c.args.count c.add_number-2.new.helpers.items c.in_ok-minus.minus (n.Leaf z)) (c.minus_part.ensures ∙ ap minus (to_z-of_z w64 c.args.factor fits)) c.in_ok-minus.ensures.here)
    c.in_ok-minus.ensures.adds c.add_both.result c.add_both.ensures.adds c.add_both.ensures.here

pub returns-clause-adds : goal.returns-clause-adds
returns-clause-adds c =
    on-ok-then c.add_both.result (λ a. adds-then c.args.count c.args.helpers.now.items c.add_number-2.new.helpers.items c.add_both.new.helpers.items (adds-then c.args.count c.args.helpers.now.items c.add_number.new.helpers.items c.add_number-2.new.helpers.items c.in_ok-plus.ensures.adds c.in_ok-minus.ensures.adds) a) c.add_both.ensures.adds
