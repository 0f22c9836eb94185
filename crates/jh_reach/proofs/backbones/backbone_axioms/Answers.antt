use Rattle.std.proofs.Common.{ap, ◌∙◌, subst}
use Rattle.std.specs.Prelude.{Option}
use Rattle.jh_reach.specs.declared.backbones.Base.{Base}
use Rattle.jh_arena.specs.table.Entries.{are_fields}
use Rattle.jh_arena.proofs.table.Listed.{extends-trans}
use Rattle.jh_reach.specs.Axioms.{axioms_of_list}
use Rattle.jh_reach.specs.Based.{IsBaseAt}
use Rattle.jh_reach.proofs.Standings.{fields-grow, formulas-grow, along-grows}
use Rattle.jh_reach.proofs.Basing.{sorted-grows, sorted-at, there-grows, axioms-alone, base-there, axioms-with}
use Rattle.jh_reach.proofs.backbones.backbone_axioms.Goals as goal

pub base_axiom-requires-clause-along : goal.base_axiom-requires-clause-along
base_axiom-requires-clause-along c =
    along-grows c.list.new.self c.list_axioms.new.table c.in_ok-list.list c.args.fields.now c.list_axioms.ensures.grows
    (record { named = c.in_ok-list.ensures.number; are = ap (λ ts. are_fields ts c.args.fields.now) c.list.ensures.nodes ∙ c.requires.fields })

pub base_axiom-requires-clause-base : goal.base_axiom-requires-clause-base
base_axiom-requires-clause-base c =
    let grows = extends-trans c.args.table.now c.list.new.self c.list_axioms.new.table c.list.ensures.grows c.list_axioms.ensures.grows in
    sorted-grows c.args.table.now c.list_axioms.new.table c.in-Some.base grows (sorted-at c.args.table.now c.args.base c.in-Some.base c.in-Some.is c.requires.base)

pub returns-in-None-clause-nodes : goal.returns-in-None-clause-nodes
returns-in-None-clause-nodes c = λ b h there.
    axioms-alone c.list_axioms.new.table c.args.table.now c.in_ok-made.made.items c.args.base b c.in-None.is there
    (c.in_ok-made.ensures.nodes b.fields (fields-grow c.args.table.now c.list.new.self c.args.fields.now b.fields c.list.ensures.grows h))

pub returns-in_ok-push-in-Some-clause-nodes : goal.returns-in_ok-push-in-Some-clause-nodes
returns-in_ok-push-in-Some-clause-nodes c = λ b h there.
    let first = c.list.ensures.grows in
    let second = c.list_axioms.ensures.grows in
    let fields = fields-grow c.args.table.now c.list.new.self c.args.fields.now b.fields first h in
    let some = base-there c.args.table.now c.in-Some.base b.base (subst (λ (o : Option Base). IsBaseAt c.args.table.now o b.base) c.in-Some.is there) in
    axioms-with c.base_axiom.new.table c.in_ok-made.made.items c.push.new.self.items c.in_ok-axiom-in-Some.axiom b some.0 some.1
    (formulas-grow c.list_axioms.new.table c.base_axiom.new.table c.in_ok-made.made.items (axioms_of_list b.fields) c.base_axiom.ensures.grows (c.in_ok-made.ensures.nodes b.fields fields))
    (c.in_ok-axiom-in-Some.ensures.node b.fields some.0
    (fields-grow c.list.new.self c.list_axioms.new.table c.args.fields.now b.fields second fields)
    (there-grows c.args.table.now c.list_axioms.new.table c.in-Some.base some.0 (extends-trans c.args.table.now c.list.new.self c.list_axioms.new.table first second) some.2))
    c.in_ok-push-in-Some.ensures.items
