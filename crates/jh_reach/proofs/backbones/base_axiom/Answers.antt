use Rattle.std.proofs.Common.{◌≡◌, sym, ap, ◌∙◌, subst, ℕ, List, Some}
use Rattle.std.specs.Prelude.{slice_set}
use Rattle.jh_arena.specs.table.Entries.{are_fields}
use Rattle.jh_arena.specs.table.Nodes.{nodes}
use Rattle.jh_reach.specs.Axioms.{listed, before}
use Rattle.jh_reach.specs.Standing.{AreFields, fields_in}
use Rattle.jh_path_formulas.proofs.NodeSteps.{list-there, list-grows}
use Rattle.jh_reach.proofs.Standings.{fields-grow, along-list, along-fields, along-grows}
use Rattle.jh_reach.proofs.Basing.{set-fields, set-are, sorted-grows, there-grows}
use Rattle.jh_reach.proofs.backbones.base_axiom.Goals as goal

pub update_axiom-requires-clause-new : goal.update_axiom-requires-clause-new
update_axiom-requires-clause-new c =
    let fs = fields_in (nodes c.args.table.now) c.args.fields.now in
    list-there c.list.new.self c.args.list (listed fs)
    (list-grows c.args.table.now c.list.new.self c.args.list (listed fs) c.list.ensures.grows (along-list c.args.table.now c.args.list c.args.fields.now fs c.requires.along (along-fields c.args.table.now c.args.list c.args.fields.now c.requires.along)))

pub update_axiom-requires-clause-along : goal.update_axiom-requires-clause-along
update_axiom-requires-clause-along c =
    let there = along-grows c.args.table.now c.list.new.self c.args.list c.args.fields.now c.list.ensures.grows c.requires.along in
    let same : c.as_slice-2.result.now ≡ slice_set c.args.fields.now c.args.base.place c.args.base.field = c.as_slice-2.ensures.value ∙ c.in_ok-before.ensures in
    record {
      named = c.in_ok-old.ensures.number ∙ ap (λ z. Some z) (c.as_slice.ensures.value ∙ sym c.as_slice-2.ensures.value);
      are =
          ap (are_fields (nodes c.list.new.self)) same
          ∙ set-are c.list.new.self c.args.fields.now c.args.base.place c.args.base.field _ there.are (sorted-grows c.args.table.now c.list.new.self c.args.base c.list.ensures.grows c.requires.base).field;
    }

pub returns-clause-node : goal.returns-clause-node
returns-clause-node c = λ fs u h there.
    let here = there-grows c.args.table.now c.list.new.self c.args.base u c.list.ensures.grows there in
    let same : slice_set c.args.fields.now c.args.base.place c.args.base.field ≡ c.as_slice-2.result.now = sym (c.as_slice-2.ensures.value ∙ c.in_ok-before.ensures) in
    let set = set-fields c.list.new.self c.args.fields.now fs c.args.base.place c.args.base.field u.field (fields-grow c.args.table.now c.list.new.self c.args.fields.now fs c.list.ensures.grows h) here.field in
    let old =
    subst (λ (ns : List ℕ). AreFields c.list.new.self ns (before fs u)) same
    (subst (λ (p : ℕ). AreFields c.list.new.self (slice_set c.args.fields.now c.args.base.place c.args.base.field) (slice_set fs p u.field)) here.place set) in
    c.update_axiom.ensures.node fs (before fs u) u.field u.at u.value
    (list-grows c.args.table.now c.list.new.self c.args.list (listed fs) c.list.ensures.grows (along-list c.args.table.now c.args.list c.args.fields.now fs c.requires.along h))
    old here.field here.at here.value
