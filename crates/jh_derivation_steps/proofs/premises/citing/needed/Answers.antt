use Rattle.std.proofs.Common.{◌∙◌}
use Rattle.jh_arena.specs.table.Nodes.{nodes}
use Rattle.jh_derivation_rules.specs.Rules.{leads_as}
use Rattle.jh_derivation_steps.specs.premises.Nodes.{field_at, base_at, formulas_at, AreFormulas}
use Rattle.jh_derivation_steps.proofs.premises.Carried.{is-field, is-term}
use Rattle.jh_derivation_steps.proofs.premises.Ruling.{one-is}
use Rattle.jh_derivation_steps.proofs.premises.Cited.{needs-nothing, needs-told}
use Rattle.jh_derivation_steps.proofs.premises.citing.needed.Goals as goal

pub returns-then-member-update-clause-needs : goal.returns-then-member-update-clause-needs
unfolding formulas_at
returns-then-member-update-clause-needs c =
    needs-nothing c.args.table.now c.nodes_differ.ensures.different c.args.member c.args.update c.args.base.place c.requires.member c.requires.update c.if-member-update.true

pub returns-then-member-update-clause-there : goal.returns-then-member-update-clause-there
unfolding AreFormulas
returns-then-member-update-clause-there c = tt

pub updated_objects-requires-clause-old : goal.updated_objects-requires-clause-old
updated_objects-requires-clause-old c =
    let u = base_at (nodes c.args.table.now) c.args.base.place c.args.update in
    is-field (nodes c.args.table.now) c.args.base.field u.field c.requires.base.field

pub updated_objects-requires-clause-at : goal.updated_objects-requires-clause-at
updated_objects-requires-clause-at c =
    let u = base_at (nodes c.args.table.now) c.args.base.place c.args.update in
    is-term (nodes c.args.table.now) c.args.base.at u.at c.requires.base.at

pub updated_objects-requires-clause-value : goal.updated_objects-requires-clause-value
updated_objects-requires-clause-value c =
    let u = base_at (nodes c.args.table.now) c.args.base.place c.args.update in
    is-term (nodes c.args.table.now) c.args.base.value u.value c.requires.base.value

pub returns-clause-needs : goal.returns-clause-needs
returns-clause-needs c =
    let t0 = c.args.table.now in
    let g = field_at (nodes t0) c.args.member in
    let u = base_at (nodes t0) c.args.base.place c.args.update in
    (one-is (nodes c.updated_objects.new.table) c.in_ok-told.told (leads_as g u.field u.at u.value) (c.in_ok-told.ensures.made g u.field u.at u.value c.requires.member c.requires.base.field c.requires.base.at c.requires.base.value)).0
    ∙ needs-told t0 c.nodes_differ.ensures.different c.args.member c.args.update c.args.base.place c.requires.member c.requires.update c.if-member-update.false

pub returns-clause-there : goal.returns-clause-there
returns-clause-there c =
    let t0 = c.args.table.now in
    let g = field_at (nodes t0) c.args.member in
    let u = base_at (nodes t0) c.args.base.place c.args.update in
    (one-is (nodes c.updated_objects.new.table) c.in_ok-told.told (leads_as g u.field u.at u.value) (c.in_ok-told.ensures.made g u.field u.at u.value c.requires.member c.requires.base.field c.requires.base.at c.requires.base.value)).1
