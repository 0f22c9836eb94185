use Rattle.std.proofs.Common.{sym, ap, ◌∙◌, ◌&&◌, Some}
use Rattle.jh_arena.specs.table.Nodes.{nodes}
use Rattle.jh_derivation_rules.specs.Cited.{is_closed_base}
use Rattle.jh_derivation_steps.specs.premises.Nodes.{base_at}
use Rattle.jh_derivation_steps.proofs.premises.Cited.{forest-formula, update-field, forest-closed, update-closed}
use Rattle.jh_derivation_steps.proofs.premises.closing.based.Goals as goal

pub formula-requires : goal.formula-requires
formula-requires c = forest-formula (nodes c.args.table.now) c.args.list c.requires.list

pub field-requires : goal.field-requires
field-requires c = update-field (nodes c.args.table.now) c.args.update c.requires.update

pub returns-then-formula : goal.returns-then-formula
returns-then-formula c = λ place.
    let ts = nodes c.args.table.now in
    let closed = sym (forest-closed ts c.args.list c.requires.list) ∙ sym c.formula.ensures ∙ c.if-formula.true in
    c.field.ensures ∙ update-closed ts c.args.update place c.requires.update ∙ ap (λ b. b && is_closed_base (Some (base_at ts place c.args.update))) (sym closed)

pub returns-else-formula : goal.returns-else-formula
returns-else-formula c = λ place.
    let ts = nodes c.args.table.now in
    let loose = sym (forest-closed ts c.args.list c.requires.list) ∙ sym c.formula.ensures ∙ c.if-formula.false in
    c.if-formula.false ∙ ap (λ b. b && is_closed_base (Some (base_at ts place c.args.update))) (sym loose)
