use Rattle.std.proofs.Common.{◌≡◌, true, sym, subst, List, ℕ}
use Rattle.jh_arena.specs.table.Entries.{are_fields}
use Rattle.jh_arena.specs.table.Nodes.{nodes}
use Rattle.jh_reach.specs.Standing.{AreFields}
use Rattle.jh_reach.proofs.Standings.{fields-are}
use Rattle.jh_derivation_rules.specs.Cited.{members}
use Rattle.jh_derivation_steps.specs.premises.Nodes.{formula_at, forest_fields}
use Rattle.jh_derivation_steps.proofs.premises.citing.based.Goals as goal

pub with_base-requires-clause-fields : goal.with_base-requires-clause-fields
with_base-requires-clause-fields c =
    let fs = members (forest_fields (formula_at (nodes c.args.table.now) c.args.list)) in
    subst (λ (ns : List ℕ). are_fields (nodes c.args.table.now) ns ≡ true) (sym c.as_slice.ensures.value) (fields-are c.args.table.now c.in_ok-fields.fields.items fs c.in_ok-fields.ensures)

pub returns-clause-rule : goal.returns-clause-rule
returns-clause-rule c =
    let fs = members (forest_fields (formula_at (nodes c.args.table.now) c.args.list)) in
    c.with_base.ensures.rule fs (subst (λ (ns : List ℕ). AreFields c.args.table.now ns fs) (sym c.as_slice.ensures.value) c.in_ok-fields.ensures)
