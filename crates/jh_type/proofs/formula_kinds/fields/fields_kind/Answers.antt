use Rattle.std.proofs.Common.{subst, ◌++◌, true}
use Rattle.std.specs.List.{list_all, flat_map}
use Rattle.jh_name.specs.declared.place.Kind.TheVariants as k
use Rattle.jh_rules.specs.Faults.{each, both, needs_none}
use Rattle.jh_rules.specs.Found.{Finds}
use Rattle.jh_rules.specs.Rules.{rule_30_list}
use Rattle.jh_symbols.specs.scopes.Lookings.{declared_by}
use Rattle.jh_type.specs.formula_kinds.Parts as parts
use Rattle.jh_type.proofs.formula_kinds.Gathering.{seen-both}
use Rattle.jh_type.proofs.formula_kinds.fields.fields_kind.Goals as goal

pub returns : goal.returns
returns c =
    let j = each (parts.field_state (declared_by c.args.lookups.now) c.args.class) c.args.words.now in
    let m = needs_none (rule_30_list c.args.place c.args.words.now (flat_map (parts.states_of (declared_by c.args.lookups.now) c.args.class) c.args.words.now)) in
    subst (Finds c.instead.result) (seen-both (list_all (λ x. true)) (j.faults ++ m.faults) j.known m.known k.Bool)
    (c.instead.ensures (both (parts.seen (list_all (λ x. true)) j) m) (c.both.ensures _ _ c.fields_known-known.ensures c.listed-list.ensures))
