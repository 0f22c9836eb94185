use Rattle.std.proofs.Common.{◌≡◌, map, drop}
use Rattle.std.specs.List.{flat_map}
use Rattle.jh_ast.specs.Bare.{labelled_part}
use Rattle.jh_rules.specs.Names.{label_of}
use Rattle.jh_symbols.specs.scopes.Lookings.{scope_by}
use Rattle.jh_type.specs.method_bodies.Scoping as scoping
use Rattle.jh_type.proofs.method_bodies.specifying.add_labels.Given as goal

-- the labels of the rest are added to those that are taken in
abbrev pub invariant-loop-invariant : goal.invariant-loop-invariant
invariant-loop-invariant l = record {
  scope : scoping.labelled (scope_by l.at) (flat_map label_of (map labelled_part (drop l.invariant-index l.invariants))) ≡ scoping.labelled (scope_by l.initial.at) (flat_map label_of (map labelled_part l.invariants));
  undos : l.at.undos.items ≡ l.initial.at.undos.items;
}
