use Rattle.std.proofs.Common.{◌≡◌, drop}
use Rattle.jh_form.specs.Bare.{list_tree}
use Rattle.jh_boxed.specs.Mapped.{mapped_fields}
use Rattle.jh_boxed.proofs.Rows.{before}
use Rattle.jh_boxed.proofs.mapping.+map.Given as goal

abbrev pub invariant-map_fields-loop-field : goal.invariant-map_fields-loop-field
invariant-map_fields-loop-field g l =
    mapped_fields (list_tree l.fields) (g.L.Leaves.leaves l.leaves) l.depth ≡
    before l.made.items (mapped_fields (list_tree (drop l.field-index l.fields)) (g.L.Leaves.leaves l.leaves) l.depth)
