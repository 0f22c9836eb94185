use Rattle.std.proofs.Common.{◌≡◌, ◌-◌, ◌^◌, ◌+◌, ◌≤◌, min, max, drop}
use Rattle.jh_form.specs.Bare.{list_tree}
use Rattle.jh_boxed.specs.Sizes.{fields_size, fields_depth}
use Rattle.jh_boxed.proofs.extent.+extent.Given as goal

abbrev pub invariant-extent_fields-loop-field : goal.invariant-extent_fields-loop-field
invariant-extent_fields-loop-field l = record {
  nodes_fit : l.all.nodes ≤ 2 ^ 64 - 1;
  depth_fits : l.all.depth ≤ 2 ^ 64 - 1;
  nodes : min (fields_size (list_tree l.fields)) (2 ^ 64 - 1) ≡ min (l.all.nodes + fields_size (list_tree (drop l.field-index l.fields))) (2 ^ 64 - 1);
  depth : min (fields_depth (list_tree l.fields)) (2 ^ 64 - 1) ≡ min (max l.all.depth (fields_depth (list_tree (drop l.field-index l.fields)))) (2 ^ 64 - 1);
}
