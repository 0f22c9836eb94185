use Rattle.std.proofs.Common.{◌≡◌, drop, length}
use Rattle.jh_form.specs.Bare.{list_tree}
use Rattle.jh_boxed_operations.specs.comparison.Compared.{related_fields}
use Rattle.jh_boxed_operations.proofs.comparison.comparing.+related.Given as goal

abbrev pub invariant-related_fields-loop-place : goal.invariant-related_fields-loop-place
invariant-related_fields-loop-place g l = record {
  lengths : length l.left ≡ length l.right;
  rest : related_fields (list_tree l.left) (g.E.Exchange.labels l.exchange) (g.E.Exchange.pairs l.exchange) (list_tree l.right) ≡ related_fields (list_tree (drop l.place l.left)) (g.E.Exchange.labels l.exchange) (g.E.Exchange.pairs l.exchange) (list_tree (drop l.place l.right));
}
