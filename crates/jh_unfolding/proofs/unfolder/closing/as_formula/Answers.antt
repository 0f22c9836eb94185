use Rattle.std.proofs.Common.{◌∙◌, ap, refl, slice_get, Some}
use Rattle.jh_name.specs.declared.place.Sort.TheVariants as sort
use Rattle.jh_arena.specs.table.Nodes.{nodes}
use Rattle.jh_definitions.proofs.of_jh_resolution.Coercions.{sort-kept, sort-else}
use Rattle.jh_unfolding.proofs.unfolder.Addings.{if-ok}
use Rattle.jh_unfolding.proofs.unfolder.closing.as_formula.Goals as goal

pub returns-then-is_formula-clause-node : goal.returns-then-is_formula-clause-node
returns-then-is_formula-clause-node c = sort-kept (nodes c.args.table.now) c.args.node sort.Bool _ c.is_formula.result c.requires refl c.is_formula.ensures c.if-is_formula.true

pub returns-else-is_formula-clause-node : goal.returns-else-is_formula-clause-node
returns-else-is_formula-clause-node c = if-ok c.truth.result (λ made q. q ∙ ap Some (sort-else (slice_get (nodes c.args.table.now) c.args.node) sort.Bool _ c.is_formula.result refl c.is_formula.ensures c.if-is_formula.false)) c.truth.ensures.node
