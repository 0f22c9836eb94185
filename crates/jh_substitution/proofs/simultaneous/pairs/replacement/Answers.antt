use Rattle.std.proofs.Common.{◌∙◌, ap, Some, is_some}
use Rattle.jh_arena.specs.table.Nodes.{nodes, fits_in, tree_in}
use Rattle.jh_substitution.specs.rewriting.Leaf.{free_shape}
use Rattle.jh_substitution.proofs.rewriting.SubstitutionRules.{free-fits}
use Rattle.jh_substitution.proofs.rewriting.Substituted.{made-ready}
use Rattle.jh_substitution.proofs.simultaneous.pairs.replacement.Goals as goal

pub make-requires : goal.make-requires
make-requires c =
    ap (fits_in c.name.new.self) c.free_name.ensures ∙ free-fits c.name.new.self.pools (nodes c.name.new.self) c.in_ok-number.number c.sort-sort.result (ap is_some c.in_ok-number.ensures.number)

pub returns-clause-ready : goal.returns-clause-ready
returns-clause-ready c =
    made-ready c.args.table.now c.name.new.self c.make.new.self c.in_ok-number.number c.in_ok-leaf.leaf c.args.value c.args.name.now c.in_ok-number.ensures.grows c.in_ok-leaf.ensures.grows c.in_ok-leaf.ensures.pools c.in_ok-number.ensures.number c.requires.value
    (c.in_ok-leaf.ensures.node ∙ ap (λ x. Some (tree_in c.name.new.self x)) (c.free_name.ensures ∙ ap (free_shape c.in_ok-number.number) c.sort-sort.ensures))
