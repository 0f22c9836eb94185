use Rattle.std.proofs.Common.{◌≡◌, ◌∙◌, ap, Some, slice_get, is_some}
use Rattle.std.proofs.lemmas.Result.{IfOk-weaker}
use Rattle.jh_form.specs.Tree.{of_truth}
use Rattle.jh_substitution.specs.rewriting.Rewritten.{leaves_alone, rewritten_value}
use Rattle.jh_boxed_operations.specs.substitution.Substituted.{substituting, substituted}
use Rattle.jh_arena.specs.table.Entries.{the_name, the_truth, the_value}
use Rattle.jh_arena.specs.table.Nodes.{nodes, fits_in, tree_in}
use Rattle.jh_arena.proofs.table.Listed.{extends-refl}
use Rattle.jh_substitution.specs.rewriting.Leaf.{free_shape}
use Rattle.jh_substitution.proofs.rewriting.Makings.{still}
use Rattle.jh_substitution.proofs.rewriting.Sorted.{truth-within}
use Rattle.jh_substitution.proofs.rewriting.SubstitutionRules.{free-fits}
use Rattle.jh_substitution.proofs.rewriting.Substituted.{made-ready, made-substituted}
use Rattle.jh_substitution.proofs.rewriting.substituting.exchanged.Goals as goal

pub make-requires : goal.make-requires
make-requires c =
    ap (fits_in c.args.table.now) c.free_name.ensures ∙ free-fits c.args.table.now.pools (nodes c.args.table.now) c.args.number c.args.sort (ap is_some c.requires.named)

pub walked-requires-clause-inside : goal.walked-requires-clause-inside
walked-requires-clause-inside c =
    still (nodes c.args.table.now) (nodes c.make.new.self) c.args.formula c.make.ensures.grows.nodes (truth-within (nodes c.args.table.now) c.args.formula c.requires.formula)

pub walked-requires-clause-ready : goal.walked-requires-clause-ready
walked-requires-clause-ready c =
    made-ready c.args.table.now c.args.table.now c.make.new.self c.args.number c.in_ok-leaf.leaf c.args.value c.args._name.now (extends-refl c.args.table.now) c.make.ensures.grows c.make.ensures.pools c.requires.named c.requires.value
    (c.in_ok-leaf.ensures.node ∙ ap (λ x. Some (tree_in c.args.table.now x)) (c.free_name.ensures ∙ ap (free_shape c.args.number) c.requires.sort))

pub returns-clause-tree : goal.returns-clause-tree
returns-clause-tree c =
    IfOk-weaker
    c.walked.result
    (λ made. slice_get (nodes c.walked.new.table) made ≡ Some (rewritten_value (the_value (slice_get (nodes c.make.new.self) c.args.formula)) (leaves_alone (substituting (the_name (slice_get c.make.new.self.pools.names c.args.number)) (the_value (slice_get (nodes c.make.new.self) c.args.value)))) 0))
    (λ made. slice_get (nodes c.walked.new.table) made ≡ Some (of_truth (substituted (the_truth (slice_get (nodes c.args.table.now) c.args.formula)) c.args._name.now (the_value (slice_get (nodes c.args.table.now) c.args.value)))))
    (λ made e. made-substituted c.args.table.now c.make.new.self c.walked.new.table c.args.number c.args.value c.args.formula made c.args._name.now c.make.ensures.grows (ap (λ p. slice_get p.names c.args.number) c.make.ensures.pools ∙ c.requires.named) c.requires.value c.requires.formula e)
    c.walked.ensures.tree
