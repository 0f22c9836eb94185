use Rattle.std.proofs.Common.{◌≡◌, sym, ◌<◌, length, slice_get, Some, subst, List}
use Rattle.std.proofs.lemmas.Result.{IfOk-weaker}
use Rattle.jh_form.specs.Tree.{ValueTree, of_truth}
use Rattle.jh_arena.specs.table.Entries.{the_name, the_truth, the_value}
use Rattle.jh_arena.specs.table.Nodes.{nodes}
use Rattle.jh_substitution.specs.rewriting.Rewritten.{leaves_alone, rewritten_value}
use Rattle.jh_substitution.proofs.rewriting.Sorted.{truth-within}
use Rattle.jh_wp.specs.Renamed.{renaming, renamed}
use Rattle.jh_weakest.proofs.precondition.Renames.{nowhere-renamed, made-renamed}
use Rattle.jh_weakest.proofs.precondition.renaming.rename.Goals as goal

pub standing-requires : goal.standing-requires
standing-requires c = truth-within (nodes c.args.table.now) c.args.formula c.requires.formula

pub walked-requires-clause-inside : goal.walked-requires-clause-inside
walked-requires-clause-inside c =
    subst (λ (ts : List ValueTree). c.args.formula < length ts) (sym c.name.ensures.nodes) (truth-within (nodes c.args.table.now) c.args.formula c.requires.formula)

pub returns-in-None-clause-tree : goal.returns-in-None-clause-tree
returns-in-None-clause-tree c =
    nowhere-renamed (slice_get (nodes c.args.table.now) c.args.formula) c.args.name.now c.args.with.now c.requires.formula (c.standing.ensures.nowhere c.in-None.is)

pub returns-in_ok-with-in-Some-clause-tree : goal.returns-in_ok-with-in-Some-clause-tree
returns-in_ok-with-in-Some-clause-tree c =
    IfOk-weaker
    c.walked.result
    (λ made. slice_get (nodes c.walked.new.table) made ≡ Some (rewritten_value (the_value (slice_get (nodes c.name.new.self) c.args.formula)) (leaves_alone (renaming (the_name (slice_get c.name.new.self.pools.names c.in-Some.number)) (the_name (slice_get c.name.new.self.pools.names c.in_ok-with-in-Some.with)))) 0))
    (λ made. slice_get (nodes c.walked.new.table) made ≡ Some (of_truth (renamed (the_truth (slice_get (nodes c.args.table.now) c.args.formula)) c.args.name.now c.args.with.now)))
    (λ made e. made-renamed c.args.table.now c.name.new.self c.walked.new.table c.in-Some.number c.in_ok-with-in-Some.with c.args.formula made c.args.name.now c.args.with.now c.name.ensures.nodes
    (c.name.ensures.grows.names.keeps c.in-Some.number c.args.name.now c.in-Some.ensures.number) c.in_ok-with-in-Some.ensures.number c.requires.formula e)
    c.walked.ensures.tree
