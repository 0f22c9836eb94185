use Rattle.std.proofs.Common.{◌≡◌, ◌∙◌, ℕ, List, [], Some, slice_get}
use Rattle.std.proofs.lemmas.Result.{IfOk-weaker}
use Rattle.jh_form.specs.Tree.{of_truth}
use Rattle.jh_form.specs.Meaning.{Interp, InUniverse, truth, datum}
use Rattle.jh_boxed_operations.specs.comparison.Inside.{SameIn, AreInside}
use Rattle.jh_arena.specs.table.Entries.{the_truth, the_value}
use Rattle.jh_arena.specs.table.Nodes.{nodes}
use Rattle.jh_substitution.specs.rewriting.Exchanging.{exchanging}
use Rattle.jh_substitution.specs.rewriting.Rewritten.{rewritten_value, rewritten_formula}
use Rattle.jh_substitution.proofs.rewriting.Exchanges.{exchanged-truth, exchanged-means}
use Rattle.jh_substitution.proofs.rewriting.Sorted.{truth-within, within-some}
use Rattle.jh_substitution.proofs.rewriting.exchanging.exchange.Goals as goal

pub walked-requires-clause-inside : goal.walked-requires-clause-inside
walked-requires-clause-inside c = truth-within (nodes c.args.table.now) c.args.formula c.requires.formula

pub walked-requires-clause-ready : goal.walked-requires-clause-ready
walked-requires-clause-ready c = record {
  old = within-some (nodes c.args.table.now) c.args.old c.requires.old;
  new = within-some (nodes c.args.table.now) c.args.new c.requires.new;
  sort = c.requires.sort;
  closed = c.requires.closed_old;
}

pub returns-clause-tree : goal.returns-clause-tree
returns-clause-tree c =
    IfOk-weaker
    c.walked.result
    (λ made. slice_get (nodes c.walked.new.table) made ≡ Some (rewritten_value (the_value (slice_get (nodes c.args.table.now) c.args.formula)) (exchanging (the_value (slice_get (nodes c.args.table.now) c.args.old)) (the_value (slice_get (nodes c.args.table.now) c.args.new))) 0))
    (λ made. slice_get (nodes c.walked.new.table) made ≡ Some (of_truth (rewritten_formula (the_truth (slice_get (nodes c.args.table.now) c.args.formula)) (exchanging (the_value (slice_get (nodes c.args.table.now) c.args.old)) (the_value (slice_get (nodes c.args.table.now) c.args.new))) 0)))
    (λ made e. e ∙ exchanged-truth (the_value (slice_get (nodes c.args.table.now) c.args.old)) (the_value (slice_get (nodes c.args.table.now) c.args.new)) (slice_get (nodes c.args.table.now) c.args.formula) c.requires.formula)
    c.walked.ensures.tree

pub returns-clause-meaning : goal.returns-clause-meaning
returns-clause-meaning c =
    IfOk-weaker
    c.walked.result
    (λ made. slice_get (nodes c.walked.new.table) made ≡ Some (rewritten_value (the_value (slice_get (nodes c.args.table.now) c.args.formula)) (exchanging (the_value (slice_get (nodes c.args.table.now) c.args.old)) (the_value (slice_get (nodes c.args.table.now) c.args.new))) 0))
    (λ made. (m : Interp) (e : List ℕ) → InUniverse m → AreInside m.last e → SameIn m.last (datum (the_value (slice_get (nodes c.args.table.now) c.args.old)) m []) (datum (the_value (slice_get (nodes c.args.table.now) c.args.new)) m []) → truth (the_truth (slice_get (nodes c.walked.new.table) made)) m e ≡ truth (the_truth (slice_get (nodes c.args.table.now) c.args.formula)) m e)
    (λ made e. exchanged-means (the_value (slice_get (nodes c.args.table.now) c.args.old)) (the_value (slice_get (nodes c.args.table.now) c.args.new)) (slice_get (nodes c.args.table.now) c.args.formula) (slice_get (nodes c.walked.new.table) made) c.requires.formula c.requires.closed_old c.requires.closed_new e)
    c.walked.ensures.tree
