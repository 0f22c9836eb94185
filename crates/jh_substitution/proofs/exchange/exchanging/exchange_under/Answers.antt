use Rattle.std.proofs.Common.{◌≡◌, ap, ◌∙◌, ℕ, List, Some, slice_get}
use Rattle.std.proofs.lemmas.Result.{IfOk-weaker}
use Rattle.jh_form.specs.Tree.{of_truth}
use Rattle.jh_form.specs.Meaning.{Interp, InUniverse, truth, datum}
use Rattle.jh_boxed_operations.specs.comparison.Inside.{SameIn, AreInside}
use Rattle.jh_arena.specs.table.Entries.{the_truth, the_value}
use Rattle.jh_arena.specs.table.Nodes.{nodes}
use Rattle.jh_substitution.specs.rewriting.Rewritten.{rewritten_value}
use Rattle.jh_substitution.proofs.rewriting.Sorted.{listed-truth, truth-within, within-some}
use Rattle.jh_substitution.specs.exchange.Under.{exchanging_under, exchanged_under}
use Rattle.jh_substitution.proofs.exchange.Keeping.{exchange-under-keeps}
use Rattle.jh_substitution.proofs.exchange.Rules.{exchanged-truth}
use Rattle.jh_substitution.proofs.exchange.exchanging.exchange_under.Goals as goal

pub walked-requires-clause-inside : goal.walked-requires-clause-inside
walked-requires-clause-inside c = truth-within (nodes c.args.table.now) c.args.formula c.requires.formula

pub walked-requires-clause-ready : goal.walked-requires-clause-ready
walked-requires-clause-ready c = record {
  old = within-some (nodes c.args.table.now) c.args.old c.requires.old;
  new = within-some (nodes c.args.table.now) c.args.new c.requires.new;
  sort = c.requires.sort;
}

pub returns-clause-tree : goal.returns-clause-tree
returns-clause-tree c =
    let ts = nodes c.args.table.now in
    let us = nodes c.walked.new.table in
    let old = the_value (slice_get ts c.args.old) in
    let new = the_value (slice_get ts c.args.new) in
    IfOk-weaker
    c.walked.result
    (λ made. slice_get us made ≡ Some (rewritten_value (the_value (slice_get ts c.args.formula)) (exchanging_under old new) 0))
    (λ made. slice_get us made ≡ Some (of_truth (exchanged_under (the_truth (slice_get ts c.args.formula)) old new)))
    (λ made e. e ∙ exchanged-truth old new (slice_get ts c.args.formula) c.requires.formula)
    c.walked.ensures.tree

pub returns-clause-meaning : goal.returns-clause-meaning
returns-clause-meaning c =
    let ts = nodes c.args.table.now in
    let us = nodes c.walked.new.table in
    let a = the_truth (slice_get ts c.args.formula) in
    let old = the_value (slice_get ts c.args.old) in
    let new = the_value (slice_get ts c.args.new) in
    IfOk-weaker
    c.walked.result
    (λ made. slice_get us made ≡ Some (rewritten_value (the_value (slice_get ts c.args.formula)) (exchanging_under old new) 0))
    (λ made. (m : Interp) (e : List ℕ) → InUniverse m → AreInside m.last e → SameIn m.last (datum old m e) (datum new m e) → truth (the_truth (slice_get us made)) m e ≡ truth a m e)
    (λ made q m e universe inside same.
    ap (λ b. truth b m e) (listed-truth (slice_get us made) (exchanged_under a old new) (q ∙ exchanged-truth old new (slice_get ts c.args.formula) c.requires.formula))
    ∙ exchange-under-keeps a old new m e universe inside same)
    c.walked.ensures.tree
