use Rattle.std.proofs.Common.{◌≡◌, ◌∙◌, ap, ℕ, List, Some, drop, slice_get, arith}
use Rattle.std.proofs.lemmas.Result.{IfOk-weaker}
use Rattle.jh_form.specs.Meaning.{Interp, datum}
use Rattle.jh_boxed.specs.Mapped.{mapped_value}
use Rattle.jh_arena.specs.table.Entries.{the_value}
use Rattle.jh_arena.specs.table.Nodes.{nodes}
use Rattle.jh_substitution.specs.rewriting.Rewritten.{leaves_alone, rewritten_value}
use Rattle.jh_substitution.specs.rewriting.Walks.{KeepsMeaning}
use Rattle.jh_substitution.proofs.rewriting.Wholes.{value-alone}
use Rattle.jh_substitution.specs.simultaneous.Lifted.{lifting}
use Rattle.jh_substitution.proofs.simultaneous.Liftings.{removed, lifting-keeps, lifting-wholes}
use Rattle.jh_substitution.proofs.simultaneous.lifting.lift.Goals as goal

pub returns-clause-tree : goal.returns-clause-tree
returns-clause-tree c =
    IfOk-weaker
    c.walked.result
    (λ made. slice_get (nodes c.walked.new.table) made ≡ Some (rewritten_value (the_value (slice_get (nodes c.args.table.now) c.args.node)) (leaves_alone (lifting c.args.by)) 0))
    (λ made. slice_get (nodes c.walked.new.table) made ≡ Some (mapped_value (the_value (slice_get (nodes c.args.table.now) c.args.node)) (lifting c.args.by) 0))
    (λ made e. e ∙ ap (λ v. Some v) (value-alone (lifting c.args.by) (the_value (slice_get (nodes c.args.table.now) c.args.node)) 0))
    c.walked.ensures.tree

pub returns-clause-meaning : goal.returns-clause-meaning
returns-clause-meaning c =
    IfOk-weaker
    c.walked.result
    (λ made. KeepsMeaning (leaves_alone (lifting c.args.by)) 0 (slice_get (nodes c.args.table.now) c.args.node) (slice_get (nodes c.walked.new.table) made))
    (λ made. (m : Interp) (env : List ℕ) → datum (the_value (slice_get (nodes c.walked.new.table) made)) m env ≡ datum (the_value (slice_get (nodes c.args.table.now) c.args.node)) m (drop c.args.by env))
    (λ made h m env. h m m (removed c.args.by) (lifting-keeps c.args.by m) (lifting-wholes c.args.by m) env (omega arith))
    c.walked.ensures.meaning
