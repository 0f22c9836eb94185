use Rattle.std.proofs.Common.{◌≡◌, ap, ◌∙◌, Some, slice_get}
use Rattle.std.proofs.lemmas.Result.{IfOk-weaker}
use Rattle.jh_form.specs.Tree.{of_truth}
use Rattle.jh_arena.specs.table.Entries.{the_truth}
use Rattle.jh_arena.specs.table.Nodes.{nodes}
use Rattle.jh_fca.specs.elimination.Constraints.{Constraint}
use Rattle.jh_fca.specs.elimination.Exchanged.{eliminated}
use Rattle.jh_field_constraints.specs.Memos.{found}
use Rattle.jh_field_constraints.specs.Standing.{IsConstraint, IsFormula}
use Rattle.jh_field_constraints.specs.Walking.{IsEliminated}
use Rattle.jh_field_constraints.proofs.Arms.{eliminated-at, holds-none}
use Rattle.jh_field_constraints.proofs.Standings.{truth-inside}
use Rattle.jh_field_constraints.proofs.formulas.eliminated.Goals as goal

pub is_shallow-requires : goal.is_shallow-requires
is_shallow-requires c = truth-inside (nodes c.args.table.now) c.args.formula c.requires.formula.there

pub walked-requires-clause-memo : goal.walked-requires-clause-memo
walked-requires-clause-memo c = λ d k. holds-none d (nodes c.args.table.now) (found c.new-memo.result.answers) c.new-memo.ensures

pub returns-clause-node : goal.returns-clause-node
returns-clause-node c =
    IfOk-weaker
    c.walked.result
    (λ made. (d : Constraint) → IsConstraint c.args.table.now c.args.of d → IsEliminated d (nodes c.walked.new.table) c.args.formula c.args.positive made)
    (λ made. (d : Constraint) → IsConstraint c.args.table.now c.args.of d → IsFormula c.walked.new.table made (eliminated d (the_truth (slice_get (nodes c.args.table.now) c.args.formula)) c.args.positive))
    (λ made h d k. eliminated-at d c.args.table.now c.walked.new.table c.args.formula made c.args.positive c.walked.ensures.grows c.requires.formula.there (h d k))
    c.walked.ensures.node
