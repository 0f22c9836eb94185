use Rattle.std.proofs.Common.{◌≡◌, sym, ap, ◌∙◌, subst, ◌<◌, Bool, false, List, Some, length, slice_get, arith}
use Rattle.jh_arena.specs.table.Nodes.{nodes}
use Rattle.jh_explanations.proofs.Follows.{told-before}
use Rattle.jh_explanations.proofs.Gathered.{unmarked-explained}
use Rattle.jh_explanations.proofs.marking.mark_before.Goals as goal

pub is_marked-requires : goal.is_marked-requires
is_marked-requires c = subst (λ (xs : List Bool). c.args.place < length xs) (sym c.as_slice.ensures.value) (omega (arith, c.requires.inside, c.requires.explained.long))

pub returns-else-is_marked-clause-told : goal.returns-else-is_marked-clause-told
returns-else-is_marked-clause-told c = told-before (nodes c.args.problem.now.table) c.args.problem.now c.args.trail.now (nodes c.args.classes.now.table) c.args.reasons.now c.args.classes.now.said c.args.place c.requires.told

pub returns-else-is_marked-clause-explained : goal.returns-else-is_marked-clause-explained
returns-else-is_marked-clause-explained c = unmarked-explained (nodes c.args.problem.now.table) c.args.problem.now c.args.trail.now c.args.reasons.now c.args.marks.now.items c.args.place c.requires.explained
    (subst (λ (xs : List Bool). slice_get xs c.args.place ≡ Some false) c.as_slice.ensures.value (c.is_marked.ensures ∙ ap Some c.if-is_marked.false))
