use Rattle.std.specs.Prelude.{IfOk, IfSome}
use Rattle.std.proofs.Common.{◌≤◌, ◌++◌, sym, subst, List, length}
use Rattle.jh_arena.specs.table.Entries.{Listing}
use Rattle.jh_arena.specs.table.Nodes.{nodes}
use Rattle.jh_cong.specs.classes.Saying.{IsUnmet, picked}
use Rattle.jh_cong.specs.classes.States.{IsLooked}
use Rattle.jh_cong.specs.declared.classes.literal.Said.{Said}
use Rattle.jh_cong.proofs.classes.Keeping.{looked-before}
use Rattle.jh_cong.proofs.classes.telling.settle.Goals as goal

pub returns-clause-unmet : goal.returns-clause-unmet
returns-clause-unmet c =
    subst (λ (t : Listing). IfOk c.reason.result (λ found. IfSome found (λ listed. IsUnmet (nodes t) (picked (c.args.state.now.said.items ++ c.args.said.now) listed.items)))) c.tell.ensures.continues.table
    (subst (λ (es : List Said). IfOk c.reason.result (λ found. IfSome found (λ listed. IsUnmet (nodes c.tell.new.state.table) (picked es listed.items)))) c.in_ok-tell.ensures.said c.reason.ensures.unmet)

pub reason-requires-clause-looked : goal.reason-requires-clause-looked
reason-requires-clause-looked c =
    subst (λ (es : List Said). c.tell.new.state.enough ≤ length es → IsLooked c.tell.new.state (length es)) (sym c.as_slice-count.ensures.value)
    (looked-before c.args.state.now c.tell.new.state c.requires.state c.in_ok-tell.ensures.told c.tell.ensures.continues)
