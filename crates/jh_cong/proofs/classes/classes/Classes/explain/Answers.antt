use Rattle.std.specs.Prelude.{IfNone, IfOk, IfSome}
use Rattle.std.proofs.Common.{sym, subst}
use Rattle.jh_arena.specs.table.Nodes.{nodes}
use Rattle.jh_cong.specs.classes.Saying.{Asserted, CanBeSaid, Entails, picked}
use Rattle.jh_cong.proofs.classes.Answering.{entails-same, listed-entails}
use Rattle.jh_cong.proofs.classes.Oks.{if-found, if-none}
use Rattle.jh_cong.proofs.classes.classes.Classes.explain.Goals as goal

pub returns-clause-some : goal.returns-clause-some
returns-clause-some c =
    let st = c.self.inside.state in
    let can = subst (λ (t : Asserted). CanBeSaid (nodes t.table) c.args.left c.args.right) (sym c.self.view_is) c.requires in
    subst (λ (t : Asserted). IfOk c.explain.result (λ found. IfSome found (λ listed. Entails (nodes t.table) (picked t.said listed.items) c.args.left c.args.right))) c.self.view_is
    (if-found c.explain.result (λ listed f. listed-entails st c.self.invariant.told listed.items c.args.left c.args.right can f) c.explain.ensures.some)

pub returns-clause-none : goal.returns-clause-none
returns-clause-none c =
    let st = c.self.inside.state in
    let can = subst (λ (t : Asserted). CanBeSaid (nodes t.table) c.args.left c.args.right) (sym c.self.view_is) c.requires in
    subst (λ (t : Asserted). IfOk c.explain.result (λ found. IfNone found (Entails (nodes t.table) t.said c.args.left c.args.right → ⊥))) c.self.view_is
    (if-none c.explain.result (λ none. entails-same st c.self.invariant c.args.left c.args.right can none) c.explain.ensures.none)
