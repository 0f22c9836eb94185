use Rattle.std.specs.Prelude.{IfOk}
use Rattle.std.proofs.Common.{◌≡◌, sym, subst, ℕ, Some, slice_get, inl, inr}
use Rattle.jh_closure.specs.congruence_closure.Nodes.{Has}
use Rattle.jh_closure.specs.declared.congruence_closure.equation.Equation.{Equation}
use Rattle.jh_closure.proofs.congruence_closure.Having.{has-at}
use Rattle.jh_arena.specs.table.Nodes.{nodes}
use Rattle.jh_cong.specs.classes.Saying.{Asserted, CanBeSaid, Entails}
use Rattle.jh_cong.proofs.classes.Answering.{entails-same, inside-left, same-entails}
use Rattle.jh_cong.proofs.classes.Looking.{has-or-not}
use Rattle.jh_cong.proofs.classes.Oks.{if-ok}
use Rattle.jh_cong.proofs.classes.classes.Classes.following.Goals as goal

pub following-requires-clause-left : goal.following-requires-clause-left
following-requires-clause-left c e h =
    let can = subst (λ (t : Asserted). CanBeSaid (nodes t.table) e.left e.right) (sym c.self.view_is) (c.requires e h) in
    inside-left c.self.inside.state c.self.invariant.told e.left can.left

pub following-requires-clause-right : goal.following-requires-clause-right
following-requires-clause-right c e h =
    let can = subst (λ (t : Asserted). CanBeSaid (nodes t.table) e.left e.right) (sym c.self.view_is) (c.requires e h) in
    inside-left c.self.inside.state c.self.invariant.told e.right can.right

pub returns-clause-all : goal.returns-clause-all
returns-clause-all c =
    let st = c.self.inside.state in
    let asked = c.args.asked.now in
    subst (λ (t : Asserted). IfOk c.following.result (λ listed. (i : ℕ) (e : Equation) → slice_get asked i ≡ Some e → Entails (nodes t.table) t.said e.left e.right → Has listed.items i)) c.self.view_is
    (if-ok c.following.result (λ listed all i e h entails. elim (has-or-not listed.items i) [
      | inl is ↦ is
      | inr never ↦ absurd (entails-same st c.self.invariant e.left e.right (subst (λ (t : Asserted). CanBeSaid (nodes t.table) e.left e.right) (sym c.self.view_is) (c.requires e (has-at asked i e h))) (λ f. never (all i e h f)) entails)
    ]) c.following.ensures.all)

pub returns-clause-only : goal.returns-clause-only
returns-clause-only c =
    let st = c.self.inside.state in
    let asked = c.args.asked.now in
    subst (λ (t : Asserted). IfOk c.following.result (λ listed. (i : ℕ) (e : Equation) → Has listed.items i → slice_get asked i ≡ Some e → Entails (nodes t.table) t.said e.left e.right)) c.self.view_is
    (if-ok c.following.result (λ listed only i e h w. same-entails st c.self.invariant.told e.left e.right (subst (λ (t : Asserted). CanBeSaid (nodes t.table) e.left e.right) (sym c.self.view_is) (c.requires e (has-at asked i e w))) (only i e h w)) c.following.ensures.only)
