use Rattle.std.specs.Prelude.{IfSome}
use Rattle.std.specs.declared.alloc.Global.{Global}
use Rattle.std.specs.declared.vec.Vec.{Vec}
use Rattle.std.proofs.Common.{◌<◌, sym, subst, ℕ, List, Option, length, inl, inr}
use Rattle.std.proofs.lemmas.Option.{slice_get_within}
use Rattle.jh_closure.specs.congruence_closure.Nodes.{FollowsFrom, Has}
use Rattle.jh_closure.proofs.congruence_closure.Having.{has-at, has-pushed}
use Rattle.jh_arena.specs.table.Nodes.{nodes}
use Rattle.jh_cong.specs.classes.Saying.{IsUnmet, picked}
use Rattle.jh_cong.proofs.classes.Answering.{denied-unmet, inside-left, number-inside}
use Rattle.jh_cong.proofs.classes.clashing.broken_reason.Goals as goal

pub explain-requires-clause-left : goal.explain-requires-clause-left
explain-requires-clause-left c = inside-left c.args.state.now c.requires.told c.args.said.left (c.requires.told.sayable c.args.said (has-at c.args.state.now.said.items c.args.number c.args.said c.requires.here)).left

pub explain-requires-clause-right : goal.explain-requires-clause-right
explain-requires-clause-right c = inside-left c.args.state.now c.requires.told c.args.said.right (c.requires.told.sayable c.args.said (has-at c.args.state.now.said.items c.args.number c.args.said c.requires.here)).right

pub returns-in_ok-push-in-Some-clause-some : goal.returns-in_ok-push-in-Some-clause-some
returns-in_ok-push-in-Some-clause-some c =
    let st = c.args.state.now in
    let found = subst (λ (o : Option (Vec ℕ Global)). IfSome o (λ listed. FollowsFrom st.closure.nodes st.closure.said listed.items c.args.said.left c.args.said.right)) c.in-Some.is c.in_ok-listed.ensures.some in
    subst (λ (ks : List ℕ). IsUnmet (nodes st.table) (picked st.said.items ks)) (sym c.in_ok-push-in-Some.ensures.items) (denied-unmet st c.requires.told c.in-Some.listed.items c.args.number c.args.said c.requires.here c.requires.denied found)

pub returns-in_ok-push-in-Some-clause-numbers : goal.returns-in_ok-push-in-Some-clause-numbers
returns-in_ok-push-in-Some-clause-numbers c i h =
    let st = c.args.state.now in
    let found = subst (λ (o : Option (Vec ℕ Global)). IfSome o (λ listed. (k : ℕ) → Has listed.items k → k < length st.closure.said)) c.in-Some.is c.in_ok-listed.ensures.numbers in
    elim (has-pushed c.in-Some.listed.items c.args.number i (subst (λ (ks : List ℕ). Has ks i) c.in_ok-push-in-Some.ensures.items h)) [
      | inl old ↦ number-inside st c.requires.told i (found i old)
      | inr same ↦ subst (λ k. k < length st.said.items) same (slice_get_within st.said.items c.args.number c.args.said c.requires.here)
    ]
