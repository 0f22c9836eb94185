use Rattle.std.proofs.Common.{◌↔◌, sym, subst, ◌∙◌, IsTrue}
use Rattle.jh_closure.specs.congruence_closure.Levels.{Asserted}
use Rattle.jh_closure.specs.congruence_closure.Nodes.{Follows}
use Rattle.jh_closure.proofs.congruence_closure.Completing.{follows-same, same-follows}
use Rattle.jh_closure.proofs.congruence_closure.Leveling.{settled-now}
use Rattle.jh_closure.proofs.congruence_closure.closure.Closure.same.Goals as goal

pub returns : goal.returns
returns c =
    let st = c.self.inside.state in
    let v = c.self.invariant in
    let h = settled-now st.nodes.items st.said.items st.core.forest.merges st.core.table.nodes.entries st.marks.items v.opened.levels v.count v.merges v.entries in
    let a = c.find.ensures.class in
    let b = c.find-2.ensures.class in
    subst (λ (t : Asserted). IsTrue c.are_one.result ↔ Follows t.nodes t.said c.args.left c.args.right) c.self.view_is (
      (λ t. same-follows st.nodes.items st.said.items st.core.forest.merges st.core.table.nodes.entries h c.args.left c.args.right (sym a ∙ (c.are_one.ensures.0 t ∙ b))),
      (λ f. c.are_one.ensures.1 (a ∙ (follows-same st.nodes.items st.said.items st.core.forest.merges st.core.table.nodes.entries h c.args.left c.args.right f ∙ sym b))),
    )
