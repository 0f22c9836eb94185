use Rattle.std.proofs.Common.{◌↔◌, sym, subst, ◌∙◌, IsTrue}
use Rattle.std.proofs.lemmas.Bool.{true≢false}
use Rattle.jh_arena.specs.table.Nodes.{nodes}
use Rattle.jh_cong.specs.classes.Saying.{Asserted, CanBeSaid, Entails}
use Rattle.jh_cong.proofs.classes.Answering.{entails-same, same-entails, true-unless}
use Rattle.jh_cong.proofs.classes.classes.Classes.same.Goals as goal

pub returns : goal.returns
returns c =
    let st = c.self.inside.state in
    let can = subst (λ (t : Asserted). CanBeSaid (nodes t.table) c.args.left c.args.right) (sym c.self.view_is) c.requires in
    subst (λ (t : Asserted). IsTrue c.same.result ↔ Entails (nodes t.table) t.said c.args.left c.args.right) c.self.view_is (
      (λ is. same-entails st c.self.invariant.told c.args.left c.args.right can (c.same.ensures.0 is)),
      (λ entails. true-unless c.same.result (λ off. entails-same st c.self.invariant c.args.left c.args.right can (λ f. true≢false (sym (c.same.ensures.1 f) ∙ off)) entails)),
    )
