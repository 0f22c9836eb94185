use Rattle.std.specs.Prelude.{IfSome}
use Rattle.std.specs.declared.alloc.Global.{Global}
use Rattle.std.specs.declared.vec.Vec.{Vec}
use Rattle.std.proofs.Common.{◌++◌, refl, sym, ap, subst, ◌∙◌, ℕ, List, Option, length}
use Rattle.jh_arena.specs.table.Nodes.{nodes}
use Rattle.jh_cong.specs.classes.Saying.{IsUnmet, picked}
use Rattle.jh_cong.proofs.classes.Keeping.{state-back}
use Rattle.jh_cong.proofs.classes.Oks.{one-conflict}
use Rattle.jh_cong.proofs.classes.telling.add.Goals as goal

pub returns-in-Ok-Some-clause-conflict : goal.returns-in-Ok-Some-clause-conflict
returns-in-Ok-Some-clause-conflict c listed e =
    let ts = nodes c.args.state.now.table in
    let all = c.args.state.now.said.items ++ c.args.said.now in
    let found = subst (λ (o : Option (Vec ℕ Global)). IfSome o (λ ks. IsUnmet ts (picked all ks.items))) c.in-Ok-Some.field-0-is c.in-Ok-Some.ensures.unmet in
    subst (λ (ks : List ℕ). IsUnmet ts (picked all ks)) (sym c.of.ensures ∙ one-conflict _ c.of.result listed refl e) found

pub returns-in-Ok-Some-clause-state : goal.returns-in-Ok-Some-clause-state
returns-in-Ok-Some-clause-state c =
    state-back c.args.state.now c.settle.new.state _ _ (ap length c.as_slice-count.ensures.value) c.requires.state c.settle.ensures.continues c.cut.ensures.table c.cut.ensures.apart c.cut.ensures.said c.cut.ensures.closure c.cut.ensures.denied c.cut.ensures.enough

pub returns-in-Err-clause-state : goal.returns-in-Err-clause-state
returns-in-Err-clause-state c =
    state-back c.args.state.now c.settle.new.state _ _ (ap length c.as_slice-count.ensures.value) c.requires.state c.settle.ensures.continues c.cut-in-Err.ensures.table c.cut-in-Err.ensures.apart c.cut-in-Err.ensures.said c.cut-in-Err.ensures.closure c.cut-in-Err.ensures.denied c.cut-in-Err.ensures.enough
