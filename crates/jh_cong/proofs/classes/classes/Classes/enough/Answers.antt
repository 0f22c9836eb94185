use Rattle.std.proofs.Common.{◌≤◌, subst, ℕ, length, take}
use Rattle.jh_arena.specs.table.Nodes.{nodes}
use Rattle.jh_cong.specs.classes.Saying.{Asserted, CanBeSaid, Entails}
use Rattle.jh_cong.proofs.classes.Answering.{enough-entails}
use Rattle.jh_cong.proofs.classes.classes.Classes.enough.Goals as goal

pub returns-clause-inside : goal.returns-clause-inside
returns-clause-inside c = subst (λ (t : Asserted). c.self.inside.state.enough ≤ length t.said) c.self.view_is c.self.invariant.told.inside

pub returns-clause-enough : goal.returns-clause-enough
returns-clause-enough c =
    let st = c.self.inside.state in
    subst (λ (t : Asserted). (a b : ℕ) → CanBeSaid (nodes t.table) a b → Entails (nodes t.table) t.said a b → Entails (nodes t.table) (take st.enough t.said) a b) c.self.view_is (enough-entails st c.self.invariant)
