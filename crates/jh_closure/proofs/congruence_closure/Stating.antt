-- A state from what its parts are.
use Rattle.std.proofs.Common.{◌≡◌, sym, subst, ◌∙◌, ap, ℕ, ◌+◌, List, [], ◌∷◌, ◌++◌, length, slice_get, Some, Result, Ok, Err, OnOk, OnErr}
use Rattle.jh_closure.specs.declared.union_find.merge.Merge.{Merge}
use Rattle.jh_closure.proofs.union_find.Stamping.{longer}
use Rattle.jh_closure.specs.declared.congruence_closure.equation.Equation.{Equation}
use Rattle.jh_closure.specs.declared.congruence_closure.levels.Mark.{Mark}
use Rattle.jh_closure.specs.declared.congruence_closure.levels.State.{State}
use Rattle.jh_closure.specs.declared.congruence_closure.node.Node.{Node}
use Rattle.jh_closure.specs.congruence_closure.Closing.{PartsInside}
use Rattle.jh_closure.specs.congruence_closure.Cores.{IsCore}
use Rattle.jh_closure.specs.congruence_closure.Levels.{IsSettled, IsOpen, IsState, AreLevels}
use Rattle.jh_closure.proofs.congruence_closure.Leveling.{levels-push, last-mark, mark_now}

module _ (st : State) (ns : List Node) (said : List Equation) (ms : List Merge) (es : List (Node × ℕ)) (marks : List Mark)
    (en : st.nodes.items ≡ ns) (ed : st.said.items ≡ said) (em : st.core.forest.merges ≡ ms) (ee : st.core.table.nodes.entries ≡ es) (ek : st.marks.items ≡ marks)
    (parts : PartsInside (length ns) ns) (core : IsCore ns st.core) (levels : AreLevels ns said ms es marks) where
  pub open-of : IsOpen st
  open-of = record {
    parts = subst (λ (z : List Node). PartsInside (length z) z) (sym en) parts;
    core = subst (λ (z : List Node). IsCore z st.core) (sym en) core;
    levels = subst (λ z. z) (sym (λ i. AreLevels (en i) (ed i) (em i) (ee i) (ek i))) levels;
  }

  pub state-of : length marks ≡ length said + 1 → ((k : Mark) → slice_get marks (length said) ≡ Some k → k.merges ≡ length ms) → ((k : Mark) → slice_get marks (length said) ≡ Some k → k.entries ≡ length es) → IsState st
  state-of count last lasts = record {
    opened = open-of;
    count = ap length ek ∙ (count ∙ ap (λ (z : List Equation). length z + 1) (sym ed));
    merges = λ k h. last k (subst (λ z. z) (λ i. slice_get (ek i) (length (ed i)) ≡ Some k) h) ∙ ap length (sym em);
    entries = λ k h. lasts k (subst (λ z. z) (λ i. slice_get (ek i) (length (ed i)) ≡ Some k) h) ∙ ap length (sym ee);
  }

-- a state whose last mark was just added
pub state-marked : (st : State) (ns : List Node) (said : List Equation) (ms : List Merge) (es : List (Node × ℕ)) (marks : List Mark) →
    st.nodes.items ≡ ns → st.said.items ≡ said → st.core.forest.merges ≡ ms → st.core.table.nodes.entries ≡ es → st.marks.items ≡ marks ++ mark_now ms es ∷ [] →
    PartsInside (length ns) ns → IsCore ns st.core → AreLevels ns said ms es marks → length marks ≡ length said → IsSettled ns said ms es → IsState st
state-marked st ns said ms es marks en ed em ee ek parts core levels count now =
    state-of st ns said ms es (marks ++ mark_now ms es ∷ []) en ed em ee ek parts core (levels-push ns said ms es marks levels count now)
    (longer marks (mark_now ms es) ∙ ap (λ z. z + 1) count)
    (λ k h. ap (λ (z : Mark). z.merges) (last-mark marks said (mark_now ms es) k count h))
    (λ k h. ap (λ (z : Mark). z.entries) (last-mark marks said (mark_now ms es) k count h))

-- a mark is added, or memory is wanting for it
module _ {A E : Type 0} (st : State) (ns : List Node) (said : List Equation) (ms : List Merge) (es : List (Node × ℕ)) (marks : List Mark)
    (en : st.nodes.items ≡ ns) (ed : st.said.items ≡ said) (em : st.core.forest.merges ≡ ms) (ee : st.core.table.nodes.entries ≡ es)
    (parts : PartsInside (length ns) ns) (core : IsCore ns st.core) (levels : AreLevels ns said ms es marks) (count : length marks ≡ length said) (now : IsSettled ns said ms es) where
  pub open-after : (r : Result A E) → OnOk r (st.marks.items ≡ marks ++ mark_now ms es ∷ []) → OnErr r (st.marks.items ≡ marks) → IsOpen st
  open-after (Ok x) more same = (state-marked st ns said ms es marks en ed em ee more parts core levels count now).opened
  open-after (Err e) more same = open-of st ns said ms es marks en ed em ee same parts core levels

  pub state-after : (r : Result A E) → OnOk r (st.marks.items ≡ marks ++ mark_now ms es ∷ []) → OnOk r (IsState st)
  state-after (Ok x) more = state-marked st ns said ms es marks en ed em ee more parts core levels count now
  state-after (Err e) more = tt
