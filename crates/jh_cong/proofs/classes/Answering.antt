-- What the closure of a state says, of literals.
use Rattle.std.proofs.Common.{◌≡◌, refl, sym, ap, subst, ◌∙◌, ℕ, ◌<◌, Bool, true, false, List, [], ◌∷◌, ◌++◌, length, map, take, slice_get, Some, arith}
use Rattle.std.proofs.lemmas.List.{take-map}
use Rattle.jh_closure.specs.congruence_closure.Nodes.{Follows, FollowsFrom, Has}
use Rattle.jh_closure.specs.declared.congruence_closure.equation.Equation.{Equation}
use Rattle.jh_closure.specs.declared.congruence_closure.node.Node.{Node}
use Rattle.jh_closure.proofs.congruence_closure.Having.{has-at}
use Rattle.jh_arena.specs.table.Nodes.{nodes}
use Rattle.jh_form.specs.Tree.{ValueTree}
use Rattle.jh_cong.specs.flattening.Flattening.{Flattens}
use Rattle.jh_cong.proofs.flattening.Lifting.{some_structure}
use Rattle.jh_cong.specs.classes.Constants.{ArePair, ArePairs}
use Rattle.jh_cong.specs.classes.Saying.{CanBeSaid, Entails, IsUnmet, picked, tree_at}
use Rattle.jh_cong.specs.classes.States.{AreSeparate, IsState, IsTold, told}
use Rattle.jh_cong.specs.declared.classes.literal.Said.{Said}
use Rattle.jh_cong.specs.declared.classes.state.State.{State}
use Rattle.jh_cong.proofs.classes.Keeping.{enough-all, has-taken, told-long}
use Rattle.jh_cong.proofs.classes.Meeting.{apart-values, entails-follows, follows-entails, from-entails, is-met, unless-follows, unmet-apart, unmet-denied, value-here}

-- what the closure was told
abbrev told-list : State → List Equation
told-list st = map told st.said.items

-- where it isn't false
pub true-unless : (b : Bool) → (b ≡ false → ⊥) → b ≡ true
true-unless true h = refl
true-unless false h = absurd (h refl)

-- at the start no two nodes that are apart are equal
pub begin-separate : (ts : List ValueTree) (ns : List Node) (pairs : List Equation) → Flattens ts ns → ArePairs ts pairs → AreSeparate ns [] pairs
begin-separate ts ns pairs fl pr e h f =
    let p = pr.each e h in
    let l = fl.lowers some_structure in
    let same : l.1 e.left ≡ l.1 e.right = f l.0 l.1 l.2 (λ q w. absurd w) in
    apart-values some_structure (tree_at ts e.left) (tree_at ts e.right) p.apart (value-here ts some_structure l.1 l.3 e.left p.left_inside ∙ (same ∙ sym (value-here ts some_structure l.1 l.3 e.right p.right_inside)))

pub begin-state : (st : State) → ArePairs (nodes st.table) st.apart.items → Flattens (nodes st.table) st.closure.nodes → st.closure.said ≡ [] → st.said.items ≡ [] → st.enough ≡ 0 → IsState st
begin-state st pr fl eqs said enough = record {
  told = record {
    flattens = fl;
    told_all = eqs ∙ ap (λ (es : List Said). map told es) (sym said);
    pairs = pr;
    sayable = λ e h. absurd (subst (λ (es : List Said). Has es e) said h);
    denied = λ k e here off. absurd (subst (λ (es : List Said). Has es e) said (has-at st.said.items k e here));
    inside = omega (arith, enough);
    enough = enough-all st.closure.nodes st.closure.said st.enough (enough ∙ sym (ap length eqs));
  };
  separate = λ e h f. begin-separate (nodes st.table) st.closure.nodes st.apart.items fl pr e h (subst (λ (es : List Equation). Follows st.closure.nodes es e.left e.right) eqs f);
  differ = λ e h off f. subst (λ (es : List Said). Has es e) said h;
}

module _ (st : State) (h : IsTold st) where
  -- the closure's nodes are there
  pub inside-left : (a : ℕ) → a < length (nodes st.table) → a < length st.closure.nodes
  inside-left a l = let m = h.flattens.count in omega (arith, l, m)

  moved : (a b : ℕ) → Follows st.closure.nodes st.closure.said a b → Follows st.closure.nodes (told-list st) a b
  moved a b f = subst (λ (es : List Equation). Follows st.closure.nodes es a b) h.told_all f

  moved-from : (listed : List ℕ) (a b : ℕ) → FollowsFrom st.closure.nodes st.closure.said listed a b → FollowsFrom st.closure.nodes (told-list st) listed a b
  moved-from listed a b f = subst (λ (es : List Equation). FollowsFrom st.closure.nodes es listed a b) h.told_all f

  pub same-entails : (a b : ℕ) → CanBeSaid (nodes st.table) a b → Follows st.closure.nodes st.closure.said a b → Entails (nodes st.table) st.said.items a b
  same-entails a b can f = follows-entails (nodes st.table) st.closure.nodes h.flattens st.said.items h.sayable a b can (moved a b f)

  pub listed-entails : (listed : List ℕ) (a b : ℕ) → CanBeSaid (nodes st.table) a b → FollowsFrom st.closure.nodes st.closure.said listed a b → Entails (nodes st.table) (picked st.said.items listed) a b
  listed-entails listed a b can f = from-entails (nodes st.table) st.closure.nodes h.flattens st.said.items h.sayable listed a b can (moved-from listed a b f)

  pub apart-unmet : (listed : List ℕ) (e : Equation) → ArePair (nodes st.table) e → FollowsFrom st.closure.nodes st.closure.said listed e.left e.right → IsUnmet (nodes st.table) (picked st.said.items listed)
  apart-unmet listed e p f = unmet-apart (nodes st.table) st.closure.nodes h.flattens st.said.items h.sayable listed e p (moved-from listed e.left e.right f)

  pub denied-unmet : (listed : List ℕ) (k : ℕ) (e : Said) → slice_get st.said.items k ≡ Some e → e.holds ≡ false → FollowsFrom st.closure.nodes st.closure.said listed e.left e.right → IsUnmet (nodes st.table) (picked st.said.items (listed ++ k ∷ []))
  denied-unmet listed k e here off f = unmet-denied (nodes st.table) st.closure.nodes h.flattens st.said.items h.sayable listed k e here off (moved-from listed e.left e.right f)

  -- numbers of equations are numbers of literals
  pub number-inside : (i : ℕ) → i < length st.closure.said → i < length st.said.items
  number-inside i l = let e = told-long st h in omega (arith, l, e)

module _ (st : State) (h : IsState st) where
  not-moved : (a b : ℕ) → (Follows st.closure.nodes st.closure.said a b → ⊥) → Follows st.closure.nodes (told-list st) a b → ⊥
  not-moved a b none f = none (subst (λ (es : List Equation). Follows st.closure.nodes es a b) (sym h.told.told_all) f)

  separate-told : AreSeparate st.closure.nodes (told-list st) st.apart.items
  separate-told e w = not-moved e.left e.right (h.separate e w)

  pub entails-same : (a b : ℕ) → CanBeSaid (nodes st.table) a b → (Follows st.closure.nodes st.closure.said a b → ⊥) → Entails (nodes st.table) st.said.items a b → ⊥
  entails-same a b can none entails =
      entails-follows (nodes st.table) st.closure.nodes h.told.flattens st.said.items h.told.sayable st.apart.items h.told.pairs separate-told (λ e w off. not-moved e.left e.right (h.differ e w off)) a b can (not-moved a b none) entails

  -- some structure meets the literals
  pub state-met : IsUnmet (nodes st.table) st.said.items → ⊥
  state-met unmet = is-met (nodes st.table) st.closure.nodes h.told.flattens st.said.items h.told.sayable st.apart.items h.told.pairs separate-told (λ e w off. not-moved e.left e.right (h.differ e w off)) unmet

  -- what follows follows from as many literals as are enough
  pub enough-entails : (a b : ℕ) → CanBeSaid (nodes st.table) a b → Entails (nodes st.table) st.said.items a b → Entails (nodes st.table) (take st.enough st.said.items) a b
  enough-entails a b can entails =
      unless-follows (nodes st.table) st.closure.nodes h.told.flattens (take st.enough st.said.items) (λ e w. h.told.sayable e (has-taken st.enough st.said.items e w)) a b can (λ none.
      entails-same a b can (λ f. none (subst (λ (es : List Equation). Follows st.closure.nodes es a b) (ap (take st.enough) h.told.told_all ∙ take-map told st.enough st.said.items) (h.told.enough a b f))) entails)
