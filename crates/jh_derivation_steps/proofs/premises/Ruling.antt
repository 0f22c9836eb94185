-- Rules over nodes whose formulas are known.
use Rattle.std.proofs.Common.{◌≡◌, refl, ap, ℕ, List, [], ◌∷◌, slice_get, Some, None}
use Rattle.std.specs.Prelude.{Option}
use Rattle.jh_form.specs.Tree.{ValueTree, FormulaTree, of_truth}
use Rattle.jh_arena.specs.table.Entries.{Listing, the_truth, the_value}
use Rattle.jh_arena.specs.table.Growth.{Extends}
use Rattle.jh_arena.specs.table.Nodes.{nodes}
use Rattle.jh_derivation_rules.specs.Rules.{rule}
use Rattle.jh_derivation_steps.specs.declared.premises.nodes.Nodes.{Nodes}
use Rattle.jh_derivation_steps.specs.declared.premises.nodes.Nodes.TheVariants as n
use Rattle.jh_derivation_steps.specs.declared.premises.nodes.Adds.TheVariants as a
use Rattle.jh_derivation_steps.specs.premises.Nodes.{formula_at, value_at, formulas_at, branches_at, rule_at, option_rule, option_formula, AreFormulas, AreBranches, IsRule, IsMade, IsValue}
use Rattle.jh_derivation_steps.proofs.premises.Carried.{keeps, is-formula}

-- the nodes are these formulas
abbrev pub AreThese : List ValueTree → Nodes → List FormulaTree → Type 0
AreThese ts ns fs = (formulas_at ts ns ≡ fs) × AreFormulas ts ns

pub one-is : (ts : List ValueTree) (x : ℕ) (f : FormulaTree) → slice_get ts x ≡ Some (of_truth f) → AreThese ts (n.One x) (f ∷ [])
unfolding formulas_at AreFormulas the_truth
one-is ts x f h = (ap (λ o. the_truth o ∷ []) h, is-formula ts x f h)

pub two-are : (ts : List ValueTree) (x y : ℕ) (f g : FormulaTree) → slice_get ts x ≡ Some (of_truth f) → slice_get ts y ≡ Some (of_truth g) → AreThese ts (n.Two x y) (f ∷ g ∷ [])
unfolding formulas_at AreFormulas the_truth
two-are ts x y f g h k = ((λ i. the_truth (h i) ∷ the_truth (k i) ∷ []), (is-formula ts x f h, is-formula ts y g k))

pub none-are : (ts : List ValueTree) → AreThese ts n.Nothing []
unfolding formulas_at AreFormulas
none-are ts = (refl, tt)

pub closes : (ts : List ValueTree) (needs : Nodes) (fs : List FormulaTree) → AreThese ts needs fs → (option_rule ts (Some (record { needs = needs; adds = a.Closes })) ≡ rule fs []) × IsRule ts (Some (record { needs = needs; adds = a.Closes }))
unfolding option_rule rule_at branches_at IsRule AreBranches
closes ts needs fs k = ((λ i. rule (k.0 i) []), (k.1, tt))

pub goes : (ts : List ValueTree) (needs x : Nodes) (fs gs : List FormulaTree) → AreThese ts needs fs → AreThese ts x gs → (option_rule ts (Some (record { needs = needs; adds = a.Goes x })) ≡ rule fs (gs ∷ [])) × IsRule ts (Some (record { needs = needs; adds = a.Goes x }))
unfolding option_rule rule_at branches_at IsRule AreBranches
goes ts needs x fs gs k l = ((λ i. rule (k.0 i) (l.0 i ∷ [])), (k.1, l.1))

pub splits : (ts : List ValueTree) (needs x y : Nodes) (fs gs hs : List FormulaTree) → AreThese ts needs fs → AreThese ts x gs → AreThese ts y hs → (option_rule ts (Some (record { needs = needs; adds = a.Splits x y })) ≡ rule fs (gs ∷ hs ∷ [])) × IsRule ts (Some (record { needs = needs; adds = a.Splits x y }))
unfolding option_rule rule_at branches_at IsRule AreBranches
splits ts needs x y fs gs hs k l m = ((λ i. rule (k.0 i) (l.0 i ∷ m.0 i ∷ [])), (k.1, (l.1, m.1)))

-- what stands in a table that has grown
pub made-keeps : (t u : Listing) → Extends t u → (o : Option ℕ) → IsMade (nodes t) o → (option_formula (nodes u) o ≡ option_formula (nodes t) o) × IsMade (nodes u) o
unfolding option_formula IsMade the_truth
made-keeps t u g (Some k) h = let kept = keeps t u g k (of_truth (formula_at (nodes t) k)) h in (ap (λ o. Some (the_truth o)) kept, is-formula (nodes u) k (formula_at (nodes t) k) kept)
made-keeps t u g None h = (refl, tt)

pub value-keeps : (t u : Listing) → Extends t u → (k : ℕ) → IsValue (nodes t) k → value_at (nodes u) k ≡ value_at (nodes t) k
unfolding the_value
value-keeps t u g k h = ap the_value (keeps t u g k (value_at (nodes t) k) h)
