-- A body that rises behind its quantifiers.
use Rattle.std.proofs.Common.{◌≡◌, ap, ◌∙◌, ℕ, zero, suc, ◌+◌, List, Some, slice_get, arith}
use Rattle.jh_form.specs.Tree.{FormulaTree, ValueTree, of_truth}
use Rattle.jh_form.specs.Tree as t
use Rattle.jh_boxed.specs.Mapped.{LeafMap, mapped_formula, mapped_value}
use Rattle.jh_arena.specs.table.Entries.{the_value}
use Rattle.jh_substitution.specs.simultaneous.Lifted.{lifting}
use Rattle.jh_inst.specs.instances.Prenex.{behind, under_more}

-- the quantifiers stay, and what is behind them is mapped that much deeper
pub mapped-behind : (l : LeafMap) (n d e : ℕ) (a : FormulaTree) → e ≡ d + n → mapped_formula (behind n a) l d ≡ behind n (mapped_formula a l e)
unfolding mapped_formula
mapped-behind l zero d e a h = let same : d ≡ e = omega (arith, h) in ap (mapped_formula a l) same
mapped-behind l (suc n) d e a h = ap t.all (mapped-behind l n (d + 1) e a (omega (arith, h)))

-- what rose behind its quantifiers
pub lifted-there : (ts us : List ValueTree) (n m own by : ℕ) (a : FormulaTree) → slice_get ts n ≡ Some (of_truth (behind own a)) → slice_get us m ≡ Some (mapped_value (the_value (slice_get ts n)) (lifting by) 0) → slice_get us m ≡ Some (of_truth (behind own (under_more a own by)))
unfolding the_value mapped_value
lifted-there ts us n m own by a e f =
    f ∙ ap (λ o. Some (mapped_value (the_value o) (lifting by) 0)) e
    ∙ ap (λ b. Some (of_truth b)) (mapped-behind (lifting by) own 0 own a (omega arith))

pub inner-of : (a b : FormulaTree) → t.all a ≡ t.all b → a ≡ b
inner-of a b e = cc
