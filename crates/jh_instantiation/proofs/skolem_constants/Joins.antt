-- Two formulas that are joined by And or by Or.
use Rattle.std.proofs.Common.{◌≡◌, refl, ap, ℕ, ◌+◌, Bool, true, false, List}
use Rattle.jh_name.specs.declared.naming.Name.{Name}
use Rattle.jh_form.specs.Tree.{FormulaTree}
use Rattle.jh_form.specs.Tree as t
use Rattle.jh_inst.specs.instances.Prenex.{pulled}
use Rattle.jh_inst.specs.instances.Prenex as prenex
use Rattle.jh_inst.specs.instances.Witnesses.{witnesses, witnessed}
use Rattle.jh_instantiation.specs.skolem_constants.Standing.{joined}

pub witnessed-joined : (b : Bool) (p q : FormulaTree) (ws : List Name) (k j : ℕ) → j ≡ k + witnesses p → joined b (witnessed p ws k) (witnessed q ws j) ≡ witnessed (joined b p q) ws k
witnessed-joined true p q ws k j e = ap (λ n. t.and (witnessed p ws k) (witnessed q ws n)) e
witnessed-joined false p q ws k j e = ap (λ n. t.or (witnessed p ws k) (witnessed q ws n)) e

pub witnesses-joined : (b : Bool) (p q : FormulaTree) → witnesses (joined b p q) ≡ witnesses p + witnesses q
witnesses-joined true p q = refl
witnesses-joined false p q = refl

pub pulled-joined : (b : Bool) (p q : FormulaTree) → prenex.joined (joined b) (pulled p) (pulled q) ≡ pulled (joined b p q)
pulled-joined true p q = refl
pulled-joined false p q = refl
