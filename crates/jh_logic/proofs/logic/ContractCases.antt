-- What contracts may speak of, by an example: class A { static int n; static int next(int x) }.
use Rattle.std.proofs.Common.{◌≡◌, refl, sym, subst, ℕ, true, false, [], ◌∷◌, pos, None, Some, codes, arith}
use Rattle.jh_name.specs.declared.place.Kind.TheVariants as k
use Rattle.jh_form.specs.Tree.{FormulaTree}
use Rattle.jh_form.specs.Tree as t
use Rattle.jh_form.specs.Passing.{name_equal, formula_passes, int_passes}
use Rattle.jh_rules.specs.declared.types.Ty.TheVariants as ty
use Rattle.jh_vars.specs.Resolved.{own}
use Rattle.jh_semantics.specs.Code.{Local, Claim}
use Rattle.jh_semantics.specs.Code as c
use Rattle.jh_semantics.specs.Program.{Program, Method, Member}
use Rattle.jh_semantics.specs.State.{named, result_name}
use Rattle.jh_semantics.proofs.Cases.{at}
use Rattle.jh_guard.specs.Calls.{call_turns}
use Rattle.jh_logic.specs.logic.MethodContracts.{speaks_before, IsValueType, ContractFits}
use Rattle.jh_logic.proofs.logic.Writing.{single}

abbrev param : Local
param = record { text = codes "x"; type = ty.Int }

abbrev static_n : Member
static_n = record { text = codes "A.n"; class = codes "A"; kind = k.Int; is_static = true; type = Some ty.Int }

abbrev claim_of : FormulaTree → Claim
claim_of f = record { label = None; place = at 1 1; from = []; formula = f }

-- requires "0 <= x & A.n <= x"
abbrev before : FormulaTree
before = t.and (t.less_equal (t.const (pos 0)) (t.free_number (named (codes "x")))) (t.less_equal (t.free_number (named (codes "A.n"))) (t.free_number (named (codes "x"))))

-- ensures "result = x + 1 & A.n = old A.n + 1"
abbrev after : FormulaTree
after = t.and (t.eq_number (t.free_number result_name) (t.add (t.free_number (named (codes "x"))) (t.const (pos 1))))
    (t.eq_number (t.free_number (named (codes "A.n"))) (t.add (t.free_number (own (codes "A.n") 1)) (t.const (pos 1))))

abbrev method : Method
method = record { place = at 1 1; is_public = true; this = None; params = param ∷ []; result = ty.Int; requires = Some (claim_of before); ensures = Some (claim_of after); body = c.none }

abbrev program : Program
program = record { classes = codes "A" ∷ []; members = static_n ∷ []; method = λ m. Some method; invariants = [] }

pub contract-fits : ContractFits program method
unfolding formula_passes int_passes name_equal
contract-fits = record {
  param_types = λ y i. subst (λ (z : Local). IsValueType z.type) (sym (single param y i)) tt;
  requires = refl;
  ensures = refl;
}

-- `requires` may not speak of the result, of `old`, nor of a name of the caller, and `ensures` not of `this` in a static method.
pub no-result-before : formula_passes (t.eq_number (t.free_number result_name) (t.const (pos 0))) (speaks_before program method) ≡ false
unfolding formula_passes int_passes name_equal
no-result-before = refl

pub no-old-before : formula_passes (t.eq_number (t.free_number (own (codes "A.n") 1)) (t.const (pos 0))) (speaks_before program method) ≡ false
unfolding formula_passes int_passes name_equal
no-old-before = refl

pub no-other-before : formula_passes (t.eq_number (t.free_number (named (codes "y"))) (t.const (pos 0))) (speaks_before program method) ≡ false
unfolding formula_passes int_passes name_equal
no-other-before = refl

-- The result of a void call has the turn that the next fresh name takes: so it may go nowhere alone.
pub void-result-shares : (k : ℕ) → (call_turns c.nowhere None 1 [] ty.Void k).result ≡ (call_turns c.nowhere None 1 [] ty.Void k).next
void-result-shares k = omega arith
