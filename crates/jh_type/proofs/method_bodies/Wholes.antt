-- The least fault of a method is that of its parts.
use Rattle.std.proofs.Common.{◌≡◌, refl, sym, ap, ◌∙◌, ℕ, ◌-◌, ◌^◌, min, nat_lt, not, Bool, true, false, List, [], ◌∷◌, ◌++◌, Option, None, arith}
use Rattle.std.proofs.lemmas.Bool.Decides.{nat_tests}
use Rattle.jh_name.specs.declared.place.Kind.{Kind}
use Rattle.jh_ast.specs.declared.word.Param.{Param}
use Rattle.jh_ast.specs.Programs.{MethodPart}
use Rattle.jh_rules.specs.declared.fault.Fault.{Fault}
use Rattle.jh_rules.specs.Found.{least, lesser}
use Rattle.jh_rules.specs.Formulas.{truth_faults}
use Rattle.jh_rules.specs.Names.{Declared}
use Rattle.jh_rules.specs.Rules.{rule_4, rule_12, rule_25, rule_32}
use Rattle.jh_rules.specs.Scopes.{Scope, declare, declare_all, outermost}
use Rattle.jh_rules.specs.Statements.{of_some, param_faults, all_faults, method_faults, result_kind, contract_place}
use Rattle.jh_rules.proofs.Judgements.{least-append}
use Rattle.jh_type.specs.formula_kinds.Standing.{where_by}
use Rattle.jh_type.specs.method_bodies.Parts.{method_least, pre_spot, post_spot}
use Rattle.std.specs.List.{flat_map}

pub long-is : (n : ℕ) → nat_lt 256 (min n (2 ^ 64 - 1)) ≡ nat_lt 256 n
long-is n = grind (arith, nat_tests)

one-more : (xs ys : List Fault) (o : Option Fault) → o ≡ least xs → lesser o (least ys) ≡ least (xs ++ ys)
one-more xs ys o e = ap (λ x. lesser x (least ys)) e ∙ sym (least-append xs ys)

eight : (a b c d e f g h : List Fault) → lesser (lesser (lesser (lesser (lesser (lesser (lesser (least a) (least b)) (least c)) (least d)) (least e)) (least f)) (least g)) (least h) ≡ least (a ++ b ++ c ++ d ++ e ++ f ++ g ++ h)
eight a b c d e f g h = one-more _ h _ (one-more _ g _ (one-more _ f _ (one-more _ e _ (one-more _ d _ (one-more _ c _ (one-more a b _ refl))))))

module _ (l : Declared) where
  same-class : (at : Scope) (ds : List Param) → (declare_all l at ds).class ≡ at.class
  unfolding declare_all
  same-class at [] = refl
  same-class at (d ∷ ds) = same-class (declare l true at d) ds

  same-fixed : (at : Scope) (ds : List Param) → (declare_all l at ds).fixed ≡ at.fixed
  unfolding declare_all
  same-fixed at [] = refl
  same-fixed at (d ∷ ds) = same-fixed (declare l true at d) ds

  place-is : (n : ℕ) (m : MethodPart) (old : Bool) (result : Option (Option Kind)) → where_by (record { old = old; result = result }) (declare_all l (outermost n m.fixed) m.params) [] ≡ contract_place l n m old result
  place-is n m old result = λ i. record {
    class = same-class (outermost n m.fixed) m.params i;
    has_this = not (same-fixed (outermost n m.fixed) m.params i);
    old = old;
    result = result;
    local = (declare_all l (outermost n m.fixed) m.params).local;
    bound = [];
  }

  pub method-is : (n : ℕ) (m : MethodPart) → method_least l n (outermost n m.fixed) m ≡ least (method_faults l n m)
  unfolding method_faults
  method-is n m =
      eight (rule_4 l m.result) (param_faults l (outermost n m.fixed) m.params) (of_some (truth_faults l (where_by pre_spot (declare_all l (outermost n m.fixed) m.params) [])) m.pre) (flat_map (rule_12 l n) m.modifies)
      (of_some (truth_faults l (where_by (post_spot l m) (declare_all l (outermost n m.fixed) m.params) [])) m.post) (all_faults l m m.body (declare_all l (outermost n m.fixed) m.params)) (rule_32 m) (rule_25 m)
      ∙ (λ i. least (rule_4 l m.result ++ param_faults l (outermost n m.fixed) m.params
      ++ of_some (truth_faults l (place-is n m false None i)) m.pre
      ++ flat_map (rule_12 l n) m.modifies
      ++ of_some (truth_faults l (place-is n m true (result_kind l m.result) i)) m.post
      ++ all_faults l m m.body (declare_all l (outermost n m.fixed) m.params)
      ++ rule_32 m ++ rule_25 m))
