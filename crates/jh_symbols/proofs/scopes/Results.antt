-- A call: the faults in its arguments and those of the call itself.
use Rattle.std.proofs.Common.{◌≡◌, refl, sym, ap, ◌∙◌, ℕ, List, [], ◌∷◌, ◌++◌, map, length}
use Rattle.std.specs.List.{flat_map}
use Rattle.std.proofs.lemmas.List.{length-map}
use Rattle.jh_ast.specs.declared.expr.Expr.{Expr}
use Rattle.jh_ast.specs.declared.stmt.Call.{Call}
use Rattle.jh_ast.specs.Bare.{expr_tree, call_tree}
use Rattle.jh_rules.specs.declared.found.Found.{Found}
use Rattle.jh_rules.specs.declared.fault.Fault.{Fault}
use Rattle.jh_rules.specs.declared.types.Ty.{Ty}
use Rattle.jh_rules.specs.Faults.{Judged, ◌>>=◌}
use Rattle.jh_rules.specs.Found.{Finds, least, lesser}
use Rattle.jh_rules.specs.Names.{Declared}
use Rattle.jh_rules.specs.Scopes.{Scope}
use Rattle.jh_rules.specs.Exprs.{expr_type, callee_class, callee, result_of, call_type}
use Rattle.jh_rules.proofs.Judgements.{least-append}
use Rattle.jh_symbols.specs.scopes.Asking.{all_faults, callee_type, call_place}

flat-trees : (f : _ → List Fault) (es : List Expr) → flat_map f (map expr_tree es) ≡ flat_map (λ a. f (expr_tree a)) es
flat-trees f [] = refl
flat-trees f (e ∷ es) = ap (λ xs. f (expr_tree e) ++ xs) (flat-trees f es)

module _ (l : Declared) (at : Scope) where
  by_count : Call → ℕ → Judged Ty
  by_count c n = callee_class l at (call_tree c).receiver >>= λ r. callee l at (call_tree c) r >>= result_of l at (call_place (call_tree c)) n (map expr_tree c.args)

  pub finds-call : (c : Call) (u o : Found Ty) → Finds u (callee_type l at (call_tree c) c.args) → o.known ≡ u.known → o.least ≡ lesser (least (all_faults l at c.args)) u.least → Finds o (call_type l at (call_tree c))
  unfolding by_count
  finds-call c u o h k e = record {
    known = k ∙ h.known ∙ ap (λ n. (by_count c n).known) (sym (length-map c.args expr_tree));
    least_is = e ∙ ap (lesser (least (all_faults l at c.args))) h.least_is ∙ sym (least-append (all_faults l at c.args) (by_count c (length c.args)).faults)
        ∙ (λ i. least (sym (flat-trees (λ a. (expr_type l at a).faults) c.args) i ++ (by_count c (sym (length-map c.args expr_tree) i)).faults));
  }
