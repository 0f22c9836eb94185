-- No method of a made program breaks a rule.
use Rattle.std.proofs.Common.{◌≡◌, ℕ, List, [], refl, sym, subst}
use Rattle.jh_name.specs.declared.place.Place.{Place}
use Rattle.jh_ast.specs.Programs.{MethodPart}
use Rattle.jh_rules.specs.Words.{halves}
use Rattle.jh_rules.specs.Names.{declared_in, first_named, class_from}
use Rattle.jh_rules.specs.Scopes.{declared, all_declared, labels_in, all_labels_in, with_all_declared, declare_all, count, all_counted, is_closed, ends_closed}
use Rattle.jh_rules.specs.Exprs.{expr_type}
use Rattle.jh_rules.specs.Formulas.{form_kind}
use Rattle.jh_rules.specs.Statements.{stmt_faults, all_faults, param_faults, method_faults}
use Rattle.jh_gen_laws.specs.typing.Trees.{made_program, IsMethod, swaps, sums, cells, AreMethods}
use Rattle.jh_gen_laws.proofs.typing.Declaring.{known, known-is}

module _ (q1 q2 q3 q4 q5 q6 q7 q8 : Place) (ms : List MethodPart) where
  known-fine : (i : ℕ) (m : MethodPart) → IsMethod i m → method_faults (known (declared_in (made_program q1 q2 q3 q4 q5 q6 q7 q8 ms))) 1 m ≡ []
  unfolding halves first_named class_from declared all_declared labels_in all_labels_in with_all_declared declare_all count all_counted is_closed ends_closed expr_type form_kind stmt_faults all_faults param_faults method_faults
  known-fine i _ (swaps n q a b c s1 s2 s3 s4 s5 s6 r1 r2 r3 r4 r5 r6 r7 end) = refl
  known-fine i _ (sums n m k q a b s1 s2 c s3 s4 r1 r2 r3 end) = refl
  known-fine i _ (cells n m k q p1 p2 p3 p4 a t1 t2 t3 t4 t5 t6 b c s1 s2 s3 s4 s5 s6 r1 r2 r3 r4 r5 r6 end) = refl

  pub method-fine : AreMethods 1 ms → (i : ℕ) (m : MethodPart) → IsMethod i m → method_faults (declared_in (made_program q1 q2 q3 q4 q5 q6 q7 q8 ms)) 1 m ≡ []
  method-fine are i m is = subst (λ l. method_faults l 1 m ≡ []) (sym (known-is q1 q2 q3 q4 q5 q6 q7 q8 ms are)) (known-fine i m is)
