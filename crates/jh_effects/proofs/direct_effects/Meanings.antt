-- What is said over what is declared is what the definitions say of a program.
use Rattle.std.proofs.Common.{◌≡◌, refl, ℕ, Bool, false, List, [], ◌∷◌, ◌++◌, Option, Some, None}
use Rattle.std.specs.Option.{option_map_or}
use Rattle.jh_ast.specs.Exprs.{ExprTree}
use Rattle.jh_ast.specs.Exprs as e
use Rattle.jh_ast.specs.Forms.{FormTree}
use Rattle.jh_ast.specs.Forms as f
use Rattle.jh_ast.specs.Programs.{ProgramTree}
use Rattle.jh_ast.specs.Stmts.{StmtTree, RhsTree, CallTree}
use Rattle.jh_ast.specs.Stmts as s
use Rattle.jh_rules.specs.declared.types.Ty.{Ty}
use Rattle.jh_rules.specs.Faults.{Judged, right, ◌>>=◌}
use Rattle.jh_rules.specs.Kinds.{class_of}
use Rattle.jh_rules.specs.Words.{text_of}
use Rattle.jh_rules.specs.Names.{declared_in}
use Rattle.jh_rules.specs.Scopes.{Scope}
use Rattle.jh_rules.specs.Exprs.{class_spelled, expr_type, receiver, callee_class}
use Rattle.jh_vars.specs.Written as w
use Rattle.jh_effects.specs.direct_effects.Effects.{class_or, state_in, callee_in, receiver_class, target_written, rhs_written, rhs_called, called_in, ghost_written, stmt_written, stmt_called}

member-is : (p : ProgramTree) (c : Option (Option ℕ)) (t : Option Ty) (x : List ℕ) → state_in (class_or c t) x ≡ w.member_written p c t x
member-is p (Some c) t x = refl
member-is p None None x = refl
member-is p None (Some u) x = refl

module _ (p : ProgramTree) (at : Scope) where
  target-is : (a : ExprTree) → target_written (declared_in p) at a ≡ w.target_writes p at a
  target-is (e.name q x) = refl
  target-is (e.member q a x) = member-is p (class_spelled (declared_in p) at a) (expr_type (declared_in p) at a).known (text_of x)
  target-is _ = refl

  rhs-is : (r : RhsTree) → rhs_written (declared_in p) r ≡ w.rhs_writes p r
  rhs-is (s.value a) = refl
  rhs-is (s.result_of c) = refl
  rhs-is (s.new x) = refl

  typed-is : (t : Option Ty) (x : List ℕ) → callee_in (class_or None t) x ≡
      option_map_or (λ (r : Option ℕ × Option Bool). option_map_or (λ k. record { class = k; name = x } ∷ []) r.0 []) (option_map_or (λ (r : Option ℕ × Bool). Some (r.0, Some r.1)) (option_map_or (λ u. Some (class_of u, false)) t None) None) []
  typed-is None x = refl
  typed-is (Some u) x = refl

  spelled-is : (c : Option (Option ℕ)) (j : Judged Ty) (x : List ℕ) → callee_in (class_or c j.known) x ≡
      option_map_or (λ (r : Option ℕ × Option Bool). option_map_or (λ k. record { class = k; name = x } ∷ []) r.0 []) (receiver (declared_in p) at c j >>= λ r. right (r.0, Some r.1)).known []
  spelled-is (Some c) j x = refl
  spelled-is None j x = typed-is j.known x

  callee-is : (o : Option ExprTree) (x : List ℕ) → callee_in (receiver_class (declared_in p) at o) x ≡ option_map_or (λ (r : Option ℕ × Option Bool). option_map_or (λ k. record { class = k; name = x } ∷ []) r.0 []) (callee_class (declared_in p) at o).known []
  callee-is None x = refl
  callee-is (Some a) x = spelled-is (class_spelled (declared_in p) at a) (expr_type (declared_in p) at a) x

  called-is : (c : CallTree) → called_in (declared_in p) at c ≡ w.calls_of p at c
  called-is c = callee-is c.receiver (text_of c.method)

  rhs-calls : (r : RhsTree) → rhs_called (declared_in p) at r ≡ w.rhs_calls p at r
  rhs-calls (s.value a) = refl
  rhs-calls (s.result_of c) = called-is c
  rhs-calls (s.new x) = refl

  ghost-is : (t : FormTree) → ghost_written (declared_in p) at t ≡ w.ghost_writes p at t
  ghost-is (f.name q x) = refl
  ghost-is (f.member q a x) = refl
  ghost-is _ = refl

  pub writes-are : (a : StmtTree) → stmt_written (declared_in p) at a ≡ w.stmt_writes p at a
  writes-are (s.local q d None) = refl
  writes-are (s.local q d (Some r)) = rhs-is r
  writes-are (s.assign q a r) = λ i. target-is a i ++ rhs-is r i
  writes-are (s.ghost q a b) = ghost-is a.form
  writes-are _ = refl

  pub calls-are : (a : StmtTree) → stmt_called (declared_in p) at a ≡ w.stmt_calls p at a
  calls-are (s.local q d None) = refl
  calls-are (s.local q d (Some r)) = rhs-calls r
  calls-are (s.assign q a r) = rhs-calls r
  calls-are (s.call q c) = called-is c
  calls-are _ = refl
