-- The body of a method in which no rule is broken fits. What its formulas and its ghost assignments are is shown in other files.
use Rattle.std.proofs.Common.{◌≡◌, refl, sym, ap, subst, ◌∙◌, ℕ, true, false, not, List, [], ◌∷◌, ◌++◌, map, Option, Some, None}
use Rattle.std.specs.List.{Contains, flat_map}
use Rattle.std.specs.Option.{option_map_or}
use Rattle.std.proofs.lemmas.List.Elements.{Contains-append_left, Contains-append_right}
use Rattle.jh_name.specs.declared.place.Place.{Place}
use Rattle.jh_ast.specs.declared.word.JType.{JType}
use Rattle.jh_ast.specs.declared.word.JType.TheVariants as j
use Rattle.jh_ast.specs.Forms.{SpecPart, LabelledPart}
use Rattle.jh_ast.specs.Stmts.{StmtTree, StmtTrees, RhsTree, CallTree}
use Rattle.jh_ast.specs.Stmts as st
use Rattle.jh_ast.specs.Programs.{ProgramTree, MethodPart}
use Rattle.jh_form.specs.Tree as t
use Rattle.jh_rules.specs.declared.fault.Fault.{Fault}
use Rattle.jh_rules.specs.declared.types.Ty.{Ty}
use Rattle.jh_rules.specs.declared.types.Ty.TheVariants as ty
use Rattle.jh_rules.specs.Faults.{fault, broken, ◌>>=◌}
use Rattle.jh_rules.specs.Kinds.{fits}
use Rattle.jh_rules.specs.Names.{Declared, declared_in, type_of}
use Rattle.jh_rules.specs.Scopes.{Scope, behind, text_behind, in_loop}
use Rattle.jh_rules.specs.Rules.{rule_17, rule_20, rule_24_some, is_void_word}
use Rattle.jh_rules.specs.Shape.{◌and◌, stmt_parts, stmts_parts, rhs_parts, expr_parts, of_param, of_target, some_parts, all_parts, labelled_parts}
use Rattle.jh_rules.specs.Exprs.{expr_type}
use Rattle.jh_rules.specs.Formulas.{truth_faults}
use Rattle.jh_rules.specs.Statements.{of_some, declared_faults, rhs_faults, inside, stmt_faults, all_faults}
use Rattle.jh_vars.specs.Resolved.{as_truth}
use Rattle.jh_vars.specs.Statements.{InScope, standing, inner_statements, all_statements, method_statements}
use Rattle.jh_semantics.specs.Code.{Stmt, Stmts}
use Rattle.jh_semantics.specs.Code as c
use Rattle.jh_semantics.specs.Lowered.{expr_code}
use Rattle.jh_semantics.specs.LoweredStmts.{word_type, spec_value, labelled_claim, target_code, stmt_code, stmts_code}
use Rattle.jh_semantics.specs.LoweredProgram.{program_of}
use Rattle.jh_semantics.specs.Typed.{Surroundings, IsOfStates, AreOfStates, scope_behind, StmtFits, StmtsFit}
use Rattle.jh_logic.proofs.source.Lists.{has-first, has-later, more-not-empty, left-empty, right-empty, not-false}
use Rattle.jh_logic.proofs.source.Judged.{not-broken}
use Rattle.jh_logic.proofs.source.Shaped.{Shaped, shaped-left, shaped-right}
use Rattle.jh_logic.proofs.source.Environment.{Declares, Agrees}
use Rattle.jh_logic.proofs.source.Expressions.{TypedBy, typed}
use Rattle.jh_logic.proofs.source.Targets.{TakesBy, target-takes}
use Rattle.jh_logic.proofs.source.Types.{type-not-void, void-word}
use Rattle.jh_logic.proofs.source.Statements.{declaration-fits, rhs-fits, call-fits, behind-agrees, loop-scope}

module _ (p : ProgramTree) (declares : Declares p) (n : ℕ) (m : MethodPart) where
  abbrev l : Declared
  l = declared_in p

  abbrev result : Ty
  result = word_type p m.result

  -- the value of each formula speaks of what is now and what was at entry
  abbrev pub ClaimsOfStates : Type 0
  ClaimsOfStates = (spec : SpecPart) → IsOfStates (t.of_truth (as_truth (spec_value p spec)))

  -- the ghost assignments of the method fit
  abbrev pub GhostsFit : Type 0
  GhostsFit = (at : Scope) (s : Surroundings) (q : Place) (a b : SpecPart) → Agrees at s → Contains (method_statements p n m) (standing at (st.ghost q a b)) → stmt_faults l m (st.ghost q a b) at ≡ [] → StmtFits (program_of p) result (stmt_code p (st.ghost q a b) at) s

  module _ (known : type_of l.class_named m.result ≡ Some result) (states : ClaimsOfStates) (ghosts : GhostsFit) where
    claims-states : (is : List LabelledPart) → AreOfStates (map (labelled_claim p) is)
    claims-states [] = tt
    claims-states (x ∷ xs) = (states x.spec, claims-states xs)

    -- a value that is returned
    returned : (q : Place) (w : JType) (value : Ty) → type_of l.class_named w ≡ Some result → rule_24_some l q w (Some value) ≡ [] → (is_void_word w ≡ false) × (fits value result ≡ true)
    returned q j.Void value e h = absurd (more-not-empty (fault 24 q) [] h)
    returned q j.Int value e h = (refl, not-false (fits value result) (not-broken 24 q (not (fits value result)) (ap (λ (o : Option Ty). broken 24 q (option_map_or (λ u. not (fits value u)) o false)) (sym e) ∙ h)))
    returned q j.Boolean value e h = (refl, not-false (fits value result) (not-broken 24 q (not (fits value result)) (ap (λ (o : Option Ty). broken 24 q (option_map_or (λ u. not (fits value u)) o false)) (sym e) ∙ h)))
    returned q (j.Class w) value e h = (refl, not-false (fits value result) (not-broken 24 q (not (fits value result)) (ap (λ (o : Option Ty). broken 24 q (option_map_or (λ u. not (fits value u)) o false)) (sym e) ∙ h)))

    -- parts of faults that are joined
    branch-first : (xs ys zs : List Fault) → xs ++ ys ++ zs ≡ [] → ys ≡ []
    branch-first xs ys zs h = right-empty xs ys (left-empty (xs ++ ys) zs h)

    branch-second : (xs ys zs : List Fault) → xs ++ ys ++ zs ≡ [] → zs ≡ []
    branch-second xs ys zs h = right-empty (xs ++ ys) zs h

    abbrev Inside : List InScope → Type 0
    Inside xs = (x : InScope) → Contains xs x → Contains (method_statements p n m) x

    mutual
      unfolding stmt_faults stmt_parts stmt_code inner_statements

      pub stmt-fits : (a : StmtTree) (at : Scope) (s : Surroundings) → Agrees at s → Shaped (stmt_parts a) → stmt_faults l m a at ≡ [] → Inside (standing at a ∷ inner_statements l a at) → StmtFits (program_of p) result (stmt_code p a at) s
      stmt-fits (st.empty q) at s agrees shaped h inner = tt
      stmt-fits (st.block q ss) at s agrees shaped h inner = stmts-fit ss at s agrees shaped h (λ x i. inner x (has-later (standing at (st.block q ss)) (all_statements l ss at) x i))
      stmt-fits (st.local q d r) at s agrees shaped h inner =
          let value = of_some (rhs_faults l at (type_of l.class_named d.jtype)) r in
          declaration-fits p declares s at agrees result q d (shaped-left (of_param d) (some_parts rhs_parts r) shaped) (right-empty value (declared_faults l at d) h) r (left-empty value (declared_faults l at d) h)
      stmt-fits (st.assign q a r) at s agrees shaped h inner =
          let first = (expr_type l at a).faults in
          let second = rule_17 at q a in
          let third = rhs_faults l at (expr_type l at a).known r in
          let v : TakesBy p declares s at agrees (expr_type l at a) (target_code p at a) = target-takes p declares s at agrees q a ((shaped-left (of_target a) (expr_parts a and rhs_parts r) shaped).targets a (has-first a [])) (left-empty first second (left-empty (first ++ second) third h)) (branch-first first second third h) in
          rhs-fits p declares s at agrees result q (target_code p at a) v.type v.takes r (subst (λ (o : Option Ty). rhs_faults l at o r ≡ []) v.known (branch-second first second third h))
      stmt-fits (st.call q x) at s agrees shaped h inner = call-fits p declares s at agrees x h c.nowhere tt (λ e. refl)
      stmt-fits (st.branch q x a b) at s agrees shaped h inner =
          let test = (expr_type l at x >>= rule_20 x).faults in
          let first = stmt_faults l m a at in
          let second = all_faults l m b (text_behind at a) in (
            stmt-fits a at s agrees (shaped-left (stmt_parts a) (stmts_parts b) (shaped-right (expr_parts x) (stmt_parts a and stmts_parts b) shaped)) (branch-first test first second h)
                (λ y i. inner y (has-later (standing at (st.branch q x a b)) (inner_statements l (st.branch q x a b) at) y (Contains-append_left (standing at a ∷ inner_statements l a at) (all_statements l b (text_behind at a)) y i))),
            stmts-fit b (text_behind at a) s (record { this = agrees.this; no_this = agrees.no_this; known = agrees.known; unknown = agrees.unknown }) (shaped-right (stmt_parts a) (stmts_parts b) (shaped-right (expr_parts x) (stmt_parts a and stmts_parts b) shaped)) (branch-second test first second h)
                (λ y i. inner y (has-later (standing at (st.branch q x a b)) (inner_statements l (st.branch q x a b) at) y (Contains-append_right (standing at a ∷ inner_statements l a at) (all_statements l b (text_behind at a)) y i))),
          )
      stmt-fits (st.loop q invs x a) at s agrees shaped h inner =
          let claims = flat_map (λ (y : LabelledPart). truth_faults l (inside l at) y.spec) invs in
          let test = (expr_type l at x >>= rule_20 x).faults in (
            claims-states invs,
            stmt-fits a (in_loop at invs) s (loop-scope p declares s at agrees invs) (shaped-right (expr_parts x) (stmt_parts a) (shaped-right (all_parts labelled_parts invs) (expr_parts x and stmt_parts a) shaped)) (branch-second claims test (stmt_faults l m a (in_loop at invs)) h)
                (λ y i. inner y (has-later (standing at (st.loop q invs x a)) (inner_statements l (st.loop q invs x a) at) y i)),
          )
      stmt-fits (st.return q None) at s agrees shaped h inner = nothing m.result refl
        where
          nothing : (w : JType) → m.result ≡ w → result ≡ ty.Void
          nothing w e = ap (word_type p) (void-word m.result (not-false (is_void_word m.result) (not-broken 24 q (not (is_void_word m.result)) h)))
      stmt-fits (st.return q (Some a)) at s agrees shaped h inner =
          let v : TypedBy p declares s (expr_type l at a) (expr_code p a at) = typed p declares s at agrees a (left-empty (expr_type l at a).faults (rule_24_some l q m.result (expr_type l at a).known) h) in
          let r = returned q m.result v.type known (subst (λ (o : Option Ty). rule_24_some l q m.result o ≡ []) v.known (right-empty (expr_type l at a).faults (rule_24_some l q m.result (expr_type l at a).known) h)) in
          (record { type = v.type; has = v.has; fit = r.1 }, type-not-void l.class_named m.result r.0 result known)
      stmt-fits (st.assert q a) at s agrees shaped h inner = states a.spec
      stmt-fits (st.note q a) at s agrees shaped h inner = states a.spec
      stmt-fits (st.ghost q a b) at s agrees shaped h inner = ghosts at s q a b agrees (inner (standing at (st.ghost q a b)) (has-first (standing at (st.ghost q a b)) [])) h

      pub stmts-fit : (ss : StmtTrees) (at : Scope) (s : Surroundings) → Agrees at s → Shaped (stmts_parts ss) → all_faults l m ss at ≡ [] → Inside (all_statements l ss at) → StmtsFit (program_of p) result (stmts_code p ss at) s
      stmts-fit st.none at s agrees shaped h inner = tt
      stmts-fit (st.more a ss) at s agrees shaped h inner =
          let first = stmt_faults l m a at in
          let second = all_faults l m ss (behind l at a) in
          let here : first ≡ [] = left-empty first second h in (
            stmt-fits a at s agrees (shaped-left (stmt_parts a) (stmts_parts ss) shaped) here (λ y i. inner y (Contains-append_left (standing at a ∷ inner_statements l a at) (all_statements l ss (behind l at a)) y i)),
            stmts-fit ss (behind l at a) (scope_behind (program_of p) s (stmt_code p a at)) (behind-agrees p declares s at agrees m a (shaped-left (stmt_parts a) (stmts_parts ss) shaped) here) (shaped-right (stmt_parts a) (stmts_parts ss) shaped) (right-empty first second h)
                (λ y i. inner y (Contains-append_right (standing at a ∷ inner_statements l a at) (all_statements l ss (behind l at a)) y i)),
          )
