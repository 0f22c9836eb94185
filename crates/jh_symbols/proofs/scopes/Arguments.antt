-- Arguments against parameters, one after the other.
use Rattle.std.proofs.Common.{◌≡◌, refl, sym, ap, subst, ◌∙◌, ℕ, ◌+◌, ◌≤◌, ◌<◌, List, [], ◌∷◌, length, drop, get_or, Option, Some, None}
use Rattle.std.proofs.lemmas.List.{drop_all}
use Rattle.jh_ast.specs.declared.expr.Expr.{Expr}
use Rattle.jh_ast.specs.Bare.{expr_tree}
use Rattle.jh_rules.specs.declared.found.Found.{Found}
use Rattle.jh_rules.specs.declared.types.Ty.{Ty}
use Rattle.jh_rules.specs.Faults.{fine}
use Rattle.jh_rules.specs.Found.{Finds, least}
use Rattle.jh_rules.specs.Names.{Declared}
use Rattle.jh_rules.specs.Scopes.{Scope}
use Rattle.jh_rules.specs.Exprs.{arguments}
use Rattle.jh_symbols.specs.scopes.Asking.{argument, arguments_of, joined}
use Rattle.jh_symbols.proofs.scopes.Lists.{drop-at, joined-first, joined-last, joined-assoc, finds-joined}

module _ (l : Declared) (at : Scope) where
  one-more : (e : Expr) (es : List Expr) (d : Option Ty) (ds : List (Option Ty)) (g : Found Ty) (o : Found (Unit {0})) → Finds g (argument l at (expr_tree e) d) → Finds o (arguments_of l at es ds) → Finds (joined g o) (arguments_of l at (e ∷ es) (d ∷ ds))
  unfolding arguments
  one-more e es d ds g o hg ho = finds-joined (argument l at (expr_tree e) d) (arguments_of l at es ds) g o hg ho

  no-exprs : (ds : List (Option Ty)) → arguments_of l at [] ds ≡ fine
  unfolding arguments
  no-exprs ds = refl

  no-params : (es : List Expr) → arguments_of l at es [] ≡ fine
  unfolding arguments
  no-params [] = refl
  no-params (e ∷ es) = refl

  done : Found (Unit {0})
  done = record { least = None; known = Some (tt {0}) }

  finds-done : Finds done fine
  unfolding least done
  finds-done = record { known = refl; least_is = refl }

  abbrev pub Gathers : List Expr → List (Option Ty) → ℕ → Found (Unit {0}) → Type 0
  Gathers es ds i u = (o : Found (Unit {0})) → Finds o (arguments_of l at (drop i es) (drop i ds)) → Finds (joined u o) (arguments_of l at es ds)

  pub gathers-start : (es : List Expr) (ds : List (Option Ty)) (u : Found (Unit {0})) → Finds u fine → Gathers es ds 0 u
  unfolding least
  gathers-start es ds u h o ho = subst (λ v. Finds v (arguments_of l at es ds)) (sym (joined-first u o h.known h.least_is)) ho

  pub gathers-next : (es : List Expr) (ds : List (Option Ty)) (i : ℕ) (e : Expr) (d : Option Ty) (u new : Found (Unit {0})) (g : Found Ty) → i < length es → e ≡ get_or es i e → i < length ds → d ≡ get_or ds i d → Finds g (argument l at (expr_tree e) d) → new ≡ joined u g → Gathers es ds i u → Gathers es ds (i + 1) new
  gathers-next es ds i e d u new g lt is lt2 is2 hg n h o ho =
      let more : Finds (joined g o) (arguments_of l at (drop i es) (drop i ds)) =
      subst (λ xs. Finds (joined g o) (arguments_of l at xs (drop i ds))) (sym (drop-at es i e lt is))
      (subst (λ ys. Finds (joined g o) (arguments_of l at (e ∷ drop (i + 1) es) ys)) (sym (drop-at ds i d lt2 is2)) (one-more e (drop (i + 1) es) d (drop (i + 1) ds) g o hg ho)) in
      subst (λ v. Finds v (arguments_of l at es ds)) (joined-assoc u g o ∙ ap (λ w. joined w o) (sym n)) (h (joined g o) more)

  ends : (es : List Expr) (ds : List (Option Ty)) (i : ℕ) (u : Found (Unit {0})) → arguments_of l at (drop i es) (drop i ds) ≡ fine → Gathers es ds i u → Finds u (arguments_of l at es ds)
  unfolding done
  ends es ds i u e h = subst (λ v. Finds v (arguments_of l at es ds)) (joined-last u done refl refl) (h done (subst (Finds done) (sym e) finds-done))

  pub gathers-end : (es : List Expr) (ds : List (Option Ty)) (i : ℕ) (u : Found (Unit {0})) → length es ≤ i → Gathers es ds i u → Finds u (arguments_of l at es ds)
  gathers-end es ds i u le h = ends es ds i u (ap (λ xs. arguments_of l at xs (drop i ds)) (drop_all i es le) ∙ no-exprs (drop i ds)) h

  pub gathers-out : (es : List Expr) (ds : List (Option Ty)) (i : ℕ) (u : Found (Unit {0})) → length ds ≤ i → Gathers es ds i u → Finds u (arguments_of l at es ds)
  gathers-out es ds i u le h = ends es ds i u (ap (arguments_of l at (drop i es)) (drop_all i ds le) ∙ no-params (drop i es)) h
