-- Which statement a step is, by its variant.
use Rattle.std.proofs.Common.{◌≡◌, refl, sym, subst, ℕ, Bool, false, List, [], ◌∷◌, ◌≤◌, ◌<◌, ◌-◌, length, get_or, take, drop, arith, Option}
use Rattle.std.proofs.lemmas.List.{take_all}
use Rattle.std.specs.declared.alloc.Global.{Global}
use Rattle.std.specs.declared.boxed.Box.{Box}
use Rattle.jh_name.specs.declared.naming.Name.{Name}
use Rattle.jh_name.specs.declared.place.Place.{Place}
use Rattle.jh_arena.specs.table.Entries.{Listing}
use Rattle.jh_vars.specs.Written.{Callee}
use Rattle.jh_semantics.specs.Code as c
use Rattle.jh_operands.specs.declared.exprs.AnyExpr.{AnyExpr}
use Rattle.jh_operands.specs.declared.exprs.TruthExpr.{TruthExpr}
use Rattle.jh_operands.specs.Exprs.{any_in, truth_in, text_at, IsPlain, TruthFits, AnyFits}
use Rattle.jh_machine_code.specs.declared.code.destination.Destination.{Destination}
use Rattle.jh_machine_code.specs.declared.code.step.CallStep.{CallStep}
use Rattle.jh_machine_code.specs.declared.code.step.GhostField.{GhostField}
use Rattle.jh_machine_code.specs.declared.code.step.Step.{Step, Row_of-Step, end_of-Step, more_of-Step, items-the_row-Step, items_hidden-the_row-Step-0}
use Rattle.jh_machine_code.specs.declared.code.step.Step.TheBlock.{hidden-the_row-Step-0}
use Rattle.jh_machine_code.specs.declared.code.step.Step.TheVariants as x
use Rattle.jh_machine_code.specs.code.Destinations.{IsTarget}
use Rattle.jh_machine_code.specs.code.Steps.{IsStep, IsRow, AreSteps, IsCall, ReturnIs, IsAsked, IsGhost, IsGhostAt}
use Rattle.jh_exec.specs.interpreter.Returns.{is_return}

-- a step that is none that returns
pub not_return : (step : Step) → ((e : Option AnyExpr) → step ≡ x.Return e → ⊥) → is_return step ≡ false
unfolding is_return
not_return (x.Return e) never = absurd (never e refl)
not_return x.Empty never = refl
not_return (x.Block' shape xs) never = refl
not_return (x.Assign d e) never = refl
not_return (x.New q d k) never = refl
not_return (x.Call call) never = refl
not_return (x.Branch' e i a shape xs) never = refl
not_return (x.Loop' e i a) never = refl
not_return (x.Ask q n) never = refl
not_return (x.Ghost k q n) never = refl
not_return (x.GhostAt g) never = refl

pub does_return : {X : Type 0} (step : Step) → is_return step ≡ false → (e : Option AnyExpr) → step ≡ x.Return e → X
unfolding is_return
does_return step h e is = let no : is_return (x.Return e) ≡ false = subst (λ (z : Step). is_return z ≡ false) is h in cc

module _ (names : List Name) (t : Listing) (numbered : Callee → Option ℕ) (keeps : Bool) where
  rows-steps : {n : _} (xs : Row_of-Step n) (ss : c.Stmts) → IsRow names t numbered keeps xs ss → AreSteps names t numbered keeps (items-the_row-Step n xs) ss
  unfolding IsRow AreSteps
  rows-steps end_of-Step ss h = h
  rows-steps (more_of-Step x xs) ss h = (h.0, h.1, h.2, rows-steps xs h.1 h.3, h.4)

  rows-hidden : (xs : List Step) (ss : c.Stmts) → IsRow names t numbered keeps (hidden-the_row-Step-0 xs) ss → AreSteps names t numbered keeps xs ss
  rows-hidden xs ss h = subst (λ (ys : List Step). AreSteps names t numbered keeps ys ss) (items_hidden-the_row-Step-0 xs) (rows-steps (hidden-the_row-Step-0 xs) ss h)

  -- a list of no steps
  pub no_step : (xs : List Step) (ss : c.Stmts) → AreSteps names t numbered keeps xs ss → length xs < 1 → ss ≡ c.none
  unfolding AreSteps
  no_step [] ss h lt = h
  no_step (y ∷ ys) ss h lt = absurd (omega (lt, arith))

  -- the first of a list of steps, and the others
  pub first_step : (xs : List Step) (ss : c.Stmts) → AreSteps names t numbered keeps xs ss → (x : Step) → 1 ≤ length xs → x ≡ get_or xs 0 x →
      (s : c.Stmt) × (more : c.Stmts) × IsStep names t numbered keeps x s × AreSteps names t numbered keeps (take (length xs - 1) (drop 1 xs)) more × (ss ≡ c.more s more)
  unfolding AreSteps
  first_step [] ss h x lt e = absurd (omega (lt, arith))
  first_step (y ∷ ys) ss h x lt e =
      (h.0, h.1, subst (λ (z : Step). IsStep names t numbered keeps z h.0) (sym e) h.2, subst (λ (zs : List Step). AreSteps names t numbered keeps zs h.1) (sym (take_all (length (y ∷ ys) - 1) ys (omega arith))) h.3, h.4)

  module _ (step : Step) (s : c.Stmt) (is : IsStep names t numbered keeps step s) where
    at : (z : Step) → step ≡ z → IsStep names t numbered keeps z s
    at z e = subst (λ (y : Step). IsStep names t numbered keeps y s) e is

    pub step_empty : step ≡ x.Empty → s ≡ c.empty
    unfolding IsStep
    step_empty e = at x.Empty e

    pub step_block : (xs : List Step) → step ≡ x.Block xs → (body : c.Stmts) × AreSteps names t numbered keeps xs body × (s ≡ c.block body)
    unfolding IsStep
    step_block xs e = let h = at (x.Block xs) e in (h.0, rows-hidden xs h.0 h.1, h.2)

    pub step_assign : (d : Destination) (e : AnyExpr) → step ≡ x.Assign d e → (target : c.Target) × IsTarget names d target × AnyFits names e × (s ≡ c.assign target (any_in names e))
    unfolding IsStep
    step_assign d e h = at (x.Assign d e) h

    pub step_new : (q : Place) (d : Destination) (k : ℕ) → step ≡ x.New q d k → (target : c.Target) × IsTarget names d target × IsPlain names k × (s ≡ c.new_object q target (text_at names k))
    unfolding IsStep
    step_new q d k h = at (x.New q d k) h

    pub step_call : (call : CallStep) → step ≡ x.Call call → IsCall names t numbered keeps call s
    unfolding IsStep
    step_call call h = at (x.Call call) h

    pub step_branch : (e : TruthExpr) (a : Box Step Global) (xs : List Step) → step ≡ x.Branch e a xs →
        (q : Place) × (one : c.Stmt) × (other : c.Stmts) × TruthFits names e × IsStep names t numbered keeps a.value one × AreSteps names t numbered keeps xs other × (s ≡ c.branch q (truth_in names e) one other)
    unfolding IsStep
    step_branch e a xs h = let all = at (x.Branch e a xs) h in (all.0, all.1, all.2, all.3, all.4, rows-hidden xs all.2 all.5, all.6)

    pub step_loop : (e : TruthExpr) (a : Box Step Global) → step ≡ x.Loop e a → (q : Place) × (claims : List c.Claim) × (body : c.Stmt) × TruthFits names e × IsStep names t numbered keeps a.value body × (s ≡ c.loop q claims (truth_in names e) body)
    unfolding IsStep
    step_loop e a h = at (x.Loop e a) h

    pub step_return : (e : Option AnyExpr) → step ≡ x.Return e → ReturnIs names t numbered keeps e s
    unfolding IsStep
    step_return e h = at (x.Return e) h

    pub step_ask : (q : Place) (n : ℕ) → step ≡ x.Ask q n → IsAsked names t numbered keeps q n s
    unfolding IsStep
    step_ask q n h = at (x.Ask q n) h

    pub step_ghost : (k : ℕ) (q : Place) (n : ℕ) → step ≡ x.Ghost k q n → IsGhost names t numbered keeps k q n s
    unfolding IsStep
    step_ghost k q n h = at (x.Ghost k q n) h

    pub step_ghost_at : (g : GhostField) → step ≡ x.GhostAt g → IsGhostAt names t numbered keeps g s
    unfolding IsStep
    step_ghost_at g h = at (x.GhostAt g) h
