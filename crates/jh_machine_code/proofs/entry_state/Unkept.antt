-- Steps whose formulas hang on the state now alone, where the state at entry isn't kept.
use Rattle.std.proofs.Common.{◌≡◌, refl, ap, ◌∙◌, ℕ, Bool, true, false, ◌&&◌, List, [], ◌∷◌, Option, None, Some}
use Rattle.std.specs.List.{list_all}
use Rattle.std.specs.declared.alloc.Global.{Global}
use Rattle.std.specs.declared.boxed.Box.{Box}
use Rattle.jh_name.specs.declared.naming.Name.{Name}
use Rattle.jh_name.specs.declared.place.Place.{Place}
use Rattle.jh_form.specs.Tree.{of_object, of_truth}
use Rattle.jh_form.proofs.ClosedLemmas.{both-left, both-right}
use Rattle.jh_arena.specs.table.Entries.{Listing}
use Rattle.jh_arena.specs.table.Growth.{Extends}
use Rattle.jh_semantics.specs.jh_vars.Written.{Callee}
use Rattle.jh_semantics.specs.Code as c
use Rattle.jh_operands.specs.declared.exprs.ObjectExpr.{ObjectExpr}
use Rattle.jh_operands.specs.declared.exprs.TruthExpr.{TruthExpr}
use Rattle.jh_operands.specs.declared.exprs.AnyExpr.{AnyExpr}
use Rattle.jh_machine_code.specs.declared.code.destination.Destination.{Destination}
use Rattle.jh_machine_code.specs.declared.code.step.CallStep.{CallStep}
use Rattle.jh_machine_code.specs.declared.code.step.GhostField.{GhostField}
use Rattle.jh_machine_code.specs.declared.code.step.Step.{Step, Row_of-Step, end_of-Step, more_of-Step, items-the_row-Step, items_hidden-the_row-Step-0}
use Rattle.jh_machine_code.specs.declared.code.step.Step.TheBlock.{hidden-the_row-Step-0}
use Rattle.jh_machine_code.specs.declared.code.step.Step.TheVariants as x
use Rattle.jh_machine_code.specs.code.Steps.{ReceiverIs, AllFit, IsCall, ReturnIs, IsAsked, IsGhost, IsGhostAt, IsStep, IsRow, AreSteps}
use Rattle.jh_machine_code.specs.entry_state.Now.{reads_now, step_now, row_now, steps_now, NothingRecalled}
use Rattle.jh_machine_code.proofs.entry_state.Hanging.{node-unkept}

-- a list of steps as it stands inside a step
module _ (t : Listing) where
  row-items : {n : _} (xs : Row_of-Step n) → row_now t xs ≡ steps_now t (items-the_row-Step n xs)
  unfolding row_now
  row-items end_of-Step = refl
  row-items (more_of-Step a xs) = ap (λ b. step_now t a && b) (row-items xs)

  row-hidden : (xs : List Step) → row_now t (hidden-the_row-Step-0 xs) ≡ steps_now t xs
  row-hidden xs = row-items (hidden-the_row-Step-0 xs) ∙ ap (steps_now t) (items_hidden-the_row-Step-0 xs)

  pub block-now : (xs : List Step) → step_now t (x.Block xs) ≡ steps_now t xs
  unfolding step_now
  block-now xs = row-hidden xs

  pub branch-now : (test : TruthExpr) (a : Box Step Global) (xs : List Step) → step_now t (x.Branch test a xs) ≡ (step_now t a.value && steps_now t xs)
  unfolding step_now
  branch-now test a xs = ap (λ b. step_now t a.value && b) (row-hidden xs)

  pub loop-now : (test : TruthExpr) (a : Box Step Global) → step_now t (x.Loop test a) ≡ step_now t a.value
  unfolding step_now
  loop-now test a = refl

  pub ask-now : (q : Place) (n : ℕ) → step_now t (x.Ask q n) ≡ reads_now t n
  unfolding step_now
  ask-now q n = refl

  pub ghost-now : (k : ℕ) (q : Place) (n : ℕ) → step_now t (x.Ghost k q n) ≡ reads_now t n
  unfolding step_now
  ghost-now k q n = refl

  pub empty-now : step_now t x.Empty ≡ true
  unfolding step_now
  empty-now = refl

  pub assign-now : (d : Destination) (e : AnyExpr) → step_now t (x.Assign d e) ≡ true
  unfolding step_now
  assign-now d e = refl

  pub new-now : (q : Place) (d : Destination) (k : ℕ) → step_now t (x.New q d k) ≡ true
  unfolding step_now
  new-now q d k = refl

  pub call-now : (call : CallStep) → step_now t (x.Call call) ≡ true
  unfolding step_now
  call-now call = refl

  pub return-now : (e : Option AnyExpr) → step_now t (x.Return e) ≡ true
  unfolding step_now
  return-now e = refl

  pub ghost_at-now : (g : GhostField) → step_now t (x.GhostAt g) ≡ (reads_now t g.object && reads_now t g.value)
  unfolding step_now
  ghost_at-now g = refl

module _ (names : List Name) (t u : Listing) (numbered : Callee → Option ℕ) (much : Extends t u) where
  -- receivers, arguments and results have no formulas
  receiver-unkept : (r : Option ObjectExpr) (code : Option c.ObjectCode) → ReceiverIs names u numbered true r code → ReceiverIs names u numbered false r code
  unfolding ReceiverIs
  receiver-unkept None code is = is
  receiver-unkept (Some e) code is = is

  arguments-unkept : (es : List AnyExpr) → AllFit names u numbered true es → AllFit names u numbered false es
  unfolding AllFit
  arguments-unkept [] fit = fit
  arguments-unkept (e ∷ es) (first, fit) = (first, arguments-unkept es fit)

  call-unkept : (call : CallStep) (s : c.Stmt) → IsCall names u numbered true call s → IsCall names u numbered false call s
  call-unkept call s is = record {
    place = is.place;
    target = is.target;
    receiver = is.receiver;
    method = is.method;
    goes = is.goes;
    on = receiver-unkept call.receiver is.receiver is.on;
    number = is.number;
    fit = arguments-unkept call.args is.fit;
    is = is.is;
  }

  return-unkept : (e : Option AnyExpr) (s : c.Stmt) → ReturnIs names u numbered true e s → ReturnIs names u numbered false e s
  unfolding ReturnIs
  return-unkept None s is = is
  return-unkept (Some e) s is = is

  asked-unkept : (q : Place) (n : ℕ) (s : c.Stmt) → reads_now t n ≡ true → IsAsked names u numbered true q n s → IsAsked names u numbered false q n s
  asked-unkept q n s now is = record { claim = is.claim; there = node-unkept t u much n (of_truth is.claim.formula) is.there.there now; at = is.at; is = is.is }

  ghost-unkept : (k : ℕ) (q : Place) (n : ℕ) (s : c.Stmt) → reads_now t n ≡ true → IsGhost names u numbered true k q n s → IsGhost names u numbered false k q n s
  ghost-unkept k q n s now is = record { value = is.value; named = is.named; there = node-unkept t u much n is.value is.there.there now; is = is.is }

  ghost_at-unkept : (g : GhostField) (s : c.Stmt) → (reads_now t g.object && reads_now t g.value) ≡ true → IsGhostAt names u numbered true g s → IsGhostAt names u numbered false g s
  ghost_at-unkept g s now is = record {
    object = is.object;
    value = is.value;
    class = is.class;
    field = is.field;
    at = node-unkept t u much g.object (of_object is.object) is.at.there (both-left (reads_now t g.object) (reads_now t g.value) now);
    there = node-unkept t u much g.value is.value is.there.there (both-right (reads_now t g.object) (reads_now t g.value) now);
    is = is.is;
  }

  mutual
    unfolding step_now row_now IsStep IsRow

    step-unkept : (a : Step) (s : c.Stmt) → step_now t a ≡ true → IsStep names u numbered true a s → IsStep names u numbered false a s
    step-unkept x.Empty s now is = is
    step-unkept (x.Block' shape xs) s now (body, are, same) = (body, row-unkept xs body now are, same)
    step-unkept (x.Assign d e) s now is = is
    step-unkept (x.New q d k) s now is = is
    step-unkept (x.Call call) s now is = call-unkept call s is
    step-unkept (x.Branch' e i a shape xs) s now (q, one, other, fits, first, second, same) =
        (q, one, other, fits, step-unkept a one (both-left (step_now t a) (row_now t xs) now) first, row-unkept xs other (both-right (step_now t a) (row_now t xs) now) second, same)
    step-unkept (x.Loop' e i a) s now (q, claims, body, fits, inner, same) = (q, claims, body, fits, step-unkept a body now inner, same)
    step-unkept (x.Return e) s now is = return-unkept e s is
    step-unkept (x.Ask q n) s now is = asked-unkept q n s now is
    step-unkept (x.Ghost k q n) s now is = ghost-unkept k q n s now is
    step-unkept (x.GhostAt g) s now is = ghost_at-unkept g s now is

    row-unkept : {n : _} (xs : Row_of-Step n) (ss : c.Stmts) → row_now t xs ≡ true → IsRow names u numbered true xs ss → IsRow names u numbered false xs ss
    row-unkept end_of-Step ss now are = are
    row-unkept (more_of-Step a xs) ss now (s, rest, is, are, same) =
        (s, rest, step-unkept a s (both-left (step_now t a) (row_now t xs) now) is, row-unkept xs rest (both-right (step_now t a) (row_now t xs) now) are, same)

  steps-unkept : (xs : List Step) (ss : c.Stmts) → steps_now t xs ≡ true → AreSteps names u numbered true xs ss → AreSteps names u numbered false xs ss
  unfolding AreSteps
  steps-unkept [] ss now are = are
  steps-unkept (a ∷ xs) ss now (s, rest, is, are, same) =
      (s, rest, step-unkept a s (both-left (step_now t a) (steps_now t xs) now) is, steps-unkept xs rest (both-right (step_now t a) (steps_now t xs) now) are, same)

pub nothing-recalled : NothingRecalled
nothing-recalled names t u numbered xs ss much now are = steps-unkept names t u numbered much xs ss now are
