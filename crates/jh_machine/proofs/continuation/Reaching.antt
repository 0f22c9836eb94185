-- Where runs lead, by what is still to be done.
use Rattle.std.proofs.Common.{◌≡◌, refl, sym, ap, subst, ◌∙◌, ◌⊎◌, inl, inr, ℕ, suc, Bool, true, false, List, [], ◌∷◌, Option, Some, None}
use Rattle.std.specs.Option.{option_map_or}
use Rattle.jh_name.specs.declared.place.Place.{Place}
use Rattle.jh_form.specs.Meaning.{Datum}
use Rattle.jh_vars.specs.Written.{Callee}
use Rattle.jh_semantics.specs.Code.{TruthCode, AnyCode, ObjectCode, Target, Stmt, Stmts, Claim}
use Rattle.jh_semantics.specs.Code as c
use Rattle.jh_semantics.specs.Program.{Program, Method}
use Rattle.jh_semantics.specs.Values.{Value, value, null_at, truth_of}
use Rattle.jh_semantics.specs.Objects.{target_of, put}
use Rattle.jh_semantics.specs.Progress.{Configuration, Progress, goes_on, returns, stops, Stop, null_dereferenced, Outcome, stopped, outcome_of, then_run, pay, pay_from, with_value, choose}
use Rattle.jh_semantics.specs.Execution.{exec, exec_all, loop, back, call, at_entry, receiver_of, called_on, with_values, result_of}
use Rattle.jh_semantics.specs.Laws.{runs, LoopsUnfold, CallsUnfold}
use Rattle.jh_operands.specs.Faults.{TruthOverflows}
use Rattle.jh_machine.specs.declared.continuation.stop.Stop as code
use Rattle.jh_machine.specs.declared.continuation.stop.Stop.TheVariants as s
use Rattle.jh_machine.specs.continuation.Stops.{StopsAs}
use Rattle.jh_machine.specs.continuation.Overflows.{Paid, AreValues, StmtOverflows, DoneOverflows, AllOverflows, LoopOverflows, CallOverflows, paid, own, in_block, in_first, in_second, in_loop, in_call, in_one, in_rest, in_test, in_turn, in_later, in_body, OwnOverflows}
use Rattle.jh_machine.specs.continuation.Todos.{Todo, rest, one, turn, return_to, through, resume, TodoOverflows, StackOverflows, Reaches, EndsAs}
use Rattle.jh_machine.specs.continuation.Done.{done, Else}

-- what stops leaves out all that is to be done
pub resume-stops : (p : Program) (ks : List Todo) (why : Stop) → resume p ks (stops why) ≡ stopped why
unfolding resume through
resume-stops p [] why = refl
resume-stops p (rest ss ∷ ks) why = resume-stops p ks why
resume-stops p (one s ∷ ks) why = resume-stops p ks why
resume-stops p (turn e body ∷ ks) why = resume-stops p ks why
resume-stops p (return_to caller target a ∷ ks) why = resume-stops p ks why

-- a statement pays, and then does what it says
pub exec-done : (p : Program) (s : Stmt) (r : Configuration) → exec (call p) s r ≡ pay r (done p s)
unfolding done
exec-done p c.empty r = refl
exec-done p (c.block body) r = refl
exec-done p (c.assign target e) r = refl
exec-done p (c.new_object q target class) r = refl
exec-done p (c.call q target receiver place m args) r = refl
exec-done p (c.branch q e a b) r = refl
exec-done p (c.loop q invariants e body) r = refl
exec-done p c.return_nothing r = refl
exec-done p (c.return_value e) r = refl
exec-done p (c.assert claim) r = refl
exec-done p (c.note claim) r = refl
exec-done p (c.ghost x q v) r = refl
exec-done p (c.ghost_at l class f a q v) r = refl

-- to pay where a step is left
pub pay-goes : (r u : Configuration) (next : Configuration → Progress) → Paid r u → pay r next ≡ next u
pay-goes r u next h = ap (λ k. pay_from k r next) h.one ∙ ap next (sym h.is)

module _ (p : Program) where
  -- what comes of where a run leads, comes of where it began
  pub then_reaches : (end : Outcome) (Overflows : Place → Type 0) (ks : List Todo) (x : Progress) (js : List Todo) (y : Progress) → Reaches p end Overflows ks x →
      Reaches p (resume p ks x) (λ place. StackOverflows p place ks x) js y → Reaches p end Overflows js y
  then_reaches end Overflows ks x js y g h = record { same = h.same ∙ g.same; faults = λ place f. g.faults place (h.faults place f) }

  -- a way that leads to the same
  pub same_reaches : (ks : List Todo) (x y : Progress) → x ≡ y → Reaches p (resume p ks x) (λ place. StackOverflows p place ks x) ks y
  same_reaches ks x y e = record { same = ap (resume p ks) (sym e); faults = λ place f. subst (λ (z : Progress). StackOverflows p place ks z) (sym e) f }

  -- a statement that was paid and went on
  pub went_on : (s : Stmt) (u v : Configuration) (ks : List Todo) → done p s u ≡ goes_on v → Reaches p (resume p ks (done p s u)) (Else p s u ks) ks (goes_on v)
  went_on s u v ks e = record { same = ap (resume p ks) (sym e); faults = λ place f. inr (subst (λ (z : Progress). StackOverflows p place ks z) (sym e) f) }

  pub block_reaches : (body : Stmts) (u : Configuration) (ks : List Todo) → Reaches p (resume p ks (done p (c.block body) u)) (Else p (c.block body) u ks) (rest body ∷ ks) (goes_on u)
  unfolding done resume through StackOverflows TodoOverflows
  block_reaches body u ks = record { same = refl; faults = λ place f. by place f }
    where
      by : (place : Place) → AllOverflows p place body u ⊎ StackOverflows p place ks (exec_all (call p) body u) → DoneOverflows p place (c.block body) u ⊎ StackOverflows p place ks (exec_all (call p) body u)
      by place (inl a) = inl (in_block a)
      by place (inr b) = inr b

  module _ (q : Place) (e : TruthCode) (a : Stmt) (b : Stmts) (u : Configuration) (ks : List Todo) where
    tested : (t : Bool) → truth_of e u.now ≡ value t → done p (c.branch q e a b) u ≡ choose t (λ r. exec (call p) a r) (λ r. exec_all (call p) b r) u
    unfolding done
    tested t is = ap (λ v. with_value v (λ t. choose t (λ r. exec (call p) a r) (λ r. exec_all (call p) b r) u)) is

    pub first_reaches : truth_of e u.now ≡ value true → Reaches p (resume p ks (done p (c.branch q e a b) u)) (Else p (c.branch q e a b) u ks) (one a ∷ ks) (goes_on u)
    unfolding resume through StackOverflows TodoOverflows
    first_reaches is = record { same = ap (resume p ks) (sym (tested true is)); faults = λ place f. by place f }
      where
        by : (place : Place) → StmtOverflows p place a u ⊎ StackOverflows p place ks (exec (call p) a u) → Else p (c.branch q e a b) u ks place
        by place (inl f) = inl (in_first is f)
        by place (inr f) = inr (subst (λ (z : Progress). StackOverflows p place ks z) (sym (tested true is)) f)

    pub second_reaches : truth_of e u.now ≡ value false → Reaches p (resume p ks (done p (c.branch q e a b) u)) (Else p (c.branch q e a b) u ks) (rest b ∷ ks) (goes_on u)
    unfolding resume through StackOverflows TodoOverflows
    second_reaches is = record { same = ap (resume p ks) (sym (tested false is)); faults = λ place f. by place f }
      where
        by : (place : Place) → AllOverflows p place b u ⊎ StackOverflows p place ks (exec_all (call p) b u) → Else p (c.branch q e a b) u ks place
        by place (inl f) = inl (in_second is f)
        by place (inr f) = inr (subst (λ (z : Progress). StackOverflows p place ks z) (sym (tested false is)) f)

  pub loop_reaches : (q : Place) (claims : List Claim) (e : TruthCode) (body : Stmt) (u : Configuration) (ks : List Todo) →
      Reaches p (resume p ks (done p (c.loop q claims e body) u)) (Else p (c.loop q claims e body) u ks) (turn e body ∷ ks) (goes_on u)
  unfolding done resume through StackOverflows TodoOverflows
  loop_reaches q claims e body u ks = record { same = refl; faults = λ place f. by place f }
    where
      by : (place : Place) → LoopOverflows p place e body u ⊎ StackOverflows p place ks (loop e (λ r. exec (call p) body r) u) →
          DoneOverflows p place (c.loop q claims e body) u ⊎ StackOverflows p place ks (loop e (λ r. exec (call p) body r) u)
      by place (inl f) = inl (in_loop f)
      by place (inr f) = inr f

  -- the first of a list of statements, and then the rest
  pub more_reaches : (s : Stmt) (ss : Stmts) (u : Configuration) (ks : List Todo) →
      Reaches p (resume p (rest (c.more s ss) ∷ ks) (goes_on u)) (λ place. StackOverflows p place (rest (c.more s ss) ∷ ks) (goes_on u)) (one s ∷ rest ss ∷ ks) (goes_on u)
  unfolding resume through StackOverflows TodoOverflows
  more_reaches s ss u ks = record { same = refl; faults = λ place f. by place f }
    where
      later : (place : Place) (x : Progress) → exec (call p) s u ≡ x → TodoOverflows p place (rest ss) x → AllOverflows p place (c.more s ss) u
      later place (goes_on v) is f = in_rest is f
      later place (returns v d) is f = absurd f
      later place (stops why) is f = absurd f

      by : (place : Place) → StmtOverflows p place s u ⊎ (TodoOverflows p place (rest ss) (exec (call p) s u) ⊎ StackOverflows p place ks (then_run (exec (call p) s u) (λ r. exec_all (call p) ss r))) →
          AllOverflows p place (c.more s ss) u ⊎ StackOverflows p place ks (then_run (exec (call p) s u) (λ r. exec_all (call p) ss r))
      by place (inl f) = inl (in_one f)
      by place (inr (inl f)) = inl (later place (exec (call p) s u) refl f)
      by place (inr (inr f)) = inr f

  -- no statement is left
  pub none_reaches : (u : Configuration) (ks : List Todo) → Reaches p (resume p (rest c.none ∷ ks) (goes_on u)) (λ place. StackOverflows p place (rest c.none ∷ ks) (goes_on u)) ks (goes_on u)
  unfolding resume through StackOverflows TodoOverflows
  none_reaches u ks = record { same = refl; faults = λ place f. inr f }

  -- a statement that pays
  pub paid_reaches : (s : Stmt) (r u : Configuration) (ks js : List Todo) (x : Progress) → Paid r u → Reaches p (resume p ks (done p s u)) (Else p s u ks) js x →
      Reaches p (resume p (one s ∷ ks) (goes_on r)) (λ place. StackOverflows p place (one s ∷ ks) (goes_on r)) js x
  unfolding resume through StackOverflows TodoOverflows
  paid_reaches s r u ks js x pays h = record { same = h.same ∙ ap (resume p ks) (sym is); faults = λ place f. by place (h.faults place f) }
    where
      is : exec (call p) s r ≡ done p s u
      is = exec-done p s r ∙ pay-goes r u (done p s) pays

      by : (place : Place) → Else p s u ks place → StmtOverflows p place s r ⊎ StackOverflows p place ks (exec (call p) s r)
      by place (inl f) = inl (paid pays f)
      by place (inr f) = inr (subst (λ (z : Progress). StackOverflows p place ks z) (sym is) f)

  module _ (unfolds : LoopsUnfold p) (e : TruthCode) (body : Stmt) (r : Configuration) (ks : List Todo) where
    the_loop : Progress
    the_loop = loop e (λ u. exec (call p) body u) r

    looked : (t : Bool) → truth_of e r.now ≡ value t → loop e (λ u. exec (call p) body u) r ≡ choose t (λ r. pay r (λ r. then_run (runs p body r) (loop e (runs p body)))) goes_on r
    looked t is = unfolds e body r ∙ ap (λ v. with_value v (λ b. choose b (λ r. pay r (λ r. then_run (runs p body r) (loop e (runs p body)))) goes_on r)) is

    -- a loop whose condition is false
    pub ended_reaches : truth_of e r.now ≡ value false → Reaches p (resume p (turn e body ∷ ks) (goes_on r)) (λ place. StackOverflows p place (turn e body ∷ ks) (goes_on r)) ks (goes_on r)
    unfolding resume through StackOverflows TodoOverflows
    ended_reaches is = record { same = ap (resume p ks) (sym (looked false is)); faults = λ place f. inr (subst (λ (z : Progress). StackOverflows p place ks z) (sym (looked false is)) f) }

    -- a turn that pays, and then the loop again
    pub turn_reaches : (u : Configuration) → truth_of e r.now ≡ value true → Paid r u →
        Reaches p (resume p (turn e body ∷ ks) (goes_on r)) (λ place. StackOverflows p place (turn e body ∷ ks) (goes_on r)) (one body ∷ turn e body ∷ ks) (goes_on u)
    unfolding resume through StackOverflows TodoOverflows
    turn_reaches u is pays = record { same = ap (resume p ks) (sym all); faults = λ place f. by place f }
      where
        all : loop e (λ u. exec (call p) body u) r ≡ then_run (exec (call p) body u) (λ v. loop e (λ u. exec (call p) body u) v)
        all = looked true is ∙ pay-goes r u (λ r. then_run (runs p body r) (loop e (runs p body))) pays

        later : (place : Place) (x : Progress) → exec (call p) body u ≡ x → TodoOverflows p place (turn e body) x → LoopOverflows p place e body r
        later place (goes_on v) same f = in_later is pays same f
        later place (returns v d) same f = absurd f
        later place (stops why) same f = absurd f

        by : (place : Place) → StmtOverflows p place body u ⊎ (TodoOverflows p place (turn e body) (exec (call p) body u) ⊎ StackOverflows p place ks (then_run (exec (call p) body u) (λ v. loop e (λ u. exec (call p) body u) v))) →
            LoopOverflows p place e body r ⊎ StackOverflows p place ks (loop e (λ u. exec (call p) body u) r)
        by place (inl f) = inl (in_turn is pays f)
        by place (inr (inl f)) = inl (later place (exec (call p) body u) refl f)
        by place (inr (inr f)) = inr (subst (λ (z : Progress). StackOverflows p place ks z) (sym all) f)

  -- what a call leads to, with what is to be done behind it
  module _ (unfolds : CallsUnfold p) (m : Callee) (this : ℕ) (args : List Datum) (r u : Configuration) (pays : Paid r u) (ks : List Todo) where
    called : (x : Option Method) → p.method m ≡ x → call p m this args r ≡ option_map_or (λ (y : Method). exec_all (call p) y.body (at_entry y this args u)) x (goes_on u)
    called x is =
        unfolds m this args r ∙ pay-goes r u (λ r. option_map_or (λ (x : Method). exec_all (call p) x.body (at_entry x this args r)) (p.method m) (goes_on r)) pays
        ∙ ap (λ z. option_map_or (λ (y : Method). exec_all (call p) y.body (at_entry y this args u)) z (goes_on u)) is

    pub entered_reaches : (x : Method) → p.method m ≡ Some x →
        Reaches p (resume p ks (call p m this args r)) (λ place. CallOverflows p place m this args r ⊎ StackOverflows p place ks (call p m this args r)) (rest x.body ∷ ks) (goes_on (at_entry x this args u))
    unfolding resume through StackOverflows TodoOverflows
    entered_reaches x is = record { same = ap (resume p ks) (sym (called (Some x) is)); faults = λ place f. by place f }
      where
        by : (place : Place) → AllOverflows p place x.body (at_entry x this args u) ⊎ StackOverflows p place ks (exec_all (call p) x.body (at_entry x this args u)) →
            CallOverflows p place m this args r ⊎ StackOverflows p place ks (call p m this args r)
        by place (inl f) = inl (in_body pays is f)
        by place (inr f) = inr (subst (λ (z : Progress). StackOverflows p place ks z) (sym (called (Some x) is)) f)

    pub absent_reaches : p.method m ≡ None →
        Reaches p (resume p ks (call p m this args r)) (λ place. CallOverflows p place m this args r ⊎ StackOverflows p place ks (call p m this args r)) ks (goes_on u)
    absent_reaches is = record { same = ap (resume p ks) (sym (called None is)); faults = λ place f. inr (subst (λ (z : Progress). StackOverflows p place ks z) (sym (called None is)) f) }

  -- the end of a call
  pub back_reaches : (caller : Configuration) (target : Target) (a : ℕ) (x : Progress) (v : Configuration) (ks : List Todo) → back caller target a x ≡ goes_on v →
      Reaches p (resume p (return_to caller target a ∷ ks) x) (λ place. StackOverflows p place (return_to caller target a ∷ ks) x) ks (goes_on v)
  unfolding resume through StackOverflows
  back_reaches caller target a x v ks is = record { same = ap (resume p ks) (sym is); faults = λ place f. inr (subst (λ (z : Progress). StackOverflows p place ks z) (sym is) f) }

  -- what returns leaves out all that is to be done in its method
  pub rest_passes : (ss : Stmts) (u : Configuration) (d : Option Datum) (ks : List Todo) → Reaches p (resume p (rest ss ∷ ks) (returns u d)) (λ place. StackOverflows p place (rest ss ∷ ks) (returns u d)) ks (returns u d)
  unfolding resume through StackOverflows
  rest_passes ss u d ks = record { same = refl; faults = λ place f. inr f }

  pub one_passes : (s : Stmt) (u : Configuration) (d : Option Datum) (ks : List Todo) → Reaches p (resume p (one s ∷ ks) (returns u d)) (λ place. StackOverflows p place (one s ∷ ks) (returns u d)) ks (returns u d)
  unfolding resume through StackOverflows
  one_passes s u d ks = record { same = refl; faults = λ place f. inr f }

  pub turn_passes : (e : TruthCode) (body : Stmt) (u : Configuration) (d : Option Datum) (ks : List Todo) → Reaches p (resume p (turn e body ∷ ks) (returns u d)) (λ place. StackOverflows p place (turn e body ∷ ks) (returns u d)) ks (returns u d)
  unfolding resume through StackOverflows
  turn_passes e body u d ks = record { same = refl; faults = λ place f. inr f }

  -- a stop of a statement, or of what else was to be done first, is how the run ends
  pub stops-end : (ks : List Todo) (x : Progress) (Own : Place → Type 0) (Overflows : Place → Type 0) (why : code.Stop) → StopsAs x Own why → ((place : Place) → Own place → Overflows place) → EndsAs (resume p ks x) Overflows why
  unfolding StopsAs EndsAs
  stops-end ks x Own Overflows (s.Null q) h f = ap (resume p ks) h ∙ resume-stops p ks _
  stops-end ks x Own Overflows (s.AssertFailed q) h f = ap (resume p ks) h ∙ resume-stops p ks _
  stops-end ks x Own Overflows (s.NoObject q) h f = ap (resume p ks) h ∙ resume-stops p ks _
  stops-end ks x Own Overflows s.StepsOut h f = ap (resume p ks) h ∙ resume-stops p ks _
  stops-end ks x Own Overflows (s.Overflow q) h f = f q h
  stops-end ks x Own Overflows s.Memory h f = tt

  -- the same end, where it is known of another
  pub ends_there : (x y : Outcome) (Less More : Place → Type 0) (why : code.Stop) → x ≡ y → ((place : Place) → Less place → More place) → EndsAs x Less why → EndsAs y More why
  unfolding EndsAs
  ends_there x y Less More (s.Null q) e f h = sym e ∙ h
  ends_there x y Less More (s.AssertFailed q) e f h = sym e ∙ h
  ends_there x y Less More (s.NoObject q) e f h = sym e ∙ h
  ends_there x y Less More s.StepsOut e f h = sym e ∙ h
  ends_there x y Less More (s.Overflow q) e f h = f q h
  ends_there x y Less More s.Memory e f h = tt
