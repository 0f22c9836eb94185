-- Execution: how statements lead from where a run stands, within a budget of steps and with the objects that `new` takes.
use Rattle.std.specs.Prelude.{ℕ, zero, suc, if◌then◌else◌, List, [], ◌∷◌, Option, None, Some}
use Rattle.std.specs.Option.{option_map_or}
use Rattle.jh_name.specs.declared.place.Place.{Place}
use Rattle.jh_vars.specs.Written.{Callee}
use Rattle.jh_form.specs.Meaning.{Datum, an_object, truth, datum, term_value}
use Rattle.jh_semantics.specs.Code.{Text, ObjectCode, TruthCode, AnyCode, Target, Claim, Stmt, Stmts}
use Rattle.jh_semantics.specs.Code as c
use Rattle.jh_semantics.specs.Program.{Program, Method}
use Rattle.jh_semantics.specs.State.{State, named, shown, stored, stored_at}
use Rattle.jh_semantics.specs.Locals.{with_locals_of, entered}
use Rattle.jh_semantics.specs.Values.{Value, value, dereferenced, object_of, truth_of, value_of}
use Rattle.jh_semantics.specs.Progress.{Configuration, Progress, goes_on, returns, stops, assert_failed, steps_out, Outcome, outcome_of, then_run, pay, with_value, choose, goes_on_in}
use Rattle.jh_semantics.specs.Objects.{created, pick, target_of, put}

-- a formula of an assert or a note is asked
abbrev pub asked : Claim → Configuration → Progress
asked claim r = if truth claim.formula (shown r.now r.entry) [] then goes_on r else stops (assert_failed claim.place)

-- a ghost variable of an object gets a value, where the object is one of the class
abbrev pub ghost_stored : Place → Text → Text → ℕ → Datum → Configuration → Progress
ghost_stored p class f a d r = if r.now.set (named class) a then goes_on_in r (stored_at r.now f a d) else stops (assert_failed p)

-- The turns of a loop, at most so many: a turn pays after its condition was true and before its body.
abbrev pub turns : ℕ → TruthCode → (Configuration → Progress) → Configuration → Progress
turns zero e body r = stops steps_out
turns (suc n) e body r = with_value (truth_of e r.now) (λ b. choose b (λ r. pay r (λ r. then_run (body r) (turns n e body))) goes_on r)

-- A loop. As each turn pays, it has no more turns than there are steps.
abbrev pub loop : TruthCode → (Configuration → Progress) → Configuration → Progress
loop e body r = turns (suc r.steps) e body r

-- the arguments of a call, from the left
abbrev pub with_values : List AnyCode → State → (List Datum → Progress) → Progress
with_values [] s next = next []
with_values (e ∷ es) s next = with_value (value_of e s) (λ d. with_values es s (λ ds. next (d ∷ ds)))

-- the receiver of a call of an instance method; a static one has null
abbrev pub receiver_of : Option ObjectCode → State → Value ℕ
receiver_of None s = value 0
receiver_of (Some e) s = object_of e s

abbrev pub called_on : Option ObjectCode → Place → ℕ → Value ℕ
called_on None p a = value a
called_on (Some e) p a = dereferenced e p a

-- the value of a call; that of a void one goes nowhere
abbrev pub result_of : Option Datum → Datum
result_of None = an_object 0
result_of (Some d) = d

-- back from a call: the caller's locals and entry state again, and the result to its target
abbrev pub back : Configuration → Target → ℕ → Progress → Progress
back caller target a (goes_on r) = put target a (result_of None) (record r { now = with_locals_of r.now caller.now; entry = caller.entry })
back caller target a (returns r v) = put target a (result_of v) (record r { now = with_locals_of r.now caller.now; entry = caller.entry })
back caller target a (stops why) = stops why

-- over what a call of a method with `this` and arguments leads to: each statement pays, and then does what it says
module _ (call : Callee → ℕ → List Datum → Configuration → Progress) where
  abbrev mutual
    pub exec : Stmt → Configuration → Progress
    exec c.empty r = pay r goes_on
    exec (c.block body) r = pay r (λ r. exec_all body r)
    exec (c.assign target e) r = pay r (λ r. with_value (target_of target r.now) (λ a. with_value (value_of e r.now) (λ d. put target a d r)))
    exec (c.new_object p target class) r = pay r (λ r. with_value (target_of target r.now) (λ a. pick p r.picks r (λ x r. put target a (an_object x) (record r { now = created r.now class x }))))
    exec (c.call q target receiver p m args) r =
        pay r (λ r. with_value (target_of target r.now) (λ a. with_value (receiver_of receiver r.now) (λ x. with_values args r.now (λ ds.
        with_value (called_on receiver p x) (λ this. back r target a (call m this ds r))))))
    exec (c.branch q e a b) r = pay r (λ r. with_value (truth_of e r.now) (λ t. choose t (λ r. exec a r) (λ r. exec_all b r) r))
    exec (c.loop q invariants e body) r = pay r (λ r. loop e (λ r. exec body r) r)
    exec c.return_nothing r = pay r (λ r. returns r None)
    exec (c.return_value e) r = pay r (λ r. with_value (value_of e r.now) (λ d. returns r (Some d)))
    exec (c.assert claim) r = pay r (λ r. asked claim r)
    exec (c.note claim) r = pay r (λ r. asked claim r)
    exec (c.ghost x q v) r = pay r (λ r. goes_on_in r (stored r.now x (datum v (shown r.now r.entry) [])))
    exec (c.ghost_at p class f a q v) r = pay r (λ r. ghost_stored p class f (term_value a (shown r.now r.entry) []) (datum v (shown r.now r.entry) []) r)

    pub exec_all : Stmts → Configuration → Progress
    exec_all c.none r = goes_on r
    exec_all (c.more s ss) r = then_run (exec s r) (λ r. exec_all ss r)

-- where the body of a method begins, with the state as its entry state
abbrev pub at_entry : Method → ℕ → List Datum → Configuration → Configuration
at_entry m this args r = record r { now = entered m this args r.now; entry = r.now }

-- Calls, at most so deep: a call pays, and runs the body of the method. Where there is no such method, which no typed program calls,
-- it does nothing.
abbrev pub calls : ℕ → Program → Callee → ℕ → List Datum → Configuration → Progress
calls zero p m this args r = stops steps_out
calls (suc n) p m this args r =
    pay r (λ r. option_map_or (λ (x : Method). exec_all (calls n p) x.body (at_entry x this args r)) (p.method m) (goes_on r))

-- A call. As each call pays, it is no deeper than there are steps.
abbrev pub call : Program → Callee → ℕ → List Datum → Configuration → Progress
call p m this args r = calls (suc r.steps) p m this args r

-- A run of a method from a state, with `this` and arguments, a list of objects for `new` to take, and a number of steps.
abbrev pub run : Program → Callee → State → ℕ → List Datum → List ℕ → ℕ → Outcome
run p m first this args picks k = outcome_of (call p m this args (record { now = first; entry = first; picks = picks; steps = k }))
