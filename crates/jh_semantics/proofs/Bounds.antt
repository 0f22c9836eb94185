-- The bounds on the turns of loops and on the depth of calls end no run.
use Rattle.std.proofs.Common.{◌≡◌, refl, ap, ◌∙◌, ℕ, zero, suc, ◌≤◌, ◌<◌, Bool, true, false, List, [], ◌∷◌, Option, None, Some, arith}
use Rattle.std.specs.Option.{option_map_or}
use Rattle.jh_vars.specs.Written.{Callee}
use Rattle.jh_form.specs.Meaning.{Datum}
use Rattle.jh_semantics.specs.Code.{TruthCode, AnyCode, Stmt, Stmts}
use Rattle.jh_semantics.specs.Code as c
use Rattle.jh_semantics.specs.Program.{Program, Method}
use Rattle.jh_semantics.specs.State.{State}
use Rattle.jh_semantics.specs.Values.{Value, value, null_at, truth_of, value_of}
use Rattle.jh_semantics.specs.Progress.{Configuration, Progress, goes_on, returns, stops, then_run, pay, pay_from, with_value, choose}
use Rattle.jh_semantics.specs.Objects.{target_of}
use Rattle.jh_semantics.specs.Execution.{turns, loop, with_values, receiver_of, called_on, back, exec, exec_all, at_entry, calls, call}
use Rattle.jh_semantics.specs.Laws.{runs, BoundsEndNoRun, LoopsUnfold, CallsUnfold}
use Rattle.jh_semantics.proofs.Steps.{AtMost, NeverGains, exec-left, calls-never-gain}

-- what leads on in the same way leads to the same
same-pay : (r : Configuration) (f g : Configuration → Progress) → ((j : ℕ) → suc j ≡ r.steps → f (record r { steps = j }) ≡ g (record r { steps = j })) → pay r f ≡ pay r g
same-pay r f g h = from r.steps refl
  where
    from : (k : ℕ) → k ≡ r.steps → pay_from k r f ≡ pay_from k r g
    from zero e = refl
    from (suc j) e = h j e

same-value : {X : Type 0} (v : Value X) (f g : X → Progress) → ((x : X) → f x ≡ g x) → with_value v f ≡ with_value v g
same-value (value x) f g h = h x
same-value (null_at p) f g h = refl

same-values : (es : List AnyCode) (s : State) (f g : List Datum → Progress) → ((ds : List Datum) → f ds ≡ g ds) → with_values es s f ≡ with_values es s g
same-values [] s f g h = h []
same-values (e ∷ es) s f g h =
    same-value (value_of e s) (λ d. with_values es s (λ ds. f (d ∷ ds))) (λ d. with_values es s (λ ds. g (d ∷ ds))) (λ d.
    same-values es s (λ ds. f (d ∷ ds)) (λ ds. g (d ∷ ds)) (λ ds. h (d ∷ ds)))

same-choose : (b : Bool) (f g h i : Configuration → Progress) (r : Configuration) → f r ≡ g r → h r ≡ i r → choose b f h r ≡ choose b g i r
same-choose true f g h i r p q = p
same-choose false f g h i r p q = q

same-then : (k : ℕ) (x : Progress) (f g : Configuration → Progress) → AtMost k x → ((u : Configuration) → u.steps ≤ k → f u ≡ g u) → then_run x f ≡ then_run x g
same-then k (goes_on r) f g h e = e r h
same-then k (returns r v) f g h e = refl
same-then k (stops why) f g h e = refl

-- both lead on in the same way from where no more than so many steps are left
abbrev SameTo : ℕ → (Configuration → Progress) → (Configuration → Progress) → Type 0
SameTo k f g = (u : Configuration) → u.steps ≤ k → f u ≡ g u

abbrev Falls : (Configuration → Progress) → Type 0
Falls f = (k : ℕ) (u : Configuration) → u.steps ≤ k → AtMost k (f u)

-- a turn, with what comes after it
abbrev turn : TruthCode → (Configuration → Progress) → (Configuration → Progress) → Configuration → Progress
turn e body next r = with_value (truth_of e r.now) (λ b. choose b (λ r. pay r (λ r. then_run (body r) next)) goes_on r)

-- the turns after the first have fewer steps
same-turn : (e : TruthCode) (body f g : Configuration → Progress) → Falls body → (r : Configuration) → ((j : ℕ) → suc j ≡ r.steps → SameTo j f g) → turn e body f r ≡ turn e body g r
same-turn e body f g falls r h =
    same-value (truth_of e r.now) (λ b. choose b (λ u. pay u (λ v. then_run (body v) f)) goes_on r) (λ b. choose b (λ u. pay u (λ v. then_run (body v) g)) goes_on r) (λ b.
    same-choose b (λ u. pay u (λ v. then_run (body v) f)) (λ u. pay u (λ v. then_run (body v) g)) goes_on goes_on r
    (same-pay r (λ v. then_run (body v) f) (λ v. then_run (body v) g) (λ j q.
    same-then j (body (record r { steps = j })) f g (falls j (record r { steps = j }) (omega arith)) (h j q)))
    refl)

none_below : (k : ℕ) → k < zero → ⊥
none_below k h = omega (h, arith)

-- more turns than steps are enough
same-turns : (n m k : ℕ) (e : TruthCode) (body : Configuration → Progress) → Falls body → k < n → k < m → SameTo k (turns n e body) (turns m e body)
same-turns zero m k e body falls g h u i = elim (none_below k g) [ ]
same-turns (suc n) zero k e body falls g h u i = elim (none_below k h) [ ]
same-turns (suc n) (suc m) k e body falls g h u i =
    same-turn e body (turns n e body) (turns m e body) falls u (λ j q. same-turns n m j e body falls (omega arith) (omega arith))

-- the same turns of two bodies
same-bodies : (n k : ℕ) (e : TruthCode) (a b : Configuration → Progress) → Falls a → SameTo k a b → SameTo k (turns n e a) (turns n e b)
same-bodies zero k e a b falls h u i = refl
same-bodies (suc n) k e a b falls h u i =
    same-value (truth_of e u.now) (λ t. choose t (λ v. pay v (λ w. then_run (a w) (turns n e a))) goes_on u) (λ t. choose t (λ v. pay v (λ w. then_run (b w) (turns n e b))) goes_on u) (λ t.
    same-choose t (λ v. pay v (λ w. then_run (a w) (turns n e a))) (λ v. pay v (λ w. then_run (b w) (turns n e b))) goes_on goes_on u
    (same-pay u (λ w. then_run (a w) (turns n e a)) (λ w. then_run (b w) (turns n e b)) (λ j q.
    same-then k (a (record u { steps = j })) (turns n e a) (turns n e b) (falls k (record u { steps = j }) (omega arith)) (same-bodies n k e a b falls h)
    ∙ ap (λ x. then_run x (turns n e b)) (h (record u { steps = j }) (omega arith))))
    refl)

-- both calls are the same from where no more than so many steps are left
abbrev Agree : ℕ → (f g : Callee → ℕ → List Datum → Configuration → Progress) → Type 0
Agree k f g = (m : Callee) (this : ℕ) (args : List Datum) → SameTo k (f m this args) (g m this args)

module _ (f g : Callee → ℕ → List Datum → Configuration → Progress) (falls : NeverGains f) (k : ℕ) (agree : Agree k f g) where
  mutual
    same-exec : (s : Stmt) → SameTo k (exec f s) (exec g s)
    same-exec c.empty u i = refl
    same-exec (c.block body) u i = same-pay u (λ v. exec_all f body v) (λ v. exec_all g body v) (λ j q. same-all body (record u { steps = j }) (omega arith))
    same-exec (c.assign target e) u i = refl
    same-exec (c.new_object p target class) u i = refl
    same-exec (c.call q target receiver p m args) u i =
        same-pay u (λ v. with_value (target_of target v.now) (λ a. with_value (receiver_of receiver v.now) (λ x. with_values args v.now (λ ds. with_value (called_on receiver p x) (λ this. back v target a (f m this ds v))))))
        (λ v. with_value (target_of target v.now) (λ a. with_value (receiver_of receiver v.now) (λ x. with_values args v.now (λ ds. with_value (called_on receiver p x) (λ this. back v target a (g m this ds v)))))) (λ j r.
        let v : Configuration = record u { steps = j } in
        same-value (target_of target u.now) (λ a. with_value (receiver_of receiver u.now) (λ x. with_values args u.now (λ ds. with_value (called_on receiver p x) (λ this. back v target a (f m this ds v)))))
        (λ a. with_value (receiver_of receiver u.now) (λ x. with_values args u.now (λ ds. with_value (called_on receiver p x) (λ this. back v target a (g m this ds v))))) (λ a.
        same-value (receiver_of receiver u.now) (λ x. with_values args u.now (λ ds. with_value (called_on receiver p x) (λ this. back v target a (f m this ds v))))
        (λ x. with_values args u.now (λ ds. with_value (called_on receiver p x) (λ this. back v target a (g m this ds v)))) (λ x.
        same-values args u.now (λ ds. with_value (called_on receiver p x) (λ this. back v target a (f m this ds v))) (λ ds. with_value (called_on receiver p x) (λ this. back v target a (g m this ds v))) (λ ds.
        same-value (called_on receiver p x) (λ this. back v target a (f m this ds v)) (λ this. back v target a (g m this ds v)) (λ this.
        ap (back v target a) (agree m this ds v (omega arith)))))))
    same-exec (c.branch q e a b) u i =
        same-pay u (λ v. with_value (truth_of e v.now) (λ t. choose t (λ w. exec f a w) (λ w. exec_all f b w) v)) (λ v. with_value (truth_of e v.now) (λ t. choose t (λ w. exec g a w) (λ w. exec_all g b w) v)) (λ j r.
        let v : Configuration = record u { steps = j } in
        same-value (truth_of e u.now) (λ t. choose t (λ w. exec f a w) (λ w. exec_all f b w) v) (λ t. choose t (λ w. exec g a w) (λ w. exec_all g b w) v) (λ t.
        same-choose t (λ w. exec f a w) (λ w. exec g a w) (λ w. exec_all f b w) (λ w. exec_all g b w) v (same-exec a v (omega arith)) (same-all b v (omega arith))))
    same-exec (c.loop q invariants e body) u i =
        same-pay u (λ v. loop e (λ w. exec f body w) v) (λ v. loop e (λ w. exec g body w) v) (λ j r.
        same-bodies (suc j) k e (λ w. exec f body w) (λ w. exec g body w) (λ l w h. exec-left f falls body l w h) (λ w h. same-exec body w h) (record u { steps = j }) (omega arith))
    same-exec c.return_nothing u i = refl
    same-exec (c.return_value e) u i = refl
    same-exec (c.assert claim) u i = refl
    same-exec (c.note claim) u i = refl
    same-exec (c.ghost x q v) u i = refl
    same-exec (c.ghost_at p class x a q v) u i = refl

    same-all : (ss : Stmts) → SameTo k (exec_all f ss) (exec_all g ss)
    same-all c.none u i = refl
    same-all (c.more s ss) u i =
        same-then k (exec f s u) (λ v. exec_all f ss v) (λ v. exec_all g ss v) (exec-left f falls s k u i) (λ v h. same-all ss v h)
        ∙ ap (λ x. then_run x (λ v. exec_all g ss v)) (same-exec s u i)

-- the body of a method under two calls
same-body : (p : Program) (f g : Callee → ℕ → List Datum → Configuration → Progress) → NeverGains f → (m : Callee) (this : ℕ) (args : List Datum) (r : Configuration) → ((j : ℕ) → suc j ≡ r.steps → Agree j f g) →
    pay r (λ r. option_map_or (λ (x : Method). exec_all f x.body (at_entry x this args r)) (p.method m) (goes_on r))
    ≡ pay r (λ r. option_map_or (λ (x : Method). exec_all g x.body (at_entry x this args r)) (p.method m) (goes_on r))
same-body p f g falls m this args r h =
    same-pay r (λ r. option_map_or (λ (x : Method). exec_all f x.body (at_entry x this args r)) (p.method m) (goes_on r))
    (λ r. option_map_or (λ (x : Method). exec_all g x.body (at_entry x this args r)) (p.method m) (goes_on r)) (λ j q. of_method j q (p.method m))
  where
    of_method : (j : ℕ) → suc j ≡ r.steps → (x : Option Method) →
        option_map_or (λ (y : Method). exec_all f y.body (at_entry y this args (record r { steps = j }))) x (goes_on (record r { steps = j }))
        ≡ option_map_or (λ (y : Method). exec_all g y.body (at_entry y this args (record r { steps = j }))) x (goes_on (record r { steps = j }))
    of_method j q None = refl
    of_method j q (Some y) = same-all f g falls j (h j q) y.body (at_entry y this args (record r { steps = j })) (omega arith)

-- a greater depth than there are steps is enough
same-calls : (p : Program) (n m k : ℕ) → k < n → k < m → Agree k (calls n p) (calls m p)
same-calls p zero m k g h c this args u i = elim (none_below k g) [ ]
same-calls p (suc n) zero k g h c this args u i = elim (none_below k h) [ ]
same-calls p (suc n) (suc m) k g h c this args u i =
    same-body p (calls n p) (calls m p) (calls-never-gain p n) c this args u (λ j q. same-calls p n m j (omega arith) (omega arith))

call-never-gains : (p : Program) → NeverGains (call p)
call-never-gains p k m this args r h = calls-never-gain p (suc r.steps) k m this args r h

runs-fall : (p : Program) (body : Stmt) → Falls (runs p body)
runs-fall p body k u h = exec-left (call p) (call-never-gains p) body k u h

pub bounds-end-no-run : (p : Program) → BoundsEndNoRun p
bounds-end-no-run p = record {
  loops = λ e body r n h. same-turns n (suc r.steps) r.steps e (runs p body) (runs-fall p body) h (omega arith) r (omega arith);
  calls = λ m this args r n h. same-calls p n (suc r.steps) r.steps h (omega arith) m this args r (omega arith);
}

pub loops-unfold : (p : Program) → LoopsUnfold p
loops-unfold p e body r =
    same-turn e (runs p body) (turns r.steps e (runs p body)) (loop e (runs p body)) (runs-fall p body) r (λ j q u i.
    same-turns r.steps (suc u.steps) u.steps e (runs p body) (runs-fall p body) (omega arith) (omega arith) u (omega arith))

pub calls-unfold : (p : Program) → CallsUnfold p
calls-unfold p m this args r =
    same-body p (calls r.steps p) (call p) (calls-never-gain p r.steps) m this args r (λ j q c x ds u i.
    same-calls p r.steps (suc u.steps) u.steps (omega arith) (omega arith) c x ds u (omega arith))
