-- Runs never gain steps.
use Rattle.std.proofs.Common.{◌≡◌, ℕ, zero, suc, ◌≤◌, List, [], ◌∷◌, Option, None, Some, arith}
use Rattle.std.specs.Option.{option_map_or}
use Rattle.jh_vars.specs.Written.{Callee}
use Rattle.jh_form.specs.Meaning.{Datum, an_object, datum, term_value}
use Rattle.jh_semantics.specs.Code.{AnyCode, Target, Stmt, Stmts}
use Rattle.jh_semantics.specs.Code as c
use Rattle.jh_semantics.specs.Program.{Program, Method}
use Rattle.jh_semantics.specs.State.{State, named, shown, stored, stored_at}
use Rattle.jh_semantics.specs.Locals.{with_locals_of}
use Rattle.jh_semantics.specs.Values.{dereferenced, value_of}
use Rattle.jh_semantics.specs.Progress.{Configuration, Progress, goes_on, returns, stops, pay, with_value, goes_on_in}
use Rattle.jh_semantics.specs.Objects.{created, pick, target_of, put}
use Rattle.jh_semantics.specs.Execution.{ghost_stored, with_values, receiver_of, called_on, result_of, back, exec, exec_all, at_entry, calls}
use Rattle.jh_semantics.proofs.Keeping.{Ends, SimpleKeep, AllSimpleKeep, keeps-pay, keeps-any, keeps-if, keeps-pick, exec-keeps, all-keep}

-- no more than so many steps are left
abbrev pub Left : ℕ → Configuration → Type 0
Left k r = r.steps ≤ k

abbrev pub LeftWith : ℕ → Configuration → Option Datum → Type 0
LeftWith k r v = r.steps ≤ k

abbrev pub AtMost : ℕ → Progress → Type 0
AtMost k x = Ends (Left k) (LeftWith k) x

pub paid : (k : ℕ) (r : Configuration) (j : ℕ) → suc j ≡ r.steps → Left k r → Left k (record r { steps = j })
paid k r j e h = omega arith

-- no call gains steps
abbrev pub NeverGains : (Callee → ℕ → List Datum → Configuration → Progress) → Type 0
NeverGains call = (k : ℕ) (m : Callee) (this : ℕ) (args : List Datum) (r : Configuration) → r.steps ≤ k → AtMost k (call m this args r)

module _ (k : ℕ) where
  put-left : (target : Target) (a : ℕ) (d : Datum) (r : Configuration) → Left k r → AtMost k (put target a d r)
  put-left c.nowhere a d r h = h
  put-left (c.to_new x) a d r h = h
  put-left (c.to_name x) a d r h = h
  put-left (c.to_field f e p) a d r h = keeps-any (Left k) (LeftWith k) (paid k) (dereferenced e p a) (λ b. goes_on_in r (stored_at r.now f b d)) (λ b. h)

  back-left : (caller : Configuration) (target : Target) (a : ℕ) (x : Progress) → AtMost k x → AtMost k (back caller target a x)
  back-left caller target a (goes_on r) h = put-left target a (result_of None) (record r { now = with_locals_of r.now caller.now; entry = caller.entry }) h
  back-left caller target a (returns r v) h = put-left target a (result_of v) (record r { now = with_locals_of r.now caller.now; entry = caller.entry }) h
  back-left caller target a (stops why) h = tt

  values-left : (es : List AnyCode) (s : State) (next : List Datum → Progress) → ((ds : List Datum) → AtMost k (next ds)) → AtMost k (with_values es s next)
  values-left [] s next f = f []
  values-left (e ∷ es) s next f =
      keeps-any (Left k) (LeftWith k) (paid k) (value_of e s) (λ d. with_values es s (λ ds. next (d ∷ ds))) (λ d. values-left es s (λ ds. next (d ∷ ds)) (λ ds. f (d ∷ ds)))

  module _ (call : Callee → ℕ → List Datum → Configuration → Progress) (falls : NeverGains call) where
    pay-left : (r : Configuration) (next : Configuration → Progress) → Left k r → ((u : Configuration) → Left k u → AtMost k (next u)) → AtMost k (pay r next)
    pay-left r next h f = keeps-pay (Left k) (LeftWith k) (paid k) r next h f

    mutual
      simple-left : (s : Stmt) → SimpleKeep (Left k) (LeftWith k) (paid k) call s
      simple-left c.empty = tt
      simple-left (c.block body) = simple-all body
      simple-left (c.branch q e a b) = (simple-left a, simple-all b)
      simple-left (c.loop q invariants e body) = simple-left body
      simple-left (c.assign target e) = λ r h.
          pay-left r (λ u. with_value (target_of target u.now) (λ a. with_value (value_of e u.now) (λ d. put target a d u))) h (λ u g.
          keeps-any (Left k) (LeftWith k) (paid k) (target_of target u.now) (λ a. with_value (value_of e u.now) (λ d. put target a d u)) (λ a.
          keeps-any (Left k) (LeftWith k) (paid k) (value_of e u.now) (λ d. put target a d u) (λ d. put-left target a d u g)))
      simple-left (c.new_object p target class) = λ r h.
          pay-left r (λ u. with_value (target_of target u.now) (λ a. pick p u.picks u (λ x v. put target a (an_object x) (record v { now = created v.now class x })))) h (λ u g.
          keeps-any (Left k) (LeftWith k) (paid k) (target_of target u.now) (λ a. pick p u.picks u (λ x v. put target a (an_object x) (record v { now = created v.now class x }))) (λ a.
          keeps-pick (Left k) (LeftWith k) (paid k) p u.picks u (λ x v. put target a (an_object x) (record v { now = created v.now class x })) (λ x more e.
          put-left target a (an_object x) (record u { picks = more; now = created u.now class x }) g)))
      simple-left (c.call q target receiver p m args) = λ r h.
          pay-left r (λ u. with_value (target_of target u.now) (λ a. with_value (receiver_of receiver u.now) (λ x. with_values args u.now (λ ds. with_value (called_on receiver p x) (λ this. back u target a (call m this ds u)))))) h (λ u g.
          keeps-any (Left k) (LeftWith k) (paid k) (target_of target u.now) (λ a. with_value (receiver_of receiver u.now) (λ x. with_values args u.now (λ ds. with_value (called_on receiver p x) (λ this. back u target a (call m this ds u))))) (λ a.
          keeps-any (Left k) (LeftWith k) (paid k) (receiver_of receiver u.now) (λ x. with_values args u.now (λ ds. with_value (called_on receiver p x) (λ this. back u target a (call m this ds u)))) (λ x.
          values-left args u.now (λ ds. with_value (called_on receiver p x) (λ this. back u target a (call m this ds u))) (λ ds.
          keeps-any (Left k) (LeftWith k) (paid k) (called_on receiver p x) (λ this. back u target a (call m this ds u)) (λ this.
          back-left u target a (call m this ds u) (falls k m this ds u g))))))
      simple-left c.return_nothing = λ r h. pay-left r (λ u. returns u None) h (λ u g. g)
      simple-left (c.return_value e) = λ r h. pay-left r (λ u. with_value (value_of e u.now) (λ d. returns u (Some d))) h (λ u g. keeps-any (Left k) (LeftWith k) (paid k) (value_of e u.now) (λ d. returns u (Some d)) (λ d. g))
      simple-left (c.assert claim) = tt
      simple-left (c.note claim) = tt
      simple-left (c.ghost x q v) = λ r h. pay-left r (λ u. goes_on_in u (stored u.now x (datum v (shown u.now u.entry) []))) h (λ u g. g)
      simple-left (c.ghost_at p class f a q v) = λ r h.
          pay-left r (λ u. ghost_stored p class f (term_value a (shown u.now u.entry) []) (datum v (shown u.now u.entry) []) u) h (λ u g.
          keeps-if (Left k) (LeftWith k) (paid k) (u.now.set (named class) (term_value a (shown u.now u.entry) []))
          (goes_on_in u (stored_at u.now f (term_value a (shown u.now u.entry) []) (datum v (shown u.now u.entry) []))) _ (λ e. g) tt)

      simple-all : (ss : Stmts) → AllSimpleKeep (Left k) (LeftWith k) (paid k) call ss
      simple-all c.none = tt
      simple-all (c.more s ss) = (simple-left s, simple-all ss)

-- the body of a method, where there is one
body-left : (call : Callee → ℕ → List Datum → Configuration → Progress) → NeverGains call → (this : ℕ) (args : List Datum) (k : ℕ) (x : Option Method) (r : Configuration) → r.steps ≤ k →
    AtMost k (option_map_or (λ (y : Method). exec_all call y.body (at_entry y this args r)) x (goes_on r))
body-left call falls this args k None r h = h
body-left call falls this args k (Some y) r h = all-keep (Left k) (LeftWith k) (paid k) call y.body (simple-all k call falls y.body) (at_entry y this args r) h

pub exec-left : (call : Callee → ℕ → List Datum → Configuration → Progress) → NeverGains call → (s : Stmt) (k : ℕ) (r : Configuration) → r.steps ≤ k → AtMost k (exec call s r)
exec-left call falls s k r h = exec-keeps (Left k) (LeftWith k) (paid k) call s (simple-left k call falls s) r h

pub calls-never-gain : (p : Program) (n : ℕ) → NeverGains (calls n p)
calls-never-gain p zero k m this args r h = tt
calls-never-gain p (suc n) k m this args r h =
    keeps-pay (Left k) (LeftWith k) (paid k) r (λ u. option_map_or (λ (x : Method). exec_all (calls n p) x.body (at_entry x this args u)) (p.method m) (goes_on u)) h
    (λ u g. body-left (calls n p) (calls-never-gain p n) this args k (p.method m) u g)
