-- What the simple statements of a body keep, the body keeps.
use Rattle.std.proofs.Common.{◌≡◌, refl, ℕ, zero, suc, Bool, true, false, if◌then◌else◌, List, [], ◌∷◌, Option}
use Rattle.jh_name.specs.declared.place.Place.{Place}
use Rattle.jh_vars.specs.Written.{Callee}
use Rattle.jh_form.specs.Meaning.{Datum, truth}
use Rattle.jh_semantics.specs.Code.{TruthCode, AnyCode, Claim, Stmt, Stmts}
use Rattle.jh_semantics.specs.Code as c
use Rattle.jh_semantics.specs.State.{shown}
use Rattle.jh_semantics.specs.Values.{Value, value, null_at, truth_of}
use Rattle.jh_semantics.specs.Progress.{Configuration, Progress, goes_on, returns, stops, then_run, pay, pay_from, with_value, choose}
use Rattle.jh_semantics.specs.Objects.{is_free, pick}
use Rattle.jh_semantics.specs.Execution.{asked, turns, loop, exec, exec_all}

-- where it goes on, something holds of where it stands, and where it returns, of that and of the result
abbrev pub Ends : (Configuration → Type 0) → (Configuration → Option Datum → Type 0) → Progress → Type 0
Ends P R (goes_on r) = P r
Ends P R (returns r v) = R r v
Ends P R (stops why) = Unit {0}

-- something holds of a value, unless it is Null
abbrev pub IsOf : {X : Type 0} → (X → Type 0) → Value X → Type 0
IsOf Q (value x) = Q x
IsOf Q (null_at p) = Unit {0}

pub any-value : {X : Type 0} (v : Value X) → IsOf (λ x. Unit {0}) v
any-value (value x) = tt
any-value (null_at p) = tt

-- over what holds after a step is paid
module _ (P : Configuration → Type 0) (R : Configuration → Option Datum → Type 0) (paid : (r : Configuration) (k : ℕ) → suc k ≡ r.steps → P r → P (record r { steps = k })) where
  pub keeps-pay : (r : Configuration) (next : Configuration → Progress) → P r → ((u : Configuration) → P u → Ends P R (next u)) → Ends P R (pay r next)
  keeps-pay r next h f = from r.steps refl
    where
      from : (k : ℕ) → k ≡ r.steps → Ends P R (pay_from k r next)
      from zero e = tt
      from (suc k) e = f (record r { steps = k }) (paid r k e h)

  pub keeps-then : (x : Progress) (next : Configuration → Progress) → Ends P R x → ((u : Configuration) → P u → Ends P R (next u)) → Ends P R (then_run x next)
  keeps-then (goes_on r) next h f = f r h
  keeps-then (returns r v) next h f = h
  keeps-then (stops why) next h f = tt

  pub keeps-value : {X : Type 0} (Q : X → Type 0) (v : Value X) (next : X → Progress) → IsOf Q v → ((x : X) → Q x → Ends P R (next x)) → Ends P R (with_value v next)
  keeps-value Q (value x) next h f = f x h
  keeps-value Q (null_at p) next h f = tt

  -- whatever the value
  pub keeps-any : {X : Type 0} (v : Value X) (next : X → Progress) → ((x : X) → Ends P R (next x)) → Ends P R (with_value v next)
  keeps-any (value x) next f = f x
  keeps-any (null_at p) next f = tt

  pub keeps-choose : (b : Bool) (f g : Configuration → Progress) (r : Configuration) → Ends P R (f r) → Ends P R (g r) → Ends P R (choose b f g r)
  keeps-choose true f g r h i = h
  keeps-choose false f g r h i = i

  pub keeps-if : (b : Bool) (x y : Progress) → (b ≡ true → Ends P R x) → Ends P R y → Ends P R (if b then x else y)
  keeps-if true x y h i = h refl
  keeps-if false x y h i = i

  pub keeps-asked : (claim : Claim) (r : Configuration) → P r → Ends P R (asked claim r)
  keeps-asked claim r h = keeps-if (truth claim.formula (shown r.now r.entry) []) (goes_on r) _ (λ e. h) tt

  pub keeps-pick : (p : Place) (picks : List ℕ) (r : Configuration) (next : ℕ → Configuration → Progress) →
      ((a : ℕ) (more : List ℕ) → is_free r.now a ≡ true → Ends P R (next a (record r { picks = more }))) → Ends P R (pick p picks r next)
  keeps-pick p [] r next f = tt
  keeps-pick p (a ∷ picks) r next f = keeps-if (is_free r.now a) (next a (record r { picks = picks })) _ (λ e. f a picks e) tt

  pub keeps-turns : (e : TruthCode) (body : Configuration → Progress) → ((u : Configuration) → P u → Ends P R (body u)) → (n : ℕ) (r : Configuration) → P r → Ends P R (turns n e body r)
  keeps-turns e body f zero r h = tt
  keeps-turns e body f (suc n) r h =
      keeps-any (truth_of e r.now) (λ b. choose b (λ u. pay u (λ v. then_run (body v) (turns n e body))) goes_on r) (λ b.
      keeps-choose b (λ u. pay u (λ v. then_run (body v) (turns n e body))) goes_on r
      (keeps-pay r (λ v. then_run (body v) (turns n e body)) h (λ v g. keeps-then (body v) (turns n e body) (f v g) (λ w i. keeps-turns e body f n w i)))
      h)

  module _ (call : Callee → ℕ → List Datum → Configuration → Progress) where
    abbrev pub Keeps : Stmt → Type 0
    Keeps s = (r : Configuration) → P r → Ends P R (exec call s r)

    -- the simple statements inside keep it
    abbrev mutual
      pub SimpleKeep : Stmt → Type 0
      SimpleKeep c.empty = Unit {0}
      SimpleKeep (c.block body) = AllSimpleKeep body
      SimpleKeep (c.branch q e a b) = SimpleKeep a × AllSimpleKeep b
      SimpleKeep (c.loop q invariants e body) = SimpleKeep body
      SimpleKeep (c.assert claim) = Unit {0}
      SimpleKeep (c.note claim) = Unit {0}
      SimpleKeep s = Keeps s

      pub AllSimpleKeep : Stmts → Type 0
      AllSimpleKeep c.none = Unit {0}
      AllSimpleKeep (c.more s ss) = SimpleKeep s × AllSimpleKeep ss

    mutual
      pub exec-keeps : (s : Stmt) → SimpleKeep s → Keeps s
      exec-keeps c.empty f r h = keeps-pay r goes_on h (λ u k. k)
      exec-keeps (c.block body) f r h = keeps-pay r (λ u. exec_all call body u) h (λ u k. all-keep body f u k)
      exec-keeps (c.branch q e a b) f r h =
          keeps-pay r (λ u. with_value (truth_of e u.now) (λ t. choose t (λ v. exec call a v) (λ v. exec_all call b v) u)) h (λ u k.
          keeps-any (truth_of e u.now) (λ t. choose t (λ v. exec call a v) (λ v. exec_all call b v) u) (λ t.
          keeps-choose t (λ v. exec call a v) (λ v. exec_all call b v) u (exec-keeps a f.0 u k) (all-keep b f.1 u k)))
      exec-keeps (c.loop q invariants e body) f r h =
          keeps-pay r (λ u. loop e (λ v. exec call body v) u) h (λ u k. keeps-turns e (λ v. exec call body v) (λ v i. exec-keeps body f v i) (suc u.steps) u k)
      exec-keeps (c.assert claim) f r h = keeps-pay r (λ u. asked claim u) h (λ u k. keeps-asked claim u k)
      exec-keeps (c.note claim) f r h = keeps-pay r (λ u. asked claim u) h (λ u k. keeps-asked claim u k)
      exec-keeps (c.assign target e) f r h = f r h
      exec-keeps (c.new_object p target class) f r h = f r h
      exec-keeps (c.call q target receiver p m args) f r h = f r h
      exec-keeps c.return_nothing f r h = f r h
      exec-keeps (c.return_value e) f r h = f r h
      exec-keeps (c.ghost x q v) f r h = f r h
      exec-keeps (c.ghost_at p class x a q v) f r h = f r h

      pub all-keep : (ss : Stmts) → AllSimpleKeep ss → (r : Configuration) → P r → Ends P R (exec_all call ss r)
      all-keep c.none f r h = h
      all-keep (c.more s ss) f r h = keeps-then (exec call s r) (λ u. exec_all call ss u) (exec-keeps s f.0 r h) (λ u k. all-keep ss f.1 u k)
