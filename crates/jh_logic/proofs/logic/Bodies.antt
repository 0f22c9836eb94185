-- Bodies: statements one after the other, each in the scope of those before it.
use Rattle.std.proofs.Common.{ℕ, ◌<◌, ◌≤◌, List, [], ◌∷◌, ◌++◌, Option, arith, ◌⊎◌, inl, inr}
use Rattle.std.specs.List.{Contains}
use Rattle.std.proofs.lemmas.List.Elements.{Contains-append_left, Contains-append_right, Contains-append_cases}
use Rattle.jh_name.specs.declared.place.Place.{Place}
use Rattle.jh_form.specs.Meaning.{Interp, Datum}
use Rattle.jh_rules.specs.declared.types.Ty.{Ty}
use Rattle.jh_vars.specs.Written.{Callee}
use Rattle.jh_semantics.specs.Code.{TruthCode, ObjectCode, AnyCode, Local, Target, Claim, Stmt, Stmts}
use Rattle.jh_semantics.specs.Code as c
use Rattle.jh_semantics.specs.Program.{Program}
use Rattle.jh_semantics.specs.Progress.{Configuration, Progress, goes_on}
use Rattle.jh_semantics.specs.Execution.{exec, exec_all}
use Rattle.jh_semantics.specs.Typed.{Surroundings, NamesFit, scope_behind, declaring}
use Rattle.jh_semantics.proofs.TypedRuns.{Good, GoodWith, CallsGood, exec-good, fits-behind}
use Rattle.jh_guard.specs.Writes.{Writes, scope_after, declared}
use Rattle.jh_guard.specs.Statements.{next_turn, next_turns, stmt_commands, stmts_commands}
use Rattle.jh_logic.specs.logic.Histories.{Respects}
use Rattle.jh_logic.specs.logic.Reached.{After}
use Rattle.jh_logic.specs.logic.Sure.{Sure}
use Rattle.jh_logic.proofs.logic.Reaching.{after-append}
use Rattle.jh_logic.proofs.logic.Respecting.{after-respects}
use Rattle.jh_logic.proofs.logic.Going.{sure-pay, sure-then, sure-map, sure-both}
use Rattle.jh_logic.proofs.logic.Puts.{Leads, Returned}
use Rattle.jh_logic.proofs.logic.Statements.{InScope, SafeStmt, SafeStmts, next-later, call-later, assign-safe, branch-safe, return-safe, leave-safe, assert-safe, note-safe}
use Rattle.jh_logic.proofs.logic.Makes.{new-safe}
use Rattle.jh_logic.proofs.logic.Ghosts.{ghost-safe, ghost-at-safe}

-- what is declared is in scope
module _ (p : Program) (this : Option ℕ) where
  nothing-more : (scope : List Local) (at : Surroundings) → InScope this scope at → InScope this (scope ++ []) at
  nothing-more scope at h = record { this_is = h.this_is; locals = λ x i. from x (Contains-append_cases scope [] x i); back = λ x i. Contains-append_left scope [] x (h.back x i) }
    where
      no-place : (i : ℕ) → i < 0 → ⊥
      no-place i lt = omega arith

      from : (x : Local) → Contains scope x ⊎ Contains [] x → Contains (at.params ++ at.locals) x
      from x (inl i) = h.locals x i
      from x (inr i) = absurd (no-place i.0 i.1)

  declared-scope : (target : Target) (scope : List Local) (at : Surroundings) → InScope this scope at → InScope this (scope ++ declared target) (declaring p at target)
  declared-scope c.nowhere scope at h = nothing-more scope at h
  declared-scope (c.to_name x) scope at h = nothing-more scope at h
  declared-scope (c.to_field f r q) scope at h = nothing-more scope at h
  declared-scope (c.to_new x) scope at h = record { this_is = h.this_is; locals = λ y i. from y (Contains-append_cases scope (x ∷ []) y i); back = λ y i. behind y (Contains-append_cases (x ∷ []) at.locals y i) }
    where
      there : (y : Local) → Contains at.params y ⊎ Contains at.locals y → Contains (at.params ++ (x ∷ at.locals)) y
      there y (inl i) = Contains-append_left at.params (x ∷ at.locals) y i
      there y (inr i) = Contains-append_right at.params (x ∷ at.locals) y (Contains-append_right (x ∷ []) at.locals y i)

      behind : (y : Local) → Contains (x ∷ []) y ⊎ Contains at.locals y → Contains (scope ++ (x ∷ [])) y
      behind y (inl i) = Contains-append_right scope (x ∷ []) y i
      behind y (inr i) = Contains-append_left scope (x ∷ []) y (h.back y i)

      from : (y : Local) → Contains scope y ⊎ Contains (x ∷ []) y → Contains (at.params ++ (x ∷ at.locals)) y
      from y (inl i) = there y (Contains-append_cases at.params at.locals y (h.locals y i))
      from y (inr i) = Contains-append_right at.params (x ∷ at.locals) y (Contains-append_left (x ∷ []) at.locals y i)

  pub scope-behind : (s : Stmt) (scope : List Local) (at : Surroundings) → InScope this scope at → InScope this (scope_after scope s) (scope_behind p at s)
  scope-behind c.empty scope at h = nothing-more scope at h
  scope-behind (c.block body) scope at h = nothing-more scope at h
  scope-behind (c.assign target e) scope at h = declared-scope target scope at h
  scope-behind (c.new_object q target class) scope at h = declared-scope target scope at h
  scope-behind (c.call q target receiver place m args) scope at h = declared-scope target scope at h
  scope-behind (c.branch q e a b) scope at h = nothing-more scope at h
  scope-behind (c.loop q invariants e body) scope at h = nothing-more scope at h
  scope-behind c.return_nothing scope at h = nothing-more scope at h
  scope-behind (c.return_value e) scope at h = nothing-more scope at h
  scope-behind (c.assert claim) scope at h = nothing-more scope at h
  scope-behind (c.note claim) scope at h = nothing-more scope at h
  scope-behind (c.ghost x q v) scope at h = nothing-more scope at h
  scope-behind (c.ghost_at q class f a place v) scope at h = nothing-more scope at h

module _ (p : Program) (ws : Writes) (names : NamesFit p) (n : ℕ) (result : Ty) (this : Option ℕ) (R : Interp → Type 0) (respect : Respects R) (call : Callee → ℕ → List Datum → Configuration → Progress) where
  abbrev pub SafeCalls : Type 1
  SafeCalls = (q : Place) (target : Target) (receiver : Option ObjectCode) (place : Place) (m : Callee) (args : List AnyCode) → SafeStmt p ws names n result this R respect call (c.call q target receiver place m args)

  abbrev pub SafeLoops : Type 1
  SafeLoops = (q : Place) (invariants : List Claim) (e : TruthCode) (body : Stmt) → SafeStmt p ws names n result this R respect call body → SafeStmt p ws names n result this R respect call (c.loop q invariants e body)

  module _ (typed : CallsGood p names n call result) (calls : SafeCalls) (loops : SafeLoops) where
    later-than-two : (k k' : ℕ) → 2 ≤ k → k ≤ k' → 2 ≤ k'
    later-than-two k k' a b = omega (arith, a, b)

    mutual
      pub exec-safe : (s : Stmt) → SafeStmt p ws names n result this R respect call s
      exec-safe c.empty scope at fits k h r Q q b H = sure-pay (λ u. Leads n k u.now u.entry Q) (Returned n R) r goes_on (λ j paid. record { history = h; inner = b.inner; holds = H })
      exec-safe (c.block body) scope at fits k h r Q q b H =
          sure-pay (λ u. Leads n (next_turns p ws this scope body k) u.now u.entry Q) (Returned n R) r (λ u. exec_all call body u) (λ j paid.
          all-safe body scope at fits k h (record r { steps = j }) Q q
          (record { late = b.late; inner = b.inner; good = (record { now = (b.good.0).now; entry = (b.good.0).entry }, b.good.1); scoped = b.scoped; fit = b.fit }) H)
      exec-safe (c.assign target e) scope at fits k h r Q q b H = assign-safe p ws names n result this R respect call target e scope at fits k h r Q q b H
      exec-safe (c.new_object place target class) scope at fits k h r Q q b H = new-safe p ws names n result this R respect call place target class scope at fits k h r Q q b H
      exec-safe (c.call place target receiver of m args) scope at fits k h r Q q b H = calls place target receiver of m args scope at fits k h r Q q b H
      exec-safe (c.branch place e first second) scope at fits k h r Q q b H = branch-safe p ws names n result this R respect call place e first second (exec-safe first) (all-safe second) scope at fits k h r Q q b H
      exec-safe (c.loop place invariants e body) scope at fits k h r Q q b H = loops place invariants e body (exec-safe body) scope at fits k h r Q q b H
      exec-safe c.return_nothing scope at fits k h r Q q b H = leave-safe p ws names n result this R respect call scope at fits k h r Q q b H
      exec-safe (c.return_value e) scope at fits k h r Q q b H = return-safe p ws names n result this R respect call e scope at fits k h r Q q b H
      exec-safe (c.assert claim) scope at fits k h r Q q b H = assert-safe p ws names n result this R respect call claim scope at fits k h r Q q b H
      exec-safe (c.note claim) scope at fits k h r Q q b H = note-safe p ws names n result this R respect call claim scope at fits k h r Q q b H
      exec-safe (c.ghost x place v) scope at fits k h r Q q b H = ghost-safe p ws names n result this R respect call x place v scope at fits k h r Q q b H
      exec-safe (c.ghost_at place class f a right v) scope at fits k h r Q q b H = ghost-at-safe p ws names n result this R respect call place class f a right v scope at fits k h r Q q b H

      pub all-safe : (ss : Stmts) → SafeStmts p ws names n result this R respect call ss
      all-safe c.none scope at fits k h r Q q b H = record { history = h; inner = b.inner; holds = H }
      all-safe (c.more s ss) scope at fits k h r Q q b H =
          let k' : ℕ = next_turn p ws this scope s k in
          let rest : Interp → Type 0 = λ m. After R (stmts_commands p ws this (scope_after scope s) ss k') Q m in
          let last : ℕ = next_turns p ws this (scope_after scope s) ss k' in
          let at' : Surroundings = scope_behind p at s in
          let first : Sure (λ u. Leads n k' u.now u.entry rest) (Returned n R) (exec call s r) =
          exec-safe s scope at fits.0 k h r rest (after-respects R respect (stmts_commands p ws this (scope_after scope s) ss k') Q q) b
          (λ m i l. after-append R (stmt_commands p ws this scope s k) (stmts_commands p ws this (scope_after scope s) ss k') Q _ (H m i l)) in
          let both = sure-both (λ u. Leads n k' u.now u.entry rest) (Returned n R) (Good p names n at') (GoodWith p names n result) (exec call s r) first (exec-good p names n call result typed s at fits.0 b.fit r b.good) in
          sure-then (λ u. Leads n last u.now u.entry Q) (Returned n R) (λ u. Leads n k' u.now u.entry rest × Good p names n at' u) (exec call s r) (λ u. exec_all call ss u)
          (sure-map (λ u. Leads n k' u.now u.entry rest × Good p names n at' u) (Returned n R) (λ u. Leads n k' u.now u.entry rest × Good p names n at' u) (λ u v. Returned n R u v × GoodWith p names n result u v) (exec call s r) (λ u g. g) (λ u v g. g.0) both)
          (λ u g. all-safe ss (scope_after scope s) at' fits.1 k' (g.0).history u Q q (record {
            late = later-than-two k k' b.late (next-later p ws names n result this R respect s scope k (call-later p ws names n result this R respect));
            inner = (g.0).inner;
            good = g.1;
            scoped = scope-behind p this s scope at b.scoped;
            fit = fits-behind p names n result s at fits.0 b.fit;
          }) (g.0).holds)
