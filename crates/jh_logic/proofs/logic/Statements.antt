-- Where what has to be so before the command of a statement is so, the statement runs without a fault, and what has to be so after it is
-- so where it leads.
use Rattle.std.proofs.Common.{◌≡◌, sym, ap, ◌∙◌, subst, ℕ, ◌+◌, ◌≤◌, length, Bool, true, not, if◌then◌else◌, List, [], ◌∷◌, ◌++◌, Option, None, Some, codes, arith}
use Rattle.std.specs.Prelude.{is_some}
use Rattle.std.specs.Option.{option_map_or}
use Rattle.std.specs.List.{Contains}
use Rattle.jh_name.specs.declared.naming.Name.{Name}
use Rattle.jh_name.specs.declared.place.Place.{Place}
use Rattle.jh_form.specs.Tree.{FormulaTree, ValueTree, TermTree}
use Rattle.jh_form.specs.Tree as t
use Rattle.jh_form.specs.declared.mark.MarkKind.TheVariants as kind
use Rattle.jh_form.specs.Meaning.{Interp, Datum, truth, datum}
use Rattle.jh_rules.specs.declared.types.Ty.{Ty}
use Rattle.jh_rules.specs.Kinds.{is_void}
use Rattle.jh_vars.specs.Written.{Callee}
use Rattle.jh_form.specs.Assigned.{assigned}
use Rattle.jh_wp.specs.Command.{CommandTree}
use Rattle.jh_wp.specs.Command as w
use Rattle.jh_semantics.specs.Code.{Text, ObjectCode, TruthCode, AnyCode, Local, Target, Claim, Stmt, Stmts}
use Rattle.jh_semantics.specs.Code as c
use Rattle.jh_semantics.specs.Program.{Program, Method}
use Rattle.jh_semantics.specs.State.{State, result_name}
use Rattle.jh_semantics.specs.Values.{value_of, truth_of}
use Rattle.jh_semantics.specs.Objects.{target_of, put}
use Rattle.jh_semantics.specs.Progress.{Configuration, Progress, returns, with_value, choose, pay}
use Rattle.jh_semantics.specs.Execution.{exec, exec_all, asked}
use Rattle.jh_semantics.specs.Typed.{Surroundings, NamesFit, IsOfStates, StmtFits, StmtsFit}
use Rattle.jh_semantics.proofs.Typing.{ScopeFits}
use Rattle.jh_semantics.proofs.TypedRuns.{Good}
use Rattle.jh_guard.specs.Terms.{truth_formula, truth_checks, value_term, value_checks}
use Rattle.jh_guard.specs.Laws.{AllPass}
use Rattle.jh_guard.specs.Writes.{Writes, scope_after}
use Rattle.jh_guard.specs.Steps.{steps, sequence, assert_checks, target_checks, after_copies, after_changed}
use Rattle.jh_guard.specs.Steps as step
use Rattle.jh_guard.specs.Items.{Sorted}
use Rattle.jh_guard.specs.Loops.{changed_by}
use Rattle.jh_guard.specs.Calls.{turns_of, written_sorted, target_count}
use Rattle.jh_guard.specs.Statements.{next_turn, next_turns, next_after_call, stmt_commands, stmts_commands}
use Rattle.jh_guard.proofs.Checking.{Has, has-one, pass-left, pass-right}
use Rattle.jh_logic.specs.logic.Histories.{viewed, Below, Inner, Holds, Respects}
use Rattle.jh_logic.specs.logic.Reached.{Reached, After}
use Rattle.jh_logic.specs.logic.Sure.{Sure}
use Rattle.jh_logic.proofs.logic.Views.{viewed-assigned}
use Rattle.jh_logic.proofs.logic.Reaching.{after-steps, checked}
use Rattle.jh_logic.proofs.logic.Histories.{below-refl, holds-later}
use Rattle.jh_logic.proofs.logic.Going.{sure-pay, sure-value, sure-map, sure-choose, sure-asked}
use Rattle.jh_logic.proofs.logic.Stated.{truth-there, value-there, truth-stated}
use Rattle.jh_logic.proofs.logic.Puts.{Leads, Returned, value-scalar, target_value, target-there, put-safe}

-- where something holds it holds with later turns
pub leads-later : (n a b : ℕ) (s o : State) (P : Interp → Type 0) → a ≤ b → Leads n a s o P → Leads n b s o P
leads-later n a b s o P le l = record { history = l.history; inner = l.inner; holds = holds-later n a b l.history l.history s o P le (below-refl a l.history) l.holds }

pub after-changed-later : (xs : List Sorted) (k : ℕ) → k ≤ after_changed xs k
after-changed-later [] k = omega arith
after-changed-later (x ∷ xs) k = omega arith

-- the command's locals are those of the typed code
pub record InScope (this : Option ℕ) (scope : List Local) (at : Surroundings) : Type 0 where
  pub this_is : at.this ≡ this
  pub locals : (x : Local) → Contains scope x → Contains (at.params ++ at.locals) x
  pub back : (x : Local) → Contains at.locals x → Contains scope x

module _ (p : Program) (ws : Writes) (names : NamesFit p) (n : ℕ) (result : Ty) (this : Option ℕ) (R : Interp → Type 0) (respect : Respects R) where
  -- turns only grow
  mutual
    pub next-later : (s : Stmt) (scope : List Local) (k : ℕ) → ((target : Target) (receiver : Option ObjectCode) (m : Callee) (args : List AnyCode) (k : ℕ) → k ≤ next_after_call p ws this target receiver m args k) → k ≤ next_turn p ws this scope s k
    next-later c.empty scope k calls = omega arith
    next-later (c.block body) scope k calls = next-all-later body scope k calls
    next-later (c.assign target e) scope k calls = omega arith
    next-later (c.new_object q target class) scope k calls = omega arith
    next-later (c.call q target receiver r m args) scope k calls = calls target receiver m args k
    next-later (c.branch q e a b) scope k calls = let one = next-later a scope k calls in let two = next-all-later b scope (next_turn p ws this scope a k) calls in omega (arith, one, two)
    next-later (c.loop q invariants e body) scope k calls = let one = after-changed-later (changed_by p ws scope body) k in let two = next-later body scope (after_changed (changed_by p ws scope body) k) calls in omega (arith, one, two)
    next-later c.return_nothing scope k calls = omega arith
    next-later (c.return_value e) scope k calls = omega arith
    next-later (c.assert claim) scope k calls = omega arith
    next-later (c.note claim) scope k calls = omega arith
    next-later (c.ghost x q v) scope k calls = omega arith
    next-later (c.ghost_at q class f a r v) scope k calls = omega arith

    next-all-later : (ss : Stmts) (scope : List Local) (k : ℕ) → ((target : Target) (receiver : Option ObjectCode) (m : Callee) (args : List AnyCode) (k : ℕ) → k ≤ next_after_call p ws this target receiver m args k) → k ≤ next_turns p ws this scope ss k
    next-all-later c.none scope k calls = omega arith
    next-all-later (c.more s ss) scope k calls = let one = next-later s scope k calls in let two = next-all-later ss (scope_after scope s) (next_turn p ws this scope s k) calls in omega (arith, one, two)

  turns-later : (one : ℕ) (xs : List Sorted) (a b d k : ℕ) → k ≤ one + after_changed xs (a + (b + (d + k)))
  turns-later one xs a b d k = let later = after-changed-later xs (a + (b + (d + k))) in omega (arith, later)

  pub call-later : (target : Target) (receiver : Option ObjectCode) (m : Callee) (args : List AnyCode) (k : ℕ) → k ≤ next_after_call p ws this target receiver m args k
  call-later target receiver m args k = from (p.method m)
    where
      from : (x : Option Method) → k ≤ option_map_or (λ (x : Method). (turns_of p ws t.true_formula target receiver m x args k).next) x k
      from None = omega arith
      from (Some x) = turns-later (if is_void x.result then 0 else 1) (written_sorted p ws t.true_formula m) (target_count target) (length x.params) (if is_some receiver then 1 else 0) k

  -- where a statement begins
  pub record Begins (scope : List Local) (at : Surroundings) (k : ℕ) (h : Interp) (r : Configuration) : Type 0 where
    pub late : 2 ≤ k
    pub inner : Inner n h
    pub good : Good p names n at r
    pub scoped : InScope this scope at
    pub fit : ScopeFits p names at

  abbrev pub After_stmt : List Local → Stmt → ℕ → (Interp → Type 0) → Interp → Type 0
  After_stmt scope s k Q m = After R (stmt_commands p ws this scope s k) Q m

  -- with calls of methods
  module _ (call : Callee → ℕ → List Datum → Configuration → Progress) where
    abbrev pub SafeStmt : Stmt → Type 1
    SafeStmt s =
        (scope : List Local) (at : Surroundings) → StmtFits p result s at → (k : ℕ) (h : Interp) (r : Configuration) (Q : Interp → Type 0) → Respects Q → Begins scope at k h r →
        Holds n k h r.now r.entry (After_stmt scope s k Q) → Sure (λ u. Leads n (next_turn p ws this scope s k) u.now u.entry Q) (Returned n R) (exec call s r)

    abbrev pub SafeStmts : Stmts → Type 1
    SafeStmts ss =
        (scope : List Local) (at : Surroundings) → StmtsFit p result ss at → (k : ℕ) (h : Interp) (r : Configuration) (Q : Interp → Type 0) → Respects Q → Begins scope at k h r →
        Holds n k h r.now r.entry (λ m. After R (stmts_commands p ws this scope ss k) Q m) → Sure (λ u. Leads n (next_turns p ws this scope ss k) u.now u.entry Q) (Returned n R) (exec_all call ss r)

    -- an assignment
    pub assign-safe : (target : Target) (e : AnyCode) → SafeStmt (c.assign target e)
    assign-safe target e scope at fits k h r Q q b H =
        let V : Interp → Interp = λ m. viewed r.now r.entry m in
        let split : (m : Interp) → Inner n m → Below k h m → AllPass (target_checks target ++ value_checks e) (V m) × After R (step.put target (value_term e)) Q (V m) =
        λ m i l. checked R (target_checks target ++ value_checks e) (step.put target (value_term e)) Q (V m) (H m i l) in
        let a : ℕ = target_value target (V h) in
        let d : Datum = datum (value_term e) (V h) [] in
        let valued : (m : Interp) → Inner n m → Below k h m → Has (value_of e r.now) (datum (value_term e) (V m) []) =
        λ m i l. value-there r.now r.entry m e (pass-right (target_checks target) (value_checks e) (V m) (split m i l).0) in
        let aimed : (m : Interp) → Inner n m → Below k h m → Has (target_of target r.now) (target_value target (V m)) =
        λ m i l. target-there target r.now r.entry m (pass-left (target_checks target) (value_checks e) (V m) (split m i l).0) in
        let here : Below k h h = below-refl k h in
        sure-pay (λ u. Leads n k u.now u.entry Q) (Returned n R) r (λ u. with_value (target_of target u.now) (λ x. with_value (value_of e u.now) (λ y. put target x y u))) (λ j paid.
        let u : Configuration = record r { steps = j } in
        sure-value (λ u. Leads n k u.now u.entry Q) (Returned n R) (target_of target r.now) a (λ x. with_value (value_of e r.now) (λ y. put target x y u)) (aimed h b.inner here)
        (sure-value (λ u. Leads n k u.now u.entry Q) (Returned n R) (value_of e r.now) d (λ y. put target a y u) (valued h b.inner here)
        (put-safe n R k h u target a d (value_term e) Q b.inner (value-scalar e (V h))
        (λ m i l. has-one (value_of e r.now) (datum (value_term e) (V m) []) d (valued m i l) (valued h b.inner here))
        (λ m i l. has-one (target_of target r.now) (target_value target (V m)) a (aimed m i l) (aimed h b.inner here))
        (λ m i l. (split m i l).1))))

    -- a branch, where its parts are safe
    pub branch-safe : (q : Place) (e : TruthCode) (a : Stmt) (b : Stmts) → SafeStmt a → SafeStmts b → SafeStmt (c.branch q e a b)
    branch-safe place e a b first second scope at fits k h r Q q begins H =
        let V : Interp → Interp = λ m. viewed r.now r.entry m in
        let f : FormulaTree = truth_formula e in
        let k' : ℕ = next_turn p ws this scope a k in
        let yes : CommandTree = sequence (step.assume_named (codes "cond") place f ∷ stmt_commands p ws this scope a k) in
        let no : CommandTree = sequence (step.assume_named (codes "cond") place (t.negation f) ∷ stmts_commands p ws this scope b k') in
        let split : (m : Interp) → Inner n m → Below k h m → AllPass (truth_checks e) (V m) × (Reached R yes Q (V m) × Reached R no Q (V m)) =
        λ m i l. checked R (truth_checks e) (w.choice yes no ∷ []) Q (V m) (H m i l) in
        let valued : (m : Interp) → Inner n m → Below k h m → Has (truth_of e r.now) (truth f (V m) []) = λ m i l. truth-there r.now r.entry m e (split m i l).0 in
        let here : Below k h h = below-refl k h in
        let v : Bool = truth f (V h) [] in
        let same : (m : Interp) → Inner n m → Below k h m → truth f (V m) [] ≡ v = λ m i l. has-one (truth_of e r.now) (truth f (V m) []) v (valued m i l) (valued h begins.inner here) in
        let late : k ≤ k' = next-later a scope k call-later in
        let last : k' ≤ next_turns p ws this scope b k' = next-all-later b scope k' call-later in
        sure-pay (λ u. Leads n (next_turn p ws this scope (c.branch place e a b) k) u.now u.entry Q) (Returned n R) r (λ u. with_value (truth_of e u.now) (λ x. choose x (λ y. exec call a y) (λ y. exec_all call b y) u)) (λ j paid.
        let u : Configuration = record r { steps = j } in
        let good : Good p names n at u = (record { now = (begins.good.0).now; entry = (begins.good.0).entry }, begins.good.1) in
        sure-value (λ u. Leads n (next_turn p ws this scope (c.branch place e a b) k) u.now u.entry Q) (Returned n R) (truth_of e r.now) v (λ x. choose x (λ y. exec call a y) (λ y. exec_all call b y) u) (valued h begins.inner here)
        (sure-choose (λ u. Leads n (next_turn p ws this scope (c.branch place e a b) k) u.now u.entry Q) (Returned n R) v (λ y. exec call a y) (λ y. exec_all call b y) u
        (λ is. sure-map (λ u. Leads n (next_turn p ws this scope (c.branch place e a b) k) u.now u.entry Q) (Returned n R) (λ u. Leads n k' u.now u.entry Q) (Returned n R) (exec call a u)
        (λ z g. leads-later n k' (next_turns p ws this scope b k') z.now z.entry Q last g) (λ z y g. g)
        (first scope at fits.0 k h u Q q (record { late = begins.late; inner = begins.inner; good = good; scoped = begins.scoped; fit = begins.fit })
        (λ m i l. after-steps R (stmt_commands p ws this scope a k) Q (V m) (((split m i l).1).0 (same m i l ∙ is)))))
        (λ is. second scope at fits.1 k' h u Q q (record { late = later-than-two k k' begins.late late; inner = begins.inner; good = good; scoped = begins.scoped; fit = begins.fit })
        (holds-later n k k' h h r.now r.entry (λ m. After R (stmts_commands p ws this scope b k') Q m) late here
        (λ m i l. after-steps R (stmts_commands p ws this scope b k') Q (V m) (((split m i l).1).1 (ap not (same m i l ∙ is))))))))
      where
        later-than-two : (k k' : ℕ) → 2 ≤ k → k ≤ k' → 2 ≤ k'
        later-than-two k k' a b = omega (arith, a, b)

    pub return-safe : (e : AnyCode) → SafeStmt (c.return_value e)
    return-safe e scope at fits k h r Q q b H =
        let V : Interp → Interp = λ m. viewed r.now r.entry m in
        let rest : List CommandTree = w.assign result_name (value_term e) ∷ w.leave ∷ [] in
        let split : (m : Interp) → Inner n m → Below k h m → AllPass (value_checks e) (V m) × After R rest Q (V m) = λ m i l. checked R (value_checks e) rest Q (V m) (H m i l) in
        let valued : (m : Interp) → Inner n m → Below k h m → Has (value_of e r.now) (datum (value_term e) (V m) []) = λ m i l. value-there r.now r.entry m e (split m i l).0 in
        let here : Below k h h = below-refl k h in
        let d : Datum = datum (value_term e) (V h) [] in
        sure-pay (λ u. Leads n k u.now u.entry Q) (Returned n R) r (λ u. with_value (value_of e u.now) (λ y. returns u (Some y))) (λ j paid.
        sure-value (λ u. Leads n k u.now u.entry Q) (Returned n R) (value_of e r.now) d (λ y. returns (record r { steps = j }) (Some y)) (valued h b.inner here) (
          k,
          record {
            history = h;
            inner = b.inner;
            holds = λ m i l. subst R (viewed-assigned r.now r.entry m (codes "result") d)
                (subst (λ (y : Datum). R (assigned (V m) result_name y)) (has-one (value_of e r.now) (datum (value_term e) (V m) []) d (valued m i l) (valued h b.inner here)) (split m i l).1);
          },
        ))

    pub leave-safe : SafeStmt c.return_nothing
    leave-safe scope at fits k h r Q q b H =
        sure-pay (λ u. Leads n k u.now u.entry Q) (Returned n R) r (λ u. returns u None) (λ j paid. (k, record { history = h; inner = b.inner; holds = H }))

    -- an assert, and what comes of it
    asked-safe : (claim : Claim) (P : Interp → Type 0) (k : ℕ) (h : Interp) (r : Configuration) → Inner n h → IsOfStates (t.of_truth claim.formula) →
        Holds n k h r.now r.entry (λ m. (truth claim.formula m [] ≡ true) × P m) → Sure (λ u. Leads n k u.now u.entry P) (Returned n R) (pay r (λ u. asked claim u))
    asked-safe claim P k h r inner states H =
        sure-pay (λ u. Leads n k u.now u.entry P) (Returned n R) r (λ u. asked claim u) (λ j paid.
        sure-asked (λ u. Leads n k u.now u.entry P) (Returned n R) claim (record r { steps = j })
        (sym (truth-stated r.now r.entry h claim.formula states) ∙ (H h inner (below-refl k h)).0)
        (record { history = h; inner = inner; holds = λ m i l. (H m i l).1 }))

    pub assert-safe : (claim : Claim) → SafeStmt (c.assert claim)
    assert-safe claim scope at fits k h r Q q b H = asked-safe claim Q k h r b.inner fits H

    -- a claim may be assumed where it is true
    fact-known : (claim : Claim) (Q : Interp → Type 0) (m : Interp) → truth claim.formula m [] ≡ true → (truth (step.claim_fact claim) m [] ≡ true → Q m) → Q m
    fact-known claim Q m e h = h (known claim.label)
      where
        known : (x : Option Name) → truth (option_map_or (λ y. t.mark (record { kind = kind.Fact; place = claim.place; name = Some y; from = [] }) claim.formula) x claim.formula) m [] ≡ true
        known None = e
        known (Some y) = e

    pub note-safe : (claim : Claim) → SafeStmt (c.note claim)
    note-safe claim scope at fits k h r Q q b H = asked-safe claim Q k h r b.inner fits (λ m i l. ((H m i l).0, fact-known claim Q (viewed r.now r.entry m) (H m i l).0 (H m i l).1))
