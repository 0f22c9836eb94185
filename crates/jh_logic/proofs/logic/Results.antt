-- What bodies of typed code answer: results of the sort of their type, and where a body goes on past its end, none.
use Rattle.std.proofs.Common.{◌≡◌, sym, ap, ◌∙◌, subst, ℕ, zero, suc, ◌⊎◌, inl, inr, Bool, true, false, List, [], ◌∷◌, Option, None, Some}
use Rattle.std.proofs.lemmas.Bool.{true≢false}
use Rattle.jh_name.specs.declared.place.Sort.{Sort}
use Rattle.jh_form.specs.Meaning.{Datum, an_object, datum, term_value}
use Rattle.jh_form.proofs.ClosedLemmas.{both-left, both-right}
use Rattle.jh_rules.specs.declared.types.Ty.{Ty}
use Rattle.jh_rules.specs.declared.types.Ty.TheVariants as ty
use Rattle.jh_rules.specs.Kinds.{kind_of}
use Rattle.jh_vars.specs.state_names.States.{sort_of}
use Rattle.jh_vars.specs.Written.{Callee}
use Rattle.jh_semantics.specs.Code.{ObjectCode, TruthCode, AnyCode, Target, Stmt, Stmts}
use Rattle.jh_semantics.specs.Code as c
use Rattle.jh_semantics.specs.Program.{Program}
use Rattle.jh_semantics.specs.State.{State, named, shown, stored, stored_at}
use Rattle.jh_semantics.specs.Locals.{with_locals_of}
use Rattle.jh_semantics.specs.Values.{Value, value, null_at, dereferenced, truth_of, value_of}
use Rattle.jh_semantics.specs.Objects.{created, pick, target_of, put}
use Rattle.jh_semantics.specs.Progress.{Configuration, Progress, goes_on, returns, stops, then_run, pay, pay_from, with_value, choose, goes_on_in}
use Rattle.jh_semantics.specs.Execution.{exec, exec_all, ghost_stored, with_values, receiver_of, called_on, result_of, back}
use Rattle.jh_semantics.specs.Typed.{Surroundings, NamesFit, Has, Fits, StmtFits, StmtsFit, scope_behind, is_closed, ends_closed, is_closed_part}
use Rattle.jh_semantics.proofs.Keeping.{Ends, SimpleKeep, AllSimpleKeep, keeps-pay, keeps-value, keeps-any, keeps-if, keeps-pick, all-keep}
use Rattle.jh_semantics.proofs.TypedRuns.{has-kind, fits-kind}
use Rattle.jh_logic.proofs.logic.Writing.{HasSort, code_sort, value-sort}

-- What always returns never goes on. These are what TypedMethods of jh_semantics shows and keeps for itself.
abbrev Never : Configuration → Type 0
Never r = ⊥

abbrev Anyhow : Configuration → Option Datum → Type 0
Anyhow r v = Unit {0}

pay-never : (r : Configuration) (next : Configuration → Progress) → ((u : Configuration) → Ends Never Anyhow (next u)) → Ends Never Anyhow (pay r next)
pay-never r next f = from r.steps
  where
    from : (k : ℕ) → Ends Never Anyhow (pay_from k r next)
    from zero = tt
    from (suc k) = f (record r { steps = k })

value-never : {X : Type 0} (v : Value X) (next : X → Progress) → ((x : X) → Ends Never Anyhow (next x)) → Ends Never Anyhow (with_value v next)
value-never (value x) next f = f x
value-never (null_at q) next f = tt

choose-never : (b : Bool) (f g : Configuration → Progress) (r : Configuration) → Ends Never Anyhow (f r) → Ends Never Anyhow (g r) → Ends Never Anyhow (choose b f g r)
choose-never true f g r h i = h
choose-never false f g r h i = i

first-never : (x : Progress) (next : Configuration → Progress) → Ends Never Anyhow x → Ends Never Anyhow (then_run x next)
first-never (goes_on r) next h = absurd h
first-never (returns r v) next h = tt
first-never (stops why) next h = tt

then-never : (x : Progress) (next : Configuration → Progress) → ((u : Configuration) → Ends Never Anyhow (next u)) → Ends Never Anyhow (then_run x next)
then-never (goes_on r) next f = f r
then-never (returns r v) next f = tt
then-never (stops why) next f = tt

not-closed : {X : Type 0} → false ≡ true → X
not-closed h = absurd (true≢false (sym h))

module _ (call : Callee → ℕ → List Datum → Configuration → Progress) where
  mutual
    closed-stmt : (s : Stmt) → is_closed s ≡ true → (r : Configuration) → Ends Never Anyhow (exec call s r)
    closed-stmt (c.block body) h r = pay-never r (λ u. exec_all call body u) (λ u. closed-all body h u)
    closed-stmt (c.branch q e a b) h r =
        pay-never r (λ u. with_value (truth_of e u.now) (λ t. choose t (λ v. exec call a v) (λ v. exec_all call b v) u)) (λ u.
        value-never (truth_of e u.now) (λ t. choose t (λ v. exec call a v) (λ v. exec_all call b v) u) (λ t.
        choose-never t (λ v. exec call a v) (λ v. exec_all call b v) u (closed-stmt a (both-left (is_closed a) (is_closed_part b) h) u) (closed-part b (both-right (is_closed a) (is_closed_part b) h) u)))
    closed-stmt c.return_nothing h r = pay-never r (λ u. returns u None) (λ u. tt)
    closed-stmt (c.return_value e) h r = pay-never r (λ u. with_value (value_of e u.now) (λ d. returns u (Some d))) (λ u. value-never (value_of e u.now) (λ d. returns u (Some d)) (λ d. tt))
    closed-stmt c.empty h r = not-closed h
    closed-stmt (c.assign target e) h r = not-closed h
    closed-stmt (c.new_object q target class) h r = not-closed h
    closed-stmt (c.call q target receiver place m args) h r = not-closed h
    closed-stmt (c.loop q invariants e body) h r = not-closed h
    closed-stmt (c.assert claim) h r = not-closed h
    closed-stmt (c.note claim) h r = not-closed h
    closed-stmt (c.ghost x q v) h r = not-closed h
    closed-stmt (c.ghost_at q class f a place v) h r = not-closed h

    closed-all : (ss : Stmts) → ends_closed ss ≡ true → (r : Configuration) → Ends Never Anyhow (exec_all call ss r)
    closed-all c.none h r = not-closed h
    closed-all (c.more s c.none) h r = first-never (exec call s r) (λ u. exec_all call c.none u) (closed-stmt s h r)
    closed-all (c.more s (c.more u ss)) h r = then-never (exec call s r) (λ v. exec_all call (c.more u ss) v) (λ v. closed-all (c.more u ss) h v)

    closed-part : (ss : Stmts) → is_closed_part ss ≡ true → (r : Configuration) → Ends Never Anyhow (exec_all call ss r)
    closed-part c.none h r = not-closed h
    closed-part (c.more s ss) h r = first-never (exec call s r) (λ u. exec_all call ss u) (closed-stmt s h r)

-- a result has the sort of its type; without one the method is void
abbrev pub ResultSorted : Ty → Option Datum → Type 0
ResultSorted type None = type ≡ ty.Void
ResultSorted type (Some d) = HasSort (sort_of (kind_of type)) d

-- how the body of a method ends: it goes on past its end only where the method is void
abbrev pub Answers : Ty → Progress → Type 0
Answers type x = Ends (λ u. type ≡ ty.Void) (λ u v. ResultSorted type v) x

module _ (p : Program) (names : NamesFit p) (result : Ty) where
  abbrev Somewhere : Configuration → Type 0
  Somewhere r = Unit {0}

  abbrev Answered : Configuration → Option Datum → Type 0
  Answered r v = ResultSorted result v

  paid : (r : Configuration) (k : ℕ) → suc k ≡ r.steps → Somewhere r → Somewhere (record r { steps = k })
  paid r k e h = tt

  put-somewhere : (target : Target) (a : ℕ) (d : Datum) (r : Configuration) → Ends Somewhere Answered (put target a d r)
  put-somewhere c.nowhere a d r = tt
  put-somewhere (c.to_new x) a d r = tt
  put-somewhere (c.to_name x) a d r = tt
  put-somewhere (c.to_field f e q) a d r = keeps-any Somewhere Answered paid (dereferenced e q a) (λ b. goes_on_in r (stored_at r.now f b d)) (λ b. tt)

  back-somewhere : (caller : Configuration) (target : Target) (a : ℕ) (x : Progress) → Ends Somewhere Answered (back caller target a x)
  back-somewhere caller target a (goes_on r) = put-somewhere target a (result_of None) (record r { now = with_locals_of r.now caller.now; entry = caller.entry })
  back-somewhere caller target a (returns r v) = put-somewhere target a (result_of v) (record r { now = with_locals_of r.now caller.now; entry = caller.entry })
  back-somewhere caller target a (stops why) = tt

  values-somewhere : (es : List AnyCode) (s : State) (next : List Datum → Progress) → ((ds : List Datum) → Ends Somewhere Answered (next ds)) → Ends Somewhere Answered (with_values es s next)
  values-somewhere [] s next f = f []
  values-somewhere (e ∷ es) s next f = keeps-any Somewhere Answered paid (value_of e s) (λ d. with_values es s (λ ds. next (d ∷ ds))) (λ d. values-somewhere es s (λ ds. next (d ∷ ds)) (λ ds. f (d ∷ ds)))

  -- an expression that fits the result has values of its sort
  type-sort : (at : Surroundings) (e : AnyCode) (type : Ty) → Has p at e type → code_sort e ≡ sort_of (kind_of type)
  type-sort at (c.an_object a) type h = ap sort_of (sym (has-kind p names 0 at a type h))
  type-sort at (c.a_number a) type h = λ i. sort_of (kind_of (sym h i))
  type-sort at (c.a_truth a) type h = λ i. sort_of (kind_of (sym h i))

  result-sort : (at : Surroundings) (e : AnyCode) → Fits p at e result → code_sort e ≡ sort_of (kind_of result)
  result-sort at e h = type-sort at e h.type h.has ∙ ap sort_of (fits-kind p names 0 h.type result h.fit)

  module _ (call : Callee → ℕ → List Datum → Configuration → Progress) where
    pay-answers : (r : Configuration) (next : Configuration → Progress) → ((u : Configuration) → Ends Somewhere Answered (next u)) → Ends Somewhere Answered (pay r next)
    pay-answers r next f = keeps-pay Somewhere Answered paid r next tt (λ u g. f u)

    mutual
      simple-answers : (s : Stmt) (at : Surroundings) → StmtFits p result s at → SimpleKeep Somewhere Answered paid call s
      simple-answers c.empty at fit = tt
      simple-answers (c.block body) at fit = all-answer body at fit
      simple-answers (c.branch q e a b) at fit = (simple-answers a at fit.0, all-answer b at fit.1)
      simple-answers (c.loop q invariants e body) at fit = simple-answers body at fit.1
      simple-answers (c.assign target e) at fit = λ r h.
          pay-answers r (λ u. with_value (target_of target u.now) (λ a. with_value (value_of e u.now) (λ d. put target a d u))) (λ u.
          keeps-any Somewhere Answered paid (target_of target u.now) (λ a. with_value (value_of e u.now) (λ d. put target a d u)) (λ a.
          keeps-any Somewhere Answered paid (value_of e u.now) (λ d. put target a d u) (λ d. put-somewhere target a d u)))
      simple-answers (c.new_object q target class) at fit = λ r h.
          pay-answers r (λ u. with_value (target_of target u.now) (λ a. pick q u.picks u (λ x v. put target a (an_object x) (record v { now = created v.now class x })))) (λ u.
          keeps-any Somewhere Answered paid (target_of target u.now) (λ a. pick q u.picks u (λ x v. put target a (an_object x) (record v { now = created v.now class x }))) (λ a.
          keeps-pick Somewhere Answered paid q u.picks u (λ x v. put target a (an_object x) (record v { now = created v.now class x })) (λ x more e.
          put-somewhere target a (an_object x) (record u { picks = more; now = created u.now class x }))))
      simple-answers (c.call q target receiver place m args) at fit = λ r h.
          pay-answers r (λ u. with_value (target_of target u.now) (λ a. with_value (receiver_of receiver u.now) (λ x. with_values args u.now (λ ds. with_value (called_on receiver place x) (λ this. back u target a (call m this ds u)))))) (λ u.
          keeps-any Somewhere Answered paid (target_of target u.now) (λ a. with_value (receiver_of receiver u.now) (λ x. with_values args u.now (λ ds. with_value (called_on receiver place x) (λ this. back u target a (call m this ds u))))) (λ a.
          keeps-any Somewhere Answered paid (receiver_of receiver u.now) (λ x. with_values args u.now (λ ds. with_value (called_on receiver place x) (λ this. back u target a (call m this ds u)))) (λ x.
          values-somewhere args u.now (λ ds. with_value (called_on receiver place x) (λ this. back u target a (call m this ds u))) (λ ds.
          keeps-any Somewhere Answered paid (called_on receiver place x) (λ this. back u target a (call m this ds u)) (λ this. back-somewhere u target a (call m this ds u))))))
      simple-answers c.return_nothing at fit = λ r h. pay-answers r (λ u. returns u None) (λ u. fit)
      simple-answers (c.return_value e) at fit = λ r h.
          pay-answers r (λ u. with_value (value_of e u.now) (λ d. returns u (Some d))) (λ u.
          keeps-value Somewhere Answered paid (HasSort (code_sort e)) (value_of e u.now) (λ d. returns u (Some d)) (value-sort e u.now) (λ d i. subst (λ (z : Sort). HasSort z d) (result-sort at e fit.0) i))
      simple-answers (c.assert claim) at fit = tt
      simple-answers (c.note claim) at fit = tt
      simple-answers (c.ghost x q v) at fit = λ r h. pay-answers r (λ u. goes_on_in u (stored u.now x (datum v (shown u.now u.entry) []))) (λ u. tt)
      simple-answers (c.ghost_at q class f a place v) at fit = λ r h.
          pay-answers r (λ u. ghost_stored q class f (term_value a (shown u.now u.entry) []) (datum v (shown u.now u.entry) []) u) (λ u.
          keeps-if Somewhere Answered paid (u.now.set (named class) (term_value a (shown u.now u.entry) []))
          (goes_on_in u (stored_at u.now f (term_value a (shown u.now u.entry) []) (datum v (shown u.now u.entry) []))) _ (λ e. tt) tt)

      all-answer : (ss : Stmts) (at : Surroundings) → StmtsFit p result ss at → AllSimpleKeep Somewhere Answered paid call ss
      all-answer c.none at fit = tt
      all-answer (c.more s ss) at fit = (simple-answers s at fit.0, all-answer ss (scope_behind p at s) fit.1)

    void-answers : (x : Progress) → result ≡ ty.Void → Ends Somewhere Answered x → Answers result x
    void-answers (goes_on r) e h = e
    void-answers (returns r v) e h = h
    void-answers (stops why) e h = tt

    closed-answers : (x : Progress) → Ends Never Anyhow x → Ends Somewhere Answered x → Answers result x
    closed-answers (goes_on r) e h = absurd e
    closed-answers (returns r v) e h = h
    closed-answers (stops why) e h = tt

    -- the body of a method
    pub body-answers : (body : Stmts) (at : Surroundings) → StmtsFit p result body at → (result ≡ ty.Void) ⊎ (ends_closed body ≡ true) → (r : Configuration) → Answers result (exec_all call body r)
    body-answers body at fit (inl e) r = void-answers (exec_all call body r) e (all-keep Somewhere Answered paid call body (all-answer body at fit) r tt)
    body-answers body at fit (inr e) r = closed-answers (exec_all call body r) (closed-all call body e r) (all-keep Somewhere Answered paid call body (all-answer body at fit) r tt)
