-- Typed statements only add to `alloc` and to the sets of classes, and a method's entry state stays what it is.
use Rattle.std.proofs.Common.{◌≡◌, subst, ℕ, suc, true, List, [], ◌∷◌, Option, None, Some}
use Rattle.jh_form.specs.Meaning.{Datum, an_object, datum, term_value}
use Rattle.jh_rules.specs.declared.types.Ty.{Ty}
use Rattle.jh_rules.specs.declared.types.Ty.TheVariants as ty
use Rattle.jh_vars.specs.Written.{Callee}
use Rattle.jh_semantics.specs.Code.{Text, ObjectCode, AnyCode, Local, Target, Stmt, Stmts}
use Rattle.jh_semantics.specs.Code as c
use Rattle.jh_semantics.specs.Program.{Program}
use Rattle.jh_semantics.specs.State.{State, named, shown, stored, stored_at}
use Rattle.jh_semantics.specs.Locals.{has_dot, with_locals_of}
use Rattle.jh_semantics.specs.Values.{value_of, dereferenced}
use Rattle.jh_semantics.specs.Objects.{created, pick, target_of, put}
use Rattle.jh_semantics.specs.Progress.{Configuration, Progress, goes_on, returns, stops, pay, with_value, goes_on_in}
use Rattle.jh_semantics.specs.Execution.{exec, ghost_stored, with_values, receiver_of, called_on, result_of, back}
use Rattle.jh_semantics.specs.Typed.{Surroundings, NamesFit, StmtFits, StmtsFit, scope_behind}
use Rattle.jh_semantics.specs.Laws.{IsPlain, ArePlain, Grew}
use Rattle.jh_semantics.proofs.Keeping.{Ends, SimpleKeep, AllSimpleKeep, keeps-pay, keeps-value, keeps-any, keeps-if, keeps-pick, exec-keeps}
use Rattle.jh_semantics.proofs.Growth.{stored-sets, created-sets, args-sets, value-plain, PlainResult, Grown, GrownWith, CallsAdd}

-- a value that is no set leaves the sets alone: it is stored as the argument of one parameter is
plain-sets : (s : State) (y : Text) (d : Datum) → IsPlain d → Grew s (stored s y d)
plain-sets s y d i = args-sets (record { text = y; type = ty.Int } ∷ []) (d ∷ []) s (i, tt)

result-plain : (v : Option Datum) → PlainResult v → IsPlain (result_of v)
result-plain None h = tt
result-plain (Some d) h = h

-- over two states: the first one of a run, and that at the method's entry
module _ (first entry : State) where
  pub record Onward (r : Configuration) : Type 0 where
    pub grew : Grew first r.now
    pub entered : r.entry ≡ entry

  abbrev pub Anyhow : Configuration → Option Datum → Type 0
  Anyhow r v = Unit {0}

  paid : (r : Configuration) (k : ℕ) → suc k ≡ r.steps → Onward r → Onward (record r { steps = k })
  paid r k e h = record { grew = h.grew; entered = h.entered }

  abbrev GoesOnward : Progress → Type 0
  GoesOnward x = Ends Onward Anyhow x

  further : (s u : State) → Grew first s → Grew s u → Grew first u
  further s u f g x h a i = g x h a (f x h a i)

  put-onward : (target : Target) (a : ℕ) (d : Datum) (r : Configuration) → Onward r → IsPlain d → GoesOnward (put target a d r)
  put-onward c.nowhere a d r h i = h
  put-onward (c.to_new x) a d r h i = record { grew = further r.now (stored r.now x.text d) h.grew (plain-sets r.now x.text d i); entered = h.entered }
  put-onward (c.to_name x) a d r h i = record { grew = further r.now (stored r.now x d) h.grew (plain-sets r.now x d i); entered = h.entered }
  put-onward (c.to_field f e p) a d r h i =
      keeps-any Onward Anyhow paid (dereferenced e p a) (λ b. goes_on_in r (stored_at r.now f b d)) (λ b. record { grew = h.grew; entered = h.entered })

  -- back in the caller, with its entry state
  back-onward : (caller : Configuration) (target : Target) (a : ℕ) (x : Progress) → Onward caller → Ends (Grown first) (GrownWith first) x → GoesOnward (back caller target a x)
  back-onward caller target a (goes_on r) g h =
      put-onward target a (result_of None) (record r { now = with_locals_of r.now caller.now; entry = caller.entry }) (record { grew = h; entered = g.entered }) tt
  back-onward caller target a (returns r v) g h =
      put-onward target a (result_of v) (record r { now = with_locals_of r.now caller.now; entry = caller.entry }) (record { grew = h.0; entered = g.entered }) (result-plain v h.1)
  back-onward caller target a (stops why) g h = tt

  values-onward : (es : List AnyCode) (s : State) (next : List Datum → Progress) → ((ds : List Datum) → ArePlain ds → GoesOnward (next ds)) → GoesOnward (with_values es s next)
  values-onward [] s next f = f [] tt
  values-onward (e ∷ es) s next f =
      keeps-value Onward Anyhow paid IsPlain (value_of e s) (λ d. with_values es s (λ ds. next (d ∷ ds))) (value-plain e s) (λ d i. values-onward es s (λ ds. next (d ∷ ds)) (λ ds j. f (d ∷ ds) (i, j)))

  module _ (p : Program) (names : NamesFit p) (call : Callee → ℕ → List Datum → Configuration → Progress) (adds : CallsAdd first call) (result : Ty) where
    pay-onward : (r : Configuration) (next : Configuration → Progress) → Onward r → ((u : Configuration) → Onward u → GoesOnward (next u)) → GoesOnward (pay r next)
    pay-onward r next h f = keeps-pay Onward Anyhow paid r next h f

    mutual
      simple-onward : (s : Stmt) (at : Surroundings) → StmtFits p result s at → SimpleKeep Onward Anyhow paid call s
      simple-onward c.empty at fit = tt
      simple-onward (c.block body) at fit = all-onward body at fit
      simple-onward (c.branch q e a b) at fit = (simple-onward a at fit.0, all-onward b at fit.1)
      simple-onward (c.loop q invariants e body) at fit = simple-onward body at fit.1
      simple-onward (c.assign target e) at fit = λ r h.
          pay-onward r (λ u. with_value (target_of target u.now) (λ a. with_value (value_of e u.now) (λ d. put target a d u))) h (λ u g.
          keeps-any Onward Anyhow paid (target_of target u.now) (λ a. with_value (value_of e u.now) (λ d. put target a d u)) (λ a.
          keeps-value Onward Anyhow paid IsPlain (value_of e u.now) (λ d. put target a d u) (value-plain e u.now) (λ d i. put-onward target a d u g i)))
      simple-onward (c.new_object q target class) at fit = λ r h.
          pay-onward r (λ u. with_value (target_of target u.now) (λ a. pick q u.picks u (λ x v. put target a (an_object x) (record v { now = created v.now class x })))) h (λ u g.
          keeps-any Onward Anyhow paid (target_of target u.now) (λ a. pick q u.picks u (λ x v. put target a (an_object x) (record v { now = created v.now class x }))) (λ a.
          keeps-pick Onward Anyhow paid q u.picks u (λ x v. put target a (an_object x) (record v { now = created v.now class x })) (λ x more e.
          put-onward target a (an_object x) (record u { picks = more; now = created u.now class x })
          (record { grew = further u.now (created u.now class x) g.grew (created-sets u.now class x); entered = g.entered }) tt)))
      simple-onward (c.call q target receiver place m args) at fit = λ r h.
          pay-onward r (λ u. with_value (target_of target u.now) (λ a. with_value (receiver_of receiver u.now) (λ x. with_values args u.now (λ ds. with_value (called_on receiver place x) (λ this. back u target a (call m this ds u)))))) h (λ u g.
          keeps-any Onward Anyhow paid (target_of target u.now) (λ a. with_value (receiver_of receiver u.now) (λ x. with_values args u.now (λ ds. with_value (called_on receiver place x) (λ this. back u target a (call m this ds u))))) (λ a.
          keeps-any Onward Anyhow paid (receiver_of receiver u.now) (λ x. with_values args u.now (λ ds. with_value (called_on receiver place x) (λ this. back u target a (call m this ds u)))) (λ x.
          values-onward args u.now (λ ds. with_value (called_on receiver place x) (λ this. back u target a (call m this ds u))) (λ ds i.
          keeps-any Onward Anyhow paid (called_on receiver place x) (λ this. back u target a (call m this ds u)) (λ this.
          back-onward u target a (call m this ds u) g (adds m this ds u g.grew i))))))
      simple-onward c.return_nothing at fit = λ r h. pay-onward r (λ u. returns u None) h (λ u g. tt)
      simple-onward (c.return_value e) at fit = λ r h.
          pay-onward r (λ u. with_value (value_of e u.now) (λ d. returns u (Some d))) h (λ u g. keeps-any Onward Anyhow paid (value_of e u.now) (λ d. returns u (Some d)) (λ d. tt))
      simple-onward (c.assert claim) at fit = tt
      simple-onward (c.note claim) at fit = tt
      simple-onward (c.ghost x q v) at fit = λ r h.
          pay-onward r (λ u. goes_on_in u (stored u.now x (datum v (shown u.now u.entry) []))) h (λ u g. record {
            grew = further u.now (stored u.now x (datum v (shown u.now u.entry) [])) g.grew (stored-sets u.now x (datum v (shown u.now u.entry) [])
                (subst (λ (y : Text). has_dot y ≡ true) (fit.1).text (names.dots fit.0 (fit.1).ghost.stands)));
            entered = g.entered;
          })
      simple-onward (c.ghost_at q class f a place v) at fit = λ r h.
          pay-onward r (λ u. ghost_stored q class f (term_value a (shown u.now u.entry) []) (datum v (shown u.now u.entry) []) u) h (λ u g.
          keeps-if Onward Anyhow paid (u.now.set (named class) (term_value a (shown u.now u.entry) []))
          (goes_on_in u (stored_at u.now f (term_value a (shown u.now u.entry) []) (datum v (shown u.now u.entry) []))) _ (λ e. record { grew = g.grew; entered = g.entered }) tt)

      all-onward : (ss : Stmts) (at : Surroundings) → StmtsFit p result ss at → AllSimpleKeep Onward Anyhow paid call ss
      all-onward c.none at fit = tt
      all-onward (c.more s ss) at fit = (simple-onward s at fit.0, all-onward ss (scope_behind p at s) fit.1)

    pub exec-onward : (s : Stmt) (at : Surroundings) → StmtFits p result s at → (r : Configuration) → Onward r → Ends Onward Anyhow (exec call s r)
    exec-onward s at fit r h = exec-keeps Onward Anyhow paid call s (simple-onward s at fit) r h
