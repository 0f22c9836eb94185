-- Runs of whole states stay whole.
use Rattle.std.proofs.Common.{◌≡◌, ℕ, zero, suc, ◌<◌, List, [], ◌∷◌, Option, None, Some, arith}
use Rattle.std.specs.Option.{option_map_or}
use Rattle.jh_name.specs.declared.place.Place.{Place}
use Rattle.jh_vars.specs.Written.{Callee}
use Rattle.jh_form.specs.Meaning.{Datum, an_object, datum, term_value}
use Rattle.jh_semantics.specs.Code.{ObjectCode, AnyCode, Target, Stmt, Stmts}
use Rattle.jh_semantics.specs.Code as c
use Rattle.jh_semantics.specs.Program.{Program, Method}
use Rattle.jh_semantics.specs.State.{State, named, shown, stored, stored_at}
use Rattle.jh_semantics.specs.Locals.{with_locals_of}
use Rattle.jh_semantics.specs.Values.{dereferenced, value_of}
use Rattle.jh_semantics.specs.Progress.{Configuration, Progress, goes_on, returns, stops, outcome_of, pay, with_value, goes_on_in}
use Rattle.jh_semantics.specs.Objects.{created, pick, target_of, put}
use Rattle.jh_semantics.specs.Execution.{ghost_stored, with_values, receiver_of, called_on, result_of, back, exec_all, at_entry, calls, call}
use Rattle.jh_semantics.specs.Laws.{IsInside, AreInside, ResultInside, EndsWhole, RunsStayWhole}
use Rattle.jh_semantics.proofs.Keeping.{Ends, IsOf, SimpleKeep, AllSimpleKeep, keeps-pay, keeps-value, keeps-any, keeps-if, keeps-pick, all-keep}
use Rattle.jh_semantics.proofs.Inside.{Lies, Below, whole-lies, lies-whole, stored-lies, stored-at-lies, free-lies, created-lies, back-lies, entered-lies, datum-lies, dereferenced-lies, object-lies, value-lies}

-- a run stands among the objects 0 to n, and so does its result
pub record Stands (n : ℕ) (r : Configuration) : Type 0 where
  pub now : Lies n r.now
  pub entry : Lies n r.entry

abbrev pub StandsWith : ℕ → Configuration → Option Datum → Type 0
StandsWith n r v = Stands n r × ResultInside n v

abbrev pub Whole : ℕ → Progress → Type 0
Whole n x = Ends (Stands n) (StandsWith n) x

module _ (n : ℕ) where
  paid : (r : Configuration) (k : ℕ) → suc k ≡ r.steps → Stands n r → Stands n (record r { steps = k })
  paid r k e h = record { now = h.now; entry = h.entry }

  goes-on-in : (r : Configuration) (s : State) → Stands n r → Lies n s → Whole n (goes_on_in r s)
  goes-on-in r s h l = record { now = l; entry = h.entry }

  pub put-whole : (target : Target) (a : ℕ) (d : Datum) (r : Configuration) → Stands n r → a < suc n → IsInside n d → Whole n (put target a d r)
  put-whole c.nowhere a d r h l i = h
  put-whole (c.to_new x) a d r h l i = goes-on-in r (stored r.now x.text d) h (stored-lies n r.now x.text d h.now i)
  put-whole (c.to_name x) a d r h l i = goes-on-in r (stored r.now x d) h (stored-lies n r.now x d h.now i)
  put-whole (c.to_field f e p) a d r h l i =
      keeps-any (Stands n) (StandsWith n) paid (dereferenced e p a) (λ b. goes_on_in r (stored_at r.now f b d)) (λ b.
      goes-on-in r (stored_at r.now f b d) h (stored-at-lies n r.now f b d h.now i))

  pub target-lies : (target : Target) (s : State) → Lies n s → IsOf (Below n) (target_of target s)
  target-lies c.nowhere s l = omega arith
  target-lies (c.to_new x) s l = omega arith
  target-lies (c.to_name x) s l = omega arith
  target-lies (c.to_field f r p) s l = object-lies n r s l

  result-lies : (v : Option Datum) → ResultInside n v → IsInside n (result_of v)
  result-lies None h = omega arith
  result-lies (Some d) h = h

  pub returned-to : (caller r : Configuration) → Stands n caller → Stands n r → Stands n (record r { now = with_locals_of r.now caller.now; entry = caller.entry })
  returned-to caller r h g = record { now = back-lies n r.now caller.now g.now h.now; entry = h.entry }

  back-whole : (caller : Configuration) (target : Target) (a : ℕ) (x : Progress) → Stands n caller → a < suc n → Whole n x → Whole n (back caller target a x)
  back-whole caller target a (goes_on r) h l g = put-whole target a (result_of None) (record r { now = with_locals_of r.now caller.now; entry = caller.entry }) (returned-to caller r h g) l (result-lies None tt)
  back-whole caller target a (returns r v) h l g = put-whole target a (result_of v) (record r { now = with_locals_of r.now caller.now; entry = caller.entry }) (returned-to caller r h g.0) l (result-lies v g.1)
  back-whole caller target a (stops why) h l g = tt

  pub values-whole : (es : List AnyCode) (s : State) (next : List Datum → Progress) → Lies n s → ((ds : List Datum) → AreInside n ds → Whole n (next ds)) → Whole n (with_values es s next)
  values-whole [] s next l f = f [] tt
  values-whole (e ∷ es) s next l f =
      keeps-value (Stands n) (StandsWith n) paid (IsInside n) (value_of e s) (λ d. with_values es s (λ ds. next (d ∷ ds))) (value-lies n e s l) (λ d i.
      values-whole es s (λ ds. next (d ∷ ds)) l (λ ds j. f (d ∷ ds) (i, j)))

  pub receiver-lies : (e : Option ObjectCode) (s : State) → Lies n s → IsOf (Below n) (receiver_of e s)
  receiver-lies None s l = omega arith
  receiver-lies (Some e) s l = object-lies n e s l

  pub called-lies : (e : Option ObjectCode) (p : Place) (a : ℕ) → a < suc n → IsOf (Below n) (called_on e p a)
  called-lies None p a l = l
  called-lies (Some e) p a l = dereferenced-lies n e p a l

  -- calls stay among the objects
  abbrev pub CallsStay : (Callee → ℕ → List Datum → Configuration → Progress) → Type 0
  CallsStay call = (m : Callee) (this : ℕ) (args : List Datum) (r : Configuration) → Stands n r → this < suc n → AreInside n args → Whole n (call m this args r)

  module _ (call : Callee → ℕ → List Datum → Configuration → Progress) (stays : CallsStay call) where
    pay-whole : (r : Configuration) (next : Configuration → Progress) → Stands n r → ((u : Configuration) → Stands n u → Whole n (next u)) → Whole n (pay r next)
    pay-whole r next h f = keeps-pay (Stands n) (StandsWith n) paid r next h f

    mutual
      simple-whole : (s : Stmt) → SimpleKeep (Stands n) (StandsWith n) paid call s
      simple-whole c.empty = tt
      simple-whole (c.block body) = all-whole body
      simple-whole (c.branch q e a b) = (simple-whole a, all-whole b)
      simple-whole (c.loop q invariants e body) = simple-whole body
      simple-whole (c.assign target e) = λ r h.
          pay-whole r (λ u. with_value (target_of target u.now) (λ a. with_value (value_of e u.now) (λ d. put target a d u))) h (λ u g.
          keeps-value (Stands n) (StandsWith n) paid (Below n) (target_of target u.now) (λ a. with_value (value_of e u.now) (λ d. put target a d u)) (target-lies target u.now g.now) (λ a l.
          keeps-value (Stands n) (StandsWith n) paid (IsInside n) (value_of e u.now) (λ d. put target a d u) (value-lies n e u.now g.now) (λ d i. put-whole target a d u g l i)))
      simple-whole (c.new_object p target class) = λ r h.
          pay-whole r (λ u. with_value (target_of target u.now) (λ a. pick p u.picks u (λ x v. put target a (an_object x) (record v { now = created v.now class x })))) h (λ u g.
          keeps-value (Stands n) (StandsWith n) paid (Below n) (target_of target u.now) (λ a. pick p u.picks u (λ x v. put target a (an_object x) (record v { now = created v.now class x }))) (target-lies target u.now g.now) (λ a l.
          keeps-pick (Stands n) (StandsWith n) paid p u.picks u (λ x v. put target a (an_object x) (record v { now = created v.now class x })) (λ x more e.
          put-whole target a (an_object x) (record u { picks = more; now = created u.now class x })
          (record { now = created-lies n u.now class x g.now (free-lies n u.now x g.now e); entry = g.entry }) l (free-lies n u.now x g.now e))))
      simple-whole (c.call q target receiver p m args) = λ r h.
          pay-whole r (λ u. with_value (target_of target u.now) (λ a. with_value (receiver_of receiver u.now) (λ x. with_values args u.now (λ ds. with_value (called_on receiver p x) (λ this. back u target a (call m this ds u)))))) h (λ u g.
          keeps-value (Stands n) (StandsWith n) paid (Below n) (target_of target u.now) (λ a. with_value (receiver_of receiver u.now) (λ x. with_values args u.now (λ ds. with_value (called_on receiver p x) (λ this. back u target a (call m this ds u))))) (target-lies target u.now g.now) (λ a l.
          keeps-value (Stands n) (StandsWith n) paid (Below n) (receiver_of receiver u.now) (λ x. with_values args u.now (λ ds. with_value (called_on receiver p x) (λ this. back u target a (call m this ds u)))) (receiver-lies receiver u.now g.now) (λ x i.
          values-whole args u.now (λ ds. with_value (called_on receiver p x) (λ this. back u target a (call m this ds u))) g.now (λ ds j.
          keeps-value (Stands n) (StandsWith n) paid (Below n) (called_on receiver p x) (λ this. back u target a (call m this ds u)) (called-lies receiver p x i) (λ this k.
          back-whole u target a (call m this ds u) g l (stays m this ds u g k j))))))
      simple-whole c.return_nothing = λ r h. pay-whole r (λ u. returns u None) h (λ u g. (g, tt))
      simple-whole (c.return_value e) = λ r h.
          pay-whole r (λ u. with_value (value_of e u.now) (λ d. returns u (Some d))) h (λ u g.
          keeps-value (Stands n) (StandsWith n) paid (IsInside n) (value_of e u.now) (λ d. returns u (Some d)) (value-lies n e u.now g.now) (λ d i. (g, i)))
      simple-whole (c.assert claim) = tt
      simple-whole (c.note claim) = tt
      simple-whole (c.ghost x q v) = λ r h.
          pay-whole r (λ u. goes_on_in u (stored u.now x (datum v (shown u.now u.entry) []))) h (λ u g.
          goes-on-in u (stored u.now x (datum v (shown u.now u.entry) [])) g (stored-lies n u.now x (datum v (shown u.now u.entry) []) g.now (datum-lies n u.now u.entry g.now g.entry v)))
      simple-whole (c.ghost_at p class f a q v) = λ r h.
          pay-whole r (λ u. ghost_stored p class f (term_value a (shown u.now u.entry) []) (datum v (shown u.now u.entry) []) u) h (λ u g.
          let o : ℕ = term_value a (shown u.now u.entry) [] in
          let d : Datum = datum v (shown u.now u.entry) [] in
          keeps-if (Stands n) (StandsWith n) paid (u.now.set (named class) o) (goes_on_in u (stored_at u.now f o d)) _
          (λ e. goes-on-in u (stored_at u.now f o d) g (stored-at-lies n u.now f o d g.now (datum-lies n u.now u.entry g.now g.entry v))) tt)

      all-whole : (ss : Stmts) → AllSimpleKeep (Stands n) (StandsWith n) paid call ss
      all-whole c.none = tt
      all-whole (c.more s ss) = (simple-whole s, all-whole ss)

  pub entry-stands : (m : Method) (this : ℕ) (args : List Datum) (r : Configuration) → Stands n r → this < suc n → AreInside n args → Stands n (at_entry m this args r)
  entry-stands m this args r h l i = record { now = entered-lies n m this args r.now h.now l i; entry = h.now }

  -- the body of a method, where there is one
  body-whole : (call : Callee → ℕ → List Datum → Configuration → Progress) → CallsStay call → (this : ℕ) (args : List Datum) (x : Option Method) (r : Configuration) → Stands n r → this < suc n → AreInside n args →
      Whole n (option_map_or (λ (y : Method). exec_all call y.body (at_entry y this args r)) x (goes_on r))
  body-whole call stays this args None r h l i = h
  body-whole call stays this args (Some y) r h l i = all-keep (Stands n) (StandsWith n) paid call y.body (all-whole call stays y.body) (at_entry y this args r) (entry-stands y this args r h l i)

  pub calls-stay : (p : Program) (depth : ℕ) → CallsStay (calls depth p)
  calls-stay p zero m this args r h l i = tt
  calls-stay p (suc depth) m this args r h l i =
      keeps-pay (Stands n) (StandsWith n) paid r (λ u. option_map_or (λ (x : Method). exec_all (calls depth p) x.body (at_entry x this args u)) (p.method m) (goes_on u)) h
      (λ u g. body-whole (calls depth p) (calls-stay p depth) this args (p.method m) u g l i)

  ends-whole : (x : Progress) → Whole n x → EndsWhole n (outcome_of x)
  ends-whole (goes_on r) h = (h.now.last, lies-whole n r.now h.now, tt)
  ends-whole (returns r v) h = (h.0.now.last, lies-whole n r.now h.0.now, h.1)
  ends-whole (stops why) h = tt

pub runs-stay-whole : (p : Program) → RunsStayWhole p
runs-stay-whole p m first this args w l i picks k =
    ends-whole first.last (call p m this args (record { now = first; entry = first; picks = picks; steps = k }))
    (calls-stay first.last p (suc k) m this args (record { now = first; entry = first; picks = picks; steps = k }) (record { now = whole-lies first w; entry = whole-lies first w }) l i)
