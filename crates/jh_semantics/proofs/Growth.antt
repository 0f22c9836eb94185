-- Runs only add to `alloc` and to the classes.
use Rattle.std.proofs.Common.{◌≡◌, refl, sym, ap, subst, ◌∙◌, ℕ, zero, suc, ◌==◌, ◌||◌, Bool, true, false, if◌then◌else◌, List, [], ◌∷◌, Option, None, Some}
use Rattle.std.specs.Option.{option_map_or}
use Rattle.std.proofs.lemmas.Bool.{true≢false}
use Rattle.jh_name.specs.declared.naming.Name.{Name}
use Rattle.jh_vars.specs.Written.{Callee}
use Rattle.jh_form.specs.Passing.{name_equal}
use Rattle.jh_form.specs.Meaning.{Datum, an_object, a_number, a_truth, a_set, a_field, datum, term_value}
use Rattle.jh_form.proofs.Names.{name_equal-true}
use Rattle.jh_rules.specs.declared.types.Ty.{Ty}
use Rattle.jh_semantics.specs.Code.{Text, ObjectCode, AnyCode, Local, Target, Stmt, Stmts}
use Rattle.jh_semantics.specs.Code as c
use Rattle.jh_semantics.specs.Program.{Program, Method}
use Rattle.jh_semantics.specs.State.{State, named, alloc_name, shown, stored, stored_at}
use Rattle.jh_semantics.specs.Locals.{has_dot, with_locals_of, with_args}
use Rattle.jh_semantics.specs.Values.{Value, value, null_at, then_value, dereferenced, object_of, number_of, truth_of, value_of}
use Rattle.jh_semantics.specs.Progress.{Configuration, Progress, goes_on, returns, stops, outcome_of, pay, with_value, goes_on_in}
use Rattle.jh_semantics.specs.Objects.{joining, created, pick, target_of, put}
use Rattle.jh_semantics.specs.Execution.{ghost_stored, with_values, receiver_of, called_on, result_of, back, exec_all, at_entry, calls, call}
use Rattle.jh_semantics.specs.Typed.{Surroundings, StmtFits, StmtsFit, scope_behind, ProgramFits}
use Rattle.jh_semantics.specs.Laws.{IsPlain, ArePlain, Grew, EndsGrown, RunsOnlyAdd}
use Rattle.jh_semantics.proofs.Keeping.{Ends, IsOf, SimpleKeep, AllSimpleKeep, keeps-pay, keeps-value, keeps-any, keeps-if, keeps-pick, all-keep}

-- texts with a dot and without are two
apart-by-dot : (x y : Text) → has_dot x ≡ false → has_dot y ≡ true → name_equal (named x) (named y) ≡ true → ⊥
apart-by-dot x y h k e = true≢false (sym k ∙ ap has_dot (sym (ap (λ (z : Name). z.text) (name_equal-true (named x) (named y) e))) ∙ h)

-- sets without a dot stay where a set with one is stored, and wherever no set is
other-set : (x y : Text) (v w : ℕ → Bool) → has_dot x ≡ false → has_dot y ≡ true → (t : Bool) → name_equal (named x) (named y) ≡ t → (if t then v else w) ≡ w
other-set x y v w h k true e = absurd (apart-by-dot x y h k e)
other-set x y v w h k false e = refl

pub stored-sets : (s : State) (y : Text) (d : Datum) → has_dot y ≡ true → Grew s (stored s y d)
stored-sets s y (an_object v) k x h a i = i
stored-sets s y (a_number v) k x h a i = i
stored-sets s y (a_truth v) k x h a i = i
stored-sets s y (a_set v) k x h a i = subst (λ (f : ℕ → Bool). f a ≡ true) (sym (other-set x y _ (s.set (named x)) h k (name_equal (named x) (named y)) refl)) i
stored-sets s y (a_field v) k x h a i = i

plain-sets : (s : State) (y : Text) (d : Datum) → IsPlain d → Grew s (stored s y d)
plain-sets s y (an_object v) k x h a i = i
plain-sets s y (a_number v) k x h a i = i
plain-sets s y (a_truth v) k x h a i = i
plain-sets s y (a_set v) k x h a i = absurd k
plain-sets s y (a_field v) k x h a i = i

-- an object joins a set
more-set : (v w : ℕ → Bool) (a b : ℕ) (t : Bool) → (t ≡ true → w ≡ v) → w b ≡ true → (if t then (λ y. v y || (y == a)) else w) b ≡ true
more-set v w a b true e h = subst (λ (t : Bool). (t || (b == a)) ≡ true) (sym (ap (λ (f : ℕ → Bool). f b) (sym (e refl)) ∙ h)) refl
more-set v w a b false e h = h

joining-sets : (s : State) (set : Name) (a : ℕ) → Grew s (joining s set a)
joining-sets s set a x h b i = more-set (s.set set) (s.set (named x)) a b (name_equal (named x) set) (λ e. ap (λ (z : Name). s.set z) (name_equal-true (named x) set e)) i

pub created-sets : (s : State) (class : Text) (a : ℕ) → Grew s (created s class a)
created-sets s class a x h b i = joining-sets (joining s alloc_name a) (named class) a x h b (joining-sets s alloc_name a x h b i)

pub args-sets : (xs : List Local) (ds : List Datum) (s : State) → ArePlain ds → Grew s (with_args xs ds s)
args-sets (y ∷ xs) (d ∷ ds) s k x h a i = plain-sets (with_args xs ds s) y.text d k.0 x h a (args-sets xs ds s k.1 x h a i)
args-sets [] ds s k x h a i = i
args-sets (y ∷ xs) [] s k x h a i = i

-- values of code are no sets
then-plain : {X : Type 0} (v : Value X) (f : X → Datum) → ((x : X) → IsPlain (f x)) → IsOf IsPlain (then_value v (λ x. value (f x)))
then-plain (value x) f h = h x
then-plain (null_at p) f h = tt

pub value-plain : (e : AnyCode) (s : State) → IsOf IsPlain (value_of e s)
value-plain (c.an_object a) s = then-plain (object_of a s) an_object (λ x. tt)
value-plain (c.a_number a) s = then-plain (number_of a s) a_number (λ x. tt)
value-plain (c.a_truth a) s = then-plain (truth_of a s) a_truth (λ x. tt)

abbrev pub PlainResult : Option Datum → Type 0
PlainResult None = Unit {0}
PlainResult (Some d) = IsPlain d

result-plain : (v : Option Datum) → PlainResult v → IsPlain (result_of v)
result-plain None h = tt
result-plain (Some d) h = h

module _ (first : State) where
  abbrev pub Grown : Configuration → Type 0
  Grown r = Grew first r.now

  abbrev pub GrownWith : Configuration → Option Datum → Type 0
  GrownWith r v = Grew first r.now × PlainResult v

  abbrev pub Adds : Progress → Type 0
  Adds x = Ends Grown GrownWith x

  paid : (r : Configuration) (k : ℕ) → suc k ≡ r.steps → Grown r → Grown (record r { steps = k })
  paid r k e h = h

  onward : (s u : State) → Grew first s → Grew s u → Grew first u
  onward s u f g x h a i = g x h a (f x h a i)

  put-adds : (target : Target) (a : ℕ) (d : Datum) (r : Configuration) → Grown r → IsPlain d → Adds (put target a d r)
  put-adds c.nowhere a d r h i = h
  put-adds (c.to_new x) a d r h i = onward r.now (stored r.now x.text d) h (plain-sets r.now x.text d i)
  put-adds (c.to_name x) a d r h i = onward r.now (stored r.now x d) h (plain-sets r.now x d i)
  put-adds (c.to_field f e p) a d r h i = keeps-any Grown GrownWith paid (dereferenced e p a) (λ b. goes_on_in r (stored_at r.now f b d)) (λ b. h)

  back-adds : (caller : Configuration) (target : Target) (a : ℕ) (x : Progress) → Adds x → Adds (back caller target a x)
  back-adds caller target a (goes_on r) h = put-adds target a (result_of None) (record r { now = with_locals_of r.now caller.now; entry = caller.entry }) h tt
  back-adds caller target a (returns r v) h = put-adds target a (result_of v) (record r { now = with_locals_of r.now caller.now; entry = caller.entry }) h.0 (result-plain v h.1)
  back-adds caller target a (stops why) h = tt

  values-add : (es : List AnyCode) (s : State) (next : List Datum → Progress) → ((ds : List Datum) → ArePlain ds → Adds (next ds)) → Adds (with_values es s next)
  values-add [] s next f = f [] tt
  values-add (e ∷ es) s next f =
      keeps-value Grown GrownWith paid IsPlain (value_of e s) (λ d. with_values es s (λ ds. next (d ∷ ds))) (value-plain e s) (λ d i. values-add es s (λ ds. next (d ∷ ds)) (λ ds j. f (d ∷ ds) (i, j)))

  abbrev pub CallsAdd : (Callee → ℕ → List Datum → Configuration → Progress) → Type 0
  CallsAdd call = (m : Callee) (this : ℕ) (args : List Datum) (r : Configuration) → Grown r → ArePlain args → Adds (call m this args r)

  module _ (p : Program) (fits : ProgramFits p) (call : Callee → ℕ → List Datum → Configuration → Progress) (adds : CallsAdd call) (result : Ty) where
    pay-adds : (r : Configuration) (next : Configuration → Progress) → Grown r → ((u : Configuration) → Grown u → Adds (next u)) → Adds (pay r next)
    pay-adds r next h f = keeps-pay Grown GrownWith paid r next h f

    mutual
      simple-adds : (s : Stmt) (at : Surroundings) → StmtFits p result s at → SimpleKeep Grown GrownWith paid call s
      simple-adds c.empty at fit = tt
      simple-adds (c.block body) at fit = all-add body at fit
      simple-adds (c.branch q e a b) at fit = (simple-adds a at fit.0, all-add b at fit.1)
      simple-adds (c.loop q invariants e body) at fit = simple-adds body at fit.1
      simple-adds (c.assign target e) at fit = λ r h.
          pay-adds r (λ u. with_value (target_of target u.now) (λ a. with_value (value_of e u.now) (λ d. put target a d u))) h (λ u g.
          keeps-any Grown GrownWith paid (target_of target u.now) (λ a. with_value (value_of e u.now) (λ d. put target a d u)) (λ a.
          keeps-value Grown GrownWith paid IsPlain (value_of e u.now) (λ d. put target a d u) (value-plain e u.now) (λ d i. put-adds target a d u g i)))
      simple-adds (c.new_object q target class) at fit = λ r h.
          pay-adds r (λ u. with_value (target_of target u.now) (λ a. pick q u.picks u (λ x v. put target a (an_object x) (record v { now = created v.now class x })))) h (λ u g.
          keeps-any Grown GrownWith paid (target_of target u.now) (λ a. pick q u.picks u (λ x v. put target a (an_object x) (record v { now = created v.now class x }))) (λ a.
          keeps-pick Grown GrownWith paid q u.picks u (λ x v. put target a (an_object x) (record v { now = created v.now class x })) (λ x more e.
          put-adds target a (an_object x) (record u { picks = more; now = created u.now class x }) (onward u.now (created u.now class x) g (created-sets u.now class x)) tt)))
      simple-adds (c.call q target receiver place m args) at fit = λ r h.
          pay-adds r (λ u. with_value (target_of target u.now) (λ a. with_value (receiver_of receiver u.now) (λ x. with_values args u.now (λ ds. with_value (called_on receiver place x) (λ this. back u target a (call m this ds u)))))) h (λ u g.
          keeps-any Grown GrownWith paid (target_of target u.now) (λ a. with_value (receiver_of receiver u.now) (λ x. with_values args u.now (λ ds. with_value (called_on receiver place x) (λ this. back u target a (call m this ds u))))) (λ a.
          keeps-any Grown GrownWith paid (receiver_of receiver u.now) (λ x. with_values args u.now (λ ds. with_value (called_on receiver place x) (λ this. back u target a (call m this ds u)))) (λ x.
          values-add args u.now (λ ds. with_value (called_on receiver place x) (λ this. back u target a (call m this ds u))) (λ ds i.
          keeps-any Grown GrownWith paid (called_on receiver place x) (λ this. back u target a (call m this ds u)) (λ this.
          back-adds u target a (call m this ds u) (adds m this ds u g i))))))
      simple-adds c.return_nothing at fit = λ r h. pay-adds r (λ u. returns u None) h (λ u g. (g, tt))
      simple-adds (c.return_value e) at fit = λ r h.
          pay-adds r (λ u. with_value (value_of e u.now) (λ d. returns u (Some d))) h (λ u g. keeps-value Grown GrownWith paid IsPlain (value_of e u.now) (λ d. returns u (Some d)) (value-plain e u.now) (λ d i. (g, i)))
      simple-adds (c.assert claim) at fit = tt
      simple-adds (c.note claim) at fit = tt
      simple-adds (c.ghost x q v) at fit = λ r h.
          pay-adds r (λ u. goes_on_in u (stored u.now x (datum v (shown u.now u.entry) []))) h (λ u g.
          onward u.now (stored u.now x (datum v (shown u.now u.entry) [])) g (stored-sets u.now x (datum v (shown u.now u.entry) [])
          (subst (λ (y : Text). has_dot y ≡ true) (fit.1).text (fits.names.dots fit.0 (fit.1).ghost.stands))))
      simple-adds (c.ghost_at q class f a place v) at fit = λ r h.
          pay-adds r (λ u. ghost_stored q class f (term_value a (shown u.now u.entry) []) (datum v (shown u.now u.entry) []) u) h (λ u g.
          keeps-if Grown GrownWith paid (u.now.set (named class) (term_value a (shown u.now u.entry) []))
          (goes_on_in u (stored_at u.now f (term_value a (shown u.now u.entry) []) (datum v (shown u.now u.entry) []))) _ (λ e. g) tt)

      all-add : (ss : Stmts) (at : Surroundings) → StmtsFit p result ss at → AllSimpleKeep Grown GrownWith paid call ss
      all-add c.none at fit = tt
      all-add (c.more s ss) at fit = (simple-adds s at fit.0, all-add ss (scope_behind p at s) fit.1)

  -- the body of a method, where there is one
  body-adds : (p : Program) (fits : ProgramFits p) (call : Callee → ℕ → List Datum → Configuration → Progress) → CallsAdd call → (m : Callee) (this : ℕ) (args : List Datum) (x : Option Method) → p.method m ≡ x → (r : Configuration) → Grown r → ArePlain args →
      Adds (option_map_or (λ (y : Method). exec_all call y.body (at_entry y this args r)) x (goes_on r))
  body-adds p fits call adds m this args None e r h i = h
  body-adds p fits call adds m this args (Some y) e r h i =
      all-keep Grown GrownWith paid call y.body (all-add p fits call adds y.result y.body (record { this = y.this; params = y.params; locals = [] }) (fits.methods m y e).body) (at_entry y this args r)
      (λ x g a j. args-sets y.params args _ i x g a (h x g a j))

  pub calls-add : (p : Program) (fits : ProgramFits p) (depth : ℕ) → CallsAdd (calls depth p)
  calls-add p fits zero m this args r h i = tt
  calls-add p fits (suc depth) m this args r h i =
      keeps-pay Grown GrownWith paid r (λ u. option_map_or (λ (x : Method). exec_all (calls depth p) x.body (at_entry x this args u)) (p.method m) (goes_on u)) h
      (λ u g. body-adds p fits (calls depth p) (calls-add p fits depth) m this args (p.method m) refl u g i)

  ends-grown : (x : Progress) → Adds x → EndsGrown first (outcome_of x)
  ends-grown (goes_on r) h = h
  ends-grown (returns r v) h = h.0
  ends-grown (stops why) h = tt

pub runs-only-add : (p : Program) → RunsOnlyAdd p
runs-only-add p fits m first this args i picks k =
    ends-grown first (call p m this args (record { now = first; entry = first; picks = picks; steps = k }))
    (calls-add first p fits (suc k) m this args (record { now = first; entry = first; picks = picks; steps = k }) (λ x h a j. j) i)
