-- Methods of typed code keep states well formed, and answer results in their types.
use Rattle.std.proofs.Common.{◌≡◌, refl, sym, ap, subst, ◌∙◌, ℕ, zero, suc, ◌<◌, ◌⊎◌, inl, inr, Bool, true, false, if◌then◌else◌, List, [], ◌∷◌, ◌++◌, Option, None, Some, codes, arith}
use Rattle.std.specs.List.{Contains}
use Rattle.std.specs.Option.{option_map_or}
use Rattle.std.proofs.lemmas.Bool.{true≢false}
use Rattle.std.proofs.lemmas.List.Elements.{Contains-append_left, Contains-append_right, Contains-append_cases}
use Rattle.jh_name.specs.declared.naming.Name.{Name}
use Rattle.jh_vars.specs.Written.{Callee}
use Rattle.jh_form.specs.Passing.{name_equal}
use Rattle.jh_form.specs.Meaning.{Datum, an_object, a_number, a_truth, a_set, a_field}
use Rattle.jh_form.proofs.Names.{name_equal-same}
use Rattle.jh_form.proofs.ClosedLemmas.{both-left, both-right}
use Rattle.jh_rules.specs.declared.types.Ty.{Ty}
use Rattle.jh_rules.specs.declared.types.Ty.TheVariants as ty
use Rattle.jh_rules.specs.Kinds.{is_int, is_boolean, is_number, is_truth}
use Rattle.jh_name.specs.declared.place.Kind as kind
use Rattle.jh_name.specs.declared.place.Kind.TheVariants as k
use Rattle.jh_semantics.specs.Sound.{HasResult}
use Rattle.jh_semantics.specs.Code.{Text, Local, Stmt, Stmts}
use Rattle.jh_semantics.specs.Code as c
use Rattle.jh_semantics.specs.Program.{Program, Method, class_at}
use Rattle.jh_semantics.specs.State.{State, IsWhole, named, this_name, alloc_name, stored}
use Rattle.jh_semantics.specs.Locals.{has_dot, without_locals, with_args, entered}
use Rattle.jh_semantics.specs.Values.{Value, value, null_at, truth_of, value_of}
use Rattle.jh_semantics.specs.Progress.{Configuration, Progress, goes_on, returns, stops, Outcome, returned, stopped, outcome_of, then_run, pay, pay_from, with_value, choose}
use Rattle.jh_semantics.specs.Execution.{exec, exec_all, at_entry, calls, call, run}
use Rattle.jh_semantics.specs.Typed.{Surroundings, IsType, NamesFit, MayDeclare, ParamsFit, MethodFits, ProgramFits, is_closed, ends_closed, is_closed_part}
use Rattle.jh_semantics.specs.Entry.{LiesIn, AllLieIn, ThisLiesIn}
use Rattle.jh_semantics.specs.Laws.{Grew, AreInside, IsInside, EndsWellFormed, RunsStayWellFormed}
use Rattle.jh_semantics.proofs.Facts.{facts-formed, formed-facts}
use Rattle.jh_semantics.proofs.Keeping.{Ends}
use Rattle.jh_semantics.proofs.Inside.{whole-lies}
use Rattle.jh_semantics.proofs.Whole.{entry-stands}
use Rattle.jh_semantics.proofs.Growth.{calls-add, args-sets}
use Rattle.jh_semantics.proofs.Formed.{ObjectLies, Formed, names-formed}
use Rattle.jh_semantics.proofs.Typing.{ScopeLies, ScopeFits, DatumLies}
use Rattle.jh_semantics.proofs.Storing.{split-off, stored-formed, stored-scope, dot-or-none}
use Rattle.jh_semantics.proofs.TypedRuns.{KindFits, Good, GoodWith, ResultLies, all-good}
use Rattle.jh_semantics.proofs.TypedCalls.{ThisLies, ArgsLie, plain-args, datum-grow, dotted, MethodEnds, MethodsGood, calls-good}

-- What always returns never goes on.
abbrev Never : Configuration → Type 0
Never r = ⊥

abbrev Anyhow : Configuration → Option Datum → Type 0
Anyhow r v = Unit {0}

pay-never : (r : Configuration) (next : Configuration → Progress) → ((u : Configuration) → Ends Never Anyhow (next u)) → Ends Never Anyhow (pay r next)
pay-never r next f = from r.steps
  where
    from : (k : ℕ) → Ends Never Anyhow (pay_from k r next)
    from zero = tt
    from (suc k) = f (record r { steps = k })

value-never : {X : Type 0} (v : Value X) (next : X → Progress) → ((x : X) → Ends Never Anyhow (next x)) → Ends Never Anyhow (with_value v next)
value-never (value x) next f = f x
value-never (null_at q) next f = tt

choose-never : (b : Bool) (f g : Configuration → Progress) (r : Configuration) → Ends Never Anyhow (f r) → Ends Never Anyhow (g r) → Ends Never Anyhow (choose b f g r)
choose-never true f g r h i = h
choose-never false f g r h i = i

first-never : (x : Progress) (next : Configuration → Progress) → Ends Never Anyhow x → Ends Never Anyhow (then_run x next)
first-never (goes_on r) next h = absurd h
first-never (returns r v) next h = tt
first-never (stops why) next h = tt

then-never : (x : Progress) (next : Configuration → Progress) → ((u : Configuration) → Ends Never Anyhow (next u)) → Ends Never Anyhow (then_run x next)
then-never (goes_on r) next f = f r
then-never (returns r v) next f = tt
then-never (stops why) next f = tt

not-closed : {X : Type 0} → false ≡ true → X
not-closed h = absurd (true≢false (sym h))

module _ (call : Callee → ℕ → List Datum → Configuration → Progress) where
  mutual
    closed-stmt : (s : Stmt) → is_closed s ≡ true → (r : Configuration) → Ends Never Anyhow (exec call s r)
    closed-stmt (c.block body) h r = pay-never r (λ u. exec_all call body u) (λ u. closed-all body h u)
    closed-stmt (c.branch q e a b) h r =
        pay-never r (λ u. with_value (truth_of e u.now) (λ t. choose t (λ v. exec call a v) (λ v. exec_all call b v) u)) (λ u.
        value-never (truth_of e u.now) (λ t. choose t (λ v. exec call a v) (λ v. exec_all call b v) u) (λ t.
        choose-never t (λ v. exec call a v) (λ v. exec_all call b v) u (closed-stmt a (both-left (is_closed a) (is_closed_part b) h) u) (closed-part b (both-right (is_closed a) (is_closed_part b) h) u)))
    closed-stmt c.return_nothing h r = pay-never r (λ u. returns u None) (λ u. tt)
    closed-stmt (c.return_value e) h r = pay-never r (λ u. with_value (value_of e u.now) (λ d. returns u (Some d))) (λ u. value-never (value_of e u.now) (λ d. returns u (Some d)) (λ d. tt))
    closed-stmt c.empty h r = not-closed h
    closed-stmt (c.assign target e) h r = not-closed h
    closed-stmt (c.new_object q target class) h r = not-closed h
    closed-stmt (c.call q target receiver place m args) h r = not-closed h
    closed-stmt (c.loop q invariants e body) h r = not-closed h
    closed-stmt (c.assert claim) h r = not-closed h
    closed-stmt (c.note claim) h r = not-closed h
    closed-stmt (c.ghost x q v) h r = not-closed h
    closed-stmt (c.ghost_at q class f a place v) h r = not-closed h

    closed-all : (ss : Stmts) → ends_closed ss ≡ true → (r : Configuration) → Ends Never Anyhow (exec_all call ss r)
    closed-all c.none h r = not-closed h
    closed-all (c.more s c.none) h r = first-never (exec call s r) (λ u. exec_all call c.none u) (closed-stmt s h r)
    closed-all (c.more s (c.more u ss)) h r = then-never (exec call s r) (λ v. exec_all call (c.more u ss) v) (λ v. closed-all (c.more u ss) h v)

    closed-part : (ss : Stmts) → is_closed_part ss ≡ true → (r : Configuration) → Ends Never Anyhow (exec_all call ss r)
    closed-part c.none h r = not-closed h
    closed-part (c.more s ss) h r = first-never (exec call s r) (λ u. exec_all call ss u) (closed-stmt s h r)

none-in : {X : Type 0} (y : X) → Contains [] y → ⊥
none-in y i = omega (i.1, arith)

module _ (p : Program) (names : NamesFit p) where
  -- the parameters of a method, as its body begins
  abbrev entry_scope : Option ℕ → List Local → Surroundings
  entry_scope this params = record { this = this; params = params; locals = [] }

  -- each parameter was declared where some of those before it were
  params-fact : (this : Option ℕ) (before xs : List Local) → ParamsFit p this before xs → (y : Local) → Contains xs y →
      (b : List Local) × MayDeclare p (entry_scope this b) y × ((z : Local) → Contains before z → Contains b z)
  params-fact this before [] h y i = absurd (none-in y i)
  params-fact this before (x ∷ xs) h y i = here (split-off p names [] x xs y i) (λ j. params-fact this (before ++ (x ∷ [])) xs h.1 y j)
    where
      here : (y ≡ x) ⊎ Contains xs y → (Contains xs y → (b : List Local) × MayDeclare p (entry_scope this b) y × ((z : Local) → Contains (before ++ (x ∷ [])) z → Contains b z)) →
          (b : List Local) × MayDeclare p (entry_scope this b) y × ((z : Local) → Contains before z → Contains b z)
      here (inl e) f = (before, subst (λ (z : Local). MayDeclare p (entry_scope this before) z) (sym e) h.0, λ z j. j)
      here (inr j) f = ((f j).0, (f j).1, λ z k. (f j).2 z (Contains-append_left before (x ∷ []) z k))

  -- no two parameters have one text
  params-apart : (this : Option ℕ) (before : List Local) (x : Local) (xs : List Local) → ParamsFit p this before (x ∷ xs) → (y : Local) → Contains xs y → x.text ≡ y.text → ⊥
  params-apart this before x xs h y i e = apart (params-fact this (before ++ (x ∷ [])) xs h.1 y i)
    where
      apart : (b : List Local) × MayDeclare p (entry_scope this b) y × ((z : Local) → Contains (before ++ (x ∷ [])) z → Contains b z) → ⊥
      apart f = (f.1).is_new x (Contains-append_left f.0 [] x (f.2 x (Contains-append_right before (x ∷ []) x (0, omega arith, refl)))) e

  in-params : (xs : List Local) (y : Local) → Contains (xs ++ []) y → Contains xs y
  in-params xs y h = cases (Contains-append_cases xs [] y h)
    where
      cases : Contains xs y ⊎ Contains [] y → Contains xs y
      cases (inl i) = i
      cases (inr i) = absurd (none-in y i)

  params-one : (this : Option ℕ) (before xs : List Local) → ParamsFit p this before xs → (y z : Local) → Contains xs y → Contains xs z → y.text ≡ z.text → y.type ≡ z.type
  params-one this before [] h y z i j e = absurd (none-in y i)
  params-one this before (x ∷ xs) h y z i j e = cases (split-off p names [] x xs y i) (split-off p names [] x xs z j) (λ k l. params-one this (before ++ (x ∷ [])) xs h.1 y z k l e)
    where
      cases : (y ≡ x) ⊎ Contains xs y → (z ≡ x) ⊎ Contains xs z → (Contains xs y → Contains xs z → y.type ≡ z.type) → y.type ≡ z.type
      cases (inl k) (inl l) f = ap (λ (w : Local). w.type) (k ∙ sym l)
      cases (inl k) (inr l) f = absurd (params-apart this before x xs h z l (ap (λ (w : Local). w.text) (sym k) ∙ e))
      cases (inr k) (inl l) f = absurd (params-apart this before x xs h y k (ap (λ (w : Local). w.text) (sym l) ∙ sym e))
      cases (inr k) (inr l) f = f k l

  pub params-scope : (x : Method) → MethodFits p x → ScopeFits p names (entry_scope x.this x.params)
  params-scope x fit = record {
    no_state = λ y i. ((fact y i).1).no_state;
    not_this = λ y i. ((fact y i).1).not_this;
    one = λ y z i j e. params-one x.this [] x.params fit.params y z (in-params x.params y i) (in-params x.params z j) e;
    types = λ y i. ((fact y i).1).type_fits;
    of_class = λ k e. fit.of_class k e;
  }
    where
      fact : (y : Local) → Contains (x.params ++ []) y → (b : List Local) × MayDeclare p (entry_scope x.this b) y × ((z : Local) → Contains [] z → Contains b z)
      fact y i = params-fact x.this [] x.params fit.params y (in-params x.params y i)

  module _ (n : ℕ) where
    -- the state in which the body of a method begins
    args-grow : (xs : List Local) (s u : State) (ds : List Datum) → ((y : Local) → Contains xs y → IsType p y.type) → Grew s u → ArgsLie p names n xs s ds → ArgsLie p names n xs u ds
    args-grow [] s u [] types g h = tt
    args-grow (x ∷ xs) s u (d ∷ ds) types g h = (datum-grow p names n x.type s u d (types x (0, omega arith, refl)) g h.0, args-grow xs s u ds (λ y i. types y (Contains-append_right (x ∷ []) xs y i)) g h.1)
    args-grow [] s u (d ∷ ds) types g h = absurd h
    args-grow (x ∷ xs) s u [] types g h = absurd h

    args-good : (this : Option ℕ) (before xs : List Local) (ds : List Datum) (s : State) → ParamsFit p this before xs → ArgsLie p names n xs s ds → Formed p s →
        ((k : ℕ) → this ≡ Some k → s.set (named (class_at p.classes k)) (s.object this_name) ≡ true) → Formed p (with_args xs ds s) × ScopeLies p names (entry_scope this xs) (with_args xs ds s)
    args-good this before [] [] s h l f g = (f, record { locals = λ y i. absurd (none-in y (in-params [] y i)); this = g })
    args-good this before [] (d ∷ ds) s h l f g = absurd l
    args-good this before (x ∷ xs) [] s h l f g = absurd l
    args-good this before (x ∷ xs) (d ∷ ds) s h l f g = one-more (args-good this (before ++ (x ∷ [])) xs ds s h.1 l.1 f g)
      where
        one-more : Formed p (with_args xs ds s) × ScopeLies p names (entry_scope this xs) (with_args xs ds s) → Formed p (with_args (x ∷ xs) (d ∷ ds) s) × ScopeLies p names (entry_scope this (x ∷ xs)) (with_args (x ∷ xs) (d ∷ ds) s)
        one-more ih =
            let w : State = with_args xs ds s in
            let may : MayDeclare p (entry_scope this before) x = h.0 in
            let fits : DatumLies p names x.type w d = datum-grow p names n x.type s w d may.type_fits (args-sets xs ds s (plain-args p names n xs s ds l.1)) l.0 in (
              stored-formed p names w x.text d x.type fits ih.0 (λ y t i m e q. dot-or-none p names y.text x.text (names.dots y i) may.no_state q),
              stored-scope p names (entry_scope this (x ∷ xs)) w x.text d x.type fits
                  (λ y i. type-of y (split-off p names [] x (xs ++ []) y i)) (λ y i q. old y q (split-off p names [] x (xs ++ []) y i)) (λ k e. (ih.1).this k e) (λ q. may.not_this (sym q)) (λ y i q. same y q (split-off p names [] x (xs ++ []) y i)),
            )
          where
            type-of : (y : Local) → (y ≡ x) ⊎ Contains (xs ++ []) y → IsType p y.type
            type-of y (inl e) = subst (λ (z : Local). IsType p z.type) (sym e) (h.0).type_fits
            type-of y (inr i) = (params-fact this (before ++ (x ∷ [])) xs h.1 y (in-params xs y i)).1.type_fits

            old : (y : Local) → (y.text ≡ x.text → ⊥) → (y ≡ x) ⊎ Contains (xs ++ []) y → ObjectLies p y.type (with_args xs ds s) ((with_args xs ds s).object (named y.text))
            old y q (inl e) = absurd (q (ap (λ (z : Local). z.text) e))
            old y q (inr i) = (ih.1).locals y i

            same : (y : Local) → y.text ≡ x.text → (y ≡ x) ⊎ Contains (xs ++ []) y → y.type ≡ x.type
            same y q (inl e) = ap (λ (z : Local). z.type) e
            same y q (inr i) = absurd (params-apart this before x xs h y (in-params xs y i) (sym q))

    entry-good : (m : Method) → MethodFits p m → (this : ℕ) (args : List Datum) (s : State) → Formed p s → ThisLies p names n m.this s this → ArgsLie p names n m.params s args →
        Formed p (entered m this args s) × ScopeLies p names (entry_scope m.this m.params) (entered m this args s)
    entry-good m fit this args s f h l =
        let bare : State = without_locals s in
        let begun : State = stored bare (codes "this") (an_object this) in
        let bare-formed : Formed p bare = names-formed p names s (λ x. if has_dot x.text then s.object x else 0) bare.number bare.truth f (λ x t i g e.
        subst (λ (v : ℕ). ObjectLies p t s v) (sym (dotted p names n (has_dot x.text) (s.object (named x.text)) 0 (names.dots x i))) (f.statics x t i g e)) in
        let begun-formed : Formed p begun = stored-formed p names bare (codes "this") (an_object this) ty.Int tt bare-formed (λ y t i g e q. dot-or-none p names y.text (codes "this") (names.dots y i) refl q) in
        args-good m.this [] m.params args begun fit.params
        (args-grow m.params s begun args (λ y i. (params-fact m.this [] m.params fit.params y i).1.type_fits) (λ z k b g. g) l) begun-formed
        (λ k e. subst (λ (v : ℕ). s.set (named (class_at p.classes k)) v ≡ true) (sym (dotted p names n (name_equal this_name this_name) this (bare.object this_name) (name_equal-same this_name this_name refl)))
        (subst (λ (o : Option ℕ). ThisLies p names n o s this) e h))

    -- a method goes on only where it has no result
    void-ends : (at : Surroundings) (t : Ty) (x : Progress) → t ≡ ty.Void → Ends (Good p names n at) (GoodWith p names n t) x → MethodEnds p names n t x
    void-ends at t (goes_on r) e h = (h.0, (h.1).0, e)
    void-ends at t (returns r v) e h = h
    void-ends at t (stops why) e h = tt

    closed-ends : (at : Surroundings) (t : Ty) (x : Progress) → Ends Never Anyhow x → Ends (Good p names n at) (GoodWith p names n t) x → MethodEnds p names n t x
    closed-ends at t (goes_on r) e h = absurd e
    closed-ends at t (returns r v) e h = h
    closed-ends at t (stops why) e h = tt

    body-ends : (at : Surroundings) (m : Method) (call : Callee → ℕ → List Datum → Configuration → Progress) (r : Configuration) → (m.result ≡ ty.Void) ⊎ (ends_closed m.body ≡ true) →
        Ends (Good p names n at) (GoodWith p names n m.result) (exec_all call m.body r) → MethodEnds p names n m.result (exec_all call m.body r)
    body-ends at m call r (inl e) h = void-ends at m.result (exec_all call m.body r) e h
    body-ends at m call r (inr e) h = closed-ends at m.result (exec_all call m.body r) (closed-all call m.body e r) h

pay-method : (p : Program) (names : NamesFit p) (n : ℕ) (t : Ty) (r : Configuration) (next : Configuration → Progress) → ((k : ℕ) → MethodEnds p names n t (next (record r { steps = k }))) → MethodEnds p names n t (pay r next)
pay-method p names n t r next f = from r.steps
  where
    from : (k : ℕ) → MethodEnds p names n t (pay_from k r next)
    from zero = tt
    from (suc k) = f k

pub methods-good : (p : Program) (fits : ProgramFits p) (n depth : ℕ) → MethodsGood p fits.names n (calls depth p)
methods-good p fits n zero m x e this args r stands formed h l i j = tt
methods-good p fits n (suc depth) m x e this args r stands formed h l i j =
    let names : NamesFit p = fits.names in
    let fit : MethodFits p x = fits.methods m x e in
    let at : Surroundings = record { this = x.this; params = x.params; locals = [] } in
    subst (λ (o : Option Method). MethodEnds p names n x.result (pay r (λ u. option_map_or (λ (y : Method). exec_all (calls depth p) y.body (at_entry y this args u)) o (goes_on u)))) (sym e)
    (pay-method p names n x.result r (λ u. exec_all (calls depth p) x.body (at_entry x this args u)) (λ k.
    let u : Configuration = record r { steps = k } in
    body-ends p names n at x (calls depth p) (at_entry x this args u) fit.end
    (all-good p names n (calls depth p) x.result
    (calls-good p names n (calls depth p) (λ c y g. (fits.methods c y g).result_type) (methods-good p fits n depth) (λ first. calls-add first p fits depth) x.result)
    x.body at fit.body (params-scope p names x fit) (at_entry x this args u)
    (entry-stands n x this args u (record { now = stands.now; entry = stands.entry }) l j, entry-good p names n x fit this args r.now formed h i))))

-- where a run returns, the state is well formed, and the result lies in its type; without a result the method is void
abbrev pub EndsFormed : (p : Program) → NamesFit p → ℕ → Ty → Outcome → Type 0
EndsFormed p names n t (returned last result) = Formed p last × ResultLies p names n t last result
EndsFormed p names n t (stopped why) = Unit {0}

-- Runs of typed code keep states well formed, and answer results in their types.
pub runs-keep-formed : (p : Program) (fits : ProgramFits p) (m : Callee) (x : Method) → p.method m ≡ Some x → (first : State) (this : ℕ) (args : List Datum) → IsWhole first → Formed p first →
    ThisLies p fits.names first.last x.this first this → this < suc first.last → ArgsLie p fits.names first.last x.params first args → AreInside first.last args →
    (picks : List ℕ) (k : ℕ) → EndsFormed p fits.names first.last x.result (run p m first this args picks k)
runs-keep-formed p fits m x e first this args w f h l i j picks k =
    ended (call p m this args start) (methods-good p fits first.last (suc k) m x e this args start (record { now = whole-lies first w; entry = whole-lies first w }) f h l i j)
  where
    start : Configuration
    start = record { now = first; entry = first; picks = picks; steps = k }

    ended : (y : Progress) → MethodEnds p fits.names first.last x.result y → EndsFormed p fits.names first.last x.result (outcome_of y)
    ended (goes_on r) g = (g.1, g.2)
    ended (returns r v) g = ((g.1).0, (g.1).1)
    ended (stops why) g = tt

-- what lies in a type, in the words of what a method may be entered with
value-in : (p : Program) (names : NamesFit p) (t : Ty) (s : State) (d : Datum) → LiesIn p t s d → DatumLies p names t s d
value-in p names ty.Int s (a_number z) h = refl
value-in p names ty.Boolean s (a_truth b) h = refl
value-in p names ty.Object s (an_object a) h = h
value-in p names (ty.Class n) s (an_object a) h = h
value-in p names ty.Int s (an_object a) h = tt
value-in p names ty.Int s (a_truth b) h = absurd h
value-in p names ty.Boolean s (an_object a) h = tt
value-in p names ty.Boolean s (a_number z) h = absurd h
value-in p names ty.Object s (a_number z) h = absurd h
value-in p names ty.Object s (a_truth b) h = absurd h
value-in p names (ty.Class n) s (a_number z) h = absurd h
value-in p names (ty.Class n) s (a_truth b) h = absurd h
value-in p names ty.Void s d h = absurd h
value-in p names ty.Null s d h = absurd h
value-in p names ty.Int s (a_set v) h = absurd h
value-in p names ty.Boolean s (a_set v) h = absurd h
value-in p names ty.Object s (a_set v) h = absurd h
value-in p names (ty.Class n) s (a_set v) h = absurd h
value-in p names ty.Int s (a_field f) h = absurd h
value-in p names ty.Boolean s (a_field f) h = absurd h
value-in p names ty.Object s (a_field f) h = absurd h
value-in p names (ty.Class n) s (a_field f) h = absurd h

-- and is one of the objects
object-inside : (s : State) (x : Name) (a : ℕ) → IsWhole s → (a ≡ 0) ⊎ (s.set x a ≡ true) → a < suc s.last
object-inside s x a w (inl e) = subst (λ (b : ℕ). b < suc s.last) (sym e) (omega arith)
object-inside s x a w (inr h) = w.sets x a h

inside-in : (p : Program) (t : Ty) (s : State) (d : Datum) → IsWhole s → LiesIn p t s d → IsInside s.last d
inside-in p ty.Object s (an_object a) w h = object-inside s alloc_name a w h
inside-in p (ty.Class n) s (an_object a) w h = object-inside s (named (class_at p.classes n)) a w h
inside-in p ty.Int s (an_object a) w h = absurd h
inside-in p ty.Boolean s (an_object a) w h = absurd h
inside-in p ty.Void s (an_object a) w h = absurd h
inside-in p ty.Null s (an_object a) w h = absurd h
inside-in p t s (a_number z) w h = tt
inside-in p t s (a_truth b) w h = tt
inside-in p t s (a_set v) w h = tt
inside-in p t s (a_field f) w h = tt

all-in : (p : Program) (names : NamesFit p) (n : ℕ) (xs : List Local) (s : State) (ds : List Datum) → AllLieIn p xs s ds → ArgsLie p names n xs s ds
all-in p names n [] s [] h = tt
all-in p names n (x ∷ xs) s (d ∷ ds) h = (value-in p names x.type s d h.0, all-in p names n xs s ds h.1)
all-in p names n [] s (d ∷ ds) h = absurd h
all-in p names n (x ∷ xs) s [] h = absurd h

all-inside : (p : Program) (xs : List Local) (s : State) (ds : List Datum) → IsWhole s → AllLieIn p xs s ds → AreInside s.last ds
all-inside p [] s [] w h = tt
all-inside p (x ∷ xs) s (d ∷ ds) w h = (inside-in p x.type s d w h.0, all-inside p xs s ds w h.1)
all-inside p [] s (d ∷ ds) w h = absurd h
all-inside p (x ∷ xs) s [] w h = absurd h

this-in : (p : Program) (names : NamesFit p) (n : ℕ) (this : Option ℕ) (s : State) (a : ℕ) → ThisLiesIn p this s a → ThisLies p names n this s a
this-in p names n None s a h = tt
this-in p names n (Some k) s a h = h

this-inside : (p : Program) (this : Option ℕ) (s : State) (a : ℕ) → IsWhole s → ThisLiesIn p this s a → a < suc s.last
this-inside p None s a w h = subst (λ (b : ℕ). b < suc s.last) (sym h) (omega arith)
this-inside p (Some k) s a w h = w.sets (named (class_at p.classes k)) a h

-- a result in its type
lies-result : (p : Program) (names : NamesFit p) (n : ℕ) (t : Ty) (s : State) (d : Datum) → (t ≡ ty.Null → ⊥) → (t ≡ ty.Void → ⊥) → DatumLies p names t s d → KindFits p names n t d → LiesIn p t s d
lies-result p names n ty.Void s d i j h e = absurd (j refl)
lies-result p names n ty.Null s d i j h e = absurd (i refl)
lies-result p names n ty.Object s (an_object a) i j h e = h
lies-result p names n (ty.Class c) s (an_object a) i j h e = h
lies-result p names n ty.Int s (an_object a) i j h e = absurd (apart-kinds e)
  where
    apart-kinds : ◌≡◌ {A = kind.Kind} k.Int k.Obj → ⊥
    apart-kinds e = true≢false (ap is_number e)
lies-result p names n ty.Boolean s (an_object a) i j h e = absurd (apart-kinds e)
  where
    apart-kinds : ◌≡◌ {A = kind.Kind} k.Bool k.Obj → ⊥
    apart-kinds e = true≢false (ap is_truth e)
lies-result p names n ty.Int s (a_number z) i j h e = tt
lies-result p names n ty.Boolean s (a_number z) i j h e = absurd (true≢false (sym (ap is_int h)))
lies-result p names n ty.Object s (a_number z) i j h e = absurd (true≢false (sym (ap is_int h)))
lies-result p names n (ty.Class c) s (a_number z) i j h e = absurd (true≢false (sym (ap is_int h)))
lies-result p names n ty.Boolean s (a_truth b) i j h e = tt
lies-result p names n ty.Int s (a_truth b) i j h e = absurd (true≢false (sym (ap is_boolean h)))
lies-result p names n ty.Object s (a_truth b) i j h e = absurd (true≢false (sym (ap is_boolean h)))
lies-result p names n (ty.Class c) s (a_truth b) i j h e = absurd (true≢false (sym (ap is_boolean h)))
lies-result p names n t s (a_set v) i j h e = absurd h
lies-result p names n t s (a_field f) i j h e = absurd h

no-result : (p : Program) (s : State) (t : Ty) → t ≡ ty.Void → HasResult p t s None
no-result p s t e = subst (λ (u : Ty). HasResult p u s None) (sym e) tt

some-result : (p : Program) (s : State) (t : Ty) (d : Datum) → LiesIn p t s d → HasResult p t s (Some d)
some-result p s ty.Void d h = h
some-result p s ty.Int d h = h
some-result p s ty.Boolean d h = h
some-result p s ty.Null d h = h
some-result p s ty.Object d h = h
some-result p s (ty.Class c) d h = h

result-in : (p : Program) (names : NamesFit p) (n : ℕ) (t : Ty) (s : State) (v : Option Datum) → (t ≡ ty.Null → ⊥) → ResultLies p names n t s v → HasResult p t s v
result-in p names n t s None i h = no-result p s t h
result-in p names n t s (Some d) i h = some-result p s t d (lies-result p names n t s d i h.2 h.0 h.1)

pub runs-stay-well-formed : (p : Program) → RunsStayWellFormed p
runs-stay-well-formed p fits m x e first this args w h l i picks k =
    ended (run p m first this args picks k)
    (runs-keep-formed p fits m x e first this args w (facts-formed first p fits.names h) (this-in p fits.names first.last x.this first this l) (this-inside p x.this first this w l)
    (all-in p fits.names first.last x.params first args i) (all-inside p x.params first args w i) picks k)
  where
    ended : (y : Outcome) → EndsFormed p fits.names first.last x.result y → EndsWellFormed p x.result y
    ended (returned last v) g = (formed-facts last p fits.names g.0, result-in p fits.names first.last x.result last v (fits.methods m x e).result_value g.1)
    ended (stopped why) g = tt
