-- What bodies keep whatever the state: the state at entry; and that what they assign of locals is none of the parameters.
use Rattle.std.proofs.Common.{◌≡◌, sym, ap, ◌∙◌, subst, ℕ, suc, ◌<◌, true, false, List, [], ◌∷◌, Option, None, Some, codes, arith, ◌⊎◌, inl, inr}
use Rattle.std.specs.List.{Contains}
use Rattle.std.proofs.lemmas.Bool.{true≢false}
use Rattle.std.proofs.lemmas.List.Elements.{Contains-append_left, Contains-append_cases}
use Rattle.jh_form.specs.Meaning.{Datum, an_object, a_field, datum, term_value}
use Rattle.jh_rules.specs.Words.{same_text}
use Rattle.jh_rules.specs.declared.types.Ty.{Ty}
use Rattle.jh_vars.specs.Written.{Callee}
use Rattle.jh_semantics.specs.Code.{Text, ObjectCode, AnyCode, Local, Target, Stmt, Stmts}
use Rattle.jh_semantics.specs.Code as c
use Rattle.jh_semantics.specs.Program.{Program}
use Rattle.jh_semantics.specs.State.{State, named, shown, stored, stored_at}
use Rattle.jh_semantics.specs.Locals.{has_dot, with_locals_of}
use Rattle.jh_semantics.specs.Values.{dereferenced, value_of}
use Rattle.jh_semantics.specs.Objects.{created, pick, target_of, put}
use Rattle.jh_semantics.specs.Progress.{Configuration, Progress, goes_on, returns, stops, goes_on_in, pay, with_value}
use Rattle.jh_semantics.specs.Execution.{with_values, receiver_of, called_on, result_of, back, ghost_stored}
use Rattle.jh_semantics.specs.Typed.{Surroundings, NamesFit, MayDeclare, Takes, new_local, old_local, a_static, a_field, ResultFits, StmtFits, StmtsFit, scope_behind, declaring}
use Rattle.jh_semantics.proofs.Keeping.{Ends, keeps-pay, keeps-any, keeps-if, keeps-pick, SimpleKeep, AllSimpleKeep}
use Rattle.jh_semantics.proofs.Typing.{ScopeFits}
use Rattle.jh_semantics.proofs.TypedRuns.{fits-behind}
use Rattle.jh_guard.specs.Writes.{target_local, locals_assigned, all_assigned, scope_after}
use Rattle.jh_logic.proofs.logic.Writing.{single}
use Rattle.jh_logic.proofs.logic.StateNames.{filter-from, texts-equal}
use Rattle.jh_logic.proofs.logic.Statements.{InScope}
use Rattle.jh_logic.proofs.logic.Bodies.{scope-behind}

values-any : (P : Configuration → Type 0) (R : Configuration → Option Datum → Type 0) (paid : (r : Configuration) (k : ℕ) → suc k ≡ r.steps → P r → P (record r { steps = k })) (es : List AnyCode) (s : State) (next : List Datum → Progress) →
    ((ds : List Datum) → Ends P R (next ds)) → Ends P R (with_values es s next)
values-any P R paid [] s next f = f []
values-any P R paid (e ∷ es) s next f = keeps-any P R paid (value_of e s) (λ d. with_values es s (λ ds. next (d ∷ ds))) (λ d. values-any P R paid es s (λ ds. next (d ∷ ds)) (λ ds. f (d ∷ ds)))

module _ (p : Program) (names : NamesFit p) where
  module _ (call : Callee → ℕ → List Datum → Configuration → Progress) (result : Ty) (o : State) where
    abbrev pub EntryStays : Configuration → Type 0
    EntryStays r = r.entry ≡ o

    abbrev pub EntryStaysWith : Configuration → Option Datum → Type 0
    EntryStaysWith r v = r.entry ≡ o

    pub paid-entry : (r : Configuration) (j : ℕ) → suc j ≡ r.steps → EntryStays r → EntryStays (record r { steps = j })
    paid-entry r j e h = h

    put-entry : (target : Target) (a : ℕ) (d : Datum) (r : Configuration) → EntryStays r → Ends EntryStays EntryStaysWith (put target a d r)
    put-entry c.nowhere a d r h = h
    put-entry (c.to_new x) a d r h = h
    put-entry (c.to_name x) a d r h = h
    put-entry (c.to_field f e q) a d r h = keeps-any EntryStays EntryStaysWith paid-entry (dereferenced e q a) (λ b. goes_on_in r (stored_at r.now f b d)) (λ b. h)

    back-entry : (u : Configuration) (target : Target) (a : ℕ) (y : Progress) → EntryStays u → Ends EntryStays EntryStaysWith (back u target a y)
    back-entry u target a (goes_on r) h = put-entry target a (result_of None) (record r { now = with_locals_of r.now u.now; entry = u.entry }) h
    back-entry u target a (returns r v) h = put-entry target a (result_of v) (record r { now = with_locals_of r.now u.now; entry = u.entry }) h
    back-entry u target a (stops why) h = tt

    pay-entry : (r : Configuration) (next : Configuration → Progress) → EntryStays r → ((u : Configuration) → EntryStays u → Ends EntryStays EntryStaysWith (next u)) → Ends EntryStays EntryStaysWith (pay r next)
    pay-entry r next h f = keeps-pay EntryStays EntryStaysWith paid-entry r next h f

    mutual
      pub stmt-entry : (s : Stmt) (at : Surroundings) → StmtFits p result s at → SimpleKeep EntryStays EntryStaysWith paid-entry call s
      stmt-entry c.empty at fit = tt
      stmt-entry (c.block body) at fit = stmts-entry body at fit
      stmt-entry (c.branch q e a b) at fit = (stmt-entry a at fit.0, stmts-entry b at fit.1)
      stmt-entry (c.loop q invariants e body) at fit = stmt-entry body at fit.1
      stmt-entry (c.assign target e) at fit = λ r k.
          pay-entry r (λ u. with_value (target_of target u.now) (λ a. with_value (value_of e u.now) (λ d. put target a d u))) k (λ u g.
          keeps-any EntryStays EntryStaysWith paid-entry (target_of target u.now) (λ a. with_value (value_of e u.now) (λ d. put target a d u)) (λ a.
          keeps-any EntryStays EntryStaysWith paid-entry (value_of e u.now) (λ d. put target a d u) (λ d. put-entry target a d u g)))
      stmt-entry (c.new_object q target class) at fit = λ r k.
          pay-entry r (λ u. with_value (target_of target u.now) (λ a. pick q u.picks u (λ x w. put target a (an_object x) (record w { now = created w.now class x })))) k (λ u g.
          keeps-any EntryStays EntryStaysWith paid-entry (target_of target u.now) (λ a. pick q u.picks u (λ x w. put target a (an_object x) (record w { now = created w.now class x }))) (λ a.
          keeps-pick EntryStays EntryStaysWith paid-entry q u.picks u (λ x w. put target a (an_object x) (record w { now = created w.now class x })) (λ x more e.
          put-entry target a (an_object x) (record u { picks = more; now = created u.now class x }) g)))
      stmt-entry (c.call q target receiver place m args) at fit = λ r k.
          pay-entry r (λ u. with_value (target_of target u.now) (λ a. with_value (receiver_of receiver u.now) (λ x. with_values args u.now (λ ds. with_value (called_on receiver place x) (λ this. back u target a (call m this ds u)))))) k (λ u g.
          keeps-any EntryStays EntryStaysWith paid-entry (target_of target u.now) (λ a. with_value (receiver_of receiver u.now) (λ x. with_values args u.now (λ ds. with_value (called_on receiver place x) (λ this. back u target a (call m this ds u))))) (λ a.
          keeps-any EntryStays EntryStaysWith paid-entry (receiver_of receiver u.now) (λ x. with_values args u.now (λ ds. with_value (called_on receiver place x) (λ this. back u target a (call m this ds u)))) (λ x.
          values-any EntryStays EntryStaysWith paid-entry args u.now (λ ds. with_value (called_on receiver place x) (λ this. back u target a (call m this ds u))) (λ ds.
          keeps-any EntryStays EntryStaysWith paid-entry (called_on receiver place x) (λ this. back u target a (call m this ds u)) (λ this. back-entry u target a (call m this ds u) g)))))
      stmt-entry c.return_nothing at fit = λ r k. pay-entry r (λ u. returns u None) k (λ u g. g)
      stmt-entry (c.return_value e) at fit = λ r k.
          pay-entry r (λ u. with_value (value_of e u.now) (λ d. returns u (Some d))) k (λ u g.
          keeps-any EntryStays EntryStaysWith paid-entry (value_of e u.now) (λ d. returns u (Some d)) (λ d. g))
      stmt-entry (c.assert claim) at fit = tt
      stmt-entry (c.note claim) at fit = tt
      stmt-entry (c.ghost x q v) at fit = λ r k. pay-entry r (λ u. goes_on_in u (stored u.now x (datum v (shown u.now u.entry) []))) k (λ u g. g)
      stmt-entry (c.ghost_at q class f a place v) at fit = λ r k.
          pay-entry r (λ u. ghost_stored q class f (term_value a (shown u.now u.entry) []) (datum v (shown u.now u.entry) []) u) k (λ u g.
          keeps-if EntryStays EntryStaysWith paid-entry (u.now.set (named class) (term_value a (shown u.now u.entry) [])) (goes_on_in u (stored_at u.now f (term_value a (shown u.now u.entry) []) (datum v (shown u.now u.entry) []))) _ (λ e. g) tt)

      pub stmts-entry : (ss : Stmts) (at : Surroundings) → StmtsFit p result ss at → AllSimpleKeep EntryStays EntryStaysWith paid-entry call ss
      stmts-entry c.none at fit = tt
      stmts-entry (c.more s ss) at fit = (stmt-entry s at fit.0, stmts-entry ss (scope_behind p at s) fit.1)

  -- A local is none of the parameters, nor `this`, nor a piece of state.
  pub record IsOwn (params : List Local) (y : Local) : Type 0 where
    pub dotless : has_dot y.text ≡ false
    pub not_this : y.text ≡ codes "this" → ⊥
    pub not_param : (z : Local) → Contains params z → z.text ≡ y.text → ⊥

  abbrev pub LocalsOwn : List Local → Surroundings → Type 0
  LocalsOwn params at = (y : Local) → Contains at.locals y → IsOwn params y

  abbrev pub ParamsIn : List Local → Surroundings → Type 0
  ParamsIn params at = (z : Local) → Contains params z → Contains at.params z

  own-declared : (params : List Local) (at : Surroundings) (x : Local) → ParamsIn params at → MayDeclare p at x → IsOwn params x
  own-declared params at x within may = record { dotless = may.no_state; not_this = may.not_this; not_param = λ z i e. may.is_new z (Contains-append_left at.params at.locals z (within z i)) e }

  own-behind : (params : List Local) (at : Surroundings) (target : Target) (type : Ty) → ParamsIn params at → LocalsOwn params at → Takes p at target type → LocalsOwn params (declaring p at target)
  own-behind params at _ _ within own (new_local x may) = λ y i. from y (Contains-append_cases (x ∷ []) at.locals y i)
    where
      from : (y : Local) → Contains (x ∷ []) y ⊎ Contains at.locals y → IsOwn params y
      from y (inl j) = subst (λ (z : Local). IsOwn params z) (sym (single x y j)) (own-declared params at x within may)
      from y (inr j) = own y j
  own-behind params at _ _ within own (old_local x i) = own
  own-behind params at _ _ within own (a_static x type is) = own
  own-behind params at _ _ within own (a_field x type is r q k h e) = own

  same-own : (params : List Local) (x y : Local) → y.text ≡ x.text → IsOwn params x → IsOwn params y
  same-own params x y e h = record {
    dotless = ap has_dot e ∙ h.dotless;
    not_this = λ i. h.not_this (sym e ∙ i);
    not_param = λ z i j. h.not_param z i (j ∙ e);
  }

  own-target : (params : List Local) (scope : List Local) (at : Surroundings) (this : Option ℕ) (target : Target) (type : Ty) → InScope this scope at → ScopeFits p names at → ParamsIn params at → LocalsOwn params at → Takes p at target type →
      (y : Local) → Contains (target_local scope target) y → IsOwn params y
  own-target params scope at this _ _ h fit within own (new_local x may) y i = subst (λ (z : Local). IsOwn params z) (sym (single x y i)) (own-declared params at x within may)
  own-target params scope at this _ _ h fit within own (old_local x j) y i = from (filter-from (λ (z : Local). same_text z.text x.text) scope y i)
    where
      from : Contains scope y × (same_text y.text x.text ≡ true) → IsOwn params y
      from found = same-own params x y (texts-equal y.text x.text found.1) (own x j)
  own-target params scope at this _ _ h fit within own (a_static x type is) y i = absurd (from (filter-from (λ (z : Local). same_text z.text x.text) scope y i))
    where
      from : Contains scope y × (same_text y.text x.text ≡ true) → ⊥
      from found = true≢false (sym (names.dots x is.stands) ∙ ap has_dot (sym (texts-equal y.text x.text found.1)) ∙ fit.no_state y (h.locals y found.0))
  own-target params scope at this _ _ h fit within own (a_field x type is r q k g e) y i = absurd (none i.0 i.1)
    where
      none : (j : ℕ) → j < 0 → ⊥
      none j lt = omega arith

  none-own : (params : List Local) (y : Local) → Contains [] y → IsOwn params y
  none-own params y i = absurd (none i.0 i.1)
    where
      none : (j : ℕ) → j < 0 → ⊥
      none j lt = omega arith

  params-behind : (params : List Local) (at : Surroundings) (target : Target) → ParamsIn params at → ParamsIn params (declaring p at target)
  params-behind params at c.nowhere h = h
  params-behind params at (c.to_new x) h = h
  params-behind params at (c.to_name x) h = h
  params-behind params at (c.to_field f e q) h = h

  result-own-behind : (params : List Local) (at : Surroundings) (target : Target) (type : Ty) → ParamsIn params at → LocalsOwn params at → ResultFits p at target type → LocalsOwn params (declaring p at target)
  result-own-behind params at c.nowhere type within own fit = own
  result-own-behind params at (c.to_new x) type within own fit = own-behind params at (c.to_new x) fit.type within own fit.takes
  result-own-behind params at (c.to_name x) type within own fit = own
  result-own-behind params at (c.to_field f e q) type within own fit = own

  module _ (result : Ty) (params : List Local) (this : Option ℕ) where
    stmt-params : (s : Stmt) (at : Surroundings) → ParamsIn params at → ParamsIn params (scope_behind p at s)
    stmt-params (c.assign target e) at h = params-behind params at target h
    stmt-params (c.new_object q target class) at h = params-behind params at target h
    stmt-params (c.call q target r place m args) at h = params-behind params at target h
    stmt-params c.empty at h = h
    stmt-params (c.block body) at h = h
    stmt-params (c.branch q e a b) at h = h
    stmt-params (c.loop q invariants e body) at h = h
    stmt-params c.return_nothing at h = h
    stmt-params (c.return_value e) at h = h
    stmt-params (c.assert claim) at h = h
    stmt-params (c.note claim) at h = h
    stmt-params (c.ghost x q v) at h = h
    stmt-params (c.ghost_at q class f a place v) at h = h

    stmt-own-behind : (s : Stmt) (at : Surroundings) → StmtFits p result s at → ParamsIn params at → LocalsOwn params at → LocalsOwn params (scope_behind p at s)
    stmt-own-behind (c.assign target e) at fit within own = own-behind params at target (fit.fit).type within own (fit.fit).takes
    stmt-own-behind (c.new_object q target class) at fit within own = own-behind params at target (fit.fit).type within own (fit.fit).takes
    stmt-own-behind (c.call q target r place m args) at fit within own = result-own-behind params at target (fit.method).result within own fit.result_fits
    stmt-own-behind c.empty at fit within own = own
    stmt-own-behind (c.block body) at fit within own = own
    stmt-own-behind (c.branch q e a b) at fit within own = own
    stmt-own-behind (c.loop q invariants e body) at fit within own = own
    stmt-own-behind c.return_nothing at fit within own = own
    stmt-own-behind (c.return_value e) at fit within own = own
    stmt-own-behind (c.assert claim) at fit within own = own
    stmt-own-behind (c.note claim) at fit within own = own
    stmt-own-behind (c.ghost x q v) at fit within own = own
    stmt-own-behind (c.ghost_at q class f a place v) at fit within own = own

    call-target-own : (scope : List Local) (at : Surroundings) (target : Target) (type : Ty) → InScope this scope at → ScopeFits p names at → ParamsIn params at → LocalsOwn params at → ResultFits p at target type → (y : Local) → Contains (target_local scope target) y → IsOwn params y
    call-target-own scope at c.nowhere type h fit within own f y i = none-own params y i
    call-target-own scope at (c.to_new x) type h fit within own f y i = own-target params scope at this (c.to_new x) f.type h fit within own f.takes y i
    call-target-own scope at (c.to_name x) type h fit within own f y i = own-target params scope at this (c.to_name x) f.type h fit within own f.takes y i
    call-target-own scope at (c.to_field g e q) type h fit within own f y i = none-own params y i

    -- what statements assign of locals is their own
    mutual
      pub stmt-own : (s : Stmt) (scope : List Local) (at : Surroundings) → InScope this scope at → StmtFits p result s at → ScopeFits p names at → ParamsIn params at → LocalsOwn params at → (y : Local) → Contains (locals_assigned scope s) y → IsOwn params y
      stmt-own (c.block body) scope at h fit scoped within own y i = stmts-own body scope at h fit scoped within own y i
      stmt-own (c.branch q e a b) scope at h fit scoped within own y i = from (Contains-append_cases (locals_assigned scope a) (all_assigned scope b) y i) (λ j. stmt-own a scope at h fit.0 scoped within own y j) (λ j. stmts-own b scope at h fit.1 scoped within own y j)
        where
          from : Contains (locals_assigned scope a) y ⊎ Contains (all_assigned scope b) y → (Contains (locals_assigned scope a) y → IsOwn params y) → (Contains (all_assigned scope b) y → IsOwn params y) → IsOwn params y
          from (inl j) f g = f j
          from (inr j) f g = g j
      stmt-own (c.loop q invariants e body) scope at h fit scoped within own y i = stmt-own body scope at h fit.1 scoped within own y i
      stmt-own (c.assign target e) scope at h fit scoped within own y i = own-target params scope at this target (fit.fit).type h scoped within own (fit.fit).takes y i
      stmt-own (c.new_object q target class) scope at h fit scoped within own y i = own-target params scope at this target (fit.fit).type h scoped within own (fit.fit).takes y i
      stmt-own (c.call q target r place m args) scope at h fit scoped within own y i = call-target-own scope at target (fit.method).result h scoped within own fit.result_fits y i
      stmt-own c.empty scope at h fit scoped within own y i = none-own params y i
      stmt-own c.return_nothing scope at h fit scoped within own y i = none-own params y i
      stmt-own (c.return_value e) scope at h fit scoped within own y i = none-own params y i
      stmt-own (c.assert claim) scope at h fit scoped within own y i = none-own params y i
      stmt-own (c.note claim) scope at h fit scoped within own y i = none-own params y i
      stmt-own (c.ghost x q v) scope at h fit scoped within own y i = none-own params y i
      stmt-own (c.ghost_at q class f a place v) scope at h fit scoped within own y i = none-own params y i

      pub stmts-own : (ss : Stmts) (scope : List Local) (at : Surroundings) → InScope this scope at → StmtsFit p result ss at → ScopeFits p names at → ParamsIn params at → LocalsOwn params at → (y : Local) → Contains (all_assigned scope ss) y → IsOwn params y
      stmts-own c.none scope at h fit scoped within own y i = none-own params y i
      stmts-own (c.more s ss) scope at h fit scoped within own y i =
          from (Contains-append_cases (locals_assigned scope s) (all_assigned (scope_after scope s) ss) y i) (λ j. stmt-own s scope at h fit.0 scoped within own y j)
          (λ j. stmts-own ss (scope_after scope s) (scope_behind p at s) (scope-behind p this s scope at h) fit.1 (fits-behind p names 0 result s at fit.0 scoped) (stmt-params s at within) (stmt-own-behind s at fit.0 within own) y j)
        where
          from : Contains (locals_assigned scope s) y ⊎ Contains (all_assigned (scope_after scope s) ss) y → (Contains (locals_assigned scope s) y → IsOwn params y) → (Contains (all_assigned (scope_after scope s) ss) y → IsOwn params y) → IsOwn params y
          from (inl j) f g = f j
          from (inr j) f g = g j
