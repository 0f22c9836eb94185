-- What the body of a method leaves of the state where it began: what the method may not write, the parameters and `this`.
use Rattle.std.proofs.Common.{◌≡◌, refl, sym, ap, ◌∙◌, subst, ℕ, ◌<◌, Bool, true, false, ◌&&◌, ◌||◌, List, [], ◌∷◌, ◌++◌, map, Option, Some, codes, arith}
use Rattle.std.specs.List.{Contains}
use Rattle.std.proofs.lemmas.Bool.{true≢false}
use Rattle.std.proofs.lemmas.List.Elements.{Contains-append_left, Contains-append_right}
use Rattle.jh_name.specs.declared.place.Sort.{Sort}
use Rattle.jh_name.specs.declared.place.Sort.TheVariants as sort
use Rattle.jh_form.specs.Passing.{name_equal}
use Rattle.jh_form.specs.Sorts.{same_sort}
use Rattle.jh_form.proofs.ClosedLemmas.{both-left, both-right}
use Rattle.jh_form.specs.Tree as t
use Rattle.jh_form.specs.Meaning.{Datum}
use Rattle.jh_rules.specs.Words.{same_text}
use Rattle.jh_rules.specs.declared.types.Ty.{Ty}
use Rattle.jh_rules.specs.declared.types.Ty.TheVariants as ty
use Rattle.jh_rules.specs.Kinds.{kind_of}
use Rattle.jh_vars.specs.state_names.States.{sort_of}
use Rattle.jh_vars.specs.Written.{Callee}
use Rattle.jh_semantics.specs.Code.{Text, ObjectCode, AnyCode, Local, Target, Stmt, Stmts}
use Rattle.jh_semantics.specs.Code as c
use Rattle.jh_semantics.specs.Program.{Program, Method}
use Rattle.jh_semantics.specs.State.{State, named, this_name}
use Rattle.jh_semantics.specs.Locals.{has_dot, entered}
use Rattle.jh_semantics.specs.Progress.{Configuration, Progress}
use Rattle.jh_semantics.specs.Execution.{exec_all, at_entry, calls}
use Rattle.jh_semantics.specs.Typed.{NamesFit, MethodFits, ProgramFits}
use Rattle.jh_semantics.proofs.Keeping.{Ends, all-keep}
use Rattle.jh_semantics.proofs.TypedRuns.{ends-both}
use Rattle.jh_semantics.proofs.TypedMethods.{params-scope}
use Rattle.jh_guard.specs.Items.{Item, item_text, item_sort, items, items_where, Sorted, sorted_item, sorted_local}
use Rattle.jh_guard.specs.Writes.{Writes, all_assigned}
use Rattle.jh_guard.specs.Calls.{written_sorted}
use Rattle.jh_logic.specs.logic.MethodContracts.{may_write, is_param, is_plain, LeavesUnwritten, SameValues, WritesCover}
use Rattle.jh_logic.proofs.logic.Histories.{is_named, Outside, outside-refl}
use Rattle.jh_logic.proofs.logic.Writing.{Kept, KeptWith, paid-kept}
use Rattle.jh_logic.proofs.logic.Written.{filter-has, map-has, Covers, simple-keeps}
use Rattle.jh_logic.proofs.logic.Statements.{InScope}
use Rattle.jh_logic.proofs.logic.Renamings.{GivesAt, at-then}
use Rattle.jh_logic.proofs.logic.StateNames.{any-has, map-from, filter-from, item-text, StateText, AllScalar, AllDotless, names-texts, sorts-equal, texts-equal, not-true, named-items, entered-state}
use Rattle.jh_logic.proofs.logic.Confined.{calls-keep-all}
use Rattle.jh_logic.proofs.logic.Entering.{entry_scope}
use Rattle.jh_logic.proofs.logic.Arguments.{dotless-params}
use Rattle.jh_logic.proofs.logic.Bodily.{EntryStays, EntryStaysWith, paid-entry, stmts-entry, IsOwn, stmts-own}

-- a name that is one of some names
named-from : (xs : List Sorted) (y : Text) (a : Sort) → is_named (named y) a xs ≡ true → (x : Sorted) × Contains xs x × (y ≡ x.text) × (a ≡ x.sort)
named-from [] y a h = absurd (true≢false (sym h))
named-from (x ∷ xs) y a h = from (name_equal (named y) (named x.text) && same_sort a x.sort) refl (named-from xs y a)
  where
    from : (b : Bool) → (name_equal (named y) (named x.text) && same_sort a x.sort) ≡ b → (is_named (named y) a xs ≡ true → (z : Sorted) × Contains xs z × (y ≡ z.text) × (a ≡ z.sort)) → (z : Sorted) × Contains (x ∷ xs) z × (y ≡ z.text) × (a ≡ z.sort)
    from true e f = (x, (0, omega arith, refl), names-texts y x.text (both-left (name_equal (named y) (named x.text)) (same_sort a x.sort) e), sorts-equal a x.sort (both-right (name_equal (named y) (named x.text)) (same_sort a x.sort) e))
    from false e f = more (f (subst (λ (b : Bool). (b || is_named (named y) a xs) ≡ true) e h))
      where
        more : (z : Sorted) × Contains xs z × (y ≡ z.text) × (a ≡ z.sort) → (z : Sorted) × Contains (x ∷ xs) z × (y ≡ z.text) × (a ≡ z.sort)
        more found = (found.0, Contains-append_right (x ∷ []) xs found.0 found.1, found.2, found.3)

module _ (p : Program) (ws : Writes) (fitting : ProgramFits p) (covers : WritesCover p ws) where
  abbrev names : NamesFit p
  names = fitting.names

  abbrev written : Callee → List Sorted
  written m = written_sorted p ws t.true_formula m

  -- the body of a method keeps all but what it may write, and its own locals
  abbrev pub changes : Callee → Method → List Sorted
  changes m x = written m ++ map sorted_local (all_assigned x.params x.body)

  in-scope : (x : Method) → InScope x.this x.params (entry_scope p names x.this x.params)
  in-scope x = record { this_is = refl; locals = λ y i. Contains-append_left x.params [] y i; back = λ y i. absurd (none i.0 i.1) }
    where
      none : (j : ℕ) → j < 0 → ⊥
      none j lt = omega arith

  body-covers : (m : Callee) (x : Method) → p.method m ≡ Some x → Covers p ws names (changes m x) x.params (c.block x.body)
  body-covers m x is = record {
    items_in = λ y i e. Contains-append_left (written m) (map sorted_local (all_assigned x.params x.body)) (sorted_item y)
        (map-has sorted_item (items_where p (ws.written m)) y (filter-has (λ z. ws.written m (item_text z)) (items p) y i (covers m x is y i e)));
    locals_in = λ y i. Contains-append_right (written m) (map sorted_local (all_assigned x.params x.body)) (sorted_local y) (map-has sorted_local (all_assigned x.params x.body) y i);
  }

  assigned-own : (m : Callee) (x : Method) → p.method m ≡ Some x → (y : Local) → Contains (all_assigned x.params x.body) y → IsOwn p names x.params y
  assigned-own m x is y i =
      let fit : MethodFits p x = fitting.methods m x is in
      stmts-own p names x.result x.params x.this x.body x.params (entry_scope p names x.this x.params) (in-scope x) fit.body (params-scope p names x fit) (λ z j. j) (λ z j. absurd (none j.0 j.1)) y i
    where
      none : (j : ℕ) → j < 0 → ⊥
      none j lt = omega arith

  -- the name of a local is none of the state
  local-apart : (ls : List Local) (y : Text) (a : Sort) → ((x : Local) → Contains ls x → has_dot x.text ≡ false) → StateText y a → is_named (named y) a (map sorted_local ls) ≡ false
  local-apart ls y a h s = not-true (is_named (named y) a (map sorted_local ls)) (λ e. clash (named-from (map sorted_local ls) y a e))
    where
      plain : (type : Ty) (y : Text) → StateText y (sort_of (kind_of type)) → has_dot y ≡ true
      plain ty.Int y h = h
      plain ty.Boolean y h = h
      plain ty.Void y h = h
      plain ty.Null y h = h
      plain ty.Object y h = h
      plain (ty.Class n) y h = h

      of_local : (z : Sorted) → y ≡ z.text → a ≡ z.sort → (x : Local) × Contains ls x × (sorted_local x ≡ z) → ⊥
      of_local z e f found =
          let x : Local = found.0 in
          let text : y ≡ x.text = e ∙ ap (λ (w : Sorted). w.text) (sym found.2) in
          let kind : a ≡ sort_of (kind_of x.type) = f ∙ ap (λ (w : Sorted). w.sort) (sym found.2) in
          true≢false (sym (plain x.type y (subst (λ (b : Sort). StateText y b) kind s)) ∙ ap has_dot text ∙ h x found.1)

      clash : (z : Sorted) × Contains (map sorted_local ls) z × (y ≡ z.text) × (a ≡ z.sort) → ⊥
      clash found = of_local found.0 found.2 found.3 (map-from sorted_local ls found.0 found.1)

  or-false : (a b : Bool) → a ≡ false → b ≡ false → (a || b) ≡ false
  or-false true b e f = e
  or-false false b e f = f

  named-append : (xs ys : List Sorted) (y : Text) (a : Sort) → is_named (named y) a (xs ++ ys) ≡ (is_named (named y) a xs || is_named (named y) a ys)
  named-append [] ys y a = refl
  named-append (x ∷ xs) ys y a = (λ i. (name_equal (named y) (named x.text) && same_sort a x.sort) || named-append xs ys y a i) ∙ assoc (name_equal (named y) (named x.text) && same_sort a x.sort) (is_named (named y) a xs) (is_named (named y) a ys)
    where
      assoc : (b d e : Bool) → (b || (d || e)) ≡ ((b || d) || e)
      assoc true d e = refl
      assoc false d e = refl

  unchanged-name : (m : Callee) (x : Method) → p.method m ≡ Some x → (y : Text) (a : Sort) → StateText y a → may_write p ws m y a ≡ false → is_named (named y) a (changes m x) ≡ false
  unchanged-name m x is y a h e =
      named-append (written m) (map sorted_local (all_assigned x.params x.body)) y a
      ∙ or-false (is_named (named y) a (written m)) (is_named (named y) a (map sorted_local (all_assigned x.params x.body)))
      (named-items (items_where p (ws.written m)) y a ∙ e) (local-apart (all_assigned x.params x.body) y a (λ z i. (assigned-own m x is z i).dotless) h)

  outside-gives : (xs : List Sorted) (s r : State) (y : Text) (a : Sort) → Outside xs s r → is_named (named y) a xs ≡ false → GivesAt a r (named y) s (named y)
  outside-gives xs s r y sort.Obj h e = sym (h.object (named y) refl e)
  outside-gives xs s r y sort.Int h e = sym (h.number (named y) refl e)
  outside-gives xs s r y sort.Bool h e = sym (h.truth (named y) refl e)
  outside-gives xs s r y sort.Set h e = sym (h.set (named y) refl e)
  outside-gives xs s r y sort.Field h e = sym (h.field (named y) refl e)

  -- so the method leaves what it may not write, where its body kept what it kept
  pub outside-leaves : (m : Callee) (x : Method) (is : p.method m ≡ Some x) (this : ℕ) (args : List Datum) (s last : State) → AllScalar args → (entered x this args s).last ≡ s.last → Outside (changes m x) (entered x this args s) last → LeavesUnwritten p ws m s last
  outside-leaves m x is this args s last scalar same h = record {
    universe = sym h.last ∙ same;
    object = λ y d e. at y sort.Obj d e;
    number = λ y d e. at y sort.Int d e;
    truth = λ y d e. at y sort.Bool d e;
    set = λ y e. at y sort.Set tt e;
    field = λ y e. at y sort.Field tt e;
  }
    where
      dotless : AllDotless x.params
      dotless = dotless-params x.params (λ y i. (params-scope p names x (fitting.methods m x is)).no_state y (Contains-append_left x.params [] y i))

      at : (y : Text) (a : Sort) → StateText y a → may_write p ws m y a ≡ false → GivesAt a last (named y) s (named y)
      at y a t e =
          at-then a last (entered x this args s) s (named y) (named y) (named y) (outside-gives (changes m x) (entered x this args s) last y a h (unchanged-name m x is y a t e))
          (entered-state x this args s y a scalar dotless t)

  -- and its parameters and `this` have their values
  state-apart : (m : Callee) (y : Text) (a : Sort) → is_plain a ≡ true → has_dot y ≡ false → is_named (named y) a (written m) ≡ false
  state-apart m y a plain dot = not-true (is_named (named y) a (written m)) (λ e. clash (named-from (written m) y a e))
    where
      dotted : (a : Sort) (z : Text) → is_plain a ≡ true → StateText z a → has_dot z ≡ true
      dotted sort.Obj z i h = h
      dotted sort.Int z i h = h
      dotted sort.Bool z i h = h
      dotted sort.Set z i h = absurd (true≢false (sym i))
      dotted sort.Field z i h = absurd (true≢false (sym i))

      of_item : (z : Sorted) → y ≡ z.text → a ≡ z.sort → (x : Item) × Contains (items_where p (ws.written m)) x × (sorted_item x ≡ z) → ⊥
      of_item z e f found =
          let x : Item = found.0 in
          let text : y ≡ item_text x = e ∙ ap (λ (w : Sorted). w.text) (sym found.2) in
          let kind : a ≡ item_sort x = f ∙ ap (λ (w : Sorted). w.sort) (sym found.2) in
          true≢false (sym (dotted a (item_text x) plain (subst (λ (b : Sort). StateText (item_text x) b) (sym kind) (item-text p names x (filter-from (λ z. ws.written m (item_text z)) (items p) x found.1).0))) ∙ ap has_dot (sym text) ∙ dot)

      clash : (z : Sorted) × Contains (written m) z × (y ≡ z.text) × (a ≡ z.sort) → ⊥
      clash found = of_item found.0 found.2 found.3 (map-from sorted_item (items_where p (ws.written m)) found.0 found.1)

  own-apart : (m : Callee) (x : Method) → p.method m ≡ Some x → (y : Text) (a : Sort) → is_plain a ≡ true → has_dot y ≡ false → ((z : Local) → IsOwn p names x.params z → z.text ≡ y → ⊥) → is_named (named y) a (changes m x) ≡ false
  own-apart m x is y a plain dot other =
      named-append (written m) (map sorted_local (all_assigned x.params x.body)) y a
      ∙ or-false (is_named (named y) a (written m)) (is_named (named y) a (map sorted_local (all_assigned x.params x.body))) (state-apart m y a plain dot)
      (not-true (is_named (named y) a (map sorted_local (all_assigned x.params x.body))) (λ e. clash (named-from (map sorted_local (all_assigned x.params x.body)) y a e)))
    where
      of_local : (z : Sorted) → y ≡ z.text → (w : Local) × Contains (all_assigned x.params x.body) w × (sorted_local w ≡ z) → ⊥
      of_local z e found = other found.0 (assigned-own m x is found.0 found.1) (ap (λ (v : Sorted). v.text) found.2 ∙ sym e)

      clash : (z : Sorted) × Contains (map sorted_local (all_assigned x.params x.body)) z × (y ≡ z.text) × (a ≡ z.sort) → ⊥
      clash found = of_local found.0 found.2 (map-from sorted_local (all_assigned x.params x.body) found.0 found.1)

  pub param-kept : (m : Callee) (x : Method) → p.method m ≡ Some x → (first last : State) → Outside (changes m x) first last → (y : Text) → is_param x.params y ≡ true → SameValues first last y
  param-kept m x is first last h y e = from (any-has (λ (z : Local). same_text z.text y) x.params e)
    where
      from : (z : Local) × Contains x.params z × (same_text z.text y ≡ true) → SameValues first last y
      from found =
          let text : found.0.text ≡ y = texts-equal found.0.text y found.2 in
          let dot : has_dot y ≡ false = ap has_dot (sym text) ∙ (params-scope p names x (fitting.methods m x is)).no_state found.0 (Contains-append_left x.params [] found.0 found.1) in
          let other : (w : Local) → IsOwn p names x.params w → w.text ≡ y → ⊥ = λ w own i. own.not_param found.0 found.1 (text ∙ sym i) in
          record {
            object = outside-gives (changes m x) first last y sort.Obj h (own-apart m x is y sort.Obj refl dot other);
            number = outside-gives (changes m x) first last y sort.Int h (own-apart m x is y sort.Int refl dot other);
            truth = outside-gives (changes m x) first last y sort.Bool h (own-apart m x is y sort.Bool refl dot other);
          }

  pub this-kept : (m : Callee) (x : Method) → p.method m ≡ Some x → (first last : State) → Outside (changes m x) first last → last.object this_name ≡ first.object this_name
  this-kept m x is first last h = outside-gives (changes m x) first last (codes "this") sort.Obj h (own-apart m x is (codes "this") sort.Obj refl refl (λ w own i. own.not_this i))

  -- what a body keeps, from where it begins
  abbrev pub BodyKept : Callee → Method → ℕ → List Datum → State → Configuration → Type 0
  BodyKept m x this args s r = Outside (changes m x) (entered x this args s) r.now × (r.entry ≡ s)

  abbrev pub BodyKeptWith : Callee → Method → ℕ → List Datum → State → Configuration → Option Datum → Type 0
  BodyKeptWith m x this args s r v = Outside (changes m x) (entered x this args s) r.now × (r.entry ≡ s)

  pub body-keeps : (depth : ℕ) (m : Callee) (x : Method) → p.method m ≡ Some x → (this : ℕ) (args : List Datum) (u : Configuration) →
      Ends (BodyKept m x this args u.now) (BodyKeptWith m x this args u.now) (exec_all (calls depth p) x.body (at_entry x this args u))
  body-keeps depth m x is this args u =
      let call : Callee → ℕ → List Datum → Configuration → Progress = calls depth p in
      let xs : List Sorted = changes m x in
      let first : State = entered x this args u.now in
      let fit : MethodFits p x = fitting.methods m x is in
      ends-both (Kept xs first) (EntryStays p names call x.result u.now) (KeptWith xs first) (EntryStaysWith p names call x.result u.now) (exec_all call x.body (at_entry x this args u))
      (all-keep (Kept xs first) (KeptWith xs first) (paid-kept xs first) call x.body
      (simple-keeps p ws names xs first call x.result (calls-keep-all p ws names fitting covers depth x.result xs first) (c.block x.body) x.params (entry_scope p names x.this x.params) x.this (in-scope x) fit.body (body-covers m x is)) (at_entry x this args u) (outside-refl xs first))
      (all-keep (EntryStays p names call x.result u.now) (EntryStaysWith p names call x.result u.now) (paid-entry p names call x.result u.now) call x.body
      (stmts-entry p names call x.result u.now x.body (entry_scope p names x.this x.params) fit.body) (at_entry x this args u) refl)
