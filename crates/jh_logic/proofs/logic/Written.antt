-- Typed statements keep all but what they may write.
use Rattle.std.proofs.Common.{◌≡◌, refl, sym, ap, ◌∙◌, subst, ℕ, ◌<◌, Bool, true, false, ◌||◌, if◌then◌else◌, List, [], ◌∷◌, ◌++◌, map, filter, Option, None, Some, codes, arith, ◌⊎◌, inl, inr}
use Rattle.std.specs.List.{Contains}
use Rattle.std.proofs.lemmas.Bool.{true≢false}
use Rattle.std.proofs.lemmas.List.Elements.{Contains-append_left, Contains-append_right, Contains-append_cases}
use Rattle.jh_name.specs.declared.place.Place.{Place}
use Rattle.jh_name.specs.declared.place.Kind.{Kind}
use Rattle.jh_name.specs.declared.place.Kind.TheVariants as k
use Rattle.jh_name.specs.declared.place.Sort.{Sort}
use Rattle.jh_name.specs.declared.place.Sort.TheVariants as sort
use Rattle.jh_form.specs.Sorts.{tree_sort}
use Rattle.jh_form.specs.Tree.{ValueTree, TermTree}
use Rattle.jh_form.specs.Tree as t
use Rattle.jh_form.specs.Meaning.{Interp, Datum, an_object, datum, term_value}
use Rattle.jh_rules.specs.Words.{same_text}
use Rattle.jh_rules.specs.declared.types.Ty.{Ty}
use Rattle.jh_rules.specs.declared.types.Ty.TheVariants as ty
use Rattle.jh_rules.specs.Kinds.{fits, kind_of}
use Rattle.jh_vars.specs.state_names.States.{sort_of, member_sort}
use Rattle.jh_vars.specs.Written.{Callee}
use Rattle.jh_semantics.specs.Code.{Text, ObjectCode, TruthCode, AnyCode, Local, Target, Claim, Stmt, Stmts}
use Rattle.jh_semantics.specs.Code as c
use Rattle.jh_semantics.specs.Program.{Program, Member, class_at}
use Rattle.jh_semantics.specs.State.{State, named, shown, stored, stored_at}
use Rattle.jh_semantics.specs.Values.{value_of}
use Rattle.jh_semantics.specs.Objects.{created, pick, target_of, put}
use Rattle.jh_semantics.specs.Progress.{Configuration, Progress, goes_on_in, returns, pay, with_value}
use Rattle.jh_semantics.specs.Execution.{ghost_stored}
use Rattle.jh_semantics.specs.WellFormed.{all_classes}
use Rattle.jh_semantics.specs.Typed.{Surroundings, NamesFit, Has, Takes, new_local, old_local, a_static, a_field, TypeOf, plain_objects, objects_of, StmtFits, StmtsFit, scope_behind}
use Rattle.jh_semantics.proofs.Keeping.{Ends, keeps-pay, keeps-value, keeps-any, keeps-if, keeps-pick, SimpleKeep, AllSimpleKeep, Keeps}
use Rattle.jh_semantics.proofs.TypedRuns.{has-kind, fits-kind}
use Rattle.jh_guard.specs.Items.{Item, all_objects, of_member, item_text, items, Sorted, sorted_item, sorted_local}
use Rattle.jh_guard.specs.Items as item
use Rattle.jh_guard.specs.Writes.{Writes, target_writes, target_local, stmt_writes, stmts_write, locals_assigned, all_assigned, scope_after}
use Rattle.jh_logic.proofs.logic.Histories.{is_named, outside-trans}
use Rattle.jh_logic.proofs.logic.Statements.{InScope}
use Rattle.jh_logic.proofs.logic.Bodies.{scope-behind}
use Rattle.jh_logic.proofs.logic.Writing.{text-same, single, or-left, or-right, named-in, HasSort, code_sort, value-sort, stored-outside, stored-at-outside, created-outside, TargetNamed, Kept, KeptWith, paid-kept, put-keeps}

-- what a list has, the list with a test has, and the mapped list
pub filter-has : {X : Type 0} (test : X → Bool) (xs : List X) (x : X) → Contains xs x → test x ≡ true → Contains (filter test xs) x
filter-has test [] x i e = absurd (no-place i.0 i.1)
  where
    no-place : (j : ℕ) → j < 0 → ⊥
    no-place j lt = omega arith
filter-has {X = X} test (y ∷ ys) x i e = from (test y) refl (Contains-append_cases (y ∷ []) ys x i) (λ j. filter-has test ys x j e)
  where
    from : (b : Bool) → test y ≡ b → Contains (y ∷ []) x ⊎ Contains ys x → (Contains ys x → Contains (filter test ys) x) → Contains (if b then y ∷ filter test ys else filter test ys) x
    from true is (inl j) rest = Contains-append_left (y ∷ []) (filter test ys) x j
    from true is (inr j) rest = Contains-append_right (y ∷ []) (filter test ys) x (rest j)
    from false is (inl j) rest = absurd (true≢false (sym e ∙ ap test (single y x j) ∙ is))
    from false is (inr j) rest = rest j

pub map-has : {X Y : Type 0} (f : X → Y) (xs : List X) (x : X) → Contains xs x → Contains (map f xs) (f x)
map-has f [] x i = absurd (no-place i.0 i.1)
  where
    no-place : (j : ℕ) → j < 0 → ⊥
    no-place j lt = omega arith
map-has {X = X} {Y = Y} f (y ∷ ys) x i = from (Contains-append_cases (y ∷ []) ys x i) (λ j. map-has f ys x j)
  where
    from : Contains (y ∷ []) x ⊎ Contains ys x → (Contains ys x → Contains (map f ys) (f x)) → Contains (f y ∷ map f ys) (f x)
    from (inl j) rest = subst (λ (z : X). Contains (f y ∷ map f ys) (f z)) (sym (single y x j)) (Contains-append_left (f y ∷ []) (map f ys) (f y) (first (f y)))
      where
        first : {X : Type 0} (y : X) → Contains (y ∷ []) y
        first y = (0, omega arith, refl)
    from (inr j) rest = Contains-append_right (f y ∷ []) (map f ys) (f x) (rest j)

module _ (p : Program) (ws : Writes) (names : NamesFit p) (xs : List Sorted) where
  -- what is written is among some names
  abbrev pub CoversItems : (Text → Bool) → Type 0
  CoversItems test = (y : Item) → Contains (items p) y → test (item_text y) ≡ true → Contains xs (sorted_item y)

  abbrev pub CoversLocals : List Local → Type 0
  CoversLocals ls = (x : Local) → Contains ls x → Contains xs (sorted_local x)

  pub record Covers (scope : List Local) (s : Stmt) : Type 0 where
    pub items_in : CoversItems (stmt_writes ws s)
    pub locals_in : CoversLocals (locals_assigned scope s)

  pub record CoversAll (scope : List Local) (ss : Stmts) : Type 0 where
    pub items_in : CoversItems (stmts_write ws ss)
    pub locals_in : CoversLocals (all_assigned scope ss)

  member-item : (x : Member) → Contains p.members x → Contains (items p) (of_member x)
  member-item x i =
      Contains-append_right (all_objects ∷ []) (map (λ c. item.objects_of c) (all_classes p.classes) ++ map (λ y. of_member y) p.members) (of_member x)
      (Contains-append_right (map (λ c. item.objects_of c) (all_classes p.classes)) (map (λ y. of_member y) p.members) (of_member x) (map-has (λ y. of_member y) p.members x i))

  class-item : (class : Text) → Contains (all_classes p.classes) class → Contains (items p) (item.objects_of class)
  class-item class i =
      Contains-append_right (all_objects ∷ []) (map (λ c. item.objects_of c) (all_classes p.classes) ++ map (λ y. of_member y) p.members) (item.objects_of class)
      (Contains-append_left (map (λ c. item.objects_of c) (all_classes p.classes)) (map (λ y. of_member y) p.members) (item.objects_of class) (map-has (λ c. item.objects_of c) (all_classes p.classes) class i))

  alloc-item : Contains (items p) all_objects
  alloc-item = (0, omega arith, refl)

  static-sort : (x : Member) (type : Ty) → Contains p.members x → x.is_static ≡ true → x.type ≡ Some type → (sorted_item (of_member x)).sort ≡ sort_of (kind_of type)
  static-sort x type i s e = (λ j. member_sort x.kind (s j)) ∙ ap sort_of (sym (names.kinds x type i e))

  field-sort : (x : Member) → x.is_static ≡ false → (sorted_item (of_member x)).sort ≡ sort.Field
  field-sort x s = λ j. member_sort x.kind (s j)

  at-sort : (y : Text) (a b : Sort) → a ≡ b → is_named (named y) a xs ≡ true → is_named (named y) b xs ≡ true
  at-sort y a b e h = subst (λ (z : Sort). is_named (named y) z xs ≡ true) e h

  -- a typed target is named at its sort
  takes-named : (scope : List Local) (at : Surroundings) (this : Option ℕ) → InScope this scope at → (target : Target) (type : Ty) → Takes p at target type → CoversItems (target_writes target) → CoversLocals (target_local scope target) → TargetNamed xs target (sort_of (kind_of type))
  takes-named scope at this h _ _ (new_local x may) c l = named-in xs (sorted_local x) (l x (0, omega arith, refl))
  takes-named scope at this h _ _ (old_local x i) c l = named-in xs (sorted_local x) (l x (filter-has (λ (y : Local). same_text y.text x.text) scope x (h.back x i) (text-same x.text)))
  takes-named scope at this h _ _ (a_static x type is) c l = at-sort x.text (sorted_item (of_member x)).sort (sort_of (kind_of type)) (static-sort x type is.stands is.sort is.has) (named-in xs (sorted_item (of_member x)) (c (of_member x) (member-item x is.stands) (text-same x.text)))
  takes-named scope at this h _ _ (a_field x type is r q k j e) c l = at-sort x.text (sorted_item (of_member x)).sort sort.Field (field-sort x is.sort) (named-in xs (sorted_item (of_member x)) (c (of_member x) (member-item x is.stands) (text-same x.text)))

  -- an expression has values of the sort of its type
  type-sort : (at : Surroundings) (e : AnyCode) (type : Ty) → Has p at e type → code_sort e ≡ sort_of (kind_of type)
  type-sort at (c.an_object a) type h = ap sort_of (sym (has-kind p names n0 at a type h))
    where
      n0 : ℕ
      n0 = 0
  type-sort at (c.a_number a) type h = λ i. sort_of (kind_of (sym h i))
  type-sort at (c.a_truth a) type h = λ i. sort_of (kind_of (sym h i))

  fit-sort : (at : Surroundings) (e : AnyCode) (type target : Ty) → Has p at e type → fits type target ≡ true → sort_of (kind_of target) ≡ code_sort e
  fit-sort at e type target h f = ap sort_of (sym (fits-kind p names 0 type target f)) ∙ sym (type-sort at e type h)

  named-at : (target : Target) (a b : Sort) → a ≡ b → TargetNamed xs target a → TargetNamed xs target b
  named-at target a b e h = subst (λ (z : Sort). TargetNamed xs target z) e h

  class-of-type : (class : Text) (type : Ty) → TypeOf p class type → Contains (all_classes p.classes) class
  class-of-type _ _ plain_objects = Contains-append_right p.classes (codes "Object" ∷ []) (codes "Object") (0, omega arith, refl)
  class-of-type _ _ (objects_of k i) = Contains-append_left p.classes (codes "Object" ∷ []) (class_at p.classes k) i

  object-kind : (class : Text) (type target : Ty) → TypeOf p class type → fits type target ≡ true → sort_of (kind_of target) ≡ sort.Obj
  object-kind _ _ target plain_objects f = ap sort_of (sym (fits-kind p names 0 ty.Object target f))
  object-kind _ _ target (objects_of k i) f = ap sort_of (sym (fits-kind p names 0 (ty.Class k) target f))

  -- over the state where it begins, and calls of methods that keep the same
  module _ (first : State) (call : Callee → ℕ → List Datum → Configuration → Progress) (result : Ty) where
    abbrev pub CallsKeep : Type 0
    CallsKeep =
        (q : Place) (target : Target) (receiver : Option ObjectCode) (place : Place) (m : Callee) (args : List AnyCode) (scope : List Local) (at : Surroundings) (this : Option ℕ) → InScope this scope at →
        StmtFits p result (c.call q target receiver place m args) at → Covers scope (c.call q target receiver place m args) → Keeps (Kept xs first) (KeptWith xs first) (paid-kept xs first) call (c.call q target receiver place m args)

    pay-keeps : (r : Configuration) (next : Configuration → Progress) → Kept xs first r → ((u : Configuration) → Kept xs first u → Ends (Kept xs first) (KeptWith xs first) (next u)) → Ends (Kept xs first) (KeptWith xs first) (pay r next)
    pay-keeps r next h f = keeps-pay (Kept xs first) (KeptWith xs first) (paid-kept xs first) r next h f

    new-alloc : (class : Text) (target : Target) → stmt_writes ws (c.new_object (record { line = 0; column = 0 }) target class) (codes "alloc") ≡ true
    new-alloc class target =
        or-left (same_text (codes "alloc") (codes "alloc") || same_text class (codes "alloc")) (target_writes target (codes "alloc"))
        (or-left (same_text (codes "alloc") (codes "alloc")) (same_text class (codes "alloc")) (text-same (codes "alloc")))

    new-class : (class : Text) (target : Target) → stmt_writes ws (c.new_object (record { line = 0; column = 0 }) target class) class ≡ true
    new-class class target =
        or-left (same_text (codes "alloc") class || same_text class class) (target_writes target class) (or-right (same_text (codes "alloc") class) (same_text class class) (text-same class))

    new-target : (class : Text) (target : Target) (x : Text) → target_writes target x ≡ true → stmt_writes ws (c.new_object (record { line = 0; column = 0 }) target class) x ≡ true
    new-target class target x h = or-right (same_text (codes "alloc") x || same_text class x) (target_writes target x) h

    -- a value has the sort of its tree
    sorted-datum : (v : ValueTree) (m : Interp) (kind : Kind) → tree_sort v ≡ sort_of kind → HasSort (sort_of kind) (datum v m [])
    sorted-datum (t.of_object a) m kind h = subst (λ (z : Sort). HasSort z (datum (t.of_object a) m [])) h tt
    sorted-datum (t.of_number a) m kind h = subst (λ (z : Sort). HasSort z (datum (t.of_number a) m [])) h tt
    sorted-datum (t.of_truth a) m kind h = subst (λ (z : Sort). HasSort z (datum (t.of_truth a) m [])) h tt
    sorted-datum (t.of_set a) m kind h = subst (λ (z : Sort). HasSort z (datum (t.of_set a) m [])) h tt
    sorted-datum (t.of_field a) m k.Obj h = absurd (cc)
    sorted-datum (t.of_field a) m k.Int h = absurd (cc)
    sorted-datum (t.of_field a) m k.Bool h = absurd (cc)
    sorted-datum (t.of_field a) m k.Set h = absurd (cc)

    -- the ghost variable that is assigned
    ghost-item : (y : Member) (x : Text) → Contains p.members y → y.text ≡ x → CoversItems (λ z. same_text x z) → is_named (named x) (sorted_item (of_member y)).sort xs ≡ true
    ghost-item y x i e c =
        subst (λ (z : Text). is_named (named z) (sorted_item (of_member y)).sort xs ≡ true) e
        (named-in xs (sorted_item (of_member y)) (c (of_member y) (member-item y i) (subst (λ (z : Text). same_text z y.text ≡ true) e (text-same y.text))))

    module _ (calls : CallsKeep) where
      mutual
        pub simple-keeps : (s : Stmt) (scope : List Local) (at : Surroundings) (this : Option ℕ) → InScope this scope at → StmtFits p result s at → Covers scope s → SimpleKeep (Kept xs first) (KeptWith xs first) (paid-kept xs first) call s
        simple-keeps c.empty scope at this h fit v = tt
        simple-keeps (c.block body) scope at this h fit v = all-keep-simply body scope at this h fit (record { items_in = v.items_in; locals_in = v.locals_in })
        simple-keeps (c.branch q e a b) scope at this h fit v = (
          simple-keeps a scope at this h fit.0 (record { items_in = λ y i t. v.items_in y i (or-left (stmt_writes ws a (item_text y)) (stmts_write ws b (item_text y)) t); locals_in = λ x i. v.locals_in x (Contains-append_left (locals_assigned scope a) (all_assigned scope b) x i) }),
          all-keep-simply b scope at this h fit.1 (record { items_in = λ y i t. v.items_in y i (or-right (stmt_writes ws a (item_text y)) (stmts_write ws b (item_text y)) t); locals_in = λ x i. v.locals_in x (Contains-append_right (locals_assigned scope a) (all_assigned scope b) x i) }),
        )
        simple-keeps (c.loop q invariants e body) scope at this h fit v = simple-keeps body scope at this h fit.1 (record { items_in = v.items_in; locals_in = v.locals_in })
        simple-keeps (c.assign target e) scope at this h fit v = λ r k.
            pay-keeps r (λ u. with_value (target_of target u.now) (λ a. with_value (value_of e u.now) (λ d. put target a d u))) k (λ u g.
            keeps-any (Kept xs first) (KeptWith xs first) (paid-kept xs first) (target_of target u.now) (λ a. with_value (value_of e u.now) (λ d. put target a d u)) (λ a.
            keeps-value (Kept xs first) (KeptWith xs first) (paid-kept xs first) (HasSort (code_sort e)) (value_of e u.now) (λ d. put target a d u) (value-sort e u.now) (λ d i.
            put-keeps xs first target a d (code_sort e) u g i
            (named-at target (sort_of (kind_of (fit.fit).type)) (code_sort e) (fit-sort at e fit.type (fit.fit).type fit.has (fit.fit).fit)
            (takes-named scope at this h target (fit.fit).type (fit.fit).takes v.items_in v.locals_in)))))
        simple-keeps (c.new_object q target class) scope at this h fit v = λ r k.
            pay-keeps r (λ u. with_value (target_of target u.now) (λ a. pick q u.picks u (λ x w. put target a (an_object x) (record w { now = created w.now class x })))) k (λ u g.
            keeps-any (Kept xs first) (KeptWith xs first) (paid-kept xs first) (target_of target u.now) (λ a. pick q u.picks u (λ x w. put target a (an_object x) (record w { now = created w.now class x }))) (λ a.
            keeps-pick (Kept xs first) (KeptWith xs first) (paid-kept xs first) q u.picks u (λ x w. put target a (an_object x) (record w { now = created w.now class x })) (λ x more e.
            put-keeps xs first target a (an_object x) sort.Obj (record u { picks = more; now = created u.now class x })
            (outside-trans xs first u.now (created u.now class x) g (created-outside xs u.now class x
            (named-in xs (sorted_item all_objects) (v.items_in all_objects alloc-item (new-alloc class target)))
            (named-in xs (sorted_item (item.objects_of class)) (v.items_in (item.objects_of class) (class-item class (class-of-type class fit.type fit.is)) (new-class class target))))) tt
            (named-at target (sort_of (kind_of (fit.fit).type)) sort.Obj (object-kind class fit.type (fit.fit).type fit.is (fit.fit).fit)
            (takes-named scope at this h target (fit.fit).type (fit.fit).takes (λ y i t. v.items_in y i (new-target class target (item_text y) t)) v.locals_in)))))
        simple-keeps (c.call q target receiver place m args) scope at this h fit v = calls q target receiver place m args scope at this h fit v
        simple-keeps c.return_nothing scope at this h fit v = λ r k. pay-keeps r (λ u. returns u None) k (λ u g. g)
        simple-keeps (c.return_value e) scope at this h fit v = λ r k.
            pay-keeps r (λ u. with_value (value_of e u.now) (λ d. returns u (Some d))) k (λ u g. keeps-any (Kept xs first) (KeptWith xs first) (paid-kept xs first) (value_of e u.now) (λ d. returns u (Some d)) (λ d. g))
        simple-keeps (c.assert claim) scope at this h fit v = tt
        simple-keeps (c.note claim) scope at this h fit v = tt
        simple-keeps (c.ghost x q w) scope at this h fit v = λ r k.
            pay-keeps r (λ u. goes_on_in u (stored u.now x (datum w (shown u.now u.entry) []))) k (λ u g.
            outside-trans xs first u.now (stored u.now x (datum w (shown u.now u.entry) [])) g (stored-outside xs u.now (sort_of (fit.0).kind) x (datum w (shown u.now u.entry) []) (sorted-datum w (shown u.now u.entry) (fit.0).kind (fit.1).kind)
            (at-sort x (sorted_item (of_member fit.0)).sort (sort_of (fit.0).kind) (λ j. member_sort (fit.0).kind ((fit.1).ghost.sort j)) (ghost-item fit.0 x (fit.1).ghost.stands (fit.1).text v.items_in))))
        simple-keeps (c.ghost_at q class f a place w) scope at this h fit v = λ r k.
            pay-keeps r (λ u. ghost_stored q class f (term_value a (shown u.now u.entry) []) (datum w (shown u.now u.entry) []) u) k (λ u g.
            keeps-if (Kept xs first) (KeptWith xs first) (paid-kept xs first) (u.now.set (named class) (term_value a (shown u.now u.entry) []))
            (goes_on_in u (stored_at u.now f (term_value a (shown u.now u.entry) []) (datum w (shown u.now u.entry) []))) _ (λ e.
            outside-trans xs first u.now (stored_at u.now f (term_value a (shown u.now u.entry) []) (datum w (shown u.now u.entry) [])) g
            (stored-at-outside xs u.now f (term_value a (shown u.now u.entry) []) (datum w (shown u.now u.entry) []) (at-sort f (sorted_item (of_member fit.0)).sort sort.Field (field-sort fit.0 ((fit.1).fits).ghost.sort) (ghost-item fit.0 f ((fit.1).fits).ghost.stands ((fit.1).fits).text v.items_in)))) tt)

        all-keep-simply : (ss : Stmts) (scope : List Local) (at : Surroundings) (this : Option ℕ) → InScope this scope at → StmtsFit p result ss at → CoversAll scope ss → AllSimpleKeep (Kept xs first) (KeptWith xs first) (paid-kept xs first) call ss
        all-keep-simply c.none scope at this h fit v = tt
        all-keep-simply (c.more s ss) scope at this h fit v = (
          simple-keeps s scope at this h fit.0 (record { items_in = λ y i t. v.items_in y i (or-left (stmt_writes ws s (item_text y)) (stmts_write ws ss (item_text y)) t); locals_in = λ x i. v.locals_in x (Contains-append_left (locals_assigned scope s) (all_assigned (scope_after scope s) ss) x i) }),
          all-keep-simply ss (scope_after scope s) (scope_behind p at s) this (scope-behind p this s scope at h) fit.1
              (record { items_in = λ y i t. v.items_in y i (or-right (stmt_writes ws s (item_text y)) (stmts_write ws ss (item_text y)) t); locals_in = λ x i. v.locals_in x (Contains-append_right (locals_assigned scope s) (all_assigned (scope_after scope s) ss) x i) }),
        )
