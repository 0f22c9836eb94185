-- A call keeps all of the state that the called method may not write, itself or through others, and it keeps the caller's locals.
use Rattle.std.proofs.Common.{◌≡◌, refl, sym, ap, ◌∙◌, subst, ℕ, zero, suc, ◌⊎◌, inl, inr, Bool, true, false, ◌&&◌, ◌||◌, if◌then◌else◌, List, [], ◌∷◌, ◌++◌, map, Option, None, Some, codes, arith}
use Rattle.std.specs.List.{Contains}
use Rattle.std.specs.Option.{option_map_or}
use Rattle.std.proofs.lemmas.Bool.{true≢false}
use Rattle.std.proofs.lemmas.List.Elements.{Contains-append_left, Contains-append_right, Contains-append_cases}
use Rattle.jh_name.specs.declared.naming.Name.{Name}
use Rattle.jh_name.specs.declared.place.Sort.{Sort}
use Rattle.jh_name.specs.declared.place.Sort.TheVariants as sort
use Rattle.jh_form.specs.Passing.{name_equal}
use Rattle.jh_form.specs.Sorts.{same_sort}
use Rattle.jh_form.proofs.Names.{name_equal-true}
use Rattle.jh_form.specs.Meaning.{Datum, an_object, a_number, a_truth, a_set, a_field}
use Rattle.jh_rules.specs.Words.{same_text}
use Rattle.jh_rules.specs.declared.types.Ty.{Ty}
use Rattle.jh_rules.specs.declared.types.Ty.TheVariants as ty
use Rattle.jh_rules.specs.Kinds.{kind_of}
use Rattle.jh_vars.specs.state_names.States.{sort_of, member_sort}
use Rattle.jh_vars.specs.Written.{Callee}
use Rattle.jh_semantics.specs.Code.{Text, ObjectCode, AnyCode, Local, Target, Stmt, Stmts}
use Rattle.jh_semantics.specs.Code as c
use Rattle.jh_semantics.specs.Program.{Program, Member, Method}
use Rattle.jh_semantics.specs.State.{State, named, stored}
use Rattle.jh_semantics.specs.Locals.{has_dot, with_locals_of, without_locals, with_args, entered}
use Rattle.jh_semantics.specs.Values.{value_of}
use Rattle.jh_semantics.specs.Objects.{target_of}
use Rattle.jh_semantics.specs.Progress.{Configuration, Progress, goes_on, returns, stops, pay, pay_from, with_value}
use Rattle.jh_semantics.specs.Execution.{exec_all, with_values, receiver_of, called_on, back, at_entry, calls}
use Rattle.jh_semantics.specs.Typed.{Surroundings, NamesFit, ProgramFits, MethodFits, Takes, new_local, old_local, a_static, a_field, ResultFits, StmtFits, StmtsFit, scope_behind}
use Rattle.jh_semantics.specs.WellFormed.{all_classes}
use Rattle.jh_semantics.specs.Laws.{IsPlain, ArePlain}
use Rattle.jh_semantics.proofs.Keeping.{Ends, keeps-pay, keeps-value, keeps-any, all-keep}
use Rattle.jh_semantics.proofs.Growth.{value-plain}
use Rattle.jh_semantics.proofs.Typing.{ScopeFits}
use Rattle.jh_semantics.proofs.TypedRuns.{fits-kind, fits-behind}
use Rattle.jh_semantics.proofs.TypedMethods.{params-scope}
use Rattle.jh_guard.specs.Items.{Item, all_objects, objects_of, of_member, item_text, items, Sorted, sorted_item, sorted_local}
use Rattle.jh_guard.specs.Writes.{Writes, target_writes, target_local, stmts_write, local_named, locals_assigned, all_assigned, scope_after}
use Rattle.jh_logic.proofs.logic.Histories.{is_named, Outside, outside-refl}
use Rattle.jh_logic.proofs.logic.Statements.{InScope}
use Rattle.jh_logic.proofs.logic.Bodies.{scope-behind}
use Rattle.jh_logic.proofs.logic.Writing.{text-same, single, or-left, or-right, named-in, HasSort, TargetNamed, Kept, KeptWith, paid-kept, put-keeps}
use Rattle.jh_logic.proofs.logic.Written.{filter-has, map-has, CoversItems, CoversLocals, Covers, CallsKeep, simple-keeps}
use Rattle.jh_logic.proofs.logic.Lists.{no-place, filter-from}
use Rattle.jh_logic.proofs.logic.Havocs.{either-right}
use Rattle.jh_logic.proofs.logic.Results.{Answers, body-answers}

-- two states are one but for their locals, which have no dot in their texts
record SameState (s u : State) : Type 0 where
  last : s.last ≡ u.last
  object : (z : Name) → has_dot z.text ≡ true → s.object z ≡ u.object z
  number : (z : Name) → has_dot z.text ≡ true → s.number z ≡ u.number z
  truth : (z : Name) → has_dot z.text ≡ true → s.truth z ≡ u.truth z
  set : (z : Name) → s.set z ≡ u.set z
  field : (z : Name) → s.field z ≡ u.field z

same-state : (s : State) → SameState s s
same-state s = record { last = refl; object = λ z d. refl; number = λ z d. refl; truth = λ z d. refl; set = λ z. refl; field = λ z. refl }

same-then : (s u v : State) → SameState s u → SameState u v → SameState s v
same-then s u v h k = record {
  last = h.last ∙ k.last;
  object = λ z d. h.object z d ∙ k.object z d;
  number = λ z d. h.number z d ∙ k.number z d;
  truth = λ z d. h.truth z d ∙ k.truth z d;
  set = λ z. h.set z ∙ k.set z;
  field = λ z. h.field z ∙ k.field z;
}

-- a name with a dot is none without
dot-apart : (z : Name) (x : Text) → has_dot z.text ≡ true → has_dot x ≡ false → (b : Bool) → name_equal z (named x) ≡ b → b ≡ false
dot-apart z x d n true e = absurd (true≢false (sym d ∙ ap (λ (y : Name). has_dot y.text) (name_equal-true z (named x) e) ∙ n))
dot-apart z x d n false e = refl

unless : {X : Type 0} (b : Bool) (v w : X) → b ≡ false → w ≡ (if b then v else w)
unless true v w e = absurd (true≢false e)
unless false v w e = refl

where-true : {X : Type 0} (b : Bool) (v w : X) → b ≡ true → v ≡ (if b then v else w)
where-true true v w e = refl
where-true false v w e = absurd (true≢false (sym e))

-- a plain value of a local
stored-same : (s : State) (x : Text) (d : Datum) → has_dot x ≡ false → IsPlain d → SameState s (stored s x d)
stored-same s x (an_object v) n i = record { last = refl; object = λ z d. unless (name_equal z (named x)) v (s.object z) (dot-apart z x d n (name_equal z (named x)) refl); number = λ z d. refl; truth = λ z d. refl; set = λ z. refl; field = λ z. refl }
stored-same s x (a_number v) n i = record { last = refl; object = λ z d. refl; number = λ z d. unless (name_equal z (named x)) v (s.number z) (dot-apart z x d n (name_equal z (named x)) refl); truth = λ z d. refl; set = λ z. refl; field = λ z. refl }
stored-same s x (a_truth v) n i = record { last = refl; object = λ z d. refl; number = λ z d. refl; truth = λ z d. unless (name_equal z (named x)) v (s.truth z) (dot-apart z x d n (name_equal z (named x)) refl); set = λ z. refl; field = λ z. refl }
stored-same s x (a_set v) n i = absurd i
stored-same s x (a_field v) n i = same-state s

without-same : (s : State) → SameState s (without_locals s)
without-same s = record {
  last = refl;
  object = λ z d. where-true (has_dot z.text) (s.object z) 0 d;
  number = λ z d. where-true (has_dot z.text) (s.number z) _ d;
  truth = λ z d. where-true (has_dot z.text) (s.truth z) false d;
  set = λ z. refl;
  field = λ z. refl;
}

abbrev pub Dotless : List Local → Type 0
Dotless ls = (x : Local) → Contains ls x → has_dot x.text ≡ false

args-same : (xs : List Local) (ds : List Datum) (s : State) → Dotless xs → ArePlain ds → SameState s (with_args xs ds s)
args-same (x ∷ xs) (d ∷ ds) s n i =
    same-then s (with_args xs ds s) (stored (with_args xs ds s) x.text d) (args-same xs ds s (λ y j. n y (Contains-append_right (x ∷ []) xs y j)) i.1) (stored-same (with_args xs ds s) x.text d (n x (0, omega arith, refl)) i.0)
args-same [] ds s n i = same-state s
args-same (x ∷ xs) [] s n i = same-state s

entered-same : (m : Method) (this : ℕ) (args : List Datum) (s : State) → Dotless m.params → ArePlain args → SameState s (entered m this args s)
entered-same m this args s n i =
    let bare : State = without_locals s in
    let begun : State = stored bare (codes "this") (an_object this) in
    same-then s bare (entered m this args s) (without-same s) (same-then bare begun (entered m this args s) (stored-same bare (codes "this") (an_object this) refl tt) (args-same m.params args begun n i))

-- outside some names the state is kept, whatever the locals
pub record StateKept (xs : List Sorted) (first s : State) : Type 0 where
  pub last : first.last ≡ s.last
  pub object : (z : Name) → z.turn ≡ 0 → has_dot z.text ≡ true → is_named z sort.Obj xs ≡ false → first.object z ≡ s.object z
  pub number : (z : Name) → z.turn ≡ 0 → has_dot z.text ≡ true → is_named z sort.Int xs ≡ false → first.number z ≡ s.number z
  pub truth : (z : Name) → z.turn ≡ 0 → has_dot z.text ≡ true → is_named z sort.Bool xs ≡ false → first.truth z ≡ s.truth z
  pub set : (z : Name) → z.turn ≡ 0 → is_named z sort.Set xs ≡ false → first.set z ≡ s.set z
  pub field : (z : Name) → z.turn ≡ 0 → is_named z sort.Field xs ≡ false → first.field z ≡ s.field z

pub outside-state : (xs : List Sorted) (first s : State) → Outside xs first s → StateKept xs first s
outside-state xs first s h = record {
  last = h.last;
  object = λ z e d out. h.object z e out;
  number = λ z e d out. h.number z e out;
  truth = λ z e d out. h.truth z e out;
  set = λ z e out. h.set z e out;
  field = λ z e out. h.field z e out;
}

state-same : (xs : List Sorted) (first s u : State) → StateKept xs first s → SameState s u → StateKept xs first u
state-same xs first s u h k = record {
  last = h.last ∙ k.last;
  object = λ z e d out. h.object z e d out ∙ k.object z d;
  number = λ z e d out. h.number z e d out ∙ k.number z d;
  truth = λ z e d out. h.truth z e d out ∙ k.truth z d;
  set = λ z e out. h.set z e out ∙ k.set z;
  field = λ z e out. h.field z e out ∙ k.field z;
}

-- back in the caller: its locals, and the state of the callee
one-of : {X : Type 0} (b : Bool) (first v u : X) → (b ≡ true → first ≡ v) → first ≡ u → first ≡ (if b then v else u)
one-of true first v u h k = h refl
one-of false first v u h k = k

pub state-back : (xs : List Sorted) (first v u : State) → StateKept xs first v → Outside xs first u → Outside xs first (with_locals_of v u)
state-back xs first v u h k = record {
  last = h.last;
  object = λ z e out. one-of (has_dot z.text) (first.object z) (v.object z) (u.object z) (λ d. h.object z e d out) (k.object z e out);
  number = λ z e out. one-of (has_dot z.text) (first.number z) (v.number z) (u.number z) (λ d. h.number z e d out) (k.number z e out);
  truth = λ z e out. one-of (has_dot z.text) (first.truth z) (v.truth z) (u.truth z) (λ d. h.truth z e d out) (k.truth z e out);
  set = λ z e out. h.set z e out;
  field = λ z e out. h.field z e out;
}

-- what isn't state isn't named among locals
left-none : (a b : Bool) → a ≡ false → (a && b) ≡ false
left-none true b e = absurd (true≢false e)
left-none false b e = refl

right-none : (a b : Bool) → b ≡ false → (a && b) ≡ false
right-none true b e = e
right-none false b e = refl

named-append : (z : Name) (a : Sort) (xs ys : List Sorted) → is_named z a xs ≡ false → is_named z a ys ≡ false → is_named z a (xs ++ ys) ≡ false
named-append z a [] ys h k = k
named-append z a (x ∷ xs) ys h k = at (name_equal z (named x.text) && same_sort a x.sort) h (λ g. named-append z a xs ys g k)
  where
    at : (b : Bool) → (b || is_named z a xs) ≡ false → (is_named z a xs ≡ false → is_named z a (xs ++ ys) ≡ false) → (b || is_named z a (xs ++ ys)) ≡ false
    at true h rest = h
    at false h rest = rest h

dotted-none : (z : Name) (a : Sort) (ls : List Local) → has_dot z.text ≡ true → Dotless ls → is_named z a (map sorted_local ls) ≡ false
dotted-none z a [] d n = refl
dotted-none z a (x ∷ ls) d n =
    either-right (name_equal z (named x.text) && same_sort a (sorted_local x).sort) (is_named z a (map sorted_local ls))
    (left-none (name_equal z (named x.text)) (same_sort a (sorted_local x).sort) (dot-apart z x.text d (n x (0, omega arith, refl)) (name_equal z (named x.text)) refl))
    (dotted-none z a ls d (λ y j. n y (Contains-append_right (x ∷ []) ls y j)))

no-set : (type : Ty) → same_sort sort.Set (sort_of (kind_of type)) ≡ false
no-set ty.Int = refl
no-set ty.Boolean = refl
no-set ty.Void = refl
no-set ty.Null = refl
no-set ty.Object = refl
no-set (ty.Class n) = refl

no-field : (type : Ty) → same_sort sort.Field (sort_of (kind_of type)) ≡ false
no-field ty.Int = refl
no-field ty.Boolean = refl
no-field ty.Void = refl
no-field ty.Null = refl
no-field ty.Object = refl
no-field (ty.Class n) = refl

sort-none : (z : Name) (a : Sort) (ls : List Local) → ((type : Ty) → same_sort a (sort_of (kind_of type)) ≡ false) → is_named z a (map sorted_local ls) ≡ false
sort-none z a [] h = refl
sort-none z a (x ∷ ls) h =
    either-right (name_equal z (named x.text) && same_sort a (sorted_local x).sort) (is_named z a (map sorted_local ls)) (right-none (name_equal z (named x.text)) (same_sort a (sorted_local x).sort) (h x.type)) (sort-none z a ls h)

-- what a body keeps with its locals, it keeps of the state
body-state : (xs : List Sorted) (ls : List Local) (first s u : State) → Dotless ls → StateKept xs first s → Outside (xs ++ map sorted_local ls) s u → StateKept xs first u
body-state xs ls first s u n h k = record {
  last = h.last ∙ k.last;
  object = λ z e d out. h.object z e d out ∙ k.object z e (named-append z sort.Obj xs (map sorted_local ls) out (dotted-none z sort.Obj ls d n));
  number = λ z e d out. h.number z e d out ∙ k.number z e (named-append z sort.Int xs (map sorted_local ls) out (dotted-none z sort.Int ls d n));
  truth = λ z e d out. h.truth z e d out ∙ k.truth z e (named-append z sort.Bool xs (map sorted_local ls) out (dotted-none z sort.Bool ls d n));
  set = λ z e out. h.set z e out ∙ k.set z e (named-append z sort.Set xs (map sorted_local ls) out (sort-none z sort.Set ls no-set));
  field = λ z e out. h.field z e out ∙ k.field z e (named-append z sort.Field xs (map sorted_local ls) out (sort-none z sort.Field ls no-field));
}

-- the locals that typed code assigns have no dot
none-dotless : Dotless []
none-dotless x i = absurd (no-place i.0 i.1)

both-dotless : (xs ys : List Local) → Dotless xs → Dotless ys → Dotless (xs ++ ys)
both-dotless xs ys h k x i = cases (Contains-append_cases xs ys x i)
  where
    cases : Contains xs x ⊎ Contains ys x → has_dot x.text ≡ false
    cases (inl j) = h x j
    cases (inr j) = k x j

module _ (p : Program) (names : NamesFit p) (result : Ty) (this : Option ℕ) where
  named-dotless : (x : Text) (scope : List Local) (at : Surroundings) → ScopeFits p names at → InScope this scope at → Dotless (local_named x scope)
  named-dotless x scope at fit h y i = fit.no_state y (h.locals y (filter-from (λ (z : Local). same_text z.text x) scope y i))

  target-dotless : (target : Target) (type : Ty) (scope : List Local) (at : Surroundings) → Takes p at target type → ScopeFits p names at → InScope this scope at → Dotless (target_local scope target)
  target-dotless _ _ scope at (new_local x may) fit h = λ y i. ap (λ (z : Local). has_dot z.text) (single x y i) ∙ may.no_state
  target-dotless _ _ scope at (old_local x j) fit h = named-dotless x.text scope at fit h
  target-dotless _ _ scope at (a_static x type is) fit h = named-dotless x.text scope at fit h
  target-dotless _ _ scope at (a_field x type is r q n o e) fit h = none-dotless

  result-dotless : (target : Target) (type : Ty) (scope : List Local) (at : Surroundings) → ResultFits p at target type → ScopeFits p names at → InScope this scope at → Dotless (target_local scope target)
  result-dotless c.nowhere type scope at f fit h = none-dotless
  result-dotless (c.to_new x) type scope at f fit h = target-dotless (c.to_new x) f.type scope at f.takes fit h
  result-dotless (c.to_name x) type scope at f fit h = target-dotless (c.to_name x) f.type scope at f.takes fit h
  result-dotless (c.to_field x r q) type scope at f fit h = target-dotless (c.to_field x r q) f.type scope at f.takes fit h

  mutual
    assigned-dotless : (s : Stmt) (scope : List Local) (at : Surroundings) → StmtFits p result s at → ScopeFits p names at → InScope this scope at → Dotless (locals_assigned scope s)
    assigned-dotless (c.block body) scope at f fit h = all-dotless body scope at f fit h
    assigned-dotless (c.branch q e a b) scope at f fit h = both-dotless (locals_assigned scope a) (all_assigned scope b) (assigned-dotless a scope at f.0 fit h) (all-dotless b scope at f.1 fit h)
    assigned-dotless (c.loop q invariants e body) scope at f fit h = assigned-dotless body scope at f.1 fit h
    assigned-dotless (c.assign target e) scope at f fit h = target-dotless target (f.fit).type scope at (f.fit).takes fit h
    assigned-dotless (c.new_object q target class) scope at f fit h = target-dotless target (f.fit).type scope at (f.fit).takes fit h
    assigned-dotless (c.call q target receiver place m args) scope at f fit h = result-dotless target (f.method).result scope at f.result_fits fit h
    assigned-dotless c.empty scope at f fit h = none-dotless
    assigned-dotless c.return_nothing scope at f fit h = none-dotless
    assigned-dotless (c.return_value e) scope at f fit h = none-dotless
    assigned-dotless (c.assert claim) scope at f fit h = none-dotless
    assigned-dotless (c.note claim) scope at f fit h = none-dotless
    assigned-dotless (c.ghost x q v) scope at f fit h = none-dotless
    assigned-dotless (c.ghost_at q class x a place v) scope at f fit h = none-dotless

    pub all-dotless : (ss : Stmts) (scope : List Local) (at : Surroundings) → StmtsFit p result ss at → ScopeFits p names at → InScope this scope at → Dotless (all_assigned scope ss)
    all-dotless c.none scope at f fit h = none-dotless
    all-dotless (c.more s ss) scope at f fit h =
        both-dotless (locals_assigned scope s) (all_assigned (scope_after scope s) ss) (assigned-dotless s scope at f.0 fit h)
        (all-dotless ss (scope_after scope s) (scope_behind p at s) f.1 (fits-behind p names 0 result s at f.0 fit) (scope-behind p this s scope at h))

module _ (p : Program) (ws : Writes) (names : NamesFit p) where
  -- What is known of a call of a method: it keeps the state that the method may not write.
  abbrev pub KeepsState : (Callee → ℕ → List Datum → Configuration → Progress) → Type 0
  KeepsState call =
      (m : Callee) (x : Method) → p.method m ≡ Some x → (xs : List Sorted) (first : State) → CoversItems p ws names xs (ws.written m) →
      (this : ℕ) (args : List Datum) (r : Configuration) → ArePlain args → StateKept xs first r.now → Ends (λ u. StateKept xs first u.now) (λ u v. StateKept xs first u.now) (call m this args r)

  -- and its results are of the sort of the method's type
  abbrev pub GivesResults : (Callee → ℕ → List Datum → Configuration → Progress) → Type 0
  GivesResults call = (m : Callee) (x : Method) → p.method m ≡ Some x → (this : ℕ) (args : List Datum) (r : Configuration) → Answers x.result (call m this args r)

  module _ (xs : List Sorted) where
    -- a typed target is named at its sort, as Written shows and keeps for itself
    member-item : (x : Member) → Contains p.members x → Contains (items p) (of_member x)
    member-item x i =
        Contains-append_right (all_objects ∷ []) (map (λ y. objects_of y) (all_classes p.classes) ++ map (λ y. of_member y) p.members) (of_member x)
        (Contains-append_right (map (λ y. objects_of y) (all_classes p.classes)) (map (λ y. of_member y) p.members) (of_member x) (map-has (λ y. of_member y) p.members x i))

    at-sort : (y : Text) (a b : Sort) → a ≡ b → is_named (named y) a xs ≡ true → is_named (named y) b xs ≡ true
    at-sort y a b e h = subst (λ (z : Sort). is_named (named y) z xs ≡ true) e h

    static-sort : (x : Member) (type : Ty) → Contains p.members x → x.is_static ≡ true → x.type ≡ Some type → (sorted_item (of_member x)).sort ≡ sort_of (kind_of type)
    static-sort x type i s e = (λ j. member_sort x.kind (s j)) ∙ ap sort_of (sym (names.kinds x type i e))

    takes-named : (scope : List Local) (at : Surroundings) (this : Option ℕ) → InScope this scope at → (target : Target) (type : Ty) → Takes p at target type → CoversItems p ws names xs (target_writes target) → CoversLocals p ws names xs (target_local scope target) →
        TargetNamed xs target (sort_of (kind_of type))
    takes-named scope at this h _ _ (new_local x may) f l = named-in xs (sorted_local x) (l x (0, omega arith, refl))
    takes-named scope at this h _ _ (old_local x i) f l = named-in xs (sorted_local x) (l x (filter-has (λ (y : Local). same_text y.text x.text) scope x (h.back x i) (text-same x.text)))
    takes-named scope at this h _ _ (a_static x type is) f l =
        at-sort x.text (sorted_item (of_member x)).sort (sort_of (kind_of type)) (static-sort x type is.stands is.sort is.has) (named-in xs (sorted_item (of_member x)) (f (of_member x) (member-item x is.stands) (text-same x.text)))
    takes-named scope at this h _ _ (a_field x type is r q k j e) f l =
        at-sort x.text (sorted_item (of_member x)).sort sort.Field (λ i. member_sort x.kind (is.sort i)) (named-in xs (sorted_item (of_member x)) (f (of_member x) (member-item x is.stands) (text-same x.text)))

    fit-named : (target : Target) (t u : Ty) → kind_of t ≡ kind_of u → TargetNamed xs target (sort_of (kind_of u)) → TargetNamed xs target (sort_of (kind_of t))
    fit-named target t u e h = subst (λ (z : Sort). TargetNamed xs target z) (ap sort_of (sym e)) h

    result-named : (scope : List Local) (at : Surroundings) (this : Option ℕ) → InScope this scope at → (target : Target) (type : Ty) → ResultFits p at target type → CoversItems p ws names xs (target_writes target) → CoversLocals p ws names xs (target_local scope target) →
        TargetNamed xs target (sort_of (kind_of type))
    result-named scope at this h c.nowhere type f i l = tt
    result-named scope at this h (c.to_new x) type f i l = fit-named (c.to_new x) type f.type (fits-kind p names 0 type f.type f.fit) (takes-named scope at this h (c.to_new x) f.type f.takes i l)
    result-named scope at this h (c.to_name x) type f i l = fit-named (c.to_name x) type f.type (fits-kind p names 0 type f.type f.fit) (takes-named scope at this h (c.to_name x) f.type f.takes i l)
    result-named scope at this h (c.to_field x r q) type f i l = fit-named (c.to_field x r q) type f.type (fits-kind p names 0 type f.type f.fit) (takes-named scope at this h (c.to_field x r q) f.type f.takes i l)

    module _ (first : State) where
      nothing-sorted : (type : Ty) → type ≡ ty.Void → HasSort (sort_of (kind_of type)) (an_object 0)
      nothing-sorted type e = subst (λ (u : Ty). HasSort (sort_of (kind_of u)) (an_object 0)) (sym e) tt

      back-keeps : (caller : Configuration) (target : Target) (a : ℕ) (type : Ty) (x : Progress) → Kept xs first caller → TargetNamed xs target (sort_of (kind_of type)) →
          Ends (λ u. StateKept xs first u.now) (λ u v. StateKept xs first u.now) x → Answers type x → Ends (Kept xs first) (KeptWith xs first) (back caller target a x)
      back-keeps caller target a type (goes_on r) k i h e =
          put-keeps xs first target a (an_object 0) (sort_of (kind_of type)) (record r { now = with_locals_of r.now caller.now; entry = caller.entry }) (state-back xs first r.now caller.now h k) (nothing-sorted type e) i
      back-keeps caller target a type (returns r None) k i h e =
          put-keeps xs first target a (an_object 0) (sort_of (kind_of type)) (record r { now = with_locals_of r.now caller.now; entry = caller.entry }) (state-back xs first r.now caller.now h k) (nothing-sorted type e) i
      back-keeps caller target a type (returns r (Some d)) k i h e =
          put-keeps xs first target a d (sort_of (kind_of type)) (record r { now = with_locals_of r.now caller.now; entry = caller.entry }) (state-back xs first r.now caller.now h k) e i
      back-keeps caller target a type (stops why) k i h e = tt

      values-keep : (es : List AnyCode) (s : State) (next : List Datum → Progress) → ((ds : List Datum) → ArePlain ds → Ends (Kept xs first) (KeptWith xs first) (next ds)) → Ends (Kept xs first) (KeptWith xs first) (with_values es s next)
      values-keep [] s next f = f [] tt
      values-keep (e ∷ es) s next f =
          keeps-value (Kept xs first) (KeptWith xs first) (paid-kept xs first) IsPlain (value_of e s) (λ d. with_values es s (λ ds. next (d ∷ ds))) (value-plain e s) (λ d i.
          values-keep es s (λ ds. next (d ∷ ds)) (λ ds j. f (d ∷ ds) (i, j)))

  -- So a call in typed code keeps all but what it may write.
  pub call-keeps : (call : Callee → ℕ → List Datum → Configuration → Progress) → KeepsState call → GivesResults call → (result : Ty) (xs : List Sorted) (first : State) → CallsKeep p ws names xs first call result
  call-keeps call keep gives result xs first q target receiver place m args scope at this h fit v r k =
      let type : Ty = (fit.method).result in
      let named-there : TargetNamed xs target (sort_of (kind_of type)) =
      result-named xs scope at this h target type fit.result_fits (λ y i e. v.items_in y i (or-right (ws.written m (item_text y)) (target_writes target (item_text y)) e)) v.locals_in in
      let covers : CoversItems p ws names xs (ws.written m) = λ y i e. v.items_in y i (or-left (ws.written m (item_text y)) (target_writes target (item_text y)) e) in
      keeps-pay (Kept xs first) (KeptWith xs first) (paid-kept xs first) r
      (λ u. with_value (target_of target u.now) (λ a. with_value (receiver_of receiver u.now) (λ x. with_values args u.now (λ ds. with_value (called_on receiver place x) (λ this. back u target a (call m this ds u)))))) k (λ u g.
      keeps-any (Kept xs first) (KeptWith xs first) (paid-kept xs first) (target_of target u.now) (λ a. with_value (receiver_of receiver u.now) (λ x. with_values args u.now (λ ds. with_value (called_on receiver place x) (λ this. back u target a (call m this ds u))))) (λ a.
      keeps-any (Kept xs first) (KeptWith xs first) (paid-kept xs first) (receiver_of receiver u.now) (λ x. with_values args u.now (λ ds. with_value (called_on receiver place x) (λ this. back u target a (call m this ds u)))) (λ x.
      values-keep xs first args u.now (λ ds. with_value (called_on receiver place x) (λ this. back u target a (call m this ds u))) (λ ds i.
      keeps-any (Kept xs first) (KeptWith xs first) (paid-kept xs first) (called_on receiver place x) (λ this. back u target a (call m this ds u)) (λ this.
      back-keeps xs first u target a type (call m this ds u) g named-there (keep m fit.method fit.is xs first covers this ds u i (outside-state xs first u.now g)) (gives m fit.method fit.is this ds u))))))

  -- A method may write what its body may.
  abbrev pub WritesBodies : Type 0
  WritesBodies = (m : Callee) (x : Method) → p.method m ≡ Some x → (y : Item) → Contains (items p) y → stmts_write ws x.body (item_text y) ≡ true → ws.written m (item_text y) ≡ true

  module _ (fits : ProgramFits p) (writes : WritesBodies) where
    pay-answers : (type : Ty) (r : Configuration) (next : Configuration → Progress) → ((u : Configuration) → Answers type (next u)) → Answers type (pay r next)
    pay-answers type r next f = from r.steps
      where
        from : (k : ℕ) → Answers type (pay_from k r next)
        from zero = tt
        from (suc k) = f (record r { steps = k })

    pub calls-answer : (depth : ℕ) → GivesResults (calls depth p)
    calls-answer zero m x e this args r = tt
    calls-answer (suc depth) m x e this args r =
        let fit : MethodFits p x = fits.methods m x e in
        pay-answers x.result r (λ u. option_map_or (λ (y : Method). exec_all (calls depth p) y.body (at_entry y this args u)) (p.method m) (goes_on u)) (λ u.
        subst (λ (o : Option Method). Answers x.result (option_map_or (λ (y : Method). exec_all (calls depth p) y.body (at_entry y this args u)) o (goes_on u))) (sym e)
        (body-answers p names x.result (calls depth p) x.body (record { this = x.this; params = x.params; locals = [] }) fit.body fit.end (at_entry x this args u)))

    in-scope : (x : Method) → InScope x.this x.params (record { this = x.this; params = x.params; locals = [] })
    in-scope x = record { this_is = refl; locals = λ y i. Contains-append_left x.params [] y i; back = λ y i. absurd (no-place i.0 i.1) }

    -- the body of a method, over calls that keep the state
    body-keeps : (call : Callee → ℕ → List Datum → Configuration → Progress) → KeepsState call → GivesResults call → (m : Callee) (x : Method) → p.method m ≡ Some x → (xs : List Sorted) (first : State) → CoversItems p ws names xs (ws.written m) →
        (this : ℕ) (args : List Datum) (r : Configuration) → ArePlain args → StateKept xs first r.now → Ends (λ u. StateKept xs first u.now) (λ u v. StateKept xs first u.now) (exec_all call x.body (at_entry x this args r))
    body-keeps call keep gives m x e xs first covers this args r plain kept =
        let fit : MethodFits p x = fits.methods m x e in
        let at : Surroundings = record { this = x.this; params = x.params; locals = [] } in
        let scope-fits : ScopeFits p names at = params-scope p names x fit in
        let ls : List Local = all_assigned x.params x.body in
        let ys : List Sorted = xs ++ map sorted_local ls in
        let begun : State = entered x this args r.now in
        let start : Configuration = at_entry x this args r in
        let dotless : Dotless ls = all-dotless p names x.result x.this x.body x.params at fit.body scope-fits (in-scope x) in
        let entered-kept : StateKept xs first begun = state-same xs first r.now begun kept (entered-same x this args r.now (λ y i. scope-fits.no_state y (Contains-append_left x.params [] y i)) plain) in
        let all : Covers p ws names ys x.params (c.block x.body) = record {
          items_in = λ y i t. Contains-append_left xs (map sorted_local ls) (sorted_item y) (covers y i (writes m x e y i t));
          locals_in = λ y i. Contains-append_right xs (map sorted_local ls) (sorted_local y) (map-has sorted_local ls y i);
        } in
        to-state (exec_all call x.body start) (λ v k. body-state xs ls first begun v dotless entered-kept k)
        (all-keep (Kept ys begun) (KeptWith ys begun) (paid-kept ys begun) call x.body
        (simple-keeps p ws names ys begun call x.result (call-keeps call keep gives x.result ys begun) (c.block x.body) x.params at x.this (in-scope x) fit.body all) start (outside-refl ys begun))
      where
        to-state : {ys : List Sorted} {begun : State} (y : Progress) → ((v : State) → Outside ys begun v → StateKept xs first v) → Ends (Kept ys begun) (KeptWith ys begun) y → Ends (λ u. StateKept xs first u.now) (λ u v. StateKept xs first u.now) y
        to-state (goes_on u) f h = f u.now h
        to-state (returns u v) f h = f u.now h
        to-state (stops why) f h = tt

    pub calls-keep : (depth : ℕ) → KeepsState (calls depth p)
    calls-keep zero m x e xs first covers this args r plain kept = tt
    calls-keep (suc depth) m x e xs first covers this args r plain kept =
        keeps-pay (λ u. StateKept xs first u.now) (λ u v. StateKept xs first u.now) (λ u k i h. h) r (λ u. option_map_or (λ (y : Method). exec_all (calls depth p) y.body (at_entry y this args u)) (p.method m) (goes_on u)) kept (λ u g.
        subst (λ (o : Option Method). Ends (λ v. StateKept xs first v.now) (λ v w. StateKept xs first v.now) (option_map_or (λ (y : Method). exec_all (calls depth p) y.body (at_entry y this args u)) o (goes_on u))) (sym e)
        (body-keeps (calls depth p) (calls-keep depth) (calls-answer depth) m x e xs first covers this args u plain g))

    -- the calls in a body, of any depth
    pub calls-keep-all : (depth : ℕ) (result : Ty) (xs : List Sorted) (first : State) → CallsKeep p ws names xs first (calls depth p) result
    calls-keep-all depth result xs first = call-keeps (calls depth p) (calls-keep depth) (calls-answer depth) result xs first
