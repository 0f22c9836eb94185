-- The six facts, those of parameters, locals and `this` among them, are true where a run of typed code stands.
use Rattle.std.proofs.Common.{◌≡◌, refl, sym, ◌∙◌, ℕ, ◌==◌, ◌⊎◌, inl, inr, Bool, true, false, not, ◌&&◌, ◌||◌, if◌then◌else◌, List, [], ◌∷◌, ◌++◌, map, Option, None, Some, arith}
use Rattle.std.specs.List.{Contains, flat_map}
use Rattle.std.specs.Option.{option_map_or}
use Rattle.std.proofs.lemmas.Bool.{true≢false, eq-eqb}
use Rattle.std.proofs.lemmas.List.Elements.{Contains-append_right}
use Rattle.jh_name.specs.declared.place.Kind.{Kind}
use Rattle.jh_name.specs.declared.place.Kind.TheVariants as k
use Rattle.jh_semantics.specs.jh_arena.makers.Joined.{joined}
use Rattle.jh_form.specs.Tree.{FormulaTree, TermTree, SetTree}
use Rattle.jh_form.specs.Tree as t
use Rattle.jh_form.specs.Meaning.{Interp, agree, every, truth, set_value, term_value}
use Rattle.jh_form.proofs.ClosedLemmas.{both-left, both-right}
use Rattle.jh_rules.specs.declared.types.Ty.{Ty}
use Rattle.jh_rules.specs.declared.types.Ty.TheVariants as ty
use Rattle.jh_semantics.specs.Code.{Text, Local}
use Rattle.jh_semantics.specs.Program.{Program, class_at}
use Rattle.jh_semantics.specs.State.{State, named, this_name, alloc_name, shown}
use Rattle.jh_semantics.specs.WellFormed.{set_of, all_classes, alloc, union_with, union_of, apart, lies_in, member_lies_in, each_in, each_outside, is_default, static_facts, local_facts, this_facts, field_facts, default_facts, well_formed_facts, well_formed}
use Rattle.jh_semantics.specs.Typed.{Surroundings, NamesFit}
use Rattle.jh_semantics.proofs.Formed.{ObjectLies, Formed}
use Rattle.jh_semantics.proofs.Facts.{formed-facts}
use Rattle.jh_semantics.proofs.Typing.{ScopeLies}
use Rattle.jh_logic.specs.logic.Histories.{viewed}
use Rattle.jh_logic.proofs.logic.Statements.{InScope}
use Rattle.jh_logic.proofs.logic.Writing.{or-left, or-right}

pub both-true : (a b : Bool) → a ≡ true → b ≡ true → (a && b) ≡ true
both-true true b e f = f
both-true false b e f = absurd (true≢false (sym e))

-- lists of formulas that are all true, and their conjunction
module _ (m : Interp) where
  abbrev pub AllTrueIn : List FormulaTree → Type 0
  AllTrueIn [] = Unit {0}
  AllTrueIn (f ∷ fs) = (truth f m [] ≡ true) × AllTrueIn fs

  pub joined-true : (fs : List FormulaTree) → truth (joined fs) m [] ≡ true → AllTrueIn fs
  joined-true [] h = tt
  joined-true (f ∷ []) h = (h, tt)
  joined-true (f ∷ g ∷ rest) h = (both-left (truth f m []) (truth (joined (g ∷ rest)) m []) h, joined-true (g ∷ rest) (both-right (truth f m []) (truth (joined (g ∷ rest)) m []) h))

  pub true-joined : (fs : List FormulaTree) → AllTrueIn fs → truth (joined fs) m [] ≡ true
  true-joined [] h = refl
  true-joined (f ∷ []) h = h.0
  true-joined (f ∷ g ∷ rest) h = both-true (truth f m []) (truth (joined (g ∷ rest)) m []) h.0 (true-joined (g ∷ rest) h.1)

  pub parts-true : (fs gs : List FormulaTree) → AllTrueIn (fs ++ gs) → AllTrueIn fs × AllTrueIn gs
  parts-true [] gs h = (tt, h)
  parts-true (f ∷ fs) gs h = let rest = parts-true fs gs h.1 in ((h.0, rest.0), rest.1)

  pub both-parts-true : (fs gs : List FormulaTree) → AllTrueIn fs → AllTrueIn gs → AllTrueIn (fs ++ gs)
  both-parts-true [] gs h k = k
  both-parts-true (f ∷ fs) gs h k = (h.0, both-parts-true fs gs h.1 k)

  pub each-true : {X : Type 0} (f : X → List FormulaTree) (xs : List X) → ((x : X) → Contains xs x → AllTrueIn (f x)) → AllTrueIn (flat_map f xs)
  each-true f [] h = tt
  each-true f (x ∷ xs) h = both-parts-true (f x) (flat_map f xs) (h x (0, omega arith, refl)) (each-true f xs (λ y i. h y (Contains-append_right (x ∷ []) xs y i)))

-- The six facts speak of names at turn 0 alone: so what is true of a state is true of each view of it.
module _ (s o m : Interp) where
  abbrev Same : FormulaTree → Type 0
  Same f = (e : List ℕ) → truth f (viewed s o m) e ≡ truth f (shown s s) e

  abbrev AllSame : List FormulaTree → Type 0
  AllSame [] = Unit {0}
  AllSame (f ∷ fs) = Same f × AllSame fs

  joined-same : (fs : List FormulaTree) → AllSame fs → Same (joined fs)
  joined-same [] h e = refl
  joined-same (f ∷ []) h e = h.0 e
  joined-same (f ∷ g ∷ rest) h e = λ i. h.0 e i && joined-same (g ∷ rest) h.1 e i

  parts-same : (fs gs : List FormulaTree) → AllSame fs → AllSame gs → AllSame (fs ++ gs)
  parts-same [] gs h k = k
  parts-same (f ∷ fs) gs h k = (h.0, parts-same fs gs h.1 k)

  map-same : {X : Type 0} (f : X → FormulaTree) (xs : List X) → ((x : X) → Same (f x)) → AllSame (map f xs)
  map-same f [] h = tt
  map-same f (x ∷ xs) h = (h x, map-same f xs h)

  each-same : {X : Type 0} (f : X → List FormulaTree) (xs : List X) → ((x : X) → AllSame (f x)) → AllSame (flat_map f xs)
  each-same f [] h = tt
  each-same f (x ∷ xs) h = parts-same (f x) (flat_map f xs) (h x) (each-same f xs h)

  -- the union of the classes
  abbrev SameSet : SetTree → Type 0
  SameSet a = (e : List ℕ) → set_value a (viewed s o m) e ≡ set_value a (shown s s) e

  union-with-same : (a : SetTree) (cs : List Text) → SameSet a → SameSet (union_with a cs)
  union-with-same a [] h = h
  union-with-same a (c ∷ cs) h = union-with-same (t.union a (set_of c)) cs (λ e i. λ x. h e i x || s.set (named c) x)

  union-same : (cs : List Text) → SameSet (union_of cs)
  union-same [] e = refl
  union-same (c ∷ cs) e = union-with-same (set_of c) cs (λ g. refl) e

  apart-same : (cs : List Text) → AllSame (apart cs)
  apart-same [] = tt
  apart-same (c ∷ cs) = parts-same (map (λ d. t.eq_set (t.inter (set_of c) (set_of d)) t.empty) cs) (apart cs) (map-same (λ d. t.eq_set (t.inter (set_of c) (set_of d)) t.empty) cs (λ d e. refl)) (apart-same cs)

  -- objects in their types
  abbrev SameTerm : TermTree → Type 0
  SameTerm a = (e : List ℕ) → term_value a (viewed s o m) e ≡ term_value a (shown s s) e

  lies-same : (classes : List Text) (type : Ty) (a : TermTree) → SameTerm a → AllSame (lies_in classes type a)
  lies-same classes (ty.Class n) a h = ((λ e i. (h e i == 0) || s.set (named (class_at classes n)) (h e i)), tt)
  lies-same classes ty.Object a h = ((λ e i. (h e i == 0) || s.set alloc_name (h e i)), tt)
  lies-same classes ty.Null a h = tt
  lies-same classes ty.Int a h = tt
  lies-same classes ty.Boolean a h = tt
  lies-same classes ty.Void a h = tt

  member-same : (classes : List Text) (type : Option Ty) (a : TermTree) → SameTerm a → AllSame (option_map_or (λ u. lies_in classes u a) type [])
  member-same classes None a h = tt
  member-same classes (Some u) a h = lies-same classes u a h

  if-same : (b : Bool) (fs : List FormulaTree) → AllSame fs → AllSame (if b then fs else [])
  if-same true fs h = h
  if-same false fs h = tt

  unless-same : (b : Bool) (fs : List FormulaTree) → AllSame fs → AllSame (if b then [] else fs)
  unless-same true fs h = tt
  unless-same false fs h = h

  this-same : (classes : List Text) (this : Option ℕ) → AllSame (this_facts classes this)
  this-same classes None = tt
  this-same classes (Some n) = ((λ e. refl), tt)

  -- of each object in a set, and of each outside it
  inside-same : (class : Text) (fs : List FormulaTree) → AllSame fs → AllSame (map (each_in (set_of class)) fs)
  inside-same class [] h = tt
  inside-same class (f ∷ fs) h = ((λ e i. every s.last (λ x. not (s.set (named class) x) || h.0 (x ∷ e) i)), inside-same class fs h.1)

  outside-same : (class : Text) (f : FormulaTree) → Same f → Same (each_outside (set_of class) f)
  outside-same class f h e = λ i. every s.last (λ x. not (not (s.set (named class) x)) || h (x ∷ e) i)

  default-same : (kind : Kind) (f : Text) → Same (is_default kind f)
  default-same k.Obj f e = refl
  default-same k.Int f e = refl
  default-same k.Bool f e = refl
  default-same k.Set f e = refl

  facts-same : (p : Program) (scope : List Local) (this : Option ℕ) → AllSame (well_formed_facts p scope this)
  facts-same p scope this =
      let union : List FormulaTree = t.eq_set alloc (union_of (all_classes p.classes)) ∷ [] in
      let pairs : List FormulaTree = apart (all_classes p.classes) in
      let null : List FormulaTree = t.negation (t.member t.null alloc) ∷ [] in
      let statics : List FormulaTree = flat_map (static_facts p.classes) p.members in
      let locals : List FormulaTree = flat_map (local_facts p.classes) scope in
      let own : List FormulaTree = this_facts p.classes this in
      let fields : List FormulaTree = flat_map (field_facts p.classes) p.members in
      let defaults : List FormulaTree = flat_map default_facts p.members in
      parts-same (union ++ pairs ++ null ++ (statics ++ locals ++ own) ++ fields) defaults
      (parts-same (union ++ pairs ++ null ++ (statics ++ locals ++ own)) fields
      (parts-same (union ++ pairs ++ null) (statics ++ locals ++ own)
      (parts-same (union ++ pairs) null
      (parts-same union pairs ((λ e i. every s.last (λ x. agree (s.set alloc_name x) (union-same (all_classes p.classes) e i x))), tt) (apart-same (all_classes p.classes)))
      ((λ e. refl), tt))
      (parts-same (statics ++ locals) own
      (parts-same statics locals
      (each-same (static_facts p.classes) p.members (λ x. if-same x.is_static (member_lies_in p.classes x (t.free_object (named x.text))) (member-same p.classes x.type (t.free_object (named x.text)) (λ e. refl))))
      (each-same (local_facts p.classes) scope (λ x. lies-same p.classes x.type (t.free_object (named x.text)) (λ e. refl))))
      (this-same p.classes this)))
      (each-same (field_facts p.classes) p.members (λ x.
      let read : TermTree = t.read_object (t.free_field (named x.text)) (t.bound 0) in
      unless-same x.is_static (map (each_in (set_of x.class)) (member_lies_in p.classes x read)) (inside-same x.class (member_lies_in p.classes x read) (member-same p.classes x.type read (λ e. refl))))))
      (each-same default_facts p.members (λ x.
      unless-same x.is_static (each_outside (set_of x.class) (is_default x.kind x.text) ∷ []) (outside-same x.class (is_default x.kind x.text) (default-same x.kind x.text), tt)))

  pub well-formed-viewed : (p : Program) (scope : List Local) (this : Option ℕ) → truth (well_formed p scope this) (viewed s o m) [] ≡ truth (well_formed p scope this) (shown s s) []
  well-formed-viewed p scope this = joined-same (well_formed_facts p scope this) (facts-same p scope this) []

module _ (p : Program) (names : NamesFit p) (s : State) where
  null-or : (v : ℕ) (b : Bool) → (v ≡ 0) ⊎ (b ≡ true) → ((v == 0) || b) ≡ true
  null-or v b (inl e) = or-left (v == 0) b (eq-eqb v 0 e)
  null-or v b (inr i) = or-right (v == 0) b i

  lies-true : (type : Ty) (x : Text) → ObjectLies p type s (s.object (named x)) → AllTrueIn (shown s s) (lies_in p.classes type (t.free_object (named x)))
  lies-true (ty.Class n) x h = (null-or (s.object (named x)) (s.set (named (class_at p.classes n)) (s.object (named x))) h, tt)
  lies-true ty.Object x h = (null-or (s.object (named x)) (s.set alloc_name (s.object (named x))) h, tt)
  lies-true ty.Null x h = tt
  lies-true ty.Int x h = tt
  lies-true ty.Boolean x h = tt
  lies-true ty.Void x h = tt

  this-true : (this : Option ℕ) → ((n : ℕ) → this ≡ Some n → s.set (named (class_at p.classes n)) (s.object this_name) ≡ true) → AllTrueIn (shown s s) (this_facts p.classes this)
  this-true None h = tt
  this-true (Some n) h = (h n refl, tt)

  -- with these locals in scope
  scope-true : (scope : List Local) (this : Option ℕ) (at : Surroundings) → InScope this scope at → ScopeLies p names at s →
      AllTrueIn (shown s s) (flat_map (local_facts p.classes) scope) × AllTrueIn (shown s s) (this_facts p.classes this)
  scope-true scope this at h l = (
    each-true (shown s s) (local_facts p.classes) scope (λ x i. lies-true x.type x.text (l.locals x (h.locals x i))),
    this-true this (λ n e. l.this n (h.this_is ∙ e)),
  )

  pub well-formed-shown : (scope : List Local) (this : Option ℕ) (at : Surroundings) → InScope this scope at → Formed p s → ScopeLies p names at s → truth (well_formed p scope this) (shown s s) [] ≡ true
  well-formed-shown scope this at h f l =
      let w : Interp = shown s s in
      let start : List FormulaTree = (t.eq_set alloc (union_of (all_classes p.classes)) ∷ []) ++ apart (all_classes p.classes) ++ (t.negation (t.member t.null alloc) ∷ []) in
      let statics : List FormulaTree = flat_map (static_facts p.classes) p.members in
      let locals : List FormulaTree = flat_map (local_facts p.classes) scope in
      let own : List FormulaTree = this_facts p.classes this in
      let fields : List FormulaTree = flat_map (field_facts p.classes) p.members in
      let defaults : List FormulaTree = flat_map default_facts p.members in
      let all : AllTrueIn w (well_formed_facts p [] None) = joined-true w (well_formed_facts p [] None) (formed-facts s p names f) in
      let to-fields : AllTrueIn w (start ++ (statics ++ [] ++ []) ++ fields) × AllTrueIn w defaults = parts-true w (start ++ (statics ++ [] ++ []) ++ fields) defaults all in
      let to-statics : AllTrueIn w (start ++ (statics ++ [] ++ [])) × AllTrueIn w fields = parts-true w (start ++ (statics ++ [] ++ [])) fields to-fields.0 in
      let to-start : AllTrueIn w start × AllTrueIn w (statics ++ [] ++ []) = parts-true w start (statics ++ [] ++ []) to-statics.0 in
      let of-statics : AllTrueIn w statics = (parts-true w statics [] (parts-true w (statics ++ []) [] to-start.1).0).0 in
      let scoped = scope-true scope this at h l in
      true-joined w (well_formed_facts p scope this)
      (both-parts-true w (start ++ (statics ++ locals ++ own) ++ fields) defaults
      (both-parts-true w (start ++ (statics ++ locals ++ own)) fields
      (both-parts-true w start (statics ++ locals ++ own) to-start.0
      (both-parts-true w (statics ++ locals) own (both-parts-true w statics locals of-statics scoped.0) scoped.1))
      to-statics.1)
      to-fields.1)

  pub well-formed-there : (scope : List Local) (this : Option ℕ) (at : Surroundings) → InScope this scope at → Formed p s → ScopeLies p names at s → (o m : Interp) → truth (well_formed p scope this) (viewed s o m) [] ≡ true
  well-formed-there scope this at h f l o m = well-formed-viewed s o m p scope this ∙ well-formed-shown scope this at h f l
