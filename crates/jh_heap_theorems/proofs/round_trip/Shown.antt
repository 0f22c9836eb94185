-- What the state that a heap lists has under each name.
use Rattle.std.proofs.Common.{◌≡◌, refl, sym, ap, ◌∙◌, arith, ℕ, suc, ◌&&◌, nat_lt, Bool, true, false, true≢false, if◌then◌else◌, List, [], ◌∷◌, map, codes}
use Rattle.std.specs.List.{Contains, list_any}
use Rattle.std.proofs.lemmas.Bool.{false_from_ne_true}
use Rattle.jh_name.specs.declared.naming.Name.{Name}
use Rattle.jh_form.specs.Passing.{name_equal}
use Rattle.jh_form.proofs.Names.{name_equal-true, name_equal-same}
use Rattle.jh_form.specs.Meaning.{a_set, a_field}
use Rattle.jh_form.specs.Assigned.{assigned}
use Rattle.jh_semantics.specs.Code.{Text}
use Rattle.jh_semantics.specs.Program.{Program, Member}
use Rattle.jh_semantics.specs.State.{State, named, alloc_name, stored}
use Rattle.jh_semantics.specs.Locals.{has_dot}
use Rattle.jh_semantics.specs.Typed.{AreApart}
use Rattle.jh_semantics.specs.WellFormed.{all_classes}
use Rattle.jh_semantics.specs.Heaps.{Cell, object, number, truth_value, set, Heap, is_in, cell_value, field_value, empty_state, with_classes, with_statics, with_fields, statics_of, fields_of, state_of}

-- members of lists
module _ {X : Type 0} where
  pub contains-here : (x : X) (xs : List X) → Contains (x ∷ xs) x
  contains-here x xs = (0, omega arith, refl)

  pub contains-behind : (y : X) (xs : List X) (x : X) → Contains xs x → Contains (y ∷ xs) x
  contains-behind y xs x i = let lt = i.1 in (suc i.0, omega (arith, lt), i.2)

abbrev pub texts : List Member → List Text
texts xs = map (λ (x : Member). x.text) xs

-- each of a list
abbrev pub Each : {X : Type 0} → (X → Type 0) → List X → Type 0
Each P [] = Unit {0}
Each P (x ∷ xs) = P x × Each P xs

pub each-of : {X : Type 0} (P : X → Type 0) (xs : List X) → ((x : X) → Contains xs x → P x) → Each P xs
each-of P [] h = tt
each-of P (x ∷ xs) h = (h x (contains-here x xs), each-of P xs (λ y i. h y (contains-behind x xs y i)))

-- names
same-name : (c : Text) → name_equal (named c) (named c) ≡ true
same-name c = name_equal-same (named c) (named c) refl

other-name : (c d : Text) → (c ≡ d → ⊥) → name_equal (named c) (named d) ≡ false
other-name c d h = false_from_ne_true (name_equal (named c) (named d)) (λ e. h (ap (λ (z : Name). z.text) (name_equal-true (named c) (named d) e)))

-- what a state has of classes, statics and fields
abbrev pub ClassesShown : State → List Text → List (List ℕ) → Type 0
ClassesShown s (c ∷ cs) (xs ∷ rest) = ((a : ℕ) → s.set (named c) a ≡ is_in a xs) × ClassesShown s cs rest
ClassesShown s _ _ = Unit {0}

abbrev pub IsShown : State → Text → Cell → Type 0
IsShown s x (object a) = s.object (named x) ≡ a
IsShown s x cell = Unit {0}

abbrev pub StaticsShown : State → List Member → List Cell → Type 0
StaticsShown s (x ∷ xs) (cell ∷ cells) = IsShown s x.text cell × StaticsShown s xs cells
StaticsShown s _ _ = Unit {0}

abbrev pub FieldsShown : State → List Member → List (List Cell) → Type 0
FieldsShown s (x ∷ xs) (cells ∷ rest) = (s.field (named x.text) ≡ field_value cells) × FieldsShown s xs rest
FieldsShown s _ _ = Unit {0}

classes-kept : (s u : State) (cs : List Text) (classes : List (List ℕ)) → Each (λ c. u.set (named c) ≡ s.set (named c)) cs → ClassesShown s cs classes → ClassesShown u cs classes
classes-kept s u [] classes e h = tt
classes-kept s u (c ∷ cs) [] e h = tt
classes-kept s u (c ∷ cs) (xs ∷ rest) e h = (λ a. ap (λ (g : ℕ → Bool). g a) e.0 ∙ h.0 a, classes-kept s u cs rest e.1 h.1)

shown-kept : (s u : State) (x : Text) (cell : Cell) → u.object (named x) ≡ s.object (named x) → IsShown s x cell → IsShown u x cell
shown-kept s u x (object a) e h = e ∙ h
shown-kept s u x (number z) e h = tt
shown-kept s u x (truth_value b) e h = tt
shown-kept s u x (set xs) e h = tt

statics-kept : (s u : State) (xs : List Member) (cells : List Cell) → Each (λ (x : Member). u.object (named x.text) ≡ s.object (named x.text)) xs → StaticsShown s xs cells → StaticsShown u xs cells
statics-kept s u [] cells e h = tt
statics-kept s u (x ∷ xs) [] e h = tt
statics-kept s u (x ∷ xs) (cell ∷ cells) e h = (shown-kept s u x.text cell e.0 h.0, statics-kept s u xs cells e.1 h.1)

fields-kept : (s u : State) (xs : List Member) (fields : List (List Cell)) → Each (λ (x : Member). u.field (named x.text) ≡ s.field (named x.text)) xs → FieldsShown s xs fields → FieldsShown u xs fields
fields-kept s u [] fields e h = tt
fields-kept s u (x ∷ xs) [] e h = tt
fields-kept s u (x ∷ xs) (cells ∷ rest) e h = (e.0 ∙ h.0, fields-kept s u xs rest e.1 h.1)

-- a name that is another has what it had
else-there : {X : Type 0} (c d : Text) (v w : X) → (c ≡ d → ⊥) → (if name_equal (named c) (named d) then v else w) ≡ w
else-there c d v w h = ap (λ t. if t then v else w) (other-name c d h)

-- the classes
pub classes-shown : (cs : List Text) (classes : List (List ℕ)) (s : State) → AreApart cs → ClassesShown (with_classes cs classes s) cs classes
classes-shown [] classes s h = tt
classes-shown (c ∷ cs) [] s h = tt
classes-shown (c ∷ cs) (xs ∷ rest) s h = (
  λ a. ap (λ t. (if t then (λ b. is_in b xs) else (with_classes cs rest s).set (named c)) a) (same-name c),
  classes-kept (with_classes cs rest s) (assigned (with_classes cs rest s) (named c) (a_set (λ b. is_in b xs))) cs rest
      (each-of (λ d. (assigned (with_classes cs rest s) (named c) (a_set (λ b. is_in b xs))).set (named d) ≡ (with_classes cs rest s).set (named d)) cs
      (λ d i. else-there d c (λ b. is_in b xs) ((with_classes cs rest s).set (named d)) (λ e. h.0 d i (sym e))))
      (classes-shown cs rest s h.1),
)

-- and what they leave: a name that is none of theirs
pub classes-leave : (cs : List Text) (classes : List (List ℕ)) (s : State) (x : Text) → ((c : Text) → Contains cs c → x ≡ c → ⊥) → (with_classes cs classes s).set (named x) ≡ s.set (named x)
classes-leave [] classes s x h = refl
classes-leave (c ∷ cs) [] s x h = refl
classes-leave (c ∷ cs) (xs ∷ rest) s x h =
    else-there x c (λ b. is_in b xs) ((with_classes cs rest s).set (named x)) (h c (contains-here c cs)) ∙ classes-leave cs rest s x (λ d i. h d (contains-behind c cs d i))

pub classes-last : (cs : List Text) (classes : List (List ℕ)) (s : State) → (with_classes cs classes s).last ≡ s.last
classes-last [] classes s = refl
classes-last (c ∷ cs) [] s = refl
classes-last (c ∷ cs) (xs ∷ rest) s = classes-last cs rest s

-- the statics: a set is put under a name with a dot
dotless-other : (x y : Text) → has_dot x ≡ false → has_dot y ≡ true → x ≡ y → ⊥
dotless-other x y f t e = true≢false (sym t ∙ ap has_dot (sym e) ∙ f)

stored-set : (s : State) (x y : Text) (cell : Cell) → has_dot x ≡ false → has_dot y ≡ true → (stored s y (cell_value cell)).set (named x) ≡ s.set (named x)
stored-set s x y (object a) f t = refl
stored-set s x y (number z) f t = refl
stored-set s x y (truth_value b) f t = refl
stored-set s x y (set xs) f t = else-there x y (λ a. nat_lt a (suc s.last) && is_in a xs) (s.set (named x)) (dotless-other x y f t)

stored-object : (s : State) (x y : Text) (cell : Cell) → (x ≡ y → ⊥) → (stored s y (cell_value cell)).object (named x) ≡ s.object (named x)
stored-object s x y (object a) h = else-there x y a (s.object (named x)) h
stored-object s x y (number z) h = refl
stored-object s x y (truth_value b) h = refl
stored-object s x y (set xs) h = refl

stored-here : (s : State) (x : Text) (cell : Cell) → IsShown (stored s x (cell_value cell)) x cell
stored-here s x (object a) = ap (λ t. if t then a else s.object (named x)) (same-name x)
stored-here s x (number z) = tt
stored-here s x (truth_value b) = tt
stored-here s x (set xs) = tt

stored-last : (s : State) (x : Text) (cell : Cell) → (stored s x (cell_value cell)).last ≡ s.last
stored-last s x (object a) = refl
stored-last s x (number z) = refl
stored-last s x (truth_value b) = refl
stored-last s x (set xs) = refl

abbrev AllDotted : List Member → Type 0
AllDotted xs = Each (λ (x : Member). has_dot x.text ≡ true) xs

pub statics-leave : (xs : List Member) (cells : List Cell) (s : State) (c : Text) → has_dot c ≡ false → AllDotted xs → (with_statics xs cells s).set (named c) ≡ s.set (named c)
statics-leave [] cells s c f d = refl
statics-leave (x ∷ xs) [] s c f d = refl
statics-leave (x ∷ xs) (cell ∷ cells) s c f d = stored-set (with_statics xs cells s) c x.text cell f d.0 ∙ statics-leave xs cells s c f d.1

pub statics-last : (xs : List Member) (cells : List Cell) (s : State) → (with_statics xs cells s).last ≡ s.last
statics-last [] cells s = refl
statics-last (x ∷ xs) [] s = refl
statics-last (x ∷ xs) (cell ∷ cells) s = stored-last (with_statics xs cells s) x.text cell ∙ statics-last xs cells s

-- each member of a list in which a text doesn't stand
others-of : (P : Member → Type 0) (xs : List Member) (x : Text) → ((y : Text) → Contains (texts xs) y → x ≡ y → ⊥) → ((y : Member) → (y.text ≡ x → ⊥) → P y) → Each P xs
others-of P [] x h f = tt
others-of P (y ∷ xs) x h f = (f y (λ e. h y.text (contains-here y.text (texts xs)) (sym e)), others-of P xs x (λ z i. h z (contains-behind y.text (texts xs) z i)) f)

pub statics-shown : (xs : List Member) (cells : List Cell) (s : State) → AreApart (texts xs) → StaticsShown (with_statics xs cells s) xs cells
statics-shown [] cells s h = tt
statics-shown (x ∷ xs) [] s h = tt
statics-shown (x ∷ xs) (cell ∷ cells) s h = (
  stored-here (with_statics xs cells s) x.text cell,
  statics-kept (with_statics xs cells s) (stored (with_statics xs cells s) x.text (cell_value cell)) xs cells
      (others-of (λ (y : Member). (stored (with_statics xs cells s) x.text (cell_value cell)).object (named y.text) ≡ (with_statics xs cells s).object (named y.text)) xs x.text h.0
      (λ y e. stored-object (with_statics xs cells s) y.text x.text cell e))
      (statics-shown xs cells s h.1),
)

-- the fields
pub fields-set : (xs : List Member) (fields : List (List Cell)) (s : State) (c : Text) → (with_fields xs fields s).set (named c) ≡ s.set (named c)
fields-set [] fields s c = refl
fields-set (x ∷ xs) [] s c = refl
fields-set (x ∷ xs) (cells ∷ rest) s c = fields-set xs rest s c

pub fields-object : (xs : List Member) (fields : List (List Cell)) (s : State) (c : Text) → (with_fields xs fields s).object (named c) ≡ s.object (named c)
fields-object [] fields s c = refl
fields-object (x ∷ xs) [] s c = refl
fields-object (x ∷ xs) (cells ∷ rest) s c = fields-object xs rest s c

pub fields-last : (xs : List Member) (fields : List (List Cell)) (s : State) → (with_fields xs fields s).last ≡ s.last
fields-last [] fields s = refl
fields-last (x ∷ xs) [] s = refl
fields-last (x ∷ xs) (cells ∷ rest) s = fields-last xs rest s

pub fields-shown : (xs : List Member) (fields : List (List Cell)) (s : State) → AreApart (texts xs) → FieldsShown (with_fields xs fields s) xs fields
fields-shown [] fields s h = tt
fields-shown (x ∷ xs) [] s h = tt
fields-shown (x ∷ xs) (cells ∷ rest) s h = (
  ap (λ t. if t then field_value cells else (with_fields xs rest s).field (named x.text)) (same-name x.text),
  fields-kept (with_fields xs rest s) (assigned (with_fields xs rest s) (named x.text) (a_field (field_value cells))) xs rest
      (others-of (λ (y : Member). (assigned (with_fields xs rest s) (named x.text) (a_field (field_value cells))).field (named y.text) ≡ (with_fields xs rest s).field (named y.text)) xs x.text h.0
      (λ y e. else-there y.text x.text (field_value cells) ((with_fields xs rest s).field (named y.text)) e))
      (fields-shown xs rest s h.1),
)

-- all of a heap
pub record HeapShown (p : Program) (h : Heap) : Type 0 where
  pub last : (state_of p h).last ≡ h.greatest
  pub alloc : (a : ℕ) → (state_of p h).set alloc_name a ≡ list_any (is_in a) h.classes
  pub classes : ClassesShown (state_of p h) (all_classes p.classes) h.classes
  pub statics : StaticsShown (state_of p h) (statics_of p) h.statics
  pub fields : FieldsShown (state_of p h) (fields_of p) h.fields

module _ (p : Program) (h : Heap) (apart : AreApart (all_classes p.classes)) (dotless : (c : Text) → Contains (all_classes p.classes) c → has_dot c ≡ false)
    (not_alloc : (c : Text) → Contains (all_classes p.classes) c → c ≡ codes "alloc" → ⊥) (dotted : AllDotted (statics_of p)) (statics : AreApart (texts (statics_of p))) (fields : AreApart (texts (fields_of p))) where
  abbrev first : State
  first = assigned (empty_state h.greatest) alloc_name (a_set (λ a. list_any (is_in a) h.classes))

  abbrev second : State
  second = with_classes (all_classes p.classes) h.classes first

  abbrev third : State
  third = with_statics (statics_of p) h.statics second

  sets-left : (c : Text) → has_dot c ≡ false → (state_of p h).set (named c) ≡ second.set (named c)
  sets-left c f = fields-set (fields_of p) h.fields third c ∙ statics-leave (statics_of p) h.statics second c f dotted

  pub heap-shown : HeapShown p h
  heap-shown = record {
    last = fields-last (fields_of p) h.fields third ∙ statics-last (statics_of p) h.statics second ∙ classes-last (all_classes p.classes) h.classes first;
    alloc = λ a. ap (λ (g : ℕ → Bool). g a) (sets-left (codes "alloc") refl ∙ classes-leave (all_classes p.classes) h.classes first (codes "alloc") (λ c i e. not_alloc c i (sym e)))
        ∙ ap (λ (t : Bool). if◌then◌else◌ {A = ℕ → Bool} t (λ b. list_any (is_in b) h.classes) (λ b. false) a) (same-name (codes "alloc"));
    classes = classes-kept second (state_of p h) (all_classes p.classes) h.classes
        (each-of (λ c. (state_of p h).set (named c) ≡ second.set (named c)) (all_classes p.classes) (λ c i. sets-left c (dotless c i))) (classes-shown (all_classes p.classes) h.classes first apart);
    statics = statics-kept third (state_of p h) (statics_of p) h.statics
        (each-of (λ (x : Member). (state_of p h).object (named x.text) ≡ third.object (named x.text)) (statics_of p) (λ x i. fields-object (fields_of p) h.fields third x.text)) (statics-shown (statics_of p) h.statics second statics);
    fields = fields-shown (fields_of p) h.fields third fields;
  }
