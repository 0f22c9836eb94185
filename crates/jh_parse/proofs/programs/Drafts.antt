-- A class to which members are added, some after others.
use Rattle.std.proofs.Common.{◌≡◌, List, [], ◌∷◌, ◌++◌, append_assoc, refl, ap, sym, ◌∙◌}
use Rattle.std.proofs.lemmas.Grind.{flat_map-append}
use Rattle.std.proofs.lemmas.List.{append-nil}
use Rattle.std.specs.List.{flat_map}
use Rattle.jh_ast.specs.declared.word.Word.{Word}
use Rattle.jh_ast.specs.Forms.{LabelledPart}
use Rattle.jh_ast.specs.Programs.{FieldPart, VarPart, DefPart, MethodPart, ClassPart}
use Rattle.jh_spec.specs.parser.Parts.{ItemTree}
use Rattle.jh_parse.specs.programs.Members.{MemberTree, of_fields, of_method, of_items, fields_of, methods_of, items_of, variables_of, definitions_of, invariants_of}
use Rattle.jh_parse.specs.programs.MemberReads.{with_items, with_members}

-- a class of these parts
abbrev pub parts : Word → List FieldPart → List MethodPart → List VarPart → List DefPart → List LabelledPart → ClassPart
parts w fs ms vs ds is = record { name = w; fields = fs; methods = ms; vars = vs; defs = ds; invariants = is }

-- classes of the same parts are the same
pub parts-same : (w : Word) {fs gs : List FieldPart} {ms ns : List MethodPart} {vs us : List VarPart} {ds es : List DefPart} {is js : List LabelledPart} → fs ≡ gs → ms ≡ ns → vs ≡ us → ds ≡ es → is ≡ js → parts w fs ms vs ds is ≡ parts w gs ns us es js
parts-same w e f g h i = rw (e, f, g, h, i) refl

-- one thing and then others
one-more : {X A : Type 0} (f : X → List A) (old : List A) (x : X) (xs : List X) → (old ++ flat_map f (x ∷ [])) ++ flat_map f xs ≡ old ++ flat_map f (x ∷ xs)
one-more f old x xs = append_assoc old (flat_map f (x ∷ [])) (flat_map f xs) ∙ ap (λ l. old ++ l) (sym (flat_map-append f (x ∷ []) xs))

pub items-none : (c : ClassPart) → with_items c [] ≡ c
items-none c = parts-same c.name refl refl (append-nil c.vars) (append-nil c.defs) (append-nil c.invariants)

pub items-more : (c : ClassPart) (x : ItemTree) (xs : List ItemTree) → with_items (with_items c (x ∷ [])) xs ≡ with_items c (x ∷ xs)
items-more c x xs = parts-same c.name refl refl (one-more variables_of c.vars x xs) (one-more definitions_of c.defs x xs) (one-more invariants_of c.invariants x xs)

pub members-none : (c : ClassPart) → with_members c [] ≡ c
members-none c = parts-same c.name (append-nil c.fields) (append-nil c.methods) (append-nil c.vars) (append-nil c.defs) (append-nil c.invariants)

-- what a specification among the members and then others declare
items-of-more : {A : Type 0} (f : ItemTree → List A) (old : List A) (x : MemberTree) (xs : List MemberTree) → (old ++ flat_map f (flat_map items_of (x ∷ []))) ++ flat_map f (flat_map items_of xs) ≡ old ++ flat_map f (flat_map items_of (x ∷ xs))
items-of-more f old x xs = append_assoc old (flat_map f (flat_map items_of (x ∷ []))) (flat_map f (flat_map items_of xs))
    ∙ ap (λ l. old ++ l) (sym (flat_map-append f (flat_map items_of (x ∷ [])) (flat_map items_of xs)) ∙ ap (λ l. flat_map f l) (sym (flat_map-append items_of (x ∷ []) xs)))

pub members-more : (c : ClassPart) (x : MemberTree) (xs : List MemberTree) → with_members (with_members c (x ∷ [])) xs ≡ with_members c (x ∷ xs)
members-more c x xs = parts-same c.name (one-more fields_of c.fields x xs) (one-more methods_of c.methods x xs) (items-of-more variables_of c.vars x xs) (items-of-more definitions_of c.defs x xs) (items-of-more invariants_of c.invariants x xs)

-- one member of each kind
pub with-fields : (c : ClassPart) (fs : List FieldPart) → with_members c (of_fields fs ∷ []) ≡ parts c.name (c.fields ++ fs) c.methods c.vars c.defs c.invariants
with-fields c fs = parts-same c.name (ap (λ l. c.fields ++ l) (append-nil fs)) (append-nil c.methods) (append-nil c.vars) (append-nil c.defs) (append-nil c.invariants)

pub with-method : (c : ClassPart) (m : MethodPart) → with_members c (of_method m ∷ []) ≡ parts c.name c.fields (c.methods ++ m ∷ []) c.vars c.defs c.invariants
with-method c m = parts-same c.name (append-nil c.fields) refl (append-nil c.vars) (append-nil c.defs) (append-nil c.invariants)

pub with-items : (c : ClassPart) (xs : List ItemTree) → with_members c (of_items xs ∷ []) ≡ with_items c xs
with-items c xs = parts-same c.name (append-nil c.fields) (append-nil c.methods) (ap (λ l. c.vars ++ flat_map variables_of l) (append-nil xs)) (ap (λ l. c.defs ++ flat_map definitions_of l) (append-nil xs)) (ap (λ l. c.invariants ++ flat_map invariants_of l) (append-nil xs))
