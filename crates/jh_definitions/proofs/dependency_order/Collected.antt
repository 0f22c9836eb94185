-- Definitions collected one after another.
use Rattle.std.proofs.Common.{◌≡◌, refl, sym, ap, subst, ◌∙◌, ◌⊎◌, inl, inr, ℕ, zero, suc, ◌+◌, ◌<◌, ◌≤◌, Bool, true, false, not, if◌then◌else◌, List, [], ◌∷◌, ◌++◌, map, length, take, drop, slice_get, Some, None, arith}
use Rattle.std.specs.List.{sum_by}
use Rattle.std.specs.Option.{option_map_or}
use Rattle.std.proofs.lemmas.List.{take_all, length-map}
use Rattle.std.proofs.lemmas.List.Sums.{sum_by-cons}
use Rattle.jh_ast.specs.declared.program.Class.{Class}
use Rattle.jh_ast.specs.declared.program.VarDef.{VarDef}
use Rattle.jh_ast.specs.Bare.{class_part, def_part, form_tree}
use Rattle.jh_ast.specs.Programs.{ProgramTree, ClassPart, DefPart}
use Rattle.jh_rules.specs.declared.entries.StateEntry.{StateEntry}
use Rattle.jh_rules.specs.Names.{◌then◌, Declared, declared_in, def_in, def_of}
use Rattle.jh_rules.specs.Words.{same_text, text_of}
use Rattle.jh_symbols.specs.declared.member_numbers.numbers.Numbers.{Numbers}
use Rattle.jh_symbols.specs.member_numbers.Numbering.{number_in}
use Rattle.jh_symbols.proofs.member_numbers.Puttings.{text-same, text-is}
use Rattle.jh_containers.proofs.topological_order.Orderings.{push-keeps, push-last, push-cases}
use Rattle.jh_containers.proofs.transitive_closure.Places.{before-or-at}
use Rattle.jh_vars.specs.Opened.{is_of_objects}
use Rattle.jh_definitions.specs.declared.expansion.opening.Definition.{Definition}
use Rattle.jh_definitions.specs.expansion.Opening.{source_of, IsDefinition, AreDefinitions}
use Rattle.jh_definitions.specs.dependency_order.Defining.{IsDefinitionOf, AreNumbered, AreAll}

some-is : {X : Type 0} (a b : X) → Some a ≡ Some b → a ≡ b
some-is a b e = cc

-- one more definition, whose variable had none
module _ (old new : Numbers) (ds es : List Definition) (c : ℕ) (t : List ℕ) (d : Definition) (at : es ≡ ds ++ d ∷ []) (noted : number_in new c t ≡ Some (length ds)) (others : (e : ℕ) (y : List ℕ) → ((e ≡ c) × (y ≡ t)) ⊎ (number_in new e y ≡ number_in old e y)) (class : d.class ≡ c) (text : text_of d.word.now ≡ t) where
  abbrev There : ℕ → List ℕ → ℕ → Type 0
  There e y k = (f : Definition) × (slice_get es k ≡ Some f) × (f.class ≡ e) × (text_of f.word.now ≡ y)

  here : slice_get es (length ds) ≡ Some d
  here = ap (λ xs. slice_get xs (length ds)) at ∙ push-last ds d

  pub numbered-push : AreNumbered old ds → AreNumbered new es
  numbered-push n = record { there = λ e y k q. by e y k q (others e y) }
    where
      by : (e : ℕ) (y : List ℕ) (k : ℕ) → number_in new e y ≡ Some k → ((e ≡ c) × (y ≡ t)) ⊎ (number_in new e y ≡ number_in old e y) → There e y k
      by e y k q (inl s) =
          let same : length ds ≡ k = some-is (length ds) k (sym noted ∙ (λ i. number_in new (sym s.0 i) (sym s.1 i)) ∙ q) in
          (d, subst (λ (j : ℕ). slice_get es j ≡ Some d) same here, class ∙ sym s.0, text ∙ sym s.1)
      by e y k q (inr s) = let w = n.there e y k (sym s ∙ q) in (w.0, ap (λ xs. slice_get xs k) at ∙ push-keeps ds d k w.0 w.1, w.2, w.3)

pub definitions-push : (p : ProgramTree) (ds es : List Definition) (d : Definition) → es ≡ ds ++ d ∷ [] → IsDefinition p d → AreDefinitions p ds → AreDefinitions p es
definitions-push p ds es d at is all k e q = by (push-cases ds d k e (ap (λ xs. slice_get xs k) (sym at) ∙ q))
  where
    by : (slice_get ds k ≡ Some e) ⊎ ((k ≡ length ds) × (e ≡ d)) → IsDefinition p e
    by (inl f) = all k e f
    by (inr f) = subst (λ (x : Definition). IsDefinition p x) (sym f.1) is

-- what a definition of a class is to be opened as
pub definition-is : (p : ProgramTree) (l : Declared) (class : ℕ) (def : VarDef) (d : Definition) → l ≡ declared_in p → class < length p.classes → def_of p class (text_of def.name) ≡ Some (def_part def) → IsDefinitionOf l class def d → IsDefinition p d
definition-is p l class def d declared inside found is = record {
  part = def_part def;
  found = (λ i. def_of p (is.of_class i) (text_of (is.word i))) ∙ found;
  form = sym (ap form_tree is.body);
  objects = (λ i. is_of_objects p (is.of_class i) (text_of (is.word i))) ∙ sym (is.objects ∙ ap (λ (m : Declared). option_map_or (λ (s : StateEntry). not s.fixed) (m.state_of class (text_of def.name)) false) declared);
  inside = subst (λ (n : ℕ). n < length p.classes) (sym is.of_class) inside;
}

-- the first definition of a list is the one that has none before
found-first : (x : List ℕ) (d : DefPart) (ds : List DefPart) (b : Bool) → (if b then Some d else def_in x ds) ≡ None → (b ≡ false) × (def_in x ds ≡ None)
found-first x d ds true e = cc
found-first x d ds false e = (refl, e)

pub def-fresh : (defs : List VarDef) (i : ℕ) (def : VarDef) → slice_get defs i ≡ Some def → def_in (text_of def.name) (map def_part (take i defs)) ≡ None → def_in (text_of def.name) (map def_part defs) ≡ Some (def_part def)
unfolding def_in
def-fresh [] zero def e h = cc
def-fresh [] (suc i) def e h = cc
def-fresh (d ∷ ds) zero def e h =
    let same : d ≡ def = some-is d def e in
    ap (λ (b : Bool). if b then Some (def_part d) else def_in (text_of def.name) (map def_part ds)) ((λ i. same_text (text_of (same i).name) (text_of def.name)) ∙ text-same (text_of def.name)) ∙ ap (λ (x : VarDef). Some (def_part x)) same
def-fresh (d ∷ ds) (suc i) def e h =
    let k = found-first (text_of def.name) (def_part d) (map def_part (take i ds)) (same_text (text_of d.name) (text_of def.name)) h in
    ap (λ (b : Bool). if b then Some (def_part d) else def_in (text_of def.name) (map def_part ds)) k.0 ∙ def-fresh ds i def e k.1

other-text : (x y : List ℕ) (b : Bool) → same_text x y ≡ b → (y ≡ x → ⊥) → b ≡ false
other-text x y true e h = absurd (h (sym (text-is x y e)))
other-text x y false e h = refl

take-more : (x : List ℕ) (defs : List VarDef) (i : ℕ) (def : VarDef) → slice_get defs i ≡ Some def → (x ≡ text_of def.name → ⊥) → def_in x (map def_part (take i defs)) ≡ None → def_in x (map def_part (take (suc i) defs)) ≡ None
unfolding def_in
take-more x [] zero def e apart h = cc
take-more x [] (suc i) def e apart h = cc
take-more x (d ∷ ds) zero def e apart h =
    ap (λ (b : Bool). if b then Some (def_part d) else None) (other-text (text_of d.name) x (same_text (text_of d.name) x) refl (λ s. apart (s ∙ ap (λ (v : VarDef). text_of v.name) (some-is d def e))))
take-more x (d ∷ ds) (suc i) def e apart h =
    let k = found-first x (def_part d) (map def_part (take i ds)) (same_text (text_of d.name) x) h in
    ap (λ (b : Bool). if b then Some (def_part d) else def_in x (map def_part (take (suc i) ds))) k.0 ∙ take-more x ds i def e apart k.1

pub take-next : (x : List ℕ) (defs : List VarDef) (i : ℕ) (def : VarDef) → slice_get defs i ≡ Some def → (x ≡ text_of def.name → ⊥) → def_in x (map def_part (take i defs)) ≡ None → def_in x (map def_part (take (i + 1) defs)) ≡ None
take-next x defs i def e apart h =
    let next : i + 1 ≡ suc i = omega arith in
    ap (λ (n : ℕ). def_in x (map def_part (take n defs))) next ∙ take-more x defs i def e apart h

pub take-none : (x : List ℕ) (defs : List VarDef) → def_in x (map def_part (take 0 defs)) ≡ None
unfolding def_in
take-none x [] = refl
take-none x (d ∷ ds) = refl

-- what has no number among those noted has no definition among those gone through
module _ (old new : Numbers) (class : ℕ) (defs : List VarDef) (i : ℕ) (def : VarDef) (at : slice_get defs i ≡ Some def) (named : number_in new class (text_of def.name) ≡ None → ⊥) (others : (c : ℕ) (x : List ℕ) → ((c ≡ class) × (x ≡ text_of def.name)) ⊎ (number_in new c x ≡ number_in old c x)) where
  pub all-next : ((x : List ℕ) → number_in old class x ≡ None → def_in x (map def_part (take i defs)) ≡ None) → (x : List ℕ) → number_in new class x ≡ None → def_in x (map def_part (take (i + 1) defs)) ≡ None
  all-next all x none = by (others class x)
    where
      other : x ≡ text_of def.name → ⊥
      other e = named (subst (λ (y : List ℕ). number_in new class y ≡ None) e none)

      by : ((class ≡ class) × (x ≡ text_of def.name)) ⊎ (number_in new class x ≡ number_in old class x) → def_in x (map def_part (take (i + 1) defs)) ≡ None
      by (inl s) = absurd (other s.1)
      by (inr s) = take-next x defs i def at other (all x (sym s ∙ none))

-- the definitions of a class are those of its part of the source
classes-get : (cs : List Class) (n : ℕ) (c : Class) → slice_get cs n ≡ Some c → slice_get (map class_part cs) n ≡ Some (class_part c)
classes-get [] zero c e = cc
classes-get [] (suc n) c e = cc
classes-get (d ∷ cs) zero c e = ap (λ (x : Class). Some (class_part x)) (some-is d c e)
classes-get (d ∷ cs) (suc n) c e = classes-get cs n c e

pub def-of-class : (cs : List Class) (n : ℕ) (c : Class) → slice_get cs n ≡ Some c → (x : List ℕ) → def_of (source_of cs) n x ≡ def_in x (map def_part c.defs)
unfolding class_part
def-of-class cs n c e x = ap (λ o. o then λ (k : ClassPart). def_in x k.defs) (classes-get cs n c e)

-- one more class has been gone through
module _ (cs : List Class) (old new : Numbers) (n : ℕ) (c : Class) (at : slice_get cs n ≡ Some c) (all : (x : List ℕ) → number_in new n x ≡ None → def_in x (map def_part c.defs) ≡ None) (others : (e : ℕ) (x : List ℕ) → (e ≡ n) ⊎ (number_in new e x ≡ number_in old e x)) where
  abbrev pub AllBelow : Numbers → ℕ → Type 0
  AllBelow m k = (e : ℕ) (x : List ℕ) → e < k → number_in m e x ≡ None → def_of (source_of cs) e x ≡ None

  pub all-below : AllBelow old n → AllBelow new (n + 1)
  all-below below e x lt none = by (before-or-at e n lt) (others e x)
    where
      here : e ≡ n → def_of (source_of cs) e x ≡ None
      here s = subst (λ (k : ℕ). def_of (source_of cs) k x ≡ None) (sym s) (def-of-class cs n c at x ∙ all x (subst (λ (k : ℕ). number_in new k x ≡ None) s none))

      by : (e < n) ⊎ (e ≡ n) → (e ≡ n) ⊎ (number_in new e x ≡ number_in old e x) → def_of (source_of cs) e x ≡ None
      by (inr s) w = here s
      by (inl l) (inl s) = here s
      by (inl l) (inr s) = below e x l (sym s ∙ none)

none-past : (cs : List Class) (n : ℕ) → length cs ≤ n → slice_get (map class_part cs) n ≡ None
none-past [] zero le = refl
none-past [] (suc n) le = refl
none-past (c ∷ cs) zero le = absurd (omega arith)
none-past (c ∷ cs) (suc n) le = none-past cs n (omega arith)

less-or : (a b : ℕ) → (a < b) ⊎ (b ≤ a)
less-or zero zero = inr (omega arith)
less-or zero (suc b) = inl (omega arith)
less-or (suc a) zero = inr (omega arith)
less-or (suc a) (suc b) = next (less-or a b)
  where
    next : (a < b) ⊎ (b ≤ a) → (suc a < suc b) ⊎ (suc b ≤ suc a)
    next (inl l) = inl (omega arith)
    next (inr l) = inr (omega arith)

pub all-end : (cs : List Class) (m : Numbers) (n : ℕ) → length cs ≤ n → ((e : ℕ) (x : List ℕ) → e < n → number_in m e x ≡ None → def_of (source_of cs) e x ≡ None) → AreAll (source_of cs) m
all-end cs m n le below e x none = by (less-or e n)
  where
    by : (e < n) ⊎ (n ≤ e) → def_of (source_of cs) e x ≡ None
    by (inl l) = below e x l none
    by (inr l) = ap (λ o. o then λ (k : ClassPart). def_in x k.defs) (none-past cs e (omega arith))

-- there are no more definitions in the list than in the classes gone through
abbrev pub defs_long : ClassPart → ℕ
defs_long c = length c.defs

length-defs : (ds : List VarDef) → length (map def_part ds) ≡ length ds
length-defs [] = refl
length-defs (d ∷ ds) = ap suc (length-defs ds)

drop-map : (cs : List Class) (n : ℕ) (c : Class) → slice_get cs n ≡ Some c → drop n (map class_part cs) ≡ class_part c ∷ drop (suc n) (map class_part cs)
drop-map [] zero c e = cc
drop-map [] (suc n) c e = cc
drop-map (d ∷ cs) zero c e = ap (λ (x : Class). class_part x ∷ map class_part cs) (some-is d c e)
drop-map (d ∷ cs) (suc n) c e = drop-map cs n c e

class-long : (c : Class) → defs_long (class_part c) ≡ length c.defs
unfolding class_part
class-long c = length-defs c.defs

pub few-next : (cs : List Class) (n : ℕ) (c : Class) (was now top : ℕ) → slice_get cs n ≡ Some c → now ≤ was + length c.defs → was + sum_by defs_long (drop n (map class_part cs)) ≤ top → now + sum_by defs_long (drop (n + 1) (map class_part cs)) ≤ top
few-next cs n c was now top e step le =
    let rest = sum_by defs_long (drop (suc n) (map class_part cs)) in
    let more : sum_by defs_long (drop n (map class_part cs)) ≡ length c.defs + rest = ap (sum_by defs_long) (drop-map cs n c e) ∙ sum_by-cons defs_long (class_part c) (drop (suc n) (map class_part cs)) ∙ ap (λ (k : ℕ). k + rest) (class-long c) in
    let next : n + 1 ≡ suc n = omega arith in
    let same : sum_by defs_long (drop (n + 1) (map class_part cs)) ≡ rest = ap (λ (k : ℕ). sum_by defs_long (drop k (map class_part cs))) next in
    omega arith

pub take-end : (x : List ℕ) (defs : List VarDef) (i : ℕ) → length defs ≤ i → def_in x (map def_part (take i defs)) ≡ None → def_in x (map def_part defs) ≡ None
take-end x defs i le h = ap (λ ds. def_in x (map def_part ds)) (sym (take_all i defs le)) ∙ h

pub both-others : (first old new : Numbers) (class c : ℕ) (t x : List ℕ) → ((c ≡ class) × (x ≡ t)) ⊎ (number_in new c x ≡ number_in old c x) → (c ≡ class) ⊎ (number_in old c x ≡ number_in first c x) → (c ≡ class) ⊎ (number_in new c x ≡ number_in first c x)
both-others first old new class c t x (inl s) h = inl s.0
both-others first old new class c t x (inr s) (inl e) = inl e
both-others first old new class c t x (inr s) (inr e) = inr (s ∙ e)

pub inside-source : (cs : List Class) (n : ℕ) → n < length cs → n < length (source_of cs).classes
inside-source cs n lt = subst (λ (k : ℕ). n < k) (sym (length-map cs class_part)) lt
