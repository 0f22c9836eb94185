-- In a program that breaks no rule what has a definition is one of the variables of the text.
use Rattle.std.proofs.Common.{◌≡◌, refl, sym, ap, subst, ◌∙◌, ℕ, zero, suc, ◌+◌, ◌&&◌, ◌||◌, not, Bool, true, false, if◌then◌else◌, List, [], ◌∷◌, ◌++◌, map, slice_get, Option, Some, None, arith}
use Rattle.std.specs.List.{flat_map}
use Rattle.std.specs.Option.{option_map_or}
use Rattle.jh_name.specs.declared.place.Place.{Place}
use Rattle.jh_ast.specs.Programs.{ProgramTree, ClassPart, FieldPart, VarPart, MethodPart, DefPart}
use Rattle.jh_rules.specs.Breaks.{Breaks, faults_of}
use Rattle.jh_rules.specs.Faults.{fault, broken}
use Rattle.jh_rules.specs.declared.entries.StateEntry.{StateEntry}
use Rattle.jh_rules.specs.declared.fault.Fault.{Fault}
use Rattle.jh_rules.specs.Names.{◌then◌, MemberPart, field, method, var, members_of, first_named, state_from, declared_in, def_of, def_in}
use Rattle.jh_rules.specs.Rules.{rule_8}
use Rattle.jh_rules.specs.Statements.{def_faults, class_faults, classes_faults}
use Rattle.jh_rules.specs.Words.{same_text, text_of, used_before}
use Rattle.jh_symbols.proofs.member_numbers.Puttings.{text-is}
use Rattle.jh_containers.specs.transitive_closure.Spreads.{IsIn}
use Rattle.jh_vars.specs.States.{Variable}
use Rattle.jh_vars.specs.Reading.{variables, variables_from, variable_in}
use Rattle.jh_definitions.proofs.dependency_order.Entries.{named-so, named-in}
use Rattle.jh_definitions.proofs.dependency_order.Numbered.{get-contains, in-front, in-back}

some-is : {X : Type 0} (a b : X) → Some a ≡ Some b → a ≡ b
some-is a b e = cc

none-some : {X : Type 0} (a : X) → None ≡ Some a → ⊥
none-some a e = cc

in-all : {X Y : Type 0} (f : X → List Y) (xs : List X) (x : X) (y : Y) → IsIn xs x → IsIn (f x) y → IsIn (flat_map f xs) y
in-all f [] x y (zero, e) h = cc
in-all f [] x y (suc i, e) h = cc
in-all f (z ∷ xs) x y (zero, e) h = in-front (f z) (flat_map f xs) y (subst (λ w. IsIn (f w) y) (sym (some-is z x e)) h)
in-all f (z ∷ xs) x y (suc i, e) h = in-back (f z) (flat_map f xs) y (in-all f xs x y (i, e) h)

-- the definition of a name stands in the list and has the name
def-in : (x : List ℕ) (ds : List DefPart) (d : DefPart) → def_in x ds ≡ Some d → IsIn ds d × (text_of d.name ≡ x)
unfolding def_in
def-in x [] d e = absurd (none-some d e)
def-in x (c ∷ ds) d e = by (same_text (text_of c.name) x) refl e (λ q. def-in x ds d q)
  where
    by : (b : Bool) → same_text (text_of c.name) x ≡ b → (if b then Some c else def_in x ds) ≡ Some d → (def_in x ds ≡ Some d → IsIn ds d × (text_of d.name ≡ x)) → IsIn (c ∷ ds) d × (text_of d.name ≡ x)
    by true h q rest = ((0, q), ap (λ (k : DefPart). text_of k.name) (sym (some-is c d q)) ∙ text-is (text_of c.name) x h)
    by false h q rest = let w = rest q in ((suc w.0.0, w.0.1), w.1)

-- what is in a part is in the whole
among : (a ds b c : List Fault) (f : Fault) → IsIn ds f → IsIn (((a ++ ds) ++ b) ++ c) f
among a ds b c f h = in-front ((a ++ ds) ++ b) c f (in-front (a ++ ds) b f (in-back a ds f h))

broken-in : (rule : ℕ) (place : Place) (test : Bool) → (IsIn (broken rule place test) (fault rule place) → ⊥) → test ≡ false
broken-in rule place true h = absurd (h (0, refl))
broken-in rule place false h = refl

either-false : (a b : Bool) → (not a || b) ≡ false → a ≡ true
either-false true b e = refl
either-false false b e = sym e

-- the members of a class that are variables are among its variables
not-method : (fs : List MethodPart) (ms : List MemberPart) (j : ℕ) (v : VarPart) → slice_get (map method fs ++ ms) j ≡ Some (var v) → (i : ℕ) × (slice_get ms i ≡ Some (var v))
not-method [] ms j v e = (j, e)
not-method (f ∷ fs) ms zero v e = cc
not-method (f ∷ fs) ms (suc j) v e = not-method fs ms j v e

not-either : (fs : List FieldPart) (us : List MethodPart) (ms : List MemberPart) (j : ℕ) (v : VarPart) → slice_get ((map field fs ++ map method us) ++ ms) j ≡ Some (var v) → (i : ℕ) × (slice_get ms i ≡ Some (var v))
not-either [] us ms j v e = not-method us ms j v e
not-either (f ∷ fs) us ms zero v e = cc
not-either (f ∷ fs) us ms (suc j) v e = not-either fs us ms j v e

of-vars : (vs : List VarPart) (j : ℕ) (v : VarPart) → slice_get (map var vs) j ≡ Some (var v) → slice_get vs j ≡ Some v
of-vars [] zero v e = cc
of-vars [] (suc j) v e = cc
of-vars (w ∷ vs) zero v e = first w v e
  where
    first : (w v : VarPart) → Some (var w) ≡ Some (var v) → Some w ≡ Some v
    first w v e = cc
of-vars (w ∷ vs) (suc j) v e = of-vars vs j v e

var-in : (c : ClassPart) (x : List ℕ) (v : VarPart) → first_named x (members_of c) ≡ Some (var v) → IsIn c.vars v × (text_of v.name ≡ x)
var-in c x v e =
    let w = named-in x (members_of c) (var v) e in
    let b = not-either c.fields c.methods (map var c.vars) w.0 v w.1 in
    ((b.0, of-vars c.vars b.0 v b.1), named-so x (members_of c) (var v) e)

plus-none : (n : ℕ) → n ≡ n + 0
plus-none n = omega arith

none-plus : (n : ℕ) → 0 + n ≡ n
none-plus n = omega arith

plus-next : (n j : ℕ) → (n + 1) + j ≡ n + suc j
plus-next n j = omega arith

module _ (p : ProgramTree) where
  map-in : (n : ℕ) (vs : List VarPart) (v : VarPart) → IsIn vs v → IsIn (map (variable_in p n) vs) (variable_in p n v)
  map-in n [] v (zero, e) = cc
  map-in n [] v (suc i, e) = cc
  map-in n (w ∷ vs) v (zero, e) = (0, ap (λ (u : VarPart). Some (variable_in p n u)) (some-is w v e))
  map-in n (w ∷ vs) v (suc i, e) = let k = map-in n vs v (i, e) in (suc k.0, k.1)

  variables-in : (n : ℕ) (cs : List ClassPart) (j : ℕ) (c : ClassPart) (v : VarPart) → slice_get cs j ≡ Some c → IsIn c.vars v → IsIn (variables_from p n cs) (variable_in p (n + j) v)
  unfolding variables_from
  variables-in n [] zero c v e h = cc
  variables-in n [] (suc j) c v e h = cc
  variables-in n (d ∷ cs) zero c v e h =
      in-front (map (variable_in p n) d.vars) (variables_from p (n + 1) cs) (variable_in p (n + 0) v)
      (subst (λ (m : ℕ). IsIn (map (variable_in p n) d.vars) (variable_in p m v)) (plus-none n) (map-in n d.vars v (subst (λ (k : ClassPart). IsIn k.vars v) (sym (some-is d c e)) h)))
  variables-in n (d ∷ cs) (suc j) c v e h =
      in-back (map (variable_in p n) d.vars) (variables_from p (n + 1) cs) (variable_in p (n + suc j) v)
      (subst (λ (m : ℕ). IsIn (variables_from p (n + 1) cs) (variable_in p m v)) (plus-next n j) (variables-in (n + 1) cs j c v e h))

module _ (p : ProgramTree) (typed : (rule : ℕ) (place : Place) → Breaks p rule place → ⊥) where
  -- the faults of a class are faults of the program
  class-in : (n : ℕ) (cs : List ClassPart) (j : ℕ) (c : ClassPart) (f : Fault) → slice_get cs j ≡ Some c → IsIn (class_faults (declared_in p) p (n + j) c) f → IsIn (classes_faults (declared_in p) p n cs) f
  unfolding classes_faults
  class-in n [] zero c f e h = cc
  class-in n [] (suc j) c f e h = cc
  class-in n (d ∷ cs) zero c f e h =
      in-front (class_faults (declared_in p) p n d) (classes_faults (declared_in p) p (n + 1) cs) f
      (subst (λ (k : ClassPart). IsIn (class_faults (declared_in p) p n k) f) (sym (some-is d c e)) (subst (λ (m : ℕ). IsIn (class_faults (declared_in p) p m c) f) (sym (plus-none n)) h))
  class-in n (d ∷ cs) (suc j) c f e h = in-back (class_faults (declared_in p) p n d) (classes_faults (declared_in p) p (n + 1) cs) f (class-in (n + 1) cs j c f e (subst (λ (m : ℕ). IsIn (class_faults (declared_in p) p m c) f) (sym (plus-next n j)) h))

  -- the faults of a definition are faults of its class
  def-faults-in : (n : ℕ) (c : ClassPart) (d : DefPart) (f : Fault) → IsIn c.defs d → IsIn (rule_8 (declared_in p) n c d) f → IsIn (class_faults (declared_in p) p n c) f
  unfolding class_faults
  def-faults-in n c d f h k = among _ (flat_map (def_faults (declared_in p) n c) c.defs) _ _ f (in-all (def_faults (declared_in p) n c) c.defs d f h (in-front (rule_8 (declared_in p) n c d) _ f k))

  variable-of : (n : ℕ) (c : ClassPart) (d : DefPart) → slice_get p.classes n ≡ Some c → IsIn c.defs d → option_map_or (λ (x : StateEntry). x.is_variable && not x.is_ghost) ((declared_in p).state_of n (text_of d.name)) false ≡ true
  variable-of n c d e h =
      either-false (option_map_or (λ (x : StateEntry). x.is_variable && not x.is_ghost) ((declared_in p).state_of n (text_of d.name)) false) (used_before (map (λ (x : DefPart). x.name) c.defs) d.name)
      (broken-in 8 d.name.place _ (λ k. typed 8 d.name.place (contained (class-in 0 p.classes n c (fault 8 d.name.place) e (subst (λ (m : ℕ). IsIn (class_faults (declared_in p) p m c) (fault 8 d.name.place)) (sym (none-plus n)) (def-faults-in n c d (fault 8 d.name.place) h k))))))
    where
      contained : IsIn (faults_of p) (fault 8 d.name.place) → Breaks p 8 d.name.place
      contained w = get-contains (faults_of p) w.0 (fault 8 d.name.place) w.1

  a-variable : (n : ℕ) (c : ClassPart) (o : Option MemberPart) → option_map_or (λ (x : StateEntry). x.is_variable && not x.is_ghost) (state_from p c n o) false ≡ true → (v : VarPart) × (o ≡ Some (var v))
  a-variable n c None e = cc
  a-variable n c (Some (field f)) e = cc
  a-variable n c (Some (method m)) e = cc
  a-variable n c (Some (var v)) e = (v, refl)

  -- what has a definition is a variable of the text
  pub of-variables : (v : Variable) (d : DefPart) → def_of p v.class v.name ≡ Some d → (j : ℕ) × (slice_get (variables p) j ≡ Some v)
  of-variables v d e = by (slice_get p.classes v.class) refl e
    where
      by : (o : Option ClassPart) → slice_get p.classes v.class ≡ o → (o then λ class. def_in v.name class.defs) ≡ Some d → (j : ℕ) × (slice_get (variables p) j ≡ Some v)
      by None h q = absurd (none-some d q)
      by (Some c) h q =
          let w = def-in v.name c.defs d q in
          let s = variable-of v.class c d h w.0 in
          let t = (λ i. option_map_or (λ (x : StateEntry). x.is_variable && not x.is_ghost) (sym (ap (λ o. o then λ (class : ClassPart). state_from p class v.class (first_named (text_of d.name) (members_of class))) h) i) false) ∙ s in
          let u = a-variable v.class c (first_named (text_of d.name) (members_of c)) t in
          let k = var-in c (text_of d.name) u.0 u.1 in
          let r = variables-in p 0 p.classes v.class c u.0 h k.0 in
          (r.0, r.1 ∙ (λ i. Some (record { class = none-plus v.class i; name = (k.1 ∙ w.1) i })))
