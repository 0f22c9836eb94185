-- The first of a list of which something is so, as loops find it.
use Rattle.std.proofs.Common.{◌≡◌, refl, sym, ap, subst, ◌∙◌, ◌⊎◌, inl, inr, ℕ, zero, suc, ◌+◌, ◌<◌, ◌≤◌, List, [], ◌∷◌, ◌++◌, map, length, drop, get_or, slice_get, Option, Some, None, is_some, false, arith}
use Rattle.std.specs.List.{Contains}
use Rattle.std.specs.Option.{IfSome}
use Rattle.std.proofs.lemmas.List.{drop_all}
use Rattle.std.proofs.lemmas.Option.{slice_get_within}
use Rattle.jh_ast.specs.declared.program.Class.{Class}
use Rattle.jh_ast.specs.declared.program.SpecVar.{SpecVar}
use Rattle.jh_ast.specs.Bare.{class_part, var_part}
use Rattle.jh_symbols.proofs.scopes.Lists.{drop-at}
use Rattle.jh_containers.proofs.transitive_closure.Places.{before-or-at, item-get}
use Rattle.jh_ast.specs.Programs.{ProgramTree}
use Rattle.jh_definitions.specs.expansion.Opening.{source_of}
use Rattle.jh_vars.specs.States.{Variable}
use Rattle.jh_vars.specs.Reading.{IsFirst, variables_from, variable_in}
use Rattle.jh_definitions.specs.dependency_order.Defining.{IsOfNone, named, variables_in}

append-assoc : {X : Type 0} (xs ys zs : List X) → (xs ++ ys) ++ zs ≡ xs ++ (ys ++ zs)
append-assoc [] ys zs = refl
append-assoc (x ∷ xs) ys zs = ap (λ ws. x ∷ ws) (append-assoc xs ys zs)

some-is : {X : Type 0} (a b : X) → Some a ≡ Some b → a ≡ b
some-is a b e = cc

module _ {X : Type 0} (H : X → Type 0) where
  -- of none of the items of a front something is so
  cons-none : (z : X) (before : List X) → (H z → ⊥) → ((y : X) → Contains before y → H y → ⊥) → (y : X) → Contains (z ∷ before) y → H y → ⊥
  cons-none z before here rest y (zero, lt, e) f = here (subst H (sym e) f)
  cons-none z before here rest y (suc k, lt, e) f = rest y (k, omega arith, e) f

  none-in-empty : (y : X) → Contains [] y → H y → ⊥
  none-in-empty y (k, lt, e) f = omega arith

  pub first-at : (xs : List X) (k : ℕ) (x : X) → slice_get xs k ≡ Some x → H x → ((j : ℕ) (y : X) → j < k → slice_get xs j ≡ Some y → H y → ⊥) → IsFirst H xs x
  first-at [] zero x e h n = cc
  first-at [] (suc k) x e h n = cc
  first-at (z ∷ xs) zero x e h n = record { before = []; behind = xs; stands = ap (λ w. w ∷ xs) (some-is z x e); here = h; none_before = none-in-empty }
  first-at (z ∷ xs) (suc k) x e h n =
      let r = first-at xs k x e h (λ j y lt. n (suc j) y (omega arith)) in
      record { before = z ∷ r.before; behind = r.behind; stands = ap (λ ws. z ∷ ws) r.stands; here = r.here; none_before = cons-none z r.before (n 0 z (omega arith) refl) r.none_before }

  none-front : (front before : List X) → ((j : ℕ) (y : X) → slice_get front j ≡ Some y → H y → ⊥) → ((y : X) → Contains before y → H y → ⊥) → (y : X) → Contains (front ++ before) y → H y → ⊥
  none-front [] before n m = m
  none-front (z ∷ front) before n m = cons-none z (front ++ before) (n 0 z refl) (none-front front before (λ j y e. n (suc j) y e) m)

  -- the first of a part is the first of the whole where there is none before the part
  pub first-later : (front xs rest : List X) (x : X) → ((j : ℕ) (y : X) → slice_get front j ≡ Some y → H y → ⊥) → IsFirst H xs x → IsFirst H (front ++ (xs ++ rest)) x
  first-later front xs rest x n r = record {
    before = front ++ r.before;
    behind = r.behind ++ rest;
    stands = ap (λ ws. front ++ (ws ++ rest)) r.stands ∙ ap (λ ws. front ++ ws) (append-assoc r.before (x ∷ r.behind) rest) ∙ sym (append-assoc front r.before (x ∷ (r.behind ++ rest)));
    here = r.here;
    none_before = none-front front r.before n r.none_before;
  }

  pub none-both : (xs ys : List X) → ((j : ℕ) (y : X) → slice_get xs j ≡ Some y → H y → ⊥) → ((j : ℕ) (y : X) → slice_get ys j ≡ Some y → H y → ⊥) → (j : ℕ) (y : X) → slice_get (xs ++ ys) j ≡ Some y → H y → ⊥
  none-both [] ys n m j y e = m j y e
  none-both (x ∷ xs) ys n m zero y e = n zero y e
  none-both (x ∷ xs) ys n m (suc j) y e = none-both xs ys (λ i z. n (suc i) z) m j y e

-- the variables of a class by their places
pub variable-at : (c : ℕ) (vs : List SpecVar) (j : ℕ) (v : SpecVar) → slice_get vs j ≡ Some v → slice_get (variables_in c vs) j ≡ Some (named c v.name)
variable-at c [] zero v e = cc
variable-at c [] (suc j) v e = cc
variable-at c (w ∷ vs) zero v e = first w v e
  where
    first : (w v : SpecVar) → Some w ≡ Some v → Some (named c w.name) ≡ Some (named c v.name)
    first w v e = cc
variable-at c (w ∷ vs) (suc j) v e = variable-at c vs j v e

module _ (H : Variable → Type 0) (c : ℕ) (vs : List SpecVar) where
  abbrev pub NoneBelow : ℕ → Type 0
  NoneBelow k = (j : ℕ) (y : Variable) → j < k → slice_get (variables_in c vs) j ≡ Some y → H y → ⊥

  pub none-next : (k : ℕ) (v : SpecVar) → slice_get vs k ≡ Some v → (H (named c v.name) → ⊥) → NoneBelow k → NoneBelow (k + 1)
  none-next k v at absent below j y lt e = by (before-or-at j k lt)
    where
      by : (j < k) ⊎ (j ≡ k) → H y → ⊥
      by (inl l) = below j y l e
      by (inr s) = λ h. absent (subst H (sym (some-is (named c v.name) y (sym (variable-at c vs k v at) ∙ ap (slice_get (variables_in c vs)) (sym s) ∙ e))) h)

  pub none-all : (k : ℕ) → length vs ≤ k → NoneBelow k → IsOfNone H (variables_in c vs)
  none-all k le below j y e = below j y (inside (slice_get_within (variables_in c vs) j y e)) e
    where
      long : (us : List SpecVar) → length (variables_in c us) ≡ length us
      long [] = refl
      long (u ∷ us) = ap suc (long us)

      inside : j < length (variables_in c vs) → j < k
      inside lt = let short : j < length vs = subst (λ (n : ℕ). j < n) (long vs) lt in omega arith

-- the variables of a class among those of a program
module _ (p : ProgramTree) where
  same-variables : (n : ℕ) (vs : List SpecVar) → map (variable_in p n) (map var_part vs) ≡ variables_in n vs
  same-variables n [] = refl
  same-variables n (v ∷ vs) = ap (λ ws. named n v.name ∷ ws) (same-variables n vs)

  of-class : (n : ℕ) (c : Class) → map (variable_in p n) (class_part c).vars ≡ variables_in n c.vars
  unfolding class_part
  of-class n c = same-variables n c.vars

  pub variables-next : (n : ℕ) (c : Class) (cs : List Class) → variables_from p n (map class_part (c ∷ cs)) ≡ variables_in n c.vars ++ variables_from p (n + 1) (map class_part cs)
  unfolding variables_from
  variables-next n c cs = ap (λ vs. vs ++ variables_from p (n + 1) (map class_part cs)) (of-class n c)

append-none : {X : Type 0} (xs : List X) → xs ++ [] ≡ xs
append-none [] = refl
append-none (x ∷ xs) = ap (λ ys. x ∷ ys) (append-none xs)

module _ (H : Variable → Type 0) (cs : List Class) where
  -- the variables of the first classes, of none of which something is so, and the others
  pub record Searched (n : ℕ) : Type 0 where
    pub front : List Variable
    pub stands : variables_from (source_of cs) 0 (map class_part cs) ≡ front ++ variables_from (source_of cs) n (map class_part (drop n cs))
    pub none : IsOfNone H front

  pub searched-start : Searched 0
  searched-start = record { front = []; stands = refl; none = λ j y e. no j y e }
    where
      no : (j : ℕ) (y : Variable) → slice_get [] j ≡ Some y → H y → ⊥
      no zero y e = cc
      no (suc j) y e = cc

  split : (n : ℕ) (c : Class) → n < length cs → c ≡ get_or cs n c → variables_from (source_of cs) n (map class_part (drop n cs)) ≡ variables_in n c.vars ++ variables_from (source_of cs) (n + 1) (map class_part (drop (n + 1) cs))
  split n c lt e = ap (λ ds. variables_from (source_of cs) n (map class_part ds)) (drop-at cs n c lt e) ∙ variables-next (source_of cs) n c (drop (n + 1) cs)

  pub searched-next : (n : ℕ) (c : Class) → n < length cs → c ≡ get_or cs n c → Searched n → IsOfNone H (variables_in n c.vars) → Searched (n + 1)
  searched-next n c lt e s m = record {
    front = s.front ++ variables_in n c.vars;
    stands = s.stands ∙ ap (λ vs. s.front ++ vs) (split n c lt e) ∙ sym (append-assoc s.front (variables_in n c.vars) (variables_from (source_of cs) (n + 1) (map class_part (drop (n + 1) cs))));
    none = none-both H s.front (variables_in n c.vars) s.none m;
  }

  pub searched-found : (n : ℕ) (c : Class) (x : Variable) → n < length cs → c ≡ get_or cs n c → Searched n → IsFirst H (variables_in n c.vars) x → IsFirst H (variables_from (source_of cs) 0 (map class_part cs)) x
  searched-found n c x lt e s f =
      subst (λ (vs : List Variable). IsFirst H vs x) (sym (s.stands ∙ ap (λ vs. s.front ++ vs) (split n c lt e))) (first-later H s.front (variables_in n c.vars) (variables_from (source_of cs) (n + 1) (map class_part (drop (n + 1) cs))) x s.none f)

  pub searched-all : (n : ℕ) → length cs ≤ n → Searched n → IsOfNone H (variables_from (source_of cs) 0 (map class_part cs))
  unfolding variables_from
  searched-all n le s = subst (λ (vs : List Variable). IsOfNone H vs) (sym (s.stands ∙ ap (λ ds. s.front ++ variables_from (source_of cs) n (map class_part ds)) (drop_all n cs le) ∙ append-none s.front)) s.none

-- an item of a list, whatever stands in where there is none
pub same-item : {X : Type 0} (xs : List X) (i : ℕ) (a b : X) → i < length xs → get_or xs i a ≡ get_or xs i b
same-item xs i a b lt = some-is (get_or xs i a) (get_or xs i b) (sym (item-get xs i a lt) ∙ item-get xs i b lt)

pub none-of : {X : Type 0} (o : Option X) → is_some o ≡ false → o ≡ None
none-of None e = refl
none-of (Some x) e = cc

pub of-some : {X : Type 0} (P : X → Type 0) (o : Option X) (x : X) → o ≡ Some x → IfSome o P → P x
of-some P None x e h = cc
of-some P (Some y) x e h = subst P (some-is y x e) h
