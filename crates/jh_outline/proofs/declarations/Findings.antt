-- The methods of a program, as they are gathered and found.
use Rattle.std.proofs.Common.{◌≡◌, refl, sym, ap, ◌∙◌, ℕ, zero, suc, ◌+◌, ◌<◌, ◌≤◌, ◌&&◌, nat_eq, if◌then◌else◌, Bool, true, false, List, [], ◌∷◌, ◌++◌, map, length, drop, get_or, slice_get, Option, Some, None, option_map, add-one, drop-cons, arith}
use Rattle.std.specs.Option.{option_map_or}
use Rattle.std.proofs.lemmas.List.{drop_all}
use Rattle.std.proofs.lemmas.Bool.Decides.{nat_tests}
use Rattle.jh_ast.specs.declared.program.Class.{Class}
use Rattle.jh_ast.specs.Bare.{class_part, method_part}
use Rattle.jh_ast.specs.Programs.{ProgramTree, ClassPart, MethodPart}
use Rattle.jh_rules.specs.Names.{◌then◌}
use Rattle.jh_rules.specs.Words.{same_text, text_of}
use Rattle.jh_vars.specs.Written.{Callee, method_in}
use Rattle.jh_semantics.specs.LoweredProgram as lowered
use Rattle.jh_outline.specs.declarations.Methods.{Known, found, known_of, methods_from, methods_of}

nothing : {X : Type 0} (xs : List X) → xs ++ [] ≡ xs
nothing [] = refl
nothing (x ∷ xs) = ap (λ ys. x ∷ ys) (nothing xs)

regroup : {X : Type 0} (xs ys zs : List X) → (xs ++ ys) ++ zs ≡ xs ++ (ys ++ zs)
regroup [] ys zs = refl
regroup (x ∷ xs) ys zs = ap (λ us. x ∷ us) (regroup xs ys zs)

nat-apart : (a b : ℕ) (t : Bool) → nat_eq a b ≡ t → (a ≡ b → ⊥) → nat_eq a b ≡ false
nat-apart a b true e h = absurd (h (grind (arith, nat_tests)))
nat-apart a b false e h = e

nat-same : (a : ℕ) (t : Bool) → nat_eq a a ≡ t → nat_eq a a ≡ true
nat-same a true e = e
nat-same a false e = absurd (grind (arith, nat_tests))

or-none : {X : Type 0} (o : Option X) → option_map_or (λ x. Some x) o None ≡ o
or-none None = refl
or-none (Some x) = refl

module _ (p : ProgramTree) (m : Callee) where
  found-append : (xs ys : List Known) → found m (xs ++ ys) ≡ option_map_or (λ x. Some x) (found m xs) (found m ys)
  found-append [] ys = refl
  found-append (x ∷ xs) ys = by (nat_eq x.class m.class && same_text x.name m.name) (found-append xs ys)
    where
      by : (t : Bool) → found m (xs ++ ys) ≡ option_map_or (λ x. Some x) (found m xs) (found m ys) → (if t then Some x.method else found m (xs ++ ys)) ≡ option_map_or (λ x. Some x) (if t then Some x.method else found m xs) (found m ys)
      by true r = refl
      by false r = r

  none-of : (n : ℕ) (ms : List MethodPart) → nat_eq n m.class ≡ false → found m (map (known_of p n) ms) ≡ None
  none-of n [] h = refl
  none-of n (x ∷ ms) h = ap (λ b. if b && same_text (text_of x.name) m.name then Some (lowered.method_code p n x) else found m (map (known_of p n) ms)) h ∙ none-of n ms h

  own : (ms : List MethodPart) → found m (map (known_of p m.class) ms) ≡ option_map (lowered.method_code p m.class) (method_in m.name ms)
  unfolding method_in
  own [] = refl
  own (x ∷ ms) =
      ap (λ b. if b && same_text (text_of x.name) m.name then Some (lowered.method_code p m.class x) else found m (map (known_of p m.class) ms)) (nat-same m.class (nat_eq m.class m.class) refl)
      ∙ by-own x ms (same_text (text_of x.name) m.name) (own ms)
    where
      by-own : (x : MethodPart) (ms : List MethodPart) (t : Bool) → found m (map (known_of p m.class) ms) ≡ option_map (lowered.method_code p m.class) (method_in m.name ms) →
          (if t then Some (lowered.method_code p m.class x) else found m (map (known_of p m.class) ms)) ≡ option_map (lowered.method_code p m.class) (if t then Some x else method_in m.name ms)
      by-own x ms true h = refl
      by-own x ms false h = h

  below : (n : ℕ) (cs : List ClassPart) → m.class < n → found m (methods_from p n cs) ≡ None
  unfolding methods_from
  below n [] lt = refl
  below n (c ∷ cs) lt =
      found-append (map (known_of p n) c.methods) (methods_from p (n + 1) cs)
      ∙ (λ i. option_map_or (λ x. Some x) (none-of n c.methods (nat-apart n m.class (nat_eq n m.class) refl (λ e. omega arith)) i) (below (n + 1) cs (omega arith) i))

  at-class : (n k : ℕ) (cs : List ClassPart) → m.class ≡ n + k → found m (methods_from p n cs) ≡ option_map (lowered.method_code p m.class) (slice_get cs k then λ (c : ClassPart). method_in m.name c.methods)
  unfolding methods_from
  at-class n k [] e = refl
  at-class n zero (c ∷ cs) e =
      let same : m.class ≡ n = omega arith in
      found-append (map (known_of p n) c.methods) (methods_from p (n + 1) cs)
      ∙ (λ i. option_map_or (λ x. Some x) ((ap (λ j. found m (map (known_of p j) c.methods)) (sym same) ∙ own c.methods) i) (below (n + 1) cs (omega arith) i))
      ∙ or-none (option_map (lowered.method_code p m.class) (method_in m.name c.methods))
  at-class n (suc k) (c ∷ cs) e =
      found-append (map (known_of p n) c.methods) (methods_from p (n + 1) cs)
      ∙ (λ i. option_map_or (λ x. Some x) (none-of n c.methods (nat-apart n m.class (nat_eq n m.class) refl (λ h. omega arith)) i) (at-class (n + 1) k cs (omega arith) i))

  -- the method that is found in the list is that of the program
  pub found-is : found m (methods_of p) ≡ (lowered.program_of p).method m
  found-is = at-class 0 m.class p.classes (omega arith)

module _ (p : ProgramTree) (cs : List Class) (n : ℕ) (made whole : List Known) where
  pub methods-step : (more : List Known) (c : Class) → n < length cs → c ≡ get_or cs n c → more ≡ made ++ map (known_of p n) (map method_part c.methods) →
      made ++ methods_from p n (map class_part (drop n cs)) ≡ whole → more ++ methods_from p (n + 1) (map class_part (drop (n + 1) cs)) ≡ whole
  unfolding methods_from class_part
  methods-step more c lt is e h =
      let split : drop n cs ≡ c ∷ drop (suc n) cs = drop-cons cs n c lt ∙ ap (λ v. v ∷ drop (suc n) cs) (sym is) in
      ap (λ us. us ++ methods_from p (n + 1) (map class_part (drop (n + 1) cs))) e
      ∙ regroup made (map (known_of p n) (map method_part c.methods)) (methods_from p (n + 1) (map class_part (drop (n + 1) cs)))
      ∙ (λ i. made ++ (map (known_of p n) (map method_part c.methods) ++ methods_from p (n + 1) (map class_part (drop (add-one n i) cs))))
      ∙ (sym (ap (λ us. made ++ methods_from p n (map class_part us)) split)
      ∙ h)

  pub methods-end : length cs ≤ n → made ++ methods_from p n (map class_part (drop n cs)) ≡ whole → made ≡ whole
  unfolding methods_from
  methods-end le h = sym (nothing made) ∙ sym (ap (λ us. made ++ methods_from p n (map class_part us)) (drop_all n cs le)) ∙ h
