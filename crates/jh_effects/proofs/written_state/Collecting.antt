-- Methods collected one after another.
use Rattle.std.proofs.Common.{◌≡◌, refl, sym, ap, subst, ◌∙◌, ◌⊎◌, inl, inr, ℕ, zero, suc, ◌+◌, ◌<◌, ◌≤◌, Bool, true, false, if◌then◌else◌, List, [], ◌∷◌, ◌++◌, map, length, take, slice_get, Some, None, arith}
use Rattle.std.proofs.lemmas.List.{take_all}
use Rattle.jh_ast.specs.declared.program.Class.{Class}
use Rattle.jh_ast.specs.declared.program.Method.{Method}
use Rattle.jh_ast.specs.declared.program.Program.{Program}
use Rattle.jh_ast.specs.Bare.{class_part, method_part, program_tree}
use Rattle.jh_ast.specs.Programs.{ProgramTree, ClassPart, MethodPart}
use Rattle.jh_rules.specs.Names.{◌then◌}
use Rattle.jh_rules.specs.Words.{same_text, text_of}
use Rattle.jh_symbols.specs.declared.member_numbers.numbers.Numbers.{Numbers}
use Rattle.jh_symbols.specs.member_numbers.Numbering.{number_in}
use Rattle.jh_symbols.proofs.member_numbers.Puttings.{text-same, text-is}
use Rattle.jh_containers.proofs.transitive_closure.Places.{before-or-at}
use Rattle.jh_vars.specs.Written.{method_in, part_of}
use Rattle.jh_effects.specs.declared.written_state.methods.Listed.{Listed}
use Rattle.jh_effects.specs.written_state.Methods.{callee, callee_of, AreMethods, AreNumbered, AreAll}

some-is : {X : Type 0} (a b : X) → Some a ≡ Some b → a ≡ b
some-is a b e = cc

push-keeps : {X : Type 0} (xs : List X) (x : X) (i : ℕ) (r : X) → slice_get xs i ≡ Some r → slice_get (xs ++ x ∷ []) i ≡ Some r
push-keeps [] x zero r e = cc
push-keeps [] x (suc i) r e = cc
push-keeps (y ∷ xs) x zero r e = e
push-keeps (y ∷ xs) x (suc i) r e = push-keeps xs x i r e

push-last : {X : Type 0} (xs : List X) (x : X) → slice_get (xs ++ x ∷ []) (length xs) ≡ Some x
push-last [] x = refl
push-last (y ∷ xs) x = push-last xs x

push-cases : {X : Type 0} (xs : List X) (x : X) (i : ℕ) (r : X) → slice_get (xs ++ x ∷ []) i ≡ Some r → (slice_get xs i ≡ Some r) ⊎ (r ≡ x)
push-cases [] x zero r e = inr (sym (some-is x r e))
push-cases [] x (suc i) r e = cc
push-cases (y ∷ xs) x zero r e = inl e
push-cases (y ∷ xs) x (suc i) r e = push-cases xs x i r e

-- one more method, whose name had none
module _ (old new : Numbers) (ls ms : List Listed) (c : ℕ) (t : List ℕ) (l : Listed) (at : ms ≡ ls ++ l ∷ []) (noted : number_in new c t ≡ Some (length ls)) (others : (e : ℕ) (y : List ℕ) → ((e ≡ c) × (y ≡ t)) ⊎ (number_in new e y ≡ number_in old e y)) (is : callee_of l ≡ callee c t) where
  here : slice_get ms (length ls) ≡ Some l
  here = ap (λ xs. slice_get xs (length ls)) at ∙ push-last ls l

  pub numbered-push : AreNumbered old ls → AreNumbered new ms
  numbered-push n e y k q = by (others e y)
    where
      by : ((e ≡ c) × (y ≡ t)) ⊎ (number_in new e y ≡ number_in old e y) → (f : Listed) × (slice_get ms k ≡ Some f) × (callee_of f ≡ callee e y)
      by (inl s) =
          let same : length ls ≡ k = some-is (length ls) k (sym noted ∙ (λ i. number_in new (sym s.0 i) (sym s.1 i)) ∙ q) in
          (l, subst (λ (j : ℕ). slice_get ms j ≡ Some l) same here, is ∙ (λ i. callee (sym s.0 i) (sym s.1 i)))
      by (inr s) = let w = n e y k (sym s ∙ q) in (w.0, ap (λ xs. slice_get xs k) at ∙ push-keeps ls l k w.0 w.1, w.2)

pub methods-push : (p : ProgramTree) (ls ms : List Listed) (l : Listed) → ms ≡ ls ++ l ∷ [] → part_of p (callee_of l) ≡ Some (method_part l.method.now) → AreMethods p ls → AreMethods p ms
methods-push p ls ms l at is all k f q = by (push-cases ls l k f (ap (λ xs. slice_get xs k) (sym at) ∙ q))
  where
    by : (slice_get ls k ≡ Some f) ⊎ (f ≡ l) → part_of p (callee_of f) ≡ Some (method_part f.method.now)
    by (inl g) = all k f g
    by (inr s) = subst (λ (x : Listed). part_of p (callee_of x) ≡ Some (method_part x.method.now)) (sym s) is

-- the name of a method as a part of the source
named : (m : Method) → text_of (method_part m).name ≡ text_of m.name
unfolding method_part
named m = refl

-- the first method of a name is the one that has none before
found-first : (x : List ℕ) (m : MethodPart) (ms : List MethodPart) (b : Bool) → (if b then Some m else method_in x ms) ≡ None → (b ≡ false) × (method_in x ms ≡ None)
found-first x m ms true e = cc
found-first x m ms false e = (refl, e)

pub method-fresh : (methods : List Method) (i : ℕ) (m : Method) → slice_get methods i ≡ Some m → method_in (text_of m.name) (map method_part (take i methods)) ≡ None → method_in (text_of m.name) (map method_part methods) ≡ Some (method_part m)
unfolding method_in
method-fresh [] zero m e h = cc
method-fresh [] (suc i) m e h = cc
method-fresh (d ∷ ds) zero m e h =
    let same : d ≡ m = some-is d m e in
    ap (λ (b : Bool). if b then Some (method_part d) else method_in (text_of m.name) (map method_part ds)) ((λ i. same_text (named (same i) i) (text_of m.name)) ∙ text-same (text_of m.name)) ∙ ap (λ (x : Method). Some (method_part x)) same
method-fresh (d ∷ ds) (suc i) m e h =
    let k = found-first (text_of m.name) (method_part d) (map method_part (take i ds)) (same_text (text_of (method_part d).name) (text_of m.name)) h in
    ap (λ (b : Bool). if b then Some (method_part d) else method_in (text_of m.name) (map method_part ds)) k.0 ∙ method-fresh ds i m e k.1

other-text : (x y : List ℕ) (b : Bool) → same_text x y ≡ b → (y ≡ x → ⊥) → b ≡ false
other-text x y true e h = absurd (h (sym (text-is x y e)))
other-text x y false e h = refl

take-more : (x : List ℕ) (methods : List Method) (i : ℕ) (m : Method) → slice_get methods i ≡ Some m → (x ≡ text_of m.name → ⊥) → method_in x (map method_part (take i methods)) ≡ None → method_in x (map method_part (take (suc i) methods)) ≡ None
unfolding method_in
take-more x [] zero m e apart h = cc
take-more x [] (suc i) m e apart h = cc
take-more x (d ∷ ds) zero m e apart h =
    ap (λ (b : Bool). if b then Some (method_part d) else None) (other-text (text_of (method_part d).name) x (same_text (text_of (method_part d).name) x) refl (λ s. apart (s ∙ named d ∙ ap (λ (v : Method). text_of v.name) (some-is d m e))))
take-more x (d ∷ ds) (suc i) m e apart h =
    let k = found-first x (method_part d) (map method_part (take i ds)) (same_text (text_of (method_part d).name) x) h in
    ap (λ (b : Bool). if b then Some (method_part d) else method_in x (map method_part (take (suc i) ds))) k.0 ∙ take-more x ds i m e apart k.1

pub take-next : (x : List ℕ) (methods : List Method) (i : ℕ) (m : Method) → slice_get methods i ≡ Some m → (x ≡ text_of m.name → ⊥) → method_in x (map method_part (take i methods)) ≡ None → method_in x (map method_part (take (i + 1) methods)) ≡ None
take-next x methods i m e apart h =
    let next : i + 1 ≡ suc i = omega arith in
    ap (λ (n : ℕ). method_in x (map method_part (take n methods))) next ∙ take-more x methods i m e apart h

pub take-none : (x : List ℕ) (methods : List Method) → method_in x (map method_part (take 0 methods)) ≡ None
unfolding method_in
take-none x [] = refl
take-none x (d ∷ ds) = refl

-- what has no number among those noted has no method among those gone through
module _ (old new : Numbers) (class : ℕ) (methods : List Method) (i : ℕ) (m : Method) (at : slice_get methods i ≡ Some m) (noted : number_in new class (text_of m.name) ≡ None → ⊥) (others : (c : ℕ) (x : List ℕ) → ((c ≡ class) × (x ≡ text_of m.name)) ⊎ (number_in new c x ≡ number_in old c x)) where
  pub all-next : ((x : List ℕ) → number_in old class x ≡ None → method_in x (map method_part (take i methods)) ≡ None) → (x : List ℕ) → number_in new class x ≡ None → method_in x (map method_part (take (i + 1) methods)) ≡ None
  all-next all x none = by (others class x)
    where
      other : x ≡ text_of m.name → ⊥
      other e = noted (subst (λ (y : List ℕ). number_in new class y ≡ None) e none)

      by : ((class ≡ class) × (x ≡ text_of m.name)) ⊎ (number_in new class x ≡ number_in old class x) → method_in x (map method_part (take (i + 1) methods)) ≡ None
      by (inl s) = absurd (other s.1)
      by (inr s) = take-next x methods i m at other (all x (sym s ∙ none))

-- the methods of a class are those of its part of the source
classes-get : (cs : List Class) (n : ℕ) (c : Class) → slice_get cs n ≡ Some c → slice_get (map class_part cs) n ≡ Some (class_part c)
classes-get [] zero c e = cc
classes-get [] (suc n) c e = cc
classes-get (d ∷ cs) zero c e = ap (λ (x : Class). Some (class_part x)) (some-is d c e)
classes-get (d ∷ cs) (suc n) c e = classes-get cs n c e

pub part-of-class : (p : Program) (n : ℕ) (c : Class) → slice_get p.classes n ≡ Some c → (x : List ℕ) → part_of (program_tree p) (callee n x) ≡ method_in x (map method_part c.methods)
unfolding class_part program_tree
part-of-class p n c e x = ap (λ o. o then λ (k : ClassPart). method_in x k.methods) (classes-get p.classes n c e)

-- one more class has been gone through
module _ (p : Program) (old new : Numbers) (n : ℕ) (c : Class) (at : slice_get p.classes n ≡ Some c) (all : (x : List ℕ) → number_in new n x ≡ None → method_in x (map method_part c.methods) ≡ None) (others : (e : ℕ) (x : List ℕ) → (e ≡ n) ⊎ (number_in new e x ≡ number_in old e x)) where
  abbrev pub AllBelow : Numbers → ℕ → Type 0
  AllBelow m k = (e : ℕ) (x : List ℕ) → e < k → number_in m e x ≡ None → part_of (program_tree p) (callee e x) ≡ None

  pub all-below : AllBelow old n → AllBelow new (n + 1)
  all-below below e x lt none = by (before-or-at e n lt) (others e x)
    where
      here : e ≡ n → part_of (program_tree p) (callee e x) ≡ None
      here s = subst (λ (k : ℕ). part_of (program_tree p) (callee k x) ≡ None) (sym s) (part-of-class p n c at x ∙ all x (subst (λ (k : ℕ). number_in new k x ≡ None) s none))

      by : (e < n) ⊎ (e ≡ n) → (e ≡ n) ⊎ (number_in new e x ≡ number_in old e x) → part_of (program_tree p) (callee e x) ≡ None
      by (inr s) w = here s
      by (inl l) (inl s) = here s
      by (inl l) (inr s) = below e x l (sym s ∙ none)

none-past : (cs : List Class) (n : ℕ) → length cs ≤ n → slice_get (map class_part cs) n ≡ None
none-past [] zero le = refl
none-past [] (suc n) le = refl
none-past (c ∷ cs) zero le = absurd (omega arith)
none-past (c ∷ cs) (suc n) le = none-past cs n (omega arith)

less-or : (a b : ℕ) → (a < b) ⊎ (b ≤ a)
less-or zero zero = inr (omega arith)
less-or zero (suc b) = inl (omega arith)
less-or (suc a) zero = inr (omega arith)
less-or (suc a) (suc b) = next (less-or a b)
  where
    next : (a < b) ⊎ (b ≤ a) → (suc a < suc b) ⊎ (suc b ≤ suc a)
    next (inl l) = inl (omega arith)
    next (inr l) = inr (omega arith)

part-past : (p : Program) (e : ℕ) (x : List ℕ) → length p.classes ≤ e → part_of (program_tree p) (callee e x) ≡ None
unfolding program_tree
part-past p e x le = ap (λ o. o then λ (k : ClassPart). method_in x k.methods) (none-past p.classes e le)

pub all-end : (p : Program) (m : Numbers) (n : ℕ) → length p.classes ≤ n → ((e : ℕ) (x : List ℕ) → e < n → number_in m e x ≡ None → part_of (program_tree p) (callee e x) ≡ None) → AreAll (program_tree p) m
all-end p m n le below e x none = by (less-or e n)
  where
    by : (e < n) ⊎ (n ≤ e) → part_of (program_tree p) (callee e x) ≡ None
    by (inl l) = below e x l none
    by (inr l) = part-past p e x (omega arith)

pub take-end : (x : List ℕ) (methods : List Method) (i : ℕ) → length methods ≤ i → method_in x (map method_part (take i methods)) ≡ None → method_in x (map method_part methods) ≡ None
take-end x methods i le h = ap (λ ds. method_in x (map method_part ds)) (sym (take_all i methods le)) ∙ h

pub both-others : (first old new : Numbers) (class c : ℕ) (t x : List ℕ) → ((c ≡ class) × (x ≡ t)) ⊎ (number_in new c x ≡ number_in old c x) → (c ≡ class) ⊎ (number_in old c x ≡ number_in first c x) → (c ≡ class) ⊎ (number_in new c x ≡ number_in first c x)
both-others first old new class c t x (inl s) h = inl s.0
both-others first old new class c t x (inr s) (inl e) = inl e
both-others first old new class c t x (inr s) (inr e) = inr (s ∙ e)
