-- Two flags p and q, and the instances p | q, p | ~ q, ~ p | q and ~ p | ~ q, which have no ground model: what literals do to
-- them, and a budget of one branch that is spent on them.
use Rattle.std.proofs.Common.{◌≡◌, ◌⊎◌, refl, sym, ap, ◌∙◌, subst, ℕ, suc, ◌+◌, ℤ, pos, negsuc, arith, Bool, true, false, List, [], ◌∷◌, ◌++◌, inl, inr, length}
use Rattle.std.proofs.lemmas.Bool.{true≢false}
use Rattle.jh_name.specs.declared.naming.Name.{Name}
use Rattle.jh_form.specs.Tree.{TermTree, FormulaTree}
use Rattle.jh_form.specs.Tree as t
use Rattle.jh_closure.specs.structures.Structures.{Structure}
use Rattle.jh_closure.specs.structures.Literals.{LiteralTree, IsListed}
use Rattle.jh_models.specs.ground_models.Atoms.{literal, opposite, IsGroundAtom, is_equality}
use Rattle.jh_models.specs.ground_models.Truths.{IsFalse, IsTrue, SomeFalse}
use Rattle.jh_models.specs.ground_models.Clashes.{Clash, Follows, Propagated, AllPropagated, given, forced, equal, other, none, more, IsOpen}
use Rattle.jh_models.specs.ground_models.Explanations.{ClosesBranch, IsLeft}
use Rattle.jh_models.specs.ground_models.Explanations as explain
use Rattle.jh_models.specs.ground_models.Branches.{ClosedTree, Goes}
use Rattle.jh_models.specs.ground_models.Budget.{IsSpent}

abbrev named : ℕ → Name
named k = record { text = []; turn = k }

abbrev p : FormulaTree
p = t.free_truth (named 1)

abbrev q : FormulaTree
q = t.free_truth (named 2)

abbrev yes : FormulaTree → LiteralTree
yes a = literal a true

abbrev no : FormulaTree → LiteralTree
no a = literal a false

abbrev four : List FormulaTree
four = t.or p q ∷ t.or p (t.negation q) ∷ t.or (t.negation p) q ∷ t.or (t.negation p) (t.negation q) ∷ []

-- p decides p | q, and with what is unknown of q not ~ p | q; ~ p and ~ q make p | q false
decided : IsTrue (yes p ∷ []) (t.or p q)
decided = inl (inl refl)

both-false : IsFalse (no p ∷ no q ∷ []) (t.or p q)
both-false = (inl refl, inr (inl refl))

-- with p, ~ p | q forces q; both clash
q-forced : Propagated four (yes p ∷ []) (yes q)
q-forced = forced (yes p ∷ []) (yes q) (more (yes p) [] (given (yes p) (inl refl)) none) (inr (inl refl)) (inr (inr (inl (inr (inl refl), inl refl))))

both-clash : Clash four (yes p ∷ yes q ∷ [])
both-clash = inr (inr (inr (inr (inl (inl refl, inr (inl refl))))))

-- an equality of ground atoms that follows is added, an inequality isn't
abbrev object : ℕ → TermTree
object k = t.free_object (named k)

abbrev equal_objects : ℕ → ℕ → FormulaTree
equal_objects j k = t.eq_object (object j) (object k)

chained : Propagated (equal_objects 1 3 ∷ []) (yes (equal_objects 1 2) ∷ yes (equal_objects 2 3) ∷ []) (yes (equal_objects 1 3))
chained = equal
    (yes (equal_objects 1 2) ∷ yes (equal_objects 2 3) ∷ []) (equal_objects 1 3)
    (more (yes (equal_objects 1 2)) (yes (equal_objects 2 3) ∷ []) (given (yes (equal_objects 1 2)) (inl refl)) (more (yes (equal_objects 2 3)) [] (given (yes (equal_objects 2 3)) (inr (inl refl))) none))
    (inl refl) refl (λ s met. met.0 ∙ met.1.0)

-- A structure in which each flag has the same truth, and integers their places in 0, -1, 1, -2, 2 ..
abbrev place : ℤ → ℕ
place (pos n) = n + n
place (negsuc n) = suc (n + n)

places-differ : (y z : ℤ) → place y ≡ place z → y ≡ z
places-differ (pos m) (pos n) e = let same : m ≡ n = omega (arith, e) in ap pos same
places-differ (pos m) (negsuc n) e = absurd (omega (arith, e))
places-differ (negsuc m) (pos n) e = absurd (omega (arith, e))
places-differ (negsuc m) (negsuc n) e = let same : m ≡ n = omega (arith, e) in ap negsuc same

truths-apart : ◌≡◌ {A = ℕ} 1 0 → ⊥
truths-apart e = omega (arith, e)

abbrev flags : ℕ → Structure ℕ ℕ ℕ ℕ ℕ
flags v = record {
  bound = λ k. 0;
  free_object = λ x. 0;
  null = 0;
  read_object = λ g x. 0;
  const = place;
  free_number = λ x. 0;
  read_number = λ g x. 0;
  add = λ y z. 0;
  sub = λ y z. 0;
  neg = λ z. 0;
  scale = λ y z. 0;
  card = λ g. 0;
  free_set = λ x. 0;
  read_set = λ g x. 0;
  empty = 0;
  univ = 0;
  single = λ x. 0;
  union = λ g h. 0;
  inter = λ g h. 0;
  diff = λ g h. 0;
  compl = λ g. 0;
  compr = λ g. 0;
  free_field = λ x. 0;
  update = λ g x w. 0;
  true_value = 1;
  false_value = 0;
  free_truth = λ x. v;
  read_truth = λ g x. 0;
  negation = λ g. 0;
  and = λ g h. 0;
  or = λ g h. 0;
  implies = λ g h. 0;
  iff = λ g h. 0;
  all = λ g. 0;
  ex = λ g. 0;
  eq_object = λ x y. 0;
  eq_number = λ x y. 0;
  eq_set = λ x y. 0;
  less = λ x y. 0;
  less_equal = λ x y. 0;
  divides = λ x y. 0;
  member = λ x y. 0;
  subset = λ x y. 0;
  reach = λ gs x y. 0;
  tree = λ gs. 0;
  constants_differ = places-differ;
  truths_differ = truths-apart;
}

-- p and q are two atoms
abbrev turn_of : FormulaTree → ℕ
turn_of (t.free_truth x) = x.turn
turn_of _ = 0

p-or-q : (j k : ℕ) (v w : Bool) → literal (t.free_truth (named j)) v ≡ literal (t.free_truth (named k)) w → j ≡ k
p-or-q j k v w e = ap (λ z. turn_of z.atom) e

only : (l k : LiteralTree) → IsListed (l ∷ []) k → l ≡ k
only l k (inl e) = e
only l k (inr h) = absurd h

-- no literal alone makes one of the four false
one-not-both : (l : LiteralTree) (v w : Bool) → IsListed (l ∷ []) (literal p v) → IsListed (l ∷ []) (literal q w) → ⊥
one-not-both l v w h k = let same : ◌≡◌ {A = ℕ} 1 2 = p-or-q 1 2 v w (sym (only l (literal p v) h) ∙ only l (literal q w) k) in omega (arith, same)

none-by-one : (l : LiteralTree) → SomeFalse four (l ∷ []) → ⊥
none-by-one l (inl h) = one-not-both l false false h.0 h.1
none-by-one l (inr (inl h)) = one-not-both l false true h.0 h.1
none-by-one l (inr (inr (inl h))) = one-not-both l true false h.0 h.1
none-by-one l (inr (inr (inr (inl h)))) = one-not-both l true true h.0 h.1
none-by-one l (inr (inr (inr (inr h)))) = absurd h

none-by-none : SomeFalse four [] → ⊥
none-by-none (inl h) = absurd h.0
none-by-none (inr (inl h)) = absurd h.0
none-by-none (inr (inr (inl h))) = absurd h.0
none-by-none (inr (inr (inr (inl h)))) = absurd h.0
none-by-none (inr (inr (inr (inr h)))) = absurd h

-- each ground atom is a flag
abbrev IsFlag : FormulaTree → Type 0
IsFlag a = (x : Name) × (t.free_truth x ≡ a)

flag : (a : FormulaTree) → IsGroundAtom four a → IsFlag a
flag a (inl e) = (named 1, e)
flag a (inr (inl e)) = (named 2, e)
flag a (inr (inr (inl e))) = (named 1, e)
flag a (inr (inr (inr (inl e)))) = (named 2, e)
flag a (inr (inr (inr (inr (inl e))))) = (named 1, e)
flag a (inr (inr (inr (inr (inr (inl e)))))) = (named 2, e)
flag a (inr (inr (inr (inr (inr (inr (inl e))))))) = (named 1, e)
flag a (inr (inr (inr (inr (inr (inr (inr (inl e)))))))) = (named 2, e)
flag a (inr (inr (inr (inr (inr (inr (inr (inr h)))))))) = absurd h

-- no truth of a flag follows from nothing, and no equality is a flag
unknown : (a : FormulaTree) (v : Bool) → IsFlag a → Follows [] (literal a v) → ⊥
unknown a true f h = let no_flag : ◌≡◌ {A = ℕ} 0 1 = subst (λ b. Follows [] (literal b true)) (sym f.1) h (flags 0) tt in omega (arith, no_flag)
unknown a false f h = let no_flag : ◌≡◌ {A = ℕ} 1 0 = subst (λ b. Follows [] (literal b false)) (sym f.1) h (flags 1) tt in omega (arith, no_flag)

no-equality : (a : FormulaTree) → IsFlag a → is_equality a ≡ true → ⊥
no-equality a f e = true≢false (sym e ∙ ap is_equality (sym f.1))

-- propagation adds nothing to no literals
mutual
  nothing : (l : LiteralTree) → Propagated four [] l → ⊥
  nothing _ (given l h) = absurd h
  nothing _ (forced had l hs at h) = none-by-one (opposite l) (subst (λ ks. SomeFalse four (opposite l ∷ ks)) (nothing-more had hs) h)
  nothing _ (equal had a hs at e h) = no-equality a (flag a at) e
  nothing _ (other had l hs at e h) = unknown l.atom l.holds (flag l.atom at) (subst (λ ks. Follows ks l) (nothing-more had hs) h)

  nothing-more : (had : List LiteralTree) → AllPropagated four [] had → had ≡ []
  nothing-more _ none = refl
  nothing-more _ (more l rest h hs) = absurd (nothing l h)

begins-open : IsOpen four []
begins-open = record {
  none_false = λ had hs h. none-by-none (subst (λ ks. SomeFalse four ks) (nothing-more had hs) h);
  met = λ none. none (flags 0) (λ l h. absurd (nothing l h));
}

-- The branch of the decision p is closed by p and q; without p, q explains nothing.
abbrev branch : ClosedTree
branch = record { decisions = yes p ∷ []; explanation = yes p ∷ yes q ∷ [] }

closed : ClosesBranch four (yes p ∷ []) (yes p ∷ yes q ∷ [])
closed = (inl refl, inl (inl refl), (inr (inl refl), inr (inr (inr (inr (inl (inr (inl refl), inl refl))))), both-clash))

not-q : Clash four (no q ∷ []) → ⊥
not-q (inl h) = h (flags 0) (refl, tt)
not-q (inr h) = none-by-one (no q) h

not-nothing : Clash four [] → ⊥
not-nothing (inl h) = h (flags 0) tt
not-nothing (inr h) = none-by-none h

q-alone : ClosesBranch four (yes p ∷ []) (yes q ∷ []) → ⊥
q-alone (at, inl h, rest) = let same : ◌≡◌ {A = ℕ} 1 2 = p-or-q 1 2 true true (only (yes p) (yes q) h) in omega (arith, same)
q-alone (at, inr h, rest) = not-q h

needs-p : (l : LiteralTree) → IsListed (yes p ∷ []) l → (ks : List LiteralTree) → IsLeft ks (yes p ∷ yes q ∷ []) → (IsListed ks l → ⊥) → ClosesBranch four (yes p ∷ []) ks → ⊥
needs-p l h _ (explain.kept _ ks _ rest) gone c = gone (inl (only (yes p) l h))
needs-p l h _ (explain.out _ _ _ (explain.kept _ _ _ explain.none)) gone c = q-alone c
needs-p l h _ (explain.out _ _ _ (explain.out _ _ _ explain.none)) gone c = not-nothing c

-- what stands before a decision of it is nothing
at-first : (x l : LiteralTree) (before rest : List LiteralTree) → x ∷ [] ≡ before ++ (l ∷ rest) → [] ≡ before
at-first x l [] rest e = refl
at-first x l (k ∷ ks) rest e = absurd (let lengths : 1 ≡ suc (length (ks ++ (l ∷ rest))) = ap length e in let some : length (ks ++ (l ∷ rest)) ≡ suc (length ks + length rest) = length-with ks l rest in omega (arith, lengths, some))
  where
    length-with : (ks : List LiteralTree) (l : LiteralTree) (rest : List LiteralTree) → length (ks ++ (l ∷ rest)) ≡ suc (length ks + length rest)
    length-with [] l rest = omega arith
    length-with (k ∷ ks) l rest = let more : length (ks ++ (l ∷ rest)) ≡ suc (length ks + length rest) = length-with ks l rest in omega (arith, more)

turns-not : Goes branch [] (no p) → ⊥
turns-not (rest, e) = true≢false (ap (λ ls. first-holds ls) e)
  where
    first-holds : List LiteralTree → Bool
    first-holds [] = false
    first-holds (l ∷ ls) = l.holds

-- a budget of one is spent: the other side of p is still to be searched
spent : IsSpent four 1 (branch ∷ [])
spent = record {
  many = refl;
  explained = (record { closes = closed; needs = λ l h there. needs-p l h }, tt);
  leaves_of_one = record {
    on_atoms = ((inl refl, tt), tt);
    once = ((tt, tt), tt);
    part = (tt, tt);
    open_before = (λ before l e. subst (λ ks. IsOpen four ks) (at-first (yes p) l before [] e) begins-open, tt);
    undecided = (λ before l g d. decided-none l (subst (λ ks. Propagated four ks (literal l.atom true) ⊎ Propagated four ks (literal l.atom false)) (sym (at-first (yes p) l before g.0 g.1)) d), tt);
    needed = (tt, tt);
    unfinished = ([], yes p, inl (([], refl), inl refl), (turns-not, tt));
  };
}
  where
    decided-none : (l : LiteralTree) → Propagated four [] (literal l.atom true) ⊎ Propagated four [] (literal l.atom false) → ⊥
    decided-none l (inl h) = nothing (literal l.atom true) h
    decided-none l (inr h) = nothing (literal l.atom false) h
