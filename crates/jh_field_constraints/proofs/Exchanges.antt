-- An atom whose reads are exchanged one after another.
use Rattle.std.proofs.Common.{◌≡◌, refl, sym, ap, ◌∙◌, ℕ, ◌<◌, ◌≤◌, ◌+◌, ◌-◌, Bool, true, false, if◌then◌else◌, List, [], ◌∷◌, map, take, drop, length, length-drop, slice_get, Option, Some, None, arith}
use Rattle.std.proofs.lemmas.Bool.{true≢false}
use Rattle.std.proofs.lemmas.List.{take_all}
use Rattle.jh_form.specs.Tree.{TermTree, FormulaTree}
use Rattle.jh_form.specs.Tree as t
use Rattle.jh_boxed.specs.Mapped.{mapped_formula, mapped_term, mapped_value}
use Rattle.jh_boxed_operations.specs.comparison.Exchanged.{equal_trees}
use Rattle.jh_substitution.specs.rewriting.Rewritten.{truth_or, rewritten_formula}
use Rattle.jh_substitution.specs.simultaneous.Lifted.{lifting}
use Rattle.jh_substitution.specs.exchange.Under.{varied}
use Rattle.jh_fca.specs.elimination.Constraints.{Constraint}
use Rattle.jh_fca.specs.elimination.Exchanged.{said, read_at, varied_term, quantified, exchanged, atom_exchanged, eliminated}
use Rattle.jh_arena.specs.table.Entries.{Listing}
use Rattle.jh_arena.specs.table.Nodes.{nodes}
use Rattle.jh_field_constraints.specs.Standing.{Are, IsTerm, AreTerms}
use Rattle.jh_field_constraints.specs.Reading.{is_atom}
use Rattle.jh_field_constraints.specs.Walking.{around}
use Rattle.jh_field_constraints.proofs.Standings.{are-lent}

truth-left : (c : Bool) (v : TermTree) (p : FormulaTree) → truth_or (if c then Some (t.of_object v) else None) p ≡ p
unfolding truth_or
truth-left true v p = refl
truth-left false v p = refl

-- a term by the equation of it with itself
pub varied-equation : (a b : TermTree) → varied (t.eq_object a a) b ≡ t.eq_object (varied_term a b) (varied_term a b)
unfolding varied_term mapped_formula mapped_value rewritten_formula
varied-equation a b =
    let old : TermTree = mapped_term (mapped_term b (lifting 1) 0) (lifting 0) 0 in
    let raised_term : TermTree = mapped_term a (lifting 1) 0 in
    truth-left (equal_trees (t.of_truth (t.eq_object raised_term raised_term)) (t.of_object old)) (mapped_term (t.bound 0) (lifting 0) 0) (t.eq_object (varied_term a b) (varied_term a b))

map-map : {A B C : Type 0} (g : B → C) (f : A → B) (xs : List A) → map g (map f xs) ≡ map (λ x. g (f x)) xs
map-map g f [] = refl
map-map g f (x ∷ xs) = ap (λ ys. g (f x) ∷ ys) (map-map g f xs)

-- what is left of the terms, once the first has its variable
pub varied-terms : (now : TermTree → TermTree) (more : List TermTree) (r : TermTree) → map (λ a. varied_term a r) (map now more) ≡ map (λ a. varied_term (now a) r) more
varied-terms now more r = map-map (λ a. varied_term a r) now more

pub none-exchanged : (c : Constraint) (now : TermTree → TermTree) (p : FormulaTree) (s : Bool) → exchanged c [] now p s ≡ p
unfolding exchanged
none-exchanged c now p s = refl

pub one-exchanged : (c : Constraint) (a : TermTree) (more : List TermTree) (now : TermTree → TermTree) (p : FormulaTree) (s : Bool) →
    around s (said c (now a)) (exchanged c more (λ b. varied_term (now b) (read_at c (now a))) (varied p (read_at c (now a))) s) ≡ exchanged c (a ∷ more) now p s
unfolding exchanged quantified
one-exchanged c a more now p true = refl
one-exchanged c a more now p false = refl

-- an atom of a formula
pub atom-eliminated : (c : Constraint) (p : FormulaTree) (s : Bool) → is_atom p ≡ true → atom_exchanged c p s ≡ eliminated c p s
unfolding eliminated is_atom
atom-eliminated c t.true_formula s h = refl
atom-eliminated c t.false_formula s h = refl
atom-eliminated c (t.free_truth x) s h = refl
atom-eliminated c (t.read_truth a b) s h = refl
atom-eliminated c (t.eq_object a b) s h = refl
atom-eliminated c (t.eq_number a b) s h = refl
atom-eliminated c (t.eq_set a b) s h = refl
atom-eliminated c (t.less a b) s h = refl
atom-eliminated c (t.less_equal a b) s h = refl
atom-eliminated c (t.divides z a) s h = refl
atom-eliminated c (t.member a b) s h = refl
atom-eliminated c (t.subset a b) s h = refl
atom-eliminated c (t.reach fs a b) s h = refl
atom-eliminated c (t.tree fs) s h = refl
atom-eliminated c p s h = absurd (true≢false (sym h))

-- ---- at nodes

-- how many are behind the first
pub rest-length : (ns : List ℕ) → 1 ≤ length ns → length (take (length ns - 1) (drop 1 ns)) + 1 ≡ length ns
rest-length ns le =
    let whole : length (take (length ns - 1) (drop 1 ns)) ≡ length (drop 1 ns) = ap length (take_all (length ns - 1) (drop 1 ns) (omega (arith, length-drop 1 ns))) in
    omega (arith, whole, length-drop 1 ns, le)

-- no terms are left
pub none-left : (t : Listing) (ns : List ℕ) (c : Constraint) (more : List TermTree) (now : TermTree → TermTree) (p : FormulaTree) (s : Bool) → length ns < 1 → AreTerms t ns (map now more) → p ≡ exchanged c more now p s
unfolding Are
none-left t [] c [] now p s lt h = sym (none-exchanged c now p s)
none-left t [] c (a ∷ more) now p s lt h = absurd h
none-left t (n ∷ ns) c more now p s lt h = absurd (omega arith)

-- the first of the terms, and the others
pub record FirstLeft (t : Listing) (n : ℕ) (rest : List ℕ) (more : List TermTree) (now : TermTree → TermTree) : Type 0 where
  pub a : TermTree
  pub others : List TermTree
  pub whole : a ∷ others ≡ more
  pub first : IsTerm t n (now a)
  pub left : AreTerms t rest (map now others)

pub first-left : (t : Listing) (ns : List ℕ) (n : ℕ) (more : List TermTree) (now : TermTree → TermTree) → 1 ≤ length ns → slice_get ns 0 ≡ Some n → AreTerms t ns (map now more) → FirstLeft t n (take (length ns - 1) (drop 1 ns)) more now
unfolding Are
first-left t [] n more now le e h = absurd (cc)
first-left t (m ∷ ns) n [] now le e h = absurd h
first-left t (m ∷ ns) n (a ∷ more) now le e h = let one : n ≡ m = cc in record {
  a = a;
  others = more;
  whole = refl;
  first = ap (slice_get (nodes t)) one ∙ h.0;
  left = are-lent (IsTerm t) ns (take (length (m ∷ ns) - 1) (drop 1 (m ∷ ns))) (map now more) (take_all (length (m ∷ ns) - 1) (drop 1 (m ∷ ns)) (omega (arith, length-drop 1 (m ∷ ns)))) h.1;
}

-- some terms
pub record SomeLeft (t : Listing) (n : ℕ) (rest : List ℕ) : Type 0 where
  pub a : TermTree
  pub others : List TermTree
  pub first : IsTerm t n a
  pub left : AreTerms t rest others

pub some-left : (t : Listing) (ns : List ℕ) (n : ℕ) (all : List TermTree) → 1 ≤ length ns → slice_get ns 0 ≡ Some n → AreTerms t ns all → SomeLeft t n (take (length ns - 1) (drop 1 ns))
unfolding Are
some-left t [] n all le e h = absurd (cc)
some-left t (m ∷ ns) n [] le e h = absurd h
some-left t (m ∷ ns) n (a ∷ all) le e h = let one : n ≡ m = cc in record {
  a = a;
  others = all;
  first = ap (slice_get (nodes t)) one ∙ h.0;
  left = are-lent (IsTerm t) ns (take (length (m ∷ ns) - 1) (drop 1 (m ∷ ns))) all (take_all (length (m ∷ ns) - 1) (drop 1 (m ∷ ns)) (omega (arith, length-drop 1 (m ∷ ns)))) h.1;
}

pub map-same : {X : Type 0} (xs : List X) → map (λ x. x) xs ≡ xs
map-same [] = refl
map-same (x ∷ xs) = ap (λ ys. x ∷ ys) (map-same xs)
