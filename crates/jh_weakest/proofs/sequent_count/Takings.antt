-- Shares that are taken out, and what comes in their place.
use Rattle.std.proofs.Common.{◌≡◌, refl, sym, ap, subst, ◌∙◌, ℕ, zero, suc, ◌+◌, ◌*◌, arith, Bool, true, false, if◌then◌else◌, List, [], ◌∷◌, ◌++◌, Some, slice_get}
use Rattle.jh_name.specs.declared.naming.Name.{Name}
use Rattle.jh_form.specs.Tree.{FormulaTree, ValueTree, of_truth}
use Rattle.jh_form.specs.Tree as tree
use Rattle.jh_form.specs.Passing.{name_equal}
use Rattle.jh_form.proofs.Names.{name_equal-same, name_equal-true}
use Rattle.jh_arena.specs.table.Entries.{Listing, the_truth}
use Rattle.jh_arena.specs.table.Growth.{Extends, AreDifferent}
use Rattle.jh_arena.specs.table.Nodes.{nodes}
use Rattle.jh_weakest.specs.declared.sequent_count.tally.Share.{Share}
use Rattle.jh_seq.specs.counting.Counted.{with_value, with_name}
use Rattle.jh_seq.specs.counting.Goals.{Weights, capped, goals}
use Rattle.jh_weakest.specs.sequent_count.Tallies.{truth_name, name_at, shares_of, AreNames, IsName, Lacks, IsTaken, Counts}
use Rattle.jh_weakest.proofs.sequent_count.Ceilings.{sum-capped, times-capped, is-capped}
use Rattle.jh_weakest.proofs.sequent_count.Shares.{shares-push}

pub names-at : (t : Listing) (ss : List Share) (i : ℕ) (s : Share) → AreNames t ss → slice_get ss i ≡ Some s → IsName t s.leaf
names-at t [] i s h e = absurd (cc)
names-at t (r ∷ ss) zero s h e = let same : r ≡ s = cc in subst (λ (z : Share). IsName t z.leaf) same h.0
names-at t (r ∷ ss) (suc i) s h e = names-at t ss i s h.1 e

pub lacks-push : (leaf : ℕ) (ss : List Share) (s : Share) → Lacks leaf ss → (s.leaf ≡ leaf → ⊥) → Lacks leaf (ss ++ s ∷ [])
lacks-push leaf [] s h e = (e, tt)
lacks-push leaf (r ∷ ss) s h e = (h.0, lacks-push leaf ss s h.1 e)

-- the loop that takes the shares of a name out
module _ (t : Listing) (w : Weights) (leaf : ℕ) where
  pub taken-start : (all left : List Share) → left ≡ all → IsTaken t w leaf all [] 0 0 left
  taken-start all left e =
      let none : shares_of t all w ≡ (0 + (0 * w (name_at t leaf) false + 0 * w (name_at t leaf) true)) + shares_of t all w = omega arith in
      ap capped none ∙ (λ i. capped ((0 + (0 * w (name_at t leaf) false + 0 * w (name_at t leaf) true)) + shares_of t (sym e i) w))

  pub taken-end : (all rest left : List Share) (plain marked : ℕ) → left ≡ [] → IsTaken t w leaf all rest plain marked left →
      capped (shares_of t all w) ≡ capped (shares_of t rest w + (plain * w (name_at t leaf) false + marked * w (name_at t leaf) true))
  taken-end all rest left plain marked e h =
      let sum = shares_of t rest w + (plain * w (name_at t leaf) false + marked * w (name_at t leaf) true) in
      let none : sum + 0 ≡ sum = omega arith in
      h ∙ (λ i. capped (sum + shares_of t (e i) w)) ∙ ap capped none

  pub taken-other : (all rest left more : List Share) (plain marked : ℕ) (s : Share) → left ≡ s ∷ more → IsTaken t w leaf all rest plain marked left → IsTaken t w leaf all (rest ++ s ∷ []) plain marked more
  taken-other all rest left more plain marked s e h =
      let sum = plain * w (name_at t leaf) false + marked * w (name_at t leaf) true in
      h ∙ (λ i. capped ((shares_of t rest w + sum) + shares_of t (e i) w)) ∙ ap capped (omega (arith, shares-push t rest s w))

  -- a share of the name
  moved : (r p m d x y : ℕ) → capped x ≡ capped (p + y) → capped ((r + (p + m)) + (y + d)) ≡ capped ((r + (x + m)) + d)
  moved r p m d x y e =
      let left : (r + (p + m)) + (y + d) ≡ (p + y) + (r + m + d) = omega arith in
      let right : x + (r + m + d) ≡ (r + (x + m)) + d = omega arith in
      ap capped left ∙ sum-capped (p + y) x (r + m + d) (r + m + d) (sym e) refl ∙ ap capped right

  raised : (a b n x : ℕ) → a ≡ capped (b + n) → capped (a * x) ≡ capped (b * x + n * x)
  raised a b n x e = let both : (b + n) * x ≡ b * x + n * x = omega arith in times-capped a (b + n) x (is-capped a (b + n) e) ∙ ap capped both

  pub taken-plain : (all rest left more : List Share) (plain marked new : ℕ) (s : Share) → left ≡ s ∷ more → s.leaf ≡ leaf → s.marked ≡ false → new ≡ capped (plain + s.times) →
      IsTaken t w leaf all rest plain marked left → IsTaken t w leaf all rest new marked more
  taken-plain all rest left more plain marked new s e here bare f h =
      let x = w (name_at t leaf) false in
      let m = marked * w (name_at t leaf) true in
      h
      ∙ (λ i. capped ((shares_of t rest w + (plain * x + m)) + shares_of t (e i) w))
      ∙ (λ i. capped ((shares_of t rest w + (plain * x + m)) + (s.times * w (name_at t (here i)) (bare i) + shares_of t more w)))
      ∙ moved (shares_of t rest w) (plain * x) m (shares_of t more w) (new * x) (s.times * x) (raised new plain s.times x f)

  pub taken-marked : (all rest left more : List Share) (plain marked new : ℕ) (s : Share) → left ≡ s ∷ more → s.leaf ≡ leaf → s.marked ≡ true → new ≡ capped (marked + s.times) →
      IsTaken t w leaf all rest plain marked left → IsTaken t w leaf all rest plain new more
  taken-marked all rest left more plain marked new s e here bare f h =
      let x = w (name_at t leaf) true in
      let p = plain * w (name_at t leaf) false in
      let r = shares_of t rest w in
      let d = shares_of t more w in
      let before : (r + (p + marked * x)) + (s.times * x + d) ≡ (r + (marked * x + p)) + (s.times * x + d) = omega arith in
      let after : (r + (new * x + p)) + d ≡ (r + (p + new * x)) + d = omega arith in
      h
      ∙ (λ i. capped ((r + (p + marked * x)) + shares_of t (e i) w))
      ∙ (λ i. capped ((r + (p + marked * x)) + (s.times * w (name_at t (here i)) (bare i) + d)))
      ∙ ap capped before
      ∙ moved r (marked * x) p d (new * x) (s.times * x) (raised new marked s.times x f)
      ∙ ap capped after

-- a tally while the table grows
name-same : (t u : Listing) → Extends t u → (n : ℕ) → IsName t n → name_at u n ≡ name_at t n
unfolding the_truth
name-same t u g n h = ap (λ o. truth_name (the_truth o)) (g.nodes.keeps n (of_truth (tree.free_truth (name_at t n))) h)

pub names-grow : (t u : Listing) → Extends t u → (ss : List Share) → AreNames t ss → AreNames u ss
names-grow t u g [] h = tt
names-grow t u g (s ∷ ss) h = (
  g.nodes.keeps s.leaf (of_truth (tree.free_truth (name_at t s.leaf))) h.0 ∙ ap (λ x. Some (of_truth (tree.free_truth x))) (sym (name-same t u g s.leaf h.0)),
  names-grow t u g ss h.1,
)

shares-grow : (t u : Listing) → Extends t u → (ss : List Share) → AreNames t ss → (w : Weights) → shares_of u ss w ≡ shares_of t ss w
shares-grow t u g [] h w = refl
shares-grow t u g (s ∷ ss) h w = λ i. s.times * w (name-same t u g s.leaf h.0 i) s.marked + shares-grow t u g ss h.1 w i

pub counts-grow : (t u : Listing) → Extends t u → (fixed : ℕ) (ss : List Share) (g : Weights → ℕ) → Counts t fixed ss g → Counts u fixed ss g
counts-grow t u e fixed ss g h = record {
  names = names-grow t u e ss h.names;
  is = λ w. ap (λ n. capped (fixed + n)) (shares-grow t u e ss h.names w) ∙ h.is w;
}

-- the name of a leaf
pub leaf-name : (t : Listing) (n : ℕ) (x : Name) → slice_get (nodes t) n ≡ Some (of_truth (tree.free_truth x)) → name_at t n ≡ x
unfolding the_truth
leaf-name t n x e = ap (λ o. truth_name (the_truth o)) e

pub leaf-is : (t : Listing) (n : ℕ) (x : Name) → slice_get (nodes t) n ≡ Some (of_truth (tree.free_truth x)) → IsName t n
leaf-is t n x e = e ∙ ap (λ y. Some (of_truth (tree.free_truth y))) (sym (leaf-name t n x e))

-- shares of other names don't see what the name gives
module _ (t : Listing) (leaf : ℕ) (x : Name) (there : slice_get (nodes t) leaf ≡ Some (of_truth (tree.free_truth x))) (differ : AreDifferent (nodes t)) (v w : Weights)
    (agree : (y : Name) (k : Bool) → (y ≡ x → ⊥) → v y k ≡ w y k) where
  pub lacks-same : (ss : List Share) → AreNames t ss → Lacks leaf ss → shares_of t ss v ≡ shares_of t ss w
  lacks-same [] h l = refl
  lacks-same (s ∷ ss) h l =
      let away : name_at t s.leaf ≡ x → ⊥ = λ e. l.0 (differ s.leaf leaf (of_truth (tree.free_truth x)) (h.0 ∙ ap (λ y. Some (of_truth (tree.free_truth y))) e) there) in
      λ i. s.times * agree (name_at t s.leaf) s.marked away i + lacks-same ss h.1 l.1 i

unless : (y x : Name) (a b : ℕ) (c : Bool) → name_equal y x ≡ c → (y ≡ x → ⊥) → (if c then a else b) ≡ b
unless y x a b true e differs = absurd (differs (name_equal-true y x e))
unless y x a b false e differs = refl

unless_name : (y x a b : Name) (c : Bool) → name_equal y x ≡ c → (y ≡ x → ⊥) → (if c then a else b) ≡ b
unless_name y x a b true e differs = absurd (differs (name_equal-true y x e))
unless_name y x a b false e differs = refl

-- what a name gives where it has the value, or the other's
pub value-away : (w : Weights) (x : Name) (f : FormulaTree) (y : Name) (k : Bool) → (y ≡ x → ⊥) → with_value w x (of_truth f) y k ≡ w y k
value-away w x f y k differs = unless y x (goals f w k) (w y k) (name_equal y x) refl differs

pub value-here : (w : Weights) (x : Name) (f : FormulaTree) (k : Bool) → with_value w x (of_truth f) x k ≡ goals f w k
value-here w x f k = ap (λ c. if c then goals f w k else w x k) (name_equal-same x x refl)

pub name-away : (w : Weights) (x z : Name) (y : Name) (k : Bool) → (y ≡ x → ⊥) → with_name w x z y k ≡ w y k
name-away w x z y k differs = ap (λ n. w n k) (unless_name y x z y (name_equal y x) refl differs)

pub name-here : (w : Weights) (x z : Name) (k : Bool) → with_name w x z x k ≡ w z k
name-here w x z k = ap (λ c. w (if c then z else x) k) (name_equal-same x x refl)

-- the shares that were taken, put back with other weights
pub put-back : (one two fixed rest plain marked sum : ℕ) → capped one ≡ capped ((fixed + rest) + plain) → capped two ≡ capped (one + marked) → capped sum ≡ capped (rest + (plain + marked)) →
    capped two ≡ capped (fixed + sum)
put-back one two fixed rest plain marked sum e f g =
    let grouped : ((fixed + rest) + plain) + marked ≡ fixed + (rest + (plain + marked)) = omega arith in
    f ∙ sum-capped one ((fixed + rest) + plain) marked marked e refl ∙ ap capped grouped ∙ sum-capped fixed fixed (rest + (plain + marked)) sum refl (sym g)
