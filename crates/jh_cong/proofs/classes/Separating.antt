-- Pairs of nodes none of which follows are different in one structure: the product of structures in which they are.
use Rattle.std.proofs.Common.{◌≡◌, refl, sym, ap, ◌∙◌, ℕ, List, [], ◌∷◌, ◌⊎◌, inl, inr}
use Rattle.std.proofs.lemmas.Bool.Decides.{eqb_tells}
use Rattle.jh_closure.specs.congruence_closure.Nodes.{Structure, Gives, Meets, Follows, Has, node_value}
use Rattle.jh_closure.specs.declared.congruence_closure.equation.Equation.{Equation}
use Rattle.jh_closure.specs.declared.congruence_closure.node.Node.{Node}
use Rattle.jh_closure.specs.declared.congruence_closure.node.Node.TheVariants as n
use Rattle.jh_cong.proofs.flattening.Coding.{pair, first, second, first-pair, second-pair, pair-first, pair-second}
use Rattle.jh_cong.specs.classes.States.{AreSeparate}

-- two structures side by side
abbrev both : Structure ℕ → Structure ℕ → Structure ℕ
both c d = record {
  leaf = λ o. pair (c.leaf o) (d.leaf o);
  apply = λ o x y. pair (c.apply o (first x) (first y)) (d.apply o (second x) (second y));
}

-- the structure in which all is 0
abbrev zeros : ℕ → ℕ
zeros k = 0

abbrev zero_structure : Structure ℕ
zero_structure = record { leaf = zeros; apply = λ o x y. 0 }

module _ (ns : List Node) (said : List Equation) where
  both-value : (c d : Structure ℕ) (at to : ℕ → ℕ) (x : Node) → pair (node_value c at x) (node_value d to x) ≡ node_value (both c d) (λ k. pair (at k) (to k)) x
  both-value c d at to (n.Leaf o) = refl
  both-value c d at to (n.Apply o a b) = λ i. pair (c.apply o (sym (first-pair (at a) (to a)) i) (sym (first-pair (at b) (to b)) i)) (d.apply o (sym (second-pair (at a) (to a)) i) (sym (second-pair (at b) (to b)) i))

  both-gives : (c d : Structure ℕ) (at to : ℕ → ℕ) → Gives c ns at → Gives d ns to → Gives (both c d) ns (λ k. pair (at k) (to k))
  both-gives c d at to g h = record { each = λ k x e. (λ i. pair (g.each k x e i) (h.each k x e i)) ∙ both-value c d at to x }

  both-meets : (at to : ℕ → ℕ) → Meets at said → Meets to said → Meets (λ k. pair (at k) (to k)) said
  both-meets at to g h e w = λ i. pair (g e w i) (h e w i)

  -- the two sides of each pair have different values
  abbrev pub AreDistinct : (ℕ → ℕ) → List Equation → Type 0
  AreDistinct at pairs = (e : Equation) → Has pairs e → at e.left ≡ at e.right → ⊥

  -- where what doesn't follow is asked for, a structure may be taken in which it is false
  taken-apart : (a b : ℕ) → (Follows ns said a b → ⊥) → ((c : Structure ℕ) (at : ℕ → ℕ) → Gives c ns at → Meets at said → (at a ≡ at b → ⊥) → ⊥) → ⊥
  taken-apart a b h goes = h (λ c at g m. elim (eqb_tells (at a) (at b)) [ inl same ↦ same.1 | inr other ↦ absurd (goes c at g m other.1) ])

  constant-gives : Gives zero_structure ns zeros
  constant-gives = record { each = λ k x e. zero-value x }
    where
      zero-value : (x : Node) → 0 ≡ node_value zero_structure zeros x
      zero-value (n.Leaf o) = refl
      zero-value (n.Apply o a b) = refl

  -- A structure may be taken in which the equations hold and all pairs are different.
  pub separated : (pairs : List Equation) → AreSeparate ns said pairs → ((c : Structure ℕ) (at : ℕ → ℕ) → Gives c ns at → Meets at said → AreDistinct at pairs → ⊥) → ⊥
  separated [] h goes = goes zero_structure zeros constant-gives (λ e w. refl) (λ e w same. w)
  separated (p ∷ ps) h goes =
      separated ps (λ e w. h e (inr w)) (λ c at g m apart.
      taken-apart p.left p.right (h p (inl refl)) (λ d to l u other.
      goes (both c d) (λ k. pair (at k) (to k)) (both-gives c d at to g l) (both-meets at to m u) (distinct at to p ps apart other)))
    where
      distinct : (at to : ℕ → ℕ) (q : Equation) (qs : List Equation) → AreDistinct at qs → (to q.left ≡ to q.right → ⊥) → (e : Equation) → (q ≡ e) ⊎ Has qs e → pair (at e.left) (to e.left) ≡ pair (at e.right) (to e.right) → ⊥
      distinct at to q qs apart other e (inl is) same = other (ap (λ (z : Equation). to z.left) is ∙ (pair-second (at e.left) (to e.left) (at e.right) (to e.right) same ∙ sym (ap (λ (z : Equation). to z.right) is)))
      distinct at to q qs apart other e (inr w) same = apart e w (pair-first (at e.left) (to e.left) (at e.right) (to e.right) same)
