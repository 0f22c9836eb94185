-- The classes are those of all structures: merges keep what each of them says, and the classes themselves are one.
use Rattle.std.proofs.Common.{◌≡◌, refl, sym, ap, ◌∙◌, ℕ, zero, suc, ◌≤◌, List, [], length, slice_get, get_or, ◌⊎◌, inl, inr, Option, Some, arith}
use Rattle.std.proofs.lemmas.Option.{slice_get_within, slice_get-get_or}
use Rattle.jh_closure.specs.declared.union_find.merge.Cause.{Cause}
use Rattle.jh_closure.specs.declared.union_find.merge.Merge.{Merge}
use Rattle.jh_closure.specs.declared.union_find.merge.Why.{Why}
use Rattle.jh_closure.specs.declared.union_find.merge.Why.TheVariants as why
use Rattle.jh_closure.specs.union_find.Merges.{root, class_of}
use Rattle.jh_closure.proofs.union_find.Rooting.{merged-cases, root-step}
use Rattle.jh_closure.specs.declared.congruence_closure.equation.Equation.{Equation}
use Rattle.jh_closure.specs.declared.congruence_closure.node.Node.{Node}
use Rattle.jh_closure.specs.declared.congruence_closure.node.Node.TheVariants as n
use Rattle.jh_closure.specs.congruence_closure.Nodes.{sig, Has, Structure, Gives, Meets, Follows, node_value}
use Rattle.jh_closure.specs.congruence_closure.Closing.{IsTable, IsFound, IsTrail, Justified, class_at, alike, equation}
use Rattle.jh_closure.specs.congruence_closure.Levels.{IsSettled}
use Rattle.jh_closure.specs.congruence_closure.Tables.{found}
use Rattle.jh_closure.proofs.congruence_closure.Having.{has-at}

-- an operation gives the class of the node that is found
abbrev class-structure : (ℕ → ℕ) → (Node → Option ℕ) → Structure ℕ
class-structure f find = record { leaf = λ o. class_at f (find (n.Leaf o)); apply = λ o x y. class_at f (find (n.Apply o x y)) }

value-class : (f : ℕ → ℕ) (find : Node → Option ℕ) (x : Node) → node_value (class-structure f find) f x ≡ class_at f (find (sig f x))
value-class f find (n.Leaf o) = refl
value-class f find (n.Apply o a b) = refl

module _ (ns : List Node) (f : ℕ → ℕ) (find : Node → Option ℕ) (t : IsTable ns f find [] []) where
  class-found : (k : ℕ) (x : Node) → slice_get ns k ≡ Some x → Has {X = ℕ} [] k ⊎ IsFound ns f find [] k → f k ≡ class_at f (find (sig f x))
  class-found k x here (inl none) = absurd none
  class-found k x here (inr was) = let r = was x here in here-same r.0 r.1 r.2
    where
      here-same : (q : ℕ) → find (sig f x) ≡ Some q → (f q ≡ f k) ⊎ Has {X = Cause} [] (alike q k) → f k ≡ class_at f (find (sig f x))
      here-same q e (inl same) = sym same ∙ sym (ap (class_at f) e)
      here-same q e (inr none) = absurd none

  pub gives : Gives (class-structure f find) ns f
  gives = record { each = λ k x here. class-found k x here (t.covers.each k (slice_get_within ns k x here)) ∙ sym (value-class f find x) }

-- two nodes of one signature have one value, where each node has the value of its representative
alike-value : {V : Type 0} (f : ℕ → ℕ) (s : Structure V) (at : ℕ → V) → ((k : ℕ) → at k ≡ at (f k)) → (x : Node) → node_value s at x ≡ node_value s at (sig f x)
alike-value f s at h (n.Leaf o) = refl
alike-value f s at h (n.Apply o a b) = λ i. s.apply o (h a i) (h b i)

module _ (ns : List Node) (said : List Equation) (s : Structure ℕ) (at : ℕ → ℕ) (given : Gives s ns at) (meets : Meets at said) where
  -- what is right is so in each structure
  just-value : (f : ℕ → ℕ) → ((k : ℕ) → at k ≡ at (f k)) → (w : Why) (a b : ℕ) → Justified ns said f w a b → at a ≡ at b
  just-value f h (why.Given i) a b (inl e) = meets (equation a b) (has-at said i (equation a b) e)
  just-value f h (why.Given i) a b (inr e) = sym (meets (equation b a) (has-at said i (equation b a) e))
  just-value f h why.Alike a b j =
      given.each a j.0 j.2 ∙ (alike-value f s at h j.0 ∙ (ap (node_value s at) j.4 ∙ (sym (alike-value f s at h j.1) ∙ sym (given.each b j.1 j.3))))

  module _ (ms : List Merge) (r : IsTrail ns said ms) where
    no-merge : Merge
    no-merge = record { left = 0; right = 0; small = 0; large = 0; why = why.Alike }

    pub root-value : (t : ℕ) → t ≤ length ms → (k : ℕ) → at k ≡ at (root ms t k)
    root-value zero l k = refl
    root-value (suc t) l k =
        let m = get_or ms t no-merge in
        let here : slice_get ms t ≡ Some m = slice_get-get_or ms t no-merge (omega (arith, l)) in
        let earlier : (j : ℕ) → at j ≡ at (root ms t j) = root-value t (omega (arith, l)) in
        let step = root-step ms t m k here in
        elim (merged-cases (root ms t) m.small m.large k) [
          | inl gone ↦
              earlier k ∙ (ap at (gone.0 ∙ sym (r.left t m here)) ∙ (sym (earlier m.left)
              ∙ (just-value (root ms t) earlier m.why m.left m.right (r.why t m here)
              ∙ (earlier m.right ∙ (ap at (r.right t m here) ∙ ap at (sym (step ∙ gone.1)))))))
          | inr kept ↦ earlier k ∙ ap at (sym (step ∙ kept.1))
        ]

module _ (ns : List Node) (said : List Equation) (ms : List Merge) (entries : List (Node × ℕ)) (h : IsSettled ns said ms entries) (a b : ℕ) where
  -- what follows is of one class
  pub follows-same : Follows ns said a b → class_of ms a ≡ class_of ms b
  follows-same f = f (class-structure (class_of ms) (found entries)) (class_of ms) (gives ns (class_of ms) (found entries) h.table) h.meets

  -- what is of one class follows
  pub same-follows : class_of ms a ≡ class_of ms b → Follows ns said a b
  same-follows e s at g m = root-value ns said s at g m ms h.trail (length ms) (omega arith) a ∙ (ap at e ∙ sym (root-value ns said s at g m ms h.trail (length ms) (omega arith) b))
