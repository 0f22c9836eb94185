-- What stands for a set, by its shape.
use Rattle.std.proofs.Common.{◌≡◌, refl, sym, ap, ◌∙◌, ℕ, ◌<◌, true, List, Some, slice_get}
use Rattle.std.proofs.lemmas.Bool.{true≢false}
use Rattle.jh_form.specs.Tree.{ValueTree, of_object, of_set}
use Rattle.jh_arena.specs.table.Entries.{Pools, Listing, is_set, the_object, the_set}
use Rattle.jh_arena.specs.table.Nodes.{nodes, shape_tree}
use Rattle.jh_arena.specs.declared.table.shapes.Shape.{Shape}
use Rattle.jh_arena.specs.declared.table.shapes.Shape.TheVariants as s
use Rattle.jh_export.specs.Standing.{Stands}
use Rattle.jh_export.proofs.Places.{set-inside}
use Rattle.jh_export.proofs.ValueSteps.{stands-Empty, stands-Univ, stands-Single, sort-Single-a, stands-Union, stands-Inter, stands-Diff, sort-Union-a, sort-Inter-a, sort-Diff-a, sort-Union-b, sort-Inter-b, sort-Diff-b, below-Union-a, below-Inter-a, below-Diff-a, below-Union-b, below-Inter-b, below-Diff-b, stands-Compl, sort-Compl-a, below-Compl-a}
use Rattle.jh_query.specs.queries.Tree as q
use Rattle.jh_approx.specs.definition.Names.{NameLists, place_in}
use Rattle.jh_approx.specs.definition.Told.{told_set}
use Rattle.jh_abstraction.specs.declared.translation.sets.Operator.{Operator}
use Rattle.jh_abstraction.specs.declared.translation.sets.Operator.TheVariants as o
use Rattle.jh_abstraction.specs.translation.Operators.{set_shape, joined_sets}

module _ (t : Listing) (i : ℕ) where
  pub joined-a : (f : Operator) (a b : ℕ) → Stands t i (set_shape f a b) → is_set (slice_get (nodes t) a) ≡ true
  joined-a o.Union a b h = sort-Union-a t i a b h
  joined-a o.Inter a b h = sort-Inter-a t i a b h
  joined-a o.Diff a b h = sort-Diff-a t i a b h

  pub joined-b : (f : Operator) (a b : ℕ) → Stands t i (set_shape f a b) → is_set (slice_get (nodes t) b) ≡ true
  joined-b o.Union a b h = sort-Union-b t i a b h
  joined-b o.Inter a b h = sort-Inter-b t i a b h
  joined-b o.Diff a b h = sort-Diff-b t i a b h

  pub joined-below-a : (f : Operator) (a b : ℕ) → Stands t i (set_shape f a b) → a < i
  joined-below-a o.Union a b h = below-Union-a t i a b h
  joined-below-a o.Inter a b h = below-Inter-a t i a b h
  joined-below-a o.Diff a b h = below-Diff-a t i a b h

  pub joined-below-b : (f : Operator) (a b : ℕ) → Stands t i (set_shape f a b) → b < i
  joined-below-b o.Union a b h = below-Union-b t i a b h
  joined-below-b o.Inter a b h = below-Inter-b t i a b h
  joined-below-b o.Diff a b h = below-Diff-b t i a b h

  module _ (n : NameLists) where
    pub told-joined : (f : Operator) (a b : ℕ) → Stands t i (set_shape f a b) → joined_sets f (told_set n (the_set (slice_get (nodes t) a))) (told_set n (the_set (slice_get (nodes t) b))) ≡ told_set n (the_set (slice_get (nodes t) i))
    unfolding told_set
    told-joined o.Union a b h = ap (told_set n) (stands-Union t i a b h)
    told-joined o.Inter a b h = ap (told_set n) (stands-Inter t i a b h)
    told-joined o.Diff a b h = ap (told_set n) (stands-Diff t i a b h)

    pub told-compl : (a : ℕ) → Stands t i (s.Compl a) → q.compl (told_set n (the_set (slice_get (nodes t) a))) ≡ told_set n (the_set (slice_get (nodes t) i))
    unfolding told_set
    told-compl a h = ap (told_set n) (stands-Compl t i a h)

    pub told-single : (a : ℕ) → Stands t i (s.Single a) → q.one (place_in n.elements (of_object (the_object (slice_get (nodes t) a)))) ≡ told_set n (the_set (slice_get (nodes t) i))
    unfolding told_set
    told-single a h = ap (told_set n) (stands-Single t i a h)

    pub told-empty : Stands t i s.Empty → q.empty ≡ told_set n (the_set (slice_get (nodes t) i))
    unfolding told_set
    told-empty h = ap (told_set n) (stands-Empty t i h)

    pub told-univ : Stands t i s.Univ → q.all ≡ told_set n (the_set (slice_get (nodes t) i))
    unfolding told_set
    told-univ h = ap (told_set n) (stands-Univ t i h)

pub ruleset joined_steps = (joined-a, joined-b, joined-below-a, joined-below-b, told-joined)

pub ruleset complement_steps = (sort-Compl-a, below-Compl-a, told-compl)

pub ruleset single_steps = (sort-Single-a, told-single)

pub ruleset set_steps = (set-inside, told-empty, told-univ)

-- ---- what has a name

abbrev pub IsNamed : Shape → Type 0
IsNamed x = (x ≡ s.Empty → ⊥) × (x ≡ s.Univ → ⊥) × ((a : ℕ) → x ≡ s.Single a → ⊥) × ((a b : ℕ) → x ≡ s.Union a b → ⊥) × ((a b : ℕ) → x ≡ s.Inter a b → ⊥) × ((a b : ℕ) → x ≡ s.Diff a b → ⊥) × ((a : ℕ) → x ≡ s.Compl a → ⊥)

shape-named : (p : Pools) (ts : List ValueTree) (n : NameLists) (x : Shape) → IsNamed x → is_set (Some (shape_tree p ts x)) ≡ true → q.var (place_in n.sets (of_set (the_set (Some (shape_tree p ts x))))) ≡ told_set n (the_set (Some (shape_tree p ts x)))
unfolding shape_tree is_set the_set told_set
shape-named p ts n (s.FreeSet a) l h = refl
shape-named p ts n (s.ReadSet a b) l h = refl
shape-named p ts n (s.Compr a) l h = refl
shape-named p ts n s.Empty l h = absurd (l.0 refl)
shape-named p ts n s.Univ l h = absurd (l.1 refl)
shape-named p ts n (s.Single a) l h = absurd (l.2 a refl)
shape-named p ts n (s.Union a b) l h = absurd (l.3 a b refl)
shape-named p ts n (s.Inter a b) l h = absurd (l.4 a b refl)
shape-named p ts n (s.Diff a b) l h = absurd (l.5 a b refl)
shape-named p ts n (s.Compl a) l h = absurd (l.6 a refl)
shape-named p ts n _ l h = absurd (true≢false (sym h))

pub told-named : (t : Listing) (i : ℕ) (n : NameLists) (x : Shape) → Stands t i x → is_set (slice_get (nodes t) i) ≡ true → IsNamed x → q.var (place_in n.sets (of_set (the_set (slice_get (nodes t) i)))) ≡ told_set n (the_set (slice_get (nodes t) i))
told-named t i n x h is l =
    (λ j. q.var (place_in n.sets (of_set (the_set (h.tree j)))))
    ∙ shape-named t.pools (nodes t) n x l (sym (ap is_set h.tree) ∙ is)
    ∙ sym (ap (λ v. told_set n (the_set v)) h.tree)
