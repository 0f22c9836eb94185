-- What stands for a formula, by its shape.
use Rattle.std.proofs.Common.{◌≡◌, refl, sym, ap, ◌∙◌, ℕ, ℤ, ◌<◌, true, List, Some, slice_get}
use Rattle.std.proofs.lemmas.Bool.{true≢false}
use Rattle.jh_form.specs.Tree.{ValueTree, of_truth}
use Rattle.jh_arena.specs.table.Entries.{Pools, Listing, is_truth, the_truth}
use Rattle.jh_arena.specs.table.Nodes.{nodes, shape_tree}
use Rattle.jh_arena.specs.declared.table.shapes.Shape.{Shape}
use Rattle.jh_arena.specs.declared.table.shapes.Shape.TheVariants as s
use Rattle.jh_export.specs.Standing.{Stands}
use Rattle.jh_export.proofs.Places.{formula-inside}
use Rattle.jh_export.proofs.ValueSteps.{stands-True, stands-False, stands-Negation, sort-Negation-a, below-Negation-a, stands-And, stands-Or, stands-Implies, stands-Iff, sort-And-a, sort-Or-a, sort-Implies-a, sort-Iff-a, sort-And-b, sort-Or-b, sort-Implies-b, sort-Iff-b, below-And-a, below-Or-a, below-Implies-a, below-Iff-a, below-And-b, below-Or-b, below-Implies-b, below-Iff-b}
use Rattle.jh_query.specs.queries.Tree as q
use Rattle.jh_approx.specs.definition.Names.{NameLists, place_in}
use Rattle.jh_approx.specs.definition.Told.{told}
use Rattle.jh_abstraction.specs.declared.translation.conds.Connective.{Connective}
use Rattle.jh_abstraction.specs.declared.translation.conds.Connective.TheVariants as k
use Rattle.jh_abstraction.specs.translation.Operators.{connective_shape, joined_conds}

module _ (t : Listing) (i : ℕ) where
  pub joined-a : (f : Connective) (a b : ℕ) → Stands t i (connective_shape f a b) → is_truth (slice_get (nodes t) a) ≡ true
  joined-a k.And a b h = sort-And-a t i a b h
  joined-a k.Or a b h = sort-Or-a t i a b h
  joined-a k.Implies a b h = sort-Implies-a t i a b h
  joined-a k.Iff a b h = sort-Iff-a t i a b h

  pub joined-b : (f : Connective) (a b : ℕ) → Stands t i (connective_shape f a b) → is_truth (slice_get (nodes t) b) ≡ true
  joined-b k.And a b h = sort-And-b t i a b h
  joined-b k.Or a b h = sort-Or-b t i a b h
  joined-b k.Implies a b h = sort-Implies-b t i a b h
  joined-b k.Iff a b h = sort-Iff-b t i a b h

  pub joined-below-a : (f : Connective) (a b : ℕ) → Stands t i (connective_shape f a b) → a < i
  joined-below-a k.And a b h = below-And-a t i a b h
  joined-below-a k.Or a b h = below-Or-a t i a b h
  joined-below-a k.Implies a b h = below-Implies-a t i a b h
  joined-below-a k.Iff a b h = below-Iff-a t i a b h

  pub joined-below-b : (f : Connective) (a b : ℕ) → Stands t i (connective_shape f a b) → b < i
  joined-below-b k.And a b h = below-And-b t i a b h
  joined-below-b k.Or a b h = below-Or-b t i a b h
  joined-below-b k.Implies a b h = below-Implies-b t i a b h
  joined-below-b k.Iff a b h = below-Iff-b t i a b h

  module _ (n : NameLists) where
    pub told-joined : (f : Connective) (a b : ℕ) → Stands t i (connective_shape f a b) → joined_conds f (told n (the_truth (slice_get (nodes t) a))) (told n (the_truth (slice_get (nodes t) b))) ≡ told n (the_truth (slice_get (nodes t) i))
    unfolding told
    told-joined k.And a b h = ap (told n) (stands-And t i a b h)
    told-joined k.Or a b h = ap (told n) (stands-Or t i a b h)
    told-joined k.Implies a b h = ap (told n) (stands-Implies t i a b h)
    told-joined k.Iff a b h = ap (told n) (stands-Iff t i a b h)

    pub told-negation : (a : ℕ) → Stands t i (s.Negation a) → q.negation (told n (the_truth (slice_get (nodes t) a))) ≡ told n (the_truth (slice_get (nodes t) i))
    unfolding told
    told-negation a h = ap (told n) (stands-Negation t i a h)

    pub told-true : Stands t i s.True → q.yes ≡ told n (the_truth (slice_get (nodes t) i))
    unfolding told
    told-true h = ap (told n) (stands-True t i h)

    pub told-false : Stands t i s.False → q.no ≡ told n (the_truth (slice_get (nodes t) i))
    unfolding told
    told-false h = ap (told n) (stands-False t i h)

pub ruleset joined_steps = (joined-a, joined-b, joined-below-a, joined-below-b, told-joined)

pub ruleset negation_steps = (sort-Negation-a, below-Negation-a, told-negation)

pub ruleset cond_steps = (formula-inside, told-true, told-false)

-- ---- flags

abbrev pub IsFlag : Shape → Type 0
IsFlag x = (x ≡ s.True → ⊥) × (x ≡ s.False → ⊥) × ((a : ℕ) → x ≡ s.Negation a → ⊥) × ((a b : ℕ) → x ≡ s.And a b → ⊥) × ((a b : ℕ) → x ≡ s.Or a b → ⊥) × ((a b : ℕ) → x ≡ s.Implies a b → ⊥) × ((a b : ℕ) → x ≡ s.Iff a b → ⊥) × ((a b : ℕ) → x ≡ s.EqObject a b → ⊥) × ((a b : ℕ) → x ≡ s.EqNumber a b → ⊥) × ((a b : ℕ) → x ≡ s.EqSet a b → ⊥) × ((a b : ℕ) → x ≡ s.Less a b → ⊥) × ((a b : ℕ) → x ≡ s.LessEqual a b → ⊥) × ((z : ℤ) (a : ℕ) → x ≡ s.Divides z a → ⊥) × ((a b : ℕ) → x ≡ s.Member a b → ⊥) × ((a b : ℕ) → x ≡ s.Subset a b → ⊥)

shape-flag : (p : Pools) (ts : List ValueTree) (n : NameLists) (x : Shape) → IsFlag x → is_truth (Some (shape_tree p ts x)) ≡ true → q.flag (place_in n.flags (of_truth (the_truth (Some (shape_tree p ts x))))) ≡ told n (the_truth (Some (shape_tree p ts x)))
unfolding shape_tree is_truth the_truth told
shape-flag p ts n s.True l h = absurd (l.0 refl)
shape-flag p ts n s.False l h = absurd (l.1 refl)
shape-flag p ts n (s.Negation a) l h = absurd (l.2 a refl)
shape-flag p ts n (s.And a b) l h = absurd (l.3 a b refl)
shape-flag p ts n (s.Or a b) l h = absurd (l.4 a b refl)
shape-flag p ts n (s.Implies a b) l h = absurd (l.5 a b refl)
shape-flag p ts n (s.Iff a b) l h = absurd (l.6 a b refl)
shape-flag p ts n (s.EqObject a b) l h = absurd (l.7 a b refl)
shape-flag p ts n (s.EqNumber a b) l h = absurd (l.8 a b refl)
shape-flag p ts n (s.EqSet a b) l h = absurd (l.9 a b refl)
shape-flag p ts n (s.Less a b) l h = absurd (l.10 a b refl)
shape-flag p ts n (s.LessEqual a b) l h = absurd (l.11 a b refl)
shape-flag p ts n (s.Divides z a) l h = absurd (l.12 z a refl)
shape-flag p ts n (s.Member a b) l h = absurd (l.13 a b refl)
shape-flag p ts n (s.Subset a b) l h = absurd (l.14 a b refl)
shape-flag p ts n (s.FreeTruth a) l h = refl
shape-flag p ts n (s.ReadTruth a b) l h = refl
shape-flag p ts n (s.All a) l h = refl
shape-flag p ts n (s.Ex a) l h = refl
shape-flag p ts n (s.Reach fs a b) l h = refl
shape-flag p ts n (s.Tree fs) l h = refl
shape-flag p ts n (s.Mark m a) l h = refl
shape-flag p ts n _ l h = absurd (true≢false (sym h))

pub told-flag : (t : Listing) (i : ℕ) (n : NameLists) (x : Shape) → Stands t i x → is_truth (slice_get (nodes t) i) ≡ true → IsFlag x → q.flag (place_in n.flags (of_truth (the_truth (slice_get (nodes t) i)))) ≡ told n (the_truth (slice_get (nodes t) i))
told-flag t i n x h is l =
    (λ j. q.flag (place_in n.flags (of_truth (the_truth (h.tree j)))))
    ∙ shape-flag t.pools (nodes t) n x l (sym (ap is_truth h.tree) ∙ is)
    ∙ sym (ap (λ v. told n (the_truth v)) h.tree)
