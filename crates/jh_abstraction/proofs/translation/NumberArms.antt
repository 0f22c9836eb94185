-- What stands for a number, by its shape.
use Rattle.std.proofs.Common.{◌≡◌, refl, sym, ap, ◌∙◌, ℕ, ℤ, ◌<◌, true, List, Some, slice_get}
use Rattle.std.proofs.lemmas.Bool.{true≢false}
use Rattle.jh_form.specs.Tree.{ValueTree, of_number}
use Rattle.jh_arena.specs.table.Entries.{Pools, Listing, is_number, the_number, the_set}
use Rattle.jh_arena.specs.table.Nodes.{nodes, shape_tree}
use Rattle.jh_arena.specs.declared.table.shapes.Shape.{Shape}
use Rattle.jh_arena.specs.declared.table.shapes.Shape.TheVariants as s
use Rattle.jh_export.specs.Standing.{Stands}
use Rattle.jh_export.proofs.Places.{int-inside}
use Rattle.jh_export.proofs.ValueSteps.{stands-Const, stands-Add, stands-Sub, sort-Add-a, sort-Sub-a, sort-Add-b, sort-Sub-b, below-Add-a, below-Sub-a, below-Add-b, below-Sub-b, stands-Neg, sort-Neg-a, below-Neg-a, stands-Scale, sort-Scale-a, below-Scale-a, stands-Card, sort-Card-a}
use Rattle.jh_query.specs.queries.Tree as q
use Rattle.jh_approx.specs.definition.Names.{NameLists, place_in}
use Rattle.jh_approx.specs.definition.Told.{told_set, told_number}
use Rattle.jh_abstraction.specs.declared.translation.numbers.Sign.{Sign}
use Rattle.jh_abstraction.specs.declared.translation.numbers.Sign.TheVariants as g
use Rattle.jh_abstraction.specs.translation.Operators.{number_shape, joined_numbers}

module _ (t : Listing) (i : ℕ) where
  pub joined-a : (f : Sign) (a b : ℕ) → Stands t i (number_shape f a b) → is_number (slice_get (nodes t) a) ≡ true
  joined-a g.Plus a b h = sort-Add-a t i a b h
  joined-a g.Minus a b h = sort-Sub-a t i a b h

  pub joined-b : (f : Sign) (a b : ℕ) → Stands t i (number_shape f a b) → is_number (slice_get (nodes t) b) ≡ true
  joined-b g.Plus a b h = sort-Add-b t i a b h
  joined-b g.Minus a b h = sort-Sub-b t i a b h

  pub joined-below-a : (f : Sign) (a b : ℕ) → Stands t i (number_shape f a b) → a < i
  joined-below-a g.Plus a b h = below-Add-a t i a b h
  joined-below-a g.Minus a b h = below-Sub-a t i a b h

  pub joined-below-b : (f : Sign) (a b : ℕ) → Stands t i (number_shape f a b) → b < i
  joined-below-b g.Plus a b h = below-Add-b t i a b h
  joined-below-b g.Minus a b h = below-Sub-b t i a b h

  module _ (n : NameLists) where
    pub told-joined : (f : Sign) (a b : ℕ) → Stands t i (number_shape f a b) → joined_numbers f (told_number n (the_number (slice_get (nodes t) a))) (told_number n (the_number (slice_get (nodes t) b))) ≡ told_number n (the_number (slice_get (nodes t) i))
    unfolding told_number
    told-joined g.Plus a b h = ap (told_number n) (stands-Add t i a b h)
    told-joined g.Minus a b h = ap (told_number n) (stands-Sub t i a b h)

    pub told-neg : (a : ℕ) → Stands t i (s.Neg a) → q.neg (told_number n (the_number (slice_get (nodes t) a))) ≡ told_number n (the_number (slice_get (nodes t) i))
    unfolding told_number
    told-neg a h = ap (told_number n) (stands-Neg t i a h)

    pub told-scale : (z : ℤ) (a : ℕ) → Stands t i (s.Scale z a) → q.scale z (told_number n (the_number (slice_get (nodes t) a))) ≡ told_number n (the_number (slice_get (nodes t) i))
    unfolding told_number
    told-scale z a h = ap (told_number n) (stands-Scale t i z a h)

    pub told-card : (a : ℕ) → Stands t i (s.Card a) → q.card (told_set n (the_set (slice_get (nodes t) a))) ≡ told_number n (the_number (slice_get (nodes t) i))
    unfolding told_number
    told-card a h = ap (told_number n) (stands-Card t i a h)

    pub told-const : (z : ℤ) → Stands t i (s.Const z) → q.const z ≡ told_number n (the_number (slice_get (nodes t) i))
    unfolding told_number
    told-const z h = ap (told_number n) (stands-Const t i z h)

pub ruleset joined_steps = (joined-a, joined-b, joined-below-a, joined-below-b, told-joined)

pub ruleset negative_steps = (sort-Neg-a, below-Neg-a, told-neg)

pub ruleset scale_steps = (sort-Scale-a, below-Scale-a, told-scale)

pub ruleset card_steps = (sort-Card-a, told-card)

pub ruleset number_steps = (int-inside, told-const)

-- ---- what has a name

abbrev pub IsNamed : Shape → Type 0
IsNamed x = ((z : ℤ) → x ≡ s.Const z → ⊥) × ((a b : ℕ) → x ≡ s.Add a b → ⊥) × ((a b : ℕ) → x ≡ s.Sub a b → ⊥) × ((a : ℕ) → x ≡ s.Neg a → ⊥) × ((z : ℤ) (a : ℕ) → x ≡ s.Scale z a → ⊥) × ((a : ℕ) → x ≡ s.Card a → ⊥)

shape-named : (p : Pools) (ts : List ValueTree) (n : NameLists) (x : Shape) → IsNamed x → is_number (Some (shape_tree p ts x)) ≡ true → q.number (place_in n.numbers (of_number (the_number (Some (shape_tree p ts x))))) ≡ told_number n (the_number (Some (shape_tree p ts x)))
unfolding shape_tree is_number the_number told_number
shape-named p ts n (s.FreeNumber a) l h = refl
shape-named p ts n (s.ReadNumber a b) l h = refl
shape-named p ts n (s.Const z) l h = absurd (l.0 z refl)
shape-named p ts n (s.Add a b) l h = absurd (l.1 a b refl)
shape-named p ts n (s.Sub a b) l h = absurd (l.2 a b refl)
shape-named p ts n (s.Neg a) l h = absurd (l.3 a refl)
shape-named p ts n (s.Scale z a) l h = absurd (l.4 z a refl)
shape-named p ts n (s.Card a) l h = absurd (l.5 a refl)
shape-named p ts n _ l h = absurd (true≢false (sym h))

pub told-named : (t : Listing) (i : ℕ) (n : NameLists) (x : Shape) → Stands t i x → is_number (slice_get (nodes t) i) ≡ true → IsNamed x → q.number (place_in n.numbers (of_number (the_number (slice_get (nodes t) i)))) ≡ told_number n (the_number (slice_get (nodes t) i))
told-named t i n x h is l =
    (λ j. q.number (place_in n.numbers (of_number (the_number (h.tree j)))))
    ∙ shape-named t.pools (nodes t) n x l (sym (ap is_number h.tree) ∙ is)
    ∙ sym (ap (λ v. told_number n (the_number v)) h.tree)
