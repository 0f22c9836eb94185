-- What stands for an atom, by its shape.
use Rattle.std.proofs.Common.{◌≡◌, ap, ℕ, ℤ, true, slice_get}
use Rattle.jh_form.specs.Tree.{of_object}
use Rattle.jh_arena.specs.table.Entries.{Listing, is_number, is_set, the_object, the_number, the_set, the_truth}
use Rattle.jh_arena.specs.table.Nodes.{nodes}
use Rattle.jh_arena.specs.declared.table.shapes.Shape.TheVariants as s
use Rattle.jh_export.specs.Standing.{Stands}
use Rattle.jh_export.proofs.ValueSteps.{stands-EqObject, sort-EqObject-a, sort-EqObject-b, stands-Member, sort-Member-a, sort-Member-b, stands-EqNumber, stands-Less, sort-EqNumber-a, sort-EqNumber-b, sort-Less-a, sort-Less-b, stands-LessEqual, sort-LessEqual-a, sort-LessEqual-b, stands-EqSet, stands-Subset, sort-EqSet-a, sort-EqSet-b, sort-Subset-a, sort-Subset-b, stands-Divides, sort-Divides-a}
use Rattle.jh_query.specs.queries.Tree as q
use Rattle.jh_approx.specs.definition.Names.{NameLists, place_in}
use Rattle.jh_approx.specs.definition.Told.{told_set, told_number, told}
use Rattle.jh_abstraction.specs.declared.translation.atoms.Comparison.{Comparison}
use Rattle.jh_abstraction.specs.declared.translation.atoms.Comparison.TheVariants as c
use Rattle.jh_abstraction.specs.declared.translation.atoms.Relation.{Relation}
use Rattle.jh_abstraction.specs.declared.translation.atoms.Relation.TheVariants as r
use Rattle.jh_abstraction.specs.translation.Operators.{comparison_shape, compared_numbers, relation_shape, related_sets}

module _ (t : Listing) (i : ℕ) where
  pub compared-a : (f : Comparison) (a b : ℕ) → Stands t i (comparison_shape f a b) → is_number (slice_get (nodes t) a) ≡ true
  compared-a c.Equal a b h = sort-EqNumber-a t i a b h
  compared-a c.Less a b h = sort-Less-a t i a b h

  pub compared-b : (f : Comparison) (a b : ℕ) → Stands t i (comparison_shape f a b) → is_number (slice_get (nodes t) b) ≡ true
  compared-b c.Equal a b h = sort-EqNumber-b t i a b h
  compared-b c.Less a b h = sort-Less-b t i a b h

  pub related-a : (f : Relation) (a b : ℕ) → Stands t i (relation_shape f a b) → is_set (slice_get (nodes t) a) ≡ true
  related-a r.Equal a b h = sort-EqSet-a t i a b h
  related-a r.Within a b h = sort-Subset-a t i a b h

  pub related-b : (f : Relation) (a b : ℕ) → Stands t i (relation_shape f a b) → is_set (slice_get (nodes t) b) ≡ true
  related-b r.Equal a b h = sort-EqSet-b t i a b h
  related-b r.Within a b h = sort-Subset-b t i a b h

  module _ (n : NameLists) where
    pub told-compared : (f : Comparison) (a b : ℕ) → Stands t i (comparison_shape f a b) → compared_numbers f (told_number n (the_number (slice_get (nodes t) a))) (told_number n (the_number (slice_get (nodes t) b))) ≡ told n (the_truth (slice_get (nodes t) i))
    unfolding told
    told-compared c.Equal a b h = ap (told n) (stands-EqNumber t i a b h)
    told-compared c.Less a b h = ap (told n) (stands-Less t i a b h)

    pub told-related : (f : Relation) (a b : ℕ) → Stands t i (relation_shape f a b) → related_sets f (told_set n (the_set (slice_get (nodes t) a))) (told_set n (the_set (slice_get (nodes t) b))) ≡ told n (the_truth (slice_get (nodes t) i))
    unfolding told
    told-related r.Equal a b h = ap (told n) (stands-EqSet t i a b h)
    told-related r.Within a b h = ap (told n) (stands-Subset t i a b h)

    pub told-at-most : (a b : ℕ) → Stands t i (s.LessEqual a b) → q.negation (q.less_num (told_number n (the_number (slice_get (nodes t) b))) (told_number n (the_number (slice_get (nodes t) a)))) ≡ told n (the_truth (slice_get (nodes t) i))
    unfolding told
    told-at-most a b h = ap (told n) (stands-LessEqual t i a b h)

    pub told-elements : (a b : ℕ) → Stands t i (s.EqObject a b) → q.same_element (place_in n.elements (of_object (the_object (slice_get (nodes t) a)))) (place_in n.elements (of_object (the_object (slice_get (nodes t) b)))) ≡ told n (the_truth (slice_get (nodes t) i))
    unfolding told
    told-elements a b h = ap (told n) (stands-EqObject t i a b h)

    pub told-member : (a b : ℕ) → Stands t i (s.Member a b) → q.member (place_in n.elements (of_object (the_object (slice_get (nodes t) a)))) (told_set n (the_set (slice_get (nodes t) b))) ≡ told n (the_truth (slice_get (nodes t) i))
    unfolding told
    told-member a b h = ap (told n) (stands-Member t i a b h)

    pub told-divides : (z : ℤ) (a : ℕ) → Stands t i (s.Divides z a) → q.divides z (told_number n (the_number (slice_get (nodes t) a))) ≡ told n (the_truth (slice_get (nodes t) i))
    unfolding told
    told-divides z a h = ap (told n) (stands-Divides t i z a h)

pub ruleset comparison_steps = (compared-a, compared-b, told-compared)

pub ruleset relation_steps = (related-a, related-b, told-related)

pub ruleset at_most_steps = (sort-LessEqual-a, sort-LessEqual-b, told-at-most)

pub ruleset element_steps = (sort-EqObject-a, sort-EqObject-b, told-elements)

pub ruleset member_steps = (sort-Member-a, sort-Member-b, told-member)

pub ruleset divides_steps = (sort-Divides-a, told-divides)
