-- An update by its parts.
use Rattle.std.proofs.Common.{◌≡◌, refl, sym, ap, subst, ◌∙◌, ℕ, true, List, slice_get, Some}
use Rattle.jh_form.specs.Tree.{TermTree, FieldTree, ValueTree, of_object, of_field, free_field, update}
use Rattle.jh_arena.specs.table.Entries.{Listing, the_field, the_object, the_value}
use Rattle.jh_arena.specs.table.Growth.{Extends}
use Rattle.jh_arena.specs.table.Nodes.{nodes, shape_tree, tree_in, fits_in}
use Rattle.jh_arena.specs.declared.table.shapes.Shape.{Shape}
use Rattle.jh_arena.specs.declared.table.shapes.Shape.TheVariants as s
use Rattle.jh_arena.proofs.table.PartSteps.{part-Update-a, part-Update-b, part-Update-c}
use Rattle.jh_arena.proofs.table.Children.{it-is-field, it-is-object, it-is-value}
use Rattle.jh_substitution.specs.rewriting.Rewritten.{rewritten_term, rewritten_field, rewritten_value}
use Rattle.jh_approx.specs.jh_derivation_rules.Rules.{described}
use Rattle.jh_fca.specs.local_form.Named.{if_any, name_of, naming, update_fact, is_whole_update}
use Rattle.jh_local_form.specs.declared.updates.facts.NamedUpdate.{NamedUpdate}
use Rattle.jh_local_form.specs.updates.Updating.{Names, named_as, IsNaming}
use Rattle.jh_local_form.specs.updates.NamedUpdates.{HasParts, IsNamedUpdate}
use Rattle.std.proofs.lemmas.Bool.{true≢false}
use Rattle.jh_local_form.proofs.updates.Askings.{else-of}
use Rattle.jh_local_form.proofs.updates.Renamed.{called-at}

value-same : (v w : ValueTree) → Some v ≡ Some w → v ≡ w
value-same v w e = cc

-- the tree of an update, by its shape
update-tree : (t : Listing) (x : Shape) (f a v : ℕ) → x ≡ s.Update f a v → tree_in t x ≡ of_field (update (the_field (slice_get (nodes t) f)) (the_object (slice_get (nodes t) a)) (the_value (slice_get (nodes t) v)))
unfolding shape_tree
update-tree t x f a v e = ap (tree_in t) e

pub update-named : (t u : Listing) (n : Names) (us : List ValueTree) → IsNaming t n us → Extends t u → (i node name : ℕ) (x : Shape) (f a v : ℕ) (made : NamedUpdate) → slice_get n.updates i ≡ Some node → slice_get n.names i ≡ Some name →
    slice_get (nodes t) node ≡ Some (tree_in t x) → fits_in t x ≡ true → x ≡ s.Update f a v → made.name ≡ name →
    ((g : FieldTree) (b : TermTree) (w : ValueTree) → slice_get (nodes t) f ≡ Some (of_field g) → slice_get (nodes t) a ≡ Some (of_object b) → slice_get (nodes t) v ≡ Some w → HasParts (nodes u) made us n.first g b w) →
    (w : ValueTree) × (slice_get us i ≡ Some w) × IsNamedUpdate (nodes u) made us n.first w
update-named t u n us is g i node name x f a v made at as_name tree fits shape same parts =
    let c = called-at t n us is i node name at as_name in
    let fit : fits_in t (s.Update f a v) ≡ true = ap (fits_in t) (sym shape) ∙ fits in (
      c.value,
      c.at,
      record {
        old = the_field (slice_get (nodes t) f);
        object = the_object (slice_get (nodes t) a);
        new = the_value (slice_get (nodes t) v);
        is = value-same c.value (tree_in t x) (sym c.there ∙ tree) ∙ update-tree t x f a v shape;
        named = ap (slice_get (nodes u)) same ∙ g.nodes.keeps name (named_as us n.first c.value) c.called;
        parts = parts (the_field (slice_get (nodes t) f)) (the_object (slice_get (nodes t) a)) (the_value (slice_get (nodes t) v))
            (it-is-field (slice_get (nodes t) f) (part-Update-a t.pools (nodes t) f a v fit))
            (it-is-object (slice_get (nodes t) a) (part-Update-b t.pools (nodes t) f a v fit))
            (it-is-value (slice_get (nodes t) v) (part-Update-c t.pools (nodes t) f a v fit));
      },
    )

-- what an update's name says, by its parts
pub fact-told : (ts : List ValueTree) (us : List ValueTree) (k : ℕ) (u : ValueTree) (x : NamedUpdate) (h : IsNamedUpdate ts x us k u) →
    if_any (described (free_field (name_of us k u)) (rewritten_field h.old (naming us k) 0) (rewritten_term h.object (naming us k) 0) (rewritten_value h.new (naming us k) 0)) ≡ update_fact us k u
unfolding update_fact
fact-told ts us k u x h =
    (λ i. if_any (described (free_field (name_of us k (h.is i))) (rewritten_field h.old (naming us k) 0) (rewritten_term h.object (naming us k) 0) (rewritten_value h.new (naming us k) 0))) ∙ ap (update_fact us k) (sym h.is)

-- what is an update is one by its shape
pub not-else : (t : Listing) (n : ℕ) (x : Shape) (u : ValueTree) → slice_get (nodes t) n ≡ Some (tree_in t x) → ((a b c : ℕ) → x ≡ s.Update a b c → ⊥) → slice_get (nodes t) n ≡ Some u → is_whole_update u ≡ true → ⊥
unfolding the_value
not-else t n x u at other there whole =
    true≢false (sym (ap (λ o. is_whole_update (the_value o)) there ∙ whole) ∙ sym (else-of t.pools (nodes t) (slice_get (nodes t) n) x at other))
