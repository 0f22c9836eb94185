-- What stays while a table grows, and the node that is made of a shape with the answers for its parts.
use Rattle.std.proofs.Common.{◌≡◌, refl, sym, ap, subst, ◌∙◌, ℕ, zero, suc, ◌+◌, ◌<◌, true, List, [], ◌∷◌, arith, length, slice_get, Some}
use Rattle.jh_form.specs.Tree.{ValueTree}
use Rattle.jh_arena.specs.table.Entries.{Listing, is_object}
use Rattle.jh_arena.specs.table.Growth.{Extends}
use Rattle.jh_arena.specs.table.Nodes.{nodes, tree_in}
use Rattle.jh_arena.specs.table.Parts.{parts, binders, IsPut}
use Rattle.jh_arena.specs.declared.table.shapes.Shape.{Shape}
use Rattle.jh_arena.proofs.table.Listed.{tree-grows, fits-grows, parts-grows}
use Rattle.jh_substitution.specs.rewriting.Rewritten.{Rewriting}
use Rattle.jh_substitution.specs.rewriting.Staying.{opening-stays}
use Rattle.jh_substitution.specs.rewriting.Walks.{IsRewritten, AllRewritten}
use Rattle.jh_substitution.proofs.rewriting.Makings.{remade-put, made-rewritten}
use Rattle.jh_substitution.proofs.rewriting.PartRewritings.{Remade}
use Rattle.jh_substitution.proofs.rewriting.Rewritings.{rewritten-grows, all-grows}
use Rattle.jh_substitution.proofs.rewriting.Sorted.{below-grows}
use Rattle.jh_substitution.specs.opening.Openings.{AreOpened, IsInner, IsOpened, opening_with}

pub object-grows : (t u : Listing) (w : ℕ) → Extends t u → is_object (slice_get (nodes t) w) ≡ true → is_object (slice_get (nodes u) w) ≡ true
object-grows t u w g h = (opening-stays w).ready t u g h

pub same-grows : (t u : Listing) (w : ℕ) → Extends t u → is_object (slice_get (nodes t) w) ≡ true → opening_with u w ≡ opening_with t w
same-grows t u w g h = (opening-stays w).same t u g h

pub opened-grows : (t u : Listing) (w k d r : ℕ) → Extends t u → is_object (slice_get (nodes t) w) ≡ true → IsOpened t w k d r → IsOpened u w k d r
opened-grows t u w k d r g h m = rewritten-grows (nodes t) (nodes u) (opening_with t w) (opening_with u w) k d r g.nodes (same-grows t u w g h) m

pub all-opened-grow : (t u : Listing) (w d : ℕ) (ps rs : List ℕ) → Extends t u → is_object (slice_get (nodes t) w) ≡ true → AreOpened t w d ps rs → AreOpened u w d ps rs
all-opened-grow t u w d ps rs g h m = all-grows (nodes t) (nodes u) (opening_with t w) (opening_with u w) d ps rs g.nodes (same-grows t u w g h) m

pub inner-grows : (t u : Listing) (n : ℕ) (x : Shape) → Extends t u → IsInner t n x → IsInner u n x
inner-grows t u n x g h = record {
  there = g.nodes.keeps n (tree_in t x) h.there ∙ ap Some (sym (tree-grows t u x g h.fits));
  fits = fits-grows t u x g h.fits;
  below = below-grows t u n x g h.fits h.below;
  inner = h.inner;
}

-- the parts of the shape of a node stay
pub inner-parts : (t u : Listing) (n : ℕ) (x : Shape) → Extends t u → IsInner t n x → parts u.pools.lists x ≡ parts t.pools.lists x
inner-parts t u n x g h = parts-grows t u x g h.fits

pub same-some : (a b : ℕ) → Some a ≡ Some b → a ≡ b
same-some a b e = cc

pub at-inside : (ps : List ℕ) (i : ℕ) → i < length ps → (p : ℕ) × (slice_get ps i ≡ Some p)
at-inside [] i lt = absurd (omega (arith, lt))
at-inside (x ∷ ps) zero lt = (x, refl)
at-inside (x ∷ ps) (suc i) lt = at-inside ps i (omega (arith, lt))

-- the answers for one part, and for two
pub one-opened : (l : Rewriting) (ts : List ValueTree) (d : ℕ) (ps : List ℕ) (r : ℕ) → length ps ≡ 1 →
    ((p : ℕ) → slice_get ps 0 ≡ Some p → IsRewritten l ts p d r) → AllRewritten l ts d ps (r ∷ [])
one-opened l ts d [] r e f = absurd (omega (arith, e))
one-opened l ts d (p ∷ []) r e f = (f p refl, tt)
one-opened l ts d (p ∷ q ∷ ps) r e f = absurd (omega (arith, e))

pub two-opened : (l : Rewriting) (ts : List ValueTree) (d : ℕ) (ps : List ℕ) (r s : ℕ) → length ps ≡ 2 →
    ((p : ℕ) → slice_get ps 0 ≡ Some p → IsRewritten l ts p d r) → ((p : ℕ) → slice_get ps 1 ≡ Some p → IsRewritten l ts p d s) → AllRewritten l ts d ps (r ∷ s ∷ [])
two-opened l ts d [] r s e f g = absurd (omega (arith, e))
two-opened l ts d (p ∷ []) r s e f g = absurd (omega (arith, e))
two-opened l ts d (p ∷ q ∷ []) r s e f g = (f p refl, (g q refl, tt))
two-opened l ts d (p ∷ q ∷ o ∷ ps) r s e f g = absurd (omega (arith, e))

-- the shape over the answers for its parts
pub shape-opened : (t v : Listing) (w d n : ℕ) (x y : Shape) (xs : List ℕ) → Extends t v → is_object (slice_get (nodes t) w) ≡ true → IsInner t n x →
    AreOpened t w (d + binders x) (parts t.pools.lists x) xs → IsPut v.pools.lists xs x y → Remade v.pools v.pools (nodes v) (opening_with v w) d x y
shape-opened t v w d n x y xs g object inner all put =
    let later : AreOpened v w (d + binders x) (parts t.pools.lists x) xs = all-opened-grow t v w (d + binders x) (parts t.pools.lists x) xs g object all in
    let here : AreOpened v w (d + binders x) (parts v.pools.lists x) xs = subst (λ (ps : List ℕ). AreOpened v w (d + binders x) ps xs) (sym (parts-grows t v x g inner.fits)) later in
    remade-put v (opening_with v w) d (d + binders x) x y xs inner.inner refl (fits-grows t v x g inner.fits) refl here put

-- its node
pub made-opened : (t u v : Listing) (w n d r : ℕ) (x y : Shape) → Extends t u → Extends u v → is_object (slice_get (nodes u) w) ≡ true → IsInner t n x →
    Remade u.pools u.pools (nodes u) (opening_with u w) d x y → slice_get (nodes v) r ≡ Some (tree_in u y) → IsOpened v w n d r
made-opened t u v w n d r x y g h object inner made e =
    made-rewritten t u v (opening_with u w) (opening_with v w) n d r x y g h inner.fits inner.there made (same-grows u v w h object) e
