-- A shape's list of fields, by its number.
use Rattle.std.proofs.Common.{◌≡◌, refl, sym, ap, ◌∙◌, ℕ, ◌<◌, true, false, List, [], length, slice_get, Some, None, arith}
use Rattle.std.proofs.lemmas.Bool.{true≢false}
use Rattle.jh_arena.specs.table.Entries.{Listing, the_list}
use Rattle.jh_arena.specs.declared.table.shapes.Shape.{Shape}
use Rattle.jh_arena.specs.declared.table.shapes.Shape.TheVariants as s
use Rattle.jh_arena.specs.table.Nodes.{nodes, fits_in}
use Rattle.jh_arena.specs.table.Parts.{list_of, list_parts, has_list}
use Rattle.jh_arena.proofs.table.Below.{inside}
use Rattle.jh_arena.proofs.table.PartSteps.{part-Reach-l, part-Tree-l}

pub list-inside : (t : Listing) (x : Shape) (j : ℕ) → fits_in t x ≡ true → Some j ≡ list_of x → j < length t.pools.lists
unfolding list_of
list-inside t (s.Bound k) j f h = absurd (cc)
list-inside t (s.FreeObject n) j f h = absurd (cc)
list-inside t s.Null j f h = absurd (cc)
list-inside t (s.ReadObject a b) j f h = absurd (cc)
list-inside t (s.Const z) j f h = absurd (cc)
list-inside t (s.FreeNumber n) j f h = absurd (cc)
list-inside t (s.ReadNumber a b) j f h = absurd (cc)
list-inside t (s.Add a b) j f h = absurd (cc)
list-inside t (s.Sub a b) j f h = absurd (cc)
list-inside t (s.Neg a) j f h = absurd (cc)
list-inside t (s.Scale z a) j f h = absurd (cc)
list-inside t (s.Card a) j f h = absurd (cc)
list-inside t (s.FreeSet n) j f h = absurd (cc)
list-inside t (s.ReadSet a b) j f h = absurd (cc)
list-inside t s.Empty j f h = absurd (cc)
list-inside t s.Univ j f h = absurd (cc)
list-inside t (s.Single a) j f h = absurd (cc)
list-inside t (s.Union a b) j f h = absurd (cc)
list-inside t (s.Inter a b) j f h = absurd (cc)
list-inside t (s.Diff a b) j f h = absurd (cc)
list-inside t (s.Compl a) j f h = absurd (cc)
list-inside t (s.Compr a) j f h = absurd (cc)
list-inside t (s.FreeField n) j f h = absurd (cc)
list-inside t (s.Update a b c) j f h = absurd (cc)
list-inside t s.True j f h = absurd (cc)
list-inside t s.False j f h = absurd (cc)
list-inside t (s.FreeTruth n) j f h = absurd (cc)
list-inside t (s.ReadTruth a b) j f h = absurd (cc)
list-inside t (s.Negation a) j f h = absurd (cc)
list-inside t (s.And a b) j f h = absurd (cc)
list-inside t (s.Or a b) j f h = absurd (cc)
list-inside t (s.Implies a b) j f h = absurd (cc)
list-inside t (s.Iff a b) j f h = absurd (cc)
list-inside t (s.All a) j f h = absurd (cc)
list-inside t (s.Ex a) j f h = absurd (cc)
list-inside t (s.EqObject a b) j f h = absurd (cc)
list-inside t (s.EqNumber a b) j f h = absurd (cc)
list-inside t (s.EqSet a b) j f h = absurd (cc)
list-inside t (s.Less a b) j f h = absurd (cc)
list-inside t (s.LessEqual a b) j f h = absurd (cc)
list-inside t (s.Divides z a) j f h = absurd (cc)
list-inside t (s.Member a b) j f h = absurd (cc)
list-inside t (s.Subset a b) j f h = absurd (cc)
list-inside t (s.Reach l a b) j f h = let same : j ≡ l = cc in let within : l < length t.pools.lists = inside t.pools.lists l (part-Reach-l t.pools (nodes t) l a b f) in omega arith
list-inside t (s.Tree l) j f h = let same : j ≡ l = cc in let within : l < length t.pools.lists = inside t.pools.lists l (part-Tree-l t.pools (nodes t) l f) in omega arith
list-inside t (s.Mark m a) j f h = absurd (cc)

pub list-parts : (ls : List (List ℕ)) (x : Shape) (j : ℕ) (ns : List ℕ) → Some j ≡ list_of x → slice_get ls j ≡ Some ns → ns ≡ list_parts ls x
unfolding list_of list_parts the_list
list-parts ls (s.Bound k) j ns h e = absurd (cc)
list-parts ls (s.FreeObject n) j ns h e = absurd (cc)
list-parts ls s.Null j ns h e = absurd (cc)
list-parts ls (s.ReadObject a b) j ns h e = absurd (cc)
list-parts ls (s.Const z) j ns h e = absurd (cc)
list-parts ls (s.FreeNumber n) j ns h e = absurd (cc)
list-parts ls (s.ReadNumber a b) j ns h e = absurd (cc)
list-parts ls (s.Add a b) j ns h e = absurd (cc)
list-parts ls (s.Sub a b) j ns h e = absurd (cc)
list-parts ls (s.Neg a) j ns h e = absurd (cc)
list-parts ls (s.Scale z a) j ns h e = absurd (cc)
list-parts ls (s.Card a) j ns h e = absurd (cc)
list-parts ls (s.FreeSet n) j ns h e = absurd (cc)
list-parts ls (s.ReadSet a b) j ns h e = absurd (cc)
list-parts ls s.Empty j ns h e = absurd (cc)
list-parts ls s.Univ j ns h e = absurd (cc)
list-parts ls (s.Single a) j ns h e = absurd (cc)
list-parts ls (s.Union a b) j ns h e = absurd (cc)
list-parts ls (s.Inter a b) j ns h e = absurd (cc)
list-parts ls (s.Diff a b) j ns h e = absurd (cc)
list-parts ls (s.Compl a) j ns h e = absurd (cc)
list-parts ls (s.Compr a) j ns h e = absurd (cc)
list-parts ls (s.FreeField n) j ns h e = absurd (cc)
list-parts ls (s.Update a b c) j ns h e = absurd (cc)
list-parts ls s.True j ns h e = absurd (cc)
list-parts ls s.False j ns h e = absurd (cc)
list-parts ls (s.FreeTruth n) j ns h e = absurd (cc)
list-parts ls (s.ReadTruth a b) j ns h e = absurd (cc)
list-parts ls (s.Negation a) j ns h e = absurd (cc)
list-parts ls (s.And a b) j ns h e = absurd (cc)
list-parts ls (s.Or a b) j ns h e = absurd (cc)
list-parts ls (s.Implies a b) j ns h e = absurd (cc)
list-parts ls (s.Iff a b) j ns h e = absurd (cc)
list-parts ls (s.All a) j ns h e = absurd (cc)
list-parts ls (s.Ex a) j ns h e = absurd (cc)
list-parts ls (s.EqObject a b) j ns h e = absurd (cc)
list-parts ls (s.EqNumber a b) j ns h e = absurd (cc)
list-parts ls (s.EqSet a b) j ns h e = absurd (cc)
list-parts ls (s.Less a b) j ns h e = absurd (cc)
list-parts ls (s.LessEqual a b) j ns h e = absurd (cc)
list-parts ls (s.Divides z a) j ns h e = absurd (cc)
list-parts ls (s.Member a b) j ns h e = absurd (cc)
list-parts ls (s.Subset a b) j ns h e = absurd (cc)
list-parts ls (s.Reach l a b) j ns h e = let same : j ≡ l = cc in sym (ap the_list (ap (slice_get ls) (sym same) ∙ e))
list-parts ls (s.Tree l) j ns h e = let same : j ≡ l = cc in sym (ap the_list (ap (slice_get ls) (sym same) ∙ e))
list-parts ls (s.Mark m a) j ns h e = absurd (cc)

pub list-none : (ls : List (List ℕ)) (x : Shape) → None ≡ list_of x → [] ≡ list_parts ls x
unfolding list_of list_parts
list-none ls (s.Bound k) h = refl
list-none ls (s.FreeObject n) h = refl
list-none ls s.Null h = refl
list-none ls (s.ReadObject a b) h = refl
list-none ls (s.Const z) h = refl
list-none ls (s.FreeNumber n) h = refl
list-none ls (s.ReadNumber a b) h = refl
list-none ls (s.Add a b) h = refl
list-none ls (s.Sub a b) h = refl
list-none ls (s.Neg a) h = refl
list-none ls (s.Scale z a) h = refl
list-none ls (s.Card a) h = refl
list-none ls (s.FreeSet n) h = refl
list-none ls (s.ReadSet a b) h = refl
list-none ls s.Empty h = refl
list-none ls s.Univ h = refl
list-none ls (s.Single a) h = refl
list-none ls (s.Union a b) h = refl
list-none ls (s.Inter a b) h = refl
list-none ls (s.Diff a b) h = refl
list-none ls (s.Compl a) h = refl
list-none ls (s.Compr a) h = refl
list-none ls (s.FreeField n) h = refl
list-none ls (s.Update a b c) h = refl
list-none ls s.True h = refl
list-none ls s.False h = refl
list-none ls (s.FreeTruth n) h = refl
list-none ls (s.ReadTruth a b) h = refl
list-none ls (s.Negation a) h = refl
list-none ls (s.And a b) h = refl
list-none ls (s.Or a b) h = refl
list-none ls (s.Implies a b) h = refl
list-none ls (s.Iff a b) h = refl
list-none ls (s.All a) h = refl
list-none ls (s.Ex a) h = refl
list-none ls (s.EqObject a b) h = refl
list-none ls (s.EqNumber a b) h = refl
list-none ls (s.EqSet a b) h = refl
list-none ls (s.Less a b) h = refl
list-none ls (s.LessEqual a b) h = refl
list-none ls (s.Divides z a) h = refl
list-none ls (s.Member a b) h = refl
list-none ls (s.Subset a b) h = refl
list-none ls (s.Reach l a b) h = absurd (cc)
list-none ls (s.Tree l) h = absurd (cc)
list-none ls (s.Mark m a) h = refl

pub list-lacks : (x : Shape) → None ≡ list_of x → has_list x ≡ true → ⊥
unfolding list_of has_list
list-lacks (s.Bound k) h g = true≢false (sym g)
list-lacks (s.FreeObject n) h g = true≢false (sym g)
list-lacks s.Null h g = true≢false (sym g)
list-lacks (s.ReadObject a b) h g = true≢false (sym g)
list-lacks (s.Const z) h g = true≢false (sym g)
list-lacks (s.FreeNumber n) h g = true≢false (sym g)
list-lacks (s.ReadNumber a b) h g = true≢false (sym g)
list-lacks (s.Add a b) h g = true≢false (sym g)
list-lacks (s.Sub a b) h g = true≢false (sym g)
list-lacks (s.Neg a) h g = true≢false (sym g)
list-lacks (s.Scale z a) h g = true≢false (sym g)
list-lacks (s.Card a) h g = true≢false (sym g)
list-lacks (s.FreeSet n) h g = true≢false (sym g)
list-lacks (s.ReadSet a b) h g = true≢false (sym g)
list-lacks s.Empty h g = true≢false (sym g)
list-lacks s.Univ h g = true≢false (sym g)
list-lacks (s.Single a) h g = true≢false (sym g)
list-lacks (s.Union a b) h g = true≢false (sym g)
list-lacks (s.Inter a b) h g = true≢false (sym g)
list-lacks (s.Diff a b) h g = true≢false (sym g)
list-lacks (s.Compl a) h g = true≢false (sym g)
list-lacks (s.Compr a) h g = true≢false (sym g)
list-lacks (s.FreeField n) h g = true≢false (sym g)
list-lacks (s.Update a b c) h g = true≢false (sym g)
list-lacks s.True h g = true≢false (sym g)
list-lacks s.False h g = true≢false (sym g)
list-lacks (s.FreeTruth n) h g = true≢false (sym g)
list-lacks (s.ReadTruth a b) h g = true≢false (sym g)
list-lacks (s.Negation a) h g = true≢false (sym g)
list-lacks (s.And a b) h g = true≢false (sym g)
list-lacks (s.Or a b) h g = true≢false (sym g)
list-lacks (s.Implies a b) h g = true≢false (sym g)
list-lacks (s.Iff a b) h g = true≢false (sym g)
list-lacks (s.All a) h g = true≢false (sym g)
list-lacks (s.Ex a) h g = true≢false (sym g)
list-lacks (s.EqObject a b) h g = true≢false (sym g)
list-lacks (s.EqNumber a b) h g = true≢false (sym g)
list-lacks (s.EqSet a b) h g = true≢false (sym g)
list-lacks (s.Less a b) h g = true≢false (sym g)
list-lacks (s.LessEqual a b) h g = true≢false (sym g)
list-lacks (s.Divides z a) h g = true≢false (sym g)
list-lacks (s.Member a b) h g = true≢false (sym g)
list-lacks (s.Subset a b) h g = true≢false (sym g)
list-lacks (s.Reach l a b) h g = cc
list-lacks (s.Tree l) h g = cc
list-lacks (s.Mark m a) h g = true≢false (sym g)

pub list_parts-none : (ls : List (List ℕ)) (x : Shape) → has_list x ≡ false → list_parts ls x ≡ []
unfolding list_parts has_list
list_parts-none ls (s.Bound k) h = refl
list_parts-none ls (s.FreeObject n) h = refl
list_parts-none ls s.Null h = refl
list_parts-none ls (s.ReadObject a b) h = refl
list_parts-none ls (s.Const z) h = refl
list_parts-none ls (s.FreeNumber n) h = refl
list_parts-none ls (s.ReadNumber a b) h = refl
list_parts-none ls (s.Add a b) h = refl
list_parts-none ls (s.Sub a b) h = refl
list_parts-none ls (s.Neg a) h = refl
list_parts-none ls (s.Scale z a) h = refl
list_parts-none ls (s.Card a) h = refl
list_parts-none ls (s.FreeSet n) h = refl
list_parts-none ls (s.ReadSet a b) h = refl
list_parts-none ls s.Empty h = refl
list_parts-none ls s.Univ h = refl
list_parts-none ls (s.Single a) h = refl
list_parts-none ls (s.Union a b) h = refl
list_parts-none ls (s.Inter a b) h = refl
list_parts-none ls (s.Diff a b) h = refl
list_parts-none ls (s.Compl a) h = refl
list_parts-none ls (s.Compr a) h = refl
list_parts-none ls (s.FreeField n) h = refl
list_parts-none ls (s.Update a b c) h = refl
list_parts-none ls s.True h = refl
list_parts-none ls s.False h = refl
list_parts-none ls (s.FreeTruth n) h = refl
list_parts-none ls (s.ReadTruth a b) h = refl
list_parts-none ls (s.Negation a) h = refl
list_parts-none ls (s.And a b) h = refl
list_parts-none ls (s.Or a b) h = refl
list_parts-none ls (s.Implies a b) h = refl
list_parts-none ls (s.Iff a b) h = refl
list_parts-none ls (s.All a) h = refl
list_parts-none ls (s.Ex a) h = refl
list_parts-none ls (s.EqObject a b) h = refl
list_parts-none ls (s.EqNumber a b) h = refl
list_parts-none ls (s.EqSet a b) h = refl
list_parts-none ls (s.Less a b) h = refl
list_parts-none ls (s.LessEqual a b) h = refl
list_parts-none ls (s.Divides z a) h = refl
list_parts-none ls (s.Member a b) h = refl
list_parts-none ls (s.Subset a b) h = refl
list_parts-none ls (s.Reach l a b) h = absurd (true≢false h)
list_parts-none ls (s.Tree l) h = absurd (true≢false h)
list_parts-none ls (s.Mark m a) h = refl
