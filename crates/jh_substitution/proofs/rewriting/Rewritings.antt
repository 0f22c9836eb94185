-- How answers stay right while a table grows.
use Rattle.std.proofs.Common.{◌≡◌, refl, sym, ap, subst, ◌∙◌, ℕ, suc, true, List, [], ◌∷◌, ◌++◌, length, slice_get, ◌⊎◌, inl, inr, Option, Some, None, is_some, option_map, Result, Ok, Err, OnOk}
use Rattle.jh_form.specs.Tree.{ValueTree}
use Rattle.jh_substitution.specs.rewriting.Rewritten.{Rewriting, rewritten_value}
use Rattle.jh_arena.specs.table.Entries.{Listing}
use Rattle.jh_arena.specs.table.Growth.{Grows, Extends}
use Rattle.jh_arena.specs.table.Nodes.{nodes}
use Rattle.jh_substitution.specs.declared.rewriting.memo.Key.{Key}
use Rattle.jh_substitution.specs.rewriting.Staying.{grown}
use Rattle.jh_substitution.specs.rewriting.Walks.{Stays, IsRewritten, AllRewritten, Holds}

rewritten_some : (f : ValueTree → ValueTree) (o : Option ValueTree) → is_some (option_map f o) ≡ is_some o
rewritten_some f (Some v) = refl
rewritten_some f None = refl

-- an answer is a place of the list
pub rewritten-there : (l : Rewriting) (ts : List ValueTree) (k d r : ℕ) → IsRewritten l ts k d r → is_some (slice_get ts r) ≡ true
rewritten-there l ts k d r m = ap is_some m.is ∙ rewritten_some (λ v. rewritten_value v l d) (slice_get ts k) ∙ m.there

pub rewritten-grows : (old new : List ValueTree) (l m : Rewriting) (k d r : ℕ) → Grows old new → m ≡ l → IsRewritten l old k d r → IsRewritten m new k d r
rewritten-grows old new l m k d r g same h =
    let stays : slice_get new k ≡ slice_get old k = grown old new k g h.there in
    record {
      there = ap is_some stays ∙ h.there;
      is = grown old new r g (rewritten-there l old k d r h) ∙ h.is ∙ (λ i. option_map (λ v. rewritten_value v (sym same i) d) (sym stays i));
    }

pub all-grows : (old new : List ValueTree) (l m : Rewriting) (d : ℕ) (ps rs : List ℕ) → Grows old new → m ≡ l → AllRewritten l old d ps rs → AllRewritten m new d ps rs
all-grows old new l m d [] [] g same h = tt
all-grows old new l m d [] (r ∷ rs) g same h = h
all-grows old new l m d (p ∷ ps) [] g same h = h
all-grows old new l m d (p ∷ ps) (r ∷ rs) g same h = (rewritten-grows old new l m p d r g same h.0, all-grows old new l m d ps rs g same h.1)

pub all-push : (ts : List ValueTree) (l : Rewriting) (d : ℕ) (ps rs : List ℕ) (p r : ℕ) → AllRewritten l ts d ps rs → IsRewritten l ts p d r → AllRewritten l ts d (ps ++ p ∷ []) (rs ++ r ∷ [])
all-push ts l d [] [] p r h m = (m, tt)
all-push ts l d [] (x ∷ rs) p r h m = absurd h
all-push ts l d (x ∷ ps) [] p r h m = absurd h
all-push ts l d (x ∷ ps) (y ∷ rs) p r h m = (h.0, all-push ts l d ps rs p r h.1 m)

pub all-length : (ts : List ValueTree) (l : Rewriting) (d : ℕ) (ps rs : List ℕ) → AllRewritten l ts d ps rs → length rs ≡ length ps
all-length ts l d [] [] h = refl
all-length ts l d [] (x ∷ rs) h = absurd h
all-length ts l d (x ∷ ps) [] h = absurd h
all-length ts l d (x ∷ ps) (y ∷ rs) h = ap suc (all-length ts l d ps rs h.1)

-- the memo's answers
pub holds-grows : (ready : Listing → Type 0) (rewriting : Listing → Rewriting) (old new : Listing) (find : Key → Option ℕ) →
    Stays ready rewriting → Extends old new → Holds ready rewriting old find → Holds ready rewriting new find
holds-grows ready rewriting old new find stays g h = record {
  ready = stays.ready old new g h.ready;
  at = λ k r e. rewritten-grows (nodes old) (nodes new) (rewriting old) (rewriting new) k.node k.depth r g.nodes (stays.same old new g h.ready) (h.at k r e);
}

nothing : (o : Option ℕ) (r : ℕ) → o ≡ None → o ≡ Some r → ⊥
nothing o r e f = cc

pub holds-none : (ready : Listing → Type 0) (rewriting : Listing → Rewriting) (t : Listing) (find : Key → Option ℕ) → ready t →
    ((k : Key) → find k ≡ None) → Holds ready rewriting t find
holds-none ready rewriting t find h empty = record { ready = h; at = λ k r e. absurd (nothing (find k) r (empty k) e) }

noted : (ready : Listing → Type 0) (rewriting : Listing → Rewriting) (t : Listing) (key k : Key) (answer r : ℕ) (old : Option ℕ) →
    IsRewritten (rewriting t) (nodes t) key.node key.depth answer → (old ≡ Some r → IsRewritten (rewriting t) (nodes t) k.node k.depth r) →
    ((k ≡ key) × (r ≡ answer)) ⊎ (old ≡ Some r) → IsRewritten (rewriting t) (nodes t) k.node k.depth r
noted ready rewriting t key k answer r old m h (inl e) =
    let at_key : IsRewritten (rewriting t) (nodes t) k.node k.depth answer = subst (λ (q : Key). IsRewritten (rewriting t) (nodes t) q.node q.depth answer) (sym e.0) m in
    subst (λ (x : ℕ). IsRewritten (rewriting t) (nodes t) k.node k.depth x) (sym e.1) at_key
noted ready rewriting t key k answer r old m h (inr e) = h e

pub holds-notes : (ready : Listing → Type 0) (rewriting : Listing → Rewriting) (t : Listing) (old new : Key → Option ℕ) (key : Key) (answer : ℕ) →
    Holds ready rewriting t old → IsRewritten (rewriting t) (nodes t) key.node key.depth answer →
    ((k : Key) (r : ℕ) → new k ≡ Some r → ((k ≡ key) × (r ≡ answer)) ⊎ (old k ≡ Some r)) → Holds ready rewriting t new
holds-notes ready rewriting t old new key answer h m fresh = record {
  ready = h.ready;
  at = λ k r e. noted ready rewriting t key k answer r (old k) m (h.at k r) (fresh k r e);
}

pub grows-trans : {X : Type 0} (a b c : List X) → Grows a b → Grows b c → Grows a c
grows-trans a b c f g = record { keeps = λ n v e. g.keeps n v (f.keeps n v e) }

pub extends-trans : (a b c : Listing) → Extends a b → Extends b c → Extends a c
extends-trans a b c f g = record {
  nodes = grows-trans (nodes a) (nodes b) (nodes c) f.nodes g.nodes;
  names = grows-trans a.pools.names b.pools.names c.pools.names f.names g.names;
  marks = grows-trans a.pools.marks b.pools.marks c.pools.marks f.marks g.marks;
  lists = grows-trans a.pools.lists b.pools.lists c.pools.lists f.lists g.lists;
}

pub on-ok : {A E P : Type 0} (r : Result A E) → P → OnOk r P
on-ok (Ok a) p = p
on-ok (Err e) p = tt
