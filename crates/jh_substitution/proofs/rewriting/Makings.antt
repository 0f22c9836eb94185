-- The node that is made of a shape with the answers for its parts.
use Rattle.std.proofs.Common.{◌≡◌, refl, sym, ap, subst, ◌∙◌, ℕ, zero, suc, ◌+◌, ◌<◌, ◌≤◌, true, false, List, [], ◌∷◌, ◌++◌, length, slice_get, Option, Some, None, is_some, option_map, Result, Ok, Err, IfOk, take, arith, add-one, length-append}
use Rattle.std.proofs.lemmas.List.{take_all}
use Rattle.std.proofs.lemmas.Option.{slice_get_within}
use Rattle.jh_form.specs.Tree.{ValueTree}
use Rattle.jh_substitution.specs.rewriting.Rewritten.{Rewriting, rewritten_value}
use Rattle.jh_arena.specs.table.Entries.{Listing}
use Rattle.jh_arena.specs.table.Growth.{Grows, Extends}
use Rattle.jh_arena.specs.table.Nodes.{nodes, fits_in, tree_in}
use Rattle.jh_arena.specs.table.Parts.{parts, list_parts, own_parts, binders, put, IsPut}
use Rattle.jh_arena.specs.declared.table.shapes.Shape.{Shape}
use Rattle.jh_arena.proofs.table.Listed.{grows-refl, tree-grows, fits-grows, parts-grows, extends-trans}
use Rattle.jh_substitution.specs.rewriting.Leaf.{is_leaf}
use Rattle.jh_substitution.specs.rewriting.Walks.{IsRewritten, AllRewritten}
use Rattle.jh_substitution.proofs.rewriting.Rewritings.{all-push, all-grows, all-length}
use Rattle.jh_substitution.proofs.rewriting.PartRewritings.{Remade, all-split}
use Rattle.jh_substitution.proofs.rewriting.Remakes.{remade}

take-next : (ps : List ℕ) (i p : ℕ) → slice_get ps i ≡ Some p → take (suc i) ps ≡ take i ps ++ p ∷ []
take-next [] i p e = absurd (cc)
take-next (x ∷ ps) zero p e = cc
take-next (x ∷ ps) (suc i) p e = ap (λ qs. x ∷ qs) (take-next ps i p e)

-- the answer for one more part
pub all-step : (ts : List ValueTree) (l : Rewriting) (d : ℕ) (ps rs qs : List ℕ) (i p r : ℕ) → AllRewritten l ts d (take i ps) rs → IsRewritten l ts p d r →
    slice_get ps i ≡ Some p → qs ≡ rs ++ r ∷ [] → AllRewritten l ts d (take (i + 1) ps) qs
all-step ts l d ps rs qs i p r h m e same =
    let next : take (i + 1) ps ≡ take i ps ++ p ∷ [] = ap (λ n. take n ps) (add-one i) ∙ take-next ps i p e in
    let pushed : AllRewritten l ts d (take i ps ++ p ∷ []) (rs ++ r ∷ []) = all-push ts l d (take i ps) rs p r h m in
    let over : AllRewritten l ts d (take (i + 1) ps) (rs ++ r ∷ []) = subst (λ (xs : List ℕ). AllRewritten l ts d xs (rs ++ r ∷ [])) (sym next) pushed in
    subst (λ (xs : List ℕ). AllRewritten l ts d (take (i + 1) ps) xs) (sym same) over

-- the answers for all parts
pub all-whole : (ts : List ValueTree) (l : Rewriting) (d : ℕ) (ps rs : List ℕ) (i : ℕ) → AllRewritten l ts d (take i ps) rs → length ps ≤ i → AllRewritten l ts d ps rs
all-whole ts l d ps rs i h le = subst (λ (xs : List ℕ). AllRewritten l ts d xs rs) (take_all i ps le) h

missing : (xs : List ValueTree) (k : ℕ) → k < length xs → slice_get xs k ≡ None → ⊥
missing [] k lt e = omega arith
missing (x ∷ xs) zero lt e = cc
missing (x ∷ xs) (suc k) lt e = missing xs k (omega arith) e

still-at : (old new : List ValueTree) (k : ℕ) (o : Option ValueTree) → Grows old new → slice_get old k ≡ o → k < length old → k < length new
still-at old new k (Some v) g e lt = slice_get_within new k v (g.keeps k v e)
still-at old new k None g e lt = absurd (missing old k lt e)

-- a place of a list is one of the list that has grown
pub still : (old new : List ValueTree) (k : ℕ) → Grows old new → k < length old → k < length new
still old new k g lt = still-at old new k (slice_get old k) g refl lt

module _ (u : Listing) (l : Rewriting) (d e : ℕ) (x y : Shape) (xs : List ℕ) (leaf : is_leaf x ≡ false) (alone : l.whole_at (tree_in u x) d ≡ None) (fits : fits_in u x ≡ true) (below : e ≡ d + binders x) where
  -- the shape with the answers in place of its parts
  pub remade-put : AllRewritten l (nodes u) e (parts u.pools.lists x) xs → IsPut u.pools.lists xs x y → Remade u.pools u.pools (nodes u) l d x y
  remade-put all put =
      let same : xs ≡ put.fields ++ put.own = put.split in
      let counted : length xs ≡ length (list_parts u.pools.lists x ++ own_parts x) = all-length (nodes u) l e (parts u.pools.lists x) xs all in
      let cut : AllRewritten l (nodes u) e (list_parts u.pools.lists x ++ own_parts x) (put.fields ++ put.own) = subst (λ (rs : List ℕ). AllRewritten l (nodes u) e (parts u.pools.lists x) rs) same all in
      let first : length put.fields ≡ length (list_parts u.pools.lists x) = omega (arith, ap length same, put.counted, length-append put.fields put.own, length-append (list_parts u.pools.lists x) (own_parts x)) in
      let both : AllRewritten l (nodes u) e (list_parts u.pools.lists x) put.fields × AllRewritten l (nodes u) e (own_parts x) put.own = all-split (nodes u) l e (list_parts u.pools.lists x) (own_parts x) put.fields put.own cut first in
      let listed : AllRewritten l (nodes u) (d + binders x) (list_parts u.pools.lists x) put.fields = subst (λ (q : ℕ). AllRewritten l (nodes u) q (list_parts u.pools.lists x) put.fields) below both.0 in
      let own : AllRewritten l (nodes u) (d + binders x) (own_parts x) put.own = subst (λ (q : ℕ). AllRewritten l (nodes u) q (own_parts x) put.own) below both.1 in
      let made = remade u.pools u.pools (nodes u) l d put.list (grows-refl u.pools.marks) x put.own put.fields leaf alone fits put.listed listed own in
      subst (λ (z : Shape). Remade u.pools u.pools (nodes u) l d x z) (sym put.is) made

-- the same, where the table grew after the shape was seen and again after the answers
pub remade-grown : (t u v : Listing) (l m : Rewriting) (d e i : ℕ) (x y : Shape) (rs xs : List ℕ) → Extends t u → Extends u v → m ≡ l →
    is_leaf x ≡ false → l.whole_at (tree_in t x) d ≡ None → fits_in t x ≡ true → e ≡ d + binders x →
    AllRewritten l (nodes u) e (take i (parts t.pools.lists x)) rs → length (parts t.pools.lists x) ≤ i → xs ≡ rs →
    IsPut v.pools.lists xs x y → Remade v.pools v.pools (nodes v) m d x y
remade-grown t u v l m d e i x y rs xs g h same leaf alone fits below all le items put =
    let grows : Extends t v = extends-trans t u v g h in
    let whole : AllRewritten l (nodes u) e (parts t.pools.lists x) rs = all-whole (nodes u) l e (parts t.pools.lists x) rs i all le in
    let later : AllRewritten m (nodes v) e (parts t.pools.lists x) rs = all-grows (nodes u) (nodes v) l m e (parts t.pools.lists x) rs h.nodes same whole in
    let here : AllRewritten m (nodes v) e (parts v.pools.lists x) rs = subst (λ (ps : List ℕ). AllRewritten m (nodes v) e ps rs) (sym (parts-grows t v x grows fits)) later in
    let still_alone : m.whole_at (tree_in v x) d ≡ None = (λ i. (same i).whole_at (tree-grows t v x grows fits i) d) ∙ alone in
    remade-put v m d e x y xs leaf still_alone (fits-grows t v x grows fits) below (subst (λ (qs : List ℕ). AllRewritten m (nodes v) e (parts v.pools.lists x) qs) (sym items) here) put

-- the node of the rewritten shape is the rewritten node
pub made-rewritten : (t u v : Listing) (l m : Rewriting) (n d r : ℕ) (x y : Shape) → Extends t u → Extends u v → fits_in t x ≡ true →
    slice_get (nodes t) n ≡ Some (tree_in t x) → Remade u.pools u.pools (nodes u) l d x y → m ≡ l →
    slice_get (nodes v) r ≡ Some (tree_in u y) → IsRewritten m (nodes v) n d r
made-rewritten t u v l m n d r x y g h fits there made same e =
    let stays : slice_get (nodes v) n ≡ Some (tree_in t x) = h.nodes.keeps n (tree_in t x) (g.nodes.keeps n (tree_in t x) there) in
    record {
      there = ap is_some stays;
      is = e ∙ ap Some made.is ∙ (λ i. Some (rewritten_value (tree-grows t u x g fits i) (sym same i) d)) ∙ sym (ap (option_map (λ v. rewritten_value v m d)) stays);
    }

pub if-ok : {A E : Type 0} (P Q : A → Type 0) (r : Result A E) → ((a : A) → P a → Q a) → IfOk r P → IfOk r Q
if-ok P Q (Ok a) f p = f a p
if-ok P Q (Err e) f p = tt
