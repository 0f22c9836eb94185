-- Nodes that are carried, while the table into which they are carried grows.
use Rattle.std.proofs.Common.{◌≡◌, refl, sym, ap, subst, ◌∙◌, ℕ, zero, suc, ◌+◌, ◌≤◌, ◌⊎◌, inl, inr, true, List, [], ◌∷◌, ◌++◌, length, slice_get, Option, Some, None, is_some, Result, Ok, Err, OnOk, take, length-append, add-one, arith}
use Rattle.std.proofs.lemmas.List.{take_all}
use Rattle.std.proofs.lemmas.Option.{same_Some}
use Rattle.jh_form.specs.Tree.{ValueTree}
use Rattle.jh_arena.specs.table.Entries.{Pools, Listing}
use Rattle.jh_arena.specs.table.Growth.{Grows}
use Rattle.jh_arena.specs.table.Nodes.{nodes, fits, shape_tree, tree_in}
use Rattle.jh_arena.specs.table.Parts.{parts, list_parts, own_parts}
use Rattle.jh_arena.specs.declared.table.shapes.Shape.{Shape}
use Rattle.jh_arena.proofs.table.Growing.{some-stays}
use Rattle.jh_import.specs.carrying.Carried.{IsCarried, AllCarried, HoldsCarried, IsPlaced}
use Rattle.jh_import.proofs.carrying.Placements.{placed-fits, placed-tree}

pub carried-grows : (ts us ws : List ValueTree) (k n : ℕ) → Grows us ws → IsCarried ts us k n → IsCarried ts ws k n
carried-grows ts us ws k n g m = record { there = m.there; is = some-stays us ws g n (ap is_some m.is ∙ m.there) ∙ m.is }

module _ (ts : List ValueTree) where
  pub all-grow : (us ws : List ValueTree) (ps rs : List ℕ) → Grows us ws → AllCarried ts us ps rs → AllCarried ts ws ps rs
  all-grow us ws [] [] g h = tt
  all-grow us ws [] (n ∷ rs) g h = absurd h
  all-grow us ws (p ∷ ps) [] g h = absurd h
  all-grow us ws (p ∷ ps) (n ∷ rs) g h = (carried-grows ts us ws p n g h.0, all-grow us ws ps rs g h.1)

  all-push : (us : List ValueTree) (ps rs : List ℕ) (p n : ℕ) → AllCarried ts us ps rs → IsCarried ts us p n → AllCarried ts us (ps ++ p ∷ []) (rs ++ n ∷ [])
  all-push us [] [] p n h m = (m, tt)
  all-push us [] (y ∷ rs) p n h m = absurd h
  all-push us (x ∷ ps) [] p n h m = absurd h
  all-push us (x ∷ ps) (y ∷ rs) p n h m = (h.0, all-push us ps rs p n h.1 m)

  pub all-length : (us : List ValueTree) (ps rs : List ℕ) → AllCarried ts us ps rs → length rs ≡ length ps
  all-length us [] [] h = refl
  all-length us [] (n ∷ rs) h = absurd h
  all-length us (p ∷ ps) [] h = absurd h
  all-length us (p ∷ ps) (n ∷ rs) h = ap suc (all-length us ps rs h.1)

  take-next : (ps : List ℕ) (i p : ℕ) → slice_get ps i ≡ Some p → take (suc i) ps ≡ take i ps ++ p ∷ []
  take-next [] i p e = absurd (cc)
  take-next (x ∷ ps) zero p e = cc
  take-next (x ∷ ps) (suc i) p e = ap (λ qs. x ∷ qs) (take-next ps i p e)

  pub all-step : (us : List ValueTree) (ps rs qs : List ℕ) (i p n : ℕ) → AllCarried ts us (take i ps) rs → IsCarried ts us p n → slice_get ps i ≡ Some p → qs ≡ rs ++ n ∷ [] → AllCarried ts us (take (i + 1) ps) qs
  all-step us ps rs qs i p n h m e same =
      let next : take (i + 1) ps ≡ take i ps ++ p ∷ [] = ap (λ k. take k ps) (add-one i) ∙ take-next ps i p e in
      let over : AllCarried ts us (take (i + 1) ps) (rs ++ n ∷ []) = subst (λ (xs : List ℕ). AllCarried ts us xs (rs ++ n ∷ [])) (sym next) (all-push us (take i ps) rs p n h m) in
      subst (λ (xs : List ℕ). AllCarried ts us (take (i + 1) ps) xs) (sym same) over

  pub all-whole : (us : List ValueTree) (ps rs : List ℕ) (i : ℕ) → AllCarried ts us (take i ps) rs → length ps ≤ i → AllCarried ts us ps rs
  all-whole us ps rs i h le = subst (λ (xs : List ℕ). AllCarried ts us xs rs) (take_all i ps le) h

  pub all-at : (us : List ValueTree) (ps rs : List ℕ) (i p n : ℕ) → AllCarried ts us ps rs → slice_get ps i ≡ Some p → slice_get rs i ≡ Some n → IsCarried ts us p n
  all-at us [] rs i p n h e f = absurd (cc)
  all-at us (q ∷ ps) [] i p n h e f = absurd h
  all-at us (q ∷ ps) (m ∷ rs) zero p n h e f = subst (λ (k : ℕ). IsCarried ts us k n) (same_Some q p e) (subst (λ (k : ℕ). IsCarried ts us q k) (same_Some m n f) h.0)
  all-at us (q ∷ ps) (m ∷ rs) (suc i) p n h e f = all-at us ps rs i p n h.1 e f

  all-split : (us : List ValueTree) (ps qs fs gs : List ℕ) → AllCarried ts us (ps ++ qs) (fs ++ gs) → length fs ≡ length ps → AllCarried ts us ps fs × AllCarried ts us qs gs
  all-split us [] qs [] gs h c = (tt, h)
  all-split us [] qs (f ∷ fs) gs h c = absurd (omega arith)
  all-split us (p ∷ ps) qs [] gs h c = absurd (omega arith)
  all-split us (p ∷ ps) qs (f ∷ fs) gs h c = let rest = all-split us ps qs fs gs h.1 (omega arith) in ((h.0, rest.0), rest.1)

pub record Placed (p q : Pools) (ts us : List ValueTree) (x y : Shape) : Type 0 where
  pub fits : fits q us y ≡ true
  pub is : shape_tree q us y ≡ shape_tree p ts x

-- a shape over carried parts
pub all-placed : (p q : Pools) (ts us : List ValueTree) (x y : Shape) (xs : List ℕ) → fits p ts x ≡ true → AllCarried ts us (parts p.lists x) xs → IsPlaced p q xs x y → Placed p q ts us x y
all-placed p q ts us x y xs h all placed =
    let cut : AllCarried ts us (list_parts p.lists x ++ own_parts x) (placed.fields ++ placed.own) = subst (λ (rs : List ℕ). AllCarried ts us (parts p.lists x) rs) placed.split all in
    let counted : length xs ≡ length (list_parts p.lists x ++ own_parts x) = all-length ts us (parts p.lists x) xs all in
    let first : length placed.fields ≡ length (list_parts p.lists x) = omega (arith, ap length placed.split, placed.counted, length-append placed.fields placed.own, length-append (list_parts p.lists x) (own_parts x)) in
    let both = all-split ts us (list_parts p.lists x) (own_parts x) placed.fields placed.own cut first in
    record {
      fits = ap (fits q us) placed.is ∙ placed-fits p q ts us placed.number placed.list x placed.own placed.fields h placed.entry placed.listed both.0 both.1;
      is = ap (shape_tree q us) placed.is ∙ placed-tree p q ts us placed.number placed.list x placed.own placed.fields h placed.entry placed.listed both.0 both.1;
    }

pub carried-made : (t u : Listing) (vs : List ValueTree) (n k : ℕ) (x y : Shape) → slice_get (nodes t) n ≡ Some (tree_in t x) → tree_in u y ≡ tree_in t x → slice_get vs k ≡ Some (tree_in u y) → IsCarried (nodes t) vs n k
carried-made t u vs n k x y there same made = record { there = ap is_some there; is = made ∙ ap (λ v. Some v) same ∙ sym there }

-- ---- the memo

pub holds-grow : (ts us ws : List ValueTree) (find : ℕ → Option ℕ) → Grows us ws → HoldsCarried ts us find → HoldsCarried ts ws find
holds-grow ts us ws find g h = record { at = λ k n e. carried-grows ts us ws k n g (h.at k n e) }

nothing : (o : Option ℕ) (n : ℕ) → o ≡ None → o ≡ Some n → ⊥
nothing o n e f = cc

pub holds-none : (ts us : List ValueTree) (find : ℕ → Option ℕ) → ((k : ℕ) → find k ≡ None) → HoldsCarried ts us find
holds-none ts us find empty = record { at = λ k n e. absurd (nothing (find k) n (empty k) e) }

noted : (ts us : List ValueTree) (node k answer n : ℕ) (old : Option ℕ) → IsCarried ts us node answer → (old ≡ Some n → IsCarried ts us k n) → ((k ≡ node) × (n ≡ answer)) ⊎ (old ≡ Some n) → IsCarried ts us k n
noted ts us node k answer n old m h (inl e) = subst (λ (x : ℕ). IsCarried ts us k x) (sym e.1) (subst (λ (x : ℕ). IsCarried ts us x answer) (sym e.0) m)
noted ts us node k answer n old m h (inr e) = h e

pub holds-note : (ts us : List ValueTree) (old new : ℕ → Option ℕ) (node answer : ℕ) → HoldsCarried ts us old → IsCarried ts us node answer →
    ((k n : ℕ) → new k ≡ Some n → ((k ≡ node) × (n ≡ answer)) ⊎ (old k ≡ Some n)) → HoldsCarried ts us new
holds-note ts us old new node answer h m fresh = record { at = λ k n e. noted ts us node k answer n (old k) m (h.at k n) (fresh k n e) }

pub on-ok : {A E P : Type 0} (r : Result A E) → P → OnOk r P
on-ok (Ok a) p = p
on-ok (Err e) p = tt
