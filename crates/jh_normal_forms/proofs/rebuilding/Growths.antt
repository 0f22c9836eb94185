-- Answers of the walk from below, while the table grows.
use Rattle.std.proofs.Common.{◌≡◌, refl, sym, ap, subst, ◌∙◌, ℕ, zero, suc, ◌+◌, ◌<◌, ◌≤◌, true, false, List, [], ◌∷◌, ◌++◌, length, slice_get, Option, Some, None, is_some, option_map, take, arith, length-append, add-one}
use Rattle.std.proofs.lemmas.List.{take_all}
use Rattle.jh_form.specs.Tree.{ValueTree}
use Rattle.jh_arena.specs.table.Entries.{Listing, the_value}
use Rattle.jh_arena.specs.table.Growth.{Grows, Extends}
use Rattle.jh_arena.specs.table.Nodes.{nodes, fits_in, tree_in}
use Rattle.jh_arena.specs.table.Parts.{parts, list_parts, own_parts, has_list, put, IsPut}
use Rattle.jh_arena.specs.declared.table.shapes.Shape.{Shape}
use Rattle.jh_arena.specs.declared.table.shapes.Shape.TheVariants as s
use Rattle.jh_arena.proofs.table.Listed.{tree-grows, fits-grows, parts-grows, extends-trans}
use Rattle.jh_substitution.specs.rewriting.Staying.{grown}
use Rattle.jh_substitution.proofs.rewriting.Sorted.{within-some}
use Rattle.jh_normal_forms.specs.declared.rebuilding.polarity.Polarity.{Polarity}
use Rattle.jh_normal_forms.specs.rebuilding.Built.{Rule}
use Rattle.jh_normal_forms.specs.rebuilding.Walking.{built_at, applied, sign, IsBuilt, AllBuilt}
use Rattle.jh_normal_forms.proofs.rebuilding.Rebuilds.{Rebuilt, rebuilt, built-there}

pub built-grows : (r : Rule) (old new : List ValueTree) (k : ℕ) (d : Polarity) (n : ℕ) → Grows old new → IsBuilt r old k d n → IsBuilt r new k d n
built-grows r old new k d n g h =
    let stays : slice_get new k ≡ slice_get old k = grown old new k g h.there in
    record {
      there = ap is_some stays ∙ h.there;
      is = grown old new n g (built-there old r d k n h) ∙ h.is ∙ ap (option_map (λ v. built_at v r d)) (sym stays);
    }

module _ (r : Rule) (sg : ℕ → Polarity) where
  pub all-grows : (old new : List ValueTree) (i : ℕ) (ps rs : List ℕ) → Grows old new → AllBuilt r old sg i ps rs → AllBuilt r new sg i ps rs
  all-grows old new i [] [] g h = tt
  all-grows old new i [] (n ∷ rs) g h = absurd h
  all-grows old new i (p ∷ ps) [] g h = absurd h
  all-grows old new i (p ∷ ps) (n ∷ rs) g h = (built-grows r old new p (sg i) n g h.0, all-grows old new (suc i) ps rs g h.1)

  all-push : (ts : List ValueTree) (i : ℕ) (ps rs : List ℕ) (p n m : ℕ) → m ≡ i + length ps → AllBuilt r ts sg i ps rs → IsBuilt r ts p (sg m) n → AllBuilt r ts sg i (ps ++ p ∷ []) (rs ++ n ∷ [])
  all-push ts i [] [] p n m e h b = let z : m ≡ i = omega arith in (subst (λ (q : ℕ). IsBuilt r ts p (sg q) n) z b, tt)
  all-push ts i [] (x ∷ rs) p n m e h b = absurd h
  all-push ts i (x ∷ ps) [] p n m e h b = absurd h
  all-push ts i (x ∷ ps) (y ∷ rs) p n m e h b = (h.0, all-push ts (suc i) ps rs p n m (omega arith) h.1 b)

  pub all-length : (ts : List ValueTree) (i : ℕ) (ps rs : List ℕ) → AllBuilt r ts sg i ps rs → length rs ≡ length ps
  all-length ts i [] [] h = refl
  all-length ts i [] (n ∷ rs) h = absurd h
  all-length ts i (p ∷ ps) [] h = absurd h
  all-length ts i (p ∷ ps) (n ∷ rs) h = ap suc (all-length ts (suc i) ps rs h.1)

  take-next : (ps : List ℕ) (i p : ℕ) → slice_get ps i ≡ Some p → take (suc i) ps ≡ take i ps ++ p ∷ []
  take-next [] i p e = absurd (cc)
  take-next (x ∷ ps) zero p e = cc
  take-next (x ∷ ps) (suc i) p e = ap (λ qs. x ∷ qs) (take-next ps i p e)

  take-count : (ps : List ℕ) (i p : ℕ) → slice_get ps i ≡ Some p → length (take i ps) ≡ i
  take-count [] i p e = absurd (cc)
  take-count (x ∷ ps) zero p e = refl
  take-count (x ∷ ps) (suc i) p e = ap suc (take-count ps i p e)

  pub all-step : (ts : List ValueTree) (ps rs qs : List ℕ) (i p n : ℕ) → AllBuilt r ts sg 0 (take i ps) rs → IsBuilt r ts p (sg i) n → slice_get ps i ≡ Some p → qs ≡ rs ++ n ∷ [] → AllBuilt r ts sg 0 (take (i + 1) ps) qs
  all-step ts ps rs qs i p n h m e same =
      let next : take (i + 1) ps ≡ take i ps ++ p ∷ [] = ap (λ k. take k ps) (add-one i) ∙ take-next ps i p e in
      let pushed : AllBuilt r ts sg 0 (take i ps ++ p ∷ []) (rs ++ n ∷ []) = all-push ts 0 (take i ps) rs p n i (omega (arith, take-count ps i p e)) h m in
      let over : AllBuilt r ts sg 0 (take (i + 1) ps) (rs ++ n ∷ []) = subst (λ (xs : List ℕ). AllBuilt r ts sg 0 xs (rs ++ n ∷ [])) (sym next) pushed in
      subst (λ (xs : List ℕ). AllBuilt r ts sg 0 (take (i + 1) ps) xs) (sym same) over

  pub all-whole : (ts : List ValueTree) (ps rs : List ℕ) (i : ℕ) → AllBuilt r ts sg 0 (take i ps) rs → length ps ≤ i → AllBuilt r ts sg 0 ps rs
  all-whole ts ps rs i h le = subst (λ (xs : List ℕ). AllBuilt r ts sg 0 xs rs) (take_all i ps le) h

  all-split : (ts : List ValueTree) (i j : ℕ) (ps qs fs gs : List ℕ) → j ≡ i + length ps → AllBuilt r ts sg i (ps ++ qs) (fs ++ gs) → length fs ≡ length ps → AllBuilt r ts sg i ps fs × AllBuilt r ts sg j qs gs
  all-split ts i j [] qs [] gs e h c = let z : i ≡ j = omega arith in (tt, subst (λ (k : ℕ). AllBuilt r ts sg k qs gs) z h)
  all-split ts i j [] qs (f ∷ fs) gs e h c = absurd (omega arith)
  all-split ts i j (p ∷ ps) qs [] gs e h c = absurd (omega arith)
  all-split ts i j (p ∷ ps) qs (f ∷ fs) gs e h c =
      let rest = all-split ts (suc i) j ps qs fs gs (omega arith) h.1 (omega arith) in
      ((h.0, rest.0), rest.1)

no-list : (ls : List (List ℕ)) (x : Shape) → has_list x ≡ false → length (list_parts ls x) ≡ 0
unfolding has_list list_parts
no-list ls (s.Reach l a b) h = absurd (cc)
no-list ls (s.Tree l) h = absurd (cc)
no-list ls _ h = refl

module _ (u : Listing) (r : Rule) (d : Polarity) (x y : Shape) (xs : List ℕ) (fits : fits_in u x ≡ true) where
  pub rebuilt-put : AllBuilt r (nodes u) (sign x d) 0 (parts u.pools.lists x) xs → IsPut u.pools.lists xs x y → Rebuilt u.pools (nodes u) r d x y
  rebuilt-put all put =
      let same : xs ≡ put.fields ++ put.own = put.split in
      let counted : length xs ≡ length (list_parts u.pools.lists x ++ own_parts x) = all-length r (sign x d) (nodes u) 0 (parts u.pools.lists x) xs all in
      let cut : AllBuilt r (nodes u) (sign x d) 0 (list_parts u.pools.lists x ++ own_parts x) (put.fields ++ put.own) = subst (λ (rs : List ℕ). AllBuilt r (nodes u) (sign x d) 0 (parts u.pools.lists x) rs) same all in
      let first : length put.fields ≡ length (list_parts u.pools.lists x) = omega (arith, ap length same, put.counted, length-append put.fields put.own, length-append (list_parts u.pools.lists x) (own_parts x)) in
      let j = length (list_parts u.pools.lists x) in
      let both = all-split r (sign x d) (nodes u) 0 j (list_parts u.pools.lists x) (own_parts x) put.fields put.own (omega arith) cut first in
      let made = rebuilt u.pools (nodes u) r d put.list x j put.own put.fields (λ e. no-list u.pools.lists x e) fits put.listed both.0 both.1 in
      subst (λ (z : Shape). Rebuilt u.pools (nodes u) r d x z) (sym put.is) made

pub rebuilt-grown : (t u v : Listing) (r : Rule) (d : Polarity) (i : ℕ) (x y : Shape) (rs xs : List ℕ) → Extends t u → Extends u v → fits_in t x ≡ true →
    AllBuilt r (nodes u) (sign x d) 0 (take i (parts t.pools.lists x)) rs → length (parts t.pools.lists x) ≤ i → xs ≡ rs → IsPut v.pools.lists xs x y → Rebuilt v.pools (nodes v) r d x y
rebuilt-grown t u v r d i x y rs xs g h fits all le items put =
    let grows : Extends t v = extends-trans t u v g h in
    let whole : AllBuilt r (nodes u) (sign x d) 0 (parts t.pools.lists x) rs = all-whole r (sign x d) (nodes u) (parts t.pools.lists x) rs i all le in
    let later : AllBuilt r (nodes v) (sign x d) 0 (parts t.pools.lists x) rs = all-grows r (sign x d) (nodes u) (nodes v) 0 (parts t.pools.lists x) rs h.nodes whole in
    let here : AllBuilt r (nodes v) (sign x d) 0 (parts v.pools.lists x) rs = subst (λ (ps : List ℕ). AllBuilt r (nodes v) (sign x d) 0 ps rs) (sym (parts-grows t v x grows fits)) later in
    rebuilt-put v r d x y xs (fits-grows t v x grows fits) (subst (λ (qs : List ℕ). AllBuilt r (nodes v) (sign x d) 0 (parts v.pools.lists x) qs) (sym items) here) put

pub made-built : (t u v : Listing) (r : Rule) (n : ℕ) (d : Polarity) (k : ℕ) (x y : Shape) → Extends t u → Extends u v → fits_in t x ≡ true →
    slice_get (nodes t) n ≡ Some (tree_in t x) → Rebuilt u.pools (nodes u) r d x y → slice_get (nodes v) k ≡ Some (applied (tree_in u y) r d) → IsBuilt r (nodes v) n d k
made-built t u v r n d k x y g h fits there made e =
    let stays : slice_get (nodes v) n ≡ Some (tree_in t x) = h.nodes.keeps n (tree_in t x) (g.nodes.keeps n (tree_in t x) there) in
    record {
      there = ap is_some stays;
      is = e ∙ ap (λ z. Some z) made.is ∙ ap (λ z. Some (built_at z r d)) (tree-grows t u x g fits) ∙ sym (ap (option_map (λ v. built_at v r d)) stays);
    }

built-some : (r : Rule) (d : Polarity) (o : Option ValueTree) → is_some o ≡ true → option_map (λ v. built_at v r d) o ≡ Some (built_at (the_value o) r d)
unfolding the_value
built-some r d (Some v) h = refl
built-some r d None h = absurd (cc)

pub built-before : (old new : Listing) (r : Rule) (n : ℕ) (d : Polarity) (k : ℕ) → Extends old new → n < length (nodes old) → IsBuilt r (nodes new) n d k → slice_get (nodes new) k ≡ Some (built_at (the_value (slice_get (nodes old) n)) r d)
built-before old new r n d k g lt m =
    let there : is_some (slice_get (nodes old) n) ≡ true = within-some (nodes old) n lt in
    m.is ∙ ap (option_map (λ v. built_at v r d)) (grown (nodes old) (nodes new) n g.nodes there) ∙ built-some r d (slice_get (nodes old) n) there
