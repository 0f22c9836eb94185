-- What is reached against the links, and what arises along them.
use Rattle.std.proofs.Common.{◌≡◌, refl, sym, ap, subst, ◌∙◌, ◌⊎◌, inl, inr, ◌↔◌, ℕ, zero, suc, ◌+◌, ◌<◌, List, [], ◌∷◌, length, slice_get, Some}
use Rattle.std.proofs.lemmas.Option.{slice_get_within}
use Rattle.jh_containers.specs.declared.transitive_closure.facts.Fact.{Fact}
use Rattle.jh_containers.specs.transitive_closure.Spreads.{IsIn, Spreads, given, passed, passed_to}
use Rattle.jh_containers.proofs.transitive_closure.Places.{before-or-at}
use Rattle.jh_effects.specs.declared.written_state.flow.Key.{Key}
use Rattle.jh_effects.specs.declared.written_state.flow.Given.{Given}
use Rattle.jh_effects.specs.declared.written_state.flow.Link.{Link}
use Rattle.jh_effects.specs.written_state.Arising as a
use Rattle.jh_effects.specs.written_state.Arising.{Arises, AreTold}
use Rattle.jh_effects.specs.written_state.Reaching.{itself, IsReached}
use Rattle.jh_effects.proofs.written_state.Numbers.{told-of, told-from}

some-is : {X : Type 0} (x y : X) → Some x ≡ Some y → x ≡ y
some-is x y e = cc

-- the only one of a list
pub only-one : {X : Type 0} (x y : X) → IsIn (x ∷ []) y → x ≡ y
only-one x y (zero, e) = some-is x y e
only-one x y (suc zero, e) = cc
only-one x y (suc (suc i), e) = cc

-- what is so of the first of a list's things is so of one more
module _ (P : ℕ → Type 0) where
  abbrev pub Below : ℕ → Type 0
  Below n = (k : ℕ) → k < n → P k

  pub below-next : (n : ℕ) → Below n → P n → Below (n + 1)
  below-next n h here k lt = by (before-or-at k n lt)
    where
      by : (k < n) ⊎ (k ≡ n) → P k
      by (inl l) = h k l
      by (inr s) = subst P (sym s) here

module _ (sources : List (List ℕ)) where
  -- what is reached from a thing that is reached
  further : (f g : Fact) (starts : List Fact) → Spreads (f ∷ []) sources g → Spreads starts sources f → Spreads starts sources g
  further f g starts (given _ h) r = subst (Spreads starts sources) (only-one f g h) r
  further f _ starts (passed m g h s) r = passed m g h (further f g starts s r)

  module _ (links : List Link) (linked : (to from : ℕ) → IsIn (passed_to sources to) from ↔ IsIn links (record { from = from; to = to })) (keys : List Key) (facts : List Fact) (gs : List Given) (told : AreTold keys facts gs) (rows : List (List ℕ)) (are : (of what : ℕ) → IsIn (passed_to rows of) what ↔ IsIn facts (record { of = of; what = what })) where
    -- what arises is reached
    pub arises-reached : (n : ℕ) (x : Key) → Arises gs links n x → (k : ℕ) × (slice_get keys k ≡ Some x) × IsReached rows sources n k
    arises-reached n x (a.itself _ _ h) =
        let w = told-from keys facts gs (record { of = n; what = x }) told h in (
          (w.0).what,
          w.2,
          record {
            from = n;
            reached = given (itself n) (0, refl);
            given = (are n (w.0).what).1 (subst (λ (m : ℕ). IsIn facts (record { of = m; what = (w.0).what })) w.3 w.1);
          },
        )
    arises-reached n x (a.passed m _ _ h s) =
        let w = arises-reached m x s in
        (w.0, w.1, record { from = w.2.from; reached = further (itself m) (itself w.2.from) (itself n ∷ []) w.2.reached (passed m (itself n) ((linked n m).1 h) (given (itself n) (0, refl))); given = w.2.given })

    -- what arises of a thing that is reached arises
    carried : (n : ℕ) (f : Fact) → Spreads (itself n ∷ []) sources f → (x : Key) → Arises gs links f.of x → Arises gs links n x
    carried n f (given _ h) x s = subst (λ (g : Fact). Arises gs links g.of x) (sym (only-one (itself n) f h)) s
    carried n _ (passed m f h r) x s = carried n f r x (a.passed m f.of x ((linked f.of m).0 h) s)

    pub reached-arises : (n k : ℕ) (x : Key) → slice_get keys k ≡ Some x → IsReached rows sources n k → Arises gs links n x
    reached-arises n k x at r =
        let w = told-of keys facts gs (record { of = r.from; what = k }) told ((are r.from k).0 r.given) in
        let same : (w.0).what ≡ x = some-is (w.0).what x (sym w.2 ∙ at) in
        carried n (itself r.from) r.reached x (a.itself r.from x (subst (λ (m : ℕ). IsIn gs (record { of = m; what = x })) (sym w.3) (subst (λ (y : Key). IsIn gs (record { of = (w.0).of; what = y })) same w.1)))

-- a fact of the list is one of those that a row adds to a thing, or was there before
pub more-of : (of : ℕ) (row : List ℕ) (start old : List Fact) (what : ℕ) (f : Fact) → IsIn row what → ((g : Fact) → IsIn old g → ((g.of ≡ of) × IsIn row g.what) ⊎ IsIn start g) → (f ≡ record { of = of; what = what }) ⊎ IsIn old f → ((f.of ≡ of) × IsIn row f.what) ⊎ IsIn start f
more-of of row start old what f here h (inl e) = inl (ap (λ (g : Fact). g.of) e, subst (λ (n : ℕ). IsIn row n) (sym (ap (λ (g : Fact). g.what) e)) here)
more-of of row start old what f here h (inr k) = h f k

-- an index into a list is that of something that stands in it
pub inside-is : {X : Type 0} (xs : List X) (x : X) (k : IsIn xs x) → k.0 < length xs
inside-is xs x k = slice_get_within xs k.0 x k.1

-- rows are added one after another to a thing
module _ (reached : List Fact) (rows : List (List ℕ)) (of : ℕ) (old new : List Fact) where
  pub rows-next : (i : ℕ) (fact : Fact) → slice_get reached i ≡ Some fact → ((what : ℕ) → IsIn (passed_to rows fact.of) what → IsIn new (record { of = of; what = what })) → ((place : ℕ) (f : Fact) → slice_get old place ≡ Some f → slice_get new place ≡ Some f)
      → ((k : ℕ) (f : Fact) (what : ℕ) → k < i → slice_get reached k ≡ Some f → IsIn (passed_to rows f.of) what → IsIn old (record { of = of; what = what }))
      → (k : ℕ) (f : Fact) (what : ℕ) → k < i + 1 → slice_get reached k ≡ Some f → IsIn (passed_to rows f.of) what → IsIn new (record { of = of; what = what })
  rows-next i fact at here keeps all k f what lt e h = by (before-or-at k i lt)
    where
      by : (k < i) ⊎ (k ≡ i) → IsIn new (record { of = of; what = what })
      by (inl l) = let r = all k f what l e h in (r.0, keeps r.0 (record { of = of; what = what }) r.1)
      by (inr s) = here what (subst (λ (g : Fact). IsIn (passed_to rows g.of) what) (some-is f fact (sym e ∙ ap (slice_get reached) s ∙ at)) h)

module _ (reached : List Fact) (rows : List (List ℕ)) (of : ℕ) (start old new : List Fact) where
  abbrev FromRows : Fact → Type 0
  FromRows f = ((f.of ≡ of) × ((g : Fact) × IsIn reached g × IsIn (passed_to rows g.of) f.what)) ⊎ IsIn start f

  pub rows-only : (fact : Fact) → IsIn reached fact → ((f : Fact) → IsIn new f → ((f.of ≡ of) × IsIn (passed_to rows fact.of) f.what) ⊎ IsIn old f) → ((f : Fact) → IsIn old f → FromRows f) → (f : Fact) → IsIn new f → FromRows f
  rows-only fact here only all f h = by (only f h)
    where
      by : ((f.of ≡ of) × IsIn (passed_to rows fact.of) f.what) ⊎ IsIn old f → FromRows f
      by (inl s) = inl (s.0, (fact, here, s.1))
      by (inr k) = all f k

-- what a thing reaches is what is given to those that are reached
module _ (rows sources : List (List ℕ)) (n : ℕ) where
  by-itself : (f : Fact) → Spreads (itself n ∷ []) sources f → f.what ≡ 0
  by-itself f (given _ h) = ap (λ (g : Fact). g.what) (sym (only-one (itself n) f h))
  by-itself _ (passed m f h s) = by-itself f s

  pub reached-of : (f : Fact) (what : ℕ) → Spreads (itself n ∷ []) sources f → IsIn (passed_to rows f.of) what → IsReached rows sources n what
  reached-of f what s h = record { from = f.of; reached = subst (λ (k : ℕ). Spreads (itself n ∷ []) sources (record { of = f.of; what = k })) (by-itself f s) s; given = h }
