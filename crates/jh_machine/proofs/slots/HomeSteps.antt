-- The homes of the names of a table, one name after another.
use Rattle.std.proofs.Common.{◌≡◌, ◌⊎◌, inl, inr, refl, sym, ap, subst, ◌∙◌, ℕ, suc, ◌≤◌, arith, List, [], ◌∷◌, ◌++◌, length, Some, slice_get}
use Rattle.jh_name.specs.declared.naming.Name.{Name}
use Rattle.jh_arena.specs.table.Entries.{the_name}
use Rattle.jh_arena.specs.table.Growth.{Grows}
use Rattle.jh_vars.specs.Resolved.{own}
use Rattle.jh_store.specs.declared.state_pairs.moment.Home.{Home}
use Rattle.jh_store.specs.state_pairs.Homes.{IsHome, AreHomes}
use Rattle.jh_machine.proofs.slots.Pushing.{one-of, one-longer}

-- the names of a table below a number have their homes
pub record AreHomesBelow (pool names : List Name) (n : ℕ) (made : List Home) : Type 0 where
  pub sized : length made ≡ n
  pub homes : (k : ℕ) (x : Name) (h : Home) → slice_get pool k ≡ Some x → slice_get made k ≡ Some h → IsHome names x h

pub none-below : (pool names : List Name) → AreHomesBelow pool names 0 []
none-below pool names = record { sized = refl; homes = λ k x h at there. cc }

home-still : (old new : List Name) (x : Name) (h : Home) → Grows old new → IsHome old x h → IsHome new x h
home-still old new x h grows is = (grows.keeps h.number (own x.text 0) is.0, is.1)

pub home-more : (pool old new : List Name) (n : ℕ) (made : List Home) (home : Home) → Grows old new → AreHomesBelow pool old n made → IsHome new (the_name (slice_get pool n)) home → AreHomesBelow pool new (suc n) (made ++ home ∷ [])
unfolding the_name
home-more pool old new n made home grows below is = record {
  sized = one-longer made home ∙ ap suc below.sized;
  homes = λ k x h at there. by k x h at (one-of made home k h there);
}
  where
    named : (x : Name) → slice_get pool n ≡ Some x → the_name (slice_get pool n) ≡ x
    named x e = rw e refl

    by : (k : ℕ) (x : Name) (h : Home) → slice_get pool k ≡ Some x → (slice_get made k ≡ Some h) ⊎ ((k ≡ length made) × (h ≡ home)) → IsHome new x h
    by k x h at (inl there) = home-still old new x h grows (below.homes k x h at there)
    by k x h at (inr e) =
        let here : k ≡ n = e.0 ∙ below.sized in
        let same : the_name (slice_get pool n) ≡ x = named x (ap (slice_get pool) (sym here) ∙ at) in
        subst (λ g. IsHome new x g) (sym e.1) (subst (λ y. IsHome new y home) same is)

pub homes-whole : (pool names : List Name) (n : ℕ) (made : List Home) → length pool ≤ n → AreHomesBelow pool names n made → AreHomes pool names made
homes-whole pool names n made le below = (let sized = below.sized in omega arith, below.homes)
