-- What is reached from a thing, as facts that are passed on.
use Rattle.std.proofs.Common.{◌≡◌, ap, subst, ◌⊎◌, inl, inr, ℕ, zero, suc, ◌+◌, ◌<◌, List, [], ◌∷◌, map, Some}
use Rattle.jh_containers.specs.declared.transitive_closure.facts.Fact.{Fact}
use Rattle.jh_containers.specs.transitive_closure.Spreads.{IsIn, Spreads, given, passed}
use Rattle.jh_containers.proofs.transitive_closure.Places.{before-or-at}
use Rattle.jh_containers.specs.topological_order.Orders.{reads_of, Reaches, directly, through, start_of}

in-started : (xs : List ℕ) (f : Fact) → IsIn (map start_of xs) f → IsIn xs f.of
in-started [] f (zero, e) = cc
in-started [] f (suc i, e) = cc
in-started (x ∷ xs) f (zero, e) = (0, first-is x f e)
  where
    first-is : (y : ℕ) (g : Fact) → Some (start_of y) ≡ Some g → Some y ≡ Some g.of
    first-is y g q = same y g (cc)
      where
        same : (y : ℕ) (g : Fact) → start_of y ≡ g → Some y ≡ Some g.of
        same y g q = ap (λ (h : Fact). Some h.of) q
in-started (x ∷ xs) f (suc i, e) = let k = in-started xs f (i, e) in (suc k.0, k.1)

started-in : (xs : List ℕ) (y : ℕ) → IsIn xs y → IsIn (map start_of xs) (start_of y)
started-in [] y (zero, e) = cc
started-in [] y (suc i, e) = cc
started-in (x ∷ xs) y (zero, e) = (0, first-is x y e)
  where
    first-is : (x y : ℕ) → Some x ≡ Some y → Some (start_of x) ≡ Some (start_of y)
    first-is x y q = cc
started-in (x ∷ xs) y (suc i, e) = let k = started-in xs y (i, e) in (suc k.0, k.1)

module _ (reads : List (List ℕ)) where
  pub reaches-more : (x y z : ℕ) → Reaches reads x y → IsIn (reads_of reads y) z → Reaches reads x z
  reaches-more x y z (directly _ _ k) m = through x y z k (directly y z m)
  reaches-more x y z (through _ w _ k r) m = through x w z k (reaches-more w y z r m)

  pub reached-from : (x : ℕ) (f : Fact) → Spreads (map start_of (reads_of reads x)) reads f → Reaches reads x f.of
  reached-from x f (given _ k) = directly x f.of (in-started (reads_of reads x) f k)
  reached-from x _ (passed m f k s) = reaches-more x f.of m (reached-from x f s) k

  spreads-to : (starts : List Fact) (z y : ℕ) → Reaches reads z y → Spreads starts reads (start_of z) → Spreads starts reads (start_of y)
  spreads-to starts z y (directly _ _ k) s = passed y (start_of z) k s
  spreads-to starts z y (through _ w _ k r) s = spreads-to starts w y r (passed w (start_of z) k s)

  pub reached-back : (x y : ℕ) → Reaches reads x y → Spreads (map start_of (reads_of reads x)) reads (start_of y)
  reached-back x y (directly _ _ k) = given (start_of y) (started-in (reads_of reads x) y k)
  reached-back x y (through _ z _ k r) = spreads-to (map start_of (reads_of reads x)) z y r (given (start_of z) (started-in (reads_of reads x) z k))
