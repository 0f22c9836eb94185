-- The atoms of a condition of two parts are those of its parts.
use Rattle.std.proofs.Common.{◌≡◌, refl, ◌++◌, ◌⊎◌, inl, inr}
use Rattle.std.specs.declared.alloc.Global.{Global}
use Rattle.std.specs.declared.boxed.Box.{Box}
use Rattle.jh_query.specs.declared.queries.query.Cond.{Cond}
use Rattle.jh_query.specs.declared.queries.query.Cond as whole
use Rattle.jh_query.specs.queries.Bare.{cond_tree}
use Rattle.jh_query.specs.queries.Size.{atoms}

pub two_parts : (r : Cond) (a b : Box Cond Global)
    → ((r ≡ whole.And a b) ⊎ ((r ≡ whole.Or a b) ⊎ ((r ≡ whole.Implies a b) ⊎ (r ≡ whole.Iff a b))))
    → atoms (cond_tree r) ≡ atoms (cond_tree a.value) ++ atoms (cond_tree b.value)
unfolding cond_tree
two_parts r a b (inl e) = rw e refl
two_parts r a b (inr (inl e)) = rw e refl
two_parts r a b (inr (inr (inl e))) = rw e refl
two_parts r a b (inr (inr (inr e))) = rw e refl
