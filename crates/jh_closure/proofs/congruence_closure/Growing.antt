-- Lists that begin with others, and classes from which nothing was taken back.
use Rattle.std.proofs.Common.{◌≡◌, sym, ap, ◌∙◌, ℕ, ◌+◌, ◌≤◌, List, [], ◌∷◌, ◌++◌, append_assoc, length, take, arith}
use Rattle.std.proofs.lemmas.List.{take-append-le, length-append, append-nil}
use Rattle.jh_closure.specs.declared.congruence_closure.classes.Core.{Core}
use Rattle.jh_closure.specs.declared.congruence_closure.node.Node.{Node}
use Rattle.jh_closure.specs.congruence_closure.Cores.{Begins, IsGrown}

pub begins-same : {X : Type 0} (xs ys : List X) → ys ≡ xs → Begins xs ys
begins-same xs ys e = ([], e ∙ sym (append-nil xs))

pub begins-push : {X : Type 0} (xs ys : List X) (x : X) → ys ≡ xs ++ x ∷ [] → Begins xs ys
begins-push xs ys x e = (x ∷ [], e)

pub begins-trans : {X : Type 0} (xs ys zs : List X) → Begins xs ys → Begins ys zs → Begins xs zs
begins-trans xs ys zs a b = (a.0 ++ b.0, b.1 ∙ (ap (λ us. us ++ b.0) a.1 ∙ append_assoc xs a.0 b.0))

pub begins-take : {X : Type 0} (xs ys : List X) (n : ℕ) → Begins xs ys → n ≤ length xs → take n ys ≡ take n xs
begins-take xs ys n b h = ap (take n) b.1 ∙ take-append-le n xs b.0 h

pub begins-length : {X : Type 0} (xs ys : List X) → Begins xs ys → length xs ≤ length ys
begins-length xs ys b = let e : length ys ≡ length xs + length b.0 = ap length b.1 ∙ length-append xs b.0 in omega (arith, e)

pub grown-trans : (ns : List Node) (a b c : Core) → IsGrown ns a b → IsGrown ns b c → IsGrown ns a c
grown-trans ns a b c x y = record {
  core = y.core;
  merges = begins-trans a.forest.merges b.forest.merges c.forest.merges x.merges y.merges;
  entries = begins-trans a.table.nodes.entries b.table.nodes.entries c.table.nodes.entries x.entries y.entries;
}
