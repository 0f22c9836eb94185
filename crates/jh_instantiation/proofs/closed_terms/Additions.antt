-- Terms that are added to a list one after another, and their nodes.
use Rattle.std.proofs.Common.{◌≡◌, refl, sym, ap, subst, ◌∙◌, ◌||◌, ℕ, Bool, true, false, if◌then◌else◌, nat_eq, List, [], ◌∷◌, ◌++◌, slice_get, Some}
use Rattle.std.specs.List.{list_any}
use Rattle.std.proofs.lemmas.Bool.{true≢false, eqb-true, eq-eqb}
use Rattle.indexmap.specs.IndexSet.{insert_key}
use Rattle.jh_form.specs.Tree.{TermTree, ValueTree, of_object}
use Rattle.jh_form.specs.Closed.{is_closed_term}
use Rattle.jh_boxed_operations.specs.comparison.Exchanged.{equal_trees}
use Rattle.jh_boxed_operations.proofs.comparison.Equalities.{equal_trees-true, equal_trees-same}
use Rattle.jh_arena.specs.table.Entries.{Listing}
use Rattle.jh_arena.specs.table.Growth.{AreDifferent}
use Rattle.jh_arena.specs.table.Nodes.{nodes}
use Rattle.jh_inst.specs.instances.Terms.{is_among, with_term, with_terms}
use Rattle.jh_instantiation.specs.closed_terms.Listed.{AreTerms, Adds, closed_among}

-- two truths are equal where each follows from the other
both-ways : (p q : Bool) → (p ≡ true → q ≡ true) → (q ≡ true → p ≡ true) → p ≡ q
both-ways true q f g = sym (f refl)
both-ways false true f g = g refl
both-ways false false f g = refl

object-same : (a b : TermTree) → of_object a ≡ of_object b → a ≡ b
object-same a b e = cc

some-same : (v w : ValueTree) → Some v ≡ Some w → v ≡ w
some-same v w e = cc

module _ (t : Listing) (different : AreDifferent (nodes t)) where
  -- two nodes are one exactly where their terms are
  one-node : (n m : ℕ) (a b : TermTree) → slice_get (nodes t) n ≡ Some (of_object a) → slice_get (nodes t) m ≡ Some (of_object b) → nat_eq n m ≡ equal_trees (of_object a) (of_object b)
  one-node n m a b e f = both-ways (nat_eq n m) (equal_trees (of_object a) (of_object b))
      (λ h. equal_trees-same (of_object a) (of_object b) (some-same (of_object a) (of_object b) (sym e ∙ ap (slice_get (nodes t)) (eqb-true n m h) ∙ f)))
      (λ h. eq-eqb n m (different n m (of_object a) e (f ∙ ap (λ v. Some v) (sym (equal_trees-true (of_object a) (of_object b) h)))))

  pub among-nodes : (n : ℕ) (a : TermTree) (ns : List ℕ) (ts : List TermTree) → slice_get (nodes t) n ≡ Some (of_object a) → AreTerms t ns ts → list_any (nat_eq n) ns ≡ is_among a ts
  among-nodes n a [] [] e h = refl
  among-nodes n a [] (b ∷ ts) e h = absurd h
  among-nodes n a (m ∷ ns) [] e h = absurd h
  among-nodes n a (m ∷ ns) (b ∷ ts) e h = λ i. one-node n m a b e h.0 i || among-nodes n a ns ts e h.1 i

  one-behind : (n : ℕ) (a : TermTree) (ns : List ℕ) (ts : List TermTree) → slice_get (nodes t) n ≡ Some (of_object a) → AreTerms t ns ts → AreTerms t (ns ++ n ∷ []) (ts ++ (a ∷ []))
  one-behind n a [] [] e h = (e, tt)
  one-behind n a [] (b ∷ ts) e h = absurd h
  one-behind n a (m ∷ ns) [] e h = absurd h
  one-behind n a (m ∷ ns) (b ∷ ts) e h = (h.0, one-behind n a ns ts e h.1)

  maybe-behind : (p q : Bool) (n : ℕ) (a : TermTree) (ns : List ℕ) (ts : List TermTree) → p ≡ q → slice_get (nodes t) n ≡ Some (of_object a) → AreTerms t ns ts → AreTerms t (if p then ns else ns ++ n ∷ []) (if q then ts else ts ++ (a ∷ []))
  maybe-behind true true n a ns ts is e h = h
  maybe-behind false false n a ns ts is e h = one-behind n a ns ts e h
  maybe-behind true false n a ns ts is e h = absurd (true≢false is)
  maybe-behind false true n a ns ts is e h = absurd (true≢false (sym is))

  pub adds-node : (n : ℕ) (a : TermTree) (old new : List ℕ) → slice_get (nodes t) n ≡ Some (of_object a) → new ≡ insert_key nat_eq old n → Adds t old new (λ ts. with_term ts a)
  adds-node n a old new e is = λ ts h. subst (λ (ns : List ℕ). AreTerms t ns (with_term ts a)) (sym is) (maybe-behind (list_any (nat_eq n) old) (is_among a ts) n a old ts (among-nodes n a old ts e h) e h)

-- several additions
pub with-both : (xs ys ts : List TermTree) → with_terms (with_terms ts xs) ys ≡ with_terms ts (xs ++ ys)
with-both [] ys ts = refl
with-both (a ∷ xs) ys ts = with-both xs ys (with_term ts a)

kept-front : (b : Bool) (a : TermTree) (xs ys : List TermTree) → (if b then a ∷ xs else xs) ++ ys ≡ (if b then a ∷ (xs ++ ys) else xs ++ ys)
kept-front true a xs ys = refl
kept-front false a xs ys = refl

pub closed-both : (xs ys : List TermTree) → closed_among xs ++ closed_among ys ≡ closed_among (xs ++ ys)
closed-both [] ys = refl
closed-both (a ∷ xs) ys = kept-front (is_closed_term a 0) a (closed_among xs) (closed_among ys) ∙ ap (λ zs. if is_closed_term a 0 then a ∷ zs else zs) (closed-both xs ys)

pub adds-both : (xs ys ts : List TermTree) → with_terms (with_terms ts (closed_among xs)) (closed_among ys) ≡ with_terms ts (closed_among (xs ++ ys))
adds-both xs ys ts = with-both (closed_among xs) (closed_among ys) ts ∙ ap (with_terms ts) (closed-both xs ys)

pub adds-two : (t : Listing) (old mid new : List ℕ) (f g : List TermTree → List TermTree) → Adds t old mid f → Adds t mid new g → Adds t old new (λ ts. g (f ts))
adds-two t old mid new f g h k = λ ts e. k (f ts) (h ts e)

pub adds-as : (t : Listing) (old new : List ℕ) (f g : List TermTree → List TermTree) → ((ts : List TermTree) → f ts ≡ g ts) → Adds t old new f → Adds t old new g
adds-as t old new f g is h = λ ts e. subst (λ (us : List TermTree). AreTerms t new us) (is ts) (h ts e)

closed-one : (b : Bool) (a : TermTree) (ts : List TermTree) → with_terms ts (if b then a ∷ [] else []) ≡ (if b then with_term ts a else ts)
closed-one true a ts = refl
closed-one false a ts = refl

pub closed-added : (a : TermTree) (ts : List TermTree) → is_closed_term a 0 ≡ true → with_term ts a ≡ with_terms ts (closed_among (a ∷ []))
closed-added a ts h = sym (closed-one (is_closed_term a 0) a ts ∙ ap (λ b. if b then with_term ts a else ts) h)

pub open-left : (a : TermTree) (ts : List TermTree) → is_closed_term a 0 ≡ false → ts ≡ with_terms ts (closed_among (a ∷ []))
open-left a ts h = sym (closed-one (is_closed_term a 0) a ts ∙ ap (λ b. if b then with_term ts a else ts) h)
