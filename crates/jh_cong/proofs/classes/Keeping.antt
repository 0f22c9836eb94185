-- What is told while more is said, and what is left where some is taken back.
use Rattle.std.proofs.Common.{◌≡◌, refl, sym, ap, subst, ◌∙◌, ℕ, zero, suc, ◌+◌, ◌<◌, ◌≤◌, false, List, [], ◌∷◌, ◌++◌, map, take, length, slice_get, Some, ◌⊎◌, inl, inr, arith}
use Rattle.std.proofs.lemmas.List.{map-append, length-map, length-take-le, take-map, take-append-le, take_all, take_at}
use Rattle.std.proofs.lemmas.Option.{slice_get_within}
use Rattle.jh_closure.specs.congruence_closure.Cores.{Begins}
use Rattle.jh_closure.specs.congruence_closure.Levels.{Asserted}
use Rattle.jh_closure.specs.congruence_closure.Nodes.{Follows, Has}
use Rattle.jh_closure.specs.declared.congruence_closure.equation.Equation.{Equation}
use Rattle.jh_closure.specs.declared.congruence_closure.node.Node.{Node}
use Rattle.jh_closure.proofs.congruence_closure.Growing.{begins-length, begins-same, begins-take, begins-trans}
use Rattle.jh_closure.proofs.congruence_closure.Having.{has-at, has-left, has-pushed}
use Rattle.jh_arena.specs.table.Entries.{Listing}
use Rattle.jh_arena.specs.table.Nodes.{nodes}
use Rattle.jh_cong.specs.flattening.Flattening.{Flattens}
use Rattle.jh_cong.proofs.flattening.Gathering.{at-push}
use Rattle.jh_cong.proofs.flattening.Lowering.{get-joined}
use Rattle.jh_cong.specs.classes.Constants.{ArePairs}
use Rattle.jh_cong.specs.classes.Saying.{AreSayable, CanBeSaid}
use Rattle.jh_cong.specs.classes.States.{AreEnough, AreListed, Continues, IsLooked, IsState, IsTold, told}
use Rattle.jh_cong.specs.declared.classes.literal.Said.{Said}
use Rattle.jh_cong.specs.declared.classes.state.State.{State}
use Rattle.jh_cong.proofs.classes.Looking.{take-next}

-- the closure after an assertion
abbrev pub asserted : List Node → List Equation → Asserted
asserted ns said = record { nodes = ns; said = said }

pub sayable-more : (t : Listing) (said : List Said) (e : Said) → AreSayable (nodes t) said → CanBeSaid (nodes t) e.left e.right → AreSayable (nodes t) (said ++ e ∷ [])
sayable-more t said e all one d h = elim (has-pushed said e d h) [ inl old ↦ all d old | inr same ↦ subst (λ (z : Said). CanBeSaid (nodes t) z.left z.right) same one ]

-- all equations are enough
pub enough-all : (ns : List Node) (said : List Equation) (n : ℕ) → n ≡ length said → AreEnough ns said n
enough-all ns said n e a b f = subst (λ (es : List Equation). Follows ns es a b) (sym (take_all n said (omega (arith, e)))) f

-- and one that follows already isn't needed
pub enough-known : (ns : List Node) (said : List Equation) (e : Equation) (n : ℕ) → n ≤ length said → Follows ns said e.left e.right → AreEnough ns said n → AreEnough ns (said ++ e ∷ []) n
enough-known ns said e n l known enough a b f =
    subst (λ (es : List Equation). Follows ns es a b) (sym (take-append-le n said (e ∷ []) l))
    (enough a b (λ s at g m. f s at g (λ q h. elim (has-pushed said e q h) [
      | inl old ↦ m q old
      | inr same ↦ subst (λ (z : Equation). at z.left ≡ at z.right) same (known s at g m)
    ])))

-- the number of one more literal is listed where it says that two nodes differ
listed-more : (said : List Said) (e : Said) (ks more : List ℕ) → AreListed said ks → Begins ks more → (e.holds ≡ false → Has more (length said)) → AreListed (said ++ e ∷ []) more
listed-more said e ks more all begins noted k x here off = elim (at-push said e x k here) [
  | inl old ↦ subst (λ (zs : List ℕ). Has zs k) (sym begins.1) (has-left ks begins.0 k (all k x old off))
  | inr new ↦ subst (λ z. Has more z) (sym new.0) (noted (ap (λ (z : Said). z.holds) new.1 ∙ off))
]

-- one more literal is said and told
pub told-more : (old new : State) (e : Said) → IsTold old → CanBeSaid (nodes old.table) e.left e.right → new.table ≡ old.table → new.apart.items ≡ old.apart.items → new.said.items ≡ old.said.items ++ e ∷ [] →
    new.closure ≡ asserted old.closure.nodes (old.closure.said ++ told e ∷ []) → Begins old.denied.items new.denied.items → (e.holds ≡ false → Has new.denied.items (length old.said.items)) →
    new.enough ≤ length new.closure.said → AreEnough new.closure.nodes new.closure.said new.enough → IsTold new
told-more old new e told-old can table apart said closure begins noted inside enough = record {
  flattens = subst (λ (t : Listing). Flattens (nodes t) new.closure.nodes) (sym table) (subst (λ (ns : List Node). Flattens (nodes old.table) ns) (sym (ap (λ (a : Asserted). a.nodes) closure)) told-old.flattens);
  told_all = all;
  pairs = subst (λ (t : Listing). ArePairs (nodes t) new.apart.items) (sym table) (subst (λ (es : List Equation). ArePairs (nodes old.table) es) (sym apart) told-old.pairs);
  sayable = subst (λ (t : Listing). AreSayable (nodes t) new.said.items) (sym table) (subst (λ (es : List Said). AreSayable (nodes old.table) es) (sym said) (sayable-more old.table old.said.items e told-old.sayable can));
  denied = subst (λ (es : List Said). AreListed es new.denied.items) (sym said) (listed-more old.said.items e old.denied.items new.denied.items told-old.denied begins noted);
  inside = let same : length new.closure.said ≡ length new.said.items = ap length all ∙ length-map new.said.items told in omega (arith, inside, same);
  enough = enough;
}
  where
    all : new.closure.said ≡ map told new.said.items
    all =
        ap (λ (a : Asserted). a.said) closure
        ∙ (ap (λ (es : List Equation). es ++ told e ∷ []) told-old.told_all
        ∙ (sym (map-append told old.said.items (e ∷ []))
        ∙ ap (λ (es : List Said). map told es) (sym said)))

pub continues-same : (st : State) → Continues st st
continues-same st = record {
  table = refl;
  nodes = refl;
  apart = refl;
  said = begins-same st.said.items st.said.items refl;
  told = begins-same st.closure.said st.closure.said refl;
  denied = begins-same st.denied.items st.denied.items refl;
}

pub continues-twice : (a b c : State) → Continues a b → Continues b c → Continues a c
continues-twice a b c h w = record {
  table = w.table ∙ h.table;
  nodes = w.nodes ∙ h.nodes;
  apart = w.apart ∙ h.apart;
  said = begins-trans a.said.items b.said.items c.said.items h.said w.said;
  told = begins-trans a.closure.said b.closure.said c.closure.said h.told w.told;
  denied = begins-trans a.denied.items b.denied.items c.denied.items h.denied w.denied;
}

-- the same is said and told of the same nodes
pub state-same : (old new : State) → new.table ≡ old.table → new.closure.nodes ≡ old.closure.nodes → new.closure.said ≡ old.closure.said → new.apart.items ≡ old.apart.items → new.said.items ≡ old.said.items →
    AreListed new.said.items new.denied.items → new.enough ≡ length new.said.items → IsState old → IsState new
state-same old new table ns eqs apart said listed enough st = record {
  told = record {
    flattens = subst (λ (t : Listing). Flattens (nodes t) new.closure.nodes) (sym table) (subst (λ (xs : List Node). Flattens (nodes old.table) xs) (sym ns) st.told.flattens);
    told_all = all;
    pairs = subst (λ (t : Listing). ArePairs (nodes t) new.apart.items) (sym table) (subst (λ (es : List Equation). ArePairs (nodes old.table) es) (sym apart) st.told.pairs);
    sayable = subst (λ (t : Listing). AreSayable (nodes t) new.said.items) (sym table) (subst (λ (es : List Said). AreSayable (nodes old.table) es) (sym said) st.told.sayable);
    denied = listed;
    inside = omega (arith, enough);
    enough = enough-all new.closure.nodes new.closure.said new.enough (enough ∙ sym (ap length all ∙ length-map new.said.items told));
  };
  separate = λ e h f. st.separate e (subst (λ (es : List Equation). Has es e) apart h) (moved e.left e.right f);
  differ = λ e h w f. st.differ e (subst (λ (es : List Said). Has es e) said h) w (moved e.left e.right f);
}
  where
    all : new.closure.said ≡ map told new.said.items
    all = eqs ∙ (st.told.told_all ∙ ap (λ (es : List Said). map told es) (sym said))

    moved : (a b : ℕ) → Follows new.closure.nodes new.closure.said a b → Follows old.closure.nodes old.closure.said a b
    moved a b f = subst (λ (xs : List Node). Follows xs old.closure.said a b) ns (subst (λ (es : List Equation). Follows new.closure.nodes es a b) eqs f)

begins-back : {X : Type 0} (xs ys : List X) → Begins xs ys → take (length xs) ys ≡ xs
begins-back xs ys h = ap (take (length xs)) h.1 ∙ take_at xs h.0 (length xs) refl

-- there are as many equations as literals
pub told-long : (st : State) → IsTold st → length st.closure.said ≡ length st.said.items
told-long st h = ap length h.told_all ∙ length-map st.said.items told

-- what was so before more was said and told
pub state-back : (old more new : State) (n : ℕ) → n ≡ length old.said.items → IsState old → Continues old more → new.table ≡ more.table → new.apart.items ≡ more.apart.items → new.said.items ≡ take n more.said.items →
    new.closure ≡ asserted more.closure.nodes (take n more.closure.said) → ((k : ℕ) → k < n → Has more.denied.items k → Has new.denied.items k) → new.enough ≡ n → IsState new
state-back old more new n count st c table apart said closure fewer enough = state-same old new (table ∙ c.table) (ap (λ (a : Asserted). a.nodes) closure ∙ c.nodes)
    (ap (λ (a : Asserted). a.said) closure ∙ (ap (λ i. take i more.closure.said) (count ∙ sym (told-long old st.told)) ∙ begins-back old.closure.said more.closure.said c.told))
    (apart ∙ c.apart) said-old listed (enough ∙ (count ∙ ap length (sym said-old))) st
  where
    said-old : new.said.items ≡ old.said.items
    said-old = said ∙ (ap (λ i. take i more.said.items) count ∙ begins-back old.said.items more.said.items c.said)

    listed : AreListed new.said.items new.denied.items
    listed k x here off =
        let before : slice_get old.said.items k ≡ Some x = subst (λ (es : List Said). slice_get es k ≡ Some x) said-old here in
        let lt : k < length old.said.items = slice_get_within old.said.items k x before in
        fewer k (omega (arith, lt, count)) (subst (λ (ks : List ℕ). Has ks k) (sym c.denied.1) (has-left old.denied.items c.denied.0 k (st.told.denied k x before off)))

-- and where fewer literals are left
pub has-taken : {X : Type 0} (n : ℕ) (xs : List X) (x : X) → Has (take n xs) x → Has xs x
has-taken zero xs x h = absurd h
has-taken (suc n) [] x h = absurd h
has-taken (suc n) (y ∷ xs) x (inl e) = inl e
has-taken (suc n) (y ∷ xs) x (inr h) = inr (has-taken n xs x h)

follows-more : (ns : List Node) (eqs : List Equation) (n a b : ℕ) → Follows ns (take n eqs) a b → Follows ns eqs a b
follows-more ns eqs n a b f c at g m = f c at g (λ e h. m e (has-taken n eqs e h))

-- what stands at a place of the front of a list
at-taken : {X : Type 0} (xs : List X) (n i : ℕ) (x : X) → slice_get (take n xs) i ≡ Some x → (i < n) × (slice_get xs i ≡ Some x)
at-taken xs zero i x h = absurd (let l : i < 0 = slice_get_within [] i x h in omega (arith, l))
at-taken [] (suc n) i x h = absurd (let l : i < 0 = slice_get_within [] i x h in omega (arith, l))
at-taken (y ∷ xs) (suc n) zero x h = (omega arith, h)
at-taken (y ∷ xs) (suc n) (suc i) x h = let r = at-taken xs n i x h in (let l = r.0 in omega (arith, l), r.1)

pub state-cut : (old new : State) (n : ℕ) → IsState old → n ≤ length old.said.items → new.table ≡ old.table → new.apart.items ≡ old.apart.items → new.said.items ≡ take n old.said.items → new.closure ≡ asserted old.closure.nodes (take n old.closure.said) →
    ((k : ℕ) → k < n → Has old.denied.items k → Has new.denied.items k) → new.enough ≡ n → IsState new
state-cut old new n st few table apart said closure fewer enough = record {
  told = record {
    flattens = subst (λ (t : Listing). Flattens (nodes t) new.closure.nodes) (sym table) (subst (λ (xs : List Node). Flattens (nodes old.table) xs) (sym nodes-same) st.told.flattens);
    told_all = all;
    pairs = subst (λ (t : Listing). ArePairs (nodes t) new.apart.items) (sym table) (subst (λ (es : List Equation). ArePairs (nodes old.table) es) (sym apart) st.told.pairs);
    sayable = λ e h. subst (λ (t : Listing). CanBeSaid (nodes t) e.left e.right) (sym table) (st.told.sayable e (still e h));
    denied = listed;
    inside = let e = long in omega (arith, enough, e);
    enough = enough-all new.closure.nodes new.closure.said new.enough (enough ∙ (sym long ∙ sym (ap length all ∙ length-map new.said.items told)));
  };
  separate = λ e h f. st.separate e (subst (λ (es : List Equation). Has es e) apart h) (moved e.left e.right f);
  differ = λ e h w f. st.differ e (still e h) w (moved e.left e.right f);
}
  where
    nodes-same : new.closure.nodes ≡ old.closure.nodes
    nodes-same = ap (λ (a : Asserted). a.nodes) closure

    eqs-same : new.closure.said ≡ take n old.closure.said
    eqs-same = ap (λ (a : Asserted). a.said) closure

    all : new.closure.said ≡ map told new.said.items
    all = eqs-same ∙ (ap (take n) st.told.told_all ∙ (take-map told n old.said.items ∙ ap (λ (es : List Said). map told es) (sym said)))

    long : length new.said.items ≡ n
    long = ap length said ∙ length-take-le n old.said.items few

    listed : AreListed new.said.items new.denied.items
    listed k x here off =
        let before = at-taken old.said.items n k x (subst (λ (es : List Said). slice_get es k ≡ Some x) said here) in
        fewer k before.0 (st.told.denied k x before.1 off)

    still : (e : Said) → Has new.said.items e → Has old.said.items e
    still e h = has-taken n old.said.items e (subst (λ (es : List Said). Has es e) said h)

    moved : (a b : ℕ) → Follows new.closure.nodes new.closure.said a b → Follows old.closure.nodes old.closure.said a b
    moved a b f = follows-more old.closure.nodes old.closure.said n a b (subst (λ (xs : List Node). Follows xs (take n old.closure.said) a b) nodes-same (subst (λ (es : List Equation). Follows new.closure.nodes es a b) eqs-same f))

-- Where nothing more follows since the first literals were looked at, no pair of these is equal that is said to differ.
pub looked-before : (old new : State) → IsState old → IsTold new → Continues old new → new.enough ≤ length old.said.items → IsLooked new (length old.said.items)
looked-before old new st told-new c few = record {
  count = begins-length old.said.items new.said.items c.said;
  separate = λ e h f. st.separate e (subst (λ (es : List Equation). Has es e) c.apart h) (moved e.left e.right f);
  differ = λ k e l here off f. st.differ e (has-at old.said.items k e (before k e l here)) off (moved e.left e.right f);
}
  where
    inside : new.enough ≤ length old.closure.said
    inside = let e = told-long old st.told in omega (arith, few, e)

    moved : (a b : ℕ) → Follows new.closure.nodes new.closure.said a b → Follows old.closure.nodes old.closure.said a b
    moved a b f =
        let first = subst (λ (es : List Equation). Follows new.closure.nodes es a b) (begins-take old.closure.said new.closure.said new.enough c.told inside) (told-new.enough a b f) in
        follows-more old.closure.nodes old.closure.said new.enough a b (subst (λ (xs : List Node). Follows xs (take new.enough old.closure.said) a b) c.nodes first)

    before : (k : ℕ) (e : Said) → k < length old.said.items → slice_get new.said.items k ≡ Some e → slice_get old.said.items k ≡ Some e
    before k e l here = elim (get-joined old.said.items c.said.0 k e (subst (λ (es : List Said). slice_get es k ≡ Some e) c.said.1 here)) [
      | inl at ↦ at.1
      | inr past ↦ let far = past.0 in absurd (omega (arith, l, far))
    ]

-- a number that isn't the last one stands before it
pub has-fewer : (xs : List ℕ) (n m x k : ℕ) → n ≡ m + 1 → slice_get xs m ≡ Some x → (x ≡ k → ⊥) → Has (take n xs) k → Has (take m xs) k
has-fewer xs n m x k next here other h =
    elim (has-pushed (take m xs) x k (subst (λ (zs : List ℕ). Has zs k) (ap (λ i. take i xs) next ∙ take-next xs m x here) h)) [ inl old ↦ old | inr same ↦ absurd (other same) ]
