-- What structures say of literals, and what structures of plain nodes say of what the closure was told.
use Rattle.std.proofs.Common.{◌≡◌, refl, sym, ap, subst, ◌∙◌, ℕ, zero, suc, ◌<◌, Bool, true, false, List, [], ◌∷◌, ◌++◌, map, length, get_or, slice_get, inl, inr, Option, Some, None, arith}
use Rattle.std.specs.Option.{option_map}
use Rattle.std.proofs.lemmas.Bool.Decides.{eqb_tells}
use Rattle.std.proofs.lemmas.List.{length-map}
use Rattle.std.proofs.lemmas.Option.{slice_get-get_or, slice_get-map, slice_get_within, same_Some}
use Rattle.jh_closure.specs.congruence_closure.Nodes.{Structure, Gives, Follows, FollowsFrom, Has, MeetsListed}
use Rattle.jh_closure.specs.congruence_closure.Nodes as plain
use Rattle.jh_closure.specs.declared.congruence_closure.equation.Equation.{Equation}
use Rattle.jh_closure.specs.declared.congruence_closure.node.Node.{Node}
use Rattle.jh_closure.proofs.congruence_closure.Having.{has-left, has-right, has-either, has-last, has-at}
use Rattle.jh_closure.specs.structures.Literals.{Meets, MeetsOne, Says, Denies}
use Rattle.jh_form.specs.Tree.{ValueTree}
use Rattle.jh_form.specs.Tree as t
use Rattle.jh_arena.proofs.table.ShapeSorts.{tree-seen}
use Rattle.jh_cong.specs.flattening.Flattening.{Flattens}
use Rattle.jh_cong.specs.flattening.TreeValues.{NumberStructure, value_in, AreApart, AreValues}
use Rattle.jh_cong.specs.classes.Constants.{ArePair, ArePairs}
use Rattle.jh_cong.specs.classes.Saying.{AreEquatable, AreSayable, CanBeSaid, Entails, IsUnmet, equation_of, literals, one_more, pair_of, picked, tree_at}
use Rattle.jh_cong.specs.classes.States.{AreDenied, AreSeparate, other_side, told}
use Rattle.jh_cong.specs.declared.classes.literal.Said.{Said}
use Rattle.jh_cong.proofs.classes.Separating.{separated}

-- an equation says that both trees have one value
pub says-same : (s : NumberStructure) (v w : ValueTree) → AreEquatable v w → Says s (equation_of v w) → value_in s v ≡ value_in s w
says-same s (t.of_object a) (t.of_object b) h e = e
says-same s (t.of_number a) (t.of_number b) h e = e
says-same s (t.of_set a) (t.of_set b) h e = e
says-same s (t.of_truth a) (t.of_truth b) h e = e
says-same s _ _ h e = absurd h

pub same-says : (s : NumberStructure) (v w : ValueTree) → AreEquatable v w → value_in s v ≡ value_in s w → Says s (equation_of v w)
same-says s (t.of_object a) (t.of_object b) h e = e
same-says s (t.of_number a) (t.of_number b) h e = e
same-says s (t.of_set a) (t.of_set b) h e = e
same-says s (t.of_truth a) (t.of_truth b) h e = e
same-says s _ _ h e = absurd h

pub denies-other : (s : NumberStructure) (v w : ValueTree) → AreEquatable v w → Denies s (equation_of v w) → value_in s v ≡ value_in s w → ⊥
denies-other s (t.of_object a) (t.of_object b) h d e = d e
denies-other s (t.of_number a) (t.of_number b) h d e = d e
denies-other s (t.of_set a) (t.of_set b) h d e = d e
denies-other s (t.of_truth a) (t.of_truth b) h d e = d e
denies-other s _ _ h d e = h

pub other-denies : (s : NumberStructure) (v w : ValueTree) → AreEquatable v w → (value_in s v ≡ value_in s w → ⊥) → Denies s (equation_of v w)
other-denies s (t.of_object a) (t.of_object b) h d = d
other-denies s (t.of_number a) (t.of_number b) h d = d
other-denies s (t.of_set a) (t.of_set b) h d = d
other-denies s (t.of_truth a) (t.of_truth b) h d = d
other-denies s _ _ h d = absurd h

-- trees that are apart have different values
pub apart-values : (s : NumberStructure) (v w : ValueTree) → AreApart v w → value_in s v ≡ value_in s w → ⊥
apart-values s (t.of_number (t.const y)) (t.of_number (t.const z)) h e = h (s.constants_differ y z e)
apart-values s (t.of_truth t.true_formula) (t.of_truth t.false_formula) h e = s.truths_differ e
apart-values s (t.of_truth t.false_formula) (t.of_truth t.true_formula) h e = s.truths_differ (sym e)
apart-values s _ _ h e = h

pub tree-here : (ts : List ValueTree) (k : ℕ) → k < length ts → slice_get ts k ≡ Some (tree_at ts k)
tree-here ts k l = let e = slice_get-get_or ts k (t.of_object t.null) l in e ∙ ap Some (sym (tree-seen (slice_get ts k) (get_or ts k (t.of_object t.null)) e))

pub has-mapped : {X Y : Type 0} (f : X → Y) (xs : List X) (x : X) → Has xs x → Has (map f xs) (f x)
has-mapped f [] x h = absurd h
has-mapped f (y ∷ xs) x (inl e) = inl (ap f e)
has-mapped f (y ∷ xs) x (inr h) = inr (has-mapped f xs x h)

pub mapped-has : {X Y : Type 0} (f : X → Y) (xs : List X) (y : Y) → Has (map f xs) y → (x : X) × Has xs x × (f x ≡ y)
mapped-has f [] y h = absurd h
mapped-has f (x ∷ xs) y (inl e) = (x, inl refl, e)
mapped-has f (x ∷ xs) y (inr h) = let r = mapped-has f xs y h in (r.0, inr r.1, r.2)

has-more : (o : Option Said) (es : List Said) (e : Said) → Has es e → Has (one_more o es) e
has-more (Some x) es e h = inr h
has-more None es e h = h

abbrev if_denied : Bool → Equation → List Equation → List Equation
if_denied true e es = es
if_denied false e es = e ∷ es

-- the pairs that are said to differ
abbrev denied : List Said → List Equation
denied [] = []
denied (e ∷ es) = if_denied e.holds (pair_of e.left e.right) (denied es)

has-behind : (b : Bool) (x : Equation) (es : List Equation) (e : Equation) → Has es e → Has (if_denied b x es) e
has-behind true x es e h = h
has-behind false x es e h = inr h

said-at : (said : List Said) (i : ℕ) → i < length said → (e : Said) × (slice_get said i ≡ Some e)
said-at [] i l = absurd (omega (arith, l))
said-at (x ∷ xs) zero l = (x, refl)
said-at (x ∷ xs) (suc i) l = said-at xs i (omega (arith, l))

slice_get-mapped : {X Y : Type 0} (f : X → Y) (xs : List X) (i : ℕ) (x : X) → slice_get xs i ≡ Some x → slice_get (map f xs) i ≡ Some (f x)
slice_get-mapped f xs i x e = slice_get-map f xs i ∙ ap (option_map f) e

-- a literal that was picked by its number
pub has-picked : (said : List Said) (listed : List ℕ) (i : ℕ) (e : Said) → Has listed i → slice_get said i ≡ Some e → Has (picked said listed) e
has-picked said [] i e h here = absurd h
has-picked said (j ∷ js) i e (inl same) here = subst (λ (es : List Said). Has es e) (sym (ap (λ (o : Option Said). one_more o (picked said js)) (ap (slice_get said) same ∙ here))) (inl refl)
has-picked said (j ∷ js) i e (inr h) here = has-more (slice_get said j) (picked said js) e (has-picked said js i e h here)

has-denied : (said : List Said) (e : Said) → Has said e → e.holds ≡ false → Has (denied said) (pair_of e.left e.right)
has-denied [] e h f = absurd h
has-denied (x ∷ xs) e (inl same) f =
    subst (λ (es : List Equation). Has es (pair_of e.left e.right)) (sym (ap (λ b. if_denied b (pair_of x.left x.right) (denied xs)) (ap (λ (z : Said). z.holds) same ∙ f))) (inl (ap (λ (z : Said). pair_of z.left z.right) same))
has-denied (x ∷ xs) e (inr h) f = has-behind x.holds (pair_of x.left x.right) (denied xs) (pair_of e.left e.right) (has-denied xs e h f)

-- what follows of no literal that says that two nodes differ follows of no pair of these
denied-step : (ns : List Node) (eqs : List Equation) (x : Said) (xs : List Said) (e : Equation) → (Has (denied xs) e → Follows ns eqs e.left e.right → ⊥) → (b : Bool) → (b ≡ false → Follows ns eqs x.left x.right → ⊥) →
    Has (if_denied b (pair_of x.left x.right) (denied xs)) e → Follows ns eqs e.left e.right → ⊥
denied-step ns eqs x xs e later true first u = later u
denied-step ns eqs x xs e later false first (inl same) = subst (λ (z : Equation). Follows ns eqs z.left z.right → ⊥) same (first refl)
denied-step ns eqs x xs e later false first (inr u) = later u

denied-separate : (ns : List Node) (eqs : List Equation) (said : List Said) → AreDenied ns eqs said → AreSeparate ns eqs (denied said)
denied-separate ns eqs [] h e w = absurd w
denied-separate ns eqs (x ∷ xs) h e w = denied-step ns eqs x xs e (denied-separate ns eqs xs (λ d v. h d (inr v)) e) x.holds (h x (inl refl)) w

-- the literals one by one
pub meets-each : (s : NumberStructure) (ts : List ValueTree) (said : List Said) → Meets s (literals ts said) → (e : Said) → Has said e → MeetsOne s e.holds (equation_of (tree_at ts e.left) (tree_at ts e.right))
meets-each s ts [] m e h = absurd h
meets-each s ts (x ∷ xs) m e (inl same) = subst (λ (z : Said). MeetsOne s z.holds (equation_of (tree_at ts z.left) (tree_at ts z.right))) same m.0
meets-each s ts (x ∷ xs) m e (inr h) = meets-each s ts xs m.1 e h

pub each-meets : (s : NumberStructure) (ts : List ValueTree) (said : List Said) → ((e : Said) → Has said e → MeetsOne s e.holds (equation_of (tree_at ts e.left) (tree_at ts e.right))) → Meets s (literals ts said)
each-meets s ts [] h = tt
each-meets s ts (x ∷ xs) h = (h x (inl refl), each-meets s ts xs (λ e w. h e (inr w)))

module _ (ts : List ValueTree) (s : NumberStructure) (at : ℕ → ℕ) (values : AreValues s ts at) where
  pub value-here : (k : ℕ) → k < length ts → value_in s (tree_at ts k) ≡ at k
  value-here k l = values k (tree_at ts k) (tree-here ts k l)

  -- nodes of one number have one value, and the other way round
  at-says : (a b : ℕ) → CanBeSaid ts a b → at a ≡ at b → Says s (equation_of (tree_at ts a) (tree_at ts b))
  at-says a b h e = same-says s (tree_at ts a) (tree_at ts b) h.sorts (value-here a h.left ∙ (e ∙ sym (value-here b h.right)))

  says-at : (a b : ℕ) → CanBeSaid ts a b → Says s (equation_of (tree_at ts a) (tree_at ts b)) → at a ≡ at b
  says-at a b h e = sym (value-here a h.left) ∙ (says-same s (tree_at ts a) (tree_at ts b) h.sorts e ∙ value-here b h.right)

  -- what is met makes what the closure was told true
  told-holds : (e : Said) → CanBeSaid ts e.left e.right → MeetsOne s e.holds (equation_of (tree_at ts e.left) (tree_at ts e.right)) → at e.left ≡ at (other_side e.holds e.left e.right)
  told-holds e h m = by-sign e.holds m
    where
      by-sign : (b : Bool) → MeetsOne s b (equation_of (tree_at ts e.left) (tree_at ts e.right)) → at e.left ≡ at (other_side b e.left e.right)
      by-sign true w = says-at e.left e.right h w
      by-sign false w = refl

  denied-differ : (e : Said) → CanBeSaid ts e.left e.right → e.holds ≡ false → MeetsOne s e.holds (equation_of (tree_at ts e.left) (tree_at ts e.right)) → at e.left ≡ at e.right → ⊥
  denied-differ e h f m same =
      denies-other s (tree_at ts e.left) (tree_at ts e.right) h.sorts (subst (λ b. MeetsOne s b (equation_of (tree_at ts e.left) (tree_at ts e.right))) f m)
      (value-here e.left h.left ∙ (same ∙ sym (value-here e.right h.right)))

  meets-told : (said : List Said) → AreSayable ts said → Meets s (literals ts said) → plain.Meets at (map told said)
  meets-told said ok m q h =
      let r = mapped-has told said q h in
      subst (λ (z : Equation). at z.left ≡ at z.right) r.2 (told-holds r.0 (ok r.0 r.1) (meets-each s ts said m r.0 r.1))

  meets-picked : (said : List Said) → AreSayable ts said → (listed : List ℕ) → Meets s (literals ts (picked said listed)) → MeetsListed at (map told said) listed
  meets-picked said ok listed m i q h here =
      let l : i < length said = subst (λ z. i < z) (length-map said told) (slice_get_within (map told said) i q here) in
      let e = said-at said i l in
      let same : told e.0 ≡ q = same_Some (told e.0) q (sym (slice_get-mapped told said i e.0 e.1) ∙ here) in
      subst (λ (z : Equation). at z.left ≡ at z.right) same (told-holds e.0 (ok e.0 (has-at said i e.0 e.1)) (meets-each s ts (picked said listed) m e.0 (has-picked said listed i e.0 h e.1)))

module _ (ts : List ValueTree) (ns : List Node) (fl : Flattens ts ns) (said : List Said) (ok : AreSayable ts said) where
  -- what the closure says of two nodes follows from the literals
  pub follows-entails : (a b : ℕ) → CanBeSaid ts a b → Follows ns (map told said) a b → Entails ts said a b
  follows-entails a b h follows s m = let l = fl.lowers s in at-says ts s l.1 l.3 a b h (follows l.0 l.1 l.2 (meets-told ts s l.1 l.3 said ok m))

  -- also where it isn't so that it doesn't
  pub unless-follows : (a b : ℕ) → CanBeSaid ts a b → ((Follows ns (map told said) a b → ⊥) → ⊥) → Entails ts said a b
  unless-follows a b h sure s m =
      let l = fl.lowers s in
      elim (eqb_tells (l.1 a) (l.1 b)) [
        | inl same ↦ at-says ts s l.1 l.3 a b h same.1
        | inr other ↦ absurd (sure (λ follows. other.1 (follows l.0 l.1 l.2 (meets-told ts s l.1 l.3 said ok m))))
      ]

  pub from-entails : (listed : List ℕ) (a b : ℕ) → CanBeSaid ts a b → FollowsFrom ns (map told said) listed a b → Entails ts (picked said listed) a b
  from-entails listed a b h follows s m = let l = fl.lowers s in at-says ts s l.1 l.3 a b h (follows l.0 l.1 l.2 (meets-picked ts s l.1 l.3 said ok listed m))

  -- why no structure meets the literals: two nodes that are apart are equal
  pub unmet-apart : (listed : List ℕ) (p : Equation) → ArePair ts p → FollowsFrom ns (map told said) listed p.left p.right → IsUnmet ts (picked said listed)
  unmet-apart listed p pr follows s m =
      let l = fl.lowers s in
      let e : l.1 p.left ≡ l.1 p.right = follows l.0 l.1 l.2 (meets-picked ts s l.1 l.3 said ok listed m) in
      apart-values s (tree_at ts p.left) (tree_at ts p.right) pr.apart (value-here ts s l.1 l.3 p.left pr.left_inside ∙ (e ∙ sym (value-here ts s l.1 l.3 p.right pr.right_inside)))

  -- or two nodes are equal that are said to differ
  pub unmet-denied : (listed : List ℕ) (k : ℕ) (e : Said) → slice_get said k ≡ Some e → e.holds ≡ false → FollowsFrom ns (map told said) listed e.left e.right → IsUnmet ts (picked said (listed ++ k ∷ []))
  unmet-denied listed k e here f follows s m =
      let l = fl.lowers s in
      let all = meets-picked ts s l.1 l.3 said ok (listed ++ k ∷ []) m in
      let same : l.1 e.left ≡ l.1 e.right = follows l.0 l.1 l.2 (λ i q w. all i q (has-left listed (k ∷ []) i w)) in
      denied-differ ts s l.1 l.3 e (ok e (has-at said k e here)) f (meets-each s ts (picked said (listed ++ k ∷ [])) m e (has-picked said (listed ++ k ∷ []) k e (has-last listed k) here)) same

  -- Where no two nodes are equal that are apart or said to differ, and none of some further pairs, a structure may be taken
  -- that meets the literals and gives those pairs different values.
  pub may-be-met : (pairs extra : List Equation) → ArePairs ts pairs → AreSeparate ns (map told said) pairs → AreDenied ns (map told said) said → AreSeparate ns (map told said) extra →
      ((s : NumberStructure) (at : ℕ → ℕ) → AreValues s ts at → Meets s (literals ts said) → ((e : Equation) → Has extra e → at e.left ≡ at e.right → ⊥) → ⊥) → ⊥
  may-be-met pairs extra pr one two three goes = separated ns (map told said) (pairs ++ (denied said ++ extra)) all-separate (λ c at g m apart.
      let r = fl.lifts c at g (λ i j v w hi hj h. apart (pair_of i j) (has-left pairs (denied said ++ extra) (pair_of i j) (pr.covers i j v w hi hj h))) in
      goes r.0 at r.1
      (each-meets r.0 ts said (λ e w. one-met r.0 at r.1 c g m apart e w e.holds refl))
      (λ e w. apart e (has-right pairs (denied said ++ extra) e (has-right (denied said) extra e w))))
    where
      all-separate : AreSeparate ns (map told said) (pairs ++ (denied said ++ extra))
      all-separate e w = elim (has-either pairs (denied said ++ extra) e w) [
        | inl l ↦ one e l
        | inr r ↦ elim (has-either (denied said) extra e r) [ inl l ↦ denied-separate ns (map told said) said two e l | inr u ↦ three e u ]
      ]

      one-met : (s : NumberStructure) (at : ℕ → ℕ) → AreValues s ts at → (c : Structure ℕ) → Gives c ns at → plain.Meets at (map told said) → ((e : Equation) → Has (pairs ++ (denied said ++ extra)) e → at e.left ≡ at e.right → ⊥) →
          (e : Said) → Has said e → (b : Bool) → e.holds ≡ b → MeetsOne s e.holds (equation_of (tree_at ts e.left) (tree_at ts e.right))
      one-met s at v c g m apart e w true h =
          subst (λ b. MeetsOne s b (equation_of (tree_at ts e.left) (tree_at ts e.right))) (sym h)
          (at-says ts s at v e.left e.right (ok e w) (m (told e) (has-mapped told said e w) ∙ ap (λ b. at (other_side b e.left e.right)) h))
      one-met s at v c g m apart e w false h =
          subst (λ b. MeetsOne s b (equation_of (tree_at ts e.left) (tree_at ts e.right))) (sym h)
          (other-denies s (tree_at ts e.left) (tree_at ts e.right) (ok e w).sorts (λ same.
          apart (pair_of e.left e.right) (has-right pairs (denied said ++ extra) (pair_of e.left e.right) (has-left (denied said) extra (pair_of e.left e.right) (has-denied said e w h)))
          (sym (value-here ts s at v e.left (ok e w).left) ∙ (same ∙ value-here ts s at v e.right (ok e w).right))))

  -- some structure meets the literals
  pub is-met : (pairs : List Equation) → ArePairs ts pairs → AreSeparate ns (map told said) pairs → AreDenied ns (map told said) said → IsUnmet ts said → ⊥
  is-met pairs pr one two unmet = may-be-met pairs [] pr one two (λ e w. absurd w) (λ s at v m none. unmet s m)

  -- what follows from the literals the closure says
  pub entails-follows : (pairs : List Equation) → ArePairs ts pairs → AreSeparate ns (map told said) pairs → AreDenied ns (map told said) said → (a b : ℕ) → CanBeSaid ts a b → (Follows ns (map told said) a b → ⊥) → Entails ts said a b → ⊥
  entails-follows pairs pr one two a b h none entails =
      may-be-met pairs (pair_of a b ∷ []) pr one two (λ e w. elim w [ inl same ↦ subst (λ (z : Equation). Follows ns (map told said) z.left z.right → ⊥) same none | inr none-left ↦ absurd none-left ])
      (λ s at v m other. other (pair_of a b) (inl refl) (says-at ts s at v a b h (entails s m)))
