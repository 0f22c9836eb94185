-- The negation normal form of each shape, over those of its parts.
use Rattle.std.proofs.Common.{◌≡◌, refl, sym, ap, subst, ◌∙◌, ℕ, zero, suc, ◌<◌, ◌⊎◌, inl, inr, ◌↔◌, Bool, true, false, not, IsTrue, nat_eq, List, [], ◌∷◌, length, slice_get, Option, Some, None, is_some, Result, Ok, Err, OnOk, arith}
use Rattle.std.proofs.lemmas.Bool.{true≢false, eqb-true, eq-eqb}
use Rattle.std.proofs.lemmas.Option.{slice_get_within}
use Rattle.jh_form.specs.declared.mark.Mark.{Mark}
use Rattle.jh_form.specs.Tree.{FormulaTree, ValueTree, of_object, of_number, of_truth, of_set, of_field}
use Rattle.jh_form.specs.Tree as t
use Rattle.jh_arena.specs.table.Entries.{Pools, Listing, is_truth, the_truth, the_value, the_mark}
use Rattle.jh_arena.specs.table.Growth.{Grows, Extends, AreDifferent}
use Rattle.jh_arena.specs.table.Nodes.{nodes, shape_tree, tree_in}
use Rattle.jh_arena.specs.table.Parts.{parts, ArePartsBelow}
use Rattle.jh_arena.specs.declared.table.shapes.Shape.{Shape}
use Rattle.jh_arena.specs.declared.table.shapes.Shape.TheVariants as s
use Rattle.jh_normal_forms.specs.declared.negation_normal_form.memo.Signed.{Signed}
use Rattle.jh_normal_forms.specs.negation_normal_form.Normal.{normal}
use Rattle.jh_normal_forms.specs.negation_normal_form.Negating.{IsNormalised, HoldsNormal, joined, quantified, opened_second, literal}

-- what stands at a node that is a formula
pub formula-of : (o : Option ValueTree) → is_truth o ≡ true → o ≡ Some (of_truth (the_truth o))
unfolding is_truth the_truth
formula-of (Some (of_truth a)) h = refl
formula-of _ h = absurd (true≢false (sym h))

-- a formula stays where it is while the table grows
pub truth-stays : (t u : Listing) (n : ℕ) → Extends t u → is_truth (slice_get (nodes t) n) ≡ true → slice_get (nodes u) n ≡ Some (of_truth (the_truth (slice_get (nodes t) n)))
truth-stays t u n g h = g.nodes.keeps n (of_truth (the_truth (slice_get (nodes t) n))) (formula-of (slice_get (nodes t) n) h)

pub truth-there : (o : Option ValueTree) (a : FormulaTree) → o ≡ Some (of_truth a) → is_truth o ≡ true
unfolding is_truth
truth-there o a e = ap is_truth e

pub truth-at : (o : Option ValueTree) (a : FormulaTree) → o ≡ Some (of_truth a) → the_truth o ≡ a
unfolding the_truth
truth-at o a e = ap the_truth e

normalised-stays : (ts us : List ValueTree) (k : ℕ) (s : Bool) (n : ℕ) → Grows ts us → IsNormalised ts k s n → IsNormalised us k s n
unfolding is_truth the_truth
normalised-stays ts us k s n g h =
    let here : slice_get us k ≡ Some (of_truth (the_truth (slice_get ts k))) = g.keeps k (of_truth (the_truth (slice_get ts k))) (formula-of (slice_get ts k) h.there) in
    record {
      there = ap is_truth here;
      is = g.keeps n (of_truth (normal (the_truth (slice_get ts k)) s)) h.is ∙ ap (λ o. Some (of_truth (normal (the_truth o) s))) (sym here);
    }

pub holds-stay : (ts us : List ValueTree) (find : Signed → Option ℕ) → Grows ts us → HoldsNormal ts find → HoldsNormal us find
holds-stay ts us find g h = record { at = λ k n e. normalised-stays ts us k.node k.positive n g (h.at k n e) }

nothing : (o : Option ℕ) (n : ℕ) → o ≡ None → o ≡ Some n → ⊥
nothing o n e f = cc

pub holds-none : (ts : List ValueTree) (find : Signed → Option ℕ) → ((k : Signed) → find k ≡ None) → HoldsNormal ts find
holds-none ts find empty = record { at = λ k n e. absurd (nothing (find k) n (empty k) e) }

noted : (ts : List ValueTree) (key k : Signed) (answer n : ℕ) (old : Option ℕ) → IsNormalised ts key.node key.positive answer → (old ≡ Some n → IsNormalised ts k.node k.positive n) →
    ((k ≡ key) × (n ≡ answer)) ⊎ (old ≡ Some n) → IsNormalised ts k.node k.positive n
noted ts key k answer n old m h (inl e) =
    subst (λ (x : ℕ). IsNormalised ts k.node k.positive x) (sym e.1) (subst (λ (q : Signed). IsNormalised ts q.node q.positive answer) (sym e.0) m)
noted ts key k answer n old m h (inr e) = h e

pub holds-note : (ts : List ValueTree) (old new : Signed → Option ℕ) (key : Signed) (answer : ℕ) → HoldsNormal ts old → IsNormalised ts key.node key.positive answer →
    ((k : Signed) (n : ℕ) → new k ≡ Some n → ((k ≡ key) × (n ≡ answer)) ⊎ (old k ≡ Some n)) → HoldsNormal ts new
holds-note ts old new key answer h m fresh = record { at = λ k n e. noted ts key k answer n (old k) m (h.at k n) (fresh k n e) }

value-of : (ts : List ValueTree) (k : ℕ) → k < length ts → slice_get ts k ≡ Some (the_value (slice_get ts k))
unfolding the_value
value-of [] k lt = absurd (omega arith)
value-of (v ∷ ts) zero lt = refl
value-of (v ∷ ts) (suc k) lt = value-of ts k (omega arith)

pub inside-stays : (ts us : List ValueTree) (k : ℕ) → Grows ts us → k < length ts → k < length us
inside-stays ts us k g lt = slice_get_within us k (the_value (slice_get ts k)) (g.keeps k (the_value (slice_get ts k)) (value-of ts k lt))

pub value-stays : (ts us : List ValueTree) (k : ℕ) → Grows ts us → k < length ts → slice_get us k ≡ slice_get ts k
value-stays ts us k g lt = g.keeps k (the_value (slice_get ts k)) (value-of ts k lt) ∙ sym (value-of ts k lt)

some-same : (u v : ValueTree) → Some u ≡ Some v → u ≡ v
some-same u v e = cc

-- two nodes are one exactly where their trees are the same
pub same-nodes : (us : List ValueTree) (l r : ℕ) (u v : ValueTree) → AreDifferent us → slice_get us l ≡ Some u → slice_get us r ≡ Some v → IsTrue (nat_eq l r) ↔ (u ≡ v)
same-nodes us l r u v different there here =
    ((λ h. some-same u v (sym there ∙ ap (slice_get us) (eqb-true l r h) ∙ here)), (λ e. eq-eqb l r (different l r v (there ∙ ap (λ w. Some w) e) here)))

pub on-ok : {A E P : Type 0} (r : Result A E) → P → OnOk r P
on-ok (Ok a) p = p
on-ok (Err e) p = tt

-- the answer for a node from that for its shape
pub answered : (t u : Listing) (k n : ℕ) (s : Bool) (x : Shape) (w : FormulaTree) → Extends t u → slice_get (nodes t) k ≡ Some (tree_in t x) → is_truth (slice_get (nodes t) k) ≡ true →
    w ≡ normal (the_truth (Some (tree_in t x))) s → slice_get (nodes u) n ≡ Some (of_truth w) → IsNormalised (nodes u) k s n
unfolding is_truth the_truth
answered t u k n s x w g there truth is made =
    let here : slice_get (nodes u) k ≡ slice_get (nodes t) k = truth-stays t u k g truth ∙ sym (formula-of (slice_get (nodes t) k) truth) in
    record {
      there = ap is_truth here ∙ truth;
      is = made ∙ ap (λ a. Some (of_truth a)) is ∙ sym (ap (λ o. Some (of_truth (normal (the_truth o) s))) (here ∙ there));
    }

pub still-truth : (t u : Listing) (n : ℕ) → Extends t u → is_truth (slice_get (nodes t) n) ≡ true → is_truth (slice_get (nodes u) n) ≡ true
still-truth t u n g h = truth-there (slice_get (nodes u) n) (the_truth (slice_get (nodes t) n)) (truth-stays t u n g h)

pub truth-inside : (ts : List ValueTree) (n : ℕ) → is_truth (slice_get ts n) ≡ true → n < length ts
truth-inside ts n h = slice_get_within ts n (of_truth (the_truth (slice_get ts n))) (formula-of (slice_get ts n) h)

-- the answer for a formula, by the tree that it had before
pub normal-at : (t u : Listing) (k n : ℕ) (s : Bool) → Extends t u → is_truth (slice_get (nodes t) k) ≡ true → IsNormalised (nodes u) k s n → slice_get (nodes u) n ≡ Some (of_truth (normal (the_truth (slice_get (nodes t) k)) s))
normal-at t u k n s g h m = m.is ∙ ap (λ a. Some (of_truth (normal a s))) (truth-at (slice_get (nodes u) k) (the_truth (slice_get (nodes t) k)) (truth-stays t u k g h))

mark-of : (o : Option Mark) → is_some o ≡ true → o ≡ Some (the_mark o)
unfolding the_mark
mark-of (Some m) h = refl
mark-of None h = absurd (true≢false (sym h))

-- a label stays where it is while the table grows
pub mark-stays : (t u : Listing) (n : ℕ) → Extends t u → is_some (slice_get t.pools.marks n) ≡ true → slice_get u.pools.marks n ≡ Some (the_mark (slice_get t.pools.marks n))
mark-stays t u n g h = g.marks.keeps n (the_mark (slice_get t.pools.marks n)) (mark-of (slice_get t.pools.marks n) h)

pub part-below : (k : ℕ) (ls : List (List ℕ)) (x y : Shape) (i n : ℕ) → ArePartsBelow k ls x → x ≡ y → slice_get (parts ls y) i ≡ Some n → n < k
part-below k ls x y i n h e at = h.below i n (ap (λ z. slice_get (parts ls z) i) e ∙ at)

module _ (p : Pools) (ts : List ValueTree) where
  pub negation-arm : (x : Shape) (a : ℕ) (d : Bool) → x ≡ s.Negation a → normal (the_truth (slice_get ts a)) (not d) ≡ normal (the_truth (Some (shape_tree p ts x))) d
  unfolding shape_tree the_truth normal
  negation-arm x a d e = ap (λ y. normal (the_truth (Some (shape_tree p ts y))) d) (sym e)

  and-as : (a b : FormulaTree) (d : Bool) → joined d (normal a d) (normal b d) ≡ normal (t.and a b) d
  unfolding normal
  and-as a b true = refl
  and-as a b false = refl

  pub and-arm : (x : Shape) (a b : ℕ) (d : Bool) → x ≡ s.And a b → joined d (normal (the_truth (slice_get ts a)) d) (normal (the_truth (slice_get ts b)) d) ≡ normal (the_truth (Some (shape_tree p ts x))) d
  unfolding shape_tree the_truth
  and-arm x a b d e = and-as (the_truth (slice_get ts a)) (the_truth (slice_get ts b)) d ∙ ap (λ y. normal (the_truth (Some (shape_tree p ts y))) d) (sym e)

  or-as : (a b : FormulaTree) (d : Bool) → joined (not d) (normal a d) (normal b d) ≡ normal (t.or a b) d
  unfolding normal
  or-as a b true = refl
  or-as a b false = refl

  pub or-arm : (x : Shape) (a b : ℕ) (d : Bool) → x ≡ s.Or a b → joined (not d) (normal (the_truth (slice_get ts a)) d) (normal (the_truth (slice_get ts b)) d) ≡ normal (the_truth (Some (shape_tree p ts x))) d
  unfolding shape_tree the_truth
  or-arm x a b d e = or-as (the_truth (slice_get ts a)) (the_truth (slice_get ts b)) d ∙ ap (λ y. normal (the_truth (Some (shape_tree p ts y))) d) (sym e)

  implies-as : (a b : FormulaTree) (d : Bool) → joined (not d) (normal a (not d)) (normal b d) ≡ normal (t.implies a b) d
  unfolding normal
  implies-as a b true = refl
  implies-as a b false = refl

  pub implies-arm : (x : Shape) (a b : ℕ) (d : Bool) → x ≡ s.Implies a b → joined (not d) (normal (the_truth (slice_get ts a)) (not d)) (normal (the_truth (slice_get ts b)) d) ≡ normal (the_truth (Some (shape_tree p ts x))) d
  unfolding shape_tree the_truth
  implies-arm x a b d e = implies-as (the_truth (slice_get ts a)) (the_truth (slice_get ts b)) d ∙ ap (λ y. normal (the_truth (Some (shape_tree p ts y))) d) (sym e)

  pub iff-arm : (x : Shape) (a b : ℕ) (d : Bool) → x ≡ s.Iff a b → normal (t.iff (the_truth (slice_get ts a)) (the_truth (slice_get ts b))) d ≡ normal (the_truth (Some (shape_tree p ts x))) d
  unfolding shape_tree the_truth
  iff-arm x a b d e = ap (λ y. normal (the_truth (Some (shape_tree p ts y))) d) (sym e)

  all-as : (a : FormulaTree) (d : Bool) → quantified d (normal a d) ≡ normal (t.all a) d
  unfolding normal
  all-as a true = refl
  all-as a false = refl

  pub all-arm : (x : Shape) (a : ℕ) (d : Bool) → x ≡ s.All a → quantified d (normal (the_truth (slice_get ts a)) d) ≡ normal (the_truth (Some (shape_tree p ts x))) d
  unfolding shape_tree the_truth
  all-arm x a d e = all-as (the_truth (slice_get ts a)) d ∙ ap (λ y. normal (the_truth (Some (shape_tree p ts y))) d) (sym e)

  ex-as : (a : FormulaTree) (d : Bool) → quantified (not d) (normal a d) ≡ normal (t.ex a) d
  unfolding normal
  ex-as a true = refl
  ex-as a false = refl

  pub ex-arm : (x : Shape) (a : ℕ) (d : Bool) → x ≡ s.Ex a → quantified (not d) (normal (the_truth (slice_get ts a)) d) ≡ normal (the_truth (Some (shape_tree p ts x))) d
  unfolding shape_tree the_truth
  ex-arm x a d e = ex-as (the_truth (slice_get ts a)) d ∙ ap (λ y. normal (the_truth (Some (shape_tree p ts y))) d) (sym e)

  pub mark-arm : (x : Shape) (m a : ℕ) (d : Bool) → x ≡ s.Mark m a → t.mark (the_mark (slice_get p.marks m)) (normal (the_truth (slice_get ts a)) d) ≡ normal (the_truth (Some (shape_tree p ts x))) d
  unfolding shape_tree the_truth normal
  mark-arm x m a d e = ap (λ y. normal (the_truth (Some (shape_tree p ts y))) d) (sym e)

  pub atom-arm : (x : Shape) (d : Bool) → ((a : ℕ) → x ≡ s.Negation a → ⊥) → ((a b : ℕ) → x ≡ s.And a b → ⊥) → ((a b : ℕ) → x ≡ s.Or a b → ⊥) → ((a b : ℕ) → x ≡ s.Implies a b → ⊥) → ((a b : ℕ) → x ≡ s.Iff a b → ⊥) → ((a : ℕ) → x ≡ s.All a → ⊥) → ((a : ℕ) → x ≡ s.Ex a → ⊥) → ((m a : ℕ) → x ≡ s.Mark m a → ⊥) → is_truth (Some (shape_tree p ts x)) ≡ true → literal (the_truth (Some (shape_tree p ts x))) d ≡ normal (the_truth (Some (shape_tree p ts x))) d
  unfolding shape_tree is_truth the_truth normal
  atom-arm s.True true h1 h2 h3 h4 h5 h6 h7 h8 h = refl
  atom-arm s.True false h1 h2 h3 h4 h5 h6 h7 h8 h = refl
  atom-arm s.False true h1 h2 h3 h4 h5 h6 h7 h8 h = refl
  atom-arm s.False false h1 h2 h3 h4 h5 h6 h7 h8 h = refl
  atom-arm (s.FreeTruth n) true h1 h2 h3 h4 h5 h6 h7 h8 h = refl
  atom-arm (s.FreeTruth n) false h1 h2 h3 h4 h5 h6 h7 h8 h = refl
  atom-arm (s.ReadTruth a b) true h1 h2 h3 h4 h5 h6 h7 h8 h = refl
  atom-arm (s.ReadTruth a b) false h1 h2 h3 h4 h5 h6 h7 h8 h = refl
  atom-arm (s.Negation a) d h1 h2 h3 h4 h5 h6 h7 h8 h = absurd (h1 a refl)
  atom-arm (s.And a b) d h1 h2 h3 h4 h5 h6 h7 h8 h = absurd (h2 a b refl)
  atom-arm (s.Or a b) d h1 h2 h3 h4 h5 h6 h7 h8 h = absurd (h3 a b refl)
  atom-arm (s.Implies a b) d h1 h2 h3 h4 h5 h6 h7 h8 h = absurd (h4 a b refl)
  atom-arm (s.Iff a b) d h1 h2 h3 h4 h5 h6 h7 h8 h = absurd (h5 a b refl)
  atom-arm (s.All a) d h1 h2 h3 h4 h5 h6 h7 h8 h = absurd (h6 a refl)
  atom-arm (s.Ex a) d h1 h2 h3 h4 h5 h6 h7 h8 h = absurd (h7 a refl)
  atom-arm (s.EqObject a b) true h1 h2 h3 h4 h5 h6 h7 h8 h = refl
  atom-arm (s.EqObject a b) false h1 h2 h3 h4 h5 h6 h7 h8 h = refl
  atom-arm (s.EqNumber a b) true h1 h2 h3 h4 h5 h6 h7 h8 h = refl
  atom-arm (s.EqNumber a b) false h1 h2 h3 h4 h5 h6 h7 h8 h = refl
  atom-arm (s.EqSet a b) true h1 h2 h3 h4 h5 h6 h7 h8 h = refl
  atom-arm (s.EqSet a b) false h1 h2 h3 h4 h5 h6 h7 h8 h = refl
  atom-arm (s.Less a b) true h1 h2 h3 h4 h5 h6 h7 h8 h = refl
  atom-arm (s.Less a b) false h1 h2 h3 h4 h5 h6 h7 h8 h = refl
  atom-arm (s.LessEqual a b) true h1 h2 h3 h4 h5 h6 h7 h8 h = refl
  atom-arm (s.LessEqual a b) false h1 h2 h3 h4 h5 h6 h7 h8 h = refl
  atom-arm (s.Divides z a) true h1 h2 h3 h4 h5 h6 h7 h8 h = refl
  atom-arm (s.Divides z a) false h1 h2 h3 h4 h5 h6 h7 h8 h = refl
  atom-arm (s.Member a b) true h1 h2 h3 h4 h5 h6 h7 h8 h = refl
  atom-arm (s.Member a b) false h1 h2 h3 h4 h5 h6 h7 h8 h = refl
  atom-arm (s.Subset a b) true h1 h2 h3 h4 h5 h6 h7 h8 h = refl
  atom-arm (s.Subset a b) false h1 h2 h3 h4 h5 h6 h7 h8 h = refl
  atom-arm (s.Reach l a b) true h1 h2 h3 h4 h5 h6 h7 h8 h = refl
  atom-arm (s.Reach l a b) false h1 h2 h3 h4 h5 h6 h7 h8 h = refl
  atom-arm (s.Tree l) true h1 h2 h3 h4 h5 h6 h7 h8 h = refl
  atom-arm (s.Tree l) false h1 h2 h3 h4 h5 h6 h7 h8 h = refl
  atom-arm (s.Mark m a) d h1 h2 h3 h4 h5 h6 h7 h8 h = absurd (h8 m a refl)
  atom-arm _ d h1 h2 h3 h4 h5 h6 h7 h8 h = absurd (true≢false (sym h))

-- an equivalence that is opened
pub opened-as : (a b : FormulaTree) (s : Bool) → t.and (t.or (normal a (not s)) (normal b true)) (opened_second a b s) ≡ normal (t.iff a b) s
unfolding normal
opened-as a b true = refl
opened-as a b false = refl
