-- The walk over a formula: what it knows of nodes stays while the table grows, and what comes of each shape.
use Rattle.std.proofs.Common.{◌≡◌, refl, sym, ap, subst, ◌∙◌, ℕ, ◌<◌, ◌⊎◌, inl, inr, Bool, true, false, not, ◌||◌, if◌then◌else◌, List, slice_get, Option, Some, None, is_some, Result, Ok, Err, OnOk}
use Rattle.std.proofs.lemmas.Bool.{true≢false}
use Rattle.jh_form.specs.declared.mark.Mark.{Mark}
use Rattle.jh_form.specs.Tree.{FormulaTree, ValueTree, of_truth, of_field, free_field}
use Rattle.jh_form.specs.Tree as t
use Rattle.jh_form.proofs.ClosedLemmas.{both-left, both-right}
use Rattle.jh_arena.specs.table.Entries.{Pools, Listing, is_truth, the_truth, the_mark}
use Rattle.jh_arena.specs.table.Growth.{Grows, Extends}
use Rattle.jh_arena.specs.table.Nodes.{nodes, shape_tree, tree_in, fits_in}
use Rattle.jh_arena.specs.table.Parts.{parts, ArePartsBelow}
use Rattle.jh_arena.specs.declared.table.shapes.Shape.{Shape}
use Rattle.jh_arena.specs.declared.table.shapes.Shape.TheVariants as s
use Rattle.jh_arena.proofs.table.PartSteps.{part-Negation-a, part-And-a, part-And-b, part-Or-a, part-Or-b, part-Implies-a, part-Implies-b, part-Iff-a, part-Iff-b, part-All-a, part-Ex-a, part-Mark-a}
use Rattle.jh_seq.specs.splitting.Local.{has_local_shape}
use Rattle.jh_fca.specs.elimination.Constraints.{Constraint}
use Rattle.jh_fca.specs.elimination.Reads.{holds_read}
use Rattle.jh_fca.specs.elimination.Exchanged.{eliminated}
use Rattle.jh_field_constraints.specs.declared.constraints.NodeConstraint.{NodeConstraint}
use Rattle.jh_field_constraints.specs.declared.memo.Signed.{Signed}
use Rattle.jh_field_constraints.specs.Standing.{IsConstraint}
use Rattle.jh_field_constraints.specs.Reading.{IsLocalAt}
use Rattle.jh_field_constraints.specs.Walking.{IsEliminated, HoldsEliminated, both_ways}
use Rattle.jh_field_constraints.proofs.Standings.{truth-of, truth-at, truth-stays, name-same, formula-same}

-- ---- what stays

here : (ts us : List ValueTree) (k : ℕ) → Grows ts us → is_truth (slice_get ts k) ≡ true → slice_get us k ≡ slice_get ts k
here ts us k g h = g.keeps k (of_truth (the_truth (slice_get ts k))) (truth-of (slice_get ts k) h) ∙ sym (truth-of (slice_get ts k) h)

pub local-stays : (ts us : List ValueTree) (k : ℕ) → Grows ts us → IsLocalAt ts k → IsLocalAt us k
local-stays ts us k g h = record {
  there = ap is_truth (here ts us k g h.there) ∙ h.there;
  shaped = ap (λ o. has_local_shape (the_truth o)) (here ts us k g h.there) ∙ h.shaped;
}

pub constraint-grows : (t u : Listing) (of : NodeConstraint) (c : Constraint) → Extends t u → IsConstraint t of c → IsConstraint u of c
constraint-grows t u of c g h = record { field = g.nodes.keeps of.field (of_field (free_field c.field)) h.field; says = g.nodes.keeps of.says (of_truth c.says) h.says }

constraint-same : (u : Listing) (of : NodeConstraint) (c d : Constraint) → IsConstraint u of c → IsConstraint u of d → c ≡ d
constraint-same u of c d h k =
    let field : c.field ≡ d.field = name-same (slice_get (nodes u) of.field) c.field d.field h.field k.field in
    let says : c.says ≡ d.says = formula-same (slice_get (nodes u) of.says) c.says d.says h.says k.says in
    λ i. record { field = field i; says = says i }

-- a constraint at nodes of the table that has grown was one before
pub constraint-back : (t u : Listing) (of : NodeConstraint) (d c : Constraint) → Extends t u → IsConstraint t of d → IsConstraint u of c → IsConstraint t of c
constraint-back t u of d c g h k = subst (λ (e : Constraint). IsConstraint t of e) (constraint-same u of d c (constraint-grows t u of d g h) k) h

module _ (c : Constraint) where
  eliminated-stays : (ts us : List ValueTree) (k : ℕ) (s : Bool) (n : ℕ) → Grows ts us → IsEliminated c ts k s n → IsEliminated c us k s n
  eliminated-stays ts us k s n g h = record {
    there = local-stays ts us k g h.there;
    is = g.keeps n (of_truth (eliminated c (the_truth (slice_get ts k)) s)) h.is ∙ ap (λ o. Some (of_truth (eliminated c (the_truth o) s))) (sym (here ts us k g h.there.there));
  }

  pub holds-stay : (ts us : List ValueTree) (find : Signed → Option ℕ) → Grows ts us → HoldsEliminated c ts find → HoldsEliminated c us find
  holds-stay ts us find g h = record { at = λ k n e. eliminated-stays ts us k.node k.positive n g (h.at k n e) }

  nothing : (o : Option ℕ) (n : ℕ) → o ≡ None → o ≡ Some n → ⊥
  nothing o n e f = cc

  pub holds-none : (ts : List ValueTree) (find : Signed → Option ℕ) → ((k : Signed) → find k ≡ None) → HoldsEliminated c ts find
  holds-none ts find empty = record { at = λ k n e. absurd (nothing (find k) n (empty k) e) }

  noted : (ts : List ValueTree) (key k : Signed) (answer n : ℕ) (old : Option ℕ) → IsEliminated c ts key.node key.positive answer → (old ≡ Some n → IsEliminated c ts k.node k.positive n) →
      ((k ≡ key) × (n ≡ answer)) ⊎ (old ≡ Some n) → IsEliminated c ts k.node k.positive n
  noted ts key k answer n old m h (inl e) =
      subst (λ (x : ℕ). IsEliminated c ts k.node k.positive x) (sym e.1) (subst (λ (q : Signed). IsEliminated c ts q.node q.positive answer) (sym e.0) m)
  noted ts key k answer n old m h (inr e) = h e

  pub holds-note : (ts : List ValueTree) (old new : Signed → Option ℕ) (key : Signed) (answer : ℕ) → HoldsEliminated c ts old → IsEliminated c ts key.node key.positive answer →
      ((k : Signed) (n : ℕ) → new k ≡ Some n → ((k ≡ key) × (n ≡ answer)) ⊎ (old k ≡ Some n)) → HoldsEliminated c ts new
  holds-note ts old new key answer h m fresh = record { at = λ k n e. noted ts key k answer n (old k) m (h.at k n) (fresh k n e) }

  -- the answer for a node from that for its shape
  pub answered : (t u : Listing) (k n : ℕ) (s : Bool) (x : Shape) (w : FormulaTree) → Extends t u → slice_get (nodes t) k ≡ Some (tree_in t x) → IsLocalAt (nodes t) k →
      w ≡ eliminated c (the_truth (Some (tree_in t x))) s → slice_get (nodes u) n ≡ Some (of_truth w) → IsEliminated c (nodes u) k s n
  answered t u k n s x w g there local is made = record {
    there = local-stays (nodes t) (nodes u) k g.nodes local;
    is = made ∙ ap (λ a. Some (of_truth a)) is ∙ sym (ap (λ o. Some (of_truth (eliminated c (the_truth o) s))) (here (nodes t) (nodes u) k g.nodes local.there ∙ there));
  }

  -- the answer for a formula, by the tree that it had before
  pub eliminated-at : (t u : Listing) (k n : ℕ) (s : Bool) → Extends t u → is_truth (slice_get (nodes t) k) ≡ true → IsEliminated c (nodes u) k s n → slice_get (nodes u) n ≡ Some (of_truth (eliminated c (the_truth (slice_get (nodes t) k)) s))
  eliminated-at t u k n s g h m = m.is ∙ ap (λ a. Some (of_truth (eliminated c a s))) (truth-at (slice_get (nodes u) k) (the_truth (slice_get (nodes t) k)) (truth-stays t u k g h))

pub on-ok : {A E P : Type 0} (r : Result A E) → P → OnOk r P
on-ok (Ok a) p = p
on-ok (Err e) p = tt

mark-of : (o : Option Mark) → is_some o ≡ true → o ≡ Some (the_mark o)
unfolding the_mark
mark-of (Some m) h = refl
mark-of None h = absurd (true≢false (sym h))

-- a label stays where it is while the table grows
pub mark-stays : (t u : Listing) (n : ℕ) → Extends t u → is_some (slice_get t.pools.marks n) ≡ true → slice_get u.pools.marks n ≡ Some (the_mark (slice_get t.pools.marks n))
mark-stays t u n g h = g.marks.keeps n (the_mark (slice_get t.pools.marks n)) (mark-of (slice_get t.pools.marks n) h)

pub part-below : (k : ℕ) (ls : List (List ℕ)) (x y : Shape) (i n : ℕ) → ArePartsBelow k ls x → x ≡ y → slice_get (parts ls y) i ≡ Some n → n < k
part-below k ls x y i n h e at = h.below i n (ap (λ z. slice_get (parts ls z) i) e ∙ at)

-- ---- the parts of a formula of local shape

module _ (u : Listing) (k : ℕ) (x : Shape) (there : slice_get (nodes u) k ≡ Some (tree_in u x)) (local : IsLocalAt (nodes u) k) (fits : fits_in u x ≡ true) where
  pub shaped : (y : Shape) → x ≡ y → has_local_shape (the_truth (Some (tree_in u y))) ≡ true
  shaped y e = ap (λ z. has_local_shape (the_truth (Some (tree_in u z)))) (sym e) ∙ ap (λ o. has_local_shape (the_truth o)) (sym there) ∙ local.shaped

  fitted : (y : Shape) → x ≡ y → fits_in u y ≡ true
  fitted y e = ap (fits_in u) (sym e) ∙ fits

  module _ (a b : ℕ) where
    pub and-left : x ≡ s.And a b → IsLocalAt (nodes u) a
    unfolding shape_tree the_truth
    and-left e = record { there = part-And-a u.pools (nodes u) a b (fitted (s.And a b) e); shaped = both-left (has_local_shape (the_truth (slice_get (nodes u) a))) (has_local_shape (the_truth (slice_get (nodes u) b))) (shaped (s.And a b) e) }

    pub and-right : x ≡ s.And a b → IsLocalAt (nodes u) b
    unfolding shape_tree the_truth
    and-right e = record { there = part-And-b u.pools (nodes u) a b (fitted (s.And a b) e); shaped = both-right (has_local_shape (the_truth (slice_get (nodes u) a))) (has_local_shape (the_truth (slice_get (nodes u) b))) (shaped (s.And a b) e) }

    pub or-left : x ≡ s.Or a b → IsLocalAt (nodes u) a
    unfolding shape_tree the_truth
    or-left e = record { there = part-Or-a u.pools (nodes u) a b (fitted (s.Or a b) e); shaped = both-left (has_local_shape (the_truth (slice_get (nodes u) a))) (has_local_shape (the_truth (slice_get (nodes u) b))) (shaped (s.Or a b) e) }

    pub or-right : x ≡ s.Or a b → IsLocalAt (nodes u) b
    unfolding shape_tree the_truth
    or-right e = record { there = part-Or-b u.pools (nodes u) a b (fitted (s.Or a b) e); shaped = both-right (has_local_shape (the_truth (slice_get (nodes u) a))) (has_local_shape (the_truth (slice_get (nodes u) b))) (shaped (s.Or a b) e) }

    pub implies-left : x ≡ s.Implies a b → IsLocalAt (nodes u) a
    unfolding shape_tree the_truth
    implies-left e = record { there = part-Implies-a u.pools (nodes u) a b (fitted (s.Implies a b) e); shaped = both-left (has_local_shape (the_truth (slice_get (nodes u) a))) (has_local_shape (the_truth (slice_get (nodes u) b))) (shaped (s.Implies a b) e) }

    pub implies-right : x ≡ s.Implies a b → IsLocalAt (nodes u) b
    unfolding shape_tree the_truth
    implies-right e = record { there = part-Implies-b u.pools (nodes u) a b (fitted (s.Implies a b) e); shaped = both-right (has_local_shape (the_truth (slice_get (nodes u) a))) (has_local_shape (the_truth (slice_get (nodes u) b))) (shaped (s.Implies a b) e) }

    pub iff-left : x ≡ s.Iff a b → IsLocalAt (nodes u) a
    unfolding shape_tree the_truth
    iff-left e = record { there = part-Iff-a u.pools (nodes u) a b (fitted (s.Iff a b) e); shaped = both-left (has_local_shape (the_truth (slice_get (nodes u) a))) (has_local_shape (the_truth (slice_get (nodes u) b))) (shaped (s.Iff a b) e) }

    pub iff-right : x ≡ s.Iff a b → IsLocalAt (nodes u) b
    unfolding shape_tree the_truth
    iff-right e = record { there = part-Iff-b u.pools (nodes u) a b (fitted (s.Iff a b) e); shaped = both-right (has_local_shape (the_truth (slice_get (nodes u) a))) (has_local_shape (the_truth (slice_get (nodes u) b))) (shaped (s.Iff a b) e) }

  module _ (a : ℕ) where
    pub negation-part : x ≡ s.Negation a → IsLocalAt (nodes u) a
    unfolding shape_tree the_truth
    negation-part e = record { there = part-Negation-a u.pools (nodes u) a (fitted (s.Negation a) e); shaped = shaped (s.Negation a) e }

    pub all-part : x ≡ s.All a → IsLocalAt (nodes u) a
    unfolding shape_tree the_truth
    all-part e = record { there = part-All-a u.pools (nodes u) a (fitted (s.All a) e); shaped = shaped (s.All a) e }

    pub ex-part : x ≡ s.Ex a → IsLocalAt (nodes u) a
    unfolding shape_tree the_truth
    ex-part e = record { there = part-Ex-a u.pools (nodes u) a (fitted (s.Ex a) e); shaped = shaped (s.Ex a) e }

    pub mark-part : (m : ℕ) → x ≡ s.Mark m a → IsLocalAt (nodes u) a
    unfolding shape_tree the_truth
    mark-part m e = record { there = part-Mark-a u.pools (nodes u) m a (fitted (s.Mark m a) e); shaped = shaped (s.Mark m a) e }

-- ---- what comes of each shape

module _ (c : Constraint) (p : Pools) (ts : List ValueTree) where
  abbrev now : ℕ → Bool → FormulaTree
  now n d = eliminated c (the_truth (slice_get ts n)) d

  abbrev whole : Shape → Bool → FormulaTree
  whole x d = eliminated c (the_truth (Some (shape_tree p ts x))) d

  pub negation-arm : (x : Shape) (a : ℕ) (d : Bool) → x ≡ s.Negation a → t.negation (now a (not d)) ≡ whole x d
  unfolding shape_tree the_truth eliminated
  negation-arm x a d e = ap (λ y. whole y d) (sym e)

  pub and-arm : (x : Shape) (a b : ℕ) (d : Bool) → x ≡ s.And a b → t.and (now a d) (now b d) ≡ whole x d
  unfolding shape_tree the_truth eliminated
  and-arm x a b d e = ap (λ y. whole y d) (sym e)

  pub or-arm : (x : Shape) (a b : ℕ) (d : Bool) → x ≡ s.Or a b → t.or (now a d) (now b d) ≡ whole x d
  unfolding shape_tree the_truth eliminated
  or-arm x a b d e = ap (λ y. whole y d) (sym e)

  pub implies-arm : (x : Shape) (a b : ℕ) (d : Bool) → x ≡ s.Implies a b → t.implies (now a (not d)) (now b d) ≡ whole x d
  unfolding shape_tree the_truth eliminated
  implies-arm x a b d e = ap (λ y. whole y d) (sym e)

  pub iff-arm : (x : Shape) (a b : ℕ) (d : Bool) → x ≡ s.Iff a b → eliminated c (t.iff (the_truth (slice_get ts a)) (the_truth (slice_get ts b))) d ≡ whole x d
  unfolding shape_tree the_truth
  iff-arm x a b d e = ap (λ y. whole y d) (sym e)

  pub all-arm : (x : Shape) (a : ℕ) (d : Bool) → x ≡ s.All a → t.all (now a d) ≡ whole x d
  unfolding shape_tree the_truth eliminated
  all-arm x a d e = ap (λ y. whole y d) (sym e)

  pub ex-arm : (x : Shape) (a : ℕ) (d : Bool) → x ≡ s.Ex a → t.ex (now a d) ≡ whole x d
  unfolding shape_tree the_truth eliminated
  ex-arm x a d e = ap (λ y. whole y d) (sym e)

  pub mark-arm : (x : Shape) (m a : ℕ) (d : Bool) → x ≡ s.Mark m a → t.mark (the_mark (slice_get p.marks m)) (now a d) ≡ whole x d
  unfolding shape_tree the_truth eliminated
  mark-arm x m a d e = ap (λ y. whole y d) (sym e)

-- an equivalence, opened or not
chosen-iff : (c : Constraint) (a b : FormulaTree) (s held : Bool) → (holds_read c.field a || holds_read c.field b) ≡ held → eliminated c (t.iff a b) s ≡ (if held then both_ways c a b s else t.iff a b)
unfolding eliminated
chosen-iff c a b s held e = ap (λ h. if h then both_ways c a b s else t.iff a b) e

pub opened-iff : (c : Constraint) (a b : FormulaTree) (s : Bool) → (holds_read c.field a || holds_read c.field b) ≡ true → both_ways c a b s ≡ eliminated c (t.iff a b) s
opened-iff c a b s e = sym (chosen-iff c a b s true e)

pub closed-iff : (c : Constraint) (a b : FormulaTree) (s : Bool) → (holds_read c.field a || holds_read c.field b) ≡ false → t.iff a b ≡ eliminated c (t.iff a b) s
closed-iff c a b s e = sym (chosen-iff c a b s false e)
