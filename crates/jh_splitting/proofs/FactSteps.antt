-- One assumption taken apart: what is found and what is left stay all of what is to be found.
use Rattle.std.proofs.Common.{◌≡◌, refl, sym, ap, ◌∙◌, subst, ℕ, suc, ◌+◌, List, [], ◌∷◌, ◌++◌, slice_get, Option, Some, None, add-one}
use Rattle.std.proofs.lemmas.List.{append_assoc, append-nil}
use Rattle.jh_name.specs.declared.naming.Name.{Name}
use Rattle.jh_form.specs.declared.mark.Mark.{Mark}
use Rattle.jh_form.specs.Tree.{FormulaTree, ValueTree, of_truth}
use Rattle.jh_form.specs.Tree as t
use Rattle.jh_arena.specs.table.Entries.{Listing, Pools, the_truth}
use Rattle.jh_arena.specs.table.Growth.{Extends}
use Rattle.jh_arena.specs.table.Nodes.{nodes, shape_tree}
use Rattle.jh_arena.specs.declared.table.shapes.Shape.{Shape}
use Rattle.jh_arena.specs.declared.table.shapes.Shape.TheVariants as s
use Rattle.jh_containers.specs.shared_lists.Chained.{IsChain}
use Rattle.jh_seq.specs.sequent.Sequents.{HypTree}
use Rattle.jh_seq.specs.splitting.Split.{constant, facts_of, facts_next, closed_by, hyp_of}
use Rattle.jh_splitting.specs.declared.lists.Lists.{Lists}
use Rattle.jh_splitting.specs.declared.facts.Assumed.{Assumed}
use Rattle.jh_splitting.specs.declared.facts.Facts.{Facts}
use Rattle.jh_splitting.specs.declared.sequent.NodeHyp.{NodeHyp}
use Rattle.jh_splitting.specs.Pairs.{AreReversed}
use Rattle.jh_splitting.specs.Standing.{IsFormula, IsLabel, AreHyps, name_under}
use Rattle.jh_splitting.specs.Left.{AreConstants, Kept, AssumedTree, IsAssumed, FactsLeft, all_facts, all_next}
use Rattle.jh_arena.proofs.table.Listed.{extends-refl}
use Rattle.jh_splitting.proofs.Pairing.{reversed-push, reversed-pop, reversed-grows}
use Rattle.jh_splitting.proofs.Standings.{label-grows, hyps-grow, assumed-grows, grown-hyps}
use Rattle.jh_splitting.proofs.Shapes.{formula-same}

-- at the start
pub facts-start : (u : Listing) (l : Lists) (w : List Assumed) (x : Assumed) (f : Facts) (a : FormulaTree) (ws : List Name) (hs : List HypTree) → w ≡ x ∷ [] → x.mark ≡ None →
    IsFormula u x.node a → AreConstants l.binders x.binders ws → AreHyps u l.hyps f.hyps hs → FactsLeft u l w f (hs ++ facts_of a None ws f.next) (facts_next a f.next)
facts-start u l w x f a ws hs e m h c k = record {
  rest = record { formula = a; name = None; constants = ws } ∷ [];
  done = hs;
  waits = subst (λ (v : List Assumed). AreReversed (IsAssumed u l.binders) v (record { formula = a; name = None; constants = ws } ∷ [])) (sym e)
      ([], record { formula = a; name = None; constants = ws }, record { formula = h; mark = None; label = subst (λ (o : Option ℕ). IsLabel u o None) (sym m) tt; name = refl; constants = c }, refl, refl);
  hyps = k;
  is = ap (λ r. hs ++ r) (append-nil (facts_of a None ws f.next));
  ends = refl;
}

-- at the end
pub facts-end : (u : Listing) (l : Lists) (w : List Assumed) (f : Facts) (total : List HypTree) (next : ℕ) → w ≡ [] → FactsLeft u l w f total next → AreHyps u l.hyps f.hyps total × (f.next ≡ next)
facts-end u l w f total next e h = (subst (λ (hs : List HypTree). AreHyps u l.hyps f.hyps hs) (sym (append-nil h.done) ∙ ap (λ r. h.done ++ all_facts r f.next) (sym none) ∙ h.is) h.hyps, ap (λ r. all_next r f.next) (sym none) ∙ h.ends)
  where
    none : h.rest ≡ []
    none = subst (λ (v : List Assumed). AreReversed (IsAssumed u l.binders) v h.rest) e h.waits

-- what waits is a formula
pub facts-there : (u : Listing) (l : Lists) (w : List Assumed) (x : Assumed) (f : Facts) (total : List HypTree) (next : ℕ) → FactsLeft u l (w ++ x ∷ []) f total next → (a : FormulaTree) × IsFormula u x.node a
facts-there u l w x f total next h = let p = reversed-pop (IsAssumed u l.binders) w h.rest x h.waits in (p.0.formula, p.2.formula)

module _ (u : Listing) (l : Lists) (w : List Assumed) (x : Assumed) (f : Facts) (total : List HypTree) (next : ℕ) (h : FactsLeft u l (w ++ x ∷ []) f total next) where
  -- the assumption that is the next, and those behind it
  record Next (a : FormulaTree) : Type 0 where
    name : Option Name
    constants : List Name
    mark : Option Mark
    label : IsLabel u x.mark mark
    named : name ≡ name_under mark
    closes : AreConstants l.binders x.binders constants
    rest : List AssumedTree
    waits : AreReversed (IsAssumed u l.binders) w rest
    is : h.done ++ (facts_of a name constants f.next ++ all_facts rest (facts_next a f.next)) ≡ total
    ends : all_next rest (facts_next a f.next) ≡ next

  next-one : (a : FormulaTree) → IsFormula u x.node a → Next a
  next-one a e =
      let p = reversed-pop (IsAssumed u l.binders) w h.rest x h.waits in
      let same : p.0.formula ≡ a = formula-same (slice_get (nodes u) x.node) p.0.formula a p.2.formula e in
      record {
        name = p.0.name;
        constants = p.0.constants;
        mark = p.2.mark;
        label = p.2.label;
        named = p.2.name;
        closes = p.2.constants;
        rest = p.1;
        waits = p.3;
        is = (λ i. h.done ++ (facts_of (sym same i) p.0.name p.0.constants f.next ++ all_facts p.1 (facts_next (sym same i) f.next))) ∙ ap (λ r. h.done ++ all_facts r f.next) (sym p.4) ∙ h.is;
        ends = (λ i. all_next p.1 (facts_next (sym same i) f.next)) ∙ ap (λ r. all_next r f.next) (sym p.4) ∙ h.ends;
      }

  -- And gives both parts
  pub facts-and : (v : List Assumed) (left right : ℕ) (a b : FormulaTree) → IsFormula u x.node (t.and a b) → IsFormula u left a → IsFormula u right b →
      v ≡ (w ++ record { node = right; mark = x.mark; binders = x.binders } ∷ []) ++ record { node = left; mark = x.mark; binders = x.binders } ∷ [] → FactsLeft u l v f total next
  facts-and v left right a b e el er more =
      let n = next-one (t.and a b) e in
      let first : AssumedTree = record { formula = a; name = n.name; constants = n.constants } in
      let second : AssumedTree = record { formula = b; name = n.name; constants = n.constants } in
      record {
        rest = first ∷ second ∷ n.rest;
        done = h.done;
        waits = subst (λ (z : List Assumed). AreReversed (IsAssumed u l.binders) z (first ∷ second ∷ n.rest)) (sym more)
            (reversed-push (IsAssumed u l.binders) (w ++ record { node = right; mark = x.mark; binders = x.binders } ∷ []) (second ∷ n.rest) (record { node = left; mark = x.mark; binders = x.binders }) first
            (reversed-push (IsAssumed u l.binders) w n.rest (record { node = right; mark = x.mark; binders = x.binders }) second n.waits (record { formula = er; mark = n.mark; label = n.label; name = n.named; constants = n.closes }))
            (record { formula = el; mark = n.mark; label = n.label; name = n.named; constants = n.closes }));
        hyps = h.hyps;
        is = ap (λ r. h.done ++ r) (sym (append_assoc (facts_of a n.name n.constants f.next) (facts_of b n.name n.constants (facts_next a f.next)) (all_facts n.rest (facts_next b (facts_next a f.next))))) ∙ n.is;
        ends = n.ends;
      }

  -- a label gives its inside under its name
  pub facts-mark : (v : List Assumed) (m inside : ℕ) (k : Mark) (a : FormulaTree) → IsFormula u x.node (t.mark k a) → IsFormula u inside a → IsLabel u (Some m) (Some k) →
      v ≡ w ++ record { node = inside; mark = Some m; binders = x.binders } ∷ [] → FactsLeft u l v f total next
  facts-mark v m inside k a e ei there more =
      let n = next-one (t.mark k a) e in
      let first : AssumedTree = record { formula = a; name = k.name; constants = n.constants } in
      record {
        rest = first ∷ n.rest;
        done = h.done;
        waits = subst (λ (z : List Assumed). AreReversed (IsAssumed u l.binders) z (first ∷ n.rest)) (sym more)
            (reversed-push (IsAssumed u l.binders) w n.rest (record { node = inside; mark = Some m; binders = x.binders }) first n.waits (record { formula = ei; mark = Some k; label = there; name = refl; constants = n.closes }));
        hyps = h.hyps;
        is = n.is;
        ends = n.ends;
      }

  -- Ex gives its body with a constant
  pub facts-ex : (new : Lists) (v : List Assumed) (g : Facts) (body list : ℕ) (a : FormulaTree) → IsFormula u x.node (t.ex a) → IsFormula u body a → Kept l new →
      ((ks : List ℕ) → IsChain l.binders x.binders ks → IsChain new.binders (Some list) (f.next ∷ ks)) → g.hyps ≡ f.hyps → g.next ≡ f.next + 1 →
      v ≡ w ++ record { node = body; mark = x.mark; binders = Some list } ∷ [] → FactsLeft u new v g total next
  facts-ex new v g body list a e eb kept made same up more =
      let n = next-one (t.ex a) e in
      let first : AssumedTree = record { formula = a; name = n.name; constants = constant f.next ∷ n.constants } in
      let suc-up : g.next ≡ suc f.next = up ∙ add-one f.next in
      record {
        rest = first ∷ n.rest;
        done = h.done;
        waits = subst (λ (z : List Assumed). AreReversed (IsAssumed u new.binders) z (first ∷ n.rest)) (sym more)
            (reversed-push (IsAssumed u new.binders) w n.rest (record { node = body; mark = x.mark; binders = Some list }) first (reversed-grows (IsAssumed u l.binders) (IsAssumed u new.binders) (assumed-grows u u (extends-refl u) l new kept) w n.rest n.waits)
            (record { formula = eb; mark = n.mark; label = n.label; name = n.named; constants = (f.next ∷ n.closes.0, made n.closes.0 n.closes.1, ap (λ ws. constant f.next ∷ ws) n.closes.2) }));
        hyps = subst (λ (o : Option ℕ). AreHyps u new.hyps o h.done) (sym same) (hyps-grow u u (extends-refl u) l.hyps new.hyps f.hyps h.done kept.hyps h.hyps);
        is = (λ i. h.done ++ (facts_of a n.name (constant f.next ∷ n.constants) (suc-up i) ++ all_facts n.rest (facts_next a (suc-up i)))) ∙ n.is;
        ends = (λ i. all_next n.rest (facts_next a (suc-up i))) ∙ n.ends;
      }

  -- anything else is a fact
  pub facts-else : (u2 : Listing) (new : Lists) (g : Facts) (fact list : ℕ) (a : FormulaTree) → IsFormula u x.node a → Extends u u2 → Kept l new →
      ((n : Option Name) (ws : List Name) (k : ℕ) → facts_of a n ws k ≡ hyp_of n (closed_by a ws) ∷ []) → ((k : ℕ) → facts_next a k ≡ k) →
      ((ws : List Name) → AreConstants l.binders x.binders ws → IsFormula u2 fact (closed_by a ws)) →
      ((xs : List NodeHyp) → IsChain l.hyps f.hyps xs → IsChain new.hyps (Some list) (record { mark = x.mark; fact = fact } ∷ xs)) →
      g.hyps ≡ Some list → g.next ≡ f.next → FactsLeft u2 new w g total next
  facts-else u2 new g fact list a e grows kept one stays closes made there same =
      let n = next-one a e in
      let hyp : HypTree = hyp_of n.name (closed_by a n.constants) in
      record {
        rest = n.rest;
        done = h.done ++ hyp ∷ [];
        waits = reversed-grows (IsAssumed u l.binders) (IsAssumed u2 new.binders) (assumed-grows u u2 grows l new kept) w n.rest n.waits;
        hyps = subst (λ (o : Option ℕ). AreHyps u2 new.hyps o (h.done ++ hyp ∷ [])) (sym there)
            (grown-hyps u u2 grows l.hyps new.hyps f.hyps list (record { mark = x.mark; fact = fact }) hyp h.done made h.hyps (record { mark = n.mark; label = label-grows u u2 grows x.mark n.mark n.label; name = n.named; fact = closes n.constants n.closes }));
        is = append_assoc h.done (hyp ∷ []) (all_facts n.rest g.next)
            ∙ (λ i. h.done ++ (sym (one n.name n.constants f.next) i ++ all_facts n.rest ((same ∙ sym (stays f.next)) i))) ∙ n.is;
        ends = ap (λ k. all_next n.rest k) (same ∙ sym (stays f.next)) ∙ n.ends;
      }

-- what is none of And, Ex and a label is one fact
facts-other : (p : Pools) (ts : List ValueTree) (x : Shape) → ((a b : ℕ) → x ≡ s.And a b → ⊥) → ((a : ℕ) → x ≡ s.Ex a → ⊥) → ((m a : ℕ) → x ≡ s.Mark m a → ⊥) →
    (n : Option Name) (ws : List Name) (k : ℕ) → facts_of (the_truth (Some (shape_tree p ts x))) n ws k ≡ hyp_of n (closed_by (the_truth (Some (shape_tree p ts x))) ws) ∷ []
unfolding shape_tree the_truth
facts-other p ts (s.And a b) f g h n ws k = absurd (f a b refl)
facts-other p ts (s.Ex a) f g h n ws k = absurd (g a refl)
facts-other p ts (s.Mark m a) f g h n ws k = absurd (h m a refl)
facts-other p ts _ f g h n ws k = refl

next-other : (p : Pools) (ts : List ValueTree) (x : Shape) → ((a b : ℕ) → x ≡ s.And a b → ⊥) → ((a : ℕ) → x ≡ s.Ex a → ⊥) → ((m a : ℕ) → x ≡ s.Mark m a → ⊥) →
    (k : ℕ) → facts_next (the_truth (Some (shape_tree p ts x))) k ≡ k
unfolding shape_tree the_truth
next-other p ts (s.And a b) f g h k = absurd (f a b refl)
next-other p ts (s.Ex a) f g h k = absurd (g a refl)
next-other p ts (s.Mark m a) f g h k = absurd (h m a refl)
next-other p ts _ f g h k = refl

-- the formula at a node of this shape
the-formula : (ts : List ValueTree) (p : Pools) (n : ℕ) (x : Shape) (a : FormulaTree) → slice_get ts n ≡ Some (shape_tree p ts x) → slice_get ts n ≡ Some (of_truth a) → the_truth (Some (shape_tree p ts x)) ≡ a
unfolding the_truth
the-formula ts p n x a e f = ap the_truth (sym e) ∙ ap the_truth f

module _ (u : Listing) (n : ℕ) (x : Shape) (a : FormulaTree) (e : slice_get (nodes u) n ≡ Some (shape_tree u.pools (nodes u) x)) (f : IsFormula u n a)
    (no-and : (a b : ℕ) → x ≡ s.And a b → ⊥) (no-ex : (a : ℕ) → x ≡ s.Ex a → ⊥) (no-mark : (m a : ℕ) → x ≡ s.Mark m a → ⊥) where
  pub one-fact : (m : Option Name) (ws : List Name) (k : ℕ) → facts_of a m ws k ≡ hyp_of m (closed_by a ws) ∷ []
  one-fact m ws k = subst (λ (b : FormulaTree). facts_of b m ws k ≡ hyp_of m (closed_by b ws) ∷ []) (the-formula (nodes u) u.pools n x a e f) (facts-other u.pools (nodes u) x no-and no-ex no-mark m ws k)

  pub no-constant : (k : ℕ) → facts_next a k ≡ k
  no-constant k = subst (λ (b : FormulaTree). facts_next b k ≡ k) (the-formula (nodes u) u.pools n x a e f) (next-other u.pools (nodes u) x no-and no-ex no-mark k)
