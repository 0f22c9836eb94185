-- One goal split: what was made and what is left stay all sequents.
use Rattle.std.proofs.Common.{◌≡◌, refl, sym, ap, ◌∙◌, subst, ℕ, suc, ◌+◌, true, List, [], ◌∷◌, ◌++◌, map, slice_get, Option, Some, None, add-one, length, drop, zero, arith}
use Rattle.std.specs.List.{flat_map}
use Rattle.std.proofs.lemmas.Bool.{true≢false}
use Rattle.std.proofs.lemmas.List.{append_assoc, append-nil, drop_all}
use Rattle.jh_name.specs.declared.naming.Name.{Name}
use Rattle.jh_name.specs.declared.place.MethodId.{MethodId}
use Rattle.jh_form.specs.declared.mark.Mark.{Mark}
use Rattle.jh_form.specs.Tree.{FormulaTree, FieldTrees, ValueTree, of_truth}
use Rattle.jh_form.specs.Tree as t
use Rattle.jh_arena.specs.table.Entries.{Listing, Pools, is_truth, the_truth}
use Rattle.jh_arena.specs.table.Growth.{Extends}
use Rattle.jh_arena.specs.table.Nodes.{nodes, shape_tree}
use Rattle.jh_arena.specs.declared.table.shapes.Shape.{Shape}
use Rattle.jh_arena.specs.declared.table.shapes.Shape.TheVariants as s
use Rattle.jh_boxed.specs.Mapped.{mapped_formula, mapped_fields}
use Rattle.jh_seq.specs.sequent.Sequents.{HypTree, SequentTree}
use Rattle.jh_seq.specs.splitting.Split.{closing, closed_by, split, split_of, split_over, split_forest, whole_forest, goal_of, true_goal, mark_of}
use Rattle.jh_seq.specs.splitting.Forests.{forest_goals, no_cycles, one_sources, apart_from, all_apart}
use Rattle.jh_splitting.specs.declared.lists.Lists.{Lists}
use Rattle.jh_splitting.specs.declared.goals.Goal.{Goal}
use Rattle.jh_splitting.specs.declared.sequent.NodeSequent.{NodeSequent}
use Rattle.jh_splitting.specs.Pairs.{AreReversed, ArePaired}
use Rattle.jh_splitting.specs.Standing.{IsFormula, IsLabel, AreHyps, IsSequent}
use Rattle.jh_splitting.specs.Left.{AreConstants, Kept, GoalTree, IsGoal, GoalsLeft, sequents_of, closed_goal, closed_goals}
use Rattle.jh_splitting.proofs.Pairing.{reversed-push, reversed-pop, reversed-grows, paired-push, paired-grows}
use Rattle.jh_splitting.proofs.Standings.{label-grows, hyps-grow, goal-grows, sequent-grows}
use Rattle.jh_splitting.proofs.Shapes.{formula-same}

flat_map-both : {X Y : Type 0} (f : X → List Y) (xs ys : List X) → flat_map f (xs ++ ys) ≡ flat_map f xs ++ flat_map f ys
flat_map-both f [] ys = refl
flat_map-both f (x ∷ xs) ys = ap (λ r. f x ++ r) (flat_map-both f xs ys) ∙ sym (append_assoc (f x) (flat_map f xs) (flat_map f ys))

-- at the start
pub goals-start : (u : Listing) (l : Lists) (method : MethodId) (w : List Goal) (made : List NodeSequent) (x : Goal) (a : FormulaTree) → w ≡ x ∷ [] → made ≡ [] → x.mark ≡ None → x.binders ≡ None → x.facts.hyps ≡ None →
    IsFormula u x.node a → GoalsLeft u l method w made (split_of method a x.facts.next)
goals-start u l method w made x a e m k b h is =
    let g : GoalTree = record { formula = a; mark = None; hyps = []; constants = []; next = x.facts.next } in
    record {
      rest = g ∷ [];
      done = [];
      waits = subst (λ (v : List Goal). AreReversed (IsGoal u l) v (g ∷ [])) (sym e) (
        [],
        g,
        record {
          formula = is;
          label = subst (λ (o : Option ℕ). IsLabel u o None) (sym k) tt;
          hyps = subst (λ (o : Option ℕ). AreHyps u l.hyps o []) (sym h) ([], tt, refl);
          constants = subst (λ (o : Option ℕ). AreConstants l.binders o []) (sym b) ([], tt, refl);
          next = refl;
        },
        refl,
        refl,
      );
      finished = subst (λ (ms : List NodeSequent). ArePaired (IsSequent u l.hyps method) ms []) (sym m) tt;
      is = append-nil (split a method None [] [] x.facts.next);
    }

-- at the end
pub goals-end : (u : Listing) (l : Lists) (method : MethodId) (w : List Goal) (made : List NodeSequent) (total : List SequentTree) → w ≡ [] → GoalsLeft u l method w made total → ArePaired (IsSequent u l.hyps method) made total
goals-end u l method w made total e h =
    subst (λ (ss : List SequentTree). ArePaired (IsSequent u l.hyps method) made ss) (sym (append-nil h.done) ∙ ap (λ r. h.done ++ flat_map (sequents_of method) r) (sym none) ∙ h.is) h.finished
  where
    none : h.rest ≡ []
    none = subst (λ (v : List Goal). AreReversed (IsGoal u l) v h.rest) e h.waits

-- what waits is a formula, and its lists are there
pub goals-there : (u : Listing) (l : Lists) (method : MethodId) (w : List Goal) (x : Goal) (made : List NodeSequent) (total : List SequentTree) → GoalsLeft u l method (w ++ x ∷ []) made total → (g : GoalTree) × IsGoal u l x g
goals-there u l method w x made total h = let p = reversed-pop (IsGoal u l) w h.rest x h.waits in (p.0, p.2)

module _ (u : Listing) (l : Lists) (method : MethodId) (w : List Goal) (x : Goal) (made : List NodeSequent) (total : List SequentTree) (h : GoalsLeft u l method (w ++ x ∷ []) made total) where
  -- the goal that is the next, and those behind it
  pub record Next (a : FormulaTree) : Type 0 where
    pub mark : Option Mark
    pub hyps : List HypTree
    pub constants : List Name
    pub label : IsLabel u x.mark mark
    pub there : AreHyps u l.hyps x.facts.hyps hyps
    pub closes : AreConstants l.binders x.binders constants
    pub rest : List GoalTree
    pub waits : AreReversed (IsGoal u l) w rest
    pub is : h.done ++ (split a method mark hyps constants x.facts.next ++ flat_map (sequents_of method) rest) ≡ total

  pub next-goal : (a : FormulaTree) → IsFormula u x.node a → Next a
  next-goal a e =
      let p = reversed-pop (IsGoal u l) w h.rest x h.waits in
      let same : p.0.formula ≡ a = formula-same (slice_get (nodes u) x.node) p.0.formula a p.2.formula e in
      record {
        mark = p.0.mark;
        hyps = p.0.hyps;
        constants = p.0.constants;
        label = p.2.label;
        there = p.2.hyps;
        closes = p.2.constants;
        rest = p.1;
        waits = p.3;
        is = (λ i. h.done ++ (split (sym same i) method p.0.mark p.0.hyps p.0.constants (sym p.2.next i) ++ flat_map (sequents_of method) p.1)) ∙ ap (λ r. h.done ++ flat_map (sequents_of method) r) (sym p.4) ∙ h.is;
      }

  module _ (v : Listing) (m : Lists) (grows : Extends u v) (kept : Kept l m) (a : FormulaTree) (n : Next a) where
    abbrev all_of_it : List SequentTree
    all_of_it = split a method n.mark n.hyps n.constants x.facts.next

    abbrev behind : List SequentTree
    behind = flat_map (sequents_of method) n.rest

    waits-there : AreReversed (IsGoal v m) w n.rest
    waits-there = reversed-grows (IsGoal u l) (IsGoal v m) (goal-grows u v grows l m kept) w n.rest n.waits

    made-there : ArePaired (IsSequent v m.hyps method) made h.done
    made-there = paired-grows (IsSequent u l.hyps method) (IsSequent v m.hyps method) (sequent-grows u v grows l m kept method) made h.done h.finished

    -- one goal comes in its place
    pub go-one : (new : List Goal) (y : Goal) (g : GoalTree) → IsGoal v m y g → all_of_it ≡ sequents_of method g → new ≡ w ++ y ∷ [] → GoalsLeft v m method new made total
    go-one new y g is same more = record {
      rest = g ∷ n.rest;
      done = h.done;
      waits = subst (λ (z : List Goal). AreReversed (IsGoal v m) z (g ∷ n.rest)) (sym more) (reversed-push (IsGoal v m) w n.rest y g waits-there is);
      finished = made-there;
      is = ap (λ ss. h.done ++ (ss ++ behind)) (sym same) ∙ n.is;
    }

    -- two goals do, of which the first is the next
    pub go-two : (new : List Goal) (y z : Goal) (g k : GoalTree) → IsGoal v m y g → IsGoal v m z k → all_of_it ≡ sequents_of method g ++ sequents_of method k → new ≡ (w ++ z ∷ []) ++ y ∷ [] → GoalsLeft v m method new made total
    go-two new y z g k is other same more = record {
      rest = g ∷ k ∷ n.rest;
      done = h.done;
      waits = subst (λ (q : List Goal). AreReversed (IsGoal v m) q (g ∷ k ∷ n.rest)) (sym more)
          (reversed-push (IsGoal v m) (w ++ z ∷ []) (k ∷ n.rest) y g (reversed-push (IsGoal v m) w n.rest z k waits-there other) is);
      finished = made-there;
      is = ap (λ ss. h.done ++ ss) (sym (append_assoc (sequents_of method g) (sequents_of method k) behind)) ∙ ap (λ ss. h.done ++ (ss ++ behind)) (sym same) ∙ n.is;
    }

    -- several do
    pub go-many : (new : List Goal) (gs : List GoalTree) → (AreReversed (IsGoal v m) w n.rest → AreReversed (IsGoal v m) new (gs ++ n.rest)) → all_of_it ≡ flat_map (sequents_of method) gs → GoalsLeft v m method new made total
    go-many new gs waits same = record {
      rest = gs ++ n.rest;
      done = h.done;
      waits = waits waits-there;
      finished = made-there;
      is = ap (λ ss. h.done ++ ss) (flat_map-both (sequents_of method) gs n.rest) ∙ ap (λ ss. h.done ++ (ss ++ behind)) (sym same) ∙ n.is;
    }

    -- it is a sequent
    pub go-out : (out : List NodeSequent) (y : NodeSequent) (goal : FormulaTree) → y.mark ≡ x.mark → y.hyps ≡ x.facts.hyps → IsFormula v y.goal goal → all_of_it ≡ goal_of method n.mark n.hyps goal → out ≡ made ++ y ∷ [] → GoalsLeft v m method w out total
    go-out out y goal marked known is same more =
        let one : SequentTree = record { method = method; mark = mark_of n.mark; hyps = n.hyps; goal = goal } in
        record {
          rest = n.rest;
          done = h.done ++ one ∷ [];
          waits = waits-there;
          finished = subst (λ (ms : List NodeSequent). ArePaired (IsSequent v m.hyps method) ms (h.done ++ one ∷ [])) (sym more)
              (paired-push (IsSequent v m.hyps method) made h.done y one made-there (record {
                mark = n.mark;
                label = subst (λ (o : Option ℕ). IsLabel v o n.mark) (sym marked) (label-grows u v grows x.mark n.mark n.label);
                shown = refl;
                of_method = refl;
                hyps = subst (λ (o : Option ℕ). AreHyps v m.hyps o n.hyps) (sym known) (hyps-grow u v grows l.hyps m.hyps x.facts.hyps n.hyps kept.hyps n.there);
                goal = is;
              }));
          is = append_assoc h.done (one ∷ []) behind ∙ ap (λ ss. h.done ++ (ss ++ behind)) (sym same) ∙ n.is;
        }

    -- it asks nothing
    pub go-none : all_of_it ≡ [] → GoalsLeft v m method w made total
    go-none same = record { rest = n.rest; done = h.done; waits = waits-there; finished = made-there; is = ap (λ ss. h.done ++ (ss ++ behind)) (sym same) ∙ n.is }

-- True under no label, and under one
pub label-none : (u : Listing) (o : Option ℕ) (m : Option Mark) (method : MethodId) (hs : List HypTree) → o ≡ None → IsLabel u o m → true_goal method m hs ≡ []
label-none u None None method hs e h = refl
label-none u None (Some k) method hs e h = absurd h
label-none u (Some i) m method hs e h = absurd (other i e)
  where
    other : (j : ℕ) → Some j ≡ None → ⊥
    other j e = cc

pub label-some : (u : Listing) (o : Option ℕ) (i : ℕ) (m : Option Mark) (method : MethodId) (hs : List HypTree) → o ≡ Some i → IsLabel u o m → true_goal method m hs ≡ goal_of method m hs t.true_formula
label-some u None i m method hs e h = absurd (other i e)
  where
    other : (j : ℕ) → None ≡ Some j → ⊥
    other j e = cc
label-some u (Some j) i None method hs e h = absurd h
label-some u (Some j) i (Some m) method hs e h = refl

-- what is of none of the forms that are split is one sequent
split-other : (p : Pools) (ts : List ValueTree) (x : Shape) → is_truth (Some (shape_tree p ts x)) ≡ true → ((m a : ℕ) → x ≡ s.Mark m a → ⊥) → ((a b : ℕ) → x ≡ s.And a b → ⊥) → ((a b : ℕ) → x ≡ s.Implies a b → ⊥) → ((a b : ℕ) → x ≡ s.Iff a b → ⊥) →
    ((a : ℕ) → x ≡ s.All a → ⊥) → ((a : ℕ) → x ≡ s.Tree a → ⊥) → (x ≡ s.True → ⊥) → (method : MethodId) (mark : Option Mark) (hs : List HypTree) (ws : List Name) (k : ℕ) →
    split (the_truth (Some (shape_tree p ts x))) method mark hs ws k ≡ goal_of method mark hs (closed_by (the_truth (Some (shape_tree p ts x))) ws)
unfolding shape_tree the_truth is_truth
split-other p ts (s.Mark m a) h f1 f2 f3 f4 f5 f6 f7 method mark hs ws k = absurd (f1 m a refl)
split-other p ts (s.And a b) h f1 f2 f3 f4 f5 f6 f7 method mark hs ws k = absurd (f2 a b refl)
split-other p ts (s.Implies a b) h f1 f2 f3 f4 f5 f6 f7 method mark hs ws k = absurd (f3 a b refl)
split-other p ts (s.Iff a b) h f1 f2 f3 f4 f5 f6 f7 method mark hs ws k = absurd (f4 a b refl)
split-other p ts (s.All a) h f1 f2 f3 f4 f5 f6 f7 method mark hs ws k = absurd (f5 a refl)
split-other p ts (s.Tree a) h f1 f2 f3 f4 f5 f6 f7 method mark hs ws k = absurd (f6 a refl)
split-other p ts s.True h f1 f2 f3 f4 f5 f6 f7 method mark hs ws k = absurd (f7 refl)
split-other p ts s.False h f1 f2 f3 f4 f5 f6 f7 method mark hs ws k = refl
split-other p ts (s.FreeTruth n) h f1 f2 f3 f4 f5 f6 f7 method mark hs ws k = refl
split-other p ts (s.ReadTruth a b) h f1 f2 f3 f4 f5 f6 f7 method mark hs ws k = refl
split-other p ts (s.Negation a) h f1 f2 f3 f4 f5 f6 f7 method mark hs ws k = refl
split-other p ts (s.Or a b) h f1 f2 f3 f4 f5 f6 f7 method mark hs ws k = refl
split-other p ts (s.Ex a) h f1 f2 f3 f4 f5 f6 f7 method mark hs ws k = refl
split-other p ts (s.EqObject a b) h f1 f2 f3 f4 f5 f6 f7 method mark hs ws k = refl
split-other p ts (s.EqNumber a b) h f1 f2 f3 f4 f5 f6 f7 method mark hs ws k = refl
split-other p ts (s.EqSet a b) h f1 f2 f3 f4 f5 f6 f7 method mark hs ws k = refl
split-other p ts (s.Less a b) h f1 f2 f3 f4 f5 f6 f7 method mark hs ws k = refl
split-other p ts (s.LessEqual a b) h f1 f2 f3 f4 f5 f6 f7 method mark hs ws k = refl
split-other p ts (s.Divides z a) h f1 f2 f3 f4 f5 f6 f7 method mark hs ws k = refl
split-other p ts (s.Member a b) h f1 f2 f3 f4 f5 f6 f7 method mark hs ws k = refl
split-other p ts (s.Subset a b) h f1 f2 f3 f4 f5 f6 f7 method mark hs ws k = refl
split-other p ts (s.Reach l a b) h f1 f2 f3 f4 f5 f6 f7 method mark hs ws k = refl
split-other p ts _ h f1 f2 f3 f4 f5 f6 f7 method mark hs ws k = absurd (true≢false (sym h))

the-formula : (ts : List ValueTree) (p : Pools) (n : ℕ) (x : Shape) (a : FormulaTree) → slice_get ts n ≡ Some (shape_tree p ts x) → slice_get ts n ≡ Some (of_truth a) → the_truth (Some (shape_tree p ts x)) ≡ a
unfolding the_truth
the-formula ts p n x a e f = ap the_truth (sym e) ∙ ap the_truth f

pub one-sequent : (u : Listing) (n : ℕ) (x : Shape) (a : FormulaTree) → slice_get (nodes u) n ≡ Some (shape_tree u.pools (nodes u) x) → IsFormula u n a →
    ((m a : ℕ) → x ≡ s.Mark m a → ⊥) → ((a b : ℕ) → x ≡ s.And a b → ⊥) → ((a b : ℕ) → x ≡ s.Implies a b → ⊥) → ((a b : ℕ) → x ≡ s.Iff a b → ⊥) → ((a : ℕ) → x ≡ s.All a → ⊥) → ((a : ℕ) → x ≡ s.Tree a → ⊥) → (x ≡ s.True → ⊥) →
    (method : MethodId) (mark : Option Mark) (hs : List HypTree) (ws : List Name) (k : ℕ) → split a method mark hs ws k ≡ goal_of method mark hs (closed_by a ws)
unfolding is_truth
one-sequent u n x a e f f1 f2 f3 f4 f5 f6 f7 method mark hs ws k =
    subst (λ (b : FormulaTree). split b method mark hs ws k ≡ goal_of method mark hs (closed_by b ws)) (the-formula (nodes u) u.pools n x a e f) (split-other u.pools (nodes u) x (ap is_truth (sym e) ∙ ap is_truth f) f1 f2 f3 f4 f5 f6 f7 method mark hs ws k)

-- no goal of `tree` has a `tree` in it
module _ (method : MethodId) (mark : Option Mark) (hs : List HypTree) (k : ℕ) where
  abbrev Alike : FormulaTree → Type 0
  Alike a = split_over whole_forest a method mark hs [] k ≡ split_over split_forest a method mark hs [] k

  abbrev AllAlike : List FormulaTree → Type 0
  AllAlike [] = Unit {0}
  AllAlike (a ∷ rest) = Alike a × AllAlike rest

  alike-both : (xs ys : List FormulaTree) → AllAlike xs → AllAlike ys → AllAlike (xs ++ ys)
  alike-both [] ys h g = g
  alike-both (x ∷ xs) ys h g = (h.0, alike-both xs ys h.1 g)

  cycles-alike : (all fs : FieldTrees) → AllAlike (no_cycles all fs)
  cycles-alike all t.none = tt
  cycles-alike all (t.more f fs) = (refl, cycles-alike all fs)

  sources-alike : (fs : FieldTrees) → AllAlike (one_sources fs)
  sources-alike t.none = tt
  sources-alike (t.more f fs) = (refl, sources-alike fs)

  apart-alike : (f : t.FieldTree) (fs : FieldTrees) → AllAlike (apart_from f fs)
  apart-alike f t.none = tt
  apart-alike f (t.more g fs) = (refl, apart-alike f fs)

  all_apart-alike : (fs : FieldTrees) → AllAlike (all_apart fs)
  all_apart-alike t.none = tt
  all_apart-alike (t.more f fs) = alike-both (apart_from f fs) (all_apart fs) (apart-alike f fs) (all_apart-alike fs)

  abbrev pub like_it : FormulaTree → GoalTree
  like_it a = record { formula = a; mark = mark; hyps = hs; constants = []; next = k }

  alike-split : (gs : List FormulaTree) → AllAlike gs → flat_map (λ a. split_over whole_forest a method mark hs [] k) gs ≡ flat_map (sequents_of method) (map like_it gs)
  alike-split [] h = refl
  alike-split (g ∷ gs) h = λ i. h.0 i ++ alike-split gs h.1 i

  pub forest-split : (fs : FieldTrees) → split_forest fs method mark hs k ≡ flat_map (sequents_of method) (map like_it (forest_goals fs))
  forest-split fs = alike-split (forest_goals fs) (alike-both (no_cycles fs fs) (one_sources fs ++ all_apart fs) (cycles-alike fs fs) (alike-both (one_sources fs) (all_apart fs) (sources-alike fs) (all_apart-alike fs)))

  -- goals without binders that wait
  pub goals-wait : (v : Listing) (m : Lists) (w : List Goal) (x : Goal) (ns : List ℕ) (gs : List FormulaTree) (rest : List GoalTree) → IsLabel v x.mark mark → AreHyps v m.hyps x.facts.hyps hs → k ≡ x.facts.next →
      ArePaired (IsFormula v) ns gs → AreReversed (IsGoal v m) w rest → AreReversed (IsGoal v m) (w ++ closed_goals x ns) (map like_it gs ++ rest)
  goals-wait v m w x [] [] rest label known same paired waits = subst (λ (z : List Goal). AreReversed (IsGoal v m) z rest) (sym (append-nil w)) waits
  goals-wait v m w x [] (g ∷ gs) rest label known same paired waits = absurd paired
  goals-wait v m w x (n ∷ ns) [] rest label known same paired waits = absurd paired
  goals-wait v m w x (n ∷ ns) (g ∷ gs) rest label known same paired waits =
      subst (λ (z : List Goal). AreReversed (IsGoal v m) z (like_it g ∷ (map like_it gs ++ rest))) (append_assoc w (closed_goals x ns) (closed_goal x n ∷ []))
      (reversed-push (IsGoal v m) (w ++ closed_goals x ns) (map like_it gs ++ rest) (closed_goal x n) (like_it g) (goals-wait v m w x ns gs rest label known same paired.1 waits)
      (record { formula = paired.0; label = label; hyps = known; constants = ([], tt, refl); next = same }))

-- a closed `tree`
pub tree-closed : (fs : FieldTrees) (ws : List Name) → closed_by (t.tree fs) ws ≡ t.tree (mapped_fields fs (closing ws) 0)
unfolding mapped_formula
tree-closed fs ws = refl

-- goals that wait from the last one on
pub wait-start : (x : Goal) (ns : List ℕ) (k : ℕ) (w : List Goal) → k ≡ length ns → w ≡ w ++ closed_goals x (drop k ns)
wait-start x ns k w e = sym (append-nil w) ∙ ap (λ z. w ++ closed_goals x z) (sym (drop_all k ns (omega (arith, e))))

drop-at : (ns : List ℕ) (j n : ℕ) → slice_get ns j ≡ Some n → drop j ns ≡ n ∷ drop (suc j) ns
drop-at [] j n e = absurd (cc)
drop-at (m ∷ ns) zero n e = let same : m ≡ n = cc in ap (λ k. k ∷ ns) same
drop-at (m ∷ ns) (suc j) n e = drop-at ns j n e

pub wait-step : (x : Goal) (ns : List ℕ) (j at n : ℕ) (init old new : List Goal) → j + 1 ≡ at → slice_get ns j ≡ Some n → old ≡ init ++ closed_goals x (drop at ns) → new ≡ old ++ closed_goal x n ∷ [] → new ≡ init ++ closed_goals x (drop j ns)
wait-step x ns j at n init old new up is before more =
    let next : at ≡ suc j = sym up ∙ add-one j in
    let step : closed_goals x (drop at ns) ++ closed_goal x n ∷ [] ≡ closed_goals x (drop j ns) = ap (λ k. closed_goals x (drop k ns) ++ closed_goal x n ∷ []) next ∙ sym (ap (closed_goals x) (drop-at ns j n is)) in
    more ∙ ap (λ z. z ++ closed_goal x n ∷ []) before ∙ append_assoc init (closed_goals x (drop at ns)) (closed_goal x n ∷ []) ∙ ap (λ z. init ++ z) step

pub wait-end : (x : Goal) (ns : List ℕ) (at : ℕ) (init w : List Goal) → at ≡ 0 → w ≡ init ++ closed_goals x (drop at ns) → w ≡ init ++ closed_goals x ns
wait-end x ns at init w e h = h ∙ ap (λ k. init ++ closed_goals x (drop k ns)) e
