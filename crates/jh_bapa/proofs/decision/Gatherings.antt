-- The atoms that are gathered are those of the query that aren't on elements, each once.
use Rattle.std.proofs.Common.{◌≡◌, refl, ℕ, ◌==◌, Bool, true, false, not, ◌&&◌, ◌||◌, if◌then◌else◌, List, [], ◌∷◌, ◌++◌, ap, sym, ◌∙◌, ◌⊎◌, inl, inr}
use Rattle.std.specs.List.{flat_map, list_all, list_any}
use Rattle.std.specs.Ordering.{int_eq}
use Rattle.std.proofs.lemmas.Bool.{eq-eqb, or_left, or_right, true≢false}
use Rattle.std.proofs.lemmas.Bool.Decides.{Decides-int_eq}
use Rattle.std.proofs.lemmas.List.Folds.{list_any-append}
use Rattle.jh_query.specs.queries.Tree.{SetExprTree, NumTree, CondTree, QueryTree}
use Rattle.jh_query.specs.queries.Tree as t
use Rattle.jh_query.specs.queries.Same.{same_atom, same_num, same_set}
use Rattle.jh_query.specs.queries.Size.{atoms, atoms_of}
use Rattle.jh_bapa.specs.decision.Cases.{is_loose}
use Rattle.jh_bapa.specs.decision.Searching.{IsCasing, added_to, are_apart, gathered, gathered_all, is_among, is_covered}
use Rattle.jh_bapa.proofs.decision.Belows.{both, first, second, sure}

set_same : (a : SetExprTree) → same_set a a ≡ true
set_same (t.var k) = eq-eqb k k refl
set_same t.empty = refl
set_same t.all = refl
set_same (t.one i) = eq-eqb i i refl
set_same (t.union a b) = both _ _ (set_same a) (set_same b)
set_same (t.inter a b) = both _ _ (set_same a) (set_same b)
set_same (t.diff a b) = both _ _ (set_same a) (set_same b)
set_same (t.compl a) = set_same a

num_same : (a : NumTree) → same_num a a ≡ true
num_same (t.const c) = (Decides-int_eq c c).1 refl
num_same (t.number l) = eq-eqb l l refl
num_same (t.add a b) = both _ _ (num_same a) (num_same b)
num_same (t.sub a b) = both _ _ (num_same a) (num_same b)
num_same (t.neg a) = num_same a
num_same (t.scale k a) = both _ _ ((Decides-int_eq k k).1 refl) (num_same a)
num_same (t.card s) = set_same s

-- the atoms that are gathered
record Good (q : QueryTree) (cs : List CondTree) : Type 0 where
  apart : are_apart cs ≡ true
  loose : list_all is_loose cs ≡ true
  known : list_all (λ c. list_any (same_atom c) (atoms_of q)) cs ≡ true

none_left : (p q : Bool) → (p || q) ≡ false → p ≡ false
none_left true q e = cc
none_left false q e = refl

none_right : (p q : Bool) → (p || q) ≡ false → q ≡ false
none_right true q e = cc
none_right false q e = e

not_either : (p q : Bool) → not p ≡ true → q ≡ false → not (p || (q || false)) ≡ true
not_either true q h e = cc
not_either false q h e = rw e refl

apart_more : (cs : List CondTree) (c : CondTree) → are_apart cs ≡ true → is_among cs c ≡ false → are_apart (cs ++ c ∷ []) ≡ true
apart_more [] c h e = refl
apart_more (d ∷ cs) c h e =
    both _ _ (ap not (list_any-append (same_atom d) cs (c ∷ [])) ∙ not_either (list_any (same_atom d) cs) (same_atom d c) (first _ _ h) (none_left (same_atom d c) (is_among cs c) e))
    (apart_more cs c (second _ _ h) (none_right (same_atom d c) (is_among cs c) e))

all_more : (p : CondTree → Bool) (cs : List CondTree) (c : CondTree) → list_all p cs ≡ true → p c ≡ true → list_all p (cs ++ c ∷ []) ≡ true
all_more p [] c h e = both _ _ e refl
all_more p (d ∷ cs) c h e = both _ _ (first _ _ h) (all_more p cs c (second _ _ h) e)

good_added : (q : QueryTree) (cs : List CondTree) (c : CondTree) → Good q cs → is_loose c ≡ true → list_any (same_atom c) (atoms_of q) ≡ true → Good q (added_to cs c)
good_added q cs c good loose known = elim (sure (is_among cs c)) [
  | inl e ↦ rw e good
  | inr e ↦ rw e (record { apart = apart_more cs c good.apart e; loose = all_more is_loose cs c good.loose loose; known = all_more (λ d. list_any (same_atom d) (atoms_of q)) cs c good.known known })
]

left_inside : (q : QueryTree) (xs ys : List CondTree) → ((p : CondTree → Bool) → list_any p (xs ++ ys) ≡ true → list_any p (atoms_of q) ≡ true) → (p : CondTree → Bool) → list_any p xs ≡ true → list_any p (atoms_of q) ≡ true
left_inside q xs ys h p e = h p (list_any-append p xs ys ∙ or_left (list_any p xs) (list_any p ys) e)

right_inside : (q : QueryTree) (xs ys : List CondTree) → ((p : CondTree → Bool) → list_any p (xs ++ ys) ≡ true → list_any p (atoms_of q) ≡ true) → (p : CondTree → Bool) → list_any p ys ≡ true → list_any p (atoms_of q) ≡ true
right_inside q xs ys h p e = h p (list_any-append p xs ys ∙ or_right (list_any p xs) (list_any p ys) e)

alone_inside : (q : QueryTree) (c : CondTree) → ((p : CondTree → Bool) → list_any p (c ∷ []) ≡ true → list_any p (atoms_of q) ≡ true) → same_atom c c ≡ true → list_any (same_atom c) (atoms_of q) ≡ true
alone_inside q c h e = h (same_atom c) (or_left (same_atom c c) false e)

good_gathered : (q : QueryTree) (cs : List CondTree) (c : CondTree) → ((p : CondTree → Bool) → list_any p (atoms c) ≡ true → list_any p (atoms_of q) ≡ true) → Good q cs → Good q (gathered cs c)
good_gathered q cs t.yes h good = good
good_gathered q cs t.no h good = good
good_gathered q cs (t.same_element i j) h good = good
good_gathered q cs (t.member i s) h good = good
good_gathered q cs (t.flag f) h good = good_added q cs (t.flag f) good refl (alone_inside q (t.flag f) h (eq-eqb f f refl))
good_gathered q cs (t.equal_set a b) h good = good_added q cs (t.equal_set a b) good refl (alone_inside q (t.equal_set a b) h (both _ _ (set_same a) (set_same b)))
good_gathered q cs (t.within a b) h good = good_added q cs (t.within a b) good refl (alone_inside q (t.within a b) h (both _ _ (set_same a) (set_same b)))
good_gathered q cs (t.equal_num a b) h good = good_added q cs (t.equal_num a b) good refl (alone_inside q (t.equal_num a b) h (both _ _ (num_same a) (num_same b)))
good_gathered q cs (t.less_num a b) h good = good_added q cs (t.less_num a b) good refl (alone_inside q (t.less_num a b) h (both _ _ (num_same a) (num_same b)))
good_gathered q cs (t.divides k a) h good = good_added q cs (t.divides k a) good refl (alone_inside q (t.divides k a) h (both _ _ ((Decides-int_eq k k).1 refl) (num_same a)))
good_gathered q cs (t.negation a) h good = good_gathered q cs a h good
good_gathered q cs (t.and a b) h good = good_gathered q (gathered cs a) b (right_inside q (atoms a) (atoms b) h) (good_gathered q cs a (left_inside q (atoms a) (atoms b) h) good)
good_gathered q cs (t.or a b) h good = good_gathered q (gathered cs a) b (right_inside q (atoms a) (atoms b) h) (good_gathered q cs a (left_inside q (atoms a) (atoms b) h) good)
good_gathered q cs (t.implies a b) h good = good_gathered q (gathered cs a) b (right_inside q (atoms a) (atoms b) h) (good_gathered q cs a (left_inside q (atoms a) (atoms b) h) good)
good_gathered q cs (t.iff a b) h good = good_gathered q (gathered cs a) b (right_inside q (atoms a) (atoms b) h) (good_gathered q cs a (left_inside q (atoms a) (atoms b) h) good)

good_all : (q : QueryTree) (cs ds : List CondTree) → ((p : CondTree → Bool) → list_any p (flat_map atoms ds) ≡ true → list_any p (atoms_of q) ≡ true) → Good q cs → Good q (gathered_all cs ds)
good_all q cs [] h good = good
good_all q cs (d ∷ ds) h good = good_all q (gathered cs d) ds (right_inside q (atoms d) (flat_map atoms ds) h) (good_gathered q cs d (left_inside q (atoms d) (flat_map atoms ds) h) good)

-- what is in the list stays in it
among_added : (cs : List CondTree) (d c : CondTree) → is_among cs c ≡ true → is_among (added_to cs d) c ≡ true
among_added cs d c h = elim (sure (is_among cs d)) [
  | inl e ↦ rw e h
  | inr e ↦ rw e (list_any-append (λ x. same_atom x c) cs (d ∷ []) ∙ or_left (is_among cs c) (same_atom d c || false) h)
]

among_gathered : (cs : List CondTree) (d c : CondTree) → is_among cs c ≡ true → is_among (gathered cs d) c ≡ true
among_gathered cs t.yes c h = h
among_gathered cs t.no c h = h
among_gathered cs (t.same_element i j) c h = h
among_gathered cs (t.member i s) c h = h
among_gathered cs (t.flag f) c h = among_added cs (t.flag f) c h
among_gathered cs (t.equal_set a b) c h = among_added cs (t.equal_set a b) c h
among_gathered cs (t.within a b) c h = among_added cs (t.within a b) c h
among_gathered cs (t.equal_num a b) c h = among_added cs (t.equal_num a b) c h
among_gathered cs (t.less_num a b) c h = among_added cs (t.less_num a b) c h
among_gathered cs (t.divides k a) c h = among_added cs (t.divides k a) c h
among_gathered cs (t.negation a) c h = among_gathered cs a c h
among_gathered cs (t.and a b) c h = among_gathered (gathered cs a) b c (among_gathered cs a c h)
among_gathered cs (t.or a b) c h = among_gathered (gathered cs a) b c (among_gathered cs a c h)
among_gathered cs (t.implies a b) c h = among_gathered (gathered cs a) b c (among_gathered cs a c h)
among_gathered cs (t.iff a b) c h = among_gathered (gathered cs a) b c (among_gathered cs a c h)

covered_gathered : (cs : List CondTree) (d c : CondTree) → is_covered cs c ≡ true → is_covered (gathered cs d) c ≡ true
covered_gathered cs d t.yes h = refl
covered_gathered cs d t.no h = refl
covered_gathered cs d (t.same_element i j) h = refl
covered_gathered cs d (t.member i s) h = refl
covered_gathered cs d (t.flag f) h = among_gathered cs d (t.flag f) h
covered_gathered cs d (t.equal_set a b) h = among_gathered cs d (t.equal_set a b) h
covered_gathered cs d (t.within a b) h = among_gathered cs d (t.within a b) h
covered_gathered cs d (t.equal_num a b) h = among_gathered cs d (t.equal_num a b) h
covered_gathered cs d (t.less_num a b) h = among_gathered cs d (t.less_num a b) h
covered_gathered cs d (t.divides k a) h = among_gathered cs d (t.divides k a) h
covered_gathered cs d (t.negation a) h = covered_gathered cs d a h
covered_gathered cs d (t.and a b) h = both _ _ (covered_gathered cs d a (first _ _ h)) (covered_gathered cs d b (second _ _ h))
covered_gathered cs d (t.or a b) h = both _ _ (covered_gathered cs d a (first _ _ h)) (covered_gathered cs d b (second _ _ h))
covered_gathered cs d (t.implies a b) h = both _ _ (covered_gathered cs d a (first _ _ h)) (covered_gathered cs d b (second _ _ h))
covered_gathered cs d (t.iff a b) h = both _ _ (covered_gathered cs d a (first _ _ h)) (covered_gathered cs d b (second _ _ h))

among_there : (cs : List CondTree) (c : CondTree) → same_atom c c ≡ true → is_among (added_to cs c) c ≡ true
among_there cs c h = elim (sure (is_among cs c)) [
  | inl e ↦ rw e e
  | inr e ↦ rw e (list_any-append (λ x. same_atom x c) cs (c ∷ []) ∙ or_right (is_among cs c) (same_atom c c || false) (or_left (same_atom c c) false h))
]

two_there : (cs : List CondTree) (a b : CondTree) → is_covered (gathered cs a) a ≡ true → is_covered (gathered (gathered cs a) b) b ≡ true → (is_covered (gathered (gathered cs a) b) a && is_covered (gathered (gathered cs a) b) b) ≡ true
two_there cs a b h k = both _ _ (covered_gathered (gathered cs a) b a h) k

covered_there : (cs : List CondTree) (c : CondTree) → is_covered (gathered cs c) c ≡ true
covered_there cs t.yes = refl
covered_there cs t.no = refl
covered_there cs (t.same_element i j) = refl
covered_there cs (t.member i s) = refl
covered_there cs (t.flag f) = among_there cs (t.flag f) (eq-eqb f f refl)
covered_there cs (t.equal_set a b) = among_there cs (t.equal_set a b) (both _ _ (set_same a) (set_same b))
covered_there cs (t.within a b) = among_there cs (t.within a b) (both _ _ (set_same a) (set_same b))
covered_there cs (t.equal_num a b) = among_there cs (t.equal_num a b) (both _ _ (num_same a) (num_same b))
covered_there cs (t.less_num a b) = among_there cs (t.less_num a b) (both _ _ (num_same a) (num_same b))
covered_there cs (t.divides k a) = among_there cs (t.divides k a) (both _ _ ((Decides-int_eq k k).1 refl) (num_same a))
covered_there cs (t.negation a) = covered_there cs a
covered_there cs (t.and a b) = two_there cs a b (covered_there cs a) (covered_there (gathered cs a) b)
covered_there cs (t.or a b) = two_there cs a b (covered_there cs a) (covered_there (gathered cs a) b)
covered_there cs (t.implies a b) = two_there cs a b (covered_there cs a) (covered_there (gathered cs a) b)
covered_there cs (t.iff a b) = two_there cs a b (covered_there cs a) (covered_there (gathered cs a) b)

covered_all : (cs ds : List CondTree) (c : CondTree) → is_covered cs c ≡ true → is_covered (gathered_all cs ds) c ≡ true
covered_all cs [] c h = h
covered_all cs (d ∷ ds) c h = covered_all (gathered cs d) ds c (covered_gathered cs d c h)

all_there : (cs ds : List CondTree) → list_all (is_covered (gathered_all cs ds)) ds ≡ true
all_there cs [] = refl
all_there cs (d ∷ ds) = both _ _ (covered_all (gathered cs d) ds d (covered_there cs d)) (all_there (gathered cs d) ds)

all_gathered : (cs ds : List CondTree) (d : CondTree) → list_all (is_covered cs) ds ≡ true → list_all (is_covered (gathered cs d)) ds ≡ true
all_gathered cs [] d h = refl
all_gathered cs (c ∷ ds) d h = both _ _ (covered_gathered cs d c (first _ _ h)) (all_gathered cs ds d (second _ _ h))

pub casing-of : (q : QueryTree) (cs : List CondTree) → cs ≡ gathered (gathered_all [] q.hyps) q.goal → IsCasing q cs
casing-of q cs e =
    let hyps : List CondTree = gathered_all [] q.hyps in
    let none : Good q [] = record { apart = refl; loose = refl; known = refl } in
    let good : Good q (gathered hyps q.goal) = good_gathered q hyps q.goal (right_inside q (flat_map atoms q.hyps) (atoms q.goal) (λ p h. h)) (good_all q [] q.hyps (left_inside q (flat_map atoms q.hyps) (atoms q.goal) (λ p h. h)) none) in
    rw e (record {
      hyps = all_gathered hyps q.hyps q.goal (all_there [] q.hyps);
      goal = covered_there hyps q.goal;
      apart = good.apart;
      loose = good.loose;
      known = good.known;
    })
