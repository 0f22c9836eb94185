-- What is told of the parts of a condition tells of the condition.
use Rattle.std.proofs.Common.{◌≡◌, refl, ℕ, ◌<◌, ◌==◌, Bool, true, false, not, ◌&&◌, ◌||◌, List, [], ◌∷◌, ◌++◌, length, map, take, ◌+◌, get_or, Option, Some, None, ap, sym, ◌∙◌}
use Rattle.std.proofs.lemmas.Bool.{ltb-true}
use Rattle.std.specs.List.{list_all}
use Rattle.std.proofs.lemmas.List.{map-append, take_more}
use Rattle.jh_query.specs.declared.queries.query.Cond.{Cond}
use Rattle.jh_form.specs.Meaning.{agree}
use Rattle.jh_query.specs.declared.queries.sizes.Spot.{Spot}
use Rattle.jh_query.specs.queries.Tree.{SetExprTree, CondTree, QueryTree}
use Rattle.jh_query.specs.queries.Tree as t
use Rattle.jh_query.specs.queries.Bare.{cond_tree}
use Rattle.jh_query.specs.queries.Sizing.{Sizing}
use Rattle.jh_query.specs.queries.Truth.{class_lies, holds, is_of, lies, spot_of}
use Rattle.jh_query.proofs.queries.Equalities.{first, same_atom-is, second}
use Rattle.jh_query.specs.queries.Same.{same_atom}
use Rattle.jh_query.specs.declared.partial_truth.casing.Atom.{Atom}
use Rattle.jh_query.specs.partial_truth.Judged.{Agrees, Tells, TellsAll, TellsQuery, case_truth, names_below, both_told, one_told, other_told, agree_told}

no_and : (p : Bool) → (p && false) ≡ false
no_and true = refl
no_and false = refl

yes_or : (p : Bool) → (p || true) ≡ true
yes_or true = refl
yes_or false = refl

module _ (s : List Spot) (atoms : List Atom) (x y : CondTree) where
  pub tells-not : (r a : Option Bool) → r ≡ other_told a → Tells a s atoms x → Tells r s atoms (t.negation x)
  tells-not r None e h = rw e tt
  tells-not r (Some p) e h = rw e (λ z w. ap not (h z w))

  pub tells-both : (r a b : Option Bool) → r ≡ both_told a b → Tells a s atoms x → Tells b s atoms y → Tells r s atoms (t.and x y)
  tells-both r (Some true) (Some q) e h k = rw e (λ z w. ap (λ p. p && holds z y) (h z w) ∙ k z w)
  tells-both r (Some true) None e h k = rw e tt
  tells-both r (Some false) b e h k = rw e (λ z w. ap (λ p. p && holds z y) (h z w))
  tells-both r None (Some true) e h k = rw e tt
  tells-both r None (Some false) e h k = rw e (λ z w. ap (λ q. holds z x && q) (k z w) ∙ no_and (holds z x))
  tells-both r None None e h k = rw e tt

  pub tells-one : (r a b : Option Bool) → r ≡ one_told a b → Tells a s atoms x → Tells b s atoms y → Tells r s atoms (t.or x y)
  tells-one r (Some true) b e h k = rw e (λ z w. ap (λ p. p || holds z y) (h z w))
  tells-one r (Some false) (Some q) e h k = rw e (λ z w. ap (λ p. p || holds z y) (h z w) ∙ k z w)
  tells-one r (Some false) None e h k = rw e tt
  tells-one r None (Some true) e h k = rw e (λ z w. ap (λ q. holds z x || q) (k z w) ∙ yes_or (holds z x))
  tells-one r None (Some false) e h k = rw e tt
  tells-one r None None e h k = rw e tt

  pub tells-iff : (r a b : Option Bool) → r ≡ agree_told a b → Tells a s atoms x → Tells b s atoms y → Tells r s atoms (t.iff x y)
  tells-iff r None b e h k = rw e tt
  tells-iff r (Some p) None e h k = rw e tt
  tells-iff r (Some true) (Some q) e h k = rw e (λ z w. ap (λ p. agree p (holds z y)) (h z w) ∙ k z w)
  tells-iff r (Some false) (Some q) e h k = rw e (λ z w. ap (λ p. agree p (holds z y)) (h z w) ∙ ap not (k z w))

pub tells-implies : (s : List Spot) (atoms : List Atom) (x y : CondTree) (r o a b : Option Bool) → r ≡ one_told o b → o ≡ other_told a → Tells a s atoms x → Tells b s atoms y → Tells r s atoms (t.implies x y)
tells-implies s atoms x y r o a b e f h k = tells-one s atoms (t.negation x) y r o b e (tells-not s atoms x x o a f h) k

-- an atom that is chosen
pub tells-chosen : (s : List Spot) (atoms : List Atom) (c : CondTree) (i : ℕ) (a : Atom) (r : Option Bool) → i < length atoms → a ≡ get_or atoms i a → same_atom (cond_tree a.cond.now) c ≡ true → r ≡ case_truth a.case → Tells r s atoms c
tells-chosen s atoms c i a None h e f g = tt
tells-chosen s atoms c i a (Some truth) h e f g = λ z w. ap (λ d. holds z d) (sym (same_atom-is (cond_tree a.cond.now) c f)) ∙ w.chosen i a truth h e (sym g)

-- two elements that stand
pub same-told : (s : List Spot) (atoms : List Atom) (i j : ℕ) (z : Sizing) → i < length s → j < length s → Agrees z s atoms → holds z (t.same_element i j) ≡ ((spot_of s i).class == (spot_of s j).class)
same-told s atoms i j z h k w = ap (λ (p : Spot). p.class == (spot_of z.spots j).class) (w.placed i h) ∙ ap (λ (p : Spot). (spot_of s i).class == p.class) (w.placed j k)

lies-below : (n : ℕ) (f g : ℕ → Bool) (r : ℕ) (a : SetExprTree) → names_below n a ≡ true → ((i : ℕ) → i < n → f i ≡ g i) → lies f r a ≡ lies g r a
lies-below n f g r (t.var k) e h = refl
lies-below n f g r t.empty e h = refl
lies-below n f g r t.all e h = refl
lies-below n f g r (t.one i) e h = h i (ltb-true i n e)
lies-below n f g r (t.union a b) e h = λ x. lies-below n f g r a (first (names_below n a) (names_below n b) e) h x || lies-below n f g r b (second (names_below n a) (names_below n b) e) h x
lies-below n f g r (t.inter a b) e h = λ x. lies-below n f g r a (first (names_below n a) (names_below n b) e) h x && lies-below n f g r b (second (names_below n a) (names_below n b) e) h x
lies-below n f g r (t.diff a b) e h = λ x. lies-below n f g r a (first (names_below n a) (names_below n b) e) h x && not (lies-below n f g r b (second (names_below n a) (names_below n b) e) h x)
lies-below n f g r (t.compl a) e h = λ x. not (lies-below n f g r a e h x)

pub member-told : (s : List Spot) (atoms : List Atom) (i : ℕ) (a : SetExprTree) (z : Sizing) → i < length s → names_below (length s) a ≡ true → Agrees z s atoms → holds z (t.member i a) ≡ class_lies s i a
member-told s atoms i a z h e w =
    ap (λ (p : Spot). lies (is_of z.spots (Some p.class)) p.region a) (w.placed i h)
    ∙ lies-below (length s) (is_of z.spots (Some (spot_of s i).class)) (is_of s (Some (spot_of s i).class)) (spot_of s i).region a e (λ j k. ap (λ (p : Spot). p.class == (spot_of s i).class) (w.placed j k))

and_assoc : (a b c : Bool) → (a && (b && c)) ≡ ((a && b) && c)
and_assoc true b c = refl
and_assoc false b c = refl

all-append : (p : CondTree → Bool) (xs ys : List CondTree) → list_all p (xs ++ ys) ≡ (list_all p xs && list_all p ys)
all-append p [] ys = refl
all-append p (x ∷ xs) ys = ap (λ b. p x && b) (all-append p xs ys) ∙ and_assoc (p x) (list_all p xs) (list_all p ys)

alone : (p : Bool) → (p && true) ≡ p
alone true = refl
alone false = refl

-- one condition more
told-more : (s : List Spot) (atoms : List Atom) (cs : List CondTree) (c : CondTree) (r a b : Option Bool) → r ≡ both_told a b → TellsAll a s atoms cs → Tells b s atoms c → TellsAll r s atoms (cs ++ c ∷ [])
told-more s atoms cs c r (Some true) (Some q) e h k = rw e (λ z w. all-append (holds z) cs (c ∷ []) ∙ ap (λ p. p && (holds z c && true)) (h z w) ∙ alone (holds z c) ∙ k z w)
told-more s atoms cs c r (Some true) None e h k = rw e tt
told-more s atoms cs c r (Some false) b e h k = rw e (λ z w. all-append (holds z) cs (c ∷ []) ∙ ap (λ p. p && (holds z c && true)) (h z w))
told-more s atoms cs c r None (Some true) e h k = rw e tt
told-more s atoms cs c r None (Some false) e h k = rw e (λ z w. all-append (holds z) cs (c ∷ []) ∙ ap (λ q. list_all (holds z) cs && (q && true)) (k z w) ∙ no_and (list_all (holds z) cs))
told-more s atoms cs c r None None e h k = rw e tt

pub told-next : (s : List Spot) (atoms : List Atom) (conds : List Cond) (i : ℕ) (x : Cond) (r a b : Option Bool) → i < length conds → x ≡ get_or conds i x → r ≡ both_told a b → TellsAll a s atoms (map cond_tree (take i conds)) → Tells b s atoms (cond_tree x) → TellsAll r s atoms (map cond_tree (take (i + 1) conds))
told-next s atoms conds i x r a b h e f g k =
    let more : take (i + 1) conds ≡ take i conds ++ x ∷ [] = rw (← e) at (take_more conds i x h) in
    rw (more, map-append cond_tree (take i conds) (x ∷ [])) (told-more s atoms (map cond_tree (take i conds)) (cond_tree x) r a b f g k)

pub tells-query : (s : List Spot) (atoms : List Atom) (q : QueryTree) (r o a b : Option Bool) → r ≡ one_told o b → o ≡ other_told a → TellsAll a s atoms q.hyps → Tells b s atoms q.goal → TellsQuery r s atoms q
tells-query s atoms q r o None (Some true) e f h k = rw (e, f) (λ z w. ap (λ g. not (list_all (holds z) q.hyps) || g) (k z w) ∙ yes_or (not (list_all (holds z) q.hyps)))
tells-query s atoms q r o None (Some false) e f h k = rw (e, f) tt
tells-query s atoms q r o None None e f h k = rw (e, f) tt
tells-query s atoms q r o (Some true) (Some g) e f h k = rw (e, f) (λ z w. ap (λ p. not p || holds z q.goal) (h z w) ∙ k z w)
tells-query s atoms q r o (Some true) None e f h k = rw (e, f) tt
tells-query s atoms q r o (Some false) b e f h k = rw (e, f) (λ z w. ap (λ p. not p || holds z q.goal) (h z w))

pub ruleset telling_steps = (tells-not, tells-both, tells-one, tells-iff, tells-implies)
