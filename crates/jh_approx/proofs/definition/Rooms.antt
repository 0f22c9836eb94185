-- The query of a sequent names only what it counts.
use Rattle.std.proofs.Common.{◌≡◌, refl, ◌<◌, nat_lt, true, ◌&&◌, List, [], ◌∷◌, ◌++◌, length, map, arith, inl, inr}
use Rattle.std.specs.List.{flat_map, list_all}
use Rattle.std.proofs.lemmas.Bool.{lt-ltb}
use Rattle.jh_form.specs.Tree.{TermTree, IntTree, SetTree, ValueTree, FormulaTree, of_object, of_number, of_truth, of_set, of_field}
use Rattle.jh_form.specs.Tree as t
use Rattle.jh_query.specs.queries.Named.{Room, set_named, num_named, cond_named, IsWellFormed}
use Rattle.jh_approx.specs.definition.Shown.{shown}
use Rattle.jh_approx.specs.definition.Names.{NameLists, place_in, set_names, number_names, names, without_repeats, listed}
use Rattle.jh_approx.specs.definition.Links.{is_kept}
use Rattle.jh_approx.specs.definition.Told.{told_set, told_number, told}
use Rattle.jh_approx.specs.definition.Regions.{unlabelled, kept_facts, query_over, query_from, bapa_of}
use Rattle.jh_approx.specs.definition.Laws.{QueriesAreWellFormed}
use Rattle.jh_approx.proofs.definition.Places.{IsPlaced, ArePlaced, left, right, listed-placed}
use Rattle.jh_approx.proofs.definition.Tellings.{IsTold}
use Rattle.jh_approx.proofs.definition.Polarities.{shown-told}
use Rattle.jh_approx.proofs.definition.Validity.{AllTold, facts-told}
use Rattle.std.specs.Prelude.{filter}

module _ (n : NameLists) where
  abbrev room : Room
  room = record { sets = length n.sets; elements = length n.elements; numbers = length n.numbers; flags = length n.flags }

  set-placed : (a : SetTree) → IsPlaced n (of_set a) → nat_lt (place_in n.sets (of_set a)) (length n.sets) ≡ true
  set-placed a h = lt-ltb (place_in n.sets (of_set a)) (length n.sets) h.inside

  element-placed : (a : TermTree) → IsPlaced n (of_object a) → nat_lt (place_in n.elements (of_object a)) (length n.elements) ≡ true
  element-placed a h = lt-ltb (place_in n.elements (of_object a)) (length n.elements) h.inside

  number-placed : (a : IntTree) → IsPlaced n (of_number a) → nat_lt (place_in n.numbers (of_number a)) (length n.numbers) ≡ true
  number-placed a h = lt-ltb (place_in n.numbers (of_number a)) (length n.numbers) h.inside

  flag-placed : (a : FormulaTree) → IsPlaced n (of_truth a) → nat_lt (place_in n.flags (of_truth a)) (length n.flags) ≡ true
  flag-placed a h = lt-ltb (place_in n.flags (of_truth a)) (length n.flags) h.inside

  set-in-room : (a : SetTree) → ArePlaced n (set_names a) → set_named room (told_set n a) ≡ true
  unfolding told_set set_names
  set-in-room (t.free_set y) k = set-placed (t.free_set y) (k (of_set (t.free_set y)) (inl refl))
  set-in-room (t.read_set f b) k = set-placed (t.read_set f b) (k (of_set (t.read_set f b)) (inl refl))
  set-in-room t.empty k = refl
  set-in-room t.univ k = refl
  set-in-room (t.single b) k = element-placed b (k (of_object b) (inl refl))
  set-in-room (t.union a b) k = λ i. set-in-room a (left n (set_names a) (set_names b) k) i && set-in-room b (right n (set_names a) (set_names b) k) i
  set-in-room (t.inter a b) k = λ i. set-in-room a (left n (set_names a) (set_names b) k) i && set-in-room b (right n (set_names a) (set_names b) k) i
  set-in-room (t.diff a b) k = λ i. set-in-room a (left n (set_names a) (set_names b) k) i && set-in-room b (right n (set_names a) (set_names b) k) i
  set-in-room (t.compl a) k = set-in-room a k
  set-in-room (t.compr a) k = set-placed (t.compr a) (k (of_set (t.compr a)) (inl refl))

  number-in-room : (a : IntTree) → ArePlaced n (number_names a) → num_named room (told_number n a) ≡ true
  unfolding told_number number_names
  number-in-room (t.const z) k = refl
  number-in-room (t.free_number y) k = number-placed (t.free_number y) (k (of_number (t.free_number y)) (inl refl))
  number-in-room (t.read_number f b) k = number-placed (t.read_number f b) (k (of_number (t.read_number f b)) (inl refl))
  number-in-room (t.add a b) k = λ i. number-in-room a (left n (number_names a) (number_names b) k) i && number-in-room b (right n (number_names a) (number_names b) k) i
  number-in-room (t.sub a b) k = λ i. number-in-room a (left n (number_names a) (number_names b) k) i && number-in-room b (right n (number_names a) (number_names b) k) i
  number-in-room (t.neg a) k = number-in-room a k
  number-in-room (t.scale z a) k = number-in-room a k
  number-in-room (t.card a) k = set-in-room a k

  cond-in-room : (a : FormulaTree) → IsTold a → ArePlaced n (names a) → cond_named room (told n a) ≡ true
  unfolding told names
  cond-in-room t.true_formula is k = refl
  cond-in-room t.false_formula is k = refl
  cond-in-room (t.free_truth x) is k = flag-placed (t.free_truth x) (k (of_truth (t.free_truth x)) (inl refl))
  cond-in-room (t.read_truth f b) is k = flag-placed (t.read_truth f b) (k (of_truth (t.read_truth f b)) (inl refl))
  cond-in-room (t.negation a) is k = cond-in-room a is k
  cond-in-room (t.and a b) is k = λ i. cond-in-room a is.0 (left n (names a) (names b) k) i && cond-in-room b is.1 (right n (names a) (names b) k) i
  cond-in-room (t.or a b) is k = λ i. cond-in-room a is.0 (left n (names a) (names b) k) i && cond-in-room b is.1 (right n (names a) (names b) k) i
  cond-in-room (t.implies a b) is k = λ i. cond-in-room a is.0 (left n (names a) (names b) k) i && cond-in-room b is.1 (right n (names a) (names b) k) i
  cond-in-room (t.iff a b) is k = λ i. cond-in-room a is.0 (left n (names a) (names b) k) i && cond-in-room b is.1 (right n (names a) (names b) k) i
  cond-in-room (t.eq_object a b) is k = λ i. element-placed a (k (of_object a) (inl refl)) i && element-placed b (k (of_object b) (inr (inl refl))) i
  cond-in-room (t.eq_number a b) is k = λ i. number-in-room a (left n (number_names a) (number_names b) k) i && number-in-room b (right n (number_names a) (number_names b) k) i
  cond-in-room (t.eq_set a b) is k = λ i. set-in-room a (left n (set_names a) (set_names b) k) i && set-in-room b (right n (set_names a) (set_names b) k) i
  cond-in-room (t.less a b) is k = λ i. number-in-room a (left n (number_names a) (number_names b) k) i && number-in-room b (right n (number_names a) (number_names b) k) i
  cond-in-room (t.less_equal a b) is k = λ i. number-in-room b (right n (number_names a) (number_names b) k) i && number-in-room a (left n (number_names a) (number_names b) k) i
  cond-in-room (t.divides z a) is k = λ i. is i && number-in-room a k i
  cond-in-room (t.member a b) is k = λ i. element-placed a (k (of_object a) (inl refl)) i && set-in-room b (λ v h. k v (inr h)) i
  cond-in-room (t.subset a b) is k = λ i. set-in-room a (left n (set_names a) (set_names b) k) i && set-in-room b (right n (set_names a) (set_names b) k) i
  cond-in-room (t.all a) is k = absurd is
  cond-in-room (t.ex a) is k = absurd is
  cond-in-room (t.reach fs a b) is k = absurd is
  cond-in-room (t.tree fs) is k = absurd is
  cond-in-room (t.mark x a) is k = absurd is

  facts-in-room : (fs : List FormulaTree) → AllTold fs → ArePlaced n (flat_map names fs) → list_all (cond_named room) (map (told n) fs) ≡ true
  facts-in-room [] said k = refl
  facts-in-room (a ∷ fs) said k = λ i. cond-in-room a said.0 (left n (names a) (flat_map names fs) k) i && facts-in-room fs said.1 (right n (names a) (flat_map names fs) k) i

has-null : (vs : List ValueTree) → 0 < length (listed vs).elements
unfolding listed without_repeats
has-null vs = omega arith

query-formed : (facts : List FormulaTree) (goal : FormulaTree) → AllTold facts → IsTold goal → IsWellFormed (query_from facts goal)
unfolding query_from query_over
query-formed facts goal said u =
    let vs = flat_map names facts ++ names goal in
    let n : NameLists = listed vs in
    let placed : ArePlaced n vs = listed-placed vs in
    record {
      null = has-null vs;
      hyps = facts-in-room n facts said (left n (flat_map names facts) (names goal) placed);
      goal = cond-in-room n goal u (right n (flat_map names facts) (names goal) placed);
    }

pub queries-well-formed : QueriesAreWellFormed
unfolding bapa_of kept_facts
queries-well-formed s = query-formed (kept_facts (unlabelled s)) (shown (unlabelled s).goal true) (facts-told (filter (is_kept (unlabelled s)) (unlabelled s).hyps)) (shown-told (unlabelled s).goal true)
