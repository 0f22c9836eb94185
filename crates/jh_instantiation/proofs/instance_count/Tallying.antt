-- Groups and tallies, up to the greatest count.
use Rattle.std.proofs.Common.{◌≡◌, refl, sym, ap, ◌∙◌, subst, add-one, ℕ, zero, suc, ◌+◌, ◌-◌, ◌==◌, ◌≤◌, if◌then◌else◌, arith, List, [], ◌∷◌, ◌++◌, length, take, slice_get, Some}
use Rattle.std.proofs.lemmas.Bool.{ne_eqb}
use Rattle.std.proofs.lemmas.List.{append_assoc, append-nil, take_all}
use Rattle.jh_form.specs.Tree.{FormulaTree, of_truth}
use Rattle.jh_arena.specs.table.Entries.{Listing}
use Rattle.jh_arena.specs.table.Growth.{Extends}
use Rattle.jh_query.specs.queries.Size.{capped}
use Rattle.jh_query.proofs.queries.Ceilings.{plus-capped}
use Rattle.jh_inst.specs.instances.Count as spec
use Rattle.jh_inst.specs.instances.Prenex.{in_front}
use Rattle.jh_instantiation.specs.skolem_constants.Standing.{IsFormula}
use Rattle.jh_instantiation.specs.declared.instance_count.groups.Group.{Group}
use Rattle.jh_instantiation.specs.instance_count.Grouping.{IsGroup, AreGroups, AreFormulas, single_groups}

module _ (t u : Listing) (g : Extends t u) where
  pub group-grows : (x : Group) (a : spec.Group) → IsGroup t x a → IsGroup u x a
  group-grows x a h = record { formula = g.nodes.keeps x.node (of_truth a.formula) h.formula; variables = h.variables; many = h.many }

  pub groups-grow : (xs : List Group) (gs : List spec.Group) → AreGroups t xs gs → AreGroups u xs gs
  groups-grow [] [] h = h
  groups-grow [] (a ∷ gs) h = absurd h
  groups-grow (x ∷ xs) [] h = absurd h
  groups-grow (x ∷ xs) (a ∷ gs) h = (group-grows x a h.0, groups-grow xs gs h.1)

pub groups-both : (t : Listing) (xs ys : List Group) (gs hs : List spec.Group) → AreGroups t xs gs → AreGroups t ys hs → AreGroups t (xs ++ ys) (gs ++ hs)
groups-both t [] ys [] hs h k = k
groups-both t [] ys (a ∷ gs) hs h k = absurd h
groups-both t (x ∷ xs) ys [] hs h k = absurd h
groups-both t (x ∷ xs) ys (a ∷ gs) hs h k = (h.0, groups-both t xs ys gs hs h.1 k)

-- where no universal is at hand a round changes nothing, and so do many
none-added : (f : spec.Group → ℕ) (gs : List spec.Group) (n : ℕ) → gs ≡ [] → n + spec.total f gs ≡ n
none-added f [] n e = omega arith
none-added f (g ∷ gs) n e = absurd (cc)

none-left : (n : ℕ) (gs : List spec.Group) → gs ≡ [] → gs ++ spec.all_left n gs ≡ gs
none-left n [] e = refl
none-left n (g ∷ gs) e = absurd (cc)

nothing-more : (c : spec.Tally) → c.at_hand ≡ [] → spec.tally_round c ≡ c
nothing-more c e = λ i. record {
  puts = none-added (spec.group_puts c.terms) c.at_hand c.puts e i;
  at_hand = none-left c.terms c.at_hand e i;
  terms = none-added (spec.group_terms c.terms) c.at_hand c.terms e i;
}

pub no-rounds : (r : ℕ) (c : spec.Tally) → c.at_hand ≡ [] → spec.tally_rounds r c ≡ c
no-rounds zero c e = refl
no-rounds (suc r) c e = ap (spec.tally_rounds r) (nothing-more c e) ∙ no-rounds r c e

-- a formula with variables in front is a group
group-if : (k : ℕ) (x : spec.Group) → (k ≡ 0 → ⊥) → (if k == 0 then [] else x ∷ []) ≡ x ∷ []
group-if k x h = ap (λ b. if b then [] else x ∷ []) (ne_eqb k 0 h)

pub is-group : (a : FormulaTree) (n : ℕ) → (in_front a ≡ 0 → ⊥) → spec.group a n ≡ record { formula = a; many = n } ∷ []
is-group a n h = group-if (in_front a) (record { formula = a; many = n }) h

-- the group at a place, and the formula at one
pub group-at : (t : Listing) (xs : List Group) (gs : List spec.Group) (i : ℕ) (x : Group) → AreGroups t xs gs → slice_get xs i ≡ Some x → (g : spec.Group) × (slice_get gs i ≡ Some g) × IsGroup t x g
group-at t [] gs i x h e = absurd (cc)
group-at t (y ∷ xs) [] i x h e = absurd h
group-at t (y ∷ xs) (g ∷ gs) zero x h e =
    let same : y ≡ x = cc in
    (g, refl, subst (λ (z : Group). IsGroup t z g) same h.0)
group-at t (y ∷ xs) (g ∷ gs) (suc i) x h e = group-at t xs gs i x h.1 e

pub formula-of : (t : Listing) (ns : List ℕ) (fs : List FormulaTree) (i n : ℕ) → AreFormulas t ns fs → slice_get ns i ≡ Some n → (a : FormulaTree) × (slice_get fs i ≡ Some a) × IsFormula t n a
formula-of t [] fs i n h e = absurd (cc)
formula-of t (m ∷ ns) [] i n h e = absurd h
formula-of t (m ∷ ns) (a ∷ fs) zero n h e =
    let same : m ≡ n = cc in
    (a, refl, subst (λ (k : ℕ). IsFormula t k a) same h.0)
formula-of t (m ∷ ns) (a ∷ fs) (suc i) n h e = formula-of t ns fs i n h.1 e

pub groups-length : (t : Listing) (xs : List Group) (gs : List spec.Group) → AreGroups t xs gs → length xs ≡ length gs
groups-length t [] [] h = refl
groups-length t [] (g ∷ gs) h = absurd h
groups-length t (x ∷ xs) [] h = absurd h
groups-length t (x ∷ xs) (g ∷ gs) h = ap suc (groups-length t xs gs h.1)

pub formulas-length : (t : Listing) (ns : List ℕ) (fs : List FormulaTree) → AreFormulas t ns fs → length ns ≡ length fs
formulas-length t [] [] h = refl
formulas-length t [] (a ∷ fs) h = absurd h
formulas-length t (n ∷ ns) [] h = absurd h
formulas-length t (n ∷ ns) (a ∷ fs) h = ap suc (formulas-length t ns fs h.1)

-- What is gathered along a list, and a number that is added up: of one item more, and of all.
module _ {X Y : Type 0} (f : X → List Y) (g : List X → List Y) (nothing : g [] ≡ []) (step : (x : X) (xs : List X) → g (x ∷ xs) ≡ f x ++ g xs) where
  pub gathered-more : (xs : List X) (i : ℕ) (x : X) → slice_get xs i ≡ Some x → g (take (suc i) xs) ≡ g (take i xs) ++ f x
  gathered-more [] i x e = absurd (cc)
  gathered-more (y ∷ xs) zero x e =
      let same : y ≡ x = cc in
      step y [] ∙ ap (λ ys. f y ++ ys) nothing ∙ append-nil (f y) ∙ ap f same ∙ ap (λ ys. ys ++ f x) (sym nothing)
  gathered-more (y ∷ xs) (suc i) x e = step y (take (suc i) xs) ∙ ap (λ ys. f y ++ ys) (gathered-more xs i x e) ∙ sym (append_assoc (f y) (g (take i xs)) (f x)) ∙ ap (λ ys. ys ++ f x) (sym (step y (take i xs)))

pub singles-more : (fs : List FormulaTree) (i : ℕ) (a : FormulaTree) → slice_get fs i ≡ Some a → single_groups (take (suc i) fs) ≡ single_groups (take i fs) ++ spec.group a 1
singles-more = gathered-more (λ a. spec.group a 1) single_groups refl (λ a fs. refl)

pub left-more : (n : ℕ) (gs : List spec.Group) (i : ℕ) (g : spec.Group) → slice_get gs i ≡ Some g → spec.all_left n (take (suc i) gs) ≡ spec.all_left n (take i gs) ++ spec.group_left n g
left-more n = gathered-more (spec.group_left n) (spec.all_left n) refl (λ g gs. refl)

pub total-more : {X : Type 0} (f : X → ℕ) (xs : List X) (i : ℕ) (x : X) → slice_get xs i ≡ Some x → spec.total f (take (suc i) xs) ≡ spec.total f (take i xs) + f x
total-more f [] i x e = absurd (cc)
total-more f (y ∷ xs) zero x e =
    let same : f y ≡ f x = cc in
    omega (arith, same)
total-more f (y ∷ xs) (suc i) x e = let more = total-more f xs i x e in omega (arith, more)

-- a sum with one item more
pub sum-more : {X : Type 0} (f : X → ℕ) (xs : List X) (i : ℕ) (x : X) (r a b p : ℕ) → slice_get xs i ≡ Some x → r ≡ capped (a + b) → a ≡ capped (p + spec.total f (take i xs)) → b ≡ capped (f x) → r ≡ capped (p + spec.total f (take (i + 1) xs))
sum-more f xs i x r a b p e s h k =
    let more : (p + spec.total f (take i xs)) + f x ≡ p + spec.total f (take (i + 1) xs) = let one = ap (λ j. spec.total f (take j xs)) (add-one i) ∙ total-more f xs i x e in omega (arith, one) in
    plus-capped r a b (p + spec.total f (take i xs)) (f x) s h k ∙ ap capped more

-- a sum of nothing yet, and of all items
pub sum-none : (r p : ℕ) → r ≡ capped p → r ≡ capped (p + 0)
sum-none r p e = let same : p ≡ p + 0 = omega arith in e ∙ ap capped same

pub sum-all : {X : Type 0} (f : X → ℕ) (xs : List X) (i r p : ℕ) → i ≡ length xs → r ≡ capped (p + spec.total f (take i xs)) → r ≡ capped (p + spec.total f xs)
sum-all f xs i r p e h = let enough : length xs ≤ i = omega (arith, e) in h ∙ ap (λ ys. capped (p + spec.total f ys)) (take_all i xs enough)

-- rounds one after another
pub rounds-more : (n m : ℕ) (c : spec.Tally) → spec.tally_rounds (n + m) c ≡ spec.tally_rounds m (spec.tally_rounds n c)
rounds-more zero m c = ap (λ r. spec.tally_rounds r c) (let e : 0 + m ≡ m = omega arith in e)
rounds-more (suc n) m c = ap (λ r. spec.tally_rounds r c) (let e : suc n + m ≡ suc (n + m) = omega arith in e) ∙ rounds-more n m (spec.tally_round c)

pub rounds-next : (n : ℕ) (c : spec.Tally) → spec.tally_rounds (n + 1) c ≡ spec.tally_round (spec.tally_rounds n c)
rounds-next n c = rounds-more n 1 c

pub rounds-stay : (n r : ℕ) (c : spec.Tally) → n ≤ r → (spec.tally_rounds n c).at_hand ≡ [] → spec.tally_rounds r c ≡ spec.tally_rounds n c
rounds-stay n r c h e =
    let parts : r ≡ n + (r - n) = omega arith in
    ap (λ k. spec.tally_rounds k c) parts ∙ rounds-more n (r - n) c ∙ no-rounds (r - n) (spec.tally_rounds n c) e

nothing-there : {X : Type 0} (xs : List X) → length xs ≡ 0 → xs ≡ []
nothing-there [] e = refl
nothing-there (x ∷ xs) e = absurd (cc)

pub no-groups : (t : Listing) (xs : List Group) (gs : List spec.Group) → length xs ≡ 0 → AreGroups t xs gs → gs ≡ []
no-groups t xs gs e h = nothing-there gs (sym (groups-length t xs gs h) ∙ e)
