-- Formulas that are added to what is gathered.
use Rattle.std.proofs.Common.{◌≡◌, refl, sym, ap, subst, ◌∙◌, ◌⊎◌, inl, inr, ℕ, ◌+◌, ◌<◌, ◌≤◌, ◌==◌, Bool, true, false, List, [], ◌∷◌, ◌++◌, map, length, drop, get_or, slice_get, Option, Some, None, Result, Ok, Err, OnOk, IfOk, append_assoc, append-nil, if◌then◌else◌}
use Rattle.std.specs.List.{flat_map}
use Rattle.std.proofs.lemmas.List.{drop_all}
use Rattle.jh_name.specs.declared.memory.NoMemory.{NoMemory}
use Rattle.jh_symbols.proofs.scopes.Lists.{drop-at}
use Rattle.jh_ast.specs.Programs.{ProgramTree}
use Rattle.jh_form.specs.Tree.{ValueTree}
use Rattle.jh_arena.specs.table.Entries.{Listing}
use Rattle.jh_arena.specs.table.Growth.{Extends}
use Rattle.jh_arena.specs.table.Nodes.{nodes}
use Rattle.jh_arena.proofs.table.Listed.{node-stays, node-inside}
use Rattle.jh_rules.specs.Names.{◌then◌}
use Rattle.jh_ast.specs.declared.program.Class.{Class}
use Rattle.jh_ast.specs.Bare.{class_part}
use Rattle.jh_vars.specs.Opened.{found_in, values_of, in_class, in_classes}
use Rattle.jh_unfolding.specs.unfolder.Holding.{AreOpened}
use Rattle.jh_vars.specs.Statements.{InScope}
use Rattle.jh_definitions.proofs.of_jh_resolution.Coercions.{there, inside-grows}
use Rattle.jh_unfolding.specs.visitor.Chains.{Chain}
use Rattle.jh_unfolding.specs.declared.unfolder.formulas.Gathered.{Gathered}
use Rattle.jh_unfolding.specs.declared.unfolder.statements.Unfolding.{Unfolding}
use Rattle.jh_unfolding.specs.unfolder.Adding.{program_of, place_of, ◌or_else◌, HoldsIn, Holds, Adds, Unfolds}

first-of : {X : Type 0} (b : Bool) (v : X) (r s t : Option X) → r ≡ (s or_else t) → (if b then Some v else r) ≡ ((if b then Some v else s) or_else t)
first-of true v r s t e = refl
first-of false v r s t e = e

found-append : (p : ProgramTree) (n : ℕ) (xs ys : List (ℕ × ValueTree)) → found_in p n (xs ++ ys) ≡ (found_in p n xs or_else found_in p n ys)
unfolding found_in
found-append p n [] ys = refl
found-append p n (x ∷ xs) ys = first-of (x.0 == n) x.1 (found_in p n (xs ++ ys)) (found_in p n xs) (found_in p n ys) (found-append p n xs ys)

then-grows : (l m : Listing) (o : Option ℕ) → Extends l m → ((k : ℕ) → o ≡ Some k → k < length (nodes l)) → (o then slice_get (nodes m)) ≡ (o then slice_get (nodes l))
then-grows l m None g h = refl
then-grows l m (Some k) g h =
    let at = there (nodes l) k (h k refl) in
    node-stays l m k _ g at ∙ sym at

-- what is held stays while the table grows
pub holds-grows : (p : ProgramTree) (l m : Listing) (q : List (ℕ × ℕ)) (ys : List (ℕ × ValueTree)) → Extends l m → HoldsIn p l q ys → HoldsIn p m q ys
holds-grows p l m q ys g h = record {
  inside = λ n k e. inside-grows l m k (h.inside n k e) g;
  is = λ n. then-grows l m (place_of q n) g (h.inside n) ∙ h.is n;
}

one-of : (o : Option ℕ) (b : Bool) (node k : ℕ) → (o or_else (if b then Some node else None)) ≡ Some k → (o ≡ Some k) ⊎ (k ≡ node)
one-of None true node k e = inr cc
one-of None false node k e = inl e
one-of (Some j) b node k e = inl e

inside-more : (l : Listing) (o : Option ℕ) (node k : ℕ) → ((j : ℕ) → o ≡ Some j → j < length (nodes l)) → node < length (nodes l) → (o ≡ Some k) ⊎ (k ≡ node) → k < length (nodes l)
inside-more l o node k h lt (inl e) = h k e
inside-more l o node k h lt (inr e) = subst (λ (z : ℕ). z < length (nodes l)) (sym e) lt

value-more : (l : Listing) (o : Option ℕ) (b : Bool) (node : ℕ) (v : ValueTree) (f : Option ValueTree) → slice_get (nodes l) node ≡ Some v → ((j : ℕ) → o ≡ Some j → j < length (nodes l)) → (o then slice_get (nodes l)) ≡ f →
    ((o or_else (if b then Some node else None)) then slice_get (nodes l)) ≡ (f or_else (if b then Some v else None))
value-more l None true node v f at h e = at ∙ ap (λ o. o or_else Some v) e
value-more l None false node v f at h e = ap (λ o. o or_else None) e
value-more l (Some k) b node v f at h e =
    let here = there (nodes l) k (h k refl) in
    here ∙ ap (λ o. o or_else (if b then Some v else None)) (sym here ∙ e)

-- one more formula
pub holds-note : (p : ProgramTree) (l : Listing) (q r : List (ℕ × ℕ)) (number node : ℕ) (v : ValueTree) → ((n : ℕ) → place_of r n ≡ (place_of q n or_else (if number == n then Some node else None))) → slice_get (nodes l) node ≡ Some v →
    (ys : List (ℕ × ValueTree)) → HoldsIn p l q ys → HoldsIn p l r (ys ++ (number, v) ∷ [])
unfolding found_in
holds-note p l q r number node v noted at ys h = record {
  inside = λ n k e. inside-more l (place_of q n) node k (h.inside n) (node-inside l node v at) (one-of (place_of q n) (number == n) node k (sym (noted n) ∙ e));
  is = λ n. ap (λ o. o then slice_get (nodes l)) (noted n) ∙ value-more l (place_of q n) (number == n) node v (found_in p n ys) at (h.inside n) (h.is n) ∙ sym (found-append p n ys ((number, v) ∷ []));
}

no-both : {X : Type 0} (o : Option X) (y : X) → o ≡ None → o ≡ Some y → ⊥
no-both o y e f = cc

module _ (p : ProgramTree) where
  -- nothing is added
  pub adds-none : (g : Gathered) → Adds p g g []
  adds-none g ys h = subst (Holds p g) (sym (append-nil ys)) h

  pub adds-nothing : (g : Gathered) (xs : List (ℕ × ValueTree)) → xs ≡ [] → Adds p g g xs
  adds-nothing g xs e = subst (Adds p g g) (sym e) (adds-none g)

  -- first these, then those
  pub adds-two : (a b c : Gathered) (xs ys : List (ℕ × ValueTree)) → Adds p a b xs → Adds p b c ys → Adds p a c (xs ++ ys)
  adds-two a b c xs ys f g zs h = subst (Holds p c) (append_assoc zs xs ys) (g (zs ++ xs) (f zs h))

  -- one more formula, of a node that was made
  pub adds-one : (a b : Gathered) (l : Listing) (number : ℕ) (v : ValueTree) → Extends a.table l → Adds p (record { table = l; places = a.places }) b ((number, v) ∷ []) → Adds p a b ((number, v) ∷ [])
  adds-one a b l number v g f ys h = f ys (holds-grows p a.table l a.places ys g h)

  module _ {X Y : Type 0} (part : X → Y) (f : Y → List (ℕ × ValueTree)) (xs : List X) where
    -- one more of a list
    pub adds-next : (a b : Gathered) (i : ℕ) (x : X) → i < length xs → x ≡ get_or xs i x → Adds p a b (f (part x)) → (c : Gathered) → Adds p b c (flat_map f (map part (drop (i + 1) xs))) → Adds p a c (flat_map f (map part (drop i xs)))
    adds-next a b i x lt is one c rest =
        subst (λ us. Adds p a c (flat_map f (map part us))) (sym (drop-at xs i x lt is)) (adds-two a b c (f (part x)) (flat_map f (map part (drop (i + 1) xs))) one rest)

    -- none is left
    pub adds-end : (a : Gathered) (i : ℕ) → length xs ≤ i → Adds p a a (flat_map f (map part (drop i xs)))
    adds-end a i le = subst (λ us. Adds p a a (flat_map f (map part us))) (sym (drop_all i xs le)) (adds-none a)

  -- one more class
  pub adds-class : (cs : List Class) (a b : Gathered) (n : ℕ) (c : Class) → n < length cs → c ≡ get_or cs n c → Adds p a b (in_class p n (class_part c)) → (new : Gathered) → Adds p b new (in_classes p (n + 1) (map class_part (drop (n + 1) cs))) →
      Adds p a new (in_classes p n (map class_part (drop n cs)))
  unfolding in_classes
  adds-class cs a b n c lt is one new rest =
      subst (λ us. Adds p a new (in_classes p n (map class_part us))) (sym (drop-at cs n c lt is)) (adds-two a b new (in_class p n (class_part c)) (in_classes p (n + 1) (map class_part (drop (n + 1) cs))) one rest)

  pub adds-classes-end : (cs : List Class) (a : Gathered) (n : ℕ) → length cs ≤ n → Adds p a a (in_classes p n (map class_part (drop n cs)))
  unfolding in_classes
  adds-classes-end cs a n le = subst (λ us. Adds p a a (in_classes p n (map class_part us))) (sym (drop_all n cs le)) (adds-none a)

  holds-nothing : (g : Gathered) → ((n : ℕ) → place_of g.places n ≡ None) → Holds p g []
  unfolding found_in
  holds-nothing g none = record { inside = λ n k e. absurd (no-both (place_of g.places n) k (none n) e); is = λ n. ap (λ o. o then slice_get (nodes g.table)) (none n) }

  -- where nothing was there before, what is there are the formulas of the program
  pub opened-of : (a b : Gathered) → ((n : ℕ) → place_of a.places n ≡ None) → Adds p a b (in_classes p 0 p.classes) → AreOpened p b.table b.places
  opened-of a b none f =
      let h = f [] (holds-nothing a none) in
      record { inside = h.inside; is = h.is }

pub record AddsAll (a b : Unfolding) (xs : List InScope) : Type 0 where
  pub context : b.context ≡ a.context
  pub adds : Adds (program_of a.context) a.gathered b.gathered (flat_map (values_of (program_of a.context)) xs)

-- the formulas of statements that are visited one after another
pub chain-adds : (a b : Unfolding) (xs : List InScope) → Chain Unfolds a b xs → AddsAll a b xs
unfolding Chain
chain-adds a b [] h = record {
  context = ap (λ u. u.context) (sym h);
  adds = subst (λ (u : Unfolding). Adds (program_of a.context) a.gathered u.gathered []) h (adds-none (program_of a.context) a.gathered);
}
chain-adds a b (x ∷ xs) h =
    let first = h.1 in
    let rest = chain-adds h.0 b xs h.2 in
    record {
      context = rest.context ∙ first.context;
      adds = adds-two (program_of a.context) a.gathered (h.0).gathered b.gathered (values_of (program_of a.context) x) (flat_map (values_of (program_of a.context)) xs) first.adds
          (subst (λ y. Adds (program_of y) (h.0).gathered b.gathered (flat_map (values_of (program_of y)) xs)) first.context rest.adds);
    }

pub on-ok : {T P Q : Type 0} (r : Result T NoMemory) → (P → Q) → OnOk r P → OnOk r Q
on-ok (Ok x) f h = f h
on-ok (Err e) f h = h

pub adds-as : {T : Type 0} (p : ProgramTree) (r : Result T NoMemory) (a b : Gathered) (xs ys : List (ℕ × ValueTree)) → xs ≡ ys → OnOk r (Adds p a b xs) → OnOk r (Adds p a b ys)
adds-as p r a b xs ys e h = subst (λ (us : List (ℕ × ValueTree)). OnOk r (Adds p a b us)) e h

pub on-any : {T P : Type 0} (r : Result T NoMemory) → P → OnOk r P
on-any (Ok x) h = h
on-any (Err e) h = tt

pub if-ok : {T : Type 0} {P Q : T → Type 0} (r : Result T NoMemory) → ((x : T) → P x → Q x) → IfOk r P → IfOk r Q
if-ok (Ok x) f h = f x h
if-ok (Err e) f h = h

pub if-any : {T P : Type 0} (r : Result T NoMemory) → P → IfOk r (λ x. P)
if-any (Ok x) h = h
if-any (Err e) h = tt

pub ruleset adds_steps = (adds-none, on-any)
