-- Trees without parts, found in a list of trees.
use Rattle.std.proofs.Common.{◌≡◌, refl, sym, ap, ◌∙◌, ℕ, zero, suc, Bool, true, false, ◌&&◌, List, [], ◌∷◌, slice_get, Option, Some, None, nat_eq, if◌then◌else◌}
use Rattle.std.proofs.lemmas.Bool.{eqb-true, eq-eqb, true≢false}
use Rattle.std.proofs.lemmas.Option.{none-some, same_Some}
use Rattle.jh_name.specs.declared.naming.Name.{Name}
use Rattle.jh_form.specs.Tree.{ValueTree, of_object, of_number, of_truth, of_set, of_field}
use Rattle.jh_form.specs.Tree as t
use Rattle.jh_form.specs.Passing.{name_equal}
use Rattle.jh_form.proofs.ClosedLemmas.{both-left, both-right}
use Rattle.jh_form.proofs.Names.{name_equal-same, name_equal-true}
use Rattle.jh_cong.proofs.flattening.Coding.{int_code, decoded, decoded-code}

abbrev pub no_name : Name
no_name = record { text = []; turn = 0 }

-- what a tree without parts is: its constructor, a number and a name
pub record Key : Type 0 where
  pub kind : ℕ
  pub code : ℕ
  pub name : Name

abbrev pub key : ℕ → ℕ → Name → Key
key k c x = record { kind = k; code = c; name = x }

abbrev pub key_of : ValueTree → Option Key
key_of (of_object (t.bound k)) = Some (key 0 k no_name)
key_of (of_object (t.free_object x)) = Some (key 1 0 x)
key_of (of_object t.null) = Some (key 2 0 no_name)
key_of (of_object (t.read_object a b)) = None
key_of (of_number (t.const z)) = Some (key 3 (int_code z) no_name)
key_of (of_number (t.free_number x)) = Some (key 5 0 x)
key_of (of_number (t.read_number a b)) = None
key_of (of_number (t.add a b)) = None
key_of (of_number (t.sub a b)) = None
key_of (of_number (t.neg a)) = None
key_of (of_number (t.scale z a)) = None
key_of (of_number (t.card a)) = None
key_of (of_set (t.free_set x)) = Some (key 6 0 x)
key_of (of_set (t.read_set a b)) = None
key_of (of_set t.empty) = Some (key 7 0 no_name)
key_of (of_set t.univ) = Some (key 8 0 no_name)
key_of (of_set (t.single a)) = None
key_of (of_set (t.union a b)) = None
key_of (of_set (t.inter a b)) = None
key_of (of_set (t.diff a b)) = None
key_of (of_set (t.compl a)) = None
key_of (of_set (t.compr a)) = None
key_of (of_field (t.free_field x)) = Some (key 9 0 x)
key_of (of_field (t.update a b v)) = None
key_of (of_truth t.true_formula) = Some (key 4 0 no_name)
key_of (of_truth t.false_formula) = Some (key 4 1 no_name)
key_of (of_truth (t.free_truth x)) = Some (key 10 0 x)
key_of (of_truth (t.read_truth a b)) = None
key_of (of_truth (t.negation a)) = None
key_of (of_truth (t.and a b)) = None
key_of (of_truth (t.or a b)) = None
key_of (of_truth (t.implies a b)) = None
key_of (of_truth (t.iff a b)) = None
key_of (of_truth (t.all a)) = None
key_of (of_truth (t.ex a)) = None
key_of (of_truth (t.eq_object a b)) = None
key_of (of_truth (t.eq_number a b)) = None
key_of (of_truth (t.eq_set a b)) = None
key_of (of_truth (t.less a b)) = None
key_of (of_truth (t.less_equal a b)) = None
key_of (of_truth (t.divides z a)) = None
key_of (of_truth (t.member a b)) = None
key_of (of_truth (t.subset a b)) = None
key_of (of_truth (t.reach fs a b)) = None
key_of (of_truth (t.tree fs)) = None
key_of (of_truth (t.mark m a)) = None

abbrev truth_tree : ℕ → ValueTree
truth_tree zero = of_truth t.true_formula
truth_tree (suc c) = of_truth t.false_formula

abbrev treed : ℕ → ℕ → Name → ValueTree
treed k c x =
    if nat_eq k 0 then of_object (t.bound c)
    else (if nat_eq k 1 then of_object (t.free_object x)
    else (if nat_eq k 2 then of_object t.null
    else (if nat_eq k 3 then of_number (t.const (decoded c))
    else (if nat_eq k 4 then truth_tree c
    else (if nat_eq k 5 then of_number (t.free_number x)
    else (if nat_eq k 6 then of_set (t.free_set x)
    else (if nat_eq k 7 then of_set t.empty
    else (if nat_eq k 8 then of_set t.univ
    else (if nat_eq k 9 then of_field (t.free_field x)
    else of_truth (t.free_truth x))))))))))

abbrev pub tree_of : Key → ValueTree
tree_of j = treed j.kind j.code j.name

pub key-tree : (v : ValueTree) (j : Key) → key_of v ≡ Some j → v ≡ tree_of j
key-tree (of_object (t.bound k)) j e = ap tree_of (same_Some (key 0 k no_name) j e)
key-tree (of_object (t.free_object x)) j e = ap tree_of (same_Some (key 1 0 x) j e)
key-tree (of_object t.null) j e = ap tree_of (same_Some (key 2 0 no_name) j e)
key-tree (of_object (t.read_object a b)) j e = absurd (none-some j e)
key-tree (of_number (t.const z)) j e = sym (ap (λ y. of_number (t.const y)) (decoded-code z)) ∙ ap tree_of (same_Some (key 3 (int_code z) no_name) j e)
key-tree (of_number (t.free_number x)) j e = ap tree_of (same_Some (key 5 0 x) j e)
key-tree (of_number (t.read_number a b)) j e = absurd (none-some j e)
key-tree (of_number (t.add a b)) j e = absurd (none-some j e)
key-tree (of_number (t.sub a b)) j e = absurd (none-some j e)
key-tree (of_number (t.neg a)) j e = absurd (none-some j e)
key-tree (of_number (t.scale z a)) j e = absurd (none-some j e)
key-tree (of_number (t.card a)) j e = absurd (none-some j e)
key-tree (of_set (t.free_set x)) j e = ap tree_of (same_Some (key 6 0 x) j e)
key-tree (of_set (t.read_set a b)) j e = absurd (none-some j e)
key-tree (of_set t.empty) j e = ap tree_of (same_Some (key 7 0 no_name) j e)
key-tree (of_set t.univ) j e = ap tree_of (same_Some (key 8 0 no_name) j e)
key-tree (of_set (t.single a)) j e = absurd (none-some j e)
key-tree (of_set (t.union a b)) j e = absurd (none-some j e)
key-tree (of_set (t.inter a b)) j e = absurd (none-some j e)
key-tree (of_set (t.diff a b)) j e = absurd (none-some j e)
key-tree (of_set (t.compl a)) j e = absurd (none-some j e)
key-tree (of_set (t.compr a)) j e = absurd (none-some j e)
key-tree (of_field (t.free_field x)) j e = ap tree_of (same_Some (key 9 0 x) j e)
key-tree (of_field (t.update a b v)) j e = absurd (none-some j e)
key-tree (of_truth t.true_formula) j e = ap tree_of (same_Some (key 4 0 no_name) j e)
key-tree (of_truth t.false_formula) j e = ap tree_of (same_Some (key 4 1 no_name) j e)
key-tree (of_truth (t.free_truth x)) j e = ap tree_of (same_Some (key 10 0 x) j e)
key-tree (of_truth (t.read_truth a b)) j e = absurd (none-some j e)
key-tree (of_truth (t.negation a)) j e = absurd (none-some j e)
key-tree (of_truth (t.and a b)) j e = absurd (none-some j e)
key-tree (of_truth (t.or a b)) j e = absurd (none-some j e)
key-tree (of_truth (t.implies a b)) j e = absurd (none-some j e)
key-tree (of_truth (t.iff a b)) j e = absurd (none-some j e)
key-tree (of_truth (t.all a)) j e = absurd (none-some j e)
key-tree (of_truth (t.ex a)) j e = absurd (none-some j e)
key-tree (of_truth (t.eq_object a b)) j e = absurd (none-some j e)
key-tree (of_truth (t.eq_number a b)) j e = absurd (none-some j e)
key-tree (of_truth (t.eq_set a b)) j e = absurd (none-some j e)
key-tree (of_truth (t.less a b)) j e = absurd (none-some j e)
key-tree (of_truth (t.less_equal a b)) j e = absurd (none-some j e)
key-tree (of_truth (t.divides z a)) j e = absurd (none-some j e)
key-tree (of_truth (t.member a b)) j e = absurd (none-some j e)
key-tree (of_truth (t.subset a b)) j e = absurd (none-some j e)
key-tree (of_truth (t.reach fs a b)) j e = absurd (none-some j e)
key-tree (of_truth (t.tree fs)) j e = absurd (none-some j e)
key-tree (of_truth (t.mark m a)) j e = absurd (none-some j e)

abbrev same_key : Key → Key → Bool
same_key j k = nat_eq j.kind k.kind && (nat_eq j.code k.code && name_equal j.name k.name)

same_key-true : (j k : Key) → same_key j k ≡ true → j ≡ k
same_key-true j k h =
    let kinds : j.kind ≡ k.kind = eqb-true j.kind k.kind (both-left (nat_eq j.kind k.kind) (nat_eq j.code k.code && name_equal j.name k.name) h) in
    let rest = both-right (nat_eq j.kind k.kind) (nat_eq j.code k.code && name_equal j.name k.name) h in
    let codes : j.code ≡ k.code = eqb-true j.code k.code (both-left (nat_eq j.code k.code) (name_equal j.name k.name) rest) in
    let names : j.name ≡ k.name = name_equal-true j.name k.name (both-right (nat_eq j.code k.code) (name_equal j.name k.name) rest) in
    λ i. record { kind = kinds i; code = codes i; name = names i }

both-true : (a b : Bool) → a ≡ true → b ≡ true → (a && b) ≡ true
both-true a b h w = ap (λ c. c && b) h ∙ w

same_key-same : (k : Key) → same_key k k ≡ true
same_key-same k = both-true (nat_eq k.kind k.kind) (nat_eq k.code k.code && name_equal k.name k.name) (eq-eqb k.kind k.kind refl) (both-true (nat_eq k.code k.code) (name_equal k.name k.name) (eq-eqb k.code k.code refl) (name_equal-same k.name k.name refl))

abbrev is_key : Key → Option Key → Bool
is_key j None = false
is_key j (Some k) = same_key j k

is_key-true : (j : Key) (o : Option Key) → is_key j o ≡ true → o ≡ Some j
is_key-true j None h = absurd (true≢false (sym h))
is_key-true j (Some k) h = ap Some (sym (same_key-true j k h))

abbrev later : Option ℕ → Option ℕ
later None = None
later (Some k) = Some (suc k)

-- the first place at which a tree of this key stands
abbrev pub found : Key → List ValueTree → Option ℕ
found j [] = None
found j (v ∷ vs) = if is_key j (key_of v) then Some zero else later (found j vs)

later-is : (o : Option ℕ) (k : ℕ) → later o ≡ Some k → (m : ℕ) × (o ≡ Some m) × (suc m ≡ k)
later-is None k e = absurd (none-some k e)
later-is (Some m) k e = (m, refl, same_Some (suc m) k e)

-- what is found stands there
abbrev pub Stands : Key → List ValueTree → ℕ → Type 0
Stands j vs k = (v : ValueTree) × (slice_get vs k ≡ Some v) × (key_of v ≡ Some j)

found-step : (j : Key) (v : ValueTree) (vs : List ValueTree) (k : ℕ) → ((m : ℕ) → found j vs ≡ Some m → Stands j vs m) → (b : Bool) → is_key j (key_of v) ≡ b → (if b then Some zero else later (found j vs)) ≡ Some k → Stands j (v ∷ vs) k
found-step j v vs k rest true h e = (v, ap (slice_get (v ∷ vs)) (sym (same_Some zero k e)), is_key-true j (key_of v) h)
found-step j v vs k rest false h e =
    let r = later-is (found j vs) k e in
    let w = rest r.0 r.1 in
    (w.0, ap (slice_get (v ∷ vs)) (sym r.2) ∙ w.1, w.2)

pub found-is : (j : Key) (vs : List ValueTree) (k : ℕ) → found j vs ≡ Some k → Stands j vs k
found-is j [] k e = absurd (none-some k e)
found-is j (v ∷ vs) k e = found-step j v vs k (λ m u. found-is j vs m u) (is_key j (key_of v)) refl e

pub found-has : (j : Key) (vs : List ValueTree) (k : ℕ) (v : ValueTree) → slice_get vs k ≡ Some v → key_of v ≡ Some j → (m : ℕ) × (found j vs ≡ Some m)
found-has j [] k v e h = absurd (none-some v e)
found-has j (x ∷ vs) zero v e h =
    let same : x ≡ v = same_Some x v e in
    let is : is_key j (key_of x) ≡ true = ap (is_key j) (ap key_of same ∙ h) ∙ same_key-same j in
    (zero, ap (λ b. if b then Some zero else later (found j vs)) is)
found-has j (x ∷ vs) (suc k) v e h = let r = found-has j vs k v e h in either (is_key j (key_of x)) r.0 r.1
  where
    either : (b : Bool) (m : ℕ) → found j vs ≡ Some m → (i : ℕ) × ((if b then Some zero else later (found j vs)) ≡ Some i)
    either true m u = (zero, refl)
    either false m u = (suc m, ap later u)
