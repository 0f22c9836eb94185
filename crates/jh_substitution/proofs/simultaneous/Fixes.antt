-- Written by tools/several.py: other names are left alone, and each leaf is exchanged for the value of its name.
use Rattle.std.proofs.Common.{◌≡◌, refl, sym, ap, ◌∙◌, ℕ, Bool, true, false, not, if◌then◌else◌, List, [], ◌∷◌}
use Rattle.std.proofs.lemmas.Bool.{true≢false}
use Rattle.jh_name.specs.declared.naming.Name.{Name}
use Rattle.jh_form.specs.Tree.{ValueTree, of_object, of_number, of_truth, of_set, of_field}
use Rattle.jh_form.specs.Tree as t
use Rattle.jh_form.specs.Passing.{name_equal}
use Rattle.jh_form.proofs.ClosedLemmas.{both-left, both-right}
use Rattle.jh_form.proofs.Names.{name_equal-same}
use Rattle.jh_substitution.specs.rewriting.Fixing.{FixesNames}
use Rattle.jh_substitution.specs.rewriting.Leaf.{free_value}
use Rattle.jh_substitution.proofs.rewriting.SubstitutionRules.{other}
use Rattle.jh_substitution.specs.simultaneous.Several.{object_in, number_in, truth_in, set_in, field_in, none_of, instead}

skipped : {X : Type 0} (a c : X) (b : Bool) → not b ≡ true → (if b then a else c) ≡ c
skipped a c true h = absurd (true≢false (sym h))
skipped a c false h = refl

object-other : (ps : List (Name × ValueTree)) (y : Name) → none_of ps y ≡ true → object_in ps y ≡ t.free_object y
object-other [] y h = refl
object-other ((x, of_object a) ∷ ps) y h = skipped a (object_in ps y) (name_equal y x) (both-left (not (name_equal y x)) (none_of ps y) h) ∙ object-other ps y (both-right (not (name_equal y x)) (none_of ps y) h)
object-other ((x, of_number a) ∷ ps) y h = object-other ps y (both-right (not (name_equal y x)) (none_of ps y) h)
object-other ((x, of_truth a) ∷ ps) y h = object-other ps y (both-right (not (name_equal y x)) (none_of ps y) h)
object-other ((x, of_set a) ∷ ps) y h = object-other ps y (both-right (not (name_equal y x)) (none_of ps y) h)
object-other ((x, of_field a) ∷ ps) y h = object-other ps y (both-right (not (name_equal y x)) (none_of ps y) h)

number-other : (ps : List (Name × ValueTree)) (y : Name) → none_of ps y ≡ true → number_in ps y ≡ t.free_number y
number-other [] y h = refl
number-other ((x, of_object a) ∷ ps) y h = number-other ps y (both-right (not (name_equal y x)) (none_of ps y) h)
number-other ((x, of_number a) ∷ ps) y h = skipped a (number_in ps y) (name_equal y x) (both-left (not (name_equal y x)) (none_of ps y) h) ∙ number-other ps y (both-right (not (name_equal y x)) (none_of ps y) h)
number-other ((x, of_truth a) ∷ ps) y h = number-other ps y (both-right (not (name_equal y x)) (none_of ps y) h)
number-other ((x, of_set a) ∷ ps) y h = number-other ps y (both-right (not (name_equal y x)) (none_of ps y) h)
number-other ((x, of_field a) ∷ ps) y h = number-other ps y (both-right (not (name_equal y x)) (none_of ps y) h)

truth-other : (ps : List (Name × ValueTree)) (y : Name) → none_of ps y ≡ true → truth_in ps y ≡ t.free_truth y
truth-other [] y h = refl
truth-other ((x, of_object a) ∷ ps) y h = truth-other ps y (both-right (not (name_equal y x)) (none_of ps y) h)
truth-other ((x, of_number a) ∷ ps) y h = truth-other ps y (both-right (not (name_equal y x)) (none_of ps y) h)
truth-other ((x, of_truth a) ∷ ps) y h = skipped a (truth_in ps y) (name_equal y x) (both-left (not (name_equal y x)) (none_of ps y) h) ∙ truth-other ps y (both-right (not (name_equal y x)) (none_of ps y) h)
truth-other ((x, of_set a) ∷ ps) y h = truth-other ps y (both-right (not (name_equal y x)) (none_of ps y) h)
truth-other ((x, of_field a) ∷ ps) y h = truth-other ps y (both-right (not (name_equal y x)) (none_of ps y) h)

set-other : (ps : List (Name × ValueTree)) (y : Name) → none_of ps y ≡ true → set_in ps y ≡ t.free_set y
set-other [] y h = refl
set-other ((x, of_object a) ∷ ps) y h = set-other ps y (both-right (not (name_equal y x)) (none_of ps y) h)
set-other ((x, of_number a) ∷ ps) y h = set-other ps y (both-right (not (name_equal y x)) (none_of ps y) h)
set-other ((x, of_truth a) ∷ ps) y h = set-other ps y (both-right (not (name_equal y x)) (none_of ps y) h)
set-other ((x, of_set a) ∷ ps) y h = skipped a (set_in ps y) (name_equal y x) (both-left (not (name_equal y x)) (none_of ps y) h) ∙ set-other ps y (both-right (not (name_equal y x)) (none_of ps y) h)
set-other ((x, of_field a) ∷ ps) y h = set-other ps y (both-right (not (name_equal y x)) (none_of ps y) h)

field-other : (ps : List (Name × ValueTree)) (y : Name) → none_of ps y ≡ true → field_in ps y ≡ t.free_field y
field-other [] y h = refl
field-other ((x, of_object a) ∷ ps) y h = field-other ps y (both-right (not (name_equal y x)) (none_of ps y) h)
field-other ((x, of_number a) ∷ ps) y h = field-other ps y (both-right (not (name_equal y x)) (none_of ps y) h)
field-other ((x, of_truth a) ∷ ps) y h = field-other ps y (both-right (not (name_equal y x)) (none_of ps y) h)
field-other ((x, of_set a) ∷ ps) y h = field-other ps y (both-right (not (name_equal y x)) (none_of ps y) h)
field-other ((x, of_field a) ∷ ps) y h = skipped a (field_in ps y) (name_equal y x) (both-left (not (name_equal y x)) (none_of ps y) h) ∙ field-other ps y (both-right (not (name_equal y x)) (none_of ps y) h)

pub instead-fixes : (ps : List (Name × ValueTree)) → FixesNames (instead ps) (λ y s. none_of ps y)
instead-fixes ps = record { object = λ y d h. object-other ps y h; number = λ y d h. number-other ps y h; truth = λ y d h. truth-other ps y h; set = λ y d h. set-other ps y h; field = λ y d h. field-other ps y h; bound = λ k d. refl }

matched : {X : Type 0} (y x : Name) (a c : X) → x ≡ y → (if name_equal y x then a else c) ≡ a
matched y x a c e = ap (λ b. if b then a else c) (name_equal-same y x (sym e))

-- the first pair is that of the name
pub object-taken : (y x : Name) (v : ValueTree) (ps : List (Name × ValueTree)) → free_value x v ≡ of_object (t.free_object y) → of_object (object_in ((x, v) ∷ ps) y) ≡ v
object-taken y x (of_object a) ps e = let same : x ≡ y = cc in ap of_object (matched y x a (object_in ps y) same)
object-taken y x (of_number a) ps e = absurd (cc)
object-taken y x (of_truth a) ps e = absurd (cc)
object-taken y x (of_set a) ps e = absurd (cc)
object-taken y x (of_field a) ps e = absurd (cc)

-- the first pair is of another name or sort
pub object-passed : (y x : Name) (v : ValueTree) (ps : List (Name × ValueTree)) → (free_value x v ≡ of_object (t.free_object y) → ⊥) → object_in ((x, v) ∷ ps) y ≡ object_in ps y
object-passed y x (of_object a) ps differs = other y x a (object_in ps y) (λ e. differs (ap (λ z. of_object (t.free_object z)) (sym e)))
object-passed y x (of_number a) ps differs = refl
object-passed y x (of_truth a) ps differs = refl
object-passed y x (of_set a) ps differs = refl
object-passed y x (of_field a) ps differs = refl

-- the first pair is that of the name
pub number-taken : (y x : Name) (v : ValueTree) (ps : List (Name × ValueTree)) → free_value x v ≡ of_number (t.free_number y) → of_number (number_in ((x, v) ∷ ps) y) ≡ v
number-taken y x (of_object a) ps e = absurd (cc)
number-taken y x (of_number a) ps e = let same : x ≡ y = cc in ap of_number (matched y x a (number_in ps y) same)
number-taken y x (of_truth a) ps e = absurd (cc)
number-taken y x (of_set a) ps e = absurd (cc)
number-taken y x (of_field a) ps e = absurd (cc)

-- the first pair is of another name or sort
pub number-passed : (y x : Name) (v : ValueTree) (ps : List (Name × ValueTree)) → (free_value x v ≡ of_number (t.free_number y) → ⊥) → number_in ((x, v) ∷ ps) y ≡ number_in ps y
number-passed y x (of_object a) ps differs = refl
number-passed y x (of_number a) ps differs = other y x a (number_in ps y) (λ e. differs (ap (λ z. of_number (t.free_number z)) (sym e)))
number-passed y x (of_truth a) ps differs = refl
number-passed y x (of_set a) ps differs = refl
number-passed y x (of_field a) ps differs = refl

-- the first pair is that of the name
pub truth-taken : (y x : Name) (v : ValueTree) (ps : List (Name × ValueTree)) → free_value x v ≡ of_truth (t.free_truth y) → of_truth (truth_in ((x, v) ∷ ps) y) ≡ v
truth-taken y x (of_object a) ps e = absurd (cc)
truth-taken y x (of_number a) ps e = absurd (cc)
truth-taken y x (of_truth a) ps e = let same : x ≡ y = cc in ap of_truth (matched y x a (truth_in ps y) same)
truth-taken y x (of_set a) ps e = absurd (cc)
truth-taken y x (of_field a) ps e = absurd (cc)

-- the first pair is of another name or sort
pub truth-passed : (y x : Name) (v : ValueTree) (ps : List (Name × ValueTree)) → (free_value x v ≡ of_truth (t.free_truth y) → ⊥) → truth_in ((x, v) ∷ ps) y ≡ truth_in ps y
truth-passed y x (of_object a) ps differs = refl
truth-passed y x (of_number a) ps differs = refl
truth-passed y x (of_truth a) ps differs = other y x a (truth_in ps y) (λ e. differs (ap (λ z. of_truth (t.free_truth z)) (sym e)))
truth-passed y x (of_set a) ps differs = refl
truth-passed y x (of_field a) ps differs = refl

-- the first pair is that of the name
pub set-taken : (y x : Name) (v : ValueTree) (ps : List (Name × ValueTree)) → free_value x v ≡ of_set (t.free_set y) → of_set (set_in ((x, v) ∷ ps) y) ≡ v
set-taken y x (of_object a) ps e = absurd (cc)
set-taken y x (of_number a) ps e = absurd (cc)
set-taken y x (of_truth a) ps e = absurd (cc)
set-taken y x (of_set a) ps e = let same : x ≡ y = cc in ap of_set (matched y x a (set_in ps y) same)
set-taken y x (of_field a) ps e = absurd (cc)

-- the first pair is of another name or sort
pub set-passed : (y x : Name) (v : ValueTree) (ps : List (Name × ValueTree)) → (free_value x v ≡ of_set (t.free_set y) → ⊥) → set_in ((x, v) ∷ ps) y ≡ set_in ps y
set-passed y x (of_object a) ps differs = refl
set-passed y x (of_number a) ps differs = refl
set-passed y x (of_truth a) ps differs = refl
set-passed y x (of_set a) ps differs = other y x a (set_in ps y) (λ e. differs (ap (λ z. of_set (t.free_set z)) (sym e)))
set-passed y x (of_field a) ps differs = refl

-- the first pair is that of the name
pub field-taken : (y x : Name) (v : ValueTree) (ps : List (Name × ValueTree)) → free_value x v ≡ of_field (t.free_field y) → of_field (field_in ((x, v) ∷ ps) y) ≡ v
field-taken y x (of_object a) ps e = absurd (cc)
field-taken y x (of_number a) ps e = absurd (cc)
field-taken y x (of_truth a) ps e = absurd (cc)
field-taken y x (of_set a) ps e = absurd (cc)
field-taken y x (of_field a) ps e = let same : x ≡ y = cc in ap of_field (matched y x a (field_in ps y) same)

-- the first pair is of another name or sort
pub field-passed : (y x : Name) (v : ValueTree) (ps : List (Name × ValueTree)) → (free_value x v ≡ of_field (t.free_field y) → ⊥) → field_in ((x, v) ∷ ps) y ≡ field_in ps y
field-passed y x (of_object a) ps differs = refl
field-passed y x (of_number a) ps differs = refl
field-passed y x (of_truth a) ps differs = refl
field-passed y x (of_set a) ps differs = refl
field-passed y x (of_field a) ps differs = other y x a (field_in ps y) (λ e. differs (ap (λ z. of_field (t.free_field z)) (sym e)))

pub bound-taken : (k : ℕ) (x : Name) (v : ValueTree) → free_value x v ≡ of_object (t.bound k) → ⊥
bound-taken k x (of_object a) e = cc
bound-taken k x (of_number a) e = cc
bound-taken k x (of_truth a) e = cc
bound-taken k x (of_set a) e = cc
bound-taken k x (of_field a) e = cc
