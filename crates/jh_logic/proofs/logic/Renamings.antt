-- Other names in a formula: it means what the formula means where each name is read as the other.
use Rattle.std.proofs.Common.{◌≡◌, refl, sym, ◌∙◌, Bool, true, [], arith}
use Rattle.jh_name.specs.declared.naming.Name.{Name}
use Rattle.jh_name.specs.declared.place.Sort.{Sort}
use Rattle.jh_name.specs.declared.place.Sort.TheVariants as sort
use Rattle.jh_form.specs.Tree.{FormulaTree}
use Rattle.jh_form.specs.Meaning.{Interp, truth}
use Rattle.jh_form.specs.Agreement.{AgreeOn}
use Rattle.jh_form.specs.Passing.{formula_passes}
use Rattle.jh_form.proofs.Coincidences.{truth-agrees}
use Rattle.jh_boxed.specs.Kept.{Keeps}
use Rattle.jh_boxed.proofs.Meanings.{truth-mapped}
use Rattle.jh_guard.specs.Calls.{renaming_by, renamed_by}
use Rattle.jh_logic.specs.logic.Histories.{Gives}

-- each name is read as another
abbrev pub read_as : (Name → Name) → Interp → Interp
read_as f m = record {
  last = m.last;
  object = λ z. m.object (f z);
  number = λ z. m.number (f z);
  truth = λ z. m.truth (f z);
  set = λ z. m.set (f z);
  field = λ z. m.field (f z);
}

renaming-keeps : (f : Name → Name) (m : Interp) → Keeps (renaming_by f) m (read_as f m) (λ d e. e)
renaming-keeps f m = record {
  last = refl;
  under = λ d e z. refl;
  object = λ z d e h. refl;
  number = λ z d e h. refl;
  truth = λ z d e h. refl;
  set = λ z d e h. refl;
  field = λ z d e h. refl;
  bound = λ k d e h. refl;
}

pub truth-renamed-by : (f : Name → Name) (a : FormulaTree) (m : Interp) → truth (renamed_by f a) m [] ≡ truth a (read_as f m) []
truth-renamed-by f a m = truth-mapped (renaming_by f) m (read_as f m) (λ d e. e) (renaming-keeps f m) a 0 [] (omega arith)

-- one interpretation says of a name at a sort what another says of one
abbrev pub GivesAt : Sort → Interp → Name → Interp → Name → Type 0
GivesAt sort.Obj m y w x = m.object y ≡ w.object x
GivesAt sort.Int m y w x = m.number y ≡ w.number x
GivesAt sort.Bool m y w x = m.truth y ≡ w.truth x
GivesAt sort.Set m y w x = m.set y ≡ w.set x
GivesAt sort.Field m y w x = m.field y ≡ w.field x

pub gives-at : (a : Sort) (m : Interp) (y : Name) (w : Interp) (x : Name) → Gives m y w x → GivesAt a m y w x
gives-at sort.Obj m y w x g = g.object
gives-at sort.Int m y w x g = g.number
gives-at sort.Bool m y w x g = g.truth
gives-at sort.Set m y w x g = g.set
gives-at sort.Field m y w x g = g.field

pub at-then : (a : Sort) (m w u : Interp) (x y z : Name) → GivesAt a m x w y → GivesAt a w y u z → GivesAt a m x u z
at-then sort.Obj m w u x y z g h = g ∙ h
at-then sort.Int m w u x y z g h = g ∙ h
at-then sort.Bool m w u x y z g h = g ∙ h
at-then sort.Set m w u x y z g h = g ∙ h
at-then sort.Field m w u x y z g h = g ∙ h

pub at-back : (a : Sort) (m w : Interp) (x y : Name) → GivesAt a m x w y → GivesAt a w y m x
at-back sort.Obj m w x y g = sym g
at-back sort.Int m w x y g = sym g
at-back sort.Bool m w x y g = sym g
at-back sort.Set m w x y g = sym g
at-back sort.Field m w x y g = sym g

pub at-itself : (a : Sort) (m : Interp) (x : Name) → GivesAt a m x m x
at-itself sort.Obj m x = refl
at-itself sort.Int m x = refl
at-itself sort.Bool m x = refl
at-itself sort.Set m x = refl
at-itself sort.Field m x = refl

-- a formula whose names are read so that another interpretation says the same of them
agree-read : (test : Name → Sort → Bool) (f : Name → Name) (m w : Interp) → m.last ≡ w.last → ((z : Name) (a : Sort) → test z a ≡ true → GivesAt a m (f z) w z) → AgreeOn test (read_as f m) w
agree-read test f m w e h = record {
  last = e;
  object = λ z t. h z sort.Obj t;
  number = λ z t. h z sort.Int t;
  truth = λ z t. h z sort.Bool t;
  set = λ z t. h z sort.Set t;
  field = λ z t. h z sort.Field t;
}

pub truth-read : (test : Name → Sort → Bool) (f : Name → Name) (m w : Interp) (a : FormulaTree) → m.last ≡ w.last → ((z : Name) (s : Sort) → test z s ≡ true → GivesAt s m (f z) w z) → formula_passes a test ≡ true →
    truth (renamed_by f a) m [] ≡ truth a w []
truth-read test f m w a e h passes = truth-renamed-by f a m ∙ truth-agrees test (read_as f m) w (agree-read test f m w e h) a [] passes

-- and one whose names stay
pub truth-same : (test : Name → Sort → Bool) (m w : Interp) (a : FormulaTree) → m.last ≡ w.last → ((z : Name) (s : Sort) → test z s ≡ true → GivesAt s m z w z) → formula_passes a test ≡ true → truth a m [] ≡ truth a w []
truth-same test m w a e h passes = truth-agrees test m w (agree-read test (λ z. z) m w e h) a [] passes
