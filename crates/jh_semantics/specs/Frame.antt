-- What a method leaves as it was.
use Rattle.std.specs.Prelude.{◌≡◌, ◌<◌, ℕ, suc, Bool, true, false}
use Rattle.std.specs.List.{Contains}
use Rattle.jh_name.specs.declared.naming.Name.{Name}
use Rattle.jh_name.specs.declared.place.Kind.{Kind}
use Rattle.jh_name.specs.declared.place.Kind.TheVariants as k
use Rattle.jh_semantics.specs.Code.{Text}
use Rattle.jh_semantics.specs.Program.{Program, Member}
use Rattle.jh_semantics.specs.State.{State, named, alloc_name}
use Rattle.jh_semantics.specs.WellFormed.{all_classes}

-- a static has its value; a set the same members among the objects
abbrev pub KeepsStatic : Kind → Name → State → State → Type 0
KeepsStatic k.Obj x first last = last.object x ≡ first.object x
KeepsStatic k.Int x first last = last.number x ≡ first.number x
KeepsStatic k.Bool x first last = last.truth x ≡ first.truth x
KeepsStatic k.Set x first last = (b : ℕ) → b < suc first.last → last.set x b ≡ first.set x b

-- a field has its value at an object
abbrev pub KeepsAt : Kind → Name → ℕ → State → State → Type 0
KeepsAt k.Obj f a first last = (last.field f).objects a ≡ (first.field f).objects a
KeepsAt k.Int f a first last = (last.field f).numbers a ≡ (first.field f).numbers a
KeepsAt k.Bool f a first last = (last.field f).truths a ≡ (first.field f).truths a
KeepsAt k.Set f a first last = (b : ℕ) → b < suc first.last → (last.field f).sets a b ≡ (first.field f).sets a b

-- a static keeps its value, a field that at each object that there was
abbrev pub KeepsBy : Bool → Kind → Name → State → State → Type 0
KeepsBy true kind x first last = KeepsStatic kind x first last
KeepsBy false kind x first last = (a : ℕ) → first.set alloc_name a ≡ true → KeepsAt kind x a first last

abbrev pub Keeps : Member → State → State → Type 0
Keeps x first last = KeepsBy x.is_static x.kind (named x.text) first last

-- The frame of a method: the objects 0 to N stay, the sets of objects only grow, and each member that `modifies` doesn't name, itself
-- or through a definition, keeps its value.
pub record Frame (p : Program) (Modifies : Text → Type 0) (first last : State) : Type 0 where
  pub universe : last.last ≡ first.last
  pub alloc : (a : ℕ) → first.set alloc_name a ≡ true → last.set alloc_name a ≡ true
  pub classes : (c : Text) → Contains (all_classes p.classes) c → (a : ℕ) → first.set (named c) a ≡ true → last.set (named c) a ≡ true
  pub members : (x : Member) → Contains p.members x → (Modifies x.text → ⊥) → Keeps x first last
