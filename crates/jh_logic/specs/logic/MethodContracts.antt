-- What contracts and invariants may speak of, and what a caller may count on where a method is called.
use Rattle.std.specs.Prelude.{◌≡◌, ℕ, ◌==◌, ◌&&◌, ◌||◌, not, if◌then◌else◌, Bool, true, false, List, [], ◌∷◌, Option, None, Some, is_some}
use Rattle.std.specs.List.{list_any, Contains}
use Rattle.jh_name.specs.declared.naming.Name.{Name}
use Rattle.jh_name.specs.declared.place.Sort.{Sort}
use Rattle.jh_name.specs.declared.place.Sort.TheVariants as sort
use Rattle.jh_form.specs.Passing.{name_equal, formula_passes}
use Rattle.jh_form.specs.Sorts.{same_sort}
use Rattle.jh_form.specs.Meaning.{Interp, InUniverse, Datum, truth}
use Rattle.jh_wp.specs.Wp.{wp}
use Rattle.jh_wp.specs.Command.{is_closed_command}
use Rattle.jh_guard.specs.Methods.{method_command}
use Rattle.jh_rules.specs.Words.{same_text}
use Rattle.jh_rules.specs.declared.types.Ty.{Ty}
use Rattle.jh_rules.specs.declared.types.Ty.TheVariants as ty
use Rattle.jh_rules.specs.Kinds.{kind_of, is_void}
use Rattle.jh_vars.specs.state_names.States.{sort_of}
use Rattle.jh_vars.specs.Written.{Callee}
use Rattle.jh_semantics.specs.Code.{Text, Local, Claim}
use Rattle.jh_semantics.specs.Program.{Program, Method}
use Rattle.jh_semantics.specs.State.{State, IsWhole, named, this_name, shown}
use Rattle.jh_semantics.specs.Locals.{has_dot, entered}
use Rattle.jh_semantics.specs.Progress.{Configuration, Progress, goes_on, returns, stops}
use Rattle.jh_semantics.specs.WellFormed.{well_formed}
use Rattle.jh_semantics.specs.Entry.{Entry}
use Rattle.jh_semantics.specs.Sound.{ReturnsWell, IsNoFault}
use Rattle.jh_semantics.specs.Laws.{Grew, ResultInside}
use Rattle.jh_guard.specs.Items.{Item, item_text, item_sort, items, items_where}
use Rattle.jh_guard.specs.Calls.{this_text, result_text}
use Rattle.jh_guard.specs.Writes.{Writes, stmts_write}

-- a text is that of one of some pieces of state, at its sort
abbrev pub is_item : Text → Sort → Item → Bool
is_item y a x = name_equal (named y) (named (item_text x)) && same_sort a (item_sort x)

abbrev pub is_state : Program → Text → Sort → Bool
is_state p y a = list_any (is_item y a) (items p)

-- and of one that a method may write
abbrev pub may_write : Program → Writes → Callee → Text → Sort → Bool
may_write p ws m y a = list_any (is_item y a) (items_where p (ws.written m))

-- a parameter has this text
abbrev pub is_param : List Local → Text → Bool
is_param params y = list_any (λ (x : Local). same_text x.text y) params

-- the sorts of values of code
abbrev pub is_plain : Sort → Bool
is_plain sort.Obj = true
is_plain sort.Int = true
is_plain sort.Bool = true
is_plain _ = false

-- What a name without `old` may be in a contract: `this` in an instance method, the result of a method that has one where that is in
-- view, a parameter, or a piece of the state.
abbrev pub names_now : Program → Method → Bool → Text → Sort → Bool
names_now p x returned y a =
    if same_text y this_text then is_some x.this && same_sort a sort.Obj
    else if same_text y result_text then returned && (not (is_void x.result) && same_sort a (sort_of (kind_of x.result)))
    else if is_param x.params y then is_plain a
    else is_state p y a

-- `requires` speaks of the state at the call, `ensures` of that at the return and, under `old`, of the state at the call; an invariant
-- speaks of the state alone
abbrev pub speaks_before : Program → Method → Name → Sort → Bool
speaks_before p x z a = z.turn == 0 && names_now p x false z.text a

abbrev pub speaks_after : Program → Method → Name → Sort → Bool
speaks_after p x z a = (z.turn == 0 && names_now p x true z.text a) || (z.turn == 1 && is_state p z.text a)

abbrev pub speaks_of_state : Program → Name → Sort → Bool
speaks_of_state p z a = z.turn == 0 && is_state p z.text a

-- a formula that may be absent speaks only of what a test allows
abbrev pub Speaks : (Name → Sort → Bool) → Option Claim → Type 0
Speaks test None = Unit {0}
Speaks test (Some claim) = formula_passes claim.formula test ≡ true

abbrev pub AllSpeak : (Name → Sort → Bool) → List Claim → Type 0
AllSpeak test [] = Unit {0}
AllSpeak test (claim ∷ more) = (formula_passes claim.formula test ≡ true) × AllSpeak test more

-- values have these types
abbrev pub IsValueType : Ty → Type 0
IsValueType ty.Int = Unit {0}
IsValueType ty.Boolean = Unit {0}
IsValueType ty.Object = Unit {0}
IsValueType (ty.Class n) = Unit {0}
IsValueType _ = ⊥

-- A method's contract speaks of what it may speak of, and its parameters have types of values.
pub record ContractFits (p : Program) (x : Method) : Type 0 where
  pub param_types : (y : Local) → Contains x.params y → IsValueType y.type
  pub requires : Speaks (speaks_before p x) x.requires
  pub ensures : Speaks (speaks_after p x) x.ensures

pub record ContractsFit (p : Program) : Type 0 where
  pub methods : (m : Callee) (x : Method) → p.method m ≡ Some x → ContractFits p x
  pub invariants : AllSpeak (speaks_of_state p) p.invariants

-- What a method may not write has the value that it had. A static has a dot in its text, which no local has; sets and fields are all
-- state.
pub record LeavesUnwritten (p : Program) (ws : Writes) (m : Callee) (first last : State) : Type 0 where
  pub universe : last.last ≡ first.last
  pub object : (y : Text) → has_dot y ≡ true → may_write p ws m y sort.Obj ≡ false → last.object (named y) ≡ first.object (named y)
  pub number : (y : Text) → has_dot y ≡ true → may_write p ws m y sort.Int ≡ false → last.number (named y) ≡ first.number (named y)
  pub truth : (y : Text) → has_dot y ≡ true → may_write p ws m y sort.Bool ≡ false → last.truth (named y) ≡ first.truth (named y)
  pub set : (y : Text) → may_write p ws m y sort.Set ≡ false → last.set (named y) ≡ first.set (named y)
  pub field : (y : Text) → may_write p ws m y sort.Field ≡ false → last.field (named y) ≡ first.field (named y)

-- a name has the same value in two states
pub record SameValues (first last : State) (y : Text) : Type 0 where
  pub object : last.object (named y) ≡ first.object (named y)
  pub number : last.number (named y) ≡ first.number (named y)
  pub truth : last.truth (named y) ≡ first.truth (named y)

-- What a caller may count on where a method returns: it returns well, it wrote only what it may write, `this` and the parameters have
-- still the values that they were given (nothing assigns them), the sets of objects only grew, and the state is whole and well formed.
pub record Met (p : Program) (ws : Writes) (m : Callee) (x : Method) (this : ℕ) (args : List Datum) (first last : State) (v : Option Datum) : Type 0 where
  pub returns : ReturnsWell p (λ y. ws.modified m y ≡ true) x first last v
  pub unwritten : LeavesUnwritten p ws m first last
  pub own_this : last.object this_name ≡ (entered x this args first).object this_name
  pub own_params : (y : Text) → is_param x.params y ≡ true → SameValues (entered x this args first) last y
  pub grew : Grew first last
  pub formed : truth (well_formed p [] None) (shown last last) [] ≡ true
  pub whole : IsWhole last
  pub inside : ResultInside first.last v

-- A call meets the contract: it ends in no fault, and where it comes back the caller may count on all that.
abbrev pub Meets : Program → Writes → Callee → Method → ℕ → List Datum → State → Progress → Type 0
Meets p ws m x this args first (goes_on r) = Met p ws m x this args first r.now None
Meets p ws m x this args first (returns r v) = Met p ws m x this args first r.now v
Meets p ws m x this args first (stops why) = IsNoFault why

-- Calls meet their contracts wherever the methods may be entered. This is what the command of a call takes for granted; it is shown by
-- induction over the depth of calls.
abbrev pub CallsMeet : Program → Writes → (Callee → ℕ → List Datum → Configuration → Progress) → Type 0
CallsMeet p ws call =
    (m : Callee) (x : Method) → p.method m ≡ Some x → (this : ℕ) (args : List Datum) (r : Configuration) → Entry p x r.now this args → IsWhole r.entry → r.entry.last ≡ r.now.last →
    Meets p ws m x this args r.now (call m this args r)

-- What of the state the body of a method may write, itself or by calls, the method may write.
abbrev pub WritesCover : Program → Writes → Type 0
WritesCover p ws = (m : Callee) (x : Method) → p.method m ≡ Some x → (y : Item) → Contains (items p) y → stmts_write ws x.body (item_text y) ≡ true → ws.written m (item_text y) ≡ true

-- The formula of a method is true in every interpretation whose objects are those of its universe.
abbrev pub IsValid : Program → Writes → Callee → Method → Type 0
IsValid p ws m x =
    (i : Interp) → InUniverse i → truth (wp (method_command p ws m x).body (method_command p ws m x).returned (method_command p ws m x).returned) i [] ≡ true

-- The commands of all methods assign values without loose bound variables.
abbrev pub AreClosed : Program → Writes → Type 0
AreClosed p ws = (m : Callee) (x : Method) → p.method m ≡ Some x → is_closed_command (method_command p ws m x).body ≡ true
