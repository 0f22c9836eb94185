-- What is asked of parts of formulas, each under a name of its own.
use Rattle.std.specs.Prelude.{ℕ, ◌≡◌, ◌++◌, ℤ, pos, ◌==◌, ◌&&◌, ◌||◌, not, Bool, true, false, List, [], ◌∷◌, Option, Some, None, is_some, option_map, codes, if◌then◌else◌}
use Rattle.std.specs.Borrow.{Bor}
use Rattle.std.specs.Option.{option_map_or}
use Rattle.jh_name.specs.declared.place.Place.{Place}
use Rattle.jh_name.specs.declared.place.Kind.{Kind}
use Rattle.jh_name.specs.declared.place.Kind.TheVariants as k
use Rattle.jh_ast.specs.declared.word.Word.{Word}
use Rattle.jh_ast.specs.Forms.{FormTree, FormTrees}
use Rattle.jh_ast.specs.Forms as f
use Rattle.jh_rules.specs.Faults.{Judged, broken, each, right, wrong, given, needs, needs_none, both, pair_of, second_of, ◌>>=◌}
use Rattle.jh_rules.specs.Words.{same_text, is_one_of, text_of}
use Rattle.jh_rules.specs.Kinds.{is_obj, is_number, is_truth, is_set, is_number_or_set, same_kind}
use Rattle.jh_rules.specs.declared.entries.StateEntry.{StateEntry}
use Rattle.jh_rules.specs.declared.found.Found.{Found}
use Rattle.jh_rules.specs.Found.{lesser}
use Rattle.jh_rules.specs.Formulas.{Where, local_kind, outer_kind, known_states, equations, first_place}
use Rattle.jh_rules.specs.Names.{Declared, own_name, state_spelled, ◌then◌}
use Rattle.jh_rules.specs.Rules.{rule_14, rule_27_name, rule_27_field, rule_28, rule_29_product, rule_29_dvd, rule_30_field, rule_30_list, rule_30_shape, rule_31_result, same_state}
use Rattle.jh_ast.specs.declared.spec.SpecOp.{SpecOp}
use Rattle.jh_ast.specs.declared.spec.SpecOp.TheVariants as op
use Rattle.std.specs.List.{flat_map, list_any}
use Rattle.jh_type.specs.declared.formula_kinds.operators.Wanted.{Wanted}
use Rattle.jh_type.specs.declared.formula_kinds.operators.Wanted.TheVariants as wanted

-- two texts that references point to
abbrev pub pointed : Option (Bor (List ℕ) × Bor (List ℕ)) → Option (List ℕ × List ℕ)
pointed o = option_map (λ p. (p.0.now, p.1.now)) o

abbrev pub state_in_class : Declared → List ℕ → List ℕ → Option StateEntry
state_in_class l c x = l.class_named c then λ d. l.state_of d x

-- a state that isn't static
abbrev pub instance : Place → Option StateEntry → Judged StateEntry
instance place state = option_map_or (λ (x : StateEntry). needs (not x.fixed) 27 place x) state (wrong 27 place)

-- a field, static or specification variable without receiver
abbrev pub own_state : Bool → Word → StateEntry → Judged Kind
own_state has_this w x = rule_14 (x.fixed || has_this) w.place x >>= λ y. given y.kind

abbrev pub set_or_unknown : Declared → Word → Judged Kind
set_or_unknown l w = if is_some (l.class_named (text_of w)) then right k.Set else rule_27_name w

abbrev pub member_or_class : Declared → ℕ → Bool → Word → Judged Kind
member_or_class l c has_this w = option_map_or (own_state has_this w) (state_spelled l c (text_of w)) (set_or_unknown l w)

abbrev pub is_set_word : List ℕ → Bool
is_set_word x = is_one_of x (codes "alloc" ∷ codes "Object" ∷ codes "Object.alloc" ∷ [])

abbrev pub set_or_member : Declared → ℕ → Bool → Word → Judged Kind
set_or_member l c has_this w = if is_set_word (text_of w) then right k.Set else member_or_class l c has_this w

abbrev pub result_or_more : Declared → ℕ → Bool → Option (Option Kind) → Word → Judged Kind
result_or_more l c has_this result w = if same_text (text_of w) (codes "result") then rule_31_result w.place result else set_or_member l c has_this w

-- the kinds that are wanted
abbrev pub passes : Wanted → Kind → Bool
passes wanted.Obj = is_obj
passes wanted.Number = is_number
passes wanted.Truth = is_truth
passes wanted.Set = is_set
passes wanted.NumberOrSet = is_number_or_set
passes wanted.Any = λ u. true

-- a kind in place of another, where there is one
abbrev pub instead_of : Option Kind → Kind → Kind
instead_of None u = u
instead_of (Some x) u = x

abbrev pub one : Wanted → FormTree → Judged Kind → Kind → Judged Kind
one good a j kind = j >>= λ u. rule_28 (passes good u) (f.place_of a) kind

abbrev pub two : Wanted → Wanted → FormTree → Judged Kind → Judged Kind → Kind → Judged Kind
two left right a j m kind = both j m >>= λ u. rule_28 (passes left u.0 && passes right u.1) (f.place_of a) kind

abbrev pub alike : FormTree → Judged Kind → Judged Kind → Wanted → Option Kind → Judged Kind
alike a j m good kind = both j m >>= λ u. rule_28 (same_kind u.0 u.1 && passes good u.0) (f.place_of a) (instead_of kind u.0)

abbrev pub complement : FormTree → Judged Kind → Judged Kind
complement a j = j >>= λ u. rule_28 (is_number_or_set u) (f.place_of a) u

abbrev pub literal_of : Place → FormTree → Judged Kind → FormTree → Judged Kind → Judged (Unit {0})
literal_of q a j b m = given (pair_of j.known m.known) >>= λ u. needs_none (rule_29_product q a b)

abbrev pub product : Place → FormTree → Judged Kind → FormTree → Judged Kind → Judged Kind
product q a j b m = both (literal_of q a j b m) (two wanted.Number wanted.Number a j m k.Int) >>= λ u. right k.Int

abbrev pub read_of : FormTree → Kind → StateEntry → Judged Kind
read_of a kind x = rule_28 (is_obj kind) (f.place_of a) k.Obj >>= λ v. given x.kind

abbrev pub read : FormTree → Judged Kind → Judged StateEntry → Judged Kind
read a j m = both j m >>= λ u. read_of a u.0 (second_of u)

abbrev pub behind : Judged (Unit {0}) → Judged Kind → Judged Kind
behind j m = both j m >>= λ u. right (second_of u)

abbrev pub is_zero : ℤ → Bool
is_zero (pos n) = n == 0
is_zero _ = false

abbrev pub multiple : Place → ℤ → Judged Kind → Judged Kind
multiple q z j = both (needs_none (rule_29_dvd q z)) (j >>= λ u. rule_28 (is_number u) q k.Bool) >>= λ u. right k.Bool

abbrev pub path : Judged Kind → FormTree → Judged Kind → Judged Kind → Judged Kind
path fields b j m = both fields (two wanted.Obj wanted.Obj b j m k.Bool) >>= λ u. right k.Bool

abbrev pub is_plain_number : FormTree → Bool
is_plain_number (f.number q z) = true
is_plain_number _ = false

-- what a name is that is no bound name
abbrev pub free_kind : Declared → Where → Word → Judged Kind
free_kind l at w = option_map_or (local_kind l) (at.local (text_of w)) (outer_kind l at w)

-- what is known of a part, put into other words
abbrev pub seen : {A B : Type 0} → (A → B) → Judged A → Judged B
seen g j = record { faults = j.faults; known = option_map g j.known }

abbrev pub noted : {A B : Type 0} → (A → B) → Found A → Found B
noted g u = record { least = u.least; known = option_map g u.known }

-- whether something is so of two parts that are both known
abbrev pub both_hold : Option Bool → Option Bool → Option Bool
both_hold None y = None
both_hold (Some x) None = None
both_hold (Some x) (Some y) = Some (x && y)

abbrev pub merged : Found Bool → Found Bool → Found Bool
merged u v = record { least = lesser u.least v.least; known = both_hold u.known v.known }

-- what a word of a list of fields names, and that it holds objects and has no definition
abbrev pub object_field : Word → StateEntry → Kind → Judged StateEntry
object_field w x kind = needs (is_obj kind && not x.is_defined) 30 w.place x

abbrev pub field_state : Declared → ℕ → Word → Judged StateEntry
field_state l c w = rule_27_field l c w >>= rule_30_field w

abbrev pub states_of : Declared → ℕ → Word → List (StateEntry × List ℕ)
states_of l c w = known_states w (rule_27_field l c w)

abbrev pub is_again : Declared → ℕ → Word → List Word → Bool
is_again l c w ws = option_map_or (λ x. list_any (same_state (x, own_name (text_of w))) (flat_map (states_of l c) ws)) (rule_27_field l c w).known false

abbrev pub fields_kind : Declared → ℕ → Place → List Word → Judged Kind
fields_kind l c q ws = both (each (field_state l c) ws) (needs_none (rule_30_list q ws (flat_map (states_of l c) ws))) >>= λ u. right k.Bool

-- the parts of an equation `x..f = y`
abbrev pub is_name : List ℕ → FormTree → Bool
is_name x (f.name q v) = same_text (text_of v) x
is_name x _ = false

abbrev pub read_word : List ℕ → FormTree → Option Word
read_word x (f.member q a w) = if is_name x a then Some w else None
read_word x _ = None

abbrev pub equation : List ℕ → List ℕ → FormTree → FormTree → Option (List Word)
equation x y a b = option_map_or (λ w. if is_name y b then Some (w ∷ []) else None) (read_word x a) None

abbrev pub is_or : SpecOp → Bool
is_or op.Or = true
is_or _ = false

abbrev pub is_equal : SpecOp → Bool
is_equal op.Equal = true
is_equal _ = false

-- the fields of two bodies that are joined by `|`
abbrev pub either_fields : Option (List Word) → Option (List Word) → Option (List Word)
either_fields e g = option_map_or (λ ws. option_map (λ vs. ws ++ vs) g) e None

-- what is gathered of a body: its words behind those that stand there, or nothing that is known
abbrev pub Gathered : Option (List Word) → List Word → List Word → Bool → Type 0
Gathered None old new good = good ≡ false
Gathered (Some ws) old new good = (good ≡ true) × (new ≡ old ++ ws)

-- the fields of a body of equations over its own two names
abbrev pub body_fields : List ℕ → List ℕ → FormTree → Option (List Word)
body_fields x y a = if same_text x y then None else equations x y a

abbrev pub path_fields : Declared → ℕ → Place → List ℕ → List ℕ → FormTree → Judged Kind
path_fields l c q x y a = rule_30_shape q (body_fields x y a) >>= fields_kind l c q

abbrev pub braces : Place → FormTrees → Bool → Judged Kind
braces q fs good = rule_28 good (first_place q fs) k.Set

-- the word of an equation as a list
abbrev pub listed_word : Option Word → Option (List Word)
listed_word o = option_map (λ w. w ∷ []) o

-- that a formula is a truth, at the place of its quote
abbrev pub truth_at : Place → Kind → Judged (Unit {0})
truth_at q kind = needs_none (broken 11 q (not (is_truth kind)))
