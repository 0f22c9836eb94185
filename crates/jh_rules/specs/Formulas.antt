-- What is found of formulas.
use Rattle.std.specs.Prelude.{ℕ, ◌&&◌, ◌||◌, Bool, true, false, List, [], ◌∷◌, ◌++◌, map, Option, Some, None, is_some, option_map, codes, if◌then◌else◌}
use Rattle.std.specs.List.{flat_map, list_all}
use Rattle.std.specs.Option.{option_map_or}
use Rattle.jh_ast.specs.jh_name.declared.place.Place.{Place}
use Rattle.jh_ast.specs.jh_name.declared.place.Kind.{Kind}
use Rattle.jh_ast.specs.jh_name.declared.place.Kind.TheVariants as k
use Rattle.jh_ast.specs.declared.word.Word.{Word}
use Rattle.jh_ast.specs.declared.spec.SpecOp.{SpecOp}
use Rattle.jh_ast.specs.declared.spec.SpecOp.TheVariants as op
use Rattle.jh_ast.specs.Forms.{FormTree, FormTrees, SpecPart}
use Rattle.jh_ast.specs.Forms as f
use Rattle.jh_rules.specs.declared.fault.Fault.{Fault}
use Rattle.jh_rules.specs.Faults.{Judged, right, given, needs_none, both, pair_of, second_of, each, ◌>>=◌}
use Rattle.jh_rules.specs.Words.{same_text, is_one_of, text_of}
use Rattle.jh_rules.specs.Kinds.{kind_of, is_obj, is_number, is_truth, is_set, is_number_or_set, same_kind}
use Rattle.jh_rules.specs.declared.entries.StateEntry.{StateEntry}
use Rattle.jh_rules.specs.declared.entries.LocalEntry.{LocalEntry}
use Rattle.jh_rules.specs.Names.{Declared, state_spelled, own_name}
use Rattle.jh_rules.specs.Rules.{rule_11, rule_14, rule_27_name, rule_27_field, rule_28, rule_29_product, rule_29_dvd, rule_30_field, rule_30_shape, rule_30_list, rule_31_result, rule_31_old}

-- Where a formula stands: the class, whether there is a `this`, whether `old` may stand, the kind of
-- `result` where it may stand and has one, the parameters and locals in scope and the bound names.
pub record Where : Type 0 where
  pub class : ℕ
  pub has_this : Bool
  pub old : Bool
  pub result : Option (Option Kind)
  pub local : List ℕ → Option LocalEntry
  pub bound : List (List ℕ)

abbrev pub under : Where → List Word → Where
under at ws = record { class = at.class; has_this = at.has_this; old = at.old; result = at.result; local = at.local; bound = map text_of ws ++ at.bound }

abbrev pub in_old : Where → Where
in_old at = record { class = at.class; has_this = at.has_this; old = false; result = at.result; local = at.local; bound = at.bound }

-- the fields of a body of equations `x..f = y` joined by `|`
unfoldable pub equations : List ℕ → List ℕ → FormTree → Option (List Word)
equations x y (f.binary q op.Or a b) = option_map_or (λ ws. option_map (λ vs. ws ++ vs) (equations x y b)) (equations x y a) None
equations x y (f.binary q op.Equal (f.member r (f.name s u) w) (f.name t v)) = if same_text (text_of u) x && same_text (text_of v) y then Some (w ∷ []) else None
equations x y _ = None

-- the place of the first of a list
abbrev pub first_place : Place → FormTrees → Place
first_place q f.none = q
first_place q (f.more a fs) = f.place_of a

abbrev pub known_states : Word → Judged StateEntry → List (StateEntry × List ℕ)
known_states w j = option_map_or (λ x. (x, own_name (text_of w)) ∷ []) j.known []

module _ (l : Declared) where
  -- what a name is, in the order in which names are found
  abbrev pub state_kind : Where → Word → StateEntry → Judged Kind
  state_kind at w x = rule_14 (x.fixed || at.has_this) w.place x >>= λ y. given y.kind

  abbrev pub set_or_unknown : Word → Judged Kind
  set_or_unknown w = if is_some (l.class_named (text_of w)) then right k.Set else rule_27_name w

  abbrev pub outer_kind : Where → Word → Judged Kind
  outer_kind at w =
      if same_text (text_of w) (codes "this") then rule_14 at.has_this w.place k.Obj else
      if same_text (text_of w) (codes "result") then rule_31_result w.place at.result else
      if is_one_of (text_of w) (codes "alloc" ∷ codes "Object" ∷ codes "Object.alloc" ∷ []) then right k.Set else
      option_map_or (state_kind at w) (state_spelled l at.class (text_of w)) (set_or_unknown w)

  abbrev pub local_kind : LocalEntry → Judged Kind
  local_kind x = given (option_map kind_of x.ty)

  abbrev pub name_kind : Where → Word → Judged Kind
  name_kind at w =
      if is_one_of (text_of w) at.bound then right k.Obj else
      option_map_or local_kind (at.local (text_of w)) (outer_kind at w)

  -- a part that is to have one of some kinds
  abbrev pub one : (Kind → Bool) → FormTree → Judged Kind → Kind → Judged Kind
  one good a j kind = j >>= λ u. rule_28 (good u) (f.place_of a) kind

  abbrev pub two : (Kind → Bool) → (Kind → Bool) → FormTree → Judged Kind → Judged Kind → Kind → Judged Kind
  two left right a j m kind = both j m >>= λ u. rule_28 (left u.0 && right u.1) (f.place_of a) kind

  abbrev pub alike : FormTree → Judged Kind → Judged Kind → (Kind → Bool) → (Kind → Kind) → Judged Kind
  alike a j m good kind = both j m >>= λ u. rule_28 (same_kind u.0 u.1 && good u.0) (f.place_of a) (kind u.0)

  abbrev pub binary_kind : Place → SpecOp → FormTree → Judged Kind → FormTree → Judged Kind → Judged Kind
  binary_kind q op.Implies a j b m = two is_truth is_truth a j m k.Bool
  binary_kind q op.Or a j b m = two is_truth is_truth a j m k.Bool
  binary_kind q op.And a j b m = two is_truth is_truth a j m k.Bool
  binary_kind q op.Equal a j b m = alike a j m (λ u. true) (λ u. k.Bool)
  binary_kind q op.NotEqual a j b m = alike a j m (λ u. true) (λ u. k.Bool)
  binary_kind q op.Elem a j b m = two is_obj is_set a j m k.Bool
  binary_kind q op.NotElem a j b m = two is_obj is_set a j m k.Bool
  binary_kind q op.Less a j b m = two is_number is_number a j m k.Bool
  binary_kind q op.Greater a j b m = two is_number is_number a j m k.Bool
  binary_kind q op.LessEq a j b m = alike a j m is_number_or_set (λ u. k.Bool)
  binary_kind q op.GreaterEq a j b m = alike a j m is_number_or_set (λ u. k.Bool)
  binary_kind q op.Union a j b m = two is_set is_set a j m k.Set
  binary_kind q op.Inter a j b m = two is_set is_set a j m k.Set
  binary_kind q op.Add a j b m = two is_number is_number a j m k.Int
  binary_kind q op.Sub a j b m = alike a j m is_number_or_set (λ u. u)
  binary_kind q op.Mul a j b m = both (given (pair_of j.known m.known) >>= λ u. needs_none (rule_29_product q a b)) (two is_number is_number a j m k.Int) >>= λ u. right k.Int

  -- the fields of a list
  abbrev pub field_state : Where → Word → Judged StateEntry
  field_state at w = rule_27_field l at.class w >>= rule_30_field w

  abbrev pub fields_kind : Where → Place → List Word → Judged Kind
  fields_kind at q ws = both (each (field_state at) ws) (needs_none (rule_30_list q ws (flat_map (λ w. known_states w (rule_27_field l at.class w)) ws))) >>= λ u. right k.Bool

  unfoldable mutual
    pub form_kind : FormTree → Where → Judged Kind
    form_kind (f.null q) at = right k.Obj
    form_kind (f.yes q) at = right k.Bool
    form_kind (f.no q) at = right k.Bool
    form_kind (f.univ q) at = right k.Set
    form_kind (f.number q z) at = right k.Int
    form_kind (f.name q w) at = name_kind at w
    form_kind (f.member q a w) at = both (form_kind a at) (rule_27_field l at.class w) >>= λ u. rule_28 (is_obj u.0) (f.place_of a) k.Obj >>= λ v. given (second_of u).kind
    form_kind (f.negation q a) at = one is_truth a (form_kind a at) k.Bool
    form_kind (f.minus q a) at = form_kind a at >>= λ u. rule_28 (is_number_or_set u) (f.place_of a) u
    form_kind (f.old q a) at = both (rule_31_old at.old q) (form_kind a (in_old at)) >>= λ u. right (second_of u)
    form_kind (f.card q a) at = one is_set a (form_kind a at) k.Int
    form_kind (f.binary q o a b) at = binary_kind q o a (form_kind a at) b (form_kind b at)
    form_kind (f.dvd q z a) at = both (needs_none (rule_29_dvd q z)) (form_kind a at >>= λ u. rule_28 (is_number u) q k.Bool) >>= λ u. right k.Bool
    form_kind (f.all q ws a) at = one is_truth a (form_kind a (under at ws)) k.Bool
    form_kind (f.ex q ws a) at = one is_truth a (form_kind a (under at ws)) k.Bool
    form_kind (f.tree q ws) at = fields_kind at q ws
    form_kind (f.rtrancl q x y a b c) at =
        both (rule_30_shape q (if same_text (text_of x) (text_of y) then None else equations (text_of x) (text_of y) a) >>= fields_kind at q)
        (two is_obj is_obj b (form_kind b at) (form_kind c at) k.Bool) >>= λ u. right k.Bool
    form_kind (f.braces q fs) at = form_kinds fs at >>= λ us. rule_28 (list_all is_obj us) (first_place q fs) k.Set
    form_kind (f.compr q w a) at = one is_truth a (form_kind a (under at (w ∷ []))) k.Set

    pub form_kinds : FormTrees → Where → Judged (List Kind)
    form_kinds f.none at = right []
    form_kinds (f.more a fs) at = both (form_kind a at) (form_kinds fs at) >>= λ u. right (u.0 ∷ u.1)

  -- a formula that is to be a truth
  abbrev pub truth_faults : Where → SpecPart → List Fault
  truth_faults at spec = (form_kind spec.form at >>= λ u. needs_none (rule_11 spec u)).faults
