-- Whether a name, and a formula of a given form, uses `this`.
use Rattle.std.proofs.Common.{◌≡◌, refl, sym, ap, ◌∙◌, ℕ, ◌+◌, ◌<◌, ◌≤◌, ◌||◌, not, Bool, true, false, List, length, drop, get_or, Option, Some, None, option_map, Result, Ok, Err, IfOk, if◌then◌else◌}
use Rattle.std.specs.Option.{option_map_or}
use Rattle.std.proofs.lemmas.List.{drop_all}
use Rattle.jh_name.specs.declared.memory.NoMemory.{NoMemory}
use Rattle.jh_ast.specs.declared.spec.SpecTree.{SpecTree}
use Rattle.jh_ast.specs.Bare.{form_tree, form_trees}
use Rattle.jh_ast.specs.Programs.{ProgramTree}
use Rattle.jh_rules.specs.declared.entries.StateEntry.{StateEntry}
use Rattle.jh_symbols.proofs.scopes.Lists.{drop-at}
use Rattle.jh_vars.specs.States.{called}
use Rattle.jh_vars.specs.Opened.{is_of_object, uses_this, one_uses_this}

-- a piece of state that a word spells is of an object where what is declared is
pub called-is : (p : ProgramTree) (x : List ℕ) (o : Option StateEntry) → option_map_or (λ (s : StateEntry). not s.fixed) o false ≡ is_of_object p (option_map (called x) o)
called-is p x None = refl
called-is p x (Some s) = refl

pub name-is : (a b c r s : Bool) → a ≡ false → b ≡ false → c ≡ false → r ≡ s → r ≡ (if a then false else if b then true else if c then false else s)
name-is a b c r s f g h e = e ∙ sym (λ i. if f i then false else if g i then true else if h i then false else s)

pub if-as : (r : Result Bool NoMemory) (x y : Bool) → x ≡ y → IfOk r (λ u. u ≡ x) → IfOk r (λ u. u ≡ y)
if-as (Ok v) x y e h = h ∙ e
if-as (Err e) x y k h = h

or-assoc : (a b c : Bool) → (a || b) || c ≡ a || (b || c)
or-assoc true b c = refl
or-assoc false b c = refl

or-false : (a : Bool) → a || false ≡ a
or-false true = refl
or-false false = refl

module _ (p : ProgramTree) (fs : List SpecTree) (n : ℕ) (bound : List (List ℕ)) where
  -- one more formula of a list
  pub one-next : (found new next : Bool) (j : ℕ) (a : SpecTree) → j < length fs → a ≡ get_or fs j a → next ≡ uses_this p (form_tree a) n bound → new ≡ found || next →
      new || one_uses_this p (form_trees (drop (j + 1) fs)) n bound ≡ found || one_uses_this p (form_trees (drop j fs)) n bound
  unfolding uses_this
  one-next found new next j a lt is e h =
      ap (λ b. b || one_uses_this p (form_trees (drop (j + 1) fs)) n bound) (h ∙ ap (λ b. found || b) e)
      ∙ or-assoc found (uses_this p (form_tree a) n bound) (one_uses_this p (form_trees (drop (j + 1) fs)) n bound)
      ∙ ap (λ us. found || one_uses_this p (form_trees us) n bound) (sym (drop-at fs j a lt is))

  -- none is left
  pub one-end : (found : Bool) (j : ℕ) → length fs ≤ j → found || one_uses_this p (form_trees (drop j fs)) n bound ≡ found
  unfolding uses_this
  one-end found j le = ap (λ us. found || one_uses_this p (form_trees us) n bound) (drop_all j fs le) ∙ or-false found
