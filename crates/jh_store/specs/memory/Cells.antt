-- The values of one name, as lists.
use Rattle.std.specs.Prelude.{ℕ, zero, suc, ℤ, pos, Bool, false, List, [], ◌∷◌, get_or}
use Rattle.std.specs.declared.alloc.Global.{Global}
use Rattle.std.specs.declared.vec.Vec.{Vec}
use Rattle.jh_form.specs.Meaning.{Fields}

-- What a name has: a value at each sort, and as a field the values at the objects from 0 on, at each kind. A set is a list that says of
-- the objects from 0 on which are in it. Behind the end of a list stands null, 0, false or the empty set.
pub record Cells : Type 0 where
  pub object : ℕ
  pub number : ℤ
  pub truth : Bool
  pub set : List Bool
  pub objects : List ℕ
  pub numbers : List ℤ
  pub truths : List Bool
  pub sets : List (List Bool)

abbrev pub no_cells : Cells
no_cells = record { object = 0; number = pos 0; truth = false; set = []; objects = []; numbers = []; truths = []; sets = [] }

-- the items of a set among others
abbrev pub items_of : Vec Bool Global → List Bool
items_of row = row.items

-- the field that a name has
abbrev pub field_in : Cells → Fields
field_in c = record {
  objects = λ a. get_or c.objects a 0;
  numbers = λ a. get_or c.numbers a (pos 0);
  truths = λ a. get_or c.truths a false;
  sets = λ a b. get_or (get_or c.sets a []) b false;
}

-- a list with a value at a place; defaults stand between its end and that place
unfoldable pub put : {X : Type 0} → X → List X → ℕ → X → List X
put d [] zero v = v ∷ []
put d [] (suc i) v = d ∷ put d [] i v
put d (x ∷ xs) zero v = v ∷ xs
put d (x ∷ xs) (suc i) v = x ∷ put d xs i v
