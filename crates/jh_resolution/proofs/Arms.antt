-- What each form of a formula resolves to, of what its parts do.
use Rattle.std.proofs.Common.{◌≡◌, refl, sym, ap, subst, ◌∙◌, ℕ, ℤ, List, [], ◌∷◌, length, slice_get, Option, Some, None, Result, IfOk}
use Rattle.jh_name.specs.declared.memory.NoMemory.{NoMemory}
use Rattle.jh_name.specs.declared.place.Place.{Place}
use Rattle.jh_ast.specs.declared.word.Word.{Word}
use Rattle.jh_ast.specs.declared.spec.SpecOp.{SpecOp}
use Rattle.jh_ast.specs.Forms.{FormTree, FormTrees}
use Rattle.jh_ast.specs.Forms as f
use Rattle.jh_form.specs.Tree.{ValueTree, of_object, of_number, of_truth, of_set}
use Rattle.jh_form.specs.Tree as t
use Rattle.jh_boxed.specs.Mapped.{mapped_value}
use Rattle.jh_arena.specs.table.Entries.{Listing, the_value}
use Rattle.jh_arena.specs.table.Growth.{Extends}
use Rattle.jh_arena.specs.table.Nodes.{nodes}
use Rattle.jh_symbols.specs.scopes.Lookings.{declared_by}
use Rattle.jh_vars.specs.Resolved.{resolved}
use Rattle.jh_vars.specs.Resolved as r
use Rattle.jh_resolution.specs.declared.context.Context.{Context}
use Rattle.jh_resolution.specs.declared.context.Spot as context
use Rattle.jh_resolution.specs.Meant.{AreHeld}
use Rattle.jh_resolution.specs.Spots.{spot_of, spelled_by, value_in, name_in, after_dots_in, fields_in, path_in, union_in, under_in}
use Rattle.jh_resolution.proofs.Meant.{meaning-grows}

pub made-as : (ts : List ValueTree) (a : Result ℕ NoMemory) (v w : ValueTree) → v ≡ w → IfOk a (λ n. slice_get ts n ≡ Some v) → IfOk a (λ n. slice_get ts n ≡ Some w)
made-as ts a v w e h = subst (λ (z : ValueTree). IfOk a (λ n. slice_get ts n ≡ Some z)) e h

value-known : (o : Option ValueTree) (v : ValueTree) → o ≡ Some v → the_value o ≡ v
unfolding the_value
value-known o v e = ap the_value e

module _ (x : Context) (at : context.Spot) where
  -- the value of a part, once the table has grown
  pub part-value : (l m : Listing) (n : ℕ) (b a : FormTree) → Extends l m → AreHeld (nodes l) x.meanings.now → b ≡ a → slice_get (nodes l) n ≡ Some (value_in (nodes l) x at b) → the_value (slice_get (nodes l) n) ≡ value_in (nodes m) x at a
  part-value l m n b a g held e is =
      value-known (slice_get (nodes l) n) (value_in (nodes l) x at b) is
      ∙ (λ i. resolved (declared_by x.lookups.now) (spelled_by x.classes.now) (sym (meaning-grows l m x.meanings.now g held) i) (e i) (spot_of at))

  pub under-value : (l m : Listing) (n : ℕ) (us ws : List Word) (b a : FormTree) → Extends l m → AreHeld (nodes l) x.meanings.now → us ≡ ws → b ≡ a → slice_get (nodes l) n ≡ Some (under_in (nodes l) x at us b) → the_value (slice_get (nodes l) n) ≡ under_in (nodes m) x at ws a
  under-value l m n us ws b a g held d e is =
      value-known (slice_get (nodes l) n) (under_in (nodes l) x at us b) is
      ∙ (λ i. resolved (declared_by x.lookups.now) (spelled_by x.classes.now) (sym (meaning-grows l m x.meanings.now g held) i) (e i) (r.under (spot_of at) (d i)))

  -- the value of the part before the last, of the table behind it
  pub part-stays : (l m : Listing) (n : ℕ) (a : FormTree) → Extends l m → slice_get (nodes l) n ≡ Some (value_in (nodes l) x at a) → slice_get (nodes m) n ≡ slice_get (nodes l) n
  part-stays l m n a g is = g.nodes.keeps n (value_in (nodes l) x at a) is ∙ sym is

  module _ (ts : List ValueTree) (p : Place) where
    pub arm-Null : of_object t.null ≡ value_in ts x at (f.null p)
    unfolding resolved
    arm-Null = refl

    pub arm-True : of_truth t.true_formula ≡ value_in ts x at (f.yes p)
    unfolding resolved
    arm-True = refl

    pub arm-False : of_truth t.false_formula ≡ value_in ts x at (f.no p)
    unfolding resolved
    arm-False = refl

    pub arm-Univ : of_set t.univ ≡ value_in ts x at (f.univ p)
    unfolding resolved
    arm-Univ = refl

    pub arm-Number : (z : ℤ) → of_number (t.const z) ≡ value_in ts x at (f.number p z)
    unfolding resolved
    arm-Number z = refl

    pub arm-Name : (w : Word) → name_in ts x at w ≡ value_in ts x at (f.name p w)
    unfolding resolved
    arm-Name w = refl

    pub arm-Member : (a : FormTree) (w : Word) → after_dots_in ts x at (r.as_object (value_in ts x at a)) w ≡ value_in ts x at (f.member p a w)
    unfolding resolved
    arm-Member a w = refl

    pub arm-Not : (a : FormTree) → of_truth (t.negation (r.as_truth (value_in ts x at a))) ≡ value_in ts x at (f.negation p a)
    unfolding resolved
    arm-Not a = refl

    pub arm-Minus : (a : FormTree) → r.opposite (value_in ts x at a) ≡ value_in ts x at (f.minus p a)
    unfolding resolved
    arm-Minus a = refl

    pub arm-Old : (a : FormTree) → mapped_value (value_in ts x at a) r.at_entry 0 ≡ value_in ts x at (f.old p a)
    unfolding resolved
    arm-Old a = refl

    pub arm-Card : (a : FormTree) → of_number (t.card (r.as_set (value_in ts x at a))) ≡ value_in ts x at (f.card p a)
    unfolding resolved
    arm-Card a = refl

    pub arm-Binary : (op : SpecOp) (a b : FormTree) → r.binary op (r.literal a) (value_in ts x at a) (r.literal b) (value_in ts x at b) ≡ value_in ts x at (f.binary p op a b)
    unfolding resolved
    arm-Binary op a b = refl

    pub arm-Dvd : (z : ℤ) (a : FormTree) → of_truth (t.divides z (r.as_number (value_in ts x at a))) ≡ value_in ts x at (f.dvd p z a)
    unfolding resolved
    arm-Dvd z a = refl

    pub arm-All : (ws : List Word) (a : FormTree) → of_truth (r.quantified t.all (length ws) (r.as_truth (under_in ts x at ws a))) ≡ value_in ts x at (f.all p ws a)
    unfolding resolved
    arm-All ws a = refl

    pub arm-Ex : (ws : List Word) (a : FormTree) → of_truth (r.quantified t.ex (length ws) (r.as_truth (under_in ts x at ws a))) ≡ value_in ts x at (f.ex p ws a)
    unfolding resolved
    arm-Ex ws a = refl

    pub arm-Tree : (ws : List Word) → of_truth (t.tree (fields_in x at ws)) ≡ value_in ts x at (f.tree p ws)
    unfolding resolved
    arm-Tree ws = refl

    pub arm-Rtrancl : (u v : Word) (body a b : FormTree) → of_truth (t.reach (path_in x at u v body) (r.as_object (value_in ts x at a)) (r.as_object (value_in ts x at b))) ≡ value_in ts x at (f.rtrancl p u v body a b)
    unfolding resolved
    arm-Rtrancl u v body a b = refl

    pub arm-Braces : (fs : FormTrees) → of_set (union_in ts x at fs None) ≡ value_in ts x at (f.braces p fs)
    unfolding resolved
    arm-Braces fs = refl

    pub arm-Compr : (w : Word) (a : FormTree) → of_set (t.compr (r.as_truth (under_in ts x at (w ∷ []) a))) ≡ value_in ts x at (f.compr p w a)
    unfolding resolved
    arm-Compr w a = refl
