-- Formulas of a source without memory, each with the place of its first token.
use Rattle.std.specs.Prelude.{ℕ, ℤ, List, Option}
use Rattle.jh_name.specs.declared.place.Place.{Place}
use Rattle.jh_ast.specs.declared.word.Word.{Word}
use Rattle.jh_ast.specs.declared.spec.SpecOp.{SpecOp}

mutual
  pub data FormTree : Type 0 where
    null : Place → FormTree
    yes : Place → FormTree
    no : Place → FormTree
    univ : Place → FormTree
    number : Place → ℤ → FormTree
    name : Place → Word → FormTree
    member : Place → FormTree → Word → FormTree
    negation : Place → FormTree → FormTree
    minus : Place → FormTree → FormTree
    old : Place → FormTree → FormTree
    card : Place → FormTree → FormTree
    binary : Place → SpecOp → FormTree → FormTree → FormTree
    dvd : Place → ℤ → FormTree → FormTree
    all : Place → List Word → FormTree → FormTree
    ex : Place → List Word → FormTree → FormTree
    tree : Place → List Word → FormTree
    rtrancl : Place → Word → Word → FormTree → FormTree → FormTree → FormTree
    braces : Place → FormTrees → FormTree
    compr : Place → Word → FormTree → FormTree

  pub data FormTrees : Type 0 where
    none : FormTrees
    more : FormTree → FormTrees → FormTrees

abbrev pub place_of : FormTree → Place
place_of (null p) = p
place_of (yes p) = p
place_of (no p) = p
place_of (univ p) = p
place_of (number p z) = p
place_of (name p w) = p
place_of (member p a w) = p
place_of (negation p a) = p
place_of (minus p a) = p
place_of (old p a) = p
place_of (card p a) = p
place_of (binary p op a b) = p
place_of (dvd p z a) = p
place_of (all p ws a) = p
place_of (ex p ws a) = p
place_of (tree p ws) = p
place_of (rtrancl p x y a b c) = p
place_of (braces p fs) = p
place_of (compr p x a) = p

-- the same formula at another place: what stands in brackets is the inside at the place of the bracket
abbrev pub moved : Place → FormTree → FormTree
moved p (null q) = null p
moved p (yes q) = yes p
moved p (no q) = no p
moved p (univ q) = univ p
moved p (number q z) = number p z
moved p (name q w) = name p w
moved p (member q a w) = member p a w
moved p (negation q a) = negation p a
moved p (minus q a) = minus p a
moved p (old q a) = old p a
moved p (card q a) = card p a
moved p (binary q op a b) = binary p op a b
moved p (dvd q z a) = dvd p z a
moved p (all q ws a) = all p ws a
moved p (ex q ws a) = ex p ws a
moved p (tree q ws) = tree p ws
moved p (rtrancl q x y a b c) = rtrancl p x y a b c
moved p (braces q fs) = braces p fs
moved p (compr q x a) = compr p x a

-- the formula of the file in quotes, with the place of the opening quote and its number
pub record SpecPart : Type 0 where
  pub place : Place
  pub number : ℕ
  pub form : FormTree

-- a formula with its label and the names of the facts that it follows from
pub record LabelledPart : Type 0 where
  pub label : Option Word
  pub spec : SpecPart
  pub from : List Word
