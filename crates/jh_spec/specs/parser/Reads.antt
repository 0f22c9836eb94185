-- What the readers of formulas answer, seen as trees.
use Rattle.std.specs.Prelude.{ℕ, Option, Result, List, [], ◌∷◌}
use Rattle.std.specs.declared.alloc.Global.{Global}
use Rattle.std.specs.declared.boxed.Box.{Box}
use Rattle.jh_name.specs.declared.place.Place.{Place}
use Rattle.jh_ast.specs.declared.spec.SpecTree.{SpecTree}
use Rattle.jh_ast.specs.declared.word.Word.{Word}
use Rattle.jh_ast.specs.Bare.{form_tree}
use Rattle.jh_ast.specs.Forms.{FormTree, FormTrees}
use Rattle.jh_ast.specs.Forms as form
use Rattle.jh_operators.specs.declared.lookahead.error.ReadError.{ReadError}
use Rattle.jh_operators.specs.lookahead.Answers.{Gives}
use Rattle.jh_spec.specs.declared.parser.formulas.Binder.{Binder}
use Rattle.jh_spec.specs.declared.parser.formulas.Binder.TheVariants as binder
use Rattle.jh_spec.specs.declared.parser.formulas.Sign.{Sign}
use Rattle.jh_spec.specs.declared.parser.formulas.Sign.TheVariants as sign

-- these trees, and then the rest
abbrev pub before : List SpecTree → FormTrees → FormTrees
before [] rest = rest
before (t ∷ ts) rest = form.more (form_tree t) (before ts rest)

-- the answer is a tree and the place after it
abbrev pub GivesForm : Option (FormTree × ℕ) → Result (SpecTree × ℕ) ReadError → Type 0
GivesForm wanted result = Gives (λ r. (form_tree r.0, r.1)) wanted result

-- likewise a tree in a box
abbrev pub GivesBoxed : Option (FormTree × ℕ) → Result (Box SpecTree Global × ℕ) ReadError → Type 0
GivesBoxed wanted result = Gives (λ r. (form_tree r.0.value, r.1)) wanted result

-- the tree of a quantifier
abbrev pub bound_by : Binder → Place → List Word → FormTree → FormTree
bound_by binder.All = form.all
bound_by binder.Ex = form.ex

-- the tree of a sign before an operand
abbrev pub signed_by : Sign → Place → FormTree → FormTree
signed_by sign.Minus = form.minus
signed_by sign.Old = form.old
signed_by sign.Card = form.card

-- the answer is the place after the words, which are then these
abbrev pub GivesWords : List Word → Option (List Word × ℕ) → Result ℕ ReadError → Type 0
GivesWords made wanted result = Gives (λ next. (made, next)) wanted result

-- likewise the formulas
abbrev pub GivesForms : FormTrees → Option (FormTrees × ℕ) → Result ℕ ReadError → Type 0
GivesForms made wanted result = Gives (λ next. (made, next)) wanted result
