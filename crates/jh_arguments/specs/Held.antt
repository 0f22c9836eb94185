-- What the words in memory are made of.
use Rattle.std.specs.Prelude.{◌&&◌, not, Bool, true, List, [], ◌∷◌, map, option_map}
use Rattle.std.specs.Borrow.{Bor}
use Rattle.std.specs.List.{list_all, list_any}
use Rattle.jh_arguments.specs.Arguments.{Given, Parts, Setting, Shape, Word, dashed, end, named, plain, same_word, valued}
use Rattle.jh_arguments.specs.Reading.{Reader}
use Rattle.jh_arguments.specs.declared.reader.Given.{Given as HeldGiven}
use Rattle.jh_arguments.specs.declared.reader.Reader.{Reader as HeldReader}
use Rattle.jh_arguments.specs.declared.shape.Shape.{Shape as HeldShape}
use Rattle.jh_arguments.specs.declared.shape.Shape.TheVariants as shape
use Rattle.jh_arguments.specs.declared.setting.Setting.{Setting as HeldSetting}

abbrev pub shape_in : HeldShape → Shape
shape_in (shape.Named name) = named name.now
shape_in (shape.Valued name value) = valued name.now value.now
shape_in shape.End = end
shape_in shape.Dashed = dashed
shape_in shape.Plain = plain

abbrev pub given_in : HeldGiven → Given
given_in g = record { name = g.name.now; value = g.value.now }

abbrev pub reader_in : HeldReader → Reader
reader_in r = record { options = map given_in r.options.items; words = map (λ w. w.now) r.words.items; waiting = option_map (λ w. w.now) r.waiting; ended = r.ended }

abbrev pub parts_in : HeldReader → Parts
parts_in r = record { options = map given_in r.options.items; words = map (λ w. w.now) r.words.items }

abbrev pub setting_in : HeldSetting → Setting
setting_in s = record { name = s.name.now; least = s.least; most = s.most; default = s.default }

-- an option is among some that are given, a name among some names, and the names of all that are given are among them
abbrev pub has_in : Word → List HeldGiven → Bool
has_in name gs = list_any (λ g. same_word g.name.now name) gs

abbrev pub is_among_in : List (Bor Word) → Word → Bool
is_among_in names name = list_any (λ other. same_word name other.now) names

abbrev pub are_among_in : List (Bor Word) → List HeldGiven → Bool
are_among_in names gs = list_all (λ g. is_among_in names g.name.now) gs

-- none of these is given twice
abbrev pub are_once_in : List HeldGiven → Bool
are_once_in [] = true
are_once_in (g ∷ gs) = not (has_in g.name.now gs) && are_once_in gs
