-- Words that are read one by one, as the program does it. What it comes to is what `parts` of all words says.
use Rattle.std.specs.Prelude.{◌++◌, Bool, true, false, List, [], ◌∷◌, Option, None, Some, option_map, if◌then◌else◌}
use Rattle.jh_arguments.specs.Arguments.{Given, Parts, Shape, Word, begins_with_hyphen, dashed, end, given, named, parts_from, plain, shape, valued}

-- What was read so far: the options and the other words, the option whose value is the next word, and whether the options ended.
pub record Reader : Type 0 where
  pub options : List Given
  pub words : List Word
  pub waiting : Option Word
  pub ended : Bool

abbrev pub nothing_read : Reader
nothing_read = record { options = []; words = []; waiting = None; ended = false }

abbrev pub read_word : Word → Reader → Reader
read_word w r = record { options = r.options; words = r.words ++ w ∷ []; waiting = r.waiting; ended = r.ended }

abbrev pub read_option : Word → Word → Reader → Reader
read_option name value r = record { options = r.options ++ given name value ∷ []; words = r.words; waiting = None; ended = r.ended }

abbrev pub waiting_for : Word → Reader → Reader
waiting_for name r = record { options = r.options; words = r.words; waiting = Some name; ended = r.ended }

abbrev pub ended_by : Reader → Reader
ended_by r = record { options = r.options; words = r.words; waiting = r.waiting; ended = true }

-- one more word, where it may stand there
abbrev pub read_by : Shape → Word → Reader → Option Reader
read_by (named name) w r = Some (waiting_for name r)
read_by (valued name value) w r = Some (read_option name value r)
read_by end w r = Some (ended_by r)
read_by dashed w r = None
read_by plain w r = Some (read_word w r)

abbrev pub read_value : Bool → Word → Word → Reader → Option Reader
read_value true name w r = None
read_value false name w r = Some (read_option name w r)

abbrev pub read_waiting : Option Word → Word → Reader → Option Reader
read_waiting None w r = read_by (shape w) w r
read_waiting (Some name) w r = read_value (begins_with_hyphen w) name w r

abbrev pub read_one : Word → Reader → Option Reader
read_one w r = if r.ended then Some (read_word w r) else read_waiting r.waiting w r

-- parts behind those that were read
abbrev pub joined : Reader → Option Parts → Option Parts
joined r o = option_map (λ p. record { options = r.options ++ p.options; words = r.words ++ p.words }) o

abbrev pub parts_behind : Bool → List Word → Option Word → Option Parts
parts_behind true ws waiting = Some (record { options = []; words = ws })
parts_behind false ws waiting = parts_from ws waiting

-- what all words are made of, by what was read of them and the words that are left
abbrev pub resumed : Reader → List Word → Option Parts
resumed r ws = joined r (parts_behind r.ended ws r.waiting)

-- the same where a word may not have stood there
abbrev pub resumed_from : Option Reader → List Word → Option Parts
resumed_from None ws = None
resumed_from (Some r) ws = resumed r ws
