-- The lines of a heap text.
use Rattle.std.specs.Prelude.{ℕ, ℤ, ◌==◌, ◌&&◌, ◌-◌, not, nat_lt, take, drop, slice_index_or, Bool, true, false, if◌then◌else◌, List, [], ◌∷◌, length, Option, None, Some, option_map, codes}
use Rattle.std.specs.List.{list_any}
use Rattle.std.specs.Str.{is_utf8}
use Rattle.jh_heap.specs.lines.Bytes.{Cut, cut, same_bytes, is_empty, natural_of, integer_of, objects_of}

-- a value; whether a number is that of an object depends on what has it
pub data Value : Type 0 where
  number : ℤ → Value
  truth_value : Bool → Value
  objects : List ℕ → Value

-- The greatest object; the objects of a class; the value of a static, of a field at an object, of `this`, and of a parameter. Statics and
-- fields stand with their class and a dot.
pub data Line : Type 0 where
  universe : ℕ → Line
  class : List ℕ → List ℕ → Line
  static_value : List ℕ → Value → Line
  field_value : List ℕ → ℕ → Value → Line
  this : ℕ → Line
  argument : List ℕ → Value → Line

-- the name of a class or a parameter: a text without a dot
abbrev pub is_plain : List ℕ → Bool
is_plain name = not (is_empty name) && not (list_any (λ c. c == 46) name)

-- the name of a static or a field: two such texts and a dot between them
abbrev pub is_dotted_at : Option Cut → Bool
is_dotted_at None = false
is_dotted_at (Some x) = not (is_empty x.before) && is_plain x.behind

unfoldable pub is_dotted : List ℕ → Bool
is_dotted name = is_dotted_at (cut 46 name)

-- what stands before a closing brace at the end
abbrev pub inside : List ℕ → Option (List ℕ)
inside bytes = if slice_index_or bytes (length bytes - 1) 0 == 125 then Some (take (length bytes - 1) bytes) else None

unfoldable pub set_of : Option (List ℕ) → Option Value
set_of None = None
set_of (Some []) = Some (objects [])
set_of (Some (c ∷ cs)) = option_map objects (objects_of (c ∷ cs))

unfoldable pub scalar_of : List ℕ → Option Value
scalar_of bytes =
    if same_bytes bytes (codes "true") then Some (truth_value true)
    else (if same_bytes bytes (codes "false") then Some (truth_value false)
    else option_map number (integer_of bytes))

unfoldable pub value_of : List ℕ → Option Value
value_of bytes = if slice_index_or bytes 0 0 == 123 then set_of (inside (drop 1 bytes)) else scalar_of bytes

-- the greatest object is at most 255
unfoldable pub universe_of : List ℕ → Option Line
universe_of w = at_most (natural_of w)
  where
    at_most : Option ℕ → Option Line
    at_most None = None
    at_most (Some n) = if nat_lt n 256 then Some (universe n) else None

unfoldable pub class_from : Option Cut → Option Line
class_from None = None
class_from (Some x) = if is_plain x.before then option_map (class x.before) (objects_of x.behind) else None

unfoldable pub static_from : Option Cut → Option Line
static_from None = None
static_from (Some x) = if is_dotted x.before then option_map (static_value x.before) (value_of x.behind) else None

unfoldable pub value_at : List ℕ → Option Cut → Option Line
value_at f None = None
value_at f (Some x) = at (natural_of x.before)
  where
    at : Option ℕ → Option Line
    at None = None
    at (Some a) = option_map (field_value f a) (value_of x.behind)

unfoldable pub field_from : Option Cut → Option Line
field_from None = None
field_from (Some x) = if is_dotted x.before then value_at x.before (cut 32 x.behind) else None

unfoldable pub argument_from : Option Cut → Option Line
argument_from None = None
argument_from (Some x) = if is_plain x.before then option_map (argument x.before) (value_of x.behind) else None

-- the line of a first word and what stands behind it
unfoldable pub line_from : Option Cut → Option Line
line_from None = None
line_from (Some x) =
    if same_bytes x.before (codes "universe") then universe_of x.behind
    else (if same_bytes x.before (codes "class") then class_from (cut 32 x.behind)
    else (if same_bytes x.before (codes "static") then static_from (cut 32 x.behind)
    else (if same_bytes x.before (codes "field") then field_from (cut 32 x.behind)
    else (if same_bytes x.before (codes "this") then option_map this (natural_of x.behind)
    else (if same_bytes x.before (codes "arg") then argument_from (cut 32 x.behind) else None)))))

-- The line that bytes spell. Names are texts, so they are UTF-8.
unfoldable pub line_of : List ℕ → Option Line
line_of bytes = if is_utf8 bytes then line_from (cut 32 bytes) else None
