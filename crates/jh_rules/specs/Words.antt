-- Names and places as tests.
use Rattle.std.specs.Prelude.{ℕ, ◌==◌, ◌&&◌, ◌||◌, nat_lt, nat_eq, Bool, List, [], ◌∷◌, Option, Some, None, option_map, if◌then◌else◌}
use Rattle.std.specs.List.{list_any}
use Rattle.std.specs.Cmp.Lexicographic.{pointwise}
use Rattle.jh_ast.specs.jh_name.declared.place.Place.{Place}
use Rattle.jh_ast.specs.declared.word.Word.{Word}

-- texts
abbrev pub same_text : List ℕ → List ℕ → Bool
same_text x y = pointwise nat_eq x y

abbrev pub is_one_of : List ℕ → List (List ℕ) → Bool
is_one_of x texts = list_any (same_text x) texts

abbrev pub text_of : Word → List ℕ
text_of w = w.text.text

abbrev pub is_before : Place → Place → Bool
is_before p q = nat_lt p.line q.line || ((p.line == q.line) && nat_lt p.column q.column)

-- a word whose text an earlier one of the list has
abbrev pub used_before : List Word → Word → Bool
used_before words w = list_any (λ v. same_text (text_of v) (text_of w) && is_before v.place w.place) words

-- the two halves of a qualified word
unfoldable pub halves : List ℕ → Option (List ℕ × List ℕ)
halves [] = None
halves (c ∷ cs) = if c == 46 then Some ([], cs) else option_map (λ p. (c ∷ p.0, p.1)) (halves cs)
