-- The first place of each name, and which words come behind it.
use Rattle.std.specs.Prelude.{ℕ, ◌&&◌, Bool, false, List, Option, Some, None, if◌then◌else◌}
use Rattle.indexmap.specs.IndexMap.{get_by_text}
use Rattle.jh_name.specs.declared.place.Place.{Place}
use Rattle.jh_ast.specs.declared.word.Word.{Word}
use Rattle.jh_rules.specs.Words.{same_text, text_of, is_before}
use Rattle.jh_symbols.specs.declared.scopes.firsts.Firsts.{Firsts}

abbrev pub first : Firsts → List ℕ → Option Place
first t x = get_by_text t.places x

abbrev pub earlier : Option Place → Place → Place
earlier None p = p
earlier (Some q) p = if is_before q p then q else p

abbrev pub with_word : Word → (List ℕ → Option Place) → List ℕ → Option Place
with_word w f x = if same_text (text_of w) x then Some (earlier (f (text_of w)) w.place) else f x

abbrev pub is_after : Option Place → Place → Bool
is_after None q = false
is_after (Some p) q = is_before p q

-- a word behind the first place of its name
abbrev pub is_behind : Firsts → Word → Bool
is_behind t w = is_after (first t (text_of w)) w.place

-- whether a word has the name of one that stands before it
abbrev pub is_named_before : Word → Word → Bool
is_named_before v w = same_text (text_of v) (text_of w) && is_before v.place w.place
