-- How a scope changes.
use Rattle.std.specs.Prelude.{ℕ, true, List, [], ◌∷◌, Option, if◌then◌else◌}
use Rattle.jh_rules.specs.declared.entries.LocalEntry.{LocalEntry}
use Rattle.jh_rules.specs.declared.entries.Sorts.{Sorts}
use Rattle.jh_rules.specs.Words.{same_text}
use Rattle.jh_rules.specs.Scopes.{Scope}
use Rattle.jh_symbols.specs.declared.scopes.scope.Undo.{Undo}

-- a name stands for a local, or for none
abbrev pub with_local : Scope → List ℕ → Option LocalEntry → Scope
with_local s x entry = record {
  class = s.class;
  fixed = s.fixed;
  local = λ y. if same_text x y then entry else s.local y;
  earlier = s.earlier;
  labels = s.labels;
}

-- a name has declarations of these sorts
abbrev pub with_sorts : Scope → List ℕ → Sorts → Scope
with_sorts s x sorts = record {
  class = s.class;
  fixed = s.fixed;
  local = s.local;
  earlier = λ y. if same_text x y then sorts else s.earlier y;
  labels = s.labels;
}

-- one label more
abbrev pub with_label : Scope → List ℕ → Scope
with_label s x = record {
  class = s.class;
  fixed = s.fixed;
  local = s.local;
  earlier = s.earlier;
  labels = λ y. if same_text x y then true else s.labels y;
}

-- what a name stood for
abbrev pub undo : List ℕ → Option LocalEntry → Undo
undo x entry = record { name = x; before = entry }

-- the last of a list first, each name stands again for what it stood for before
unfoldable pub undone : Scope → List Undo → Scope
undone s [] = s
undone s (u ∷ us) = with_local (undone s us) u.name u.before
