use Rattle.std.specs.Prelude.{Bool, ◌==◌, ◌&&◌, nat_eq}
use Rattle.std.specs.Cmp.Lexicographic.{pointwise}
use Rattle.jh_name.specs.declared.naming.Name.{Name}

-- whether two names are one, as a test
abbrev pub same_name : Name → Name → Bool
same_name x y = (x.turn == y.turn) && pointwise nat_eq x.text y.text
