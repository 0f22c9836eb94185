-- What holds of the places in every program that was read from a text: no two classes have their names at one place, and no two members
-- of a class have theirs at one. The rules tell names that are used before by their places alone.
use Rattle.std.specs.Prelude.{◌≡◌, ℕ, Some, slice_get}
use Rattle.std.specs.List.{Contains}
use Rattle.jh_ast.specs.Programs.{ProgramTree, ClassPart}
use Rattle.jh_rules.specs.Names.{MemberPart, member_word, members_of}

pub record IsPlaced (p : ProgramTree) : Type 0 where
  pub classes : (i j : ℕ) (c d : ClassPart) → slice_get p.classes i ≡ Some c → slice_get p.classes j ≡ Some d → c.name.place ≡ d.name.place → i ≡ j
  pub members : (c : ClassPart) → Contains p.classes c → (a b : MemberPart) → Contains (members_of c) a → Contains (members_of c) b → (member_word a).place ≡ (member_word b).place → a ≡ b
