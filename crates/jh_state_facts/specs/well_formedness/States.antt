-- The state of a program as the code holds it, without memory.
use Rattle.std.specs.Prelude.{ℕ, List, map}
use Rattle.std.specs.Borrow.{Bor}
use Rattle.jh_semantics.specs.Code.{Text, Local}
use Rattle.jh_semantics.specs.Program as p
use Rattle.jh_semantics.specs.Program.{class_at}
use Rattle.jh_state_facts.specs.declared.well_formedness.state.Member.{Member}
use Rattle.jh_state_facts.specs.declared.well_formedness.state.Known.{Known}

-- a member, over the texts of the classes
abbrev pub member_in : List Text → Member → p.Member
member_in classes x = record { text = x.text; class = class_at classes x.class; kind = x.kind; is_static = x.is_static; type = x.ty }

abbrev pub members_in : List Text → List Member → List p.Member
members_in classes xs = map (member_in classes) xs

-- a parameter or local
abbrev pub local_of : Known → Local
local_of x = record { text = x.text.now; type = x.ty }

-- texts that are lent
abbrev pub texts_in : List (Bor (List ℕ)) → List Text
texts_in xs = map (λ x. x.now) xs
