-- The backbones of the program's type, as trees.
use Rattle.std.specs.Prelude.{List, [], ◌∷◌, map, Option, Some, None}
use Rattle.jh_name.specs.declared.naming.Name.{Name}
use Rattle.jh_form.specs.Tree.{FieldTree, free_field}
use Rattle.jh_form.specs.Bare.{term_tree}
use Rattle.jh_reach.specs.declared.reaching.Backbone.{Backbone}
use Rattle.jh_reach.specs.declared.reaching.NameBase.{NameBase}
use Rattle.jh_reach.specs.Axioms.{BaseTree, BackboneTree}

abbrev pub named_fields : List Name → List FieldTree
named_fields names = map (λ x. free_field x) names

unfoldable pub base_tree : Option NameBase → Option BaseTree
base_tree None = None
base_tree (Some b) = Some (record { place = b.place; field = free_field b.field; at = term_tree b.at; value = term_tree b.value })

abbrev pub backbone_tree : Backbone → BackboneTree
backbone_tree b = record { fields = named_fields b.fields; base = base_tree b.base }
