use Rattle.std.proofs.Common.{◌≡◌, ◌||◌, drop}
use Rattle.jh_ast.specs.Bare.{form_trees}
use Rattle.jh_definitions.specs.jh_resolution.Spots.{texts_of}
use Rattle.jh_vars.specs.Opened.{one_uses_this}
use Rattle.jh_unfolding.specs.unfolder.Adding.{program_of}
use Rattle.jh_unfolding.proofs.unfolder.this.+uses_this.Given as goal

-- one of those before or of the rest does where one of all does
abbrev pub invariant-one_uses-loop-form : goal.invariant-one_uses-loop-form
invariant-one_uses-loop-form l = l.found || one_uses_this (program_of l.at.context.now) (form_trees (drop l.form-index l.forms)) l.at.class (texts_of l.at.bound.now) ≡ one_uses_this (program_of l.at.context.now) (form_trees l.forms) l.at.class (texts_of l.at.bound.now)
