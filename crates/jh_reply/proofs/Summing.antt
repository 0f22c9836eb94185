-- A source that is made is never refused.
use Rattle.std.proofs.Common.{◌≡◌, ◌≤◌, ℕ, List, subst, string_bytes, inl, inr}
use Rattle.jh_ast.specs.Programs.{ProgramTree}
use Rattle.jh_gen.specs.Generated.{source}
use Rattle.jh_gen_laws.specs.program.Laws.{IsProgram, MadeIsProgram}
use Rattle.jh_gen_laws.specs.jh_obligations.program_sequents.Sources.{OwesMuch}
use Rattle.jh_words.specs.CommandLine.{Gen}
use Rattle.jh_reply.specs.Refusals.{Spells}
use Rattle.jh_reply.specs.declared.reply.Reply.{Reply}
use Rattle.jh_reply.specs.declared.reply.Reply.TheVariants as reply
use Rattle.jh_reply.specs.Causes.{FitsGen, FitsMade, IsCrowd, IsRefusal, by_loop, by_place, by_rule}
use Rattle.jh_reply.specs.Made.{made_source}
use Rattle.jh_reply.proofs.Verifying.{ill-spells, loop-spells, refused-parses, spells-one}

made-spells : (seed methods : ℕ) (m : IsProgram seed methods) → Spells (source seed methods) m.program
made-spells seed methods m = record {
  parsed = record { tokens = m.tokens; cut = m.cut; shallow = m.shallow; spelled = m.spelled };
  typed = m.typed;
  acyclic = m.acyclic;
}

never-refused : (bytes text : List ℕ) (p : ProgramTree) → Spells bytes p → IsRefusal bytes text → ⊥
never-refused bytes text p spells (by_place n place why is) = refused-parses bytes n place p why spells.parsed
never-refused bytes text p spells (by_rule rule place ill is) = ill-spells bytes rule place p ill spells
never-refused bytes text p spells (by_loop name loop is) = loop-spells bytes name p loop spells

module _ (program : MadeIsProgram) (g : Gen) (small : g.methods ≤ 200) where
  never-crowded : (p : ProgramTree) (text : List ℕ) → Spells (made_source g) p → IsCrowd p text → ⊥
  never-crowded p text spells crowd =
      let m = program g.seed g.methods small in
      m.few crowd.id crowd.n (subst (λ (t : ProgramTree). OwesMuch t crowd.id crowd.n) (spells-one (made_source g) p m.program spells (made-spells g.seed g.methods m)) crowd.much)

  -- so what is said of its bytes is a summary, or want of memory
  pub made-fits : (answer : Reply) → FitsMade g (made_source g) answer → FitsGen g answer
  made-fits (reply.Report line accepted) fits = elim fits [ inl none ↦ absurd none | inr there ↦ absurd there.2 ]
  made-fits (reply.Summed text accepted) fits = elim fits [ inl none ↦ absurd none | inr there ↦ there ]
  made-fits (reply.Ran line) fits = elim fits [ inl none ↦ absurd none | inr there ↦ absurd there.2 ]
  made-fits (reply.Line line status) fits = elim fits [
    | inl refusal ↦ absurd (never-refused (made_source g) (string_bytes line) (program g.seed g.methods small).program (made-spells g.seed g.methods (program g.seed g.methods small)) refusal.1)
    | inr there ↦ absurd (never-crowded there.0 (string_bytes line) there.1 there.2.1)
  ]
  made-fits (reply.Usage said) fits = elim fits [ inl none ↦ absurd none | inr there ↦ absurd there.2 ]
  made-fits reply.NoMemory fits = tt
