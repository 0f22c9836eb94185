use Rattle.std.proofs.Common.{ℕ, List, inr, subst}
use Rattle.jh_reply.specs.Causes.{FitsSource}
use Rattle.jh_words.specs.Held.{run_in}
use Rattle.jh_reply.proofs.Fitting.{earlier-source}
use Rattle.jh_reply.proofs.running.run_file.Goals as goal

-- src/running.rt
pub returns-in-Ok-clause-fits : goal.returns-in-Ok-clause-fits
returns-in-Ok-clause-fits g c =
    let fits = earlier-source (g.F.Files.holds c.args.files.now) (g.F.Files.holds c.get.new.self) (g.F.Files.faults c.args.files.now) (g.F.Files.faults c.get.new.self) (g.F.Files.faults c.run_bytes.new.files) c.get.ensures.held c.get.ensures.counted (run_in c.args.run.now) c.as_slice.result.now c.run_bytes.result c.run_bytes.ensures.fits in
    inr (
      c.in-Ok.bytes.items,
      c.in-Ok.ensures.ok,
      c.in-Ok.ensures.within,
      subst (λ (bytes : List ℕ). FitsSource (record { holds = g.F.Files.holds c.args.files.now; before = g.F.Files.faults c.args.files.now; after = g.F.Files.faults c.run_bytes.new.files }) (run_in c.args.run.now) bytes c.run_bytes.result) c.as_slice.ensures.value fits,
    )
