-- What is ready is prepared.
use Rattle.std.proofs.Common.{◌≡◌, sym, ap, subst, ◌∙◌, List, slice_get}
use Rattle.jh_name.specs.declared.naming.Name.{Name}
use Rattle.jh_arena.specs.table.Entries.{Listing}
use Rattle.jh_outline.specs.jh_method_commands.declared.environment.outline.Outline.{Outline}
use Rattle.jh_outline.specs.jh_method_commands.environment.Outlines.{program_in}
use Rattle.jh_exec.specs.jh_machine_code.code.Steps.{AreBodies}
use Rattle.jh_store.specs.state_pairs.Homes.{AreHomes}
use Rattle.jh_machine.specs.locals.Locals.{AreLocals}
use Rattle.jh_machine.specs.declared.machine.prepared.Prepared.{Prepared}
use Rattle.jh_exec.specs.frames.Frames.{IsPrepared}
use Rattle.jh_run.specs.declared.preparation.ready.Ready.{Ready}
use Rattle.jh_run.specs.preparation.Ready.{IsReady, numbered_by}

pub prepared-of : (o : Outline) (t : Listing) (r : Ready) (x : Prepared) (names : List Name) → IsReady o t r → x.table.now ≡ t → x.methods.now ≡ r.methods.items → x.homes.now ≡ r.homes.items → x.locals.now ≡ r.locals.items → x.names.now ≡ r.names → x.this ≡ r.this → x.all ≡ r.places.all → names ≡ r.names →
    IsPrepared (program_in o) (numbered_by o) x names
prepared-of o t r x names is table methods homes locals own this all same = record {
  bodies = subst (λ ns. AreBodies ns x.table.now (numbered_by o) x.methods.now (program_in o)) (sym same)
      (subst (λ u. AreBodies r.names u (numbered_by o) x.methods.now (program_in o)) (sym table) (subst (λ ms. AreBodies r.names t (numbered_by o) ms (program_in o)) (sym methods) is.bodies));
  known = same ∙ sym own;
  homes = subst (λ ns. AreHomes x.table.now.pools.names ns x.homes.now) (sym same) (subst (λ u. AreHomes u.pools.names r.names x.homes.now) (sym table) (subst (λ hs. AreHomes t.pools.names r.names hs) (sym homes) is.homes));
  locals = subst (λ ns. AreLocals ns x.locals.now) (sym same) (subst (λ ks. AreLocals r.names ks) (sym locals) is.locals);
  own = ap (λ ns. slice_get ns x.this) same ∙ ap (slice_get r.names) this ∙ is.this;
  all = ap (λ ns. slice_get ns x.all) same ∙ ap (slice_get r.names) all ∙ is.places.all;
}
