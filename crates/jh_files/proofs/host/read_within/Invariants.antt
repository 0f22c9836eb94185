use Rattle.std.proofs.Common.{◌≤◌, vec_len}
use Rattle.std.specs.Io.KnownBytes.{Consumes}
use Rattle.jh_files.proofs.host.read_within.Given as goal

-- the reader had what has come so far and what it still has, and no more than is wanted has come
abbrev pub invariant-loop : goal.invariant-loop
invariant-loop g l =
    record {
      within : vec_len l.bytes ≤ l.most;
      came : Consumes (g.F.Read.remaining l.fn.file) (g.F.Read.remaining l.file) l.bytes.items;
    }
