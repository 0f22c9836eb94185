use Rattle.std.specs.Prelude.{ℕ, ◌≡◌, ◌==◌, ◌-◌, ◌||◌, min, Bool, false, List, [], ◌++◌, length, take, Option, None, Some, if◌then◌else◌}
use Rattle.jh_files.specs.Held.{bytes_of}
use Rattle.jh_files.specs.declared.sure.SureFiles.{SureFiles}
use Rattle.jh_files.specs.declared.sure.SureSink.{SureSink}

-- what files in memory hold under a name
abbrev pub sure_holds : SureFiles → List ℕ → Option (List ℕ)
sure_holds files name = Some (bytes_of files.held.items name)

-- what a sink that may go over its room tells: all that was written, and nothing once it went over
abbrev pub sure_written : SureSink → Option (List ℕ)
sure_written sink = if sink.over then None else Some sink.written.items

-- none of its calls fails
abbrev pub sure_faults : SureSink → ℕ
sure_faults sink = 0

-- how many bytes more there is room for
abbrev pub free_len : SureSink → ℕ
free_len sink = sink.room - length sink.written.items

-- the room is full
abbrev pub is_full : SureSink → Bool
is_full sink = free_len sink == 0

-- how much a put takes of a piece of so many bytes: as much as the piece and the sink's measure allow, and no more than there is room for where there is any
abbrev pub taken_len : SureSink → ℕ → ℕ
taken_len sink len = if is_full sink then min len sink.each else min (min len sink.each) (free_len sink)

-- how much of that it keeps: what there is room for
abbrev pub kept_len : SureSink → ℕ → ℕ
kept_len sink len = min (min len sink.each) (free_len sink)

-- a sink as it is made
pub record SureStarts (most piece : ℕ) (sink : SureSink) : Type 0 where
  pub written : sink.written.items ≡ []
  pub room : sink.room ≡ most
  pub each : sink.each ≡ piece
  pub over : sink.over ≡ false

-- a sink after a put: it went over just where it had before or the put found the room full
pub record SureAfter (old : SureSink) (piece : List ℕ) (new : SureSink) : Type 0 where
  pub written : new.written.items ≡ old.written.items ++ take (kept_len old (length piece)) piece
  pub room : new.room ≡ old.room
  pub each : new.each ≡ old.each
  pub over : new.over ≡ (old.over || is_full old)
