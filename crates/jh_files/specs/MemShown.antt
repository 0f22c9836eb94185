use Rattle.std.specs.Prelude.{ℕ, ◌≡◌, ◌==◌, ◌+◌, ◌-◌, ◌^◌, ◌||◌, true, min, List, [], ◌++◌, length, take, if◌then◌else◌, Option, Some, Bool, false, is_none, Result, Ok, Err, String, Vec}
use Rattle.std.specs.List.{list_any}
use Rattle.std.specs.declared.alloc.Global.{Global}
use Rattle.jh_files.specs.Held.{bytes_of, found}
use Rattle.jh_files.specs.declared.fault.FileFault.{FileFault}
use Rattle.jh_files.specs.declared.fault.FileFault.TheVariants.{Failed, TooLong, Memory}
use Rattle.jh_files.specs.declared.mem.MemFiles.{MemFiles}
use Rattle.jh_files.specs.declared.mem.MemSink.{MemSink}

-- the number of the call after so many calls, which stays at the greatest number that it can be
abbrev pub next_call : ℕ → ℕ
next_call calls = min (calls + 1) (2 ^ 64 - 1)

-- what files in memory hold under a name
abbrev pub mem_holds : MemFiles → List ℕ → Option (List ℕ)
mem_holds files name = Some (bytes_of files.held.items name)

abbrev pub mem_faults : MemFiles → ℕ
mem_faults files = files.failed

-- the next call is to fail: its number is listed, or nothing is held under the name
abbrev pub fails_get : MemFiles → List ℕ → Bool
fails_get files name = list_any (λ n. n == next_call files.calls) files.failing.items || is_none (found files.held.items name)

-- the answer says that the call failed
abbrev pub is_failed : {X : Type 0} → Result X FileFault → Bool
is_failed (Ok bytes) = false
is_failed (Err Failed) = true
is_failed (Err (TooLong seen)) = false
is_failed (Err Memory) = false

-- files as they are made
pub record FilesStart (files : MemFiles) (entries : List (String Global × Vec ℕ Global)) (numbers : List ℕ) : Type 0 where
  pub held : files.held.items ≡ entries
  pub failing : files.failing.items ≡ numbers
  pub calls : files.calls ≡ 0
  pub failed : files.failed ≡ 0

-- a count of faults after a call that fails or doesn't, which stays at the greatest number that it can be
abbrev pub failed_after : Bool → ℕ → ℕ
failed_after fails failed = if fails then min (failed + 1) (2 ^ 64 - 1) else failed

-- files after a call for a name: they hold what they held, one call more was made, and one more failed where it was to fail
pub record FilesAfter (old : MemFiles) (name : List ℕ) (new : MemFiles) : Type 0 where
  pub held : new.held.items ≡ old.held.items
  pub failing : new.failing.items ≡ old.failing.items
  pub calls : new.calls ≡ next_call old.calls
  pub failed : new.failed ≡ failed_after (fails_get old name) old.failed

-- what a sink in memory has taken
abbrev pub mem_written : MemSink → Option (List ℕ)
mem_written sink = Some sink.written.items

abbrev pub sink_faults : MemSink → ℕ
sink_faults sink = sink.failed

-- the next put is to fail: its number is listed, or the room is full
abbrev pub fails_put : MemSink → Bool
fails_put sink = list_any (λ n. n == next_call sink.calls) sink.failing.items || (sink.room - length sink.written.items) == 0

-- how much a put that doesn't fail takes of a piece of so many bytes
abbrev pub piece_len : MemSink → ℕ → ℕ
piece_len sink len = min (min len sink.each) (sink.room - length sink.written.items)

-- a sink as it is made
pub record SinkStarts (most piece : ℕ) (numbers : List ℕ) (sink : MemSink) : Type 0 where
  pub written : mem_written sink ≡ Some []
  pub room : sink.room ≡ most
  pub each : sink.each ≡ piece
  pub failing : sink.failing.items ≡ numbers
  pub calls : sink.calls ≡ 0
  pub failed : sink.failed ≡ 0

-- a sink after a put: what it took of the piece was appended, one call more was made, and one more failed where it was to fail
pub record SinkAfter (old : MemSink) (piece : List ℕ) (new : MemSink) : Type 0 where
  pub written : new.written.items ≡ (if fails_put old then old.written.items else old.written.items ++ take (piece_len old (length piece)) piece)
  pub room : new.room ≡ old.room
  pub each : new.each ≡ old.each
  pub failing : new.failing.items ≡ old.failing.items
  pub calls : new.calls ≡ next_call old.calls
  pub failed : new.failed ≡ failed_after (fails_put old) old.failed
