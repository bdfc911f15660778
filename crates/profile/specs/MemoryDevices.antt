-- Devices over memory: what they hold, how many bytes a call may take or give, how many calls are
-- left before they fail.
use Rattle.std.specs.Prelude.{ℕ, Bool, true, List, ◌-◌, ◌==◌, ◌||◌, ◌++◌, not, min, length, take, drop, if◌then◌else◌}

pub record SourceState : Type 0 where
  pub bytes : List ℕ
  pub most : ℕ
  pub calls : ℕ
  pub has_failed : Bool

abbrev pub source_after_fault : SourceState → SourceState
source_after_fault s = record s { has_failed = true }

-- a source: its bytes are those that it will still give
abbrev pub can_pull : SourceState → Bool
can_pull s = not (s.has_failed || (s.calls == 0))

abbrev pub pull_count : SourceState → ℕ → ℕ
pull_count s room = min (min s.most (length s.bytes)) room

abbrev pub source_after_pull : SourceState → ℕ → SourceState
source_after_pull s room = if can_pull s then record s {
  bytes = drop (pull_count s room) s.bytes;
  calls = s.calls - 1;
} else source_after_fault s

-- the buffer after a call: its front holds what was given, and the rest of it stays
abbrev pub buffer_after_pull : SourceState → List ℕ → List ℕ
buffer_after_pull s buffer = if can_pull s
    then take (pull_count s (length buffer)) s.bytes ++ drop (pull_count s (length buffer)) buffer
    else buffer

-- a sink: its bytes are those that it has taken, and its room is for so many
pub record SinkState : Type 0 where
  pub taken : List ℕ
  pub room : ℕ
  pub most : ℕ
  pub calls : ℕ
  pub has_failed : Bool

abbrev pub can_push : SinkState → Bool
can_push s = not (s.has_failed || (s.calls == 0) || (length s.taken == s.room))

abbrev pub push_count : SinkState → ℕ → ℕ
push_count s n = min (min s.most (s.room - length s.taken)) n

abbrev pub sink_after_push : SinkState → List ℕ → SinkState
sink_after_push s bytes = if can_push s then record s {
  taken = s.taken
      ++ take (push_count s (length bytes)) bytes;
  calls = s.calls - 1;
} else record s { has_failed = true }
