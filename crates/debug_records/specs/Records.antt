-- What is written of a debugging script: the first record, with the name of the script, the sizes of
-- its machine and its bounds; those of its lines; and the last, with how many lines EXPECT passed and
-- failed, how many lines and blocks were refused, and the exit status.
use Rattle.std.specs.Prelude.{◌≡◌, ℕ, List, ◌++◌, codes, Option}
use Rattle.std.specs.Fmt.{decimal}
use Rattle.std.specs.Io.KnownBytes.{Appends}
use Rattle.std.specs.Str.Lines.{lines}
use Rattle.profile.specs.images.Entries.{Entry}
use Rattle.profile.specs.Sizes.{Sizes}
use Rattle.trace_effects.specs.record_text.Spelling.{string_text}
use Rattle.debug_session.specs.DebugState.{DebugState}
use Rattle.debug_session.specs.ExitStatus.{debug_status}
use Rattle.debug_session.specs.declared.session.DebugSettings.{DebugSettings}
use Rattle.debug_records.specs.AnswerHeads.{line_counts}
use Rattle.debug_records.specs.LineRecords.{AreAllRecorded, IsRecord}
use Rattle.debug_records.specs.Recording.{recording_start}
use Rattle.debug_records.specs.declared.counts.LineCounts.{LineCounts}

-- `{"pages":64,"app":8,"rma":4}`
abbrev pub record_sizes : Sizes → List ℕ
record_sizes s = codes "{\"pages\":" ++ (decimal s.pages
    ++ (codes ",\"app\":" ++ (decimal s.app
    ++ (codes ",\"rma\":" ++ (decimal s.rma ++ codes "}")))))

-- `"start":1,"name":"bug","sizes":{"pages":64,"app":8,"rma":4},"budget":1000000,"limit":100000`
abbrev pub first_head : DebugSettings → List ℕ → List ℕ
first_head setting name = codes "\"start\":" ++ (decimal 1
    ++ (codes ",\"name\":" ++ (string_text name
    ++ (codes ",\"sizes\":" ++ (record_sizes setting.config
    ++ (codes ",\"budget\":" ++ (decimal setting.budget
    ++ (codes ",\"limit\":" ++ decimal 100000))))))))

-- `{"end":1,"passed":5,"failed":0,"refused":0,"status":0}`, and the end of its line
abbrev pub last_record : LineCounts → ℕ → List ℕ
last_record counts status = codes "{\"end\":" ++ (decimal 1
    ++ (codes ",\"passed\":" ++ (decimal counts.passed
    ++ (codes ",\"failed\":" ++ (decimal counts.failed
    ++ (codes ",\"refused\":" ++ (decimal counts.refused
    ++ (codes ",\"status\":" ++ (decimal status ++ codes "}\n")))))))))

-- the last record, of a script whose lines left such a state
pub record IsLastRecord (debug : DebugState) (status : ℕ) (text : List ℕ) : Type 0 where
  pub right : status ≡ debug_status debug
  pub whole : text ≡ last_record (line_counts debug) status

-- All was written, from the first record to the last, and nothing between them but the records of the
-- lines.
pub record HasAllRecords (setting : DebugSettings) (images : List Entry) (name script : List ℕ)
    (status : ℕ) (old new : Option (List ℕ)) : Type 0 where
  pub first : List ℕ
  pub between : List ℕ
  pub last : List ℕ
  pub debug : DebugState
  pub begins : IsRecord (first_head setting name) first
  pub lines_are : AreAllRecorded (recording_start setting images (lines script)) debug between
  pub ends : IsLastRecord debug status last
  pub adds : Appends old new (first ++ (between ++ last))
