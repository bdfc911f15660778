-- The record of a moment, a step or a line that takes none: what it begins with; then fields that say nothing
-- of the core nor of words of memory; those that say all that differs of these; and again such that say
-- nothing of them. Whoever has the machine before, and replays what is read there, has the core and each word
-- of the machine after.
use Rattle.std.specs.Prelude.{◌≡◌, ℕ, ◌+◌, min, ◌-◌, ◌%◌, ◌<◌, ◌^◌, ◌==◌, nat_lt, Bool, true, false, is_some, List, [], ◌∷◌, ◌++◌, codes, Option, Some, None, IfSome}
use Rattle.std.specs.Fmt.{decimal}
use Rattle.profile.specs.images.Entries.{Entry}
use Rattle.debug_session.specs.Calls.{outside_called}
use Rattle.trace_json.specs.MachineState.{MachineState}
use Rattle.debug_session.specs.OutsideCall.{OutsideCall}
use Rattle.command_shell_lines.specs.declared.debug_words.stubs.Stub.{Stub}
use Rattle.debug_session.specs.Stubs.{stubbed_step}
use Rattle.trace_effects.specs.changes.Laws.{CoreChanges, core_after}
use Rattle.trace_effects.specs.declared.shown_words.words.ShownWord.{ShownWord}
use Rattle.trace_json.specs.CoreFields.{core_fields}
use Rattle.trace_json.specs.Fields.{entries}
use Rattle.trace_json.specs.Moments.{expected_at, words_of}
use Rattle.trace_json.specs.OtherFields.{are_others}
use Rattle.trace_json.specs.WordFields.{AreWordChanges, word_fields}
use Rattle.debug_records.specs.AnsweredLines.{step_number}

-- fields behind others
abbrev pub behind_fields : List ℕ → List ℕ
behind_fields [] = []
behind_fields (b ∷ rest) = codes "," ++ (b ∷ rest)

-- `{"step":3,"pc":32776` .. `,"regs":{"R0":3}` .. `}`
abbrev pub moment_text : List ℕ → List ℕ → List ℕ → List ℕ → List ℕ
moment_text head front changes rest = codes "{" ++ (head ++ (behind_fields front
    ++ (behind_fields changes ++ (behind_fields rest ++ codes "}\n"))))

abbrev pub IsRecordText : List ℕ → List ℕ → Type 0
IsRecordText wanted text = text ≡ wanted

-- where the core goes on is read under a name; if it isn't there, the core goes on where it was expected to
pub record IsMoment (head name : List ℕ) (expected : ℕ) (s t : MachineState) (text : List ℕ) : Type 0 where
  pub core : CoreChanges
  pub words : List ShownWord
  pub front : List ℕ
  pub rest : List ℕ
  pub front_others : are_others front ≡ true
  pub rest_others : are_others rest ≡ true
  pub whole : text ≡ moment_text head front (entries false (core_fields name core ++ word_fields words)) rest
  pub core_replays : core_after expected s.cpu core ≡ t.cpu
  pub words_replay : AreWordChanges (words_of s) (words_of t) words

-- STEPS

-- `"step":12`
abbrev pub step_head : ℕ → List ℕ
step_head number = codes "\"step\":" ++ decimal number

-- `,"pc":32776`, where the step is made
abbrev pub place_field : Option ℕ → List ℕ
place_field None = []
place_field (Some at) = codes ",\"pc\":" ++ decimal at

-- `"step":112,"skip":100`
abbrev pub skip_head : ℕ → ℕ → List ℕ
skip_head last count = codes "\"step\":" ++ (decimal last ++ (codes ",\"skip\":" ++ decimal count))

-- Registers, the status or the program counter were set, and nothing else.
pub record IsSet (s t : MachineState) : Type 0 where
  pub store : t.store ≡ s.store
  pub halt : t.halt ≡ s.halt

-- What a step makes of a machine: an instruction, a store call, the return gate, or what a stub does in
-- place of one; or a call from outside.
pub data IsStep (s t : MachineState) : Type 0 where
  of_machine : (stubs : List Stub) (images : List Entry) → t ≡ (stubbed_step stubs images s).now → IsStep s t
  of_caller : (images : List Entry) (call : OutsideCall) → t ≡ (outside_called images s call).now → IsStep s t

-- The record of a step. Before the first one of a line the core may be set, for a routine that is called,
-- and behind the last one, where that has come back; else the step alone is between the two machines.
pub record IsStepRecord (number : ℕ) (is_first is_last : Bool) (s t : MachineState) (text : List ℕ) : Type 0 where
  pub entered : MachineState
  pub left : MachineState
  pub enters : IsSet s entered
  pub step : IsStep entered left
  pub leaves : IsSet left t
  pub later : is_first ≡ false → entered ≡ s
  pub earlier : is_last ≡ false → t ≡ left
  pub place : Option ℕ
  pub there : IfSome place (λ at. at ≡ entered.cpu.pc)
  pub moment : IsMoment (step_head number ++ place_field place) (codes "next")
      (expected_at place s.cpu.pc (is_some t.halt)) s t text

-- those of so many steps of all that a line takes, where so many were taken before, from one machine to
-- another
pub data AreStepRecords (before taken : ℕ) : ℕ → MachineState → MachineState → List ℕ → Type 0 where
  no_steps : {s : MachineState} → AreStepRecords before taken 0 s s []
  then_step : {count : ℕ} {s t u : MachineState} {first : List ℕ} (text : List ℕ)
      → AreStepRecords before taken count s t first
      → IsStepRecord (step_number before (count + 1)) (count == 0) (count + 1 == taken) t u text
      → AreStepRecords before taken (count + 1) s u (first ++ text)

-- that of the steps past the limit, if there are some
abbrev pub IsRest : ℕ → ℕ → ℕ → MachineState → MachineState → List ℕ → Type 0
IsRest before limit taken s t = IsMoment (skip_head (step_number before taken) (taken - limit)) (codes "next")
    s.cpu.pc s t

abbrev pub IsRestIf : Bool → ℕ → ℕ → ℕ → MachineState → MachineState → List ℕ → Type 0
IsRestIf true before limit taken s t text = IsRest before limit taken s t text
IsRestIf false before limit taken s t text = (s ≡ t) × (text ≡ [])

-- those of all steps of a line
pub record AreSteps (before limit taken : ℕ) (s t : MachineState) (text : List ℕ) : Type 0 where
  pub middle : MachineState
  pub each : List ℕ
  pub rest : List ℕ
  pub one_by_one : AreStepRecords before taken (min limit taken) s middle each
  pub together : IsRestIf (nat_lt limit taken) before limit taken middle t rest
  pub whole : text ≡ each ++ rest

-- The same is read of two machines: the core, and each word of memory.
pub record IsAlike (s t : MachineState) : Type 0 where
  pub core : s.cpu ≡ t.cpu
  pub words : (a : ℕ) → a % 4 ≡ 0 → a < 2 ^ 26 → words_of s a ≡ words_of t a

-- The records of the steps that a session takes in a line. The steps are taken once more, on a machine that is
-- read as the session's before the line, and is so behind it.
pub record AreStepsOfLine (before limit taken : ℕ) (m m' : MachineState) (text : List ℕ) : Type 0 where
  pub first : MachineState
  pub last : MachineState
  pub starts : IsAlike first m
  pub steps : AreSteps before limit taken first last text
  pub ends : IsAlike last m'
