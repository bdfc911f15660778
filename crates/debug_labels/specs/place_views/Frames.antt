-- Open frames of module code as text, the innermost first: the frame's number, what its code was
-- entered for, the instance whose code it is, where the call was made, in which mode, and R13 of
-- SVC as it was on entry (this project's own).
use Rattle.std.specs.Prelude.{ℕ, zero, suc, Bool, true, false, ◌-◌, ◌/◌, ◌%◌, ◌^◌, ◌==◌, ◌&&◌, ◌++◌, List, [], codes, length, Option, Some, None, Result, Ok, Err, slice_get, if◌then◌else◌}
use Rattle.std.specs.Fmt.{decimal}
use Rattle.std.specs.List.{flat_map}
use Rattle.profile.specs.Digits.{hex_number, hex_word}
use Rattle.profile.specs.SwiNames.{swi_of}
use Rattle.profile.specs.Fault.{Fault}
use Rattle.profile.specs.declared.swi.SwiName.{SwiName}
use Rattle.profile.specs.declared.swi.SwiName.TheVariants as swi
use Rattle.debugger.specs.Bytes.{Bytes, word_loaded}
use Rattle.profile.specs.Sums.{address_further}
use Rattle.debugger.specs.Modules.{one_text}
use Rattle.debugger.specs.Registers.{mode_text}
use Rattle.debugger.specs.InstancesTableModules.{Instance, Module}
use Rattle.debug_labels.specs.Labels.{ImageLabels}
use Rattle.debug_labels.specs.Places.{place_of}
use Rattle.debug_labels.specs.Views.{spaced_place_text}
use Rattle.debug_labels.specs.Words.{Naming}
use Rattle.debug_labels.specs.place_views.Places.{naming_on, where_text}
use Rattle.debugger.specs.CodeKind.TheVariants.{Initialise, Finalise}
use Rattle.debugger.specs.Frame.{Frame}
use Rattle.debugger.specs.FrameKind.{FrameKind}
use Rattle.debugger.specs.FrameKind.TheVariants.{Swi, Entry}
use Rattle.debugger.specs.MachineState.{MachineState}
use Rattle.debugger.specs.Step.{without_x}

-- `SWI &40000`
abbrev pub frame_kind_text : FrameKind → List ℕ
frame_kind_text (Swi number) = codes "SWI &" ++ hex_number number
frame_kind_text (Entry Initialise) = codes "Initialise"
frame_kind_text (Entry Finalise) = codes "Finalise"

-- ` Low%Base`, of the instance in a slot
abbrev pub full_name_text : List ℕ → List ℕ → List ℕ
full_name_text title name = codes " " ++ (title ++ (codes "%" ++ name))

abbrev pub full_name_if : ℕ → Module → Instance → List ℕ
full_name_if slot m i = if i.slot == slot then full_name_text m.header.title.items i.name else []

abbrev pub full_name_within : ℕ → Module → List ℕ
full_name_within slot m = flat_map (full_name_if slot m) m.instances

abbrev pub full_name_of_slot : ℕ → List Module → List ℕ
full_name_of_slot slot modules = flat_map (full_name_within slot) modules

-- of the instance of a number in a module, if it is that one
abbrev pub full_name_at : ℕ → ℕ → Option Module → List ℕ
full_name_at slot n None = []
full_name_at slot n (Some m) = one_text (full_name_if slot m) (slice_get m.instances n)

-- whether a call is the one by which code was entered: the module's SWI, or OS_Module
abbrev pub is_os_module : Option SwiName → Bool
is_os_module (Some swi.Module) = true
is_os_module _ = false

abbrev pub calls_entered : FrameKind → ℕ → Bool
calls_entered (Swi entered) number = number == entered
calls_entered (Entry kind) number = is_os_module (swi_of number)

-- whether a word is an instruction that makes that call, with the X bit or without it
abbrev pub is_call_entered : FrameKind → Result ℕ Fault → Bool
is_call_entered kind (Ok word) = word / 2 ^ 24 % 16 == 15 && calls_entered kind (without_x (word % 2 ^ 24))
is_call_entered kind (Err fault) = false

-- Where a call was made: at the instruction before the one to which it goes back, if that makes
-- this call; else it was made from outside.
abbrev pub caller_address : Frame → ℕ
caller_address f = address_further f.call.next (2 ^ 32 - 4)

abbrev pub is_called_by_instruction : Bytes → Frame → Bool
is_called_by_instruction b f = is_call_entered f.kind (word_loaded b (caller_address f))

-- `1800074 high:swi+4`
abbrev pub named_address_text : Naming → ℕ → List ℕ
named_address_text n address = hex_number address ++ spaced_place_text (place_of n address)

-- ` called at &1800074 high:swi+4`
abbrev pub called_at_text : Naming → ℕ → List ℕ
called_at_text n address = codes " called at &" ++ named_address_text n address

abbrev pub caller_text : Naming → Bytes → Frame → List ℕ
caller_text n b f = if is_called_by_instruction b f then called_at_text n (caller_address f)
    else codes " called from outside"

abbrev pub frame_number_text : ℕ → List ℕ
frame_number_text number = codes "frame " ++ (decimal number ++ codes " ")

-- ` in SVC, R13_svc 01C01FFC`
abbrev pub entry_text : Frame → List ℕ
entry_text f = codes " in " ++ (mode_text f.call.caller.mode ++
    (codes ", R13_svc " ++ (hex_word f.stack ++ codes "\n")))

-- `frame 2 SWI &40000 Low%Base called at &1800074 high:swi+4 in SVC, R13_svc 01C01FFC`
abbrev pub frame_line : Naming → List Module → Bytes → ℕ → Frame → List ℕ
frame_line n modules b number f =
    frame_number_text number ++ (frame_kind_text f.kind ++ (full_name_of_slot f.slot modules
    ++ (caller_text n b f ++ entry_text f)))

-- frames are numbered from 1 on, the outermost first
abbrev pub open_frame_numbered : ℕ → List Frame → Option Frame
open_frame_numbered zero frames = None
open_frame_numbered (suc number) frames = slice_get frames number

abbrev pub frame_text : Naming → MachineState → ℕ → List ℕ
frame_text n s number =
    one_text (frame_line n s.tables.modules s.store.bytes number) (open_frame_numbered number s.tables.frames)

-- so many frames, the first of them last
unfoldable pub frame_lines : Naming → MachineState → ℕ → List ℕ
frame_lines n s zero = []
frame_lines n s (suc number) = frame_text n s (suc number) ++ frame_lines n s number

-- where the machine stands, and all open frames
abbrev pub frames_text : List ImageLabels → MachineState → List ℕ
frames_text labels s = where_text labels s ++ frame_lines (naming_on labels s) s (length s.tables.frames)
