-- The frames of module code that a step leaves and enters: the frame's number, what its code was entered
-- for, and the instance whose code it is.
use Rattle.std.specs.Prelude.{ℕ, Bool, true, false, ◌==◌, nat_lt, List, [], ◌++◌, codes, length, Option, Some, None, if◌then◌else◌}
use Rattle.std.specs.Fmt.{decimal}
use Rattle.std.specs.List.{flat_map}
use Rattle.profile.specs.Digits.{hex_number}
use Rattle.instances_table.specs.Modules.{Module}
use Rattle.instances_table.specs.declared.plans.code.CodeKind.TheVariants.{Initialise, Finalise}
use Rattle.store_copies.specs.Frames.{innermost_frame}
use Rattle.debugger.specs.Frame.{Frame}
use Rattle.debugger.specs.FrameKind.{FrameKind}
use Rattle.debugger.specs.FrameKind.TheVariants.{Swi, Entry}
use Rattle.trace_store_text.specs.modules.Marks.{instance_marks}
use Rattle.trace_store_text.specs.declared.modules.marks.InstanceMark.{InstanceMark}

-- `SWI &40000`
abbrev pub kind_text : FrameKind → List ℕ
kind_text (Swi number) = codes "SWI &" ++ hex_number number
kind_text (Entry Initialise) = codes "Initialise"
kind_text (Entry Finalise) = codes "Finalise"

-- ` Low%Base`, of the instance that has a slot
unfoldable pub marked_name : InstanceMark → List ℕ
marked_name x = codes " " ++ (x.title.items ++ (codes "%" ++ x.name.items))

abbrev pub marked_name_if : ℕ → InstanceMark → List ℕ
marked_name_if slot x = if x.slot == slot then marked_name x else []

unfoldable pub instance_name_text : List Module → ℕ → List ℕ
instance_name_text modules slot = flat_map (marked_name_if slot) (instance_marks modules)

-- ` leaves frame 1 SWI &40000 Low%Base`
abbrev pub frame_word : List ℕ → ℕ → List Module → Option Frame → List ℕ
frame_word verb number modules None = []
frame_word verb number modules (Some frame) = verb ++ (decimal number ++ (codes " " ++ (kind_text frame.kind
    ++ instance_name_text modules frame.slot)))

-- by the modules before the step
abbrev pub left_word : Bool → ℕ → Option Frame → List Module → List ℕ
left_word true count innermost modules = frame_word (codes " leaves frame ") count modules innermost
left_word false count innermost modules = []

-- a frame is entered where more are open than were kept
abbrev pub entered_word : ℕ → List Frame → List Module → List ℕ
entered_word kept frames modules = if nat_lt kept (length frames)
    then frame_word (codes " enters frame ") (length frames) modules (innermost_frame frames) else []
