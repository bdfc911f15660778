-- Errors and stops as words: the number of an error, and its name where it is one of the store calls'.
use Rattle.std.specs.Prelude.{ℕ, ◌==◌, List, [], ◌∷◌, ◌++◌, codes, Option, Some, None, if◌then◌else◌}
use Rattle.std.specs.Fmt.{decimal}
use Rattle.profile.specs.ErrorNames.{error_code, error_name}
use Rattle.profile.specs.FaultNames.{fault_name}
use Rattle.profile.specs.ErrorNumber.{ErrorNumber}
use Rattle.profile.specs.ErrorNumber.TheVariants.{HeapBadReason, HeapBadDesc, HeapBadRegion, HeapOverlaps, HeapTableFull, HeapNotABlock, HeapHoldsAnchor, HeapBadShrink, HeapNoRoom, BlockHoldsHeap, AreaBadReason, AreaUnknown, AreaBad, AreaTaken, AreaTableFull, AreaInUse, AreaNoPages, RmaNotABlock, RmaHoldsAnchor, RmaNoRoom, RmaBlockHoldsHeap, ModuleBadHeader, ModuleBadReason, ModuleNotFound, ImageUnknown, InstanceExists, InstanceTableFull, ModuleBusy, FrameLimit, FlexNotReady, FlexAlready, FlexBadRange, FlexBadAnchor, FlexAnchorInUse, FlexHoldsAnchor, SwiUnknown, BadString, BadPointer}
use Rattle.profile.specs.Fault.{Fault}
use Rattle.profile.specs.Fault.TheVariants.{ErrorStop}
use Rattle.profile.specs.declared.stop.Stop.{Stop}
use Rattle.profile.specs.declared.stop.Stop.TheVariants as stop

-- the errors of all store calls, by their numbers
unfoldable pub numbered_errors : List ErrorNumber
numbered_errors = HeapBadReason ∷ HeapBadDesc ∷ HeapBadRegion ∷ HeapOverlaps ∷ HeapTableFull ∷ HeapNotABlock
    ∷ HeapHoldsAnchor ∷ HeapBadShrink ∷ HeapNoRoom ∷ BlockHoldsHeap ∷ AreaBadReason ∷ AreaUnknown ∷ AreaBad
    ∷ AreaTaken ∷ AreaTableFull ∷ AreaInUse ∷ AreaNoPages ∷ RmaNotABlock ∷ RmaHoldsAnchor ∷ RmaNoRoom
    ∷ RmaBlockHoldsHeap ∷ ModuleBadHeader ∷ ModuleBadReason ∷ ModuleNotFound ∷ ImageUnknown ∷ InstanceExists
    ∷ InstanceTableFull ∷ ModuleBusy ∷ FrameLimit ∷ FlexNotReady ∷ FlexAlready ∷ FlexBadRange ∷ FlexBadAnchor
    ∷ FlexAnchorInUse ∷ FlexHoldsAnchor ∷ SwiUnknown ∷ BadString ∷ BadPointer ∷ []

-- the first of some errors that has a number
abbrev pub error_with_number : List ErrorNumber → ℕ → Option ErrorNumber
error_with_number [] number = None
error_with_number (error ∷ rest) number = if error_code error == number then Some error
    else error_with_number rest number

abbrev pub name_word : Option ErrorNumber → List ℕ
name_word None = []
name_word (Some error) = codes " " ++ error_name error

-- ` 9 HeapNoRoom`
abbrev pub error_number_word : ℕ → List ℕ
error_number_word number =
    codes " " ++ (decimal number ++ name_word (error_with_number numbered_errors number))

-- ` error 9 HeapNoRoom`
abbrev pub error_word : ℕ → List ℕ
error_word number = codes " error" ++ error_number_word number

-- ` stops ErrorStop 9 HeapNoRoom`
abbrev pub error_stop_word : ℕ → List ℕ
error_stop_word number = codes " stops ErrorStop" ++ error_number_word number

-- ` stops DataUnmapped`, and of an error stop that with its number
abbrev pub fault_word : Fault → List ℕ
fault_word (ErrorStop number) = error_stop_word number
fault_word fault = codes " stops " ++ fault_name fault

-- a step halts a machine by OS_Exit or by a fault alone
abbrev pub stop_word : Stop → List ℕ
stop_word stop.Exit = codes " stops Exit"
stop_word (stop.Fault fault) = fault_word fault
stop_word _ = []
