-- The error that a line names: by its number, or by the name that stands in the error block. Two
-- errors have the name BlockHoldsHeap; it stands for the first of them, 10.
use Rattle.std.specs.Prelude.{ℕ, List, [], ◌∷◌, Option, Some, None, option_map, if◌then◌else◌}
use Rattle.std.specs.Option.{option_or}
use Rattle.std.specs.Str.{bytes_eq}
use Rattle.assembler_text.specs.ErrorNames.{error_code, error_name}
use Rattle.assembler_text.specs.ErrorNumber.{ErrorNumber}
use Rattle.assembler_text.specs.ErrorNumber.TheVariants.{HeapBadReason, HeapBadDesc, HeapBadRegion, HeapOverlaps, HeapTableFull, HeapNotABlock, HeapHoldsAnchor, HeapBadShrink, HeapNoRoom, BlockHoldsHeap, AreaBadReason, AreaUnknown, AreaBad, AreaTaken, AreaTableFull, AreaInUse, AreaNoPages, RmaNotABlock, RmaHoldsAnchor, RmaNoRoom, RmaBlockHoldsHeap, ModuleBadHeader, ModuleBadReason, ModuleNotFound, ImageUnknown, InstanceExists, InstanceTableFull, ModuleBusy, FrameLimit, FlexNotReady, FlexAlready, FlexBadRange, FlexBadAnchor, FlexAnchorInUse, FlexHoldsAnchor, SwiUnknown, BadString, BadPointer}
use Rattle.command_shell_lines.specs.Numbers.{script_number}

-- the errors of all store calls, by their numbers
unfoldable pub store_errors : List ErrorNumber
store_errors = HeapBadReason ∷ HeapBadDesc ∷ HeapBadRegion ∷ HeapOverlaps ∷ HeapTableFull ∷ HeapNotABlock
    ∷ HeapHoldsAnchor ∷ HeapBadShrink ∷ HeapNoRoom ∷ BlockHoldsHeap ∷ AreaBadReason ∷ AreaUnknown ∷ AreaBad
    ∷ AreaTaken ∷ AreaTableFull ∷ AreaInUse ∷ AreaNoPages ∷ RmaNotABlock ∷ RmaHoldsAnchor ∷ RmaNoRoom
    ∷ RmaBlockHoldsHeap ∷ ModuleBadHeader ∷ ModuleBadReason ∷ ModuleNotFound ∷ ImageUnknown ∷ InstanceExists
    ∷ InstanceTableFull ∷ ModuleBusy ∷ FrameLimit ∷ FlexNotReady ∷ FlexAlready ∷ FlexBadRange ∷ FlexBadAnchor
    ∷ FlexAnchorInUse ∷ FlexHoldsAnchor ∷ SwiUnknown ∷ BadString ∷ BadPointer ∷ []

-- the first of some errors that has a name
abbrev pub error_with_name : List ErrorNumber → List ℕ → Option ErrorNumber
error_with_name [] name = None
error_with_name (error ∷ rest) name = if bytes_eq (error_name error) name then Some error
    else error_with_name rest name

-- a number, or an error's name
unfoldable pub error_shown : List ℕ → Option ℕ
error_shown word = option_or (script_number word) (option_map error_code (error_with_name store_errors word))
