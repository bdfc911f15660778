-- The errors of the store calls: the number and the text of each. Both are this project's own.
use Rattle.std.specs.Prelude.{ℕ, List, codes}
use Rattle.raw_store.specs.declared.error.ErrorNumber.{ErrorNumber}
use Rattle.raw_store.specs.declared.error.ErrorNumber.TheVariants.{HeapBadReason, HeapBadDesc, HeapBadRegion, HeapOverlaps, HeapTableFull, HeapNotABlock, HeapHoldsAnchor, HeapBadShrink, HeapNoRoom, BlockHoldsHeap, AreaBadReason, AreaUnknown, AreaBad, AreaTaken, AreaTableFull, AreaInUse, AreaNoPages, RmaNotABlock, RmaHoldsAnchor, RmaNoRoom, RmaBlockHoldsHeap, ModuleBadHeader, ModuleBadReason, ModuleNotFound, ImageUnknown, InstanceExists, InstanceTableFull, ModuleBusy, FrameLimit, FlexNotReady, FlexAlready, FlexBadRange, FlexBadAnchor, FlexAnchorInUse, FlexHoldsAnchor, SwiUnknown, BadString, BadPointer}

abbrev pub error_code : ErrorNumber → ℕ
error_code HeapBadReason = 1
error_code HeapBadDesc = 2
error_code HeapBadRegion = 3
error_code HeapOverlaps = 4
error_code HeapTableFull = 5
error_code HeapNotABlock = 6
error_code HeapHoldsAnchor = 7
error_code HeapBadShrink = 8
error_code HeapNoRoom = 9
error_code BlockHoldsHeap = 10
error_code AreaBadReason = 16
error_code AreaUnknown = 17
error_code AreaBad = 18
error_code AreaTaken = 19
error_code AreaTableFull = 20
error_code AreaInUse = 21
error_code AreaNoPages = 22
error_code RmaNotABlock = 32
error_code RmaHoldsAnchor = 33
error_code RmaNoRoom = 34
error_code RmaBlockHoldsHeap = 35
error_code ModuleBadHeader = 48
error_code ModuleBadReason = 49
error_code ModuleNotFound = 50
error_code ImageUnknown = 51
error_code InstanceExists = 52
error_code InstanceTableFull = 53
error_code ModuleBusy = 54
error_code FrameLimit = 55
error_code FlexNotReady = 64
error_code FlexAlready = 65
error_code FlexBadRange = 66
error_code FlexBadAnchor = 67
error_code FlexAnchorInUse = 68
error_code FlexHoldsAnchor = 69
error_code SwiUnknown = 80
error_code BadString = 81
error_code BadPointer = 82

-- The text of an error is its name; a block that holds a heap has one text for both its numbers.
abbrev pub error_name : ErrorNumber → List ℕ
error_name HeapBadReason = codes "HeapBadReason"
error_name HeapBadDesc = codes "HeapBadDesc"
error_name HeapBadRegion = codes "HeapBadRegion"
error_name HeapOverlaps = codes "HeapOverlaps"
error_name HeapTableFull = codes "HeapTableFull"
error_name HeapNotABlock = codes "HeapNotABlock"
error_name HeapHoldsAnchor = codes "HeapHoldsAnchor"
error_name HeapBadShrink = codes "HeapBadShrink"
error_name HeapNoRoom = codes "HeapNoRoom"
error_name BlockHoldsHeap = codes "BlockHoldsHeap"
error_name AreaBadReason = codes "AreaBadReason"
error_name AreaUnknown = codes "AreaUnknown"
error_name AreaBad = codes "AreaBad"
error_name AreaTaken = codes "AreaTaken"
error_name AreaTableFull = codes "AreaTableFull"
error_name AreaInUse = codes "AreaInUse"
error_name AreaNoPages = codes "AreaNoPages"
error_name RmaNotABlock = codes "RmaNotABlock"
error_name RmaHoldsAnchor = codes "RmaHoldsAnchor"
error_name RmaNoRoom = codes "RmaNoRoom"
error_name RmaBlockHoldsHeap = codes "BlockHoldsHeap"
error_name ModuleBadHeader = codes "ModuleBadHeader"
error_name ModuleBadReason = codes "ModuleBadReason"
error_name ModuleNotFound = codes "ModuleNotFound"
error_name ImageUnknown = codes "ImageUnknown"
error_name InstanceExists = codes "InstanceExists"
error_name InstanceTableFull = codes "InstanceTableFull"
error_name ModuleBusy = codes "ModuleBusy"
error_name FrameLimit = codes "FrameLimit"
error_name FlexNotReady = codes "FlexNotReady"
error_name FlexAlready = codes "FlexAlready"
error_name FlexBadRange = codes "FlexBadRange"
error_name FlexBadAnchor = codes "FlexBadAnchor"
error_name FlexAnchorInUse = codes "FlexAnchorInUse"
error_name FlexHoldsAnchor = codes "FlexHoldsAnchor"
error_name SwiUnknown = codes "SwiUnknown"
error_name BadString = codes "BadString"
error_name BadPointer = codes "BadPointer"
