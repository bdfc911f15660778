-- The names of the faults, as the script language prints them, and their texts.
use Rattle.std.specs.Prelude.{ℕ, List, ◌++◌, codes}
use Rattle.std.specs.Fmt.{decimal}
use Rattle.raw_store.specs.declared.fault.Fault.{Fault}
use Rattle.raw_store.specs.declared.fault.Fault.TheVariants.{FetchUnmapped, UndefinedInstruction, Unallocated, PcOperand, MultiplySame, EmptyList, UserBankWriteback, AddressException, DataUnmapped, OwnedWord, StackChanged, ErrorStop}

abbrev pub fault_name : Fault → List ℕ
fault_name FetchUnmapped = codes "FetchUnmapped"
fault_name UndefinedInstruction = codes "UndefinedInstruction"
fault_name Unallocated = codes "Unallocated"
fault_name PcOperand = codes "PcOperand"
fault_name MultiplySame = codes "MultiplySame"
fault_name EmptyList = codes "EmptyList"
fault_name UserBankWriteback = codes "UserBankWriteback"
fault_name AddressException = codes "AddressException"
fault_name DataUnmapped = codes "DataUnmapped"
fault_name OwnedWord = codes "OwnedWord"
fault_name StackChanged = codes "StackChanged"
fault_name (ErrorStop number) = codes "ErrorStop"

-- A fault's text is its name, and behind `ErrorStop` the error's number.
abbrev pub fault_text : Fault → List ℕ
fault_text (ErrorStop number) = codes "ErrorStop " ++ decimal number
fault_text fault = fault_name fault
