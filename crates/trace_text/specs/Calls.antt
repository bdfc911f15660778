-- A store call as words: its name, with an X before it where errors go back to the caller, its reason
-- by number and name, and the registers that it reads, a text that one points to behind it (RISC OS 3
-- Programmer's Reference Manual, "OS_Heap", "OS_Module", "OS_DynamicArea").
use Rattle.std.specs.Prelude.{ℕ, Bool, ◌%◌, List, [], ◌∷◌, ◌++◌, codes, Option, Some, None, if◌then◌else◌}
use Rattle.std.specs.Fmt.{decimal}
use Rattle.std.specs.List.{flat_map}
use Rattle.profile.specs.Digits.{hex_number, hex_word}
use Rattle.profile.specs.Reasons.{area_reason, heap_reason, module_reason}
use Rattle.profile.specs.SwiNames.{swi_name, swi_of}
use Rattle.profile.specs.declared.reason.AreaReason.{AreaReason}
use Rattle.profile.specs.declared.reason.AreaReason.TheVariants as area
use Rattle.profile.specs.declared.reason.HeapReason.{HeapReason}
use Rattle.profile.specs.declared.reason.HeapReason.TheVariants as heap
use Rattle.profile.specs.declared.reason.ModuleReason.{ModuleReason}
use Rattle.profile.specs.declared.reason.ModuleReason.TheVariants as reason
use Rattle.profile.specs.declared.swi.SwiName.{SwiName}
use Rattle.profile.specs.declared.swi.SwiName.TheVariants as swi
use Rattle.trace_effects.specs.Bytes.{Bytes}
use Rattle.arm_core.specs.State.{State, register_of}
use Rattle.trace_store_text.specs.views.Quoted.{quoted_text}
use Rattle.trace_text.specs.Strings.{string_word}

-- ` R1=00009000`
abbrev pub argument_word : State → ℕ → List ℕ
argument_word s number = codes " R" ++ (decimal number ++ (codes "=" ++ hex_word (register_of s number)))

abbrev pub argument_words : State → List ℕ → List ℕ
argument_words s numbers = flat_map (argument_word s) numbers

-- ` R1=00009000 "System%Base"`
abbrev pub text_argument : State → Bytes → ℕ → List ℕ
text_argument s b number = argument_word s number ++ string_word b (register_of s number)

-- ` 2 Get`
abbrev pub reason_word : State → List ℕ → List ℕ
reason_word s name = codes " " ++ (decimal (register_of s 0) ++ (codes " " ++ name))

-- a reason and registers
abbrev pub reason_words : State → List ℕ → List ℕ → List ℕ
reason_words s name numbers = reason_word s name ++ argument_words s numbers

-- a reason, the text at R1 and further registers
abbrev pub text_reason_words : State → Bytes → List ℕ → List ℕ → List ℕ
text_reason_words s b name numbers = reason_word s name ++ (text_argument s b 1 ++ argument_words s numbers)

abbrev pub heap_words : State → Option HeapReason → List ℕ
heap_words s (Some heap.Initialise) = reason_words s (codes "Initialise") (1 ∷ 3 ∷ [])
heap_words s (Some heap.Describe) = reason_words s (codes "Describe") (1 ∷ [])
heap_words s (Some heap.Get) = reason_words s (codes "Get") (1 ∷ 3 ∷ [])
heap_words s (Some heap.Free) = reason_words s (codes "Free") (1 ∷ 2 ∷ [])
heap_words s (Some heap.Resize) = reason_words s (codes "Resize") (1 ∷ 2 ∷ 3 ∷ [])
heap_words s (Some heap.ChangeSize) = reason_words s (codes "ChangeSize") (1 ∷ 3 ∷ [])
heap_words s (Some heap.BlockSize) = reason_words s (codes "BlockSize") (1 ∷ 2 ∷ [])
heap_words s None = reason_word s (codes "?")

abbrev pub area_words : State → Option AreaReason → List ℕ
area_words s (Some area.Create) = reason_words s (codes "Create") (1 ∷ 2 ∷ 3 ∷ 4 ∷ 5 ∷ 6 ∷ 7 ∷ 8 ∷ [])
area_words s (Some area.Remove) = reason_words s (codes "Remove") (1 ∷ [])
area_words s (Some area.Info) = reason_words s (codes "Info") (1 ∷ [])
area_words s (Some area.Enumerate) = reason_words s (codes "Enumerate") (1 ∷ [])
area_words s (Some area.Renumber) = reason_words s (codes "Renumber") (1 ∷ 2 ∷ [])
area_words s None = reason_word s (codes "?")

abbrev pub module_words : State → Bytes → Option ModuleReason → List ℕ
module_words s b (Some reason.Run) = text_reason_words s b (codes "Run") []
module_words s b (Some reason.Load) = text_reason_words s b (codes "Load") []
module_words s b (Some reason.Enter) = text_reason_words s b (codes "Enter") (2 ∷ [])
module_words s b (Some reason.Reinit) = text_reason_words s b (codes "Reinit") []
module_words s b (Some reason.Delete) = text_reason_words s b (codes "Delete") []
module_words s b (Some reason.DescribeArea) = reason_word s (codes "DescribeArea")
module_words s b (Some reason.Claim) = reason_words s (codes "Claim") (3 ∷ [])
module_words s b (Some reason.Free) = reason_words s (codes "Free") (2 ∷ [])
module_words s b (Some reason.Tidy) = reason_word s (codes "Tidy")
module_words s b (Some reason.Clear) = reason_word s (codes "Clear")
module_words s b (Some reason.Insert) = reason_words s (codes "Insert") (1 ∷ [])
module_words s b (Some reason.InsertCopy) = reason_words s (codes "InsertCopy") (1 ∷ 2 ∷ [])
module_words s b (Some reason.Info) = reason_words s (codes "Info") (1 ∷ 2 ∷ [])
module_words s b (Some reason.Extend) = reason_words s (codes "Extend") (2 ∷ 3 ∷ [])
module_words s b (Some reason.Instantiate) = text_reason_words s b (codes "Instantiate") []
module_words s b (Some reason.Rename) = text_reason_words s b (codes "Rename") (2 ∷ [])
module_words s b (Some reason.Prefer) = text_reason_words s b (codes "Prefer") []
module_words s b (Some reason.Lookup) = text_reason_words s b (codes "Lookup") []
module_words s b None = reason_word s (codes "?")

-- the name alone
abbrev pub module_name : Option ModuleReason → List ℕ
module_name (Some reason.Run) = codes "Run"
module_name (Some reason.Load) = codes "Load"
module_name (Some reason.Enter) = codes "Enter"
module_name (Some reason.Reinit) = codes "Reinit"
module_name (Some reason.Delete) = codes "Delete"
module_name (Some reason.DescribeArea) = codes "DescribeArea"
module_name (Some reason.Claim) = codes "Claim"
module_name (Some reason.Free) = codes "Free"
module_name (Some reason.Tidy) = codes "Tidy"
module_name (Some reason.Clear) = codes "Clear"
module_name (Some reason.Insert) = codes "Insert"
module_name (Some reason.InsertCopy) = codes "InsertCopy"
module_name (Some reason.Info) = codes "Info"
module_name (Some reason.Extend) = codes "Extend"
module_name (Some reason.Instantiate) = codes "Instantiate"
module_name (Some reason.Rename) = codes "Rename"
module_name (Some reason.Prefer) = codes "Prefer"
module_name (Some reason.Lookup) = codes "Lookup"
module_name None = codes "?"

-- what follows on a call's name; `number` is the call's own
abbrev pub read_words : State → Bytes → ℕ → SwiName → List ℕ
read_words s b number swi.Heap = heap_words s (heap_reason (register_of s 0))
read_words s b number swi.Module = module_words s b (module_reason (register_of s 0))
read_words s b number swi.DynamicArea = area_words s (area_reason (register_of s 0))
read_words s b number swi.WriteC = argument_words s (0 ∷ [])
read_words s b number swi.Write0 = text_argument s b 0
read_words s b number swi.WriteI = codes " " ++ quoted_text (number % 256 ∷ [])
read_words s b number swi.GenerateError = argument_words s (0 ∷ [])
read_words s b number swi.ReadDynamicArea = argument_words s (0 ∷ [])
read_words s b number swi.ChangeDynamicArea = argument_words s (0 ∷ 1 ∷ [])
read_words s b number swi.FlexInit = argument_words s (0 ∷ 1 ∷ [])
read_words s b number swi.FlexAlloc = argument_words s (0 ∷ 1 ∷ [])
read_words s b number swi.FlexFree = argument_words s (0 ∷ [])
read_words s b number swi.FlexSize = argument_words s (0 ∷ [])
read_words s b number swi.FlexExtend = argument_words s (0 ∷ 1 ∷ [])
read_words s b number swi.FlexMidExtend = argument_words s (0 ∷ 1 ∷ 2 ∷ [])
read_words s b number _ = []

abbrev pub named_words : State → Bytes → ℕ → Option SwiName → List ℕ
named_words s b number (Some name) = swi_name name ++ read_words s b number name
named_words s b number None =
    codes "SWI &" ++ (hex_number number ++ argument_words s (0 ∷ 1 ∷ 2 ∷ 3 ∷ []))

abbrev pub call_words : State → Bytes → Bool → ℕ → List ℕ
call_words s b is_x number =
    (if is_x then codes " X" else codes " ") ++ named_words s b number (swi_of number)
