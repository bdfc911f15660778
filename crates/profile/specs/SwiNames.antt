-- The store calls by number and by name (RISC OS 3 Programmer's Reference Manual, "SWI calls by
-- number"). OS_WriteI is 256 calls, one for each byte; the numbers of the flex calls are this
-- project's own.
use Rattle.std.specs.Prelude.{ℕ, List, codes, Option, Some, None, nat_le, ◌&&◌, ◌==◌, if◌then◌else◌}
use Rattle.profile.specs.declared.swi.SwiName.{SwiName}
use Rattle.profile.specs.declared.swi.SwiName.TheVariants.{WriteC, WriteS, Write0, NewLine, Exit, EnterOs, Heap, Module, ChangeDynamicArea, GenerateError, ReadDynamicArea, DynamicArea, WriteI, FlexInit, FlexAlloc, FlexFree, FlexSize, FlexExtend, FlexMidExtend}

abbrev pub swi_of : ℕ → Option SwiName
swi_of n =
    if n == 0x0 then Some WriteC else (
    if n == 0x1 then Some WriteS else (
    if n == 0x2 then Some Write0 else (
    if n == 0x3 then Some NewLine else (
    if n == 0x11 then Some Exit else (
    if n == 0x16 then Some EnterOs else (
    if n == 0x1D then Some Heap else (
    if n == 0x1E then Some Module else (
    if n == 0x2A then Some ChangeDynamicArea else (
    if n == 0x2B then Some GenerateError else (
    if n == 0x5C then Some ReadDynamicArea else (
    if n == 0x66 then Some DynamicArea else (
    if nat_le 0x100 n && nat_le n 0x1FF then Some WriteI else (
    if n == 0xC0000 then Some FlexInit else (
    if n == 0xC0001 then Some FlexAlloc else (
    if n == 0xC0002 then Some FlexFree else (
    if n == 0xC0003 then Some FlexSize else (
    if n == 0xC0004 then Some FlexExtend else (
    if n == 0xC0005 then Some FlexMidExtend else (
    None)))))))))))))))))))

abbrev pub swi_name : SwiName → List ℕ
swi_name WriteC = codes "OS_WriteC"
swi_name WriteS = codes "OS_WriteS"
swi_name Write0 = codes "OS_Write0"
swi_name NewLine = codes "OS_NewLine"
swi_name Exit = codes "OS_Exit"
swi_name EnterOs = codes "OS_EnterOS"
swi_name Heap = codes "OS_Heap"
swi_name Module = codes "OS_Module"
swi_name ChangeDynamicArea = codes "OS_ChangeDynamicArea"
swi_name GenerateError = codes "OS_GenerateError"
swi_name ReadDynamicArea = codes "OS_ReadDynamicArea"
swi_name DynamicArea = codes "OS_DynamicArea"
swi_name WriteI = codes "OS_WriteI"
swi_name FlexInit = codes "Flex_Init"
swi_name FlexAlloc = codes "Flex_Alloc"
swi_name FlexFree = codes "Flex_Free"
swi_name FlexSize = codes "Flex_Size"
swi_name FlexExtend = codes "Flex_Extend"
swi_name FlexMidExtend = codes "Flex_MidExtend"
