-- The reasons of calls that do many things, by the number in R0 (RISC OS 3 Programmer's
-- Reference Manual, "OS_Heap" and "OS_Module", and its supplement, "OS_DynamicArea").
use Rattle.std.specs.Prelude.{ℕ, Option, Some, None, ◌==◌, if◌then◌else◌}
use Rattle.profile.specs.declared.reason.AreaReason.{AreaReason}
use Rattle.profile.specs.declared.reason.AreaReason.TheVariants as area
use Rattle.profile.specs.declared.reason.HeapReason.{HeapReason}
use Rattle.profile.specs.declared.reason.HeapReason.TheVariants as heap
use Rattle.profile.specs.declared.reason.ModuleReason.{ModuleReason}
use Rattle.profile.specs.declared.reason.ModuleReason.TheVariants as modules

abbrev pub heap_reason : ℕ → Option HeapReason
heap_reason n =
    if n == 0 then Some heap.Initialise else (
    if n == 1 then Some heap.Describe else (
    if n == 2 then Some heap.Get else (
    if n == 3 then Some heap.Free else (
    if n == 4 then Some heap.Resize else (
    if n == 5 then Some heap.ChangeSize else (
    if n == 6 then Some heap.BlockSize else
    None))))))

abbrev pub area_reason : ℕ → Option AreaReason
area_reason n =
    if n == 0 then Some area.Create else (
    if n == 1 then Some area.Remove else (
    if n == 2 then Some area.Info else (
    if n == 3 then Some area.Enumerate else (
    if n == 4 then Some area.Renumber else
    None))))

abbrev pub module_reason : ℕ → Option ModuleReason
module_reason n =
    if n == 0 then Some modules.Run else (
    if n == 1 then Some modules.Load else (
    if n == 2 then Some modules.Enter else (
    if n == 3 then Some modules.Reinit else (
    if n == 4 then Some modules.Delete else (
    if n == 5 then Some modules.DescribeArea else (
    if n == 6 then Some modules.Claim else (
    if n == 7 then Some modules.Free else (
    if n == 8 then Some modules.Tidy else (
    if n == 9 then Some modules.Clear else (
    if n == 10 then Some modules.Insert else (
    if n == 11 then Some modules.InsertCopy else (
    if n == 12 then Some modules.Info else (
    if n == 13 then Some modules.Extend else (
    if n == 14 then Some modules.Instantiate else (
    if n == 15 then Some modules.Rename else (
    if n == 16 then Some modules.Prefer else (
    if n == 18 then Some modules.Lookup else
    None)))))))))))))))))
