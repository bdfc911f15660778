-- The places and limits of the machine's memory, in bytes. The application space and the module
-- area stand where RISC OS 3 has them (Programmer's Reference Manual, "Memory management"); the
-- rest of the layout is this project's own.
use Rattle.std.specs.Prelude.{ℕ}

abbrev pub page_size : ℕ
page_size = 4096

-- the most pages of a machine
abbrev pub most_pages : ℕ
most_pages = 1024

-- the first address past the 26-bit address space
abbrev pub address_limit : ℕ
address_limit = 0x4000000

abbrev pub application_start : ℕ
application_start = 0x8000

-- the relocatable module area, area 1
abbrev pub module_area_start : ℕ
module_area_start = 0x1800000

abbrev pub module_area_maximum : ℕ
module_area_maximum = 4194304

-- the system pages: the stack of supervisor mode, and the page of fixed words
abbrev pub system_start : ℕ
system_start = 0x1C00000

abbrev pub system_pages : ℕ
system_pages = 3

-- the stack of supervisor mode grows down from here
abbrev pub supervisor_stack_end : ℕ
supervisor_stack_end = 0x1C02000

-- a private word for each of the 64 slots of module instances
abbrev pub private_words_start : ℕ
private_words_start = 0x1C02000

-- an error's number and its text
abbrev pub error_block_start : ℕ
error_block_start = 0x1C02100

abbrev pub environment_text_start : ℕ
environment_text_start = 0x1C02200

-- the window of the created areas
abbrev pub area_window_start : ℕ
area_window_start = 0x2000000

abbrev pub area_window_end : ℕ
area_window_end = 0x3000000

-- where module code returns to; it is never mapped
abbrev pub return_gate : ℕ
return_gate = 0x3800000

-- the first word of a heap's descriptor, `Heap` in ASCII
abbrev pub heap_name : ℕ
heap_name = 0x70616548

-- the bytes of a heap's descriptor
abbrev pub heap_descriptor : ℕ
heap_descriptor = 16

-- the most bytes of an image, of a script and of an assembled program
abbrev pub most_bytes : ℕ
most_bytes = 1048576
