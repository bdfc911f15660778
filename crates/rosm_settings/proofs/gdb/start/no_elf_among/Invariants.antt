use Rattle.std.proofs.Common.{◌≡◌, drop}
use Rattle.rosm_settings.specs.gdb.Start.{first_elf}
use Rattle.rosm_settings.proofs.gdb.start.no_elf_among.Given as goal

-- the files so far are none
abbrev pub invariant-loop-n : goal.invariant-loop-n
invariant-loop-n l = first_elf l.images l.files ≡ first_elf l.images (drop l.n l.files)
