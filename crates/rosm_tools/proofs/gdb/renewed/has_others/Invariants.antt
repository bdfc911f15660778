use Rattle.std.proofs.Common.{◌≡◌, drop}
use Rattle.rosm_tools.specs.gdb.Renewed.{has_others}
use Rattle.rosm_tools.proofs.gdb.renewed.has_others.Given as goal

-- whether one of the files that are left gives another image is whether one of all does
abbrev pub invariant-loop-n : goal.invariant-loop-n
invariant-loop-n l = has_others l.images l.fresh (drop l.n l.files) ≡ has_others l.images l.fresh l.files
