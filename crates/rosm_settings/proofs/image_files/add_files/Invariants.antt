use Rattle.std.proofs.Common.{take}
use Rattle.rosm_settings.specs.ImageFiles.{AddsFiles}
use Rattle.rosm_settings.proofs.image_files.add_files.Given as goal

abbrev pub invariant-loop-n : goal.invariant-loop-n
invariant-loop-n g l = AddsFiles g.R.File.Read.remaining l.fn.images (take l.n l.files) l.images
