use Rattle.std.proofs.Common.{◌≡◌, ◌∙◌, ◌++◌, List, ℕ, ap, arith, take}
use Rattle.std.proofs.lemmas.List.{take_all}
use Rattle.rosm_settings.specs.ImageFiles.{names_for, names_of}
use Rattle.rosm_settings.proofs.ImageFilesLemmas.{files_more, names_of_files}
use Rattle.rosm_settings.proofs.image_files.add_files.Goals as goal

pub loop-n-preserved : goal.loop-n-preserved
loop-n-preserved g c =
    files_more g.R.File.Read.remaining c.args.images.now _ _ c.args.files.now c.loop-n.n c.get-path.result.now
    c.loop-n.invariant c.in_default.ensures.added c.get-path.ensures

pub returns-clause-named : goal.returns-clause-named
returns-clause-named g c =
    let old = c.args.images.now in
    let paths = c.args.files.now in
    let whole : take c.loop-n.n paths ≡ paths =
    take_all c.loop-n.n paths (omega (arith, c.loop-n-test.false, c.len-n-end.ensures)) in
    names_of_files g.R.File.Read.remaining old (take c.loop-n.n paths) c.loop-n.images c.loop-n.invariant
    ∙ ap (λ (all : List (List ℕ)). names_of old ++ names_for all) whole
