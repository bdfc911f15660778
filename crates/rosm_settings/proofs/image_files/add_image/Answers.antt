use Rattle.std.proofs.Common.{◌≡◌, ◌∙◌, None, Some, ap, rules, sym, lit<}
use Rattle.std.proofs.lemmas.Option.{IfSome_then}
use Rattle.std.specs.Option.{option_copied}
use Rattle.std.specs.Path.{path_file_name}
use Rattle.rosm_settings.proofs.ImageFilesLemmas.{adds_image, refused_image, refused_nameless}
use Rattle.rosm_settings.proofs.image_files.add_image.Goals as goal

pub returns-clause-ok : goal.returns-clause-ok
returns-clause-ok g c =
    let part : Some c.in_ok-name.name.now ≡ path_file_name c.args.path.now =
    sym (ap option_copied c.in_ok-name.ensures.ok_part) ∙ c.file_name.ensures ∙ ap path_file_name c.new.ensures in
    let known = g.R.Read.remaining c.args.reader in
    adds_image c.in_ok-add.field-0 _ _ _ _ c.as_bytes.result.now c.as_slice.result.now known 1048577 (lit< tt)
    (ap Some c.as_bytes.ensures.value ∙ part)
    (IfSome_then known c.in_ok-bytes.ensures (λ all front. c.as_slice.ensures.value ∙ front))
    c.in_ok-add.ensures.refused c.in_ok-add.ensures.ok

pub returns-in_err-name-clause-refused : goal.returns-in_err-name-clause-refused
returns-in_err-name-clause-refused g c =
    let none : path_file_name c.args.path.now ≡ None =
    sym (sym (ap option_copied c.in_err-name.ensures.ok_part) ∙ c.file_name.ensures ∙ ap path_file_name c.new.ensures) in
    let nameless = refused_nameless c.args.images.now c.args.path.now (g.R.Read.remaining c.args.reader) none in
    search (rules, nameless)

pub returns-in_err-add-clause-refused : goal.returns-in_err-add-clause-refused
returns-in_err-add-clause-refused g c =
    let part : Some c.in_ok-name.name.now ≡ path_file_name c.args.path.now =
    sym (ap option_copied c.in_ok-name.ensures.ok_part) ∙ c.file_name.ensures ∙ ap path_file_name c.new.ensures in
    let known = g.R.Read.remaining c.args.reader in
    let refused = refused_image tt c.args.images.now c.args.path.now _ _ known c.in_err-add.field-0.0
    (ap Some c.as_bytes.ensures.value ∙ part)
    (IfSome_then known c.in_ok-bytes.ensures (λ all front. c.as_slice.ensures.value ∙ front))
    c.in_err-add.ensures.refused in
    search (rules, refused)
