-- The front, the names and the last words, one behind another.
use Rattle.std.proofs.Common.{List, ℕ, ◌++◌, ◌∙◌}
use Rattle.std.specs.Prelude.{codes}
use Rattle.std.specs.List.{flat_map}
use Rattle.profile.proofs.OutputLemmas.{Appends-join}
use Rattle.debug_labels.specs.Views.{first_names_of}
use Rattle.debug_labels.proofs.WalkLemmas.{writes_behind}
use Rattle.debug_labels.proofs.views.push_hinted.Goals as goal

pub returns : goal.returns
returns g c =
    let names : List ℕ = flat_map first_names_of c.args.images.now in
    let contents = g.W.Sink.contents in
    writes_behind contents g.W.Sink.has_failed c.args.sink.now c.push_images_names.new.sink c.push_all-2.new.sink
    c.push_all-2.result (codes " (labels:" ++ names) (codes "; LABELS lists all)")
    (Appends-join (contents c.args.sink.now) (contents c.push_all.new.sink) (contents c.push_images_names.new.sink)
    (codes " (labels:") names c.in_ok-push_all.ensures.text c.in_ok-push_images_names.ensures.text)
    (c.in_ok-push_images_names.ensures.same_flag ∙ c.in_ok-push_all.ensures.same_flag)
    c.push_all-2.ensures.text c.push_all-2.ensures.flag c.push_all-2.ensures.same_flag
