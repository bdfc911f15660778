use Rattle.std.proofs.Common.{List, ap, rules, ◌∙◌}
use Rattle.std.specs.Prelude.{not}
use Rattle.std.specs.Str.{bytes_eq}
use Rattle.std.proofs.lemmas.Fn.{filter_same}
use Rattle.debug_labels.specs.Labels.{ImageLabels, without_labels}
use Rattle.debug_labels.proofs.labels.LabelTable.remove.Goals as goal

pub returns : goal.returns
returns c = filter_same _ (λ (i : ImageLabels). not (bytes_eq i.image c.args.image.now)) _ (λ x b f' k. search rules) _ _
    c.retain.ensures.filtered ∙ ap (λ (labels : List ImageLabels). without_labels labels c.args.image.now) c.self.view_is
