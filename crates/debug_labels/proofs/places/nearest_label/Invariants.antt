use Rattle.std.proofs.Common.{◌≡◌, ◌≤◌, drop}
use Rattle.std.specs.Prelude.{None, IfSome}
use Rattle.std.specs.Option.{option_copied}
use Rattle.debug_labels.specs.Places.{nearest_label}
use Rattle.debug_labels.proofs.places.nearest_label.Given as goal

-- the labels that are left go on from what was found
abbrev pub invariant-loop-label : goal.invariant-loop-label
invariant-loop-label l = record {
  found : nearest_label l.at (option_copied l.best) (drop l.label-index l.labels) ≡ nearest_label l.at None l.labels;
  below : IfSome l.best (λ best. best.now.1 ≤ l.at);
}
