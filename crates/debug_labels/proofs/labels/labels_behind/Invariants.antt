use Rattle.std.proofs.Common.{◌≡◌, take}
use Rattle.debug_labels.specs.Labels.{labels_behind}
use Rattle.debug_labels.proofs.labels.labels_behind.Given as goal

-- the labels that were passed are copied
abbrev pub invariant-loop-place : goal.invariant-loop-place
invariant-loop-place l = l.copies.items ≡ labels_behind l.origin (take l.place l.labels)
