-- Packets that are kept as vectors.
use Rattle.std.proofs.lemmas.List.{map-append}
use Rattle.instances_table.proofs.ViewLemmas.{list_any-map}

pub ruleset load_steps = (map-append, list_any-map)
