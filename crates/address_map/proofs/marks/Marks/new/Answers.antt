use Rattle.address_map.proofs.Lanes.{zeros_plain}
use Rattle.address_map.specs.Marks.{class_at}
use Rattle.address_map.proofs.marks.Marks.new.Goals as goal

pub returns-clause-plain : goal.returns-clause-plain
unfolding class_at
returns-clause-plain c = λ k. zeros_plain c.in_ok-new.field-0 c.args.bytes k (c.in_ok-new.ensures.entries_if_clones_equal (λ y same. same))
