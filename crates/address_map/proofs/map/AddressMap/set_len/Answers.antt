use Rattle.std.proofs.Common.{sym, ◌∙◌}
use Rattle.address_map.specs.Memory.{regions}
use Rattle.address_map.proofs.Lengths.{refilled}
use Rattle.address_map.proofs.map.AddressMap.set_len.Goals as goal

pub returns-in-Some-clause-regions : goal.returns-in-Some-clause-regions
unfolding regions
returns-in-Some-clause-regions c =
    rw c.deref_mut.ensures.value (refilled c.args.self.now.regions.items c.in-Some.index _ ∙ sym (c.in-Some.ensures.len c.args.len))

pub returns-in_default-clause-regions : goal.returns-in_default-clause-regions
returns-in_default-clause-regions c = sym (c.in_default.ensures.len c.args.len)
