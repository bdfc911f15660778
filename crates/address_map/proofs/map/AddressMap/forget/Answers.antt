use Rattle.address_map.proofs.Removing.{recorded_less}
use Rattle.address_map.proofs.map.AddressMap.forget.Goals as goal

pub invariant_of-self : goal.invariant_of-self
invariant_of-self c =
    let m = c.args.self.now in
    record {
      bytes_fit = m.bytes_fit;
      in_limit = m.in_limit;
      marks_fit = m.marks_fit;
      frames_fit = m.frames_fit;
      table = m.table;
      written = m.written;
      recorded = recorded_less m c.remove.new.self.items c.in-Some.index c.remove.ensures.items;
    }
