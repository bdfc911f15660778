use Rattle.std.proofs.Common.{◌≡◌, List, ℕ, subst}
use Rattle.swi_dispatch_guest.specs.Output.{Writes}
use Rattle.swi_dispatch_guest.specs.AddressMapMemory.{bytes_of}
use Rattle.debugger.specs.Modules.{modules_text}
use Rattle.debugger.proofs.modules.show_modules.Goals as goal
use Rattle.swi_dispatch_guest.specs.GuestState.{state_of}

pub returns : goal.returns
returns g c =
    let s = state_of c.args.machine.now.guest in
    let same : modules_text (bytes_of c.memory.result.now) c.instances.result.now
    ≡ modules_text s.store.bytes s.tables.modules =
    λ i. modules_text (c.memory.ensures.bytes i) (c.instances.ensures i) in
    record {
      writes = subst (λ (text : List ℕ). Writes g.W.Sink.contents g.W.Sink.has_failed c.args.sink.now c.show_all.new.sink
          c.show_all.result text) same c.show_all.ensures;
    }
