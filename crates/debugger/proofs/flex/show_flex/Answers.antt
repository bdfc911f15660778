use Rattle.std.proofs.Common.{◌≡◌, [], Bool, IfOk, List, ℕ, Option, subst, sym}
use Rattle.std.specs.Prelude.{is_some, unwrap_or}
use Rattle.swi_dispatch_guest.specs.Output.{Writes}
use Rattle.swi_dispatch_guest.specs.AddressMapMemory.{bytes_of}
use Rattle.swi_dispatch_guest.specs.State.{IsFlex}
use Rattle.swi_dispatch_guest.specs.Flex.{Flex}
use Rattle.debugger.specs.Flex.{flex_text}
use Rattle.debugger.proofs.flex.show_flex.Goals as goal
use Rattle.swi_dispatch_guest.specs.GuestState.{state_of}

pub show_store-requires : goal.show_store-requires
show_store-requires g c =
    subst (λ (f : Flex). IsFlex c.memory.result.now f) (sym c.flex.ensures) c.memory.ensures.flex

pub returns-clause-found : goal.returns-clause-found
returns-clause-found g c =
    let s = state_of c.args.machine.now.guest in
    let same : flex_text (bytes_of c.memory.result.now) c.flex.result.now ≡ flex_text s.store.bytes s.tables.flex =
    λ i. flex_text (c.memory.ensures.bytes i) (c.flex.ensures i) in
    subst (λ (o : Option (List ℕ)). IfOk c.show_store.result (λ (is_there : Bool). is_there ≡ is_some o)) same
    c.show_store.ensures.found

pub returns-clause-writes : goal.returns-clause-writes
returns-clause-writes g c =
    let s = state_of c.args.machine.now.guest in
    let same : flex_text (bytes_of c.memory.result.now) c.flex.result.now ≡ flex_text s.store.bytes s.tables.flex =
    λ i. flex_text (c.memory.ensures.bytes i) (c.flex.ensures i) in
    subst (λ (o : Option (List ℕ)). Writes g.W.Sink.contents g.W.Sink.has_failed c.args.sink.now c.show_store.new.sink
    c.show_store.result (unwrap_or o [])) same c.show_store.ensures.writes
