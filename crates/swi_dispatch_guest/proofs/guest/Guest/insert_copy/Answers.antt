use Rattle.swi_dispatch_guest.proofs.Beginning.{begins, stays_made}
use Rattle.swi_dispatch_guest.proofs.guest.Guest.insert_copy.Goals as goal

pub go_on-requires : goal.go_on-requires
go_on-requires c = record { made = stays_made _ _ _ _ _ c.start_copy-started.ensures c.requires.made }

pub returns : goal.returns
returns c = begins _ _ _ _ _ _ _ _ _ c.requires.made c.start_copy-started.ensures c.go_on.ensures
