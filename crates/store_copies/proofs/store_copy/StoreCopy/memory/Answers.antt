use Rattle.std.proofs.Common.{sym, ap, ◌∙◌}
use Rattle.store_copies.specs.Copies.{CopiedParts, kept_in}
use Rattle.swi_dispatch_guest.proofs.OsHeapFrame.{store_bytes}
use Rattle.store_copies.proofs.store_copy.StoreCopy.memory.Goals as goal

pub returns-clause-bytes : goal.returns-clause-bytes
returns-clause-bytes c =
    sym (store_bytes c.self.inside.memory) ∙ ap (λ (p : CopiedParts). (kept_in p).store.bytes) c.self.view_is
