-- The calls on the module area stay within it, with its growth, and so do new module images there,
-- with the bytes that they get.
use Rattle.std.specs.Prelude.{ℕ, ◌≡◌, List, Ok}
use Rattle.dynamic_areas.specs.Ground.{AreaStore}
use Rattle.rma.specs.Calls.{grown_to, rma_claimed, rma_extended, rma_freed}
use Rattle.rma.specs.NewImages.{image_copied, image_made}
use Rattle.law_machine.specs.heap_frame.FitAreaStores.{AreaStoreStaysFit, IsFitAreaStore}

pub record ModuleAreaCallStaysFit (d e : AreaStore) : Type 0 where
  pub grow : (end : ℕ) → grown_to d end ≡ Ok e → AreaStoreStaysFit d e
  pub claim : (size block : ℕ) → rma_claimed d size ≡ Ok (e, block) → AreaStoreStaysFit d e
  pub free : (block : ℕ) → rma_freed d block ≡ Ok (e, tt) → AreaStoreStaysFit d e
  pub extend : (block change new : ℕ) → rma_extended d block change ≡ Ok (e, new) → AreaStoreStaysFit d e
  pub make_image : (image : List ℕ) (at : ℕ) → image_made d image ≡ Ok (e, at) → AreaStoreStaysFit d e
  pub copy_image : (from len at : ℕ) → image_copied d from len ≡ Ok (e, at) → AreaStoreStaysFit d e

abbrev pub ModuleAreaCallsStayFit : Type 0
ModuleAreaCallsStayFit = (d e : AreaStore) → IsFitAreaStore d → ModuleAreaCallStaysFit d e
