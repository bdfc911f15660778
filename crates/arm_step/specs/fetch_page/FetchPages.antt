-- A page, and where its words lie in the store. A position counts the words of the address space.
use Rattle.std.specs.Prelude.{◌≡◌, ◌≢◌, ◌<◌, ◌≤◌, ◌+◌, ◌*◌, ◌-◌, ◌^◌, ℕ, Option, Some}
use Rattle.arm_step.specs.declared.fetch_page.fetch_page.FetchPage.{FetchPage}

-- a position lies in the page
pub record IsIn (w : FetchPage) (at : ℕ) : Type 0 where
  pub from : w.first ≤ at
  pub below : at < w.first + 1024

-- The words of the page lie one after another in the store, and none of them is at the gate. Of a fetch page of no page, which begins past the
-- address space, nothing is said but that.
pub record IsOpen (place : ℕ → Option ℕ) (w : FetchPage) : Type 0 where
  pub within : w.first ≤ 2 ^ 24 → w.first + 1024 ≤ 2 ^ 24
  pub words : (at : ℕ) → IsIn w at → at < 2 ^ 24 → place (at * 4) ≡ Some (w.place + 4 * (at - w.first))
  pub gate : (at : ℕ) → IsIn w at → at * 4 ≢ 0x03800000
