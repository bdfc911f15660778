-- The sizes of a machine in pages, and which of them a machine can have.
use Rattle.std.specs.Prelude.{◌≤◌, ◌+◌, ℕ, Bool, nat_le, ◌&&◌, Option, Some, None, if◌then◌else◌}

pub record Sizes : Type 0 where
  pub pages : ℕ
  pub app : ℕ
  pub rma : ℕ

-- A page of application space and one of module area at least, 1024 pages at most, and room for the
-- three system pages.
pub record AreGood (s : Sizes) : Type 0 where
  pub has_app : 1 ≤ s.app
  pub has_rma : 1 ≤ s.rma
  pub in_limit : s.pages ≤ 1024
  pub has_room : s.app + s.rma + 3 ≤ s.pages

abbrev pub are_good : ℕ → ℕ → ℕ → Bool
are_good pages app rma = nat_le 1 app && nat_le 1 rma && nat_le pages 1024 && nat_le (app + rma + 3) pages

-- `Config::new`: the three numbers where a machine can have them.
abbrev pub config_of : ℕ → ℕ → ℕ → Option Sizes
config_of pages app rma = if are_good pages app rma then Some (record { pages = pages; app = app; rma = rma })
    else None
