-- Where module code finds what is its own (the layout is this project's own).
use Rattle.std.specs.Prelude.{ℕ, ◌+◌, ◌*◌}

-- the private word of the instance in a slot
abbrev pub private_of : ℕ → ℕ
private_of slot = 0x01C02000 + 4 * slot
