-- GDB's bytes, however they are cut.
use Rattle.std.specs.Prelude.{◌≡◌, ℕ, List, ◌++◌}
use Rattle.gdb_server.specs.Serving.{ServerState, bytes_served, then_served}

-- Two pieces, one after the other, are served as the two in one.
abbrev pub PiecesAreServed : Type 0
PiecesAreServed = (first next : List ℕ) (s : ServerState)
    → bytes_served (first ++ next) s ≡ then_served (bytes_served first s) (bytes_served next)
