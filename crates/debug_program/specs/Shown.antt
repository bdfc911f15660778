-- What a terminal is shown of a piece of the answers: where what the guest printed leaves a line open,
-- how the steps ended stands on a line of its own.
use Rattle.std.specs.Prelude.{ℕ, not, ◌&&◌, Bool, false, List, ◌∷◌, if◌then◌else◌}
use Rattle.debug_session.specs.Endings.{begins_ending}
use Rattle.debug_program.specs.GoingOn.{is_open_behind}

-- whether a piece is how steps ended: it begins so, and has its line's end
abbrev pub is_ending_line : List ℕ → Bool
is_ending_line piece = begins_ending piece && not (is_open_behind false piece)

abbrev pub shown_piece : Bool → List ℕ → List ℕ
shown_piece is_line_open piece = if is_line_open && is_ending_line piece then 10 ∷ piece else piece
