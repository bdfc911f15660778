-- How the lines of a transcript go on, byte by byte.
use Rattle.std.proofs.Common.{◌≡◌, ◌≤◌, ◌<◌, ◌+◌, ℕ, Bool, List, ◌++◌, length, get_or, drop}
use Rattle.std.specs.Prelude.{◌==◌}
use Rattle.std.proofs.lemmas.List.{at_drop_more, at_drop_all}
use Rattle.profile.proofs.OutputLemmas.{AddsAllBut-start, AddsAllBut-more, AddsAllBut-same, Appends-from_all_but}
use Rattle.debug_program.specs.Spelling.{end_text, spelt_from, spelt_in}
use Rattle.debug_program.specs.declared.spelling.Side.{Side}

pub side_more : (side : Side) (is_first : Bool) (text : List ℕ) (place d : ℕ) → place < length text
    → spelt_from side is_first (drop place text)
    ≡ spelt_in side is_first (get_or text place d) ++ spelt_from side (get_or text place d == 10) (drop (place + 1) text)
side_more side is_first text place d within = at_drop_more (spelt_from side is_first) text place d within

pub side_end : (side : Side) (is_first : Bool) (text : List ℕ) (place : ℕ) → length text ≤ place
    → spelt_from side is_first (drop place text) ≡ end_text is_first
side_end side is_first text place all = at_drop_all (spelt_from side is_first) text place all

pub ruleset side_steps = (AddsAllBut-start, AddsAllBut-more, AddsAllBut-same, Appends-from_all_but, side_more, side_end)
