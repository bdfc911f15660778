-- The loop that writes the lines of a text as remarks.
use Rattle.std.proofs.Common.{◌≡◌, ℕ, List, [], ◌∷◌, Option, ap}
use Rattle.std.specs.Io.KnownBytes.{Appends}
use Rattle.std.specs.List.{flat_map}
use Rattle.profile.specs.Output.{AddsAllBut}
use Rattle.profile.proofs.OutputLemmas.{AddsAllBut-more, Appends-from_all_but}
use Rattle.debug_modes.specs.expectations.reports.Reports.{tap_remark}

pub remark_more : (a b c : Option (List ℕ)) (line : List ℕ) (left rest : List (List ℕ)) (all : List ℕ)
    → AddsAllBut a b (flat_map tap_remark left) all → Appends b c (tap_remark line) → left ≡ line ∷ rest
    → AddsAllBut a c (flat_map tap_remark rest) all
remark_more a b c line left rest all done now e = AddsAllBut-more a b c _ _ _ all done now (ap (flat_map tap_remark) e)

pub remarks_end : (a b : Option (List ℕ)) (left : List (List ℕ)) (all : List ℕ)
    → AddsAllBut a b (flat_map tap_remark left) all → left ≡ [] → Appends a b all
remarks_end a b left all done e = Appends-from_all_but a b _ all done (ap (flat_map tap_remark) e)

pub ruleset remark_steps = (remark_more, remarks_end)
