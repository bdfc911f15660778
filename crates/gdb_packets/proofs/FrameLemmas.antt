-- How the bytes of a packet are written one after another, and their sum.
use Rattle.std.proofs.Common.{ℕ, List, [], ◌∷◌, ◌++◌, Option}
use Rattle.std.specs.Io.KnownBytes.{Appends}
use Rattle.profile.proofs.OutputLemmas.{AddsAllBut-start, AddsAllBut-more, AddsAllBut-same, Appends-from_all_but, Appends-join}
use Rattle.gdb_packets.specs.Frames.{frame_end, packet_frame, sent_bytes}

-- `$`, the bytes, and the end
pub framed_written : (a b c d : Option (List ℕ)) (packet : List ℕ) → Appends a b (36 ∷ [])
    → Appends b c (sent_bytes packet) → Appends c d (frame_end (sent_bytes packet)) → Appends a d (packet_frame packet)
framed_written a b c d packet first middle last =
    Appends-join a b d (36 ∷ []) (sent_bytes packet ++ frame_end (sent_bytes packet)) first
    (Appends-join b c d (sent_bytes packet) (frame_end (sent_bytes packet)) middle last)

pub ruleset frame_steps =
    (AddsAllBut-start, AddsAllBut-more, AddsAllBut-same, Appends-from_all_but, framed_written)
