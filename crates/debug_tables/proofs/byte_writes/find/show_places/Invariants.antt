use Rattle.std.proofs.Common.{◌≡◌, ◌≤◌, ◌+◌, ◌-◌, length, take}
use Rattle.std.specs.List.{flat_map}
use Rattle.profile.specs.Output.{AddsAllBut}
use Rattle.address_map.specs.Memory.{bytes_of}
use Rattle.debug_tables.specs.byte_writes.Find.{place_text, byte_places}
use Rattle.debug_tables.proofs.byte_writes.find.show_places.Given as goal

-- the places so far, and those among the addresses that are left, are all
abbrev pub invariant-loop-place : goal.invariant-loop-place
invariant-loop-place g l = record {
  text : AddsAllBut (g.W.Sink.contents l.fn.sink) (g.W.Sink.contents l.sink)
      (flat_map place_text (take (64 - l.found) (byte_places (bytes_of l.map) l.at (l.count - l._place) l.bytes)))
      (flat_map place_text (take 64 (byte_places (bytes_of l.map) l.address l.count l.bytes)));
  same_flag : g.W.Sink.has_failed l.sink ≡ g.W.Sink.has_failed l.fn.sink;
  found : l.found + length (byte_places (bytes_of l.map) l.at (l.count - l._place) l.bytes)
      ≡ length (byte_places (bytes_of l.map) l.address l.count l.bytes);
  few : l.found ≤ l._place;
}
