-- Watches: bytes and their values as they were seen, and the first of them that is no longer so; and the first
-- watch that an instruction strikes by what it loads, or stores to.
use Rattle.std.specs.Prelude.{ℕ, zero, suc, ◌+◌, ◌*◌, ◌==◌, ◌&&◌, ◌||◌, not, Bool, true, false, nat_lt, List, [], ◌∷◌, ◌++◌, length, remove, Option, Some, None, option_map, slice_get, Result, Ok, Err, if◌then◌else◌}
use Rattle.std.specs.List.{flat_map, position}
use Rattle.profile.specs.Fault.{Fault}
use Rattle.address_map.specs.Bytes.{Bytes, byte_loaded}
use Rattle.gdb_packets.specs.declared.requests.ByteRange.{ByteRange}
use Rattle.arm_core.specs.State.{State}
use Rattle.trace_effects.specs.Cause.{cause_of}
use Rattle.trace_effects.specs.Loaded.{loaded_words}
use Rattle.trace_effects.specs.Stored.{stored_words}
use Rattle.trace_effects.specs.declared.stored.StoredWords.{StoredWords}
use Rattle.gdb_machine.specs.declared.watches.SeenByte.{SeenByte}
use Rattle.gdb_machine.specs.declared.watches.Watch.{Watch}
use Rattle.gdb_machine.specs.declared.watches.WatchedPlace.{WatchedPlace}
use Rattle.gdb_machine.specs.declared.watches.WatchKind.{WatchKind}
use Rattle.gdb_machine.specs.declared.watches.WatchKind.TheVariants as kind
use Rattle.gdb_machine.specs.declared.watches.WatchError.{WatchError}
use Rattle.gdb_machine.specs.declared.watches.WatchError.TheVariants as refusal
use Rattle.gdb_machine.specs.Memory.{bytes_further}

abbrev pub most_watches : ℕ
most_watches = 8

abbrev pub most_watched : ℕ
most_watched = 64

abbrev pub is_same_kind : WatchKind → WatchKind → Bool
is_same_kind kind.Store kind.Store = true
is_same_kind kind.Load kind.Load = true
is_same_kind kind.Access kind.Access = true
is_same_kind k l = false

abbrev pub is_same_watch : Watch → Watch → Bool
is_same_watch w v = is_same_kind w.kind v.kind && (w.range.start == v.range.start && w.range.count ==
    v.range.count)

abbrev pub watch_place : List Watch → Watch → Option ℕ
watch_place watches watch = position (λ w. is_same_watch w watch) watches

abbrev pub watched_more : Option ℕ → List Watch → Watch → Result (List Watch) WatchError
watched_more (Some place) watches watch = Ok watches
watched_more None watches watch =
    if length watches == most_watches then Err refusal.WatchTableFull else Ok (watches ++ watch ∷ [])

-- one more, of 1 to 64 bytes; one that is there already is there once
abbrev pub with_watch : List Watch → Watch → Result (List Watch) WatchError
with_watch watches watch =
    if watch.range.count == 0 || nat_lt most_watched watch.range.count then Err refusal.BadLength
    else watched_more (watch_place watches watch) watches watch

abbrev pub watches_without : Option ℕ → List Watch → List Watch
watches_without None watches = watches
watches_without (Some place) watches = remove watches place

-- one less, where it is there
abbrev pub without_watch : List Watch → Watch → List Watch
without_watch watches watch = watches_without (watch_place watches watch) watches

-- CHANGES

-- the byte at an address; none where no memory is mapped
abbrev pub loaded_byte : Result ℕ Fault → Option ℕ
loaded_byte (Ok byte) = Some byte
loaded_byte (Err fault) = None

abbrev pub byte_seen : Bytes → WatchKind → ℕ → SeenByte
byte_seen b k address =
    record { place = record { kind = k; address = address }; value = loaded_byte (byte_loaded b address) }

-- so many bytes from an address on
unfoldable pub bytes_seen : Bytes → WatchKind → ℕ → ℕ → List SeenByte
bytes_seen b k address zero = []
bytes_seen b k address (suc count) = byte_seen b k address ∷ bytes_seen b k (bytes_further address 1) count

-- a change strikes no watch of loads alone
abbrev pub bytes_of_watch : Bytes → Watch → List SeenByte
bytes_of_watch b w =
    if is_same_kind w.kind kind.Load then [] else bytes_seen b w.kind w.range.start w.range.count

-- the bytes whose change strikes a watch, as they are
abbrev pub watched_bytes : Bytes → List Watch → List SeenByte
watched_bytes b watches = flat_map (bytes_of_watch b) watches

abbrev pub is_same_value : Option ℕ → Option ℕ → Bool
is_same_value (Some x) (Some y) = x == y
is_same_value None None = true
is_same_value (Some x) None = false
is_same_value None (Some y) = false

abbrev pub is_byte_changed : Bytes → SeenByte → Bool
is_byte_changed b seen = not (is_same_value (loaded_byte (byte_loaded b seen.place.address)) seen.value)

-- the place of the first byte that is no longer as it was seen
unfoldable pub first_changed : Bytes → List SeenByte → Option WatchedPlace
first_changed b [] = None
first_changed b (seen ∷ others) = if is_byte_changed b seen then Some seen.place else first_changed b others

-- LOADS AND STORES

-- whether one of so many words has a byte of a range
abbrev pub reaches : StoredWords → ByteRange → Bool
reaches words range = nat_lt range.start (words.at + 4 * words.count) && nat_lt words.at
    (range.start + range.count)

abbrev pub strikes_kind : WatchKind → Bool → Bool → Bool
strikes_kind kind.Store loads stores = false
strikes_kind kind.Load loads stores = loads
strikes_kind kind.Access loads stores = loads || stores

-- whether a watch is struck where these words are loaded and those stored to
abbrev pub is_struck : StoredWords → StoredWords → Watch → Bool
is_struck loaded stored w = strikes_kind w.kind (reaches loaded w.range) (reaches stored w.range)

abbrev pub place_of_watch : Watch → WatchedPlace
place_of_watch w = record { kind = w.kind; address = w.range.start }

abbrev pub place_at : Option ℕ → List Watch → Option WatchedPlace
place_at None watches = None
place_at (Some n) watches = option_map place_of_watch (slice_get watches n)

-- where the instruction at the program counter strikes a watch by what it loads, or stores to
abbrev pub struck_place : State → Bytes → List Watch → Option WatchedPlace
struck_place s b watches = place_at
    (position (is_struck (loaded_words (cause_of s b) s) (stored_words (cause_of s b) s)) watches) watches
