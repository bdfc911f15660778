-- How the bytes that are watched go on.
use Rattle.std.proofs.Common.{◌≡◌, ◌<◌, ◌≤◌, ◌+◌, ◌-◌, ℕ, suc, true, false, List, [], ◌∷◌, ◌++◌, length, drop, get_or, append_assoc, refl, ap, sym, ◌∙◌, arith, drop-cons, add-one, length-drop}
use Rattle.std.specs.Prelude.{Some, None, if◌then◌else◌}
use Rattle.std.proofs.lemmas.List.{append-nil}
use Rattle.address_map.specs.Bytes.{Bytes}
use Rattle.gdb_machine.specs.declared.watches.SeenByte.{SeenByte}
use Rattle.gdb_machine.specs.declared.watches.Watch.{Watch}
use Rattle.gdb_machine.specs.declared.watches.WatchKind.{WatchKind}
use Rattle.gdb_machine.specs.Memory.{bytes_further}
use Rattle.gdb_machine.specs.Watches.{byte_seen, bytes_of_watch, bytes_seen, first_changed, is_byte_changed, watched_bytes}

seen_suc : (b : Bytes) (k : WatchKind) (a left : ℕ)
    → bytes_seen b k a (suc left) ≡ byte_seen b k a ∷ bytes_seen b k (bytes_further a 1) left
unfolding bytes_seen
seen_suc b k a left = refl

seen_next : (b : Bytes) (k : WatchKind) (a left : ℕ) → 0 < left
    → bytes_seen b k a left ≡ byte_seen b k a ∷ bytes_seen b k (bytes_further a 1) (left - 1)
seen_next b k a left some =
    let split : left ≡ suc (left - 1) = omega arith in
    ap (bytes_seen b k a) split ∙ seen_suc b k a (left - 1)

pub seen_more : (b : Bytes) (k : WatchKind) (a left : ℕ) (done all : List SeenByte) → 0 < left → done ++ bytes_seen b k a left ≡ all
    → (done ++ byte_seen b k a ∷ []) ++ bytes_seen b k (bytes_further a 1) (left - 1) ≡ all
seen_more b k a left done all some so =
    append_assoc done (byte_seen b k a ∷ []) (bytes_seen b k (bytes_further a 1) (left - 1))
    ∙ ap (λ (xs : List SeenByte). done ++ xs) (sym (seen_next b k a left some)) ∙ so

none_seen : (b : Bytes) (k : WatchKind) (a left : ℕ) → left ≡ 0 → bytes_seen b k a left ≡ []
unfolding bytes_seen
none_seen b k a left e = rw e refl

pub seen_end : (b : Bytes) (k : WatchKind) (a left : ℕ) (done all : List SeenByte) → left ≡ 0
    → done ++ bytes_seen b k a left ≡ all → done ≡ all
seen_end b k a left done all none so =
    sym (append-nil done) ∙ ap (λ (xs : List SeenByte). done ++ xs) (sym (none_seen b k a left none)) ∙ so

pub ruleset seen_steps = (seen_more, seen_end)

none_watched : (b : Bytes) (watches : List Watch) → length watches ≡ 0 → watched_bytes b watches ≡ []
none_watched b [] none = refl
none_watched b (r ∷ others) none = absurd (omega (arith, none))

-- one watch more
pub watch_more : (b : Bytes) (watches : List Watch) (i : ℕ) (d : Watch) (done all : List SeenByte) → i < length watches
    → done ++ watched_bytes b (drop i watches) ≡ all
    → (done ++ bytes_of_watch b (get_or watches i d)) ++ watched_bytes b (drop (i + 1) watches) ≡ all
watch_more b watches i d done all within so =
    let w = get_or watches i d in
    let split : drop i watches ≡ w ∷ drop (i + 1) watches =
    drop-cons watches i d within ∙ ap (λ (k : ℕ). w ∷ drop k watches) (sym (add-one i)) in
    append_assoc done (bytes_of_watch b w) (watched_bytes b (drop (i + 1) watches))
    ∙ ap (λ (xs : List SeenByte). done ++ xs) (sym (ap (watched_bytes b) split)) ∙ so

pub watch_end : (b : Bytes) (watches : List Watch) (i : ℕ) (done all : List SeenByte) → length watches ≤ i
    → done ++ watched_bytes b (drop i watches) ≡ all → done ≡ all
watch_end b watches i done all past so =
    sym (append-nil done) ∙ ap (λ (xs : List SeenByte). done ++ xs) (sym (none_watched b (drop i watches) (omega (arith, length-drop i watches)))) ∙ so

pub ruleset watch_steps = (watch_more, watch_end)

changed_suc : (b : Bytes) (seen : SeenByte) (others : List SeenByte)
    → first_changed b (seen ∷ others) ≡ (if is_byte_changed b seen then Some seen.place else first_changed b others)
unfolding first_changed
changed_suc b seen others = refl

none_changed : (b : Bytes) (seen : List SeenByte) → length seen ≡ 0 → first_changed b seen ≡ None
unfolding first_changed
none_changed b [] none = refl
none_changed b (s ∷ others) none = absurd (omega (arith, none))

at_place : (b : Bytes) (seen : List SeenByte) (i : ℕ) (d : SeenByte) → i < length seen
    → first_changed b (drop i seen)
    ≡ (if is_byte_changed b (get_or seen i d) then Some (get_or seen i d).place else first_changed b (drop (i + 1) seen))
at_place b seen i d within =
    let s = get_or seen i d in
    let split : drop i seen ≡ s ∷ drop (i + 1) seen =
    drop-cons seen i d within ∙ ap (λ (k : ℕ). s ∷ drop k seen) (sym (add-one i)) in
    ap (first_changed b) split ∙ changed_suc b s (drop (i + 1) seen)

-- a byte that is as it was seen, or not
pub changed_here : (b : Bytes) (seen : List SeenByte) (i : ℕ) (d : SeenByte) → i < length seen
    → is_byte_changed b (get_or seen i d) ≡ true → first_changed b (drop i seen) ≡ Some (get_or seen i d).place
changed_here b seen i d within is = at_place b seen i d within ∙ rw is refl

pub changed_later : (b : Bytes) (seen : List SeenByte) (i : ℕ) (d : SeenByte) → i < length seen
    → is_byte_changed b (get_or seen i d) ≡ false → first_changed b (drop i seen) ≡ first_changed b (drop (i + 1) seen)
changed_later b seen i d within is = at_place b seen i d within ∙ rw is refl

pub changed_nowhere : (b : Bytes) (seen : List SeenByte) (i : ℕ) → length seen ≤ i → first_changed b (drop i seen) ≡ None
changed_nowhere b seen i past = none_changed b (drop i seen) (omega (arith, length-drop i seen))

pub ruleset changed_steps = (changed_here, changed_later, changed_nowhere)
