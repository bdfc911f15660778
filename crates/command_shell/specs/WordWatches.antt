-- WordWatches: words of memory, where a change of one ends a run.
use Rattle.std.specs.Prelude.{ℕ, Bool, true, false, ◌==◌, nat_le, length, List, [], ◌∷◌, ◌++◌, map, codes, Option, Some, None, Result, Ok, Err, if◌then◌else◌}
use Rattle.std.specs.List.{position, remove}
use Rattle.std.specs.Result.{result_ok}
use Rattle.profile.specs.Digits.{hex_number, hex_word}
use Rattle.debugger.specs.Bytes.{Bytes, word_loaded}
use Rattle.profile.specs.Firsts.{first_of}
unfoldable pub use Rattle.debugger.specs.Run.{is_among}
use Rattle.command_shell.specs.declared.watches.WordWatchError.{WordWatchError}
use Rattle.command_shell.specs.declared.watches.WordWatchError.TheVariants.{WatchTableFull, NoWatch}
use Rattle.command_shell.specs.declared.watches.WatchHit.{WatchHit}
use Rattle.command_shell.specs.declared.watches.WatchedWord.{WatchedWord}

-- WATCH: one more, which comes last; one that is there already is there once
abbrev pub with_word_watch : List ℕ → ℕ → Result (List ℕ) WordWatchError
with_word_watch watches address =
    if is_among watches address then Ok watches else (
    if nat_le 4 (length watches) then Err WatchTableFull else
    Ok (watches ++ address ∷ []))

-- UNWATCH: one less
abbrev pub without_watch_at : List ℕ → Option ℕ → Result (List ℕ) WordWatchError
without_watch_at watches None = Err NoWatch
without_watch_at watches (Some place) = Ok (remove watches place)

abbrev pub without_word_watch : List ℕ → ℕ → Result (List ℕ) WordWatchError
without_word_watch watches address = without_watch_at watches (position (λ w. w == address) watches)

-- a word of memory, where it is mapped
abbrev pub mapped_word : Bytes → ℕ → Option ℕ
mapped_word b address = result_ok (word_loaded b address)

abbrev pub is_unchanged_word : Option ℕ → Option ℕ → Bool
is_unchanged_word None None = true
is_unchanged_word (Some x) (Some y) = x == y
is_unchanged_word _ _ = false

-- what a watch reports a word that was this, and is that
abbrev pub hit_unless_same : ℕ → Option ℕ → Option ℕ → Option WatchHit
hit_unless_same address was now =
    if is_unchanged_word was now then None else Some (record { address = address; now = now; was = was })

-- the change of a watched word between two memories
abbrev pub watched_change : Bytes → Bytes → ℕ → Option WatchHit
watched_change before after address =
    hit_unless_same address (mapped_word before address) (mapped_word after address)

-- the first change of those that are watched, in the order of the table
abbrev pub watch_hit : List ℕ → Bytes → Bytes → Option WatchHit
watch_hit watches before after = first_of (watched_change before after) watches

-- as the code keeps the words before a step
abbrev pub watched_words : List ℕ → Bytes → List WatchedWord
watched_words watches b = map (λ address. record { address = address; was = mapped_word b address }) watches

abbrev pub change_of_word : Bytes → WatchedWord → Option WatchHit
change_of_word after word = hit_unless_same word.address word.was (mapped_word after word.address)

-- `stop Watch &9000 00000005 was 00000000`
abbrev pub mapped_word_text : Option ℕ → List ℕ
mapped_word_text None = codes "--------"
mapped_word_text (Some word) = hex_word word

abbrev pub was_text : Option ℕ → List ℕ
was_text was = codes " was " ++ (mapped_word_text was ++ codes "\n")

abbrev pub watch_change_text : WatchHit → List ℕ
watch_change_text hit = codes " " ++ (mapped_word_text hit.now ++ was_text hit.was)

abbrev pub watched_text : ℕ → List ℕ
watched_text address = codes "stop Watch &" ++ hex_number address

abbrev pub watch_text : WatchHit → List ℕ
watch_text hit = watched_text hit.address ++ watch_change_text hit

-- the names of the refusals
abbrev pub watch_error_name : WordWatchError → List ℕ
watch_error_name WatchTableFull = codes "WatchTableFull"
watch_error_name NoWatch = codes "NoWatch"
