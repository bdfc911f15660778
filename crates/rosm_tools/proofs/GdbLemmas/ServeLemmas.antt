-- The whole run, by its parts.
use Rattle.std.proofs.Common.{◌≡◌, ℕ, Bool, false, List, [], Option, None, Some, refl, ap, subst, ◌∙◌}
use Rattle.std.proofs.lemmas.List.{append-nil}
use Rattle.std.specs.Io.Buffered.{writer_buffer, writer_contents, writer_inner}
use Rattle.std.specs.Io.KnownBytes.{append_known, Appends, Keeps}
use Rattle.std.specs.declared.io.buffered.BufWriter.{BufWriter}
use Rattle.std.proofs.KnownBytes.{Appends-kept}
use Rattle.profile.specs.declared.stop.Stop.{Stop}
use Rattle.profile.specs.images.Entries.{Entry}
use Rattle.gdb_server.specs.session.Runs.{begin_shown, begun_anew}
use Rattle.gdb_server.specs.session.State.{GdbState, gdb_start}
use Rattle.gdb_server.specs.Serving.{ServerState}
use Rattle.rosm_settings.specs.ImageFiles.{AddsFiles}
use Rattle.rosm_tools.specs.gdb.Serving.{IsAllSent, ServesGdb, ServesStream, StopsWithGdb, gdb_shown, server_begun, settings_wanted, start_shown}
use Rattle.rosm_settings.specs.gdb.Start.{AreFirstLines}
use Rattle.rosm_tools.specs.gdb.Streams.{EndsWithInput}
use Rattle.rosm_settings.specs.declared.gdb.words.WantedGdb.{WantedGdb}

empty_known : (known : Option (List ℕ)) → append_known known [] ≡ known
empty_known None = refl
empty_known (Some held) = ap (λ (xs : List ℕ). Some xs) (append-nil held)

-- a buffer that holds nothing back yet
pub buffer_begins : {T A : Type 0} (contents : T → Option (List ℕ)) (w d : BufWriter T A) (stream : T) → d ≡ w
    → writer_inner w ≡ stream → writer_buffer w ≡ [] → writer_contents contents d ≡ contents stream
buffer_begins contents w d stream same inner empty =
    ap (λ x. writer_contents contents x) same ∙ ap (λ x. append_known (contents x) (writer_buffer w)) inner
    ∙ ap (λ (bytes : List ℕ). append_known (contents stream) bytes) empty ∙ empty_known (contents stream)

-- files that are taken in where there is no image
pub files_from_none : {F : Type 0} (of_file : F → Option (List ℕ)) (none : List Entry) (paths : List (List ℕ)) (images : List Entry)
    → none ≡ [] → AddsFiles of_file none paths images → AddsFiles of_file [] paths images
files_from_none of_file none paths images is added =
    subst (λ (o : List Entry). AddsFiles of_file o paths images) is added

-- the session before the lines that a machine begins with
pub session_starts : (wanted : WantedGdb) (start first : List ℕ) (images : List Entry) (old : GdbState) → first ≡ start
    → old ≡ gdb_start (settings_wanted wanted) first images → old ≡ gdb_start (settings_wanted wanted) start images
session_starts wanted start first images old of_start is =
    is ∙ ap (λ (lines : List ℕ). gdb_start (settings_wanted wanted) lines images) of_start

-- and after them
pub session_begun : (wanted : WantedGdb) (start : List ℕ) (images : List Entry) (old now : GdbState)
    → old ≡ gdb_start (settings_wanted wanted) start images → now ≡ begun_anew old (begin_shown old)
    → now ≡ begun_anew (gdb_start (settings_wanted wanted) start images) (start_shown wanted start images)
session_begun wanted start images old now of_old is = is ∙ ap (λ (g : GdbState). begun_anew g (begin_shown g)) of_old

-- what they are answered
pub start_text : (wanted : WantedGdb) (start : List ℕ) (images : List Entry) (old : GdbState) (text : List ℕ)
    → old ≡ gdb_start (settings_wanted wanted) start images → text ≡ (begin_shown old).text
    → text ≡ (start_shown wanted start images).text
start_text wanted start images old text of_old is = is ∙ ap (λ (g : GdbState). (begin_shown g).text) of_old

pub serves_gdb : {F : Type 0} (of_file : F → Option (List ℕ)) (wanted : WantedGdb) (images : List Entry) (start : List ℕ)
    (s now : ServerState) (input left before after shown_before shown_after : Option (List ℕ)) (untold : Bool)
    (last : Option Stop) → AddsFiles of_file [] wanted.settings.files images → AreFirstLines of_file wanted start
    → (untold ≡ false → Appends shown_before shown_after (start_shown wanted start images).text)
    → s ≡ server_begun wanted start images → ServesStream of_file wanted input left before after s now last
    → ServesGdb of_file wanted input before after shown_before shown_after untold last
serves_gdb of_file wanted images start s now input left before after shown_before shown_after untold last
    files lines reported of_state served =
    let all : EndsWithInput of_file wanted input left before served.buffered (server_begun wanted start images) now =
    subst (λ (u : ServerState). EndsWithInput of_file wanted input left before served.buffered u now) of_state served.ends in
    let state : now ≡ (gdb_shown wanted start images all.answers.answers.sent).state = all.answers.answers.served.state in
    record {
      images = images;
      start = start;
      files = files;
      lines = lines;
      first = reported;
      sent = all.answers.answers.sent;
      all = record {
        read = all.answers.read;
        left = left;
        are = all.answers.answers.are;
        of_input = all.answers.of_input;
        ends = λ goes. all.ends (ap (λ (u : ServerState). u.session.has_ended) state ∙ goes);
      };
      text = Appends-kept before served.buffered after _ all.answers.answers.served.text served.kept;
      stop = served.stop ∙ ap (λ (u : ServerState). u.session.debug.script.last) state;
    }

-- a stream whose answers went through a buffer
pub serves_stream : {F : Type 0} (of_file : F → Option (List ℕ)) (wanted : WantedGdb)
    (input left begins before mid after : Option (List ℕ)) (old now : ServerState) (last : Option Stop) → begins ≡ before
    → EndsWithInput of_file wanted input left begins mid old now → Keeps mid after → last ≡ now.session.debug.script.last
    → ServesStream of_file wanted input left before after old now last
serves_stream of_file wanted input left begins before mid after old now last same ends kept is = record {
  buffered = mid;
  ends = subst (λ (x : Option (List ℕ)). EndsWithInput of_file wanted input left x mid old now) same ends;
  kept = kept;
  stop = is;
}

-- the last stop of what a reader shows
pub stops_with_gdb : {F R : Type 0} (of_file : F → Option (List ℕ)) (of_reader : R → Option (List ℕ)) (wanted : WantedGdb)
    (reader : R) (input before after shown_before shown_after : Option (List ℕ)) (untold : Bool) (last : Option Stop)
    → input ≡ of_reader reader → ServesGdb of_file wanted input before after shown_before shown_after untold last
    → StopsWithGdb of_file of_reader wanted last
stops_with_gdb of_file of_reader wanted reader input before after shown_before shown_after untold last of_input serves = record {
  reader = reader;
  images = serves.images;
  start = serves.start;
  files = serves.files;
  lines = serves.lines;
  sent = serves.sent;
  all = subst (λ (bytes : Option (List ℕ)). IsAllSent of_file wanted bytes serves.sent
      (gdb_shown wanted serves.start serves.images serves.sent)) of_input serves.all;
  stop = serves.stop;
}
