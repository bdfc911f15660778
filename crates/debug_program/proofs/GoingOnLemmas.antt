-- A script that is answered, and behind it what is typed.
use Rattle.std.proofs.Common.{◌≡◌, ◌⊎◌, inl, inr, ℕ, Bool, true, false, List, [], ◌++◌, Option, None, Some, IfSome, append_assoc, append-nil, ap, sym, subst, refl, ◌∙◌}
use Rattle.std.specs.Prelude.{option_map}
use Rattle.std.specs.Io.KnownBytes.{Appends, IsAtEnd}
use Rattle.profile.specs.images.Entries.{Entry}
use Rattle.profile.specs.Output.{AddsAllBut}
use Rattle.profile.proofs.OutputLemmas.{AddsAllBut-more, Appends-from_all_but}
use Rattle.debug_session.specs.DebugScript.{debug_script_answer, then_summary}
use Rattle.debug_session.specs.DebugState.{DebugAnswered, DebugState, debug_start_state}
use Rattle.debug_session.specs.ExitStatus.{debug_status}
use Rattle.debug_session.specs.Reports.{summary_text}
use Rattle.debug_session.specs.Session.{debug_state}
use Rattle.debug_session.specs.declared.session.DebugSession.{DebugSession}
use Rattle.debug_session.specs.declared.session.DebugSettings.{DebugSettings}
use Rattle.debug_program.specs.declared.typing.DebugTyping.{DebugTyping}
use Rattle.debug_program.specs.GoingOn.{DebugsBoth, IsStatusOfBoth, IsStatusOfBothScripts, ended_lines}
use Rattle.debug_program.specs.Talking.{DebugsInput, HasTalked, IsPlainTalk, IsStatusOfInput, debug_bytes_shown}
use Rattle.debug_program.proofs.TalkLemmas.{quit_shown, script_shown_by}

-- What a text and anything behind it are answered is what that is answered behind the text.
record IsBehind (old mid : DebugTyping) (images images_mid : List Entry) (before here : Option (List ℕ)) (bytes : List ℕ) : Type 0 where
  state : (typed : List ℕ)
      → (debug_bytes_shown old images (bytes ++ typed)).state ≡ (debug_bytes_shown mid images_mid typed).state
  text : IsPlainTalk old false → (typed : List ℕ) → AddsAllBut before here
      (debug_bytes_shown mid images_mid typed).text (debug_bytes_shown old images (bytes ++ typed)).text

-- where nothing is answered of what of the text was not read
behind_read : (old mid : DebugTyping) (images images_mid : List Entry) (before here : Option (List ℕ)) (bytes read rest : List ℕ)
    → bytes ≡ read ++ rest
    → ((typed : List ℕ) → debug_bytes_shown mid images_mid (rest ++ typed) ≡ debug_bytes_shown mid images_mid typed)
    → ((more : List ℕ) → (debug_bytes_shown old images (read ++ more)).state ≡ (debug_bytes_shown mid images_mid more).state)
    → (IsPlainTalk old false → (more : List ℕ)
    → AddsAllBut before here (debug_bytes_shown mid images_mid more).text (debug_bytes_shown old images (read ++ more)).text)
    → IsBehind old mid images images_mid before here bytes
behind_read old mid images images_mid before here bytes read rest all nothing state text = record {
  state = λ typed.
      ap (λ (xs : List ℕ). (debug_bytes_shown old images (xs ++ typed)).state) all
      ∙ ap (λ (xs : List ℕ). (debug_bytes_shown old images xs).state) (append_assoc read rest typed)
      ∙ state (rest ++ typed) ∙ ap (λ (a : DebugAnswered). a.state) (nothing typed);
  text = λ plain typed.
      subst (λ (xs : List ℕ). AddsAllBut before here (debug_bytes_shown mid images_mid typed).text
      (debug_bytes_shown old images (xs ++ typed)).text) (sym all)
      (subst (λ (xs : List ℕ). AddsAllBut before here (debug_bytes_shown mid images_mid typed).text
      (debug_bytes_shown old images xs).text) (sym (append_assoc read rest typed))
      (subst (λ (a : DebugAnswered). AddsAllBut before here a.text (debug_bytes_shown old images (read ++ (rest ++ typed))).text)
      (nothing typed) (text plain (rest ++ typed))));
}

is_behind : (old mid : DebugTyping) (images images_mid : List Entry) (input left before here : Option (List ℕ))
    → HasTalked old mid images images_mid input left before here false
    → (IsAtEnd left) ⊎ (mid.session.has_quit ≡ true)
    → IfSome input (IsBehind old mid images images_mid before here)
is_behind old mid images images_mid None left before here talked ends = tt
is_behind old mid images images_mid (Some bytes) None before here talked ends = absurd talked.of_input
is_behind old mid images images_mid (Some bytes) (Some rest) before here talked (inl end) =
    behind_read old mid images images_mid before here bytes talked.read rest talked.of_input
    (λ typed. ap (λ (xs : List ℕ). debug_bytes_shown mid images_mid (xs ++ typed)) end) talked.state talked.text
is_behind old mid images images_mid (Some bytes) (Some rest) before here talked (inr quit) =
    behind_read old mid images images_mid before here bytes talked.read rest talked.of_input
    (λ typed. quit_shown mid images_mid (rest ++ typed) quit ∙ sym (quit_shown mid images_mid typed quit)) talked.state talked.text

pub both_status : (old mid : DebugTyping) (images images_mid : List Entry) (script left before here input : Option (List ℕ)) (status : ℕ)
    → HasTalked old mid images images_mid (option_map ended_lines script) left before here false
    → (IsAtEnd left) ⊎ (mid.session.has_quit ≡ true)
    → IsStatusOfInput mid images_mid input status → IsStatusOfBoth old images script input status
both_status old mid images images_mid None left before here input status talked ends is = tt
both_status old mid images images_mid (Some lines) left before here None status talked ends is = tt
both_status old mid images images_mid (Some lines) left before here (Some typed) status talked ends is =
    is
    ∙ ap debug_status (sym ((is_behind old mid images images_mid (Some (ended_lines lines)) left before here talked ends).state typed))

-- the same text behind both
adds_behind : (a b : Option (List ℕ)) (rest all more : List ℕ) → AddsAllBut a b rest all → AddsAllBut a b (rest ++ more) (all ++ more)
adds_behind None b rest all more done = record { adds = tt }
adds_behind (Some a) b rest all more done = record {
  adds = record {
    part = done.adds.part;
    holds = done.adds.holds;
    whole = sym (append_assoc done.adds.part rest more) ∙ ap (λ (xs : List ℕ). xs ++ more) done.adds.whole;
  };
}

pub both_text : (old mid : DebugTyping) (images images_mid : List Entry) (script left before here input after : Option (List ℕ)) (is_terminal : Bool)
    → HasTalked old mid images images_mid (option_map ended_lines script) left before here false
    → (IsAtEnd left) ⊎ (mid.session.has_quit ≡ true)
    → DebugsInput mid images_mid is_terminal input here after → DebugsBoth old images is_terminal script input before after
both_text old mid images images_mid None left before here input after is_terminal talked ends typed_shown = tt
both_text old mid images images_mid (Some lines) left before here None after is_terminal talked ends typed_shown = tt
both_text old mid images images_mid (Some lines) left before here (Some typed) after is_terminal talked ends typed_shown =
    λ plain.
    let front : IsBehind old mid images images_mid before here (ended_lines lines) =
    is_behind old mid images images_mid (Some (ended_lines lines)) left before here talked ends in
    let own : IsPlainTalk mid is_terminal =
    record { form = ap (λ (c : DebugSettings). c.form) talked.setting ∙ plain.form; prompts = plain.prompts } in
    let reported : DebugAnswered = debug_bytes_shown mid images_mid typed in
    let all : DebugAnswered = debug_bytes_shown old images (ended_lines lines ++ typed) in
    let summary : List ℕ = summary_text old.session.setting.form all.state.tally in
    let same : summary_text mid.session.setting.form reported.state.tally ≡ summary =
    ap (λ (c : DebugSettings). summary_text c.form reported.state.tally) talked.setting
    ∙ ap (λ (d : DebugState). summary_text old.session.setting.form d.tally) (sym (front.state typed)) in
    let behind : Appends here after (reported.text ++ summary) =
    subst (λ (xs : List ℕ). Appends here after (reported.text ++ xs)) same (typed_shown own) in
    Appends-from_all_but before after [] (all.text ++ summary)
    (AddsAllBut-more before here after (reported.text ++ summary) (reported.text ++ summary) [] (all.text ++ summary)
    (adds_behind before here reported.text all.text summary (front.text (record { form = plain.form; prompts = refl }) typed)) behind
    (sym (append-nil (reported.text ++ summary)))) refl

pub status_of_both_scripts : (c : DebugSettings) (t : DebugTyping) (images : List Entry) (script input : Option (List ℕ)) (status : ℕ)
    → t.session.setting ≡ c → debug_state t.session images ≡ debug_start_state c images → t.pending.items ≡ [] → t.number ≡ 0
    → IsStatusOfBoth t images script input status → IsStatusOfBothScripts c images script input status
unfolding debug_script_answer
status_of_both_scripts c t images None input status setting state pending number is = tt
status_of_both_scripts c t images (Some lines) None status setting state pending number is = tt
status_of_both_scripts c t images (Some lines) (Some typed) status setting state pending number is =
    is ∙ ap (λ (a : DebugAnswered). debug_status a.state) (script_shown_by c t images (ended_lines lines ++ typed) setting state pending number)
