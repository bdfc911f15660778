-- Pieces of an input that are answered one after another, up to its end.
use Rattle.std.proofs.Common.{◌≡◌, ◌⊎◌, inl, inr, ℕ, Bool, true, false, List, [], ◌++◌, length, Option, None, Some, IfSome, append_assoc, append-nil, ap, sym, subst, refl, take, Result, Ok, Err, ◌∙◌}
use Rattle.std.specs.Prelude.{IfErr, OnOk}
use Rattle.std.specs.Result.{IsErrAnd}
use Rattle.std.specs.Io.KnownBytes.{Appends, Consumes, IsAtEnd, Keeps}
use Rattle.std.specs.Str.Lines.{lines}
use Rattle.std.proofs.KnownBytes.{Consumes-nil, Consumes-trans}
use Rattle.debug_session.specs.RunError.{RunError}
use Rattle.debug_session.specs.RunError.TheVariants.{Memory, ReadFault, ScriptTooLong, WriteFault}
use Rattle.profile.specs.images.Entries.{Entry}
use Rattle.profile.specs.Devices.{device_inner}
use Rattle.profile.specs.Output.{AddsAllBut, AddsFront}
use Rattle.profile.specs.declared.device.Device.{Device}
use Rattle.profile.proofs.KnownLemmas.{Keeps-self}
use Rattle.profile.proofs.OutputLemmas.{AddsAllBut-more, AddsAllBut-start, Appends-from_all_but, Appends-join}
use Rattle.debug_session.specs.DebugScript.{debug_lines_answer, debug_script_answer, then_summary}
use Rattle.debug_session.specs.DebugState.{DebugAnswered, DebugState, IsDebugTypingError, IsDebugged, debug_start_state}
use Rattle.debug_session.specs.ExitStatus.{debug_status}
use Rattle.debug_session.specs.Reports.{summary_text}
use Rattle.debug_session.specs.Session.{debug_state}
use Rattle.debug_program.specs.Typing.{IsTaken, IsTakenInPart}
use Rattle.debug_session.specs.DebugChecksReportForm.TheVariants.{Answers}
use Rattle.debug_session.specs.declared.session.DebugSession.{DebugSession}
use Rattle.debug_session.specs.declared.session.DebugSettings.{DebugSettings}
use Rattle.debug_program.specs.declared.typing.DebugTyping.{DebugTyping}
use Rattle.debug_session.proofs.LineLemmas.{none_answer}
use Rattle.debug_session.proofs.FailLemmas.{front_start, front_then}
use Rattle.debug_program.proofs.ResultLemmas.{FailsIn, fails_by, fails_in}
use Rattle.debug_program.proofs.TakenLemmas.{part_answer, piece_answer}
use Rattle.debug_program.specs.Talking.{BeginsInput, BeginsWhereFailed, DebugsInput, HasTalked, IsPlainTalk, IsStatusOfInput, IsStatusOfScript, TakesPiece, TakesPieceInPart, debug_bytes_shown}

keeps_nothing : (a b : Option (List ℕ)) → Keeps a b → Appends a b []
keeps_nothing None b kept = tt
keeps_nothing (Some a) None kept = absurd kept
keeps_nothing (Some a) (Some b) kept = kept ∙ sym (append-nil a)

appends_kept : (a b c : Option (List ℕ)) (text : List ℕ) → Appends a b text → Keeps b c → Appends a c text
appends_kept a b c text done kept =
    subst (λ (xs : List ℕ). Appends a c xs) (append-nil text) (Appends-join a b c text [] done (keeps_nothing b c kept))

-- PIECES

pub talked_none : (t : DebugTyping) (images : List Entry) (input held : Option (List ℕ)) (is_terminal : Bool)
    → HasTalked t t images images input input held held is_terminal
talked_none t images input held is_terminal = record {
  read = [];
  of_input = Consumes-nil input;
  setting = refl;
  state = λ rest. refl;
  text = λ plain rest. AddsAllBut-start held (debug_bytes_shown t images rest).text;
}

-- one piece more, before which a prompt may stand
pub talked_more : (old t now : DebugTyping) (images images_t images_now : List Entry)
    (input left next before here handed after : Option (List ℕ)) (is_terminal : Bool) (piece : List ℕ)
    → HasTalked old t images images_t input left before here is_terminal → Consumes left next piece
    → (is_terminal ≡ false → Keeps here handed)
    → TakesPiece t now images_t images_now handed after piece → now.session.setting ≡ t.session.setting
    → HasTalked old now images images_now input next before after is_terminal
talked_more old t now images images_t images_now input left next before here handed after is_terminal piece so_far takes kept taken setting =
    let reported : (rest : List ℕ) → debug_bytes_shown t images_t (piece ++ rest) ≡ _ =
    λ rest. piece_answer t now images_t images_now taken.between after piece rest taken.taken setting in
    record {
      read = so_far.read ++ piece;
      of_input = Consumes-trans input left next so_far.read piece so_far.of_input takes;
      setting = setting ∙ so_far.setting;
      state = λ rest.
          ap (λ (bytes : List ℕ). (debug_bytes_shown old images bytes).state) (append_assoc so_far.read piece rest)
          ∙ so_far.state (piece ++ rest) ∙ ap (λ (a : DebugAnswered). a.state) (reported rest);
      text = λ plain rest.
          let whole = so_far.text plain (piece ++ rest) in
          let there = AddsAllBut-more before here handed (debug_bytes_shown t images_t (piece ++ rest)).text []
          (debug_bytes_shown t images_t (piece ++ rest)).text (debug_bytes_shown old images (so_far.read ++ (piece ++ rest))).text
          whole (keeps_nothing here handed (kept plain.prompts)) refl in
          let form = ap (λ (c : DebugSettings). c.form) so_far.setting ∙ plain.form in
          let answered : List ℕ = (debug_lines_answer t.session.setting t.number (debug_state t.session images_t)
          (lines (take taken.taken.count (t.pending.items ++ piece)))).text in
          let appended = subst (λ (w : Option (List ℕ)). Appends w after answered) (taken.plain form) taken.taken.reported.text in
          subst (λ (bytes : List ℕ). AddsAllBut before after (debug_bytes_shown now images_now rest).text
          (debug_bytes_shown old images bytes).text) (sym (append_assoc so_far.read piece rest))
          (AddsAllBut-more before handed after (debug_bytes_shown t images_t (piece ++ rest)).text answered (debug_bytes_shown now images_now rest).text
          (debug_bytes_shown old images (so_far.read ++ (piece ++ rest))).text there appended
          (ap (λ (a : DebugAnswered). a.text) (reported rest)));
    }

-- a piece that was taken, behind what stands before it
pub takes_so : {A E : Type 0} (r : Result A E) (old now : DebugTyping) (images images_now : List Entry)
    (before between after : Option (List ℕ)) (piece : List ℕ) → (old.session.setting.form ≡ Answers → between ≡ before)
    → OnOk r (IsTaken old now images images_now between after (old.pending.items ++ piece))
    → OnOk r (TakesPiece old now images images_now before after piece)
takes_so (Ok a) old now images images_now before between after piece plain taken = record { between = between; plain = plain; taken = taken }
takes_so (Err e) old now images images_now before between after piece plain taken = tt

-- no piece more, before which a prompt may stand all the same
pub talked_still : (old t : DebugTyping) (images images_t : List Entry)
    (input left next before here handed : Option (List ℕ)) (is_terminal : Bool) (piece : List ℕ)
    → HasTalked old t images images_t input left before here is_terminal → Consumes left next piece → piece ≡ []
    → (is_terminal ≡ false → Keeps here handed)
    → HasTalked old t images images_t input next before handed is_terminal
talked_still old t images images_t input left next before here handed is_terminal piece so_far takes none kept = record {
  read = so_far.read;
  of_input = subst (λ (xs : List ℕ). Consumes input next xs) (append-nil so_far.read)
      (Consumes-trans input left next so_far.read [] so_far.of_input (subst (λ (xs : List ℕ). Consumes left next xs) none takes));
  setting = so_far.setting;
  state = so_far.state;
  text = λ plain rest.
      let reported = (debug_bytes_shown t images_t rest).text in
      let all = (debug_bytes_shown old images (so_far.read ++ rest)).text in
      AddsAllBut-more before here handed reported [] reported all (so_far.text plain rest)
      (keeps_nothing here handed (kept plain.prompts)) refl;
}

-- what is written is handed on, and what is left of the input stays
pub talked_so : (old t : DebugTyping) (images images_t : List Entry) (input left other before here handed : Option (List ℕ))
    (is_terminal : Bool) → other ≡ left → Keeps here handed → HasTalked old t images images_t input left before here is_terminal
    → HasTalked old t images images_t input other before handed is_terminal
talked_so old t images images_t input left other before here handed is_terminal same kept so_far =
    subst (λ (v : Option (List ℕ)). HasTalked old t images images_t input v before handed is_terminal) (sym same)
    (talked_still old t images images_t input left left before here handed is_terminal [] so_far (Consumes-nil left) refl
    (λ _. kept))

-- the same where a read gives no bytes
pub talked_still_by : (old t : DebugTyping) (images images_t : List Entry)
    (input left next before here handed : Option (List ℕ)) (is_terminal : Bool) (count : ℕ) (buffer : List ℕ)
    → HasTalked old t images images_t input left before here is_terminal → Consumes left next (take count buffer) → count ≡ 0
    → (is_terminal ≡ false → Keeps here handed)
    → HasTalked old t images images_t input next before handed is_terminal
talked_still_by old t images images_t input left next before here handed is_terminal count buffer so_far takes none kept =
    talked_still old t images images_t input left next before here handed is_terminal (take count buffer) so_far takes
    (ap (λ (n : ℕ). take n buffer) none) kept

-- A READER THAT FAILS

-- where the next piece can't be read, a front of the answers stands written, behind which a prompt may stand
pub talked_front : (old t : DebugTyping) (images images_t : List Entry) (input left before here handed : Option (List ℕ))
    (is_terminal : Bool) → HasTalked old t images images_t input left before here is_terminal
    → (is_terminal ≡ false → Keeps here handed) → BeginsInput old images is_terminal input before handed
talked_front old t images images_t None left before here handed is_terminal so_far kept = tt
talked_front old t images images_t (Some bytes) None before here handed is_terminal so_far kept = absurd so_far.of_input
talked_front old t images images_t (Some bytes) (Some rest) before here handed is_terminal so_far kept = λ plain.
    let reported : List ℕ = (debug_bytes_shown t images_t rest).text in
    record {
      rest = reported;
      front = subst (λ (xs : List ℕ). AddsAllBut before handed reported (debug_bytes_shown old images xs).text) (sym so_far.of_input)
          (AddsAllBut-more before here handed reported [] reported _ (so_far.text plain rest)
          (keeps_nothing here handed (kept plain.prompts)) refl);
    }

pub talked_here : (old t : DebugTyping) (images images_t : List Entry) (input left before here : Option (List ℕ))
    (is_terminal : Bool) → HasTalked old t images images_t input left before here is_terminal
    → BeginsInput old images is_terminal input before here
talked_here old t images images_t input left before here is_terminal so_far =
    talked_front old t images images_t input left before here here is_terminal so_far (λ _. Keeps-self here)

-- a writer that is as it was
pub begins_still : {T : Type 0} (contents : T → Option (List ℕ)) (old : DebugTyping) (images : List Entry) (is_terminal : Bool)
    (input before : Option (List ℕ)) (mid new : Device T) → new ≡ mid
    → BeginsInput old images is_terminal input before (contents (device_inner mid))
    → BeginsInput old images is_terminal input before (contents (device_inner new))
begins_still {T = T} contents old images is_terminal input before mid new same begins =
    subst (λ (w : Device T). BeginsInput old images is_terminal input before (contents (device_inner w))) (sym same) begins

-- A PIECE THAT IS TAKEN IN PART

-- before which comments of the protocol may stand
pub takes_in_part : {S : Type 0} (contents : S → Option (List ℕ)) (old : DebugTyping) (images : List Entry)
    (before : Option (List ℕ)) (mid new : S) (piece text : List ℕ)
    → (old.session.setting.form ≡ Answers → contents mid ≡ before) → text ≡ old.pending.items ++ piece
    → (new ≡ mid) ⊎ IsTakenInPart old images (contents mid) (contents new) text
    → TakesPieceInPart old images before (contents new) piece
takes_in_part contents old images before mid new piece text plain is (inl same) = record { between = contents mid; plain = plain; part = inl (ap contents same) }
takes_in_part contents old images before mid new piece text plain is (inr part) = record {
  between = contents mid;
  plain = plain;
  part = inr (subst (λ (xs : List ℕ). IsTakenInPart old images (contents mid) (contents new) xs) is part);
}

-- nothing of it was taken
pub takes_nothing : (old : DebugTyping) (images : List Entry) (held : Option (List ℕ)) (piece : List ℕ)
    → TakesPieceInPart old images held held piece
takes_nothing old images held piece = record { between = held; plain = λ _. refl; part = inl refl }

-- by how the answer to it failed
pub takes_failed : {A S : Type 0} (result : Result A RunError) (contents : S → Option (List ℕ)) (old : DebugTyping) (images : List Entry)
    (before : Option (List ℕ)) (mid new : S) (piece text : List ℕ)
    → (old.session.setting.form ≡ Answers → contents mid ≡ before) → text ≡ old.pending.items ++ piece
    → IfErr result IsDebugTypingError
    → (result ≡ Err Memory → (new ≡ mid) ⊎ IsTakenInPart old images (contents mid) (contents new) text)
    → (result ≡ Err ScriptTooLong → new ≡ mid)
    → FailsIn result (TakesPieceInPart old images before (contents new) piece)
takes_failed (Ok a) contents old images before mid new piece text plain is typing part none = tt
takes_failed (Err Memory) contents old images before mid new piece text plain is typing part none =
    inr (takes_in_part contents old images before mid new piece text plain is (part refl))
takes_failed (Err ReadFault) contents old images before mid new piece text plain is typing part none = absurd typing
takes_failed (Err WriteFault) contents old images before mid new piece text plain is typing part none = inl refl
takes_failed (Err ScriptTooLong) contents old images before mid new piece text plain is typing part none =
    inr (takes_in_part contents old images before mid new piece text plain is (inl (none refl)))

front_by : (t : DebugTyping) (images : List Entry) (handed between after : Option (List ℕ)) (piece rest : List ℕ)
    → between ≡ handed → (after ≡ between) ⊎ IsTakenInPart t images between after (t.pending.items ++ piece)
    → AddsFront handed after (debug_bytes_shown t images (piece ++ rest)).text
front_by t images handed between after piece rest same (inl none) =
    subst (λ (w : Option (List ℕ)). AddsFront handed w (debug_bytes_shown t images (piece ++ rest)).text)
    (sym (none ∙ same)) (front_start handed (debug_bytes_shown t images (piece ++ rest)).text)
front_by t images handed between after piece rest same (inr part) =
    subst (λ (w : Option (List ℕ)). AddsFront w after (debug_bytes_shown t images (piece ++ rest)).text) same
    (part_answer t images between after piece rest part)

-- what was read before it and a front of its answers are a front of what all is answered
pub talked_part : (old t : DebugTyping) (images images_t : List Entry)
    (input left next before here handed after : Option (List ℕ)) (is_terminal : Bool) (piece : List ℕ)
    → HasTalked old t images images_t input left before here is_terminal → Consumes left next piece
    → (is_terminal ≡ false → Keeps here handed) → TakesPieceInPart t images_t handed after piece
    → BeginsInput old images is_terminal input before after
talked_part old t images images_t None left next before here handed after is_terminal piece so_far takes kept part = tt
talked_part old t images images_t (Some bytes) None next before here handed after is_terminal piece so_far takes kept part =
    absurd so_far.of_input
talked_part old t images images_t (Some bytes) (Some left) None before here handed after is_terminal piece so_far takes kept part =
    absurd takes
talked_part old t images images_t (Some bytes) (Some left) (Some rest) before here handed after is_terminal piece so_far takes kept part =
    λ plain.
    let reported : List ℕ = (debug_bytes_shown t images_t (piece ++ rest)).text in
    let all : List ℕ = (debug_bytes_shown old images bytes).text in
    let parts : bytes ≡ so_far.read ++ (piece ++ rest) =
    so_far.of_input ∙ ap (λ (xs : List ℕ). so_far.read ++ xs) takes in
    let done : AddsAllBut before handed reported all =
    subst (λ (xs : List ℕ). AddsAllBut before handed reported (debug_bytes_shown old images xs).text) (sym parts)
    (AddsAllBut-more before here handed reported [] reported _ (so_far.text plain (piece ++ rest))
    (keeps_nothing here handed (kept plain.prompts)) refl) in
    let answers : t.session.setting.form ≡ Answers =
    ap (λ (c : DebugSettings). c.form) so_far.setting ∙ plain.form in
    front_then before handed after reported reported [] all done (sym (append-nil reported))
    (front_by t images_t handed part.between after piece rest (part.plain answers) part.part)

-- by the error that the call for the piece hands on
pub talked_failed : {A : Type 0} (result : Result A RunError) (error : RunError) (old t : DebugTyping) (images images_t : List Entry)
    (input left next before here handed after : Option (List ℕ)) (is_terminal : Bool) (piece : List ℕ)
    → IsErrAnd result (λ e. e ≡ error) → (error ≡ WriteFault) ⊎ TakesPieceInPart t images_t handed after piece
    → HasTalked old t images images_t input left before here is_terminal → Consumes left next piece
    → (is_terminal ≡ false → Keeps here handed) → BeginsWhereFailed old images is_terminal input before after result
talked_failed result error old t images images_t input left next before here handed after is_terminal piece given (inl fault) so_far takes kept =
    fails_by result error (BeginsInput old images is_terminal input before after) given (inl fault)
talked_failed result error old t images images_t input left next before here handed after is_terminal piece given (inr part) so_far takes kept =
    fails_in result (BeginsInput old images is_terminal input before after)
    (talked_part old t images images_t input left next before here handed after is_terminal piece so_far takes kept part)

-- THE END

-- All of the input was read, or nothing more of it is answered.
record HasEnded (old now : DebugTyping) (images images_now : List Entry) (before after : Option (List ℕ)) (is_terminal : Bool)
    (bytes : List ℕ) : Type 0 where
  state : (debug_bytes_shown old images bytes).state ≡ (debug_bytes_shown now images_now []).state
  text : IsPlainTalk old is_terminal → AddsAllBut before after (debug_bytes_shown now images_now []).text (debug_bytes_shown old images bytes).text

ended_by : (old now : DebugTyping) (images images_now : List Entry) (before after : Option (List ℕ)) (is_terminal : Bool)
    (bytes read rest : List ℕ) → bytes ≡ read ++ rest
    → debug_bytes_shown now images_now rest ≡ debug_bytes_shown now images_now []
    → (debug_bytes_shown old images (read ++ rest)).state ≡ (debug_bytes_shown now images_now rest).state
    → (IsPlainTalk old is_terminal
    → AddsAllBut before after (debug_bytes_shown now images_now rest).text (debug_bytes_shown old images (read ++ rest)).text)
    → HasEnded old now images images_now before after is_terminal bytes
ended_by old now images images_now before after is_terminal bytes read rest all nothing state text = record {
  state =
      ap (λ (xs : List ℕ). (debug_bytes_shown old images xs).state) all ∙ state ∙ ap (λ (a : DebugAnswered). a.state) nothing;
  text = λ plain.
      subst (λ (xs : List ℕ). AddsAllBut before after (debug_bytes_shown now images_now []).text (debug_bytes_shown old images xs).text)
      (sym all)
      (subst (λ (a : DebugAnswered). AddsAllBut before after a.text (debug_bytes_shown old images (read ++ rest)).text) nothing
      (text plain));
}

-- nothing is answered after QUIT
pub quit_shown : (t : DebugTyping) (images : List Entry) (rest : List ℕ) → t.session.has_quit ≡ true
    → debug_bytes_shown t images rest ≡ debug_bytes_shown t images []
quit_shown t images rest quit =
    let d : DebugState = debug_state t.session images in
    none_answer (length (lines (t.pending.items ++ rest))) t.session.setting t.number d (lines (t.pending.items ++ rest)) quit
    ∙ sym (none_answer (length (lines (t.pending.items ++ []))) t.session.setting t.number d (lines (t.pending.items ++ [])) quit)

has_ended : (old now : DebugTyping) (images images_now : List Entry) (input left before after : Option (List ℕ)) (is_terminal : Bool)
    → HasTalked old now images images_now input left before after is_terminal
    → (IsAtEnd left) ⊎ (now.session.has_quit ≡ true)
    → IfSome input (HasEnded old now images images_now before after is_terminal)
has_ended old now images images_now None left before after is_terminal talked ends = tt
has_ended old now images images_now (Some bytes) None before after is_terminal talked ends = absurd talked.of_input
has_ended old now images images_now (Some bytes) (Some rest) before after is_terminal talked (inl end) =
    ended_by old now images images_now before after is_terminal bytes talked.read rest talked.of_input
    (ap (debug_bytes_shown now images_now) end) (talked.state rest) (λ plain. talked.text plain rest)
has_ended old now images images_now (Some bytes) (Some rest) before after is_terminal talked (inr quit) =
    ended_by old now images images_now before after is_terminal bytes talked.read rest talked.of_input
    (quit_shown now images_now rest quit) (talked.state rest) (λ plain. talked.text plain rest)

waiting_shown : (t : DebugTyping) (images : List Entry)
    → debug_bytes_shown t images [] ≡ debug_lines_answer t.session.setting t.number (debug_state t.session images) (lines t.pending.items)
waiting_shown t images =
    ap (λ (xs : List ℕ). debug_lines_answer t.session.setting t.number (debug_state t.session images) (lines xs)) (append-nil t.pending.items)

status_by : (old now : DebugTyping) (images images_now : List Entry) (before after : Option (List ℕ)) (is_terminal : Bool)
    (bytes : List ℕ) (end : DebugState) (status : ℕ) → HasEnded old now images images_now before after is_terminal bytes
    → end ≡ (debug_lines_answer now.session.setting now.number (debug_state now.session images_now) (lines now.pending.items)).state
    → status ≡ debug_status end → status ≡ debug_status (debug_bytes_shown old images bytes).state
status_by old now images images_now before after is_terminal bytes end status ended reported is =
    is ∙ ap debug_status (reported ∙ sym (ended.state ∙ ap (λ (a : DebugAnswered). a.state) (waiting_shown now images_now)))

pub talk_status : (old now : DebugTyping) (images images_now : List Entry) (input left before after : Option (List ℕ)) (is_terminal : Bool)
    (end : DebugState) (status : ℕ) → HasTalked old now images images_now input left before after is_terminal
    → (IsAtEnd left) ⊎ (now.session.has_quit ≡ true)
    → end ≡ (debug_lines_answer now.session.setting now.number (debug_state now.session images_now) (lines now.pending.items)).state
    → status ≡ debug_status end → IsStatusOfInput old images input status
talk_status old now images images_now None left before after is_terminal end status talked ends reported is = tt
talk_status old now images images_now (Some bytes) left before after is_terminal end status talked ends reported is =
    status_by old now images images_now before after is_terminal bytes end status
    (has_ended old now images images_now (Some bytes) left before after is_terminal talked ends) reported is

text_by : (old now : DebugTyping) (images images_now : List Entry) (before here shown_at summed after : Option (List ℕ))
    (is_terminal : Bool) (bytes : List ℕ) (end : DebugState)
    → HasEnded old now images images_now before here is_terminal bytes → now.session.setting ≡ old.session.setting
    → IsDebugged here shown_at end
    (debug_lines_answer now.session.setting now.number (debug_state now.session images_now) (lines now.pending.items))
    → Appends shown_at summed (summary_text now.session.setting.form end.tally) → Keeps summed after → IsPlainTalk old is_terminal
    → Appends before after (then_summary old.session.setting (debug_bytes_shown old images bytes)).text
text_by old now images images_now before here shown_at summed after is_terminal bytes end ended setting reported summary kept plain =
    let last : DebugAnswered = debug_bytes_shown now images_now [] in
    let all : DebugAnswered = debug_bytes_shown old images bytes in
    let waiting : IsDebugged here shown_at end last =
    subst (λ (a : DebugAnswered). IsDebugged here shown_at end a) (sym (waiting_shown now images_now)) reported in
    let whole : Appends before shown_at all.text =
    Appends-from_all_but before shown_at [] all.text
    (AddsAllBut-more before here shown_at last.text last.text [] all.text (ended.text plain) waiting.text (sym (append-nil last.text)))
    refl in
    let at_end : end ≡ all.state = waiting.state ∙ sym ended.state in
    let summed_up : Appends shown_at summed (summary_text old.session.setting.form all.state.tally) =
    subst (λ (c : DebugSettings). Appends shown_at summed (summary_text c.form all.state.tally)) setting
    (subst (λ (d : DebugState). Appends shown_at summed (summary_text now.session.setting.form d.tally)) at_end summary) in
    appends_kept before summed after _
    (Appends-join before shown_at summed all.text (summary_text old.session.setting.form all.state.tally) whole summed_up) kept

-- at the end, behind comments of the protocol if there are any
pub talk_text : (old now : DebugTyping) (images images_now : List Entry) (input left before here commented shown_at summed after : Option (List ℕ))
    (is_terminal : Bool) (end : DebugState) (own : DebugSettings) → HasTalked old now images images_now input left before here is_terminal
    → (IsAtEnd left) ⊎ (now.session.has_quit ≡ true)
    → (IsPlainTalk old is_terminal → commented ≡ here)
    → IsDebugged commented shown_at end
    (debug_lines_answer now.session.setting now.number (debug_state now.session images_now) (lines now.pending.items))
    → own ≡ now.session.setting → Appends shown_at summed (summary_text own.form end.tally) → Keeps summed after
    → DebugsInput old images is_terminal input before after
talk_text old now images images_now None left before here commented shown_at summed after is_terminal end own talked ends none reported same summary kept = tt
talk_text old now images images_now (Some bytes) left before here commented shown_at summed after is_terminal end own talked ends none reported same summary kept =
    λ plain.
    text_by old now images images_now before here shown_at summed after is_terminal bytes end
    (has_ended old now images images_now (Some bytes) left before here is_terminal talked ends) talked.setting
    (subst (λ (w : Option (List ℕ)). IsDebugged w shown_at end
    (debug_lines_answer now.session.setting now.number (debug_state now.session images_now) (lines now.pending.items))) (none plain) reported)
    (subst (λ (c : DebugSettings). Appends shown_at summed (summary_text c.form end.tally)) same summary) kept plain

ended_front : (old now : DebugTyping) (images images_now : List Entry) (before here after : Option (List ℕ)) (is_terminal : Bool)
    (bytes : List ℕ) → HasEnded old now images images_now before here is_terminal bytes → IsPlainTalk old is_terminal
    → AddsFront here after
    (debug_lines_answer now.session.setting now.number (debug_state now.session images_now) (lines now.pending.items)).text
    → AddsFront before after (debug_bytes_shown old images bytes).text
ended_front old now images images_now before here after is_terminal bytes ended plain front =
    let last : List ℕ = (debug_bytes_shown now images_now []).text in
    front_then before here after last last [] (debug_bytes_shown old images bytes).text (ended.text plain) (sym (append-nil last))
    (subst (λ (a : DebugAnswered). AddsFront here after a.text) (sym (waiting_shown now images_now)) front)

-- what waits is answered in part
pub talk_front : (old now : DebugTyping) (images images_now : List Entry) (input left before here commented after : Option (List ℕ))
    (is_terminal : Bool) → HasTalked old now images images_now input left before here is_terminal
    → (IsAtEnd left) ⊎ (now.session.has_quit ≡ true) → (IsPlainTalk old is_terminal → commented ≡ here)
    → AddsFront commented after
    (debug_lines_answer now.session.setting now.number (debug_state now.session images_now) (lines now.pending.items)).text
    → BeginsInput old images is_terminal input before after
talk_front old now images images_now None left before here commented after is_terminal talked ends none front = tt
talk_front old now images images_now (Some bytes) left before here commented after is_terminal talked ends none front = λ plain.
    ended_front old now images images_now before here after is_terminal bytes
    (has_ended old now images images_now (Some bytes) left before here is_terminal talked ends) plain
    (subst (λ (w : Option (List ℕ)). AddsFront w after
    (debug_lines_answer now.session.setting now.number (debug_state now.session images_now) (lines now.pending.items)).text)
    (none plain) front)

-- A WHOLE SCRIPT

pub script_shown_by : (c : DebugSettings) (t : DebugTyping) (images : List Entry) (bytes : List ℕ) → t.session.setting ≡ c
    → debug_state t.session images ≡ debug_start_state c images → t.pending.items ≡ [] → t.number ≡ 0
    → debug_bytes_shown t images bytes ≡ debug_lines_answer c 0 (debug_start_state c images) (lines bytes)
script_shown_by c t images bytes setting state pending number =
    let d : DebugState = debug_state t.session images in
    ap (λ (xs : List ℕ). debug_lines_answer t.session.setting t.number d (lines (xs ++ bytes))) pending
    ∙ ap (λ (n : ℕ). debug_lines_answer t.session.setting n d (lines bytes)) number
    ∙ ap (λ (s : DebugState). debug_lines_answer t.session.setting 0 s (lines bytes)) state
    ∙ ap (λ (x : DebugSettings). debug_lines_answer x 0 (debug_start_state c images) (lines bytes)) setting

pub status_of_script : (c : DebugSettings) (t : DebugTyping) (images : List Entry) (input : Option (List ℕ)) (status : ℕ)
    → t.session.setting ≡ c → debug_state t.session images ≡ debug_start_state c images → t.pending.items ≡ [] → t.number ≡ 0
    → IsStatusOfInput t images input status → IsStatusOfScript c images input status
unfolding debug_script_answer
status_of_script c t images None status setting state pending number is = tt
status_of_script c t images (Some bytes) status setting state pending number is =
    is ∙ ap (λ (a : DebugAnswered). debug_status a.state) (script_shown_by c t images bytes setting state pending number)
