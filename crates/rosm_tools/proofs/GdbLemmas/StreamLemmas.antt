-- Bytes of an input that are served one after another.
use Rattle.std.proofs.Common.{◌≡◌, ℕ, Bool, true, false, List, [], ◌∷◌, ◌++◌, map, Option, None, Some, refl, sym, ap, subst, ◌∙◌, append_assoc}
use Rattle.std.proofs.lemmas.Bool.{both_ways}
use Rattle.std.proofs.lemmas.List.{append-nil, map-append}
use Rattle.std.specs.Io.KnownBytes.{Appends, Consumes, Keeps}
use Rattle.std.proofs.KnownBytes.{Appends-kept, Appends-trans, Consumes-nil, Consumes-trans}
use Rattle.profile.specs.Output.{AddsFront}
use Rattle.profile.proofs.OutputLemmas.{Appends-nothing}
use Rattle.gdb_server.specs.Serving.{ServerState, Served, bytes_served, then_served}
use Rattle.gdb_server.specs.Server.{IsServed}
use Rattle.gdb_server.proofs.FrontLemmas.{AddsFront-start}
use Rattle.gdb_server.proofs.ServingLemmas.{front_after, front_of_more}
use Rattle.rosm_tools.specs.gdb.Renewed.{IsRenewed, renewed_before}
use Rattle.rosm_tools.specs.gdb.Streams.{AnswersBytes, AnswersBytesFront, AnswersFront, AnswersInput, AreAllFound, AreSent, Sent, sent_served}
use Rattle.rosm_settings.specs.declared.gdb.words.WantedGdb.{WantedGdb}

-- WHAT BYTES ARE ANSWERED

none_served : (files : List (List ℕ)) (s : ServerState) → sent_served files [] s ≡ record { state = s; text = [] }
unfolding sent_served
none_served files s = refl

one_served : (files : List (List ℕ)) (x : Sent) (s : ServerState)
    → sent_served files (x ∷ []) s ≡ bytes_served (x.byte ∷ []) (renewed_before files x.found s)
unfolding sent_served
one_served files x s =
    let a : Served = bytes_served (x.byte ∷ []) (renewed_before files x.found s) in
    ap (λ (text : List ℕ). record { state = a.state; text = text }) (append-nil a.text)

sent_append : (files : List (List ℕ)) (first next : List Sent) (s : ServerState)
    → sent_served files (first ++ next) s ≡ then_served (sent_served files first s) (sent_served files next)
unfolding sent_served
sent_append files [] next s = refl
sent_append files (x ∷ more) next s =
    let head : Served = bytes_served (x.byte ∷ []) (renewed_before files x.found s) in
    let rest : Served = sent_served files more head.state in
    ap (λ (later : Served). record { state = later.state; text = head.text ++ later.text }) (sent_append files more next head.state)
    ∙ ap (λ (text : List ℕ). record { state = (sent_served files next rest.state).state; text = text })
    (sym (append_assoc head.text rest.text (sent_served files next rest.state).text))

found_join : {F : Type 0} (of_file : F → Option (List ℕ)) (wanted : WantedGdb) (a b : List Sent) → AreAllFound of_file wanted a
    → AreAllFound of_file wanted b → AreAllFound of_file wanted (a ++ b)
found_join of_file wanted [] b first next = next
found_join of_file wanted (x ∷ more) b first next = (first.0, found_join of_file wanted more b first.1 next)

sent_join : {F : Type 0} (of_file : F → Option (List ℕ)) (wanted : WantedGdb) (first next : List ℕ) (a b : List Sent)
    → AreSent of_file wanted first a → AreSent of_file wanted next b → AreSent of_file wanted (first ++ next) (a ++ b)
sent_join of_file wanted first next a b first_are next_are = record {
  bytes_are = map-append (λ (x : Sent). x.byte) a b ∙ ap (λ (xs : List ℕ). xs ++ map (λ (x : Sent). x.byte) b) first_are.bytes_are
      ∙ ap (λ (xs : List ℕ). first ++ xs) next_are.bytes_are;
  found = found_join of_file wanted a b first_are.found next_are.found;
}

-- ONE AFTER ANOTHER

pub no_bytes : {F : Type 0} (of_file : F → Option (List ℕ)) (wanted : WantedGdb) (held : Option (List ℕ)) (s : ServerState)
    → AnswersBytes of_file wanted [] held held s s
no_bytes of_file wanted held s =
    let none = none_served wanted.settings.files s in
    record {
      sent = [];
      are = record { bytes_are = refl; found = tt };
      served = record {
        text = subst (λ (text : List ℕ). Appends held held text) (sym (ap (λ (x : Served). x.text) none)) (Appends-nothing held);
        state = sym (ap (λ (x : Served). x.state) none);
      };
    }

pub bytes_join : {F : Type 0} (of_file : F → Option (List ℕ)) (wanted : WantedGdb) (first next : List ℕ) (before here after : Option (List ℕ))
    (old s now : ServerState) → AnswersBytes of_file wanted first before here old s → AnswersBytes of_file wanted next here after s now
    → AnswersBytes of_file wanted (first ++ next) before after old now
bytes_join of_file wanted first next before here after old s now a b =
    let files : List (List ℕ) = wanted.settings.files in
    let head : Served = sent_served files a.sent old in
    let whole = sent_append files a.sent b.sent old in
    let same : sent_served files b.sent s ≡ sent_served files b.sent head.state =
    ap (λ (u : ServerState). sent_served files b.sent u) a.served.state in
    let text : Appends here after (sent_served files b.sent head.state).text =
    subst (λ (x : Served). Appends here after x.text) same b.served.text in
    record {
      sent = a.sent ++ b.sent;
      are = sent_join of_file wanted first next a.sent b.sent a.are b.are;
      served = record {
        text = subst (λ (x : Served). Appends before after x.text) (sym whole)
            (Appends-trans before here after head.text (sent_served files b.sent head.state).text a.served.text text);
        state = b.served.state ∙ ap (λ (x : Served). x.state) same ∙ sym (ap (λ (x : Served). x.state) whole);
      };
    }

pub front_join : {F : Type 0} (of_file : F → Option (List ℕ)) (wanted : WantedGdb) (first next : List ℕ) (before here after : Option (List ℕ))
    (old s : ServerState) → AnswersBytes of_file wanted first before here old s → AnswersBytesFront of_file wanted next here after s
    → AnswersBytesFront of_file wanted (first ++ next) before after old
front_join of_file wanted first next before here after old s a b =
    let files : List (List ℕ) = wanted.settings.files in
    let head : Served = sent_served files a.sent old in
    let text : AddsFront here after (sent_served files b.sent head.state).text =
    subst (λ (u : ServerState). AddsFront here after (sent_served files b.sent u).text) a.served.state b.front in
    record {
      sent = a.sent ++ b.sent;
      are = sent_join of_file wanted first next a.sent b.sent a.are b.are;
      front = subst (λ (x : Served). AddsFront before after x.text) (sym (sent_append files a.sent b.sent old))
          (front_after before here after head.text (sent_served files b.sent head.state).text a.served.text text);
    }

front_of_all : {F : Type 0} (of_file : F → Option (List ℕ)) (wanted : WantedGdb) (bytes : List ℕ) (before after : Option (List ℕ))
    (old now : ServerState) → AnswersBytes of_file wanted bytes before after old now → AnswersBytesFront of_file wanted bytes before after old
front_of_all of_file wanted bytes before after old now a = record {
  sent = a.sent;
  are = a.are;
  front = subst (λ (text : List ℕ). AddsFront before after text) (append-nil _)
      (front_after before after after (sent_served wanted.settings.files a.sent old).text [] a.served.text (AddsFront-start after []));
}

-- ONE BYTE

pub one_byte : {F : Type 0} (of_file : F → Option (List ℕ)) (wanted : WantedGdb) (byte : ℕ) (before after : Option (List ℕ))
    (old mid now : ServerState) → IsRenewed of_file wanted old mid → IsServed before after now (bytes_served (byte ∷ []) mid)
    → AnswersBytes of_file wanted (byte ∷ []) before after old now
one_byte of_file wanted byte before after old mid now renewed served =
    let x : Sent = record { byte = byte; found = renewed.found } in
    record {
      sent = x ∷ [];
      are = record { bytes_are = refl; found = (renewed.are, tt) };
      served = subst (λ (a : Served). IsServed before after now a) (sym (one_served wanted.settings.files x old))
          (subst (λ (s : ServerState). IsServed before after now (bytes_served (byte ∷ []) s)) renewed.state served);
    }

pub one_byte_front : {F : Type 0} (of_file : F → Option (List ℕ)) (wanted : WantedGdb) (byte : ℕ) (before after : Option (List ℕ))
    (old mid : ServerState) → IsRenewed of_file wanted old mid → AddsFront before after (bytes_served (byte ∷ []) mid).text
    → AnswersBytesFront of_file wanted (byte ∷ []) before after old
one_byte_front of_file wanted byte before after old mid renewed front =
    let x : Sent = record { byte = byte; found = renewed.found } in
    record {
      sent = x ∷ [];
      are = record { bytes_are = refl; found = (renewed.are, tt) };
      front = subst (λ (a : Served). AddsFront before after a.text) (sym (one_served wanted.settings.files x old))
          (subst (λ (s : ServerState). AddsFront before after (bytes_served (byte ∷ []) s).text) renewed.state front);
    }

-- bytes of which nothing is known yet
unread : List ℕ → List Sent
unread [] = []
unread (byte ∷ bytes) = record { byte = byte; found = None } ∷ unread bytes

unread_bytes : (bytes : List ℕ) → map (λ x. x.byte) (unread bytes) ≡ bytes
unfolding unread
unread_bytes [] = refl
unread_bytes (byte ∷ bytes) = ap (λ (xs : List ℕ). byte ∷ xs) (unread_bytes bytes)

unread_found : {F : Type 0} (of_file : F → Option (List ℕ)) (wanted : WantedGdb) (bytes : List ℕ) → AreAllFound of_file wanted (unread bytes)
unfolding unread
unread_found of_file wanted [] = tt
unread_found of_file wanted (byte ∷ bytes) = (tt, unread_found of_file wanted bytes)

-- a front of what some bytes are answered is one of what more are answered
pub front_of_some : {F : Type 0} (of_file : F → Option (List ℕ)) (wanted : WantedGdb) (first next all : List ℕ) (before after : Option (List ℕ))
    (old : ServerState) → first ++ next ≡ all → AnswersBytesFront of_file wanted first before after old
    → AnswersBytesFront of_file wanted all before after old
front_of_some of_file wanted first next all before after old split a =
    let files : List (List ℕ) = wanted.settings.files in
    let head : Served = sent_served files a.sent old in
    let are : AreSent of_file wanted (first ++ next) (a.sent ++ unread next) =
    sent_join of_file wanted first next a.sent (unread next) a.are
    (record { bytes_are = unread_bytes next; found = unread_found of_file wanted next }) in
    record {
      sent = a.sent ++ unread next;
      are = subst (λ (bytes : List ℕ). AreSent of_file wanted bytes (a.sent ++ unread next)) split are;
      front = subst (λ (x : Served). AddsFront before after x.text) (sym (sent_append files a.sent (unread next) old))
          (front_of_more before after head.text (sent_served files (unread next) head.state).text a.front);
    }

-- PIECES OF THE INPUT

pub answers_none : {F : Type 0} (of_file : F → Option (List ℕ)) (wanted : WantedGdb) (input held : Option (List ℕ)) (s : ServerState)
    → AnswersInput of_file wanted input input held held s s
answers_none of_file wanted input held s = record {
  read = [];
  of_input = Consumes-nil input;
  answers = no_bytes of_file wanted held s;
}

bytes_kept : {F : Type 0} (of_file : F → Option (List ℕ)) (wanted : WantedGdb) (bytes : List ℕ) (before after handed : Option (List ℕ))
    (old now : ServerState) → AnswersBytes of_file wanted bytes before after old now → Keeps after handed
    → AnswersBytes of_file wanted bytes before handed old now
bytes_kept of_file wanted bytes before after handed old now a kept = record {
  sent = a.sent;
  are = a.are;
  served = record { text = Appends-kept before after handed _ a.served.text kept; state = a.served.state };
}

pub answers_more : {F : Type 0} (of_file : F → Option (List ℕ)) (wanted : WantedGdb) (input left rest before here after handed : Option (List ℕ))
    (old s now : ServerState) (piece : List ℕ) → AnswersInput of_file wanted input left before here old s → Consumes left rest piece
    → AnswersBytes of_file wanted piece here after s now → Keeps after handed
    → AnswersInput of_file wanted input rest before handed old now
answers_more of_file wanted input left rest before here after handed old s now piece so_far takes served kept = record {
  read = so_far.read ++ piece;
  of_input = Consumes-trans input left rest so_far.read piece so_far.of_input takes;
  answers = bytes_kept of_file wanted (so_far.read ++ piece) before after handed old now
      (bytes_join of_file wanted so_far.read piece before here after old s now so_far.answers served) kept;
}

pub front_of_answers : {F : Type 0} (of_file : F → Option (List ℕ)) (wanted : WantedGdb) (input left before after : Option (List ℕ))
    (old now : ServerState) → AnswersInput of_file wanted input left before after old now
    → AnswersFront of_file wanted input left before after old
front_of_answers of_file wanted input left before after old now so_far = record {
  read = so_far.read;
  of_input = so_far.of_input;
  answers = front_of_all of_file wanted so_far.read before after old now so_far.answers;
}

-- a read that fails takes nothing
keeps_nothing : (left rest : Option (List ℕ)) → Keeps left rest → Consumes left rest []
keeps_nothing None rest is = tt
keeps_nothing (Some xs) None is = absurd is
keeps_nothing (Some xs) (Some ys) is = sym is

pub front_where_reading_fails : {F : Type 0} (of_file : F → Option (List ℕ)) (wanted : WantedGdb)
    (input left rest before after : Option (List ℕ)) (old now : ServerState)
    → AnswersInput of_file wanted input left before after old now → Keeps left rest
    → AnswersFront of_file wanted input rest before after old
front_where_reading_fails of_file wanted input left rest before after old now so_far keeps =
    let front = front_of_answers of_file wanted input left before after old now so_far in
    record {
      read = front.read;
      of_input = subst (λ (bytes : List ℕ). Consumes input rest bytes) (append-nil front.read)
          (Consumes-trans input left rest front.read [] front.of_input (keeps_nothing left rest keeps));
      answers = front.answers;
    }

pub front_of_piece : {F : Type 0} (of_file : F → Option (List ℕ)) (wanted : WantedGdb) (input left rest before here after : Option (List ℕ))
    (old s : ServerState) (piece : List ℕ) → AnswersInput of_file wanted input left before here old s → Consumes left rest piece
    → AnswersBytesFront of_file wanted piece here after s → AnswersFront of_file wanted input rest before after old
front_of_piece of_file wanted input left rest before here after old s piece so_far takes front = record {
  read = so_far.read ++ piece;
  of_input = Consumes-trans input left rest so_far.read piece so_far.of_input takes;
  answers = front_join of_file wanted so_far.read piece before here after old s so_far.answers front;
}

-- a flag that would stay up is down
pub flag_kept : (first mid last : Bool) → mid ≡ first → last ≡ false → (mid ≡ true → last ≡ true) → last ≡ first
flag_kept true mid last same down stays = absurd (both_ways last down (stays same))
flag_kept false mid last same down stays = down
