-- Bytes that are served one after another, and text in packets.
use Rattle.std.proofs.Common.{◌≡◌, ◌<◌, ◌≤◌, ◌+◌, ◌-◌, ◌/◌, ℕ, zero, suc, Bool, true, false, List, [], ◌∷◌, ◌++◌, length, get_or, take, drop, min, inl, inr, refl, ap, sym, subst, ◌∙◌, append_assoc, arith}
use Rattle.std.specs.Prelude.{Option, None, Some, is_some, option_map}
use Rattle.std.proofs.lemmas.Bool.{cases_Bool, cases_lt}
use Rattle.std.proofs.lemmas.List.{append-nil, take_min}
use Rattle.std.proofs.Math.Seq.{drop-cons}
use Rattle.gdb_machine.specs.Loads.{LoadState}
use Rattle.gdb_packets.specs.Fixed.{extends, keeps_acks}
use Rattle.gdb_packets.specs.Reading.{Reading, byte_taken}
use Rattle.gdb_packets.specs.Requests.{GdbRequest}
use Rattle.gdb_packets.specs.declared.reader.Piece.{Piece}
use Rattle.gdb_packets.specs.declared.reader.Piece.TheVariants as piece
use Rattle.std.specs.Io.KnownBytes.{Appends}
use Rattle.profile.specs.Output.{AddsAllBut, AddsFront, AddsPart}
use Rattle.profile.proofs.OutputLemmas.{AddsAllBut-more, AddsAllBut-start, Appends-from_all_but, Appends-nothing}
use Rattle.gdb_server.specs.Server.{IsServed}
use Rattle.gdb_server.specs.Serving.{ServerState, Served, acks_after, answer_text, byte_served, bytes_served, loads_now, packet_served, piece_served, reply_packet, request_now, stop_served, then_served, text_packet, text_packets, shown_packets}
use Rattle.gdb_server.specs.session.Programs.{request_answered}
use Rattle.gdb_server.specs.session.Session.{IsGdbAnswered}
use Rattle.gdb_server.specs.session.State.{GdbAnswered, GdbState}
use Rattle.gdb_server.specs.declared.session.session.GdbAnswer.{GdbAnswer}
use Rattle.debug_session.proofs.FailLemmas.{front_then}

served_cons : (byte : ℕ) (bytes : List ℕ) (s : ServerState) → s.session.has_ended ≡ false
    → bytes_served (byte ∷ bytes) s
    ≡ then_served (byte_served s byte) (bytes_served bytes)
unfolding bytes_served
served_cons byte bytes s goes = rw goes refl

-- one more byte
pub served_more : (bytes : List ℕ) (i : ℕ) (s : ServerState) → i < length bytes → s.session.has_ended ≡ false
    → bytes_served (drop i bytes) s
    ≡ then_served (byte_served s (get_or bytes i 0)) (bytes_served (drop (i + 1) bytes))
served_more bytes i s below goes =
    let next : suc i ≡ i + 1 = omega arith in
    ap (λ (xs : List ℕ). bytes_served xs s) (drop-cons bytes i 0 below)
    ∙ served_cons (get_or bytes i 0) (drop (suc i) bytes) s goes
    ∙ ap (λ (n : ℕ). then_served (byte_served s (get_or bytes i 0)) (bytes_served (drop n bytes))) next

-- the session has ended, or there is no more byte
pub served_ended : (bytes : List ℕ) (s : ServerState) → s.session.has_ended ≡ true
    → bytes_served bytes s ≡ record { state = s; text = [] }
unfolding bytes_served
served_ended [] s ended = refl
served_ended (byte ∷ bytes) s ended = rw ended refl

pub served_none : (bytes : List ℕ) (s : ServerState) → bytes ≡ []
    → bytes_served bytes s ≡ record { state = s; text = [] }
unfolding bytes_served
served_none bytes s none = rw none refl

-- pieces, one after another
pub served_append : (first next : List ℕ) (s : ServerState)
    → bytes_served (first ++ next) s
    ≡ then_served (bytes_served first s) (bytes_served next)
served_append [] next s =
    sym (ap (λ (first : Served). then_served first (bytes_served next)) (served_none [] s refl))
served_append (byte ∷ more) next s = elim (cases_Bool s.session.has_ended) [
  | inl ended ↦
      served_ended ((byte ∷ more) ++ next) s ended
      ∙ sym (served_ended next s ended)
      ∙ sym (ap (λ (first : Served). then_served first (bytes_served next)) (served_ended (byte ∷ more) s ended))
  | inr goes ↦
      (let first : Served = byte_served s byte in
      served_cons byte (more ++ next) s goes
      ∙ ap (λ (then : Served). record { state = then.state; text = first.text ++ then.text })
      (served_append more next first.state)
      ∙ ap (λ (text : List ℕ). record {
        state = (bytes_served next (bytes_served more first.state).state).state;
        text = text;
      }) (sym (append_assoc first.text (bytes_served more first.state).text
      (bytes_served next (bytes_served more first.state).state).text))
      ∙ sym (ap (λ (all : Served). then_served all (bytes_served next)) (served_cons byte more s goes)))
]

shown_suc : (n : ℕ) (text : List ℕ) → text_packets (suc n) text ≡ text_packet (take 1024 text) ++ text_packets n (drop 1024 text)
unfolding text_packets
shown_suc n text = refl

shown_zero : (text : List ℕ) → text_packets 0 text ≡ []
unfolding text_packets
shown_zero text = refl

-- the first packet of a text, and those of the rest
pub shown_more : (t front back : List ℕ) (mid : ℕ) → 0 < length t → mid ≡ min (length t) 1024 → front ≡ take mid t → back ≡ drop mid t
    → length back + mid ≡ length t → shown_packets t ≡ text_packet front ++ shown_packets back
unfolding shown_packets
shown_more t front back mid some is begins ends counts =
    let order : mid ≡ min 1024 (length t) = omega arith in
    let first : front ≡ take 1024 t = begins ∙ ap (λ (n : ℕ). take n t) order ∙ take_min 1024 t in
    elim (cases_lt 1024 (length t)) [
      | inl long ↦
          (let whole : mid ≡ 1024 = omega arith in
          let rest : back ≡ drop 1024 t = ends ∙ ap (λ (n : ℕ). drop n t) whole in
          let count : (length t + 1023) / 1024 ≡ suc ((length back + 1023) / 1024) = omega (arith, counts, whole) in
          ap (λ (n : ℕ). text_packets n t) count ∙ shown_suc ((length back + 1023) / 1024) t
          ∙ ap (λ (x : List ℕ). text_packet x ++ text_packets ((length back + 1023) / 1024) (drop 1024 t)) (sym first)
          ∙ ap (λ (x : List ℕ). text_packet front ++ text_packets ((length back + 1023) / 1024) x) (sym rest))
      | inr short ↦
          (let whole : mid ≡ length t = omega arith in
          let one : (length t + 1023) / 1024 ≡ suc 0 = omega (arith, some, short) in
          let none : (length back + 1023) / 1024 ≡ 0 = omega (arith, counts, whole) in
          ap (λ (n : ℕ). text_packets n t) one ∙ shown_suc 0 t
          ∙ ap (λ (x : List ℕ). text_packet x ++ text_packets 0 (drop 1024 t)) (sym first)
          ∙ ap (λ (y : List ℕ). text_packet front ++ y)
          (shown_zero (drop 1024 t) ∙ sym (ap (λ (n : ℕ). text_packets n back) none ∙ shown_zero back)))
    ]

pub shown_none : (t : List ℕ) → length t ≡ 0 → shown_packets t ≡ []
unfolding shown_packets
shown_none t empty =
    let none : (length t + 1023) / 1024 ≡ 0 = omega (arith, empty) in
    ap (λ (n : ℕ). text_packets n t) none ∙ shown_zero t

-- a front of a text is one of a longer text
pub front_of_more : (a b : Option (List ℕ)) (piece more : List ℕ) → AddsFront a b piece → AddsFront a b (piece ++ more)
front_of_more a b piece more front = front_then a a b (piece ++ more) piece more (piece ++ more) (AddsAllBut-start a (piece ++ more)) refl front

-- all of a piece and a front of the next
pub front_after : (a b c : Option (List ℕ)) (piece next : List ℕ) → Appends a b piece → AddsFront b c next → AddsFront a c (piece ++ next)
front_after a b c piece next whole front =
    front_then a b c next next [] (piece ++ next)
    (AddsAllBut-more a a b (piece ++ next) piece next (piece ++ next) (AddsAllBut-start a (piece ++ next)) whole refl)
    (sym (append-nil next)) front

pub front_of_part : (a b : Option (List ℕ)) (text : List ℕ) → AddsPart a b text → AddsFront a b text
front_of_part a b text part = record { rest = part.missing; front = part.front }

-- the byte 3
pub byte_stops : (s : ServerState) (reading : Reading) (byte : ℕ)
    → Some piece.Stop ≡ (byte_taken s.reading byte).piece → reading ≡ (byte_taken s.reading byte).now
    → stop_served (record s { reading = reading }) (is_some s.session.going) ≡ byte_served s byte
byte_stops s reading byte stops read =
    ap (λ (r : Reading). stop_served (record s { reading = r }) (is_some s.session.going)) read
    ∙ ap (λ (p : Option Piece). piece_served (record s { reading = (byte_taken s.reading byte).now }) p) stops

-- where no run is under way, nothing is answered
pub stands_served : (s : ServerState) (x : Option (List ℕ)) → is_some s.session.going ≡ false
    → IsServed x x s (stop_served s (is_some s.session.going))
stands_served s x still =
    subst (λ (b : Bool). IsServed x x s (stop_served s b)) (sym still) (record { text = Appends-nothing x; state = refl })

pub ends_served : (bytes : List ℕ) (s : ServerState) (before here : Option (List ℕ)) (all : Served)
    → AddsAllBut before here (bytes_served bytes s).text all.text → (bytes_served bytes s).state ≡ all.state
    → bytes_served bytes s ≡ record { state = s; text = [] } → IsServed before here s all
ends_served bytes s before here all text state none = record {
  text = Appends-from_all_but before here (bytes_served bytes s).text all.text text (ap (λ (x : Served). x.text) none);
  state = sym (ap (λ (x : Served). x.state) none) ∙ state;
}

-- whether `+` and `-` are sent from there on
pub acks_kept : (has now : Bool) (asked : GdbRequest) → has ≡ true → now ≡ keeps_acks asked → now ≡ acks_after has asked
acks_kept has now asked is kept = subst (λ (b : Bool). now ≡ acks_after b asked) (sym is) kept

pub acks_gone : (has now : Bool) (asked : GdbRequest) → has ≡ false → now ≡ false → now ≡ acks_after has asked
acks_gone has now asked is none = subst (λ (b : Bool). now ≡ acks_after b asked) (sym is) none

-- a packet that was answered, with the answer as it was written
pub packet_kept : (s : ServerState) (session : GdbState) (acks extended : Bool) (last : List ℕ) (loads : LoadState) (answer : GdbAnswer)
    (asked : GdbRequest) (load : List (List ℕ)) → asked ≡ request_now s → loads ≡ loads_now s → load ≡ loads.kept
    → acks ≡ acks_after s.has_acks asked → extended ≡ extends s.is_extended asked → IsGdbAnswered session answer (request_answered s.lacks load s.session asked)
    → last ≡ shown_packets answer.reported.items ++ reply_packet (option_map (λ reply. reply.items) answer.reply)
    → record s { session = session; has_acks = acks; is_extended = extended; last = last; loads = loads } ≡ (packet_served s).state
packet_kept s session acks extended last loads answer asked load of_packet noted held has extends_so reported written =
    let request : GdbRequest = request_now s in
    let shown : GdbAnswered = request_answered s.lacks (loads_now s).kept s.session request in
    let kept : load ≡ (loads_now s).kept = held ∙ ap (λ (l : LoadState). l.kept) noted in
    let done : IsGdbAnswered session answer shown =
    subst (λ (r : GdbRequest). IsGdbAnswered session answer (request_answered s.lacks (loads_now s).kept s.session r)) of_packet
    (subst (λ (l : List (List ℕ)). IsGdbAnswered session answer (request_answered s.lacks l s.session asked)) kept reported) in
    let acks_now : acks ≡ acks_after s.has_acks request = has ∙ ap (λ (r : GdbRequest). acks_after s.has_acks r) of_packet in
    let mode : extended ≡ extends s.is_extended request = extends_so ∙ ap (λ (r : GdbRequest). extends s.is_extended r) of_packet in
    let text : last ≡ answer_text shown = written
    ∙ ap (λ (x : List ℕ). shown_packets x ++ reply_packet (option_map (λ reply. reply.items) answer.reply)) done.text
    ∙ ap (λ (o : Option (List ℕ)). shown_packets shown.reported ++ reply_packet o) done.reply in
    ap (λ (g : GdbState). record s { session = g; has_acks = acks; is_extended = extended; last = last; loads = loads }) done.state
    ∙ ap (λ (b : Bool). record s { session = shown.state; has_acks = b; is_extended = extended; last = last; loads = loads }) acks_now
    ∙ ap (λ (b : Bool). record s { session = shown.state; has_acks = acks_after s.has_acks request; is_extended = b; last = last; loads = loads }) mode
    ∙ ap (λ (x : List ℕ). record s {
      session = shown.state;
      has_acks = acks_after s.has_acks request;
      is_extended = extends s.is_extended request;
      last = x;
      loads = loads;
    }) text
    ∙ ap (λ (l : LoadState). record s {
      session = shown.state;
      has_acks = acks_after s.has_acks request;
      is_extended = extends s.is_extended request;
      last = answer_text shown;
      loads = l;
    }) noted
