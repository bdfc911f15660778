-- What a packet that begins with `q`, `Q` or `v` is read as, it asks for by the grammar.
use Rattle.std.proofs.Common.{◌≡◌, ◌⊎◌, inl, inr, ℕ, Bool, true, false, List, [], ◌∷◌, ◌++◌, refl, ap}
use Rattle.std.specs.Prelude.{Option, Some, None, is_some, ◌==◌, codes, if◌then◌else◌}
use Rattle.std.proofs.lemmas.Bool.{eqb-true}
use Rattle.std.specs.Str.{bytes_eq}
use Rattle.gdb_packets.specs.Numbers.{packet_number}
use Rattle.gdb_packets.specs.Requests as request
use Rattle.gdb_packets.specs.Requests.{GdbRequest, PacketParts, about_attachment, about_libraries, about_process, about_session, about_target, action_for_parts, action_for_thread, action_of, action_request, actions_in, actions_or, actions_request, attachment_or, behind_opening, byte_range_of, is_known_packet, kill_or_run, libraries_or, line_or_description, of_signal, opened_request, packet_request, parts_around, places_of_both, places_request, supported_or, thread_in, whole_word_request, word_request}
use Rattle.gdb_packets.specs.request_laws.Grammar.{AreActions, IsAction, IsAnyAction, IsAnyForThread, IsForThread, IsOwnAction, Parted}
use Rattle.gdb_packets.proofs.RequestLawsLemmas.PartLemmas.{behind_was, parts_were, same_bytes}
use Rattle.gdb_packets.proofs.RequestLawsLemmas.SoundLemmas.{Sound, first_sound, if_sound, lettered_sound, lone_sound, of_range_sound, range_was, thread_was, shown_sound, unknown}

-- ACTIONS

-- what a text is of a kind for that it is read as, where that is known
abbrev Way : (GdbRequest → List ℕ → Type 0) → GdbRequest → List ℕ → Type 0
Way Kind request.Unknown text = Unit {0}
Way Kind other text = Kind other text

record Goes (Kind : GdbRequest → List ℕ → Type 0) (r : GdbRequest) (text : List ℕ) : Type 0 where
  pub way : Way Kind r text

none_goes : {Kind : GdbRequest → List ℕ → Type 0} (text : List ℕ) → Goes Kind request.Unknown text
none_goes text = record { way = tt }

if_goes : {Kind : GdbRequest → List ℕ → Type 0} (b : Bool) (x y : GdbRequest) (text : List ℕ) → (b ≡ true → Goes Kind x text)
    → Goes Kind y text → Goes Kind (if b then x else y) text
if_goes true x y text first second = first refl
if_goes false x y text first second = second

-- what is read in one way goes on to be read in another
goes_on : {Kind More : GdbRequest → List ℕ → Type 0} (r : GdbRequest) (text whole : List ℕ) → (Kind r text → More r whole)
    → Goes Kind r text → Goes More r whole
goes_on request.Unknown text whole more g = record { way = tt }
goes_on other text whole more g = record { way = more g.way }

signal_goes : (rest : List ℕ) (asked : ℕ → GdbRequest) (text : List ℕ)
    → ((n : ℕ) → packet_number rest ≡ Some n → Goes IsAction (asked n) text) → Goes IsAction (of_signal (packet_number rest) asked) text
signal_goes rest asked text some = by (packet_number rest) refl
  where
    by : (o : Option ℕ) → packet_number rest ≡ o → Goes IsAction (of_signal o asked) text
    by None e = none_goes text
    by (Some n) e = some n e

places_goes : (letter : ℕ) (rest : List ℕ) → (letter == 114) ≡ true → Goes IsAction (places_request (parts_around 44 rest)) (letter ∷ rest)
places_goes letter rest is = by (parts_around 44 rest) refl
  where
    both : (parts : PacketParts) (a b : Option ℕ) → packet_number parts.before ≡ a → packet_number parts.behind ≡ b
        → rest ≡ parts.before ++ (44 ∷ parts.behind) → Goes IsAction (places_of_both a b) (letter ∷ rest)
    both parts (Some n) (Some m) first second whole = record {
      way = record {
        rest = rest;
        whole = ap (λ (l : ℕ). l ∷ rest) (eqb-true letter 114 is);
        kind = record { before = parts.before; behind = parts.behind; whole = whole; first = first; second = second };
      };
    }
    both parts (Some n) None first second whole = none_goes (letter ∷ rest)
    both parts None b first second whole = none_goes (letter ∷ rest)

    by : (o : Option PacketParts) → parts_around 44 rest ≡ o → Goes IsAction (places_request o) (letter ∷ rest)
    by None e = none_goes (letter ∷ rest)
    by (Some parts) e = both parts (packet_number parts.before) (packet_number parts.behind) refl refl (parts_were 44 rest parts e)

action_was : (text : List ℕ) → Goes IsAction (action_request text) text
action_was [] = none_goes []
action_was (letter ∷ []) =
    if_goes (letter == 99) _ _ _ (λ e. record { way = ap (λ (l : ℕ). l ∷ []) (eqb-true letter 99 e) })
    (if_goes (letter == 115) _ _ _ (λ e. record { way = ap (λ (l : ℕ). l ∷ []) (eqb-true letter 115 e) }) (none_goes (letter ∷ [])))
action_was (letter ∷ digit ∷ digits) =
    let text = digit ∷ digits in
    if_goes (letter == 67) _ _ _ (λ e. signal_goes text request.ContinueWith (letter ∷ text) (λ n number. record {
      way = record { rest = text; whole = ap (λ (l : ℕ). l ∷ text) (eqb-true letter 67 e); kind = number };
    }))
    (if_goes (letter == 83) _ _ _ (λ e. signal_goes text request.StepWith (letter ∷ text) (λ n number. record {
      way = record { rest = text; whole = ap (λ (l : ℕ). l ∷ text) (eqb-true letter 83 e); kind = number };
    }))
    (if_goes (letter == 114) _ _ _ (λ e. places_goes letter text e) (none_goes (letter ∷ text))))

-- what the one thread is to do
own_for : (r : GdbRequest) (text : List ℕ) → IsOwnAction r text → IsForThread r text
own_for (request.Thread false) text (inl none) = absurd none
own_for (request.Thread false) text (inr p) = absurd p.first
own_for other text own = own

any_action : (text : List ℕ) → is_known_packet (action_request text) ≡ true → IsAnyAction text
any_action text known = by (action_request text) known (action_was text)
  where
    by : (r : GdbRequest) → is_known_packet r ≡ true → Goes IsAction r text → IsAnyAction text
    by request.Unknown k g = absurd (cc)
    by other k g = record { action = other; kind = g.way }

for_thread_was : (text : List ℕ) → Goes IsForThread (action_for_thread text) text
for_thread_was text = by (parts_around 58 text) refl
  where
    of : (parts : PacketParts) (o : Option Bool) → text ≡ parts.before ++ (58 ∷ parts.behind) → thread_in parts.behind ≡ o
        → Goes IsForThread (action_of o (action_request parts.before)) text
    of parts None whole t = none_goes text
    of parts (Some true) whole t = goes_on (action_request parts.before) parts.before text
        (λ a. own_for (action_request parts.before) text
        (inr (record { before = parts.before; behind = parts.behind; whole = whole; first = a; second = thread_was true parts.behind t })))
        (action_was parts.before)
    of parts (Some false) whole t = if_goes (is_known_packet (action_request parts.before)) (request.Thread false) request.Unknown text
        (λ known. record {
          way = record {
            before = parts.before;
            behind = parts.behind;
            whole = whole;
            first = any_action parts.before known;
            second = thread_was false parts.behind t;
          };
        })
        (none_goes text)

    by : (o : Option PacketParts) → parts_around 58 text ≡ o → Goes IsForThread (action_for_parts o text) text
    by None e = goes_on (action_request text) text text (λ a. own_for (action_request text) text (inl a)) (action_was text)
    by (Some parts) e = of parts (thread_in parts.behind) (parts_were 58 text parts e) refl

any_was : (text : List ℕ) → is_known_packet (action_for_thread text) ≡ true → IsAnyForThread text
any_was text known = by (action_for_thread text) known (for_thread_was text)
  where
    by : (r : GdbRequest) → is_known_packet r ≡ true → Goes IsForThread r text → IsAnyForThread text
    by request.Unknown k g = absurd (cc)
    by other k g = record { action = other; for_thread = g.way }

actions_were : (text : List ℕ) → Goes AreActions (actions_request text) text
actions_were text = by (parts_around 59 text) refl
  where
    by : (o : Option PacketParts) → parts_around 59 text ≡ o → Goes AreActions (actions_in o text) text
    by None e = goes_on (action_for_thread text) text text (λ a. inl a) (for_thread_was text)
    by (Some parts) e = if_goes (is_known_packet (action_for_thread parts.behind)) (action_for_thread parts.before) request.Unknown text
        (λ known. goes_on (action_for_thread parts.before) parts.before text
        (λ a. inr (record { before = parts.before; behind = parts.behind; whole = parts_were 59 text parts e; first = a; second = any_was parts.behind known }))
        (for_thread_was parts.before))
        (none_goes text)

-- no text is of actions where none is of one
no_thread : (r : GdbRequest) (text : List ℕ) → ((t : List ℕ) → IsAction r t → ⊥) → IsOwnAction r text → ⊥
no_thread r text none (inl a) = none text a
no_thread r text none (inr p) = none p.before p.first

no_actions : (r : GdbRequest) (text : List ℕ) → ((t : List ℕ) → IsAction r t → ⊥)
    → (IsOwnAction r text ⊎ Parted 59 (IsOwnAction r) IsAnyForThread text) → ⊥
no_actions r text none (inl a) = no_thread r text none a
no_actions r text none (inr p) = no_thread r p.before none p.first

-- `vCont;` and actions
go_sound : (r : GdbRequest) (packet rest : List ℕ) → packet ≡ codes "vCont;" ++ rest → Goes AreActions r rest → Sound r packet
go_sound request.Continue packet rest whole g = record { asks = inr (record { rest = rest; whole = whole; kind = g.way }) }
go_sound (request.ContinueWith n) packet rest whole g = record { asks = inr (record { rest = rest; whole = whole; kind = g.way }) }
go_sound request.Step packet rest whole g = record { asks = inr (record { rest = rest; whole = whole; kind = g.way }) }
go_sound (request.StepWith n) packet rest whole g = record { asks = inr (record { rest = rest; whole = whole; kind = g.way }) }
go_sound (request.StepRange places) packet rest whole g = record { asks = record { rest = rest; whole = whole; kind = g.way } }
go_sound (request.Thread false) packet rest whole g = record { asks = inr (record { rest = rest; whole = whole; kind = g.way }) }
go_sound request.Unknown packet rest whole g = unknown packet
go_sound other packet rest whole g = absurd (no_actions other rest (λ t none. none) g.way)

-- OPENINGS, ONE AFTER ANOTHER

process_sound : (packet : List ℕ) → Sound (about_process packet) packet
unfolding about_process
process_sound packet = by (behind_opening (codes "vKill;") packet) (behind_opening (codes "vRun;") packet) refl refl
  where
    by : (k r : Option (List ℕ)) → behind_opening (codes "vKill;") packet ≡ k → behind_opening (codes "vRun;") packet ≡ r
        → Sound (kill_or_run k r) packet
    by (Some number) r e f = shown_sound (is_some (packet_number number)) request.KillProgram packet
        (λ has. record { asks = record { rest = number; whole = behind_was (codes "vKill;") packet number e; kind = has } })
    by None (Some words) e f = record { asks = record { rest = words; whole = behind_was (codes "vRun;") packet words f; kind = tt } }
    by None None e f = unknown packet

attachment_sound : (packet : List ℕ) → Sound (about_attachment packet) packet
unfolding about_attachment
attachment_sound packet = by (behind_opening (codes "qAttached:") packet) refl
  where
    by : (o : Option (List ℕ)) → behind_opening (codes "qAttached:") packet ≡ o → Sound (attachment_or o (about_process packet)) packet
    by (Some number) e = shown_sound (is_some (packet_number number)) request.IsAttached packet
        (λ has. record { asks = inr (record { rest = number; whole = behind_was (codes "qAttached:") packet number e; kind = has }) })
    by None e = process_sound packet

session_sound : (packet : List ℕ) → Sound (about_session packet) packet
unfolding about_session
session_sound packet = by (behind_opening (codes "qSupported:") packet) refl
  where
    by : (o : Option (List ℕ)) → behind_opening (codes "qSupported:") packet ≡ o → Sound (supported_or o (about_attachment packet)) packet
    by (Some features) e =
        record { asks = inr (record { rest = features; whole = behind_was (codes "qSupported:") packet features e; kind = tt }) }
    by None e = attachment_sound packet

libraries_sound : (packet : List ℕ) → Sound (about_libraries packet) packet
unfolding about_libraries
libraries_sound packet = by (behind_opening (codes "qXfer:libraries:read::") packet) refl
  where
    by : (o : Option (List ℕ)) → behind_opening (codes "qXfer:libraries:read::") packet ≡ o → Sound (libraries_or o (about_session packet)) packet
    by (Some part) e = of_range_sound (byte_range_of part) request.Libraries packet (λ range h. record {
      asks = record { rest = part; whole = behind_was (codes "qXfer:libraries:read::") packet part e; kind = range_was range part h };
    })
    by None e = session_sound packet

target_sound : (packet : List ℕ) → Sound (about_target packet) packet
unfolding about_target
target_sound packet =
    by (behind_opening (codes "qRcmd,") packet) (behind_opening (codes "qXfer:features:read:target.xml:") packet) refl refl
  where
    by : (l d : Option (List ℕ)) → behind_opening (codes "qRcmd,") packet ≡ l
        → behind_opening (codes "qXfer:features:read:target.xml:") packet ≡ d → Sound (line_or_description l d (about_libraries packet)) packet
    by (Some pairs) d e f = record { asks = behind_was (codes "qRcmd,") packet pairs e }
    by None (Some part) e f = of_range_sound (byte_range_of part) request.Description packet (λ range h. record {
      asks = record { rest = part; whole = behind_was (codes "qXfer:features:read:target.xml:") packet part f; kind = range_was range part h };
    })
    by None None e f = libraries_sound packet

opened_sound : (packet : List ℕ) → Sound (opened_request packet) packet
unfolding opened_request
opened_sound packet = by (behind_opening (codes "vCont;") packet) refl
  where
    by : (o : Option (List ℕ)) → behind_opening (codes "vCont;") packet ≡ o → Sound (actions_or o (about_target packet)) packet
    by (Some actions) e = go_sound (actions_request actions) packet actions (behind_was (codes "vCont;") packet actions e) (actions_were actions)
    by None e = target_sound packet

-- a whole word, or an opening
word_sound : (packet : List ℕ) → Sound (word_request packet) packet
unfolding word_request whole_word_request
word_sound packet =
    first_sound (bytes_eq packet (codes "vCont?")) request.Ways _ _ _ (λ e. record { asks = same_bytes packet (codes "vCont?") e })
    (first_sound (bytes_eq packet (codes "qC")) request.CurrentThread _ _ _ (λ e. record { asks = same_bytes packet (codes "qC") e })
    (first_sound (bytes_eq packet (codes "qfThreadInfo")) request.FirstThreads _ _ _ (λ e. record { asks = same_bytes packet (codes "qfThreadInfo") e })
    (first_sound (bytes_eq packet (codes "qsThreadInfo")) request.MoreThreads _ _ _ (λ e. record { asks = same_bytes packet (codes "qsThreadInfo") e })
    (first_sound (bytes_eq packet (codes "qAttached")) request.IsAttached _ _ _ (λ e. record { asks = inl (same_bytes packet (codes "qAttached") e) })
    (first_sound (bytes_eq packet (codes "qSupported")) request.Supported _ _ _ (λ e. record { asks = inl (same_bytes packet (codes "qSupported") e) })
    (first_sound (bytes_eq packet (codes "QStartNoAckMode")) request.NoAcks _ _ _ (λ e. record { asks = same_bytes packet (codes "QStartNoAckMode") e })
    (opened_sound packet)))))))

pub packet_sound : (packet : List ℕ) → Sound (packet_request packet) packet
unfolding packet_request
packet_sound [] = unknown []
packet_sound (letter ∷ []) = lone_sound letter
packet_sound (letter ∷ next ∷ rest) = if_sound (request.begins_word letter) _ _ _ (λ e. word_sound (letter ∷ next ∷ rest)) (lettered_sound letter next rest)
