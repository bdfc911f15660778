-- Pieces of packets, read: ranges, points, stores, threads, actions and what calls came to.
use Rattle.std.proofs.Common.{◌≡◌, inl, inr, ℕ, Bool, true, false, not, List, [], ◌∷◌, refl, ap, sym, subst, ◌∙◌, arith, length, ◌++◌}
use Rattle.std.specs.Prelude.{Option, Some, None, is_some, nat_le, ◌==◌, codes}
use Rattle.std.specs.Str.{bytes_eq}
use Rattle.std.proofs.lemmas.Bool.{le-leb, lt-leb}
use Rattle.std.proofs.lemmas.Option.{none-some}
use Rattle.gdb_packets.specs.Digits.{digit_value}
use Rattle.gdb_packets.specs.Numbers.{packet_number}
use Rattle.gdb_packets.specs.Requests as request
use Rattle.gdb_packets.specs.Requests.{GdbRequest, PacketParts, action_for_parts, action_for_thread, action_of, action_request, actions_in, actions_request, byte_range_of, host_answer_flagged, host_answer_in, host_answer_request, if_shown, is_call_result, is_known_packet, of_signal, parts_around, places_of_both, places_request, point_kind, point_of_kind, point_request, range_of_both, range_of_parts, set_register_request, store_bytes_request, store_pairs_request, thread_in, thread_numbered}
use Rattle.gdb_packets.specs.declared.requests.ByteRange.{ByteRange}
use Rattle.gdb_packets.specs.declared.requests.PlaceRange.{PlaceRange}
use Rattle.gdb_packets.specs.declared.requests.PointKind.{PointKind}
use Rattle.gdb_packets.specs.declared.requests.PointKind.TheVariants as point
use Rattle.gdb_packets.specs.request_laws.Grammar.{AreActions, Behind, HasNumber, Is, IsAction, IsAnyAction, IsAnyForThread, IsCallEnd, IsCallResult, IsCallStopped, IsForThread, IsKind, IsNumber, IsOwnAction, IsPoint, IsRange, IsStoreText, IsThread, IsStepRange, Parted}
use Rattle.gdb_packets.proofs.NumberLemmas.{onto}
use Rattle.gdb_packets.proofs.RequestLawsLemmas.PartLemmas.{Free, free_append, free_cons, number_free, or_true, parted_long, parts_found, parts_none, result_free, some_free, thread_free}

-- what parts a text in two kinds is read as
parts_read : {First Second : List ℕ → Type 0} (separator : ℕ) (text : List ℕ) (p : Parted separator First Second text)
    → Free separator p.before → parts_around separator text ≡ Some (record { before = p.before; behind = p.behind })
parts_read separator text p free = ap (parts_around separator) p.whole ∙ parts_found separator p.before p.behind free

pub range_read : (range : ByteRange) (text : List ℕ) → IsRange range text → byte_range_of text ≡ Some range
range_read range text p =
    ap range_of_parts (parts_read 44 text p (number_free 44 range.start p.before refl p.first))
    ∙ ap (λ (o : Option ℕ). range_of_both o (packet_number p.behind)) p.first
    ∙ ap (λ (o : Option ℕ). range_of_both (Some range.start) o) p.second

range_free : (range : ByteRange) (text : List ℕ) → IsRange range text → Free 58 text
range_free range text p =
    subst (Free 58) (sym p.whole) (free_append 58 p.before (44 ∷ p.behind) (number_free 58 range.start p.before refl p.first)
    (free_cons 58 44 p.behind refl (number_free 58 range.count p.behind refl p.second)))

kind_read : (kind : PointKind) (text : List ℕ) → IsKind kind text → point_kind text ≡ Some kind
kind_read point.Break text (inl is) = rw is refl
kind_read point.Break text (inr is) = rw is refl
kind_read point.StoreWatch text is = rw is refl
kind_read point.LoadWatch text is = rw is refl
kind_read point.AccessWatch text is = rw is refl

kind_free : (kind : PointKind) (text : List ℕ) → IsKind kind text → Free 44 text
kind_free point.Break text (inl is) = rw is refl
kind_free point.Break text (inr is) = rw is refl
kind_free point.StoreWatch text is = rw is refl
kind_free point.LoadWatch text is = rw is refl
kind_free point.AccessWatch text is = rw is refl

pub point_read : (kind : PointKind) (range : ByteRange) (text : List ℕ) (asked : PointKind → ByteRange → GdbRequest) → IsPoint kind range text
    → point_request (parts_around 44 text) asked ≡ asked kind range
point_read kind range text asked p =
    ap (λ (o : Option PacketParts). point_request o asked) (parts_read 44 text p (kind_free kind p.before p.first))
    ∙ ap (λ (o : Option PointKind). point_of_kind o (byte_range_of p.behind) asked) (kind_read kind p.before p.first)
    ∙ ap (λ (o : Option ByteRange). point_of_kind (Some kind) o asked) (range_read range p.behind p.second)

pub set_register_read : (n : ℕ) (pairs text : List ℕ) → Parted 61 (IsNumber n) (Is pairs) text
    → set_register_request (parts_around 61 text) ≡ request.SetRegister n pairs
set_register_read n pairs text p =
    ap set_register_request (parts_read 61 text p (number_free 61 n p.before refl p.first))
    ∙ ap (λ (o : Option ℕ). request.set_register_numbered o p.behind) p.first
    ∙ ap (request.SetRegister n) p.second

pub store_pairs_read : (range : ByteRange) (stored text : List ℕ) → IsStoreText range stored text
    → store_pairs_request (parts_around 58 text) ≡ request.StorePairs range stored
store_pairs_read range stored text p =
    ap store_pairs_request (parts_read 58 text p (range_free range p.before p.first))
    ∙ ap (λ (o : Option ByteRange). request.of_range o (λ r. request.StorePairs r p.behind)) (range_read range p.before p.first)
    ∙ ap (request.StorePairs range) p.second

pub store_bytes_read : (range : ByteRange) (stored text : List ℕ) → IsStoreText range stored text
    → store_bytes_request (parts_around 58 text) ≡ request.StoreBytes range stored
store_bytes_read range stored text p =
    ap store_bytes_request (parts_read 58 text p (range_free range p.before p.first))
    ∙ ap (λ (o : Option ByteRange). request.of_range o (λ r. request.StoreBytes r p.behind)) (range_read range p.before p.first)
    ∙ ap (request.StoreBytes range) p.second

pub result_read : (text : List ℕ) → IsCallResult text → is_call_result text ≡ true
result_read text (inl number) = rw number refl
result_read text (inr is) = rw is (or_true (is_some (packet_number (codes "-1"))) true refl)

-- a minus is no digit
no_number : packet_number (codes "-1") ≡ None
no_number = onto 0 45 (49 ∷ [])

numbered : (text : List ℕ) (n : ℕ) (is_own : Bool) → packet_number text ≡ Some n → nat_le n 1 ≡ is_own → thread_in text ≡ Some is_own
numbered text n is_own is own =
    ap (λ (o : Option ℕ). thread_numbered o (bytes_eq text (codes "-1"))) is ∙ ap (λ (b : Bool). Some b) own

pub thread_read : (is_own : Bool) (text : List ℕ) → IsThread is_own text → thread_in text ≡ Some is_own
thread_read true text (inl t) = numbered text t.number true t.is (le-leb t.number 1 t.within)
thread_read true text (inr is) = ap thread_in is ∙ ap (λ (o : Option ℕ). thread_numbered o true) no_number
thread_read false text t = numbered text t.number false t.is (lt-leb t.number 1 t.beyond)

-- ACTIONS

-- what a text of an action is read as
pub action_read : (r : GdbRequest) (text : List ℕ) → IsAction r text → action_request text ≡ r
action_read request.Continue text is = rw is refl
action_read request.Step text is = rw is refl
action_read (request.ContinueWith n) text b = ap action_request b.whole ∙ by b.rest b.kind
  where
    by : (rest : List ℕ) → IsNumber n rest → action_request (67 ∷ rest) ≡ request.ContinueWith n
    by [] h = absurd (none-some n h)
    by (d ∷ ds) h = ap (λ (o : Option ℕ). of_signal o request.ContinueWith) h
action_read (request.StepWith n) text b = ap action_request b.whole ∙ by b.rest b.kind
  where
    by : (rest : List ℕ) → IsNumber n rest → action_request (83 ∷ rest) ≡ request.StepWith n
    by [] h = absurd (none-some n h)
    by (d ∷ ds) h = ap (λ (o : Option ℕ). of_signal o request.StepWith) h
action_read (request.StepRange places) text b = ap action_request b.whole ∙ by b.rest b.kind
  where
    by : (rest : List ℕ) → Parted 44 (IsNumber places.start) (IsNumber places.end) rest
        → action_request (114 ∷ rest) ≡ request.StepRange places
    by [] p =
        let none : 0 ≡ length (p.before ++ (44 ∷ p.behind)) = ap length p.whole in
        absurd (omega (arith, none, parted_long 44 p.before p.behind))
    by (d ∷ ds) p =
        ap places_request (parts_read 44 (d ∷ ds) p (number_free 44 places.start p.before refl p.first))
        ∙ ap (λ (o : Option ℕ). places_of_both o (packet_number p.behind)) p.first
        ∙ ap (λ (o : Option ℕ). places_of_both (Some places.start) o) p.second
action_read other text none = absurd none

-- NO TEXT OF AN ACTION HAS A SEPARATOR IN IT

signalled_free : (separator letter n : ℕ) (text : List ℕ) → digit_value separator ≡ None → not (letter == separator) ≡ true
    → Behind (letter ∷ []) (IsNumber n) text → Free separator text
signalled_free separator letter n text none other b =
    subst (Free separator) (sym b.whole) (free_cons separator letter b.rest other (number_free separator n b.rest none b.kind))

within_free : (separator : ℕ) (places : PlaceRange) (text : List ℕ) → digit_value separator ≡ None → not (114 == separator) ≡ true
    → not (44 == separator) ≡ true → IsStepRange places text → Free separator text
within_free separator places text none letter comma b =
    subst (Free separator) (sym b.whole) (free_cons separator 114 b.rest letter
    (subst (Free separator) (sym b.kind.whole) (free_append separator b.kind.before (44 ∷ b.kind.behind)
    (number_free separator places.start b.kind.before none b.kind.first)
    (free_cons separator 44 b.kind.behind comma (number_free separator places.end b.kind.behind none b.kind.second)))))

pub record Others (separator : ℕ) : Type 0 where
  pub none : digit_value separator ≡ None
  pub small_c : not (99 == separator) ≡ true
  pub small_s : not (115 == separator) ≡ true
  pub capital_c : not (67 == separator) ≡ true
  pub capital_s : not (83 == separator) ≡ true
  pub small_r : not (114 == separator) ≡ true
  pub comma : not (44 == separator) ≡ true

action_free : (separator : ℕ) (r : GdbRequest) (text : List ℕ) → Others separator → IsAction r text → Free separator text
action_free separator request.Continue text o is = rw is (free_cons separator 99 [] o.small_c refl)
action_free separator request.Step text o is = rw is (free_cons separator 115 [] o.small_s refl)
action_free separator (request.ContinueWith n) text o b = signalled_free separator 67 n text o.none o.capital_c b
action_free separator (request.StepWith n) text o b = signalled_free separator 83 n text o.none o.capital_s b
action_free separator (request.StepRange places) text o b = within_free separator places text o.none o.small_r o.comma b
action_free separator other text o none = absurd none

colon : Others 58
colon = record { none = refl; small_c = refl; small_s = refl; capital_c = refl; capital_s = refl; small_r = refl; comma = refl }

semicolon : Others 59
semicolon = record { none = refl; small_c = refl; small_s = refl; capital_c = refl; capital_s = refl; small_r = refl; comma = refl }

-- a request that a text of an action asks for is a known one
action_known : (r : GdbRequest) (text : List ℕ) → IsAction r text → is_known_packet r ≡ true
action_known request.Unknown text none = absurd none
action_known other text is = refl

own_read : (r : GdbRequest) (text : List ℕ) → IsOwnAction r text → action_for_thread text ≡ r
own_read r text (inl action) =
    ap (λ (o : Option PacketParts). action_for_parts o text) (parts_none 58 text (action_free 58 r text colon action))
    ∙ action_read r text action
own_read r text (inr p) =
    ap (λ (o : Option PacketParts). action_for_parts o text) (parts_read 58 text p (action_free 58 r p.before colon p.first))
    ∙ ap (λ (o : Option Bool). action_of o (action_request p.before)) (thread_read true p.behind p.second) ∙ action_read r p.before p.first

other_read : (text : List ℕ) → Parted 58 IsAnyAction (IsThread false) text → action_for_thread text ≡ request.Thread false
other_read text p =
    let a = p.first in
    ap (λ (o : Option PacketParts). action_for_parts o text) (parts_read 58 text p (action_free 58 a.action p.before colon a.kind))
    ∙ ap (λ (o : Option Bool). action_of o (action_request p.before)) (thread_read false p.behind p.second)
    ∙ ap (λ (b : Bool). if_shown b (request.Thread false))
    (ap is_known_packet (action_read a.action p.before a.kind) ∙ action_known a.action p.before a.kind)

for_thread_read : (r : GdbRequest) (text : List ℕ) → IsForThread r text → action_for_thread text ≡ r
for_thread_read (request.Thread false) text p = other_read text p
for_thread_read other text own = own_read other text own

-- behind the colon of an action no semicolon stands
colon_free : (is_own : Bool) (r : GdbRequest) (text before behind : List ℕ) → text ≡ before ++ (58 ∷ behind) → IsAction r before
    → IsThread is_own behind → Free 59 text
colon_free is_own r text before behind whole action thread =
    subst (Free 59) (sym whole) (free_append 59 before (58 ∷ behind) (action_free 59 r before semicolon action)
    (free_cons 59 58 behind refl (thread_free is_own 59 behind refl refl thread)))

own_free : (r : GdbRequest) (text : List ℕ) → IsOwnAction r text → Free 59 text
own_free r text (inl action) = action_free 59 r text semicolon action
own_free r text (inr p) = colon_free true r text p.before p.behind p.whole p.first p.second

for_thread_free : (r : GdbRequest) (text : List ℕ) → IsForThread r text → Free 59 text
for_thread_free (request.Thread false) text p = colon_free false p.first.action text p.before p.behind p.whole p.first.kind p.second
for_thread_free other text own = own_free other text own

own_known : (r : GdbRequest) (text : List ℕ) → IsOwnAction r text → is_known_packet r ≡ true
own_known r text (inl action) = action_known r text action
own_known r text (inr p) = action_known r p.before p.first

for_thread_known : (r : GdbRequest) (text : List ℕ) → IsForThread r text → is_known_packet r ≡ true
for_thread_known (request.Thread false) text p = refl
for_thread_known other text own = own_known other text own

any_known : (text : List ℕ) → IsAnyForThread text → is_known_packet (action_for_thread text) ≡ true
any_known text any =
    ap is_known_packet (for_thread_read any.action text any.for_thread) ∙ for_thread_known any.action text any.for_thread

pub actions_read : (r : GdbRequest) (text : List ℕ) → AreActions r text → actions_request text ≡ r
actions_read r text (inl action) =
    ap (λ (o : Option PacketParts). actions_in o text) (parts_none 59 text (for_thread_free r text action))
    ∙ for_thread_read r text action
actions_read r text (inr p) =
    ap (λ (o : Option PacketParts). actions_in o text) (parts_read 59 text p (for_thread_free r p.before p.first))
    ∙ ap (λ (b : Bool). if_shown b (action_for_thread p.before)) (any_known p.behind p.second) ∙ for_thread_read r p.before p.first

-- WHAT CALLS CAME TO

pub call_end_read : (text : List ℕ) → IsCallEnd text → host_answer_request text ≡ request.HostAnswer false
call_end_read text (inl result) =
    ap (λ (o : Option PacketParts). host_answer_in o text) (parts_none 44 text (result_free 44 text refl refl result))
    ∙ ap (λ (b : Bool). if_shown b (request.HostAnswer false)) (result_read text result)
call_end_read text (inr p) =
    ap (λ (o : Option PacketParts). host_answer_in o text) (parts_read 44 text p (result_free 44 p.before refl refl p.first))
    ∙ ap (λ (b : Bool). if_shown b (host_answer_flagged (parts_around 44 p.behind) p.behind)) (result_read p.before p.first)
    ∙ ap (λ (o : Option PacketParts). host_answer_flagged o p.behind) (parts_none 44 p.behind (some_free 44 p.behind refl p.second))
    ∙ ap (λ (b : Bool). if_shown b (request.HostAnswer false)) p.second

flag_read : (text : List ℕ) → Parted 44 HasNumber (Is (codes "C")) text
    → host_answer_flagged (parts_around 44 text) text ≡ request.HostAnswer true
flag_read text p =
    ap (λ (o : Option PacketParts). host_answer_flagged o text) (parts_read 44 text p (some_free 44 p.before refl p.first))
    ∙ rw (p.first, p.second) refl

pub call_stopped_read : (text : List ℕ) → IsCallStopped text → host_answer_request text ≡ request.HostAnswer true
call_stopped_read text p =
    ap (λ (o : Option PacketParts). host_answer_in o text) (parts_read 44 text p (result_free 44 p.before refl refl p.first))
    ∙ ap (λ (b : Bool). if_shown b (host_answer_flagged (parts_around 44 p.behind) p.behind)) (result_read p.before p.first)
    ∙ flag_read p.behind p.second
