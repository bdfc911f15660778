-- What a text is read as, it asks for by the grammar.
use Rattle.std.proofs.Common.{◌≡◌, ◌<◌, ◌⊎◌, inl, inr, ℕ, Bool, true, false, ◌&&◌, ◌||◌, List, [], ◌∷◌, ◌++◌, length, refl, ap, subst, ◌∙◌, arith}
use Rattle.std.proofs.lemmas.Bool.{eqb-true, leb-false, leb-true}
use Rattle.std.proofs.lemmas.Option.{none-some}
use Rattle.std.specs.Prelude.{Option, Some, None, is_some, nat_le, ◌==◌, codes, if◌then◌else◌}
use Rattle.std.specs.Str.{bytes_eq}
use Rattle.gdb_packets.specs.Numbers.{packet_number}
use Rattle.gdb_packets.specs.Requests as request
use Rattle.gdb_packets.specs.Requests.{GdbRequest, PacketParts, back_request, byte_range_of, control_request, first_shown, host_answer_flagged, host_answer_in, host_answer_request, if_shown, is_call_result, is_process, lettered_request, lone_request, of_range, of_signal, of_thread, parts_around, point_kind, point_of_kind, point_request, range_of_both, range_of_parts, register_request, set_register_numbered, set_register_request, store_bytes_request, store_pairs_request, thread_in, thread_numbered, thread_request}
use Rattle.gdb_packets.specs.declared.requests.ByteRange.{ByteRange}
use Rattle.gdb_packets.specs.declared.requests.PointKind.{PointKind}
use Rattle.gdb_packets.specs.declared.requests.PointKind.TheVariants as point
use Rattle.gdb_packets.proofs.ReadingLemmas.{both_true}
use Rattle.gdb_packets.specs.request_laws.Grammar.{AsksFor, IsAboutThread, IsCallEnd, IsCallResult, IsKind, IsPoint, IsRange, IsThread}
use Rattle.gdb_packets.proofs.RequestLawsLemmas.PartLemmas.{or_either, parts_were, same_bytes}

abbrev AsksOrUnknown : GdbRequest → List ℕ → Type 0
AsksOrUnknown request.Unknown text = Unit {0}
AsksOrUnknown other text = AsksFor other text

pub record Sound (r : GdbRequest) (text : List ℕ) : Type 0 where
  pub asks : AsksOrUnknown r text

pub unknown : (text : List ℕ) → Sound request.Unknown text
unknown text = record { asks = tt }

pub if_sound : (b : Bool) (x y : GdbRequest) (text : List ℕ) → (b ≡ true → Sound x text) → Sound y text
    → Sound (if b then x else y) text
if_sound true x y text first second = first refl
if_sound false x y text first second = second

pub first_sound : (b : Bool) (x : GdbRequest) (y : Option GdbRequest) (other : GdbRequest) (text : List ℕ) → (b ≡ true → Sound x text)
    → Sound (first_shown y other) text → Sound (first_shown (if b then Some x else y) other) text
first_sound true x y other text first second = first refl
first_sound false x y other text first second = second

pub shown_sound : (b : Bool) (x : GdbRequest) (text : List ℕ) → (b ≡ true → Sound x text) → Sound (if_shown b x) text
shown_sound b x text first = if_sound b x request.Unknown text first (unknown text)

-- a text of one letter, and one that begins with it
single : (letter k : ℕ) → (letter == k) ≡ true → letter ∷ [] ≡ k ∷ []
single letter k e = ap (λ (l : ℕ). l ∷ []) (eqb-true letter k e)

begins : (letter k : ℕ) (rest : List ℕ) → (letter == k) ≡ true → letter ∷ rest ≡ (k ∷ []) ++ rest
begins letter k rest e = ap (λ (l : ℕ). l ∷ rest) (eqb-true letter k e)

pub lone_sound : (letter : ℕ) → Sound (lone_request letter) (letter ∷ [])
lone_sound letter =
    if_sound (letter == 63) request.Reason _ _ (λ e. record { asks = single letter 63 e })
    (if_sound (letter == 103) request.Registers _ _ (λ e. record { asks = single letter 103 e })
    (if_sound (letter == 99) request.Continue _ _ (λ e. record { asks = inl (single letter 99 e) })
    (if_sound (letter == 115) request.Step _ _ (λ e. record { asks = inl (single letter 115 e) })
    (if_sound (letter == 107) request.Kill _ _ (λ e. record { asks = single letter 107 e })
    (if_sound (letter == 68) request.Detach _ _ (λ e. record { asks = inl (single letter 68 e) })
    (if_sound (letter == 33) request.Extended _ _ (λ e. record { asks = single letter 33 e }) (unknown _)))))))

-- PIECES

pub result_was : (text : List ℕ) → is_call_result text ≡ true → IsCallResult text
result_was text is = by (or_either (is_some (packet_number text)) (bytes_eq text (codes "-1")) is)
  where
    by : ((is_some (packet_number text) ≡ true) ⊎ (bytes_eq text (codes "-1") ≡ true)) → IsCallResult text
    by (inl number) = inl number
    by (inr same) = inr (same_bytes text (codes "-1") same)

pub thread_was : (is_own : Bool) (text : List ℕ) → thread_in text ≡ Some is_own → IsThread is_own text
thread_was is_own text is = by (packet_number text) refl is
  where
    numbered : (own : Bool) (n : ℕ) → packet_number text ≡ Some n → nat_le n 1 ≡ own → IsThread own text
    numbered true n e h = inl (record { number = n; is = e; within = leb-true n 1 h })
    numbered false n e h = record { number = n; is = e; beyond = leb-false n 1 h }

    all : (own b : Bool) → bytes_eq text (codes "-1") ≡ b → thread_numbered None b ≡ Some own → IsThread own text
    all true true e h = inr (same_bytes text (codes "-1") e)
    all false true e h = absurd (cc)
    all own false e h = absurd (none-some own h)

    by : (o : Option ℕ) → packet_number text ≡ o → thread_numbered o (bytes_eq text (codes "-1")) ≡ Some is_own → IsThread is_own text
    by None e h = all is_own (bytes_eq text (codes "-1")) refl h
    by (Some n) e h = numbered is_own n e (let same : nat_le n 1 ≡ is_own = cc in same)

-- a thread that is asked about
of_thread_sound : (o : Option Bool) (text : List ℕ) → ((is_own : Bool) → o ≡ Some is_own → IsAboutThread is_own text)
    → Sound (of_thread o) text
of_thread_sound None text asks = unknown text
of_thread_sound (Some true) text asks = record { asks = asks true refl }
of_thread_sound (Some false) text asks = record { asks = inl (asks false refl) }

pub range_was : (range : ByteRange) (text : List ℕ) → byte_range_of text ≡ Some range → IsRange range text
range_was range text is = by (parts_around 44 text) refl is
  where
    numbers : (parts : PacketParts) (a b : Option ℕ) → packet_number parts.before ≡ a → packet_number parts.behind ≡ b
        → text ≡ parts.before ++ (44 ∷ parts.behind) → range_of_both a b ≡ Some range → IsRange range text
    numbers parts (Some n) (Some m) first second whole h = record {
      before = parts.before;
      behind = parts.behind;
      whole = whole;
      first = first ∙ (let e : n ≡ range.start = cc in ap (λ (k : ℕ). Some k) e);
      second = second ∙ (let e : m ≡ range.count = cc in ap (λ (k : ℕ). Some k) e);
    }
    numbers parts (Some n) None first second whole h = absurd (none-some range h)
    numbers parts None b first second whole h = absurd (none-some range h)

    by : (o : Option PacketParts) → parts_around 44 text ≡ o → range_of_parts o ≡ Some range → IsRange range text
    by None e h = absurd (none-some range h)
    by (Some parts) e h = numbers parts (packet_number parts.before) (packet_number parts.behind) refl refl (parts_were 44 text parts e) h

pub of_range_sound : (o : Option ByteRange) (asked : ByteRange → GdbRequest) (text : List ℕ)
    → ((range : ByteRange) → o ≡ Some range → Sound (asked range) text) → Sound (of_range o asked) text
of_range_sound None asked text some = unknown text
of_range_sound (Some range) asked text some = some range refl

some_if : (b : Bool) (x kind : PointKind) (y : Option PointKind) (P : Type 0) → (if b then Some x else y) ≡ Some kind
    → (b ≡ true → x ≡ kind → P) → (y ≡ Some kind → P) → P
some_if true x kind y P h first second = first refl (cc)
some_if false x kind y P h first second = second h

kind_was : (kind : PointKind) (text : List ℕ) → point_kind text ≡ Some kind → IsKind kind text
kind_was kind text is =
    some_if (bytes_eq text (codes "0")) point.Break kind _ (IsKind kind text) is
    (λ b e. subst (λ (k : PointKind). IsKind k text) e (inl (same_bytes text (codes "0") b)))
    (λ h. some_if (bytes_eq text (codes "1")) point.Break kind _ (IsKind kind text) h
    (λ b e. subst (λ (k : PointKind). IsKind k text) e (inr (same_bytes text (codes "1") b)))
    (λ h. some_if (bytes_eq text (codes "2")) point.StoreWatch kind _ (IsKind kind text) h
    (λ b e. subst (λ (k : PointKind). IsKind k text) e (same_bytes text (codes "2") b))
    (λ h. some_if (bytes_eq text (codes "3")) point.LoadWatch kind _ (IsKind kind text) h
    (λ b e. subst (λ (k : PointKind). IsKind k text) e (same_bytes text (codes "3") b))
    (λ h. some_if (bytes_eq text (codes "4")) point.AccessWatch kind _ (IsKind kind text) h
    (λ b e. subst (λ (k : PointKind). IsKind k text) e (same_bytes text (codes "4") b))
    (λ h. absurd (none-some kind h))))))

-- REGISTERS AND MEMORY

register_sound : (letter : ℕ) (rest : List ℕ) → (letter == 112) ≡ true → Sound (register_request (packet_number rest)) (letter ∷ rest)
register_sound letter rest is = by (packet_number rest) refl
  where
    by : (o : Option ℕ) → packet_number rest ≡ o → Sound (register_request o) (letter ∷ rest)
    by None e = unknown (letter ∷ rest)
    by (Some n) e = record { asks = record { rest = rest; whole = begins letter 112 rest is; kind = e } }

set_register_sound : (letter : ℕ) (rest : List ℕ) → (letter == 80) ≡ true → Sound (set_register_request (parts_around 61 rest)) (letter ∷ rest)
set_register_sound letter rest is = by (parts_around 61 rest) refl
  where
    numbered : (parts : PacketParts) (o : Option ℕ) → rest ≡ parts.before ++ (61 ∷ parts.behind) → packet_number parts.before ≡ o
        → Sound (set_register_numbered o parts.behind) (letter ∷ rest)
    numbered parts None whole e = unknown (letter ∷ rest)
    numbered parts (Some n) whole e = record {
      asks = record {
        rest = rest;
        whole = begins letter 80 rest is;
        kind = record { before = parts.before; behind = parts.behind; whole = whole; first = e; second = refl };
      };
    }

    by : (o : Option PacketParts) → parts_around 61 rest ≡ o → Sound (set_register_request o) (letter ∷ rest)
    by None e = unknown (letter ∷ rest)
    by (Some parts) e = numbered parts (packet_number parts.before) (parts_were 61 rest parts e) refl

memory_sound : (letter : ℕ) (rest : List ℕ) → (letter == 109) ≡ true → Sound (of_range (byte_range_of rest) request.Memory) (letter ∷ rest)
memory_sound letter rest is = of_range_sound (byte_range_of rest) request.Memory (letter ∷ rest) (λ range e. record {
  asks = record { rest = rest; whole = begins letter 109 rest is; kind = range_was range rest e };
})

store_pairs_sound : (letter : ℕ) (rest : List ℕ) → (letter == 77) ≡ true → Sound (store_pairs_request (parts_around 58 rest)) (letter ∷ rest)
store_pairs_sound letter rest is = by (parts_around 58 rest) refl
  where
    by : (o : Option PacketParts) → parts_around 58 rest ≡ o → Sound (store_pairs_request o) (letter ∷ rest)
    by None e = unknown (letter ∷ rest)
    by (Some parts) e = of_range_sound (byte_range_of parts.before) (λ range. request.StorePairs range parts.behind) (letter ∷ rest)
        (λ range h. record {
          asks = record {
            rest = rest;
            whole = begins letter 77 rest is;
            kind = record { before = parts.before; behind = parts.behind; whole = parts_were 58 rest parts e; first = range_was range parts.before h; second = refl };
          };
        })

store_bytes_sound : (letter : ℕ) (rest : List ℕ) → (letter == 88) ≡ true → Sound (store_bytes_request (parts_around 58 rest)) (letter ∷ rest)
store_bytes_sound letter rest is = by (parts_around 58 rest) refl
  where
    by : (o : Option PacketParts) → parts_around 58 rest ≡ o → Sound (store_bytes_request o) (letter ∷ rest)
    by None e = unknown (letter ∷ rest)
    by (Some parts) e = of_range_sound (byte_range_of parts.before) (λ range. request.StoreBytes range parts.behind) (letter ∷ rest)
        (λ range h. record {
          asks = record {
            rest = rest;
            whole = begins letter 88 rest is;
            kind = record { before = parts.before; behind = parts.behind; whole = parts_were 58 rest parts e; first = range_was range parts.before h; second = refl };
          };
        })

point_sound : (rest text : List ℕ) (asked : PointKind → ByteRange → GdbRequest)
    → ((kind : PointKind) (range : ByteRange) → IsPoint kind range rest → Sound (asked kind range) text)
    → Sound (point_request (parts_around 44 rest) asked) text
point_sound rest text asked some = by (parts_around 44 rest) refl
  where
    both : (parts : PacketParts) (k : Option PointKind) (r : Option ByteRange) → point_kind parts.before ≡ k → byte_range_of parts.behind ≡ r
        → rest ≡ parts.before ++ (44 ∷ parts.behind) → Sound (point_of_kind k r asked) text
    both parts (Some kind) (Some range) first second whole = some kind range (record {
      before = parts.before;
      behind = parts.behind;
      whole = whole;
      first = kind_was kind parts.before first;
      second = range_was range parts.behind second;
    })
    both parts (Some kind) None first second whole = unknown text
    both parts None r first second whole = unknown text

    by : (o : Option PacketParts) → parts_around 44 rest ≡ o → Sound (point_request o asked) text
    by None e = unknown text
    by (Some parts) e = both parts (point_kind parts.before) (byte_range_of parts.behind) refl refl (parts_were 44 rest parts e)

-- WHAT THE PROGRAM DOES

host_sound : (letter : ℕ) (rest : List ℕ) → (letter == 70) ≡ true → Sound (host_answer_request rest) (letter ∷ rest)
host_sound letter rest is = by (parts_around 44 rest) refl
  where
    ends : IsCallEnd rest → Sound (request.HostAnswer false) (letter ∷ rest)
    ends kind = record { asks = record { rest = rest; whole = begins letter 70 rest is; kind = kind } }

    flagged : (parts : PacketParts) (o : Option PacketParts) → rest ≡ parts.before ++ (44 ∷ parts.behind) → IsCallResult parts.before
        → parts_around 44 parts.behind ≡ o → Sound (host_answer_flagged o parts.behind) (letter ∷ rest)
    flagged parts None whole thread e = shown_sound (is_some (packet_number parts.behind)) (request.HostAnswer false) (letter ∷ rest)
        (λ number. ends (inr (record { before = parts.before; behind = parts.behind; whole = whole; first = thread; second = number })))
    flagged parts (Some q) whole thread e =
        shown_sound (is_some (packet_number q.before) && bytes_eq q.behind (codes "C")) (request.HostAnswer true) (letter ∷ rest)
        (λ both. let parted = both_true (is_some (packet_number q.before)) (bytes_eq q.behind (codes "C")) both in record {
          asks = record {
            rest = rest;
            whole = begins letter 70 rest is;
            kind = record {
              before = parts.before;
              behind = parts.behind;
              whole = whole;
              first = thread;
              second = record {
                before = q.before;
                behind = q.behind;
                whole = parts_were 44 parts.behind q e;
                first = parted.0;
                second = same_bytes q.behind (codes "C") parted.1;
              };
            };
          };
        })

    by : (o : Option PacketParts) → parts_around 44 rest ≡ o → Sound (host_answer_in o rest) (letter ∷ rest)
    by None e = shown_sound (is_call_result rest) (request.HostAnswer false) (letter ∷ rest) (λ result. ends (inl (result_was rest result)))
    by (Some parts) e = shown_sound (is_call_result parts.before) (host_answer_flagged (parts_around 44 parts.behind) parts.behind) (letter ∷ rest)
        (λ result. flagged parts (parts_around 44 parts.behind) (parts_were 44 rest parts e) (result_was parts.before result) refl)

about_thread_sound : (letter next : ℕ) (rest : List ℕ) → (letter == 72) ≡ true → Sound (thread_request (next ∷ rest)) (letter ∷ next ∷ rest)
about_thread_sound letter next rest is =
    if_sound (next == 103 || next == 99) (of_thread (thread_in rest)) request.Unknown (letter ∷ next ∷ rest) (λ opened.
    of_thread_sound (thread_in rest) (letter ∷ next ∷ rest) (λ is_own reported.
    by is_own (or_either (next == 103) (next == 99) opened) (thread_was is_own rest reported)))
    (unknown (letter ∷ next ∷ rest))
  where
    opens : (k : ℕ) → (next == k) ≡ true → letter ∷ next ∷ rest ≡ 72 ∷ k ∷ rest
    opens k e = ap (λ (l : ℕ). l ∷ next ∷ rest) (eqb-true letter 72 is) ∙ ap (λ (l : ℕ). 72 ∷ l ∷ rest) (eqb-true next k e)

    by : (is_own : Bool) → (((next == 103) ≡ true) ⊎ ((next == 99) ≡ true)) → IsThread is_own rest
        → IsAboutThread is_own (letter ∷ next ∷ rest)
    by is_own (inl e) thread = inl (inl (record { rest = rest; whole = opens 103 e; kind = thread }))
    by is_own (inr e) thread = inl (inr (record { rest = rest; whole = opens 99 e; kind = thread }))

detach_sound : (letter next : ℕ) (rest : List ℕ) → (letter == 68) ≡ true
    → Sound (if_shown (is_process (next ∷ rest)) request.Detach) (letter ∷ next ∷ rest)
detach_sound letter next rest is = shown_sound (is_process (next ∷ rest)) request.Detach (letter ∷ next ∷ rest) (λ both.
    let parted = both_true (next == 59) (is_some (packet_number rest)) both in record {
      asks = inr (record {
        rest = rest;
        whole = ap (λ (l : ℕ). l ∷ next ∷ rest) (eqb-true letter 68 is) ∙ ap (λ (l : ℕ). 68 ∷ l ∷ rest) (eqb-true next 59 parted.0);
        kind = parted.1;
      });
    })

signal_sound : (rest : List ℕ) (asked : ℕ → GdbRequest) (text : List ℕ) → ((n : ℕ) → packet_number rest ≡ Some n → Sound (asked n) text)
    → Sound (of_signal (packet_number rest) asked) text
signal_sound rest asked text some = by (packet_number rest) refl
  where
    by : (o : Option ℕ) → packet_number rest ≡ o → Sound (of_signal o asked) text
    by None e = unknown text
    by (Some n) e = some n e

back_sound : (letter : ℕ) (rest : List ℕ) → (letter == 98) ≡ true → Sound (back_request rest) (letter ∷ rest)
back_sound letter rest is =
    if_sound (bytes_eq rest (codes "s")) request.StepBack _ (letter ∷ rest) (λ e. record { asks = behind_b (codes "s") e })
    (if_sound (bytes_eq rest (codes "c")) request.ContinueBack _ (letter ∷ rest) (λ e. record { asks = behind_b (codes "c") e })
    (unknown (letter ∷ rest)))
  where
    behind_b : (word : List ℕ) → bytes_eq rest word ≡ true → letter ∷ rest ≡ 98 ∷ word
    behind_b word e = begins letter 98 rest is ∙ ap (λ (r : List ℕ). 98 ∷ r) (same_bytes rest word e)

control_sound : (letter next : ℕ) (rest : List ℕ) → Sound (control_request letter (next ∷ rest)) (letter ∷ next ∷ rest)
control_sound letter next rest =
    let text = next ∷ rest in
    if_sound (letter == 67) _ _ _ (λ e. signal_sound text request.ContinueWith (letter ∷ text) (λ n number. record {
      asks = inl (record { rest = text; whole = begins letter 67 text e; kind = number });
    }))
    (if_sound (letter == 83) _ _ _ (λ e. signal_sound text request.StepWith (letter ∷ text) (λ n number. record {
      asks = inl (record { rest = text; whole = begins letter 83 text e; kind = number });
    }))
    (if_sound (letter == 72) _ _ _ (λ e. about_thread_sound letter next rest e)
    (if_sound (letter == 84) _ _ _ (λ e. of_thread_sound (thread_in text) (letter ∷ text) (λ is_own reported.
    inr (record { rest = text; whole = begins letter 84 text e; kind = thread_was is_own text reported })))
    (if_sound (letter == 70) _ _ _ (λ e. host_sound letter text e)
    (if_sound (letter == 68) _ _ _ (λ e. detach_sound letter next rest e)
    (if_sound (letter == 82) _ _ _ (λ e. shown_sound (is_some (packet_number text)) request.Restart (letter ∷ text) (λ number. record {
      asks = record { rest = text; whole = begins letter 82 text e; kind = number };
    }))
    (if_sound (letter == 98) _ _ _ (λ e. back_sound letter text e)
    (unknown (letter ∷ text)))))))))

pub lettered_sound : (letter next : ℕ) (rest : List ℕ) → Sound (lettered_request letter (next ∷ rest)) (letter ∷ next ∷ rest)
lettered_sound letter next rest =
    let text = next ∷ rest in
    first_sound (letter == 71) (request.SetRegisters text) _ _ _ (λ e. record { asks = (begins letter 71 text e, some_there) })
    (first_sound (letter == 112) _ _ _ _ (register_sound letter text)
    (first_sound (letter == 80) _ _ _ _ (set_register_sound letter text)
    (first_sound (letter == 109) _ _ _ _ (memory_sound letter text)
    (first_sound (letter == 77) _ _ _ _ (store_pairs_sound letter text)
    (first_sound (letter == 88) _ _ _ _ (store_bytes_sound letter text)
    (first_sound (letter == 90) _ _ _ _ (λ e. point_sound text (letter ∷ text) request.AddPoint (λ kind range is. record {
      asks = record { rest = text; whole = begins letter 90 text e; kind = is };
    }))
    (first_sound (letter == 122) _ _ _ _ (λ e. point_sound text (letter ∷ text) request.RemovePoint (λ kind range is. record {
      asks = record { rest = text; whole = begins letter 122 text e; kind = is };
    }))
    (control_sound letter next rest))))))))
  where
    some_there : 0 < length (next ∷ rest)
    some_there = omega arith
