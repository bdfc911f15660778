-- What is sent in a frame is read as that packet: it is opened, each byte is read back, and its end is
-- that of the sum so far.
use Rattle.std.proofs.Common.{◌≡◌, ◌≤◌, ◌<◌, ◌+◌, ◌-◌, ◌*◌, ◌/◌, ◌%◌, ℕ, Bool, true, false, List, [], ◌∷◌, ◌++◌, Some, length, length-append, append_assoc, arith, refl, ap, ◌∙◌}
use Rattle.std.specs.Prelude.{◌==◌, ◌&&◌, ◌||◌, nat_lt, nat_le}
use Rattle.std.specs.List.{sum}
use Rattle.std.proofs.lemmas.Bool.Decides.{nat_tests}
use Rattle.std.proofs.lemmas.Bool.{agree_below_at, eqb-true, ltb-true}
use Rattle.std.proofs.lemmas.List.{append-nil}
use Rattle.std.proofs.lemmas.List.Sums.{sum_by-append}
use Rattle.gdb_packets.specs.declared.reader.Piece.TheVariants as piece
use Rattle.gdb_packets.specs.declared.reader.FramePlace.TheVariants as place
use Rattle.gdb_packets.specs.Digits.{digit, digit_value, two_digits}
use Rattle.gdb_packets.specs.Frames.{frame_end, is_escaped, sent_byte, sent_bytes, turned_byte}
use Rattle.gdb_packets.specs.Laws.{PacketsAreRead, are_bytes, heard}
use Rattle.gdb_packets.specs.Reading.{Reading, byte_taken}

-- within a packet that fits so far
abbrev within : List ℕ → ℕ → Reading
within packet total = record { place = place.Inside; packet = packet; total = total; fits = true }

turned_twice : (b : ℕ) → b < 256 → turned_byte (turned_byte b) ≡ b
turned_twice b below =
    eqb-true (turned_byte (turned_byte b)) b (agree_below_at (λ c. turned_byte (turned_byte c) == c) (λ _. true) 256 b refl below)

-- a byte that is sent as itself is no `#`, `$` or `}`
none_of_them : (p q r s : Bool) → (p || (q || (r || s))) ≡ false → (p ≡ false) × (q ≡ false) × (s ≡ false)
none_of_them true q r s e = absurd (cc)
none_of_them false true r s e = absurd (cc)
none_of_them false false true s e = absurd (cc)
none_of_them false false false true e = absurd (cc)
none_of_them false false false false e = (refl, refl, refl)

sum-append : (xs ys : List ℕ) → sum (xs ++ ys) ≡ sum xs + sum ys
sum-append xs ys = sum_by-append (λ x. x) xs ys

-- a byte is read back, whichever way it is sent
byte_read_as : (packet : List ℕ) (total b : ℕ) (more : List ℕ) (escaped : Bool) → is_escaped b ≡ escaped
    → b < 256 → nat_lt (length packet) 16384 ≡ true
    → heard (within packet total) (sent_byte b ++ more)
    ≡ heard (within (packet ++ b ∷ []) ((total + sum (sent_byte b)) % 256)) more
unfolding heard byte_taken
byte_read_as packet total b more true is below room =
    rw is (rw room (rw (turned_twice b below)
    (ap (λ (n : ℕ). heard (within (packet ++ b ∷ []) n) more)
    (let e : ((total + 125) % 256 + turned_byte b) % 256 ≡ (total + (125 + turned_byte b)) % 256 = omega arith in e))))
byte_read_as packet total b more false is below room =
    let none = none_of_them (b == 35) (b == 36) (b == 42) (b == 125) is in
    rw is (rw (none.0, none.1, none.2, room)
    (ap (λ (n : ℕ). heard (within (packet ++ b ∷ []) n) more)
    (let e : (total + b) % 256 ≡ (total + (0 + b)) % 256 = omega arith in e)))

pub both_true : (p q : Bool) → (p && q) ≡ true → (p ≡ true) × (q ≡ true)
both_true true true e = (refl, refl)
both_true true false e = absurd (cc)
both_true false q e = absurd (cc)

lt-true : (a b : ℕ) → a < b → nat_lt a b ≡ true
lt-true a b below = grind (arith, nat_tests, below)

eq-true : (a b : ℕ) → a ≡ b → (a == b) ≡ true
eq-true a b e = grind (arith, nat_tests, e)

-- all bytes are read back
bytes_read : (packet bytes : List ℕ) (total : ℕ) (more : List ℕ) → total < 256 → are_bytes bytes ≡ true
    → length packet + length bytes ≤ 16384
    → heard (within packet total) (sent_bytes bytes ++ more)
    ≡ heard (within (packet ++ bytes) ((total + sum (sent_bytes bytes)) % 256)) more
bytes_read packet [] total more below are room =
    let e : total ≡ (total + 0) % 256 = omega (arith, below) in
    rw (append-nil packet) (ap (λ (n : ℕ). heard (within packet n) more) e)
bytes_read packet (b ∷ rest) total more below are room =
    let both = both_true (nat_lt b 256) (are_bytes rest) are in
    let here : b < 256 = ltb-true b 256 both.0 in
    let s : ℕ = sum (sent_byte b) in
    let first = byte_read_as packet total b (sent_bytes rest ++ more) (is_escaped b) refl here
    (lt-true (length packet) 16384 (omega (arith, room))) in
    let longer : length (packet ++ b ∷ []) ≡ length packet + 1 = length-append packet (b ∷ []) in
    let second = bytes_read (packet ++ b ∷ []) rest ((total + s) % 256) more (omega arith) both.1
    (omega (arith, room, longer)) in
    let parts : sum (sent_byte b ++ sent_bytes rest) ≡ s + sum (sent_bytes rest) = sum-append (sent_byte b) (sent_bytes rest) in
    let e : ((total + s) % 256 + sum (sent_bytes rest)) % 256 ≡ (total + sum (sent_byte b ++ sent_bytes rest)) % 256 =
    rw parts (omega arith) in
    ap (heard (within packet total)) (append_assoc (sent_byte b) (sent_bytes rest) more) ∙ first ∙ second
    ∙ ap (λ (q : List ℕ). heard (within q (((total + s) % 256 + sum (sent_bytes rest)) % 256)) more) (append_assoc packet (b ∷ []) rest)
    ∙ ap (λ (n : ℕ). heard (within (packet ++ b ∷ rest) n) more) e

digit_back_as : (v : ℕ) (low : Bool) → nat_lt v 10 ≡ low → v < 16 → digit_value (digit v) ≡ Some v
digit_back_as v true is below =
    let small : v < 10 = ltb-true v 10 is in
    let from : nat_le 48 (v + 48) ≡ true = grind (arith, nat_tests) in
    let to : nat_le (v + 48) 57 ≡ true = grind (arith, nat_tests, small) in
    let back : v + 48 - 48 ≡ v = omega arith in
    rw is (rw (from, to) (ap (λ (n : ℕ). Some n) back))
digit_back_as v false is below =
    let large : 10 ≤ v = grind (arith, nat_tests, is) in
    let no : nat_le (v + 87) 57 ≡ false = grind (arith, nat_tests) in
    let past : nat_le 48 (v + 87) ≡ true = grind (arith, nat_tests) in
    let from : nat_le 97 (v + 87) ≡ true = grind (arith, nat_tests, large) in
    let to : nat_le (v + 87) 102 ≡ true = grind (arith, nat_tests, below) in
    let back : v + 87 - 87 ≡ v = omega arith in
    rw is (rw (past, no, from, to) (ap (λ (n : ℕ). Some n) back))

digit_back : (v : ℕ) → v < 16 → digit_value (digit v) ≡ Some v
digit_back v below = digit_back_as v (nat_lt v 10) refl below

-- between packets, the last one kept
behind : List ℕ → ℕ → Reading
behind packet total = record { place = place.Between; packet = packet; total = total; fits = true }

end_read : (packet : List ℕ) (total : ℕ) (more : List ℕ) → total < 256
    → heard (within packet total) (35 ∷ two_digits total ++ more)
    ≡ record { piece = piece.Packet; packet = packet } ∷ heard (behind packet total) more
unfolding heard byte_taken behind
end_read packet total more below =
    let high : digit_value (digit (total / 16)) ≡ Some (total / 16) = digit_back (total / 16) (omega (arith, below)) in
    let low : digit_value (digit (total % 16)) ≡ Some (total % 16) = digit_back (total % 16) (omega arith) in
    let same : (total == 16 * (total / 16) + total % 16) ≡ true =
    eq-true total (16 * (total / 16) + total % 16) (omega arith) in
    rw high (rw low (rw same refl))

open_read : (r : Reading) (bytes : List ℕ) → r.place ≡ place.Between
    → heard r (36 ∷ bytes) ≡ heard (within [] 0) bytes
unfolding heard byte_taken
open_read r bytes stands = rw stands refl

pub packets_are_read : PacketsAreRead
unfolding behind
packets_are_read r packet more stands are room =
    let sent : List ℕ = sent_bytes packet in
    let total : ℕ = (0 + sum sent) % 256 in
    let e : sum sent % 256 ≡ total = omega arith in
    let parts : (sent ++ frame_end sent) ++ more ≡ sent ++ (frame_end sent ++ more) = append_assoc sent (frame_end sent) more in
    let opening = open_read r ((sent ++ frame_end sent) ++ more) stands in
    let inner = bytes_read [] packet 0 (frame_end sent ++ more) (omega arith) are (omega (arith, room)) in
    let last : frame_end sent ≡ 35 ∷ two_digits total = ap (λ (n : ℕ). 35 ∷ two_digits n) e in
    let end = end_read packet total more (omega arith) in
    record {
      after = behind packet total;
      stands = refl;
      reported = refl;
      heard_so = opening ∙ ap (heard (within [] 0)) parts ∙ inner
          ∙ ap (λ (x : List ℕ). heard (within packet total) (x ++ more)) last ∙ end;
    }
