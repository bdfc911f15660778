-- Texts in parts, texts behind openings, and numbers: how they are read, and what was read so.
use Rattle.std.proofs.Common.{◌≡◌, ◌<◌, ◌+◌, ◌*◌, ◌⊎◌, inl, inr, ℕ, suc, Bool, true, false, not, ◌&&◌, ◌||◌, List, [], ◌∷◌, ◌++◌, length, take, drop, get_or, refl, ap, sym, ◌∙◌, arith, add-one, drop-cons, length-append, take-append-drop, append-nil}
use Rattle.std.proofs.Math.Seq.{take-append_seam, drop-append_seam, drop-append-add}
use Rattle.std.proofs.lemmas.Bool.{eq-eqb, eqb-true, le-leb, le-ltb, lt-ltb, ne_eqb}
use Rattle.std.proofs.lemmas.List.Folds.{list_all-append}
use Rattle.std.proofs.lemmas.List.Quantifiers.{position-Some}
use Rattle.std.proofs.lemmas.Option.{none-some}
use Rattle.std.proofs.lemmas.Slice.Eq.{bytes_eq-Decides}
use Rattle.std.specs.List.{list_all, position, prefix_len}
use Rattle.std.specs.Prelude.{Option, Some, None, ◌==◌, nat_le, nat_lt, codes, option_and_then}
use Rattle.std.specs.Str.{bytes_eq}
use Rattle.gdb_packets.specs.Digits.{digit_value}
use Rattle.gdb_packets.specs.Numbers.{below_limit, number_onto, packet_number, with_digit}
use Rattle.gdb_packets.specs.Requests.{PacketParts, behind_opening, parts_around, parts_at}
use Rattle.gdb_packets.proofs.NumberLemmas.{onto}
use Rattle.gdb_packets.proofs.ReadingLemmas.{both_true}
use Rattle.gdb_packets.specs.request_laws.Grammar.{HasNumber, IsCallResult, IsNumber, IsThread}

-- TWO PARTS

front_len : (p : ℕ → Bool) (w rest : List ℕ) → list_all p w ≡ true → prefix_len p rest ≡ 0 → prefix_len p (w ++ rest) ≡ length w
front_len p [] rest all none = none
front_len p (x ∷ w) rest all none = by (p x) refl (front_len p w rest)
  where
    by : (b : Bool) → p x ≡ b → (list_all p w ≡ true → prefix_len p rest ≡ 0 → prefix_len p (w ++ rest) ≡ length w)
        → prefix_len p ((x ∷ w) ++ rest) ≡ length (x ∷ w)
    by true e more = let others = rw e at all in rw (e, more others none) (omega arith)
    by false e more = let others = rw e at all in absurd cc

-- no byte of a text is the separator
abbrev pub Free : ℕ → List ℕ → Type 0
Free separator text = list_all (λ b. not (b == separator)) text ≡ true

pub free_append : (separator : ℕ) (a b : List ℕ) → Free separator a → Free separator b → Free separator (a ++ b)
free_append separator a b first second = list_all-append (λ c. not (c == separator)) a b ∙ rw (first, second) refl

pub free_cons : (separator byte : ℕ) (text : List ℕ) → not (byte == separator) ≡ true → Free separator text → Free separator (byte ∷ text)
free_cons separator byte text other rest = rw other rest

at_separator : (separator : ℕ) (behind : List ℕ) → prefix_len (λ b. not (b == separator)) (separator ∷ behind) ≡ 0
at_separator separator behind = rw (eq-eqb separator separator refl) refl

place_found : (separator : ℕ) (before behind : List ℕ) → Free separator before
    → position (λ b. b == separator) (before ++ (separator ∷ behind)) ≡ Some (length before)
place_found separator before behind free =
    let len : prefix_len (λ b. not (b == separator)) (before ++ (separator ∷ behind)) ≡ length before =
    front_len (λ b. not (b == separator)) before (separator ∷ behind) free (at_separator separator behind) in
    let within : nat_lt (length before) (length (before ++ (separator ∷ behind))) ≡ true =
    lt-ltb (length before) (length (before ++ (separator ∷ behind))) (omega (arith, length-append before (separator ∷ behind))) in
    rw (len, within) refl

pub parts_found : (separator : ℕ) (before behind : List ℕ) → Free separator before
    → parts_around separator (before ++ (separator ∷ behind)) ≡ Some (record { before = before; behind = behind })
parts_found separator before behind free =
    ap (λ (o : Option ℕ). parts_at o (before ++ (separator ∷ behind))) (place_found separator before behind free)
    ∙ (λ i. Some (record {
      before = take-append_seam before (separator ∷ behind) i;
      behind = drop-append-add before (separator ∷ behind) 1 i;
    }))

pub parts_none : (separator : ℕ) (text : List ℕ) → Free separator text → parts_around separator text ≡ None
parts_none separator text free =
    let all : prefix_len (λ b. not (b == separator)) (text ++ []) ≡ length text = front_len (λ b. not (b == separator)) text [] free refl in
    let len : prefix_len (λ b. not (b == separator)) text ≡ length text = rw append-nil at all in
    let past : nat_lt (length text) (length text) ≡ false = le-ltb (length text) (length text) (omega arith) in
    rw (len, past) refl

pub parts_were : (separator : ℕ) (text : List ℕ) (parts : PacketParts) → parts_around separator text ≡ Some parts
    → text ≡ parts.before ++ (separator ∷ parts.behind)
parts_were separator text parts is = by (position (λ b. b == separator) text) refl is
  where
    by : (o : Option ℕ) → position (λ b. b == separator) text ≡ o → parts_at o text ≡ Some parts
        → text ≡ parts.before ++ (separator ∷ parts.behind)
    by None e h = absurd (none-some parts h)
    by (Some place) e h =
        let at = position-Some (λ b. b == separator) text place 0 e in
        let here : get_or text place 0 ≡ separator = eqb-true (get_or text place 0) separator at.1 in
        let split : drop place text ≡ separator ∷ drop (place + 1) text =
        drop-cons text place 0 at.0 ∙ ap (λ (b : ℕ). b ∷ drop (suc place) text) here
        ∙ ap (λ (k : ℕ). separator ∷ drop k text) (sym (add-one place)) in
        let whole : text ≡ take place text ++ (separator ∷ drop (place + 1) text) =
        sym (take-append-drop place text) ∙ ap (λ (x : List ℕ). take place text ++ x) split in
        let first : take place text ≡ parts.before = cc in
        let second : drop (place + 1) text ≡ parts.behind = cc in
        whole ∙ ap (λ (x : List ℕ). x ++ (separator ∷ drop (place + 1) text)) first
        ∙ ap (λ (x : List ℕ). parts.before ++ (separator ∷ x)) second

-- OPENINGS

and_false : (a b : Bool) → b ≡ false → (a && b) ≡ false
and_false true b e = e
and_false false b e = refl

pub or_either : (a b : Bool) → (a || b) ≡ true → (a ≡ true) ⊎ (b ≡ true)
or_either true b e = inl refl
or_either false b e = inr e

pub or_true : (a b : Bool) → b ≡ true → (a || b) ≡ true
or_true true b e = refl
or_true false b e = e

pub same_bytes : (a b : List ℕ) → bytes_eq a b ≡ true → a ≡ b
same_bytes a b e = (bytes_eq-Decides a b).0 e

pub behind_found : (opening rest : List ℕ) → behind_opening opening (opening ++ rest) ≡ Some rest
behind_found opening rest =
    let long : nat_le (length opening) (length (opening ++ rest)) ≡ true =
    le-leb (length opening) (length (opening ++ rest)) (omega (arith, length-append opening rest)) in
    let same : bytes_eq (take (length opening) (opening ++ rest)) opening ≡ true =
    ap (λ (x : List ℕ). bytes_eq x opening) (take-append_seam opening rest) ∙ (bytes_eq-Decides opening opening).1 refl in
    rw (long, same) (ap (λ (x : List ℕ). Some x) (drop-append_seam opening rest))

pub behind_missing : (opening packet : List ℕ) → bytes_eq (take (length opening) packet) opening ≡ false
    → behind_opening opening packet ≡ None
behind_missing opening packet other =
    let none = and_false (nat_le (length opening) (length packet)) (bytes_eq (take (length opening) packet) opening) other in
    rw none refl

pub behind_was : (opening packet rest : List ℕ) → behind_opening opening packet ≡ Some rest → packet ≡ opening ++ rest
behind_was opening packet rest is =
    by (nat_le (length opening) (length packet) && bytes_eq (take (length opening) packet) opening) refl
  where
    by : (b : Bool) → (nat_le (length opening) (length packet) && bytes_eq (take (length opening) packet) opening) ≡ b
        → packet ≡ opening ++ rest
    by false e = let none = rw e at is in absurd (none-some rest none)
    by true e =
        let some = rw e at is in
        let both = both_true (nat_le (length opening) (length packet)) (bytes_eq (take (length opening) packet) opening) e in
        let front : take (length opening) packet ≡ opening = same_bytes (take (length opening) packet) opening both.1 in
        let left : drop (length opening) packet ≡ rest = cc in
        sym (take-append-drop (length opening) packet) ∙ ap (λ (x : List ℕ). x ++ drop (length opening) packet) front
        ∙ ap (λ (x : List ℕ). opening ++ x) left

-- NUMBERS

no_separator : (separator d digit : ℕ) → digit_value separator ≡ None → digit_value d ≡ Some digit → not (d == separator) ≡ true
no_separator separator d digit none some =
    rw (ne_eqb d separator (λ same. none-some digit (sym none ∙ sym (ap digit_value same) ∙ some))) refl

onto_free : (separator value : ℕ) (text : List ℕ) (n : ℕ) → digit_value separator ≡ None → number_onto value text ≡ Some n
    → Free separator text
onto_free separator value [] n none is = refl
onto_free separator value (d ∷ ds) n none is =
    by (digit_value d) refl (sym (onto value d ds) ∙ is) (λ next. onto_free separator next ds n none)
  where
    from : (o : Option ℕ) → option_and_then (λ next. number_onto next ds) o ≡ Some n
        → ((next : ℕ) → number_onto next ds ≡ Some n → Free separator ds) → Free separator ds
    from None h more = absurd (none-some n h)
    from (Some next) h more = more next h

    by : (o : Option ℕ) → digit_value d ≡ o → option_and_then (λ next. number_onto next ds) (with_digit value o) ≡ Some n
        → ((next : ℕ) → number_onto next ds ≡ Some n → Free separator ds) → Free separator (d ∷ ds)
    by None e h more = absurd (none-some n h)
    by (Some digit) e h more =
        free_cons separator d ds (no_separator separator d digit none e) (from (below_limit (16 * value + digit)) h more)

pub number_free : (separator n : ℕ) (text : List ℕ) → digit_value separator ≡ None → IsNumber n text → Free separator text
number_free separator n [] none is = refl
number_free separator n (d ∷ ds) none is = onto_free separator 0 (d ∷ ds) n none is

pub some_free : (separator : ℕ) (text : List ℕ) → digit_value separator ≡ None → HasNumber text → Free separator text
some_free separator text none is = by (packet_number text) refl
  where
    by : (o : Option ℕ) → packet_number text ≡ o → Free separator text
    by None e = let not_there = rw e at is in absurd (cc)
    by (Some n) e = number_free separator n text none e

pub number_long : (n : ℕ) (text : List ℕ) → IsNumber n text → 0 < length text
number_long n [] is = absurd (none-some n is)
number_long n (d ∷ ds) is = omega arith

pub some_long : (text : List ℕ) → HasNumber text → 0 < length text
some_long [] is = absurd (cc)
some_long (d ∷ ds) is = omega arith

-- what a call came to has no comma
pub result_free : (separator : ℕ) (text : List ℕ) → digit_value separator ≡ None → Free separator (codes "-1") → IsCallResult text
    → Free separator text
result_free separator text none other (inl number) = some_free separator text none number
result_free separator text none other (inr is) = rw is other

pub result_long : (text : List ℕ) → IsCallResult text → 0 < length text
result_long text (inl number) = some_long text number
result_long text (inr is) = rw is (omega arith)

-- a thread has no semicolon
pub thread_free : (is_own : Bool) (separator : ℕ) (text : List ℕ) → digit_value separator ≡ None → Free separator (codes "-1")
    → IsThread is_own text → Free separator text
thread_free true separator text none other (inl t) = number_free separator t.number text none t.is
thread_free true separator text none other (inr is) = rw is other
thread_free false separator text none other t = number_free separator t.number text none t.is

pub thread_long : (is_own : Bool) (text : List ℕ) → IsThread is_own text → 0 < length text
thread_long true text (inl t) = number_long t.number text t.is
thread_long true text (inr is) = rw is (omega arith)
thread_long false text t = number_long t.number text t.is

pub parted_long : (separator : ℕ) (before behind : List ℕ) → 0 < length (before ++ (separator ∷ behind))
parted_long separator before behind = omega (arith, length-append before (separator ∷ behind))
