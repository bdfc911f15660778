-- Pieces of a debugging script that are typed one after another.
use Rattle.std.proofs.Common.{◌≡◌, ◌≤◌, ◌<◌, inl, inr, ℕ, ◌+◌, ◌-◌, ◌^◌, Bool, true, false, List, [], ◌∷◌, ◌++◌, length, take, drop, position, IfSome, Option, Some, None, append_assoc, append-nil, true≢false, ap, sym, subst, refl, ◌∙◌, arith}
use Rattle.std.specs.Prelude.{◌&&◌, ◌==◌}
use Rattle.std.proofs.lemmas.List.{drop-take, length-append, length-take-le, take-append-drop, take-append-le}
use Rattle.std.proofs.lemmas.Bool.{cases_order}
use Rattle.std.proofs.Math.Seq.{take-append_seam, drop-append_seam}
use Rattle.std.specs.Io.KnownBytes.{Appends}
use Rattle.std.specs.Str.Lines.{lines}
use Rattle.profile.specs.images.Entries.{Entry}
use Rattle.profile.proofs.OutputLemmas.{AddsAllBut-start, Appends-join}
use Rattle.profile.specs.Output.{AddsFront}
use Rattle.profile.specs.text_lines.WholeLines.{line_of_some, unended_line, whole_lines}
use Rattle.profile.specs.text_lines.Lines.{ReadingPlace}
use Rattle.profile.proofs.TextLinesLemmas.WholeLineLemmas.{all_unended, lines_at_most, lines_cut, lines_whole_or_last, unended_line_goes_on, whole_at_place, whole_lines_go_on}
use Rattle.debug_lines.specs.WholeDebugRequests.{AreWholeDebugRequests, is_debug_block_open_after, is_debug_block_open_after_lines, is_debug_block_open_throughout}
use Rattle.debug_session.specs.DebugScript.{debug_lines_answer}
use Rattle.debug_session.specs.DebugState.{DebugAnswered, DebugState, IsDebugged}
use Rattle.debug_session.specs.Session.{debug_state}
use Rattle.debug_program.specs.Typing.{IsTaken, TypedPieceThenRest, TypedPiecesJoin, TypedTextTakenOneWay}
use Rattle.debug_session.specs.declared.session.DebugSettings.{DebugSettings}
use Rattle.debug_program.specs.declared.typing.DebugTyping.{DebugTyping}
use Rattle.debug_program.specs.Typing.{IsTakenInPart}
use Rattle.debug_session.proofs.FailLemmas.{front_then}
use Rattle.debug_session.proofs.JoinLemmas.{requests_join}
use Rattle.debug_session.proofs.LineLemmas.{joined}

-- A TEXT AS REQUESTS THAT ARE WHOLE, AND WHAT WAITS

-- the two parts of a text
record HasRequests (text requests waiting : List ℕ) : Type 0 where
  parts : text ≡ requests ++ waiting
  at_an_end : unended_line requests ≡ []
  closed : is_debug_block_open_after_lines false (whole_lines requests) ≡ false
  rest_is_open : is_debug_block_open_throughout false (whole_lines waiting) ≡ true

parts_of : (text : List ℕ) (count : ℕ) → AreWholeDebugRequests text count → HasRequests text (take count text) (drop count text)
parts_of text count whole = record {
  parts = sym (take-append-drop count text);
  at_an_end = whole.at_an_end;
  closed = whole.closed;
  rest_is_open = whole.rest_is_open;
}

front_of : (text requests waiting : List ℕ) → text ≡ requests ++ waiting → take (length requests) text ≡ requests
front_of text requests waiting parts = ap (take (length requests)) parts ∙ take-append_seam requests waiting

back_of : (text requests waiting : List ℕ) → text ≡ requests ++ waiting → drop (length requests) text ≡ waiting
back_of text requests waiting parts = ap (drop (length requests)) parts ∙ drop-append_seam requests waiting

whole_of : (text requests waiting : List ℕ) → HasRequests text requests waiting → AreWholeDebugRequests text (length requests)
whole_of text requests waiting has =
    let front = front_of text requests waiting has.parts in
    let back = back_of text requests waiting has.parts in
    record {
      in_text = omega (arith, ap length has.parts, length-append requests waiting);
      at_an_end = ap unended_line front ∙ has.at_an_end;
      closed = ap (λ (xs : List ℕ). is_debug_block_open_after_lines false (whole_lines xs)) front ∙ has.closed;
      rest_is_open = ap (λ (xs : List ℕ). is_debug_block_open_throughout false (whole_lines xs)) back ∙ has.rest_is_open;
    }

open_after : (front rest : List (List ℕ)) (is_open : Bool)
    → is_debug_block_open_after_lines is_open (front ++ rest)
    ≡ is_debug_block_open_after_lines (is_debug_block_open_after_lines is_open front) rest
unfolding is_debug_block_open_after_lines
open_after [] rest is_open = refl
open_after (line ∷ front) rest is_open = open_after front rest (is_debug_block_open_after is_open line)

-- the lines of a text that ends with one, and of what follows it
lines_of_two : (requests more : List ℕ) → unended_line requests ≡ [] → whole_lines (requests ++ more) ≡ whole_lines requests ++ whole_lines more
lines_of_two requests more ends =
    whole_lines_go_on requests more
    ∙ ap (λ (line : List ℕ). whole_lines requests ++ whole_lines (line ++ more)) ends

-- requests, and then more of them in what waited and what came
parts_join : (text requests waiting piece next more : List ℕ)
    → HasRequests text requests waiting → HasRequests (waiting ++ piece) next more
    → HasRequests (text ++ piece) (requests ++ next) more
parts_join text requests waiting piece next more first second = record {
  parts =
      ap (λ (xs : List ℕ). xs ++ piece) first.parts ∙ append_assoc requests waiting piece
      ∙ ap (λ (xs : List ℕ). requests ++ xs) second.parts ∙ sym (append_assoc requests next more);
  at_an_end =
      unended_line_goes_on requests next ∙ ap (λ (line : List ℕ). unended_line (line ++ next)) first.at_an_end
      ∙ second.at_an_end;
  closed =
      ap (is_debug_block_open_after_lines false) (lines_of_two requests next first.at_an_end)
      ∙ open_after (whole_lines requests) (whole_lines next) false
      ∙ ap (λ (b : Bool). is_debug_block_open_after_lines b (whole_lines next)) first.closed ∙ second.closed;
  rest_is_open = second.rest_is_open;
}

-- WHAT THEY ARE ANSWERED

lines_of_both : (requests next : List ℕ) → unended_line requests ≡ [] → lines (requests ++ next) ≡ lines requests ++ lines next
lines_of_both requests next ends =
    lines_cut requests next ends
    ∙ ap (λ (ls : List (List ℕ)). ls ++ lines next)
    (sym (lines_whole_or_last requests ∙ ap (λ (line : List ℕ). whole_lines requests ++ line_of_some line) ends
    ∙ append-nil (whole_lines requests)))

lines_closed : (requests : List ℕ) → unended_line requests ≡ []
    → is_debug_block_open_after_lines false (lines requests) ≡ is_debug_block_open_after_lines false (whole_lines requests)
lines_closed requests ends =
    ap (is_debug_block_open_after_lines false)
    (lines_whole_or_last requests ∙ ap (λ (line : List ℕ). whole_lines requests ++ line_of_some line) ends
    ∙ append-nil (whole_lines requests))

two_answer : (c : DebugSettings) (number : ℕ) (d : DebugState) (requests next : List ℕ) → unended_line requests ≡ []
    → is_debug_block_open_after_lines false (whole_lines requests) ≡ false
    → debug_lines_answer c number d (lines (requests ++ next))
    ≡ joined (debug_lines_answer c number d (lines requests))
    (debug_lines_answer c (number + length (lines requests)) (debug_lines_answer c number d (lines requests)).state (lines next))
two_answer c number d requests next ends closed =
    ap (debug_lines_answer c number d) (lines_of_both requests next ends)
    ∙ requests_join c number d (lines requests) (lines next) (lines_closed requests ends ∙ closed)

count_of_two : (requests next : List ℕ) → unended_line requests ≡ []
    → length (lines (requests ++ next)) ≡ length (lines requests) + length (lines next)
count_of_two requests next ends =
    ap length (lines_of_both requests next ends) ∙ length-append (lines requests) (lines next)

answer_by : (c e : DebugSettings) (number more : ℕ) (d s now : DebugState) (left : List (List ℕ)) (before after : Option (List ℕ))
    → e ≡ c → more ≡ number → s ≡ d
    → IsDebugged before after now (debug_lines_answer e more s left) → IsDebugged before after now (debug_lines_answer c number d left)
answer_by c e number more d s now left before after setting counted state reported =
    subst (λ (x : DebugSettings). IsDebugged before after now (debug_lines_answer x number d left)) setting
    (subst (λ (n : ℕ). IsDebugged before after now (debug_lines_answer e n d left)) counted
    (subst (λ (t : DebugState). IsDebugged before after now (debug_lines_answer e more t left)) state reported))

pub pieces_join : TypedPiecesJoin
pieces_join first mid last images images_mid images_last before between after piece next taken setting more =
    let c : DebugSettings = first.session.setting in
    let d : DebugState = debug_state first.session images in
    let all : List ℕ = first.pending.items ++ piece in
    let here : List ℕ = take taken.count all in
    let text : List ℕ = mid.pending.items ++ next in
    let then_here : List ℕ = take more.count text in
    let waiting : List ℕ = drop more.count text in
    let both : List ℕ = first.pending.items ++ (piece ++ next) in
    let joins : all ++ next ≡ both = append_assoc first.pending.items piece next in
    let one : HasRequests all here (drop taken.count all) = parts_of all taken.count taken.whole in
    let two : HasRequests (drop taken.count all ++ next) then_here waiting =
    subst (λ (xs : List ℕ). HasRequests (xs ++ next) then_here waiting) taken.waits (parts_of text more.count more.whole) in
    let has : HasRequests both (here ++ then_here) waiting =
    subst (λ (xs : List ℕ). HasRequests xs (here ++ then_here) waiting) joins
    (parts_join all here (drop taken.count all) next then_here waiting one two) in
    let front = front_of both (here ++ then_here) waiting has.parts in
    let answered : DebugAnswered = debug_lines_answer c first.number d (lines here) in
    let reported : IsDebugged between after (debug_state last.session images_last)
    (debug_lines_answer c (first.number + length (lines here)) answered.state (lines then_here)) =
    answer_by c mid.session.setting (first.number + length (lines here)) mid.number answered.state
    (debug_state mid.session images_mid) (debug_state last.session images_last) (lines then_here) between after setting
    taken.number taken.reported.state more.reported in
    let all_answer = two_answer c first.number d here then_here one.at_an_end one.closed in
    record {
      count = length (here ++ then_here);
      whole = whole_of both (here ++ then_here) waiting has;
      reported = subst (λ (xs : List ℕ). IsDebugged before after (debug_state last.session images_last)
          (debug_lines_answer c first.number d (lines xs))) (sym front)
          (subst (λ (a : DebugAnswered). IsDebugged before after (debug_state last.session images_last) a) (sym all_answer)
          (record {
            text = Appends-join before between after answered.text
                (debug_lines_answer c (first.number + length (lines here)) answered.state (lines then_here)).text taken.reported.text reported.text;
            state = reported.state;
          }));
      waits = more.waits ∙ sym (back_of both (here ++ then_here) waiting has.parts);
      number =
          omega (arith, more.number, taken.number, count_of_two here then_here one.at_an_end, ap (λ (xs : List ℕ). length (lines xs)) front);
    }

-- what all that is left is answered, before a piece is taken and after it
pub piece_answer : (first mid : DebugTyping) (images images_mid : List Entry) (before between : Option (List ℕ)) (piece rest : List ℕ)
    → (taken : IsTaken first mid images images_mid before between (first.pending.items ++ piece))
    → mid.session.setting ≡ first.session.setting
    → debug_lines_answer first.session.setting first.number (debug_state first.session images)
    (lines (first.pending.items ++ (piece ++ rest)))
    ≡ joined (debug_lines_answer first.session.setting first.number (debug_state first.session images)
    (lines (take taken.count (first.pending.items ++ piece))))
    (debug_lines_answer mid.session.setting mid.number (debug_state mid.session images_mid) (lines (mid.pending.items ++ rest)))
piece_answer first mid images images_mid before between piece rest taken setting =
    let c : DebugSettings = first.session.setting in
    let d : DebugState = debug_state first.session images in
    let all : List ℕ = first.pending.items ++ piece in
    let here : List ℕ = take taken.count all in
    let left : List ℕ = drop taken.count all in
    let answered : DebugAnswered = debug_lines_answer c first.number d (lines here) in
    let parts : first.pending.items ++ (piece ++ rest) ≡ here ++ (left ++ rest) =
    sym (append_assoc first.pending.items piece rest)
    ∙ ap (λ (xs : List ℕ). xs ++ rest) (sym (take-append-drop taken.count all)) ∙ append_assoc here left rest in
    ap (λ (xs : List ℕ). debug_lines_answer c first.number d (lines xs)) parts
    ∙ two_answer c first.number d here (left ++ rest) taken.whole.at_an_end taken.whole.closed
    ∙ ap (joined answered)
    (ap (λ (n : ℕ). debug_lines_answer c n answered.state (lines (left ++ rest))) (sym taken.number)
    ∙ ap (λ (s : DebugState). debug_lines_answer c mid.number s (lines (left ++ rest))) (sym taken.reported.state)
    ∙ ap (λ (xs : List ℕ). debug_lines_answer c mid.number (debug_state mid.session images_mid) (lines (xs ++ rest))) (sym taken.waits)
    ∙ ap (λ (x : DebugSettings). debug_lines_answer x mid.number (debug_state mid.session images_mid) (lines (mid.pending.items ++ rest)))
    (sym setting))

-- a front of what a piece is answered is one of what all is answered
pub part_answer : (first : DebugTyping) (images : List Entry) (before after : Option (List ℕ)) (piece rest : List ℕ)
    → IsTakenInPart first images before after (first.pending.items ++ piece)
    → AddsFront before after (debug_lines_answer first.session.setting first.number (debug_state first.session images)
    (lines (first.pending.items ++ (piece ++ rest)))).text
part_answer first images before after piece rest part =
    let c : DebugSettings = first.session.setting in
    let d : DebugState = debug_state first.session images in
    let all : List ℕ = first.pending.items ++ piece in
    let here : List ℕ = take part.count all in
    let left : List ℕ = drop part.count all in
    let answered : DebugAnswered = debug_lines_answer c first.number d (lines here) in
    let then_left : DebugAnswered =
    debug_lines_answer c (first.number + length (lines here)) answered.state (lines (left ++ rest)) in
    let parts : first.pending.items ++ (piece ++ rest) ≡ here ++ (left ++ rest) =
    sym (append_assoc first.pending.items piece rest)
    ∙ ap (λ (xs : List ℕ). xs ++ rest) (sym (take-append-drop part.count all)) ∙ append_assoc here left rest in
    let reported : List ℕ = (debug_lines_answer c first.number d (lines (first.pending.items ++ (piece ++ rest)))).text in
    let split : reported ≡ answered.text ++ then_left.text =
    ap (λ (xs : List ℕ). (debug_lines_answer c first.number d (lines xs)).text) parts
    ∙ ap (λ (a : DebugAnswered). a.text) (two_answer c first.number d here (left ++ rest) part.whole.at_an_end part.whole.closed) in
    front_then before before after reported answered.text then_left.text reported (AddsAllBut-start before reported) split part.front

pub piece_then_rest : TypedPieceThenRest
piece_then_rest first mid images images_mid now before between after piece rest taken setting last =
    let answered : DebugAnswered =
    debug_lines_answer first.session.setting first.number (debug_state first.session images)
    (lines (take taken.count (first.pending.items ++ piece))) in
    let left : DebugAnswered =
    debug_lines_answer mid.session.setting mid.number (debug_state mid.session images_mid) (lines (mid.pending.items ++ rest)) in
    subst (λ (a : DebugAnswered). IsDebugged before after now a)
    (sym (piece_answer first mid images images_mid before between piece rest taken setting))
    (record {
      text = Appends-join before between after answered.text left.text taken.reported.text last.text;
      state = last.state;
    })

-- A TEXT IS TAKEN IN ONE WAY

open_by : (here : Bool) (front rest : List (List ℕ))
    → (is_debug_block_open_throughout true (front ++ rest) ≡ true → is_debug_block_open_after_lines true front ≡ true)
    → here && is_debug_block_open_throughout true (front ++ rest) ≡ true → is_debug_block_open_after_lines here front ≡ true
open_by true front rest next is = next is
open_by false front rest next is = absurd (cc)

-- a block that is open after each line is open after the last
open_to_the_end : (front rest : List (List ℕ)) → is_debug_block_open_throughout true (front ++ rest) ≡ true
    → is_debug_block_open_after_lines true front ≡ true
unfolding is_debug_block_open_throughout is_debug_block_open_after_lines
open_to_the_end [] rest is = refl
open_to_the_end (line ∷ front) rest is =
    open_by (is_debug_block_open_after true line) front rest (open_to_the_end front rest) is

-- so no request is whole in what waits
none_whole_in : (front rest : List (List ℕ)) → is_debug_block_open_throughout false (front ++ rest) ≡ true
    → is_debug_block_open_after_lines false front ≡ false → front ≡ []
unfolding is_debug_block_open_throughout is_debug_block_open_after_lines
none_whole_in [] rest is closed = refl
none_whole_in (line ∷ front) rest is closed =
    let stays = open_by (is_debug_block_open_after false line) front rest (open_to_the_end front rest) is in
    absurd (true≢false (sym stays ∙ closed))

no_bytes_by : (text : List ℕ) (o : Option ℕ) → position (λ b. b == 10) text ≡ o → whole_lines text ≡ [] → unended_line text ≡ []
    → text ≡ []
no_bytes_by text (Some place) found none ends = absurd (let some = whole_at_place text place found in cc)
no_bytes_by text None found none ends = sym (all_unended text found) ∙ ends

no_bytes : (text : List ℕ) → whole_lines text ≡ [] → unended_line text ≡ [] → text ≡ []
no_bytes text none ends = no_bytes_by text (position (λ b. b == 10) text) refl none ends

front_of_front : (text : List ℕ) (m n : ℕ) → m < n → n ≤ length text → take m (take n text) ≡ take m text
front_of_front text m n less in_text =
    sym (take-append-le m (take n text) (drop n text) (omega (arith, less, length-take-le n text in_text)))
    ∙ ap (take m) (take-append-drop n text)

between_of : (text : List ℕ) (m n : ℕ) → m < n → n ≤ length text → take n text ≡ take m text ++ take (n - m) (drop m text)
between_of text m n less in_text =
    let sum : m + (n - m) ≡ n = omega (arith, less) in
    sym (take-append-drop m (take n text))
    ∙ ap (λ (xs : List ℕ). xs ++ drop m (take n text)) (front_of_front text m n less in_text)
    ∙ ap (λ (xs : List ℕ). take m text ++ xs)
    (ap (λ (k : ℕ). drop m (take k text)) (sym sum) ∙ drop-take m (n - m) text)

-- more requests than are whole
more_than_whole : (text requests waiting next more : List ℕ) → HasRequests text requests waiting
    → HasRequests text (requests ++ next) more → next ≡ []
more_than_whole text requests waiting next more first second =
    let same : requests ++ waiting ≡ requests ++ (next ++ more) = sym first.parts ∙ second.parts ∙ append_assoc requests next more in
    let left : waiting ≡ next ++ more =
    sym (drop-append_seam requests waiting) ∙ ap (drop (length requests)) same ∙ drop-append_seam requests (next ++ more) in
    let ends : unended_line next ≡ [] =
    sym (unended_line_goes_on requests next ∙ ap (λ (line : List ℕ). unended_line (line ++ next)) first.at_an_end) ∙ second.at_an_end in
    let closed : is_debug_block_open_after_lines false (whole_lines next) ≡ false =
    sym (ap (is_debug_block_open_after_lines false) (lines_of_two requests next first.at_an_end)
    ∙ open_after (whole_lines requests) (whole_lines next) false
    ∙ ap (λ (b : Bool). is_debug_block_open_after_lines b (whole_lines next)) first.closed) ∙ second.closed in
    let waits : is_debug_block_open_throughout false (whole_lines next ++ whole_lines more) ≡ true =
    sym (ap (λ (xs : List ℕ). is_debug_block_open_throughout false (whole_lines xs)) left
    ∙ ap (is_debug_block_open_throughout false) (lines_of_two next more ends)) ∙ first.rest_is_open in
    no_bytes next (none_whole_in (whole_lines next) (whole_lines more) waits closed) ends

not_more : (text : List ℕ) (m n : ℕ) → AreWholeDebugRequests text m → AreWholeDebugRequests text n → m < n → ⊥
not_more text m n one other less =
    let next : List ℕ = take (n - m) (drop m text) in
    let same : take n text ≡ take m text ++ next = between_of text m n less other.in_text in
    let second : HasRequests text (take m text ++ next) (drop n text) =
    subst (λ (xs : List ℕ). HasRequests text xs (drop n text)) same (parts_of text n other) in
    let none = more_than_whole text (take m text) (drop m text) next (drop n text) (parts_of text m one) second in
    omega (
      arith,
      less,
      one.in_text,
      other.in_text,
      length-take-le m text one.in_text,
      length-take-le n text other.in_text,
      ap length same,
      length-append (take m text) next,
      ap length none,
    )

counts_same : (text : List ℕ) (m n : ℕ) → AreWholeDebugRequests text m → AreWholeDebugRequests text n → m ≡ n
counts_same text m n one other = elim (cases_order m n) [
  | inl same ↦ same
  | inr differ ↦ elim differ [
    | inl less ↦ absurd (not_more text m n one other less)
    | inr more ↦ absurd (not_more text n m other one more)
  ]
]

same_written : (before after other : Option (List ℕ)) (text : List ℕ) → Appends before after text → Appends before other text
    → IfSome before (λ held. other ≡ after)
same_written None after other text one two = tt
same_written (Some held) None other text one two = absurd one
same_written (Some held) (Some now) None text one two = absurd two
same_written (Some held) (Some now) (Some there) text one two = ap Some (two ∙ sym one)

pub taken_one_way : TypedTextTakenOneWay
taken_one_way first one other images images_one images_other before after after_other text taken too =
    let same = counts_same text taken.count too.count taken.whole too.whole in
    let reported : IsDebugged before after_other (debug_state other.session images_other)
    (debug_lines_answer first.session.setting first.number (debug_state first.session images) (lines (take taken.count text))) =
    subst (λ (n : ℕ). IsDebugged before after_other (debug_state other.session images_other)
    (debug_lines_answer first.session.setting first.number (debug_state first.session images) (lines (take n text))))
    (sym same) too.reported in
    record {
      state = reported.state ∙ sym taken.reported.state;
      waits = too.waits ∙ sym (ap (λ (n : ℕ). drop n text) same) ∙ sym taken.waits;
      number =
          too.number ∙ sym (ap (λ (n : ℕ). first.number + length (lines (take n text))) same) ∙ sym taken.number;
      written = same_written before after after_other _ taken.reported.text reported.text;
    }

-- THE NUMBER OF LINES

-- those that were read, and those that are left, are all lines of the requests
pub number_after_all : (now place : ReadingPlace) (text : List ℕ) (before number count : ℕ)
    → place ≡ record { left = lines text; number = before }
    → now.number + length now.left ≡ place.number + length place.left
    → number ≡ now.number → count ≡ length now.left → number + count ≡ before + length (lines text)
number_after_all now place text before number count at counted is left =
    omega (arith, is, left, counted, ap (λ (p : ReadingPlace). p.number + length p.left) at)

-- so that they have a number, with all that waits
pub numbered_in_all : (before after : ℕ) (all requests waiting : List ℕ) → before + length all < 2 ^ 64
    → all ≡ requests ++ waiting → after ≡ before + length (lines requests) → after + length waiting < 2 ^ 64
numbered_in_all before after all requests waiting inside parts is =
    omega (arith, inside, ap length parts, length-append requests waiting, is, lines_at_most requests)
