-- How a list of moves ends: at its end, by a move that halts the machine, or by one whose answer
-- has no room.
use Rattle.swi_dispatch_guest.specs.Moves.{Move as WrittenEvent, machine_after_event, moved_all}
use Rattle.std.proofs.Common.{ℕ, ◌≡◌, ◌≤◌, ◌<◌, ◌+◌, ◌-◌, ◌++◌, ◌∙◌, ◌&&◌, ◌==◌, Bool, true, false, List, [], ◌∷◌, length, take, option_map, Some, None, get_or, refl, sym, ap, subst, arith, length-append, if◌then◌else◌}
use Rattle.std.proofs.Math.Seq.{take-length}
use Rattle.std.proofs.lemmas.Bool.Decides.{nat_tests}
use Rattle.std.proofs.lemmas.List.{length-map}
use Rattle.profile.specs.declared.stop.Stop.{Stop}
use Rattle.profile.specs.images.Entries.{Entry}
use Rattle.law_machine.specs.heap_calls.Turns.{Reply as WrittenReply}
use Rattle.swi_dispatch_guest.specs.MachineState.{MachineState, stop_of}
use Rattle.swi_dispatch_guest.specs.Value.{IsMachine, MachineValue}
use Rattle.law_machine.specs.heap_alone.Moves.{answers_in, is_own, reply_of_machine}
use Rattle.law_machine.proofs.HeapRunsLemmas.Fronts.{IsUnder, answered, answers_more, moved_more, next_front, under_more}
use Rattle.law_machine.proofs.HeapRunsLemmas.Halves.{by_itself, still_by_itself}
use Rattle.law_machine.specs.heap_runs.Making.{AreGoing, AreMade, StateGoesOn, StandsByItself}
use Rattle.law_machine.specs.heap_runs.Moves.{written_reply_of, noted_all, reply_if, written_event_of, written_all}
use Rattle.law_machine.specs.declared.heap_runs.moves.End.TheVariants as end
use Rattle.law_machine.specs.declared.heap_runs.moves.MachineEvent.{MachineEvent}
use Rattle.law_machine.specs.declared.heap_runs.moves.Reply.{Reply}
use Rattle.swi_dispatch_guest.specs.GuestState.{state_of}

pub ends_all : (images : List Entry) (start : ℕ) (s t : MachineState) (moves : List WrittenEvent) (most count : ℕ) (reported : List Reply)
    → StateGoesOn s → IsUnder images start s t moves reported → count ≡ length moves → t.halt ≡ None → AreMade images start s t moves most count end.All reported
ends_all images start s t moves most count reported begins under all goes = record {
  begins = λ some. begins.goes;
  goes = under.goes;
  machine = under.machine;
  answers = under.answers;
  alone = by_itself images start s moves reported begins under.goes under.answers;
  ends = (all, goes);
}

pub ends_first : (images : List Entry) (start : ℕ) (s : MachineState) (moves : List WrittenEvent) (most : ℕ) (stop : Stop) (reported : List Reply)
    → reported ≡ [] → option_map stop_of s.halt ≡ Some stop → AreMade images start s s moves most 0 (end.Halted stop) reported
ends_first images start s moves most stop reported none halted =
    let made : AreMade images start s s moves most 0 (end.Halted stop) [] = record {
      begins = λ some. absurd (omega arith);
      goes = tt;
      machine = refl;
      answers = refl;
      alone = still_by_itself images start s;
      ends = (omega arith, halted);
    } in
    subst (λ (rs : List Reply). AreMade images start s s moves most 0 (end.Halted stop) rs) (sym none) made

-- where no move is made yet
pub under_first : (images : List Entry) (start : ℕ) (s : MachineState) (moves : List WrittenEvent) (reported : List Reply) → reported ≡ []
    → IsUnder images start s s (take 0 moves) reported
under_first images start s moves reported none = record { machine = refl; goes = tt; answers = none }

pub goes_on : (p : MachineValue) → IsMachine p → (state_of p.guest).halt ≡ None → StateGoesOn (state_of p.guest)
goes_on p machine goes = record { state = record { parts = p.guest; is = refl; machine = machine.guest }; goes = goes }

-- a list whose last move that was made is this one
pub record IsLast (images : List Entry) (start : ℕ) (s t u : MachineState) (moves : List WrittenEvent) (count : ℕ) (m : WrittenEvent) (reported : List Reply) : Type 0 where
  pub begins : StateGoesOn s
  pub under : IsUnder images start s t (take count moves) reported
  pub longer : take (count + 1) moves ≡ take count moves ++ m ∷ []
  pub is : u ≡ machine_after_event images t m
  pub within : count + 1 ≤ length moves

module _ (images : List Entry) (start : ℕ) (s t u : MachineState) (moves : List WrittenEvent) (most count : ℕ) (m : WrittenEvent) (reported : List Reply)
    (last : IsLast images start s t u moves count m reported) where
  same_front : take (count + 1 - 1) moves ≡ take count moves
  same_front = let same : count + 1 - 1 ≡ count = omega arith in ap (λ (n : ℕ). take n moves) same

  last_machine : u ≡ moved_all images s (take (count + 1) moves)
  last_machine =
      last.is ∙ ap (λ (x : MachineState). machine_after_event images x m) last.under.machine ∙ sym (moved_more images s (take count moves) m)
      ∙ ap (moved_all images s) (sym last.longer)

  last_going : AreGoing images s (take (count + 1 - 1) moves)
  last_going = subst (AreGoing images s) (sym same_front) last.under.goes

  last_shown : reported ≡ noted_all (answers_in images start s (take (count + 1 - 1) moves))
  last_shown = last.under.answers ∙ ap (λ (ms : List WrittenEvent). noted_all (answers_in images start s ms)) (sym same_front)

  last_alone : StandsByItself images start s (take (count + 1 - 1) moves) reported
  last_alone = by_itself images start s (take (count + 1 - 1) moves) reported last.begins last_going last_shown

  pub ends_halted : (stop : Stop) → option_map stop_of u.halt ≡ Some stop → AreMade images start s u moves most (count + 1) (end.Halted stop) reported
  ends_halted stop halted = record {
    begins = λ some. last.begins.goes;
    goes = last_going;
    machine = last_machine;
    answers = last_shown;
    alone = last_alone;
    ends = (last.within, halted);
  }

  -- an own call answers once more
  answered_last : is_own start t m ≡ true → length (answers_in images start s (take (count + 1) moves)) ≡ length reported + 1
  answered_last own =
      let front : List WrittenEvent = take count moves in
      let at : MachineState = moved_all images s front in
      let owned : is_own start at m ≡ true = ap (λ (x : MachineState). is_own start x m) (sym last.under.machine) ∙ own in
      let one : answered images start at m ≡ reply_of_machine (machine_after_event images at m) ∷ [] =
      ap (λ (b : Bool). if b then reply_of_machine (machine_after_event images at m) ∷ [] else []) owned in
      let whole : answers_in images start s (take (count + 1) moves) ≡ answers_in images start s front ++ reply_of_machine (machine_after_event images at m) ∷ [] =
      ap (answers_in images start s) last.longer ∙ answers_more images start s front m
      ∙ ap (λ (rs : List WrittenReply). answers_in images start s front ++ rs) one in
      let same : length reported ≡ length (answers_in images start s front) =
      ap length last.under.answers ∙ length-map (answers_in images start s front) written_reply_of in
      let long : length (answers_in images start s (take (count + 1) moves)) ≡ length (answers_in images start s front) + 1 =
      ap length whole ∙ length-append (answers_in images start s front) (reply_of_machine (machine_after_event images at m) ∷ []) in
      long ∙ ap (λ (n : ℕ). n + 1) (sym same)

  pub ends_full : is_own start t m ≡ true → length reported ≡ most → u.halt ≡ None → (now : List Reply) → now ≡ reported
      → AreMade images start s u moves most (count + 1) end.Full now
  ends_full own full goes now same =
      let made : AreMade images start s u moves most (count + 1) end.Full reported = record {
        begins = λ some. last.begins.goes;
        goes = last_going;
        machine = last_machine;
        answers = last_shown;
        alone = last_alone;
        ends = (last.within, answered_last own ∙ ap (λ (n : ℕ). n + 1) full, goes);
      } in
      subst (λ (rs : List Reply). AreMade images start s u moves most (count + 1) end.Full rs) (sym same) made

  -- where it goes on
  pub under_last : (own : Bool) → own ≡ is_own start t m → StateGoesOn u → (now : List Reply) → now ≡ reported ++ reply_if own u
      → IsUnder images start s u (take (count + 1) moves) now
  under_last own owned goes now noted_now =
      let same : now ≡ reported ++ reply_if (is_own start t m) u = noted_now ∙ ap (λ (b : Bool). reported ++ reply_if b u) owned in
      subst (λ (rs : List Reply). IsUnder images start s u (take (count + 1) moves) rs) (sym same)
      (under_more images start s t u (take count moves) (take (count + 1) moves) m reported last.under last.longer last.is goes)

pub last_of : (images : List Entry) (start : ℕ) (s t u : MachineState) (xs : List MachineEvent) (count : ℕ) (d : MachineEvent) (reported : List Reply) → StateGoesOn s
    → IsUnder images start s t (take count (written_all xs)) reported → count < length xs → u ≡ machine_after_event images t (written_event_of (get_or xs count d))
    → IsLast images start s t u (written_all xs) count (written_event_of (get_or xs count d)) reported
last_of images start s t u xs count d reported begins under below is = record {
  begins = begins;
  under = under;
  longer = next_front xs count d below;
  is = is;
  within = let same : length (written_all xs) ≡ length xs = length-map xs written_event_of in omega (arith, same, below);
}

pub ends_whole : (images : List Entry) (start : ℕ) (s t : MachineState) (xs : List MachineEvent) (most count : ℕ) (reported : List Reply) → StateGoesOn s
    → IsUnder images start s t (take count (written_all xs)) reported → count ≡ length xs → t.halt ≡ None
    → AreMade images start s t (written_all xs) most (length xs) end.All reported
ends_whole images start s t xs most count reported begins under all goes =
    let same : length (written_all xs) ≡ length xs = length-map xs written_event_of in
    let whole : take count (written_all xs) ≡ written_all xs =
    ap (λ (n : ℕ). take n (written_all xs)) (all ∙ sym same) ∙ take-length (written_all xs) in
    ends_all images start s t (written_all xs) most (length xs) reported begins
    (subst (λ (ms : List WrittenEvent). IsUnder images start s t ms reported) whole under) (sym same) goes

-- whether a machine stands as it was made, before its first move and after
pub fresh_before : (b : Bool) → b ≡ (b && true)
fresh_before true = refl
fresh_before false = refl

pub fresh_after : (b new : Bool) (n : ℕ) → new ≡ false → 0 < n → new ≡ (b && (n == 0))
fresh_after true new n e some = let k : (n == 0) ≡ false = grind (arith, nat_tests, some) in e ∙ sym k
fresh_after false new n e some = e
