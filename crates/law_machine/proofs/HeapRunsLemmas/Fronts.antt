-- Lists of moves and their fronts, move by move.
use Rattle.swi_dispatch_guest.specs.Moves.{Move as WrittenEvent, machine_after_event, moved_all}
use Rattle.std.proofs.Common.{ℕ, ◌≡◌, ◌<◌, ◌+◌, ◌++◌, ◌∙◌, Bool, true, false, List, [], ◌∷◌, length, get_or, map, take, append_assoc, refl, sym, ap, subst, if◌then◌else◌}
use Rattle.std.proofs.lemmas.List.{map_more, take-map}
use Rattle.profile.specs.images.Entries.{Entry}
use Rattle.law_machine.specs.heap_calls.Turns.{Reply as WrittenReply}
use Rattle.swi_dispatch_guest.specs.MachineState.{MachineState}
use Rattle.law_machine.specs.heap_alone.Moves.{answers_in, is_own, reply_of_machine}
use Rattle.law_machine.specs.heap_runs.Making.{AreGoing, StateGoesOn}
use Rattle.law_machine.specs.heap_runs.Moves.{written_reply_of, noted_all, reply_if, written_event_of, written_all}
use Rattle.law_machine.specs.declared.heap_runs.moves.MachineEvent.{MachineEvent}
use Rattle.law_machine.specs.declared.heap_runs.moves.Reply.{Reply}

-- what one move answers, if it is an own call
abbrev pub answered : List Entry → ℕ → MachineState → WrittenEvent → List WrittenReply
answered images start s m = if is_own start s m then reply_of_machine (machine_after_event images s m) ∷ [] else []

append_nothing : {A : Type 0} → (xs : List A) → xs ++ [] ≡ xs
append_nothing [] = refl
append_nothing (x ∷ xs) = ap (λ ys. x ∷ ys) (append_nothing xs)

pub moved_more : (images : List Entry) (s : MachineState) (ms : List WrittenEvent) (m : WrittenEvent)
    → moved_all images s (ms ++ m ∷ []) ≡ machine_after_event images (moved_all images s ms) m
moved_more images s [] m = refl
moved_more images s (n ∷ ns) m = moved_more images (machine_after_event images s n) ns m

pub answers_more : (images : List Entry) (start : ℕ) (s : MachineState) (ms : List WrittenEvent) (m : WrittenEvent)
    → answers_in images start s (ms ++ m ∷ []) ≡ answers_in images start s ms ++ answered images start (moved_all images s ms) m
answers_more images start s [] m = append_nothing (answered images start s m)
answers_more images start s (n ∷ ns) m =
    ap (λ (rs : List WrittenReply). answered images start s n ++ rs) (answers_more images start (machine_after_event images s n) ns m)
    ∙ sym (append_assoc (answered images start s n) (answers_in images start (machine_after_event images s n) ns)
    (answered images start (moved_all images (machine_after_event images s n) ns) m))

pub going_more : (images : List Entry) (s : MachineState) (ms : List WrittenEvent) (m : WrittenEvent) → AreGoing images s ms
    → StateGoesOn (machine_after_event images (moved_all images s ms) m) → AreGoing images s (ms ++ m ∷ [])
going_more images s [] m going goes = (goes, tt)
going_more images s (n ∷ ns) m going goes = (going.0, going_more images (machine_after_event images s n) ns m going.1 goes)

pub noted_more : (xs ys : List WrittenReply) → noted_all (xs ++ ys) ≡ noted_all xs ++ noted_all ys
noted_more [] ys = refl
noted_more (x ∷ xs) ys = ap (λ (rs : List Reply). written_reply_of x ∷ rs) (noted_more xs ys)

-- one move more of a list
pub next_front : (xs : List MachineEvent) (i : ℕ) (d : MachineEvent) → i < length xs
    → take (i + 1) (written_all xs) ≡ take i (written_all xs) ++ written_event_of (get_or xs i d) ∷ []
next_front xs i d below =
    take-map written_event_of (i + 1) xs ∙ map_more written_event_of xs i d below
    ∙ ap (λ (ms : List WrittenEvent). ms ++ written_event_of (get_or xs i d) ∷ []) (sym (take-map written_event_of i xs))

-- So many moves were made and done, from one state to another, and so the answers stand.
pub record IsUnder (images : List Entry) (start : ℕ) (s t : MachineState) (moves : List WrittenEvent) (reported : List Reply) : Type 0 where
  pub machine : t ≡ moved_all images s moves
  pub goes : AreGoing images s moves
  pub answers : reported ≡ noted_all (answers_in images start s moves)

noted_if : (own : Bool) (r : WrittenReply) → noted_all (if own then r ∷ [] else []) ≡ (if own then written_reply_of r ∷ [] else [])
noted_if true r = refl
noted_if false r = refl

pub under_more : (images : List Entry) (start : ℕ) (s t u : MachineState) (moves front : List WrittenEvent) (m : WrittenEvent) (reported : List Reply)
    → IsUnder images start s t moves reported → front ≡ moves ++ m ∷ [] → u ≡ machine_after_event images t m → StateGoesOn u
    → IsUnder images start s u front (reported ++ reply_if (is_own start t m) u)
under_more images start s t u moves front m reported under longer is goes =
    let at : MachineState = moved_all images s moves in
    let here : u ≡ machine_after_event images at m = is ∙ ap (λ (x : MachineState). machine_after_event images x m) under.machine in
    let own : Bool = is_own start t m in
    let added : noted_all (answered images start at m) ≡ reply_if own u =
    ap (λ (x : MachineState). noted_all (answered images start x m)) (sym under.machine)
    ∙ noted_if own (reply_of_machine (machine_after_event images t m)) ∙ ap (reply_if own) (sym is) in
    let whole : noted_all (answers_in images start s front) ≡ reported ++ reply_if own u =
    ap (λ (ms : List WrittenEvent). noted_all (answers_in images start s ms)) longer
    ∙ ap noted_all (answers_more images start s moves m)
    ∙ noted_more (answers_in images start s moves) (answered images start at m)
    ∙ ap (λ (rs : List Reply). rs ++ noted_all (answered images start at m)) (sym under.answers)
    ∙ ap (λ (rs : List Reply). reported ++ rs) added in
    record {
      machine = here ∙ sym (moved_more images s moves m) ∙ ap (moved_all images s) (sym longer);
      goes = subst (AreGoing images s) (sym longer) (going_more images s moves m under.goes (subst StateGoesOn here goes));
      answers = sym whole;
    }
