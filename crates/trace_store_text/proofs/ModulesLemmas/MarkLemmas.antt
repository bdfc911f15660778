-- The instances of all modules, module by module.
use Rattle.std.proofs.Common.{◌≡◌, ℕ, suc, ◌+◌, ◌<◌, ◌≤◌, List, [], ◌∷◌, ◌++◌, length, map, drop, Option, Some, None, refl, sym, ap, ◌∙◌, arith, length-append, append_assoc}
use Rattle.std.proofs.lemmas.List.{append-nil, drop_all, drop_more, length-map}
use Rattle.std.proofs.lemmas.Option.{slice_get-get_or}
use Rattle.std.specs.List.{flat_map}
use Rattle.std.specs.Prelude.{option_map, option_to_list, slice_get}
use Rattle.instances_table.proofs.RoomLemmas.{most_slots}
use Rattle.instances_table.specs.Lookup.{instance_count}
use Rattle.instances_table.specs.Modules.{AreModules, Instance, Module, slots_of}
use Rattle.trace_store_text.specs.declared.modules.marks.InstanceMark.{InstanceMark}
use Rattle.trace_store_text.specs.modules.Marks.{instance_marks, mark_of, marks_at, marks_in, one_mark}

as_many : (ms : List Module) → length (flat_map marks_in ms) ≡ length (slots_of ms)
as_many [] = refl
as_many (m ∷ ms) =
    let here = length-append (marks_in m) (flat_map marks_in ms) in
    let slots = length-append (map (λ (i : Instance). i.slot) m.instances) (slots_of ms) in
    let one = length-map m.instances (mark_of m) in
    let other = length-map m.instances (λ (i : Instance). i.slot) in
    omega (arith, here, slots, one, other, as_many ms)

pub few_marks : (ms : List Module) → AreModules ms → length (instance_marks ms) ≤ 64
unfolding instance_marks
few_marks ms are = let same = as_many ms in let few = most_slots ms are in omega (arith, same, few)

next_in : (ms : List Module) (n : ℕ) → n < length ms → flat_map marks_in (drop n ms) ≡ marks_at (slice_get ms n) ++ flat_map marks_in (drop (n + 1) ms)
next_in [] n below = absurd (omega arith)
next_in (m ∷ ms) n below = rw (slice_get-get_or (m ∷ ms) n m below, drop_more (m ∷ ms) n m below) refl

pub next_module : (ms : List Module) (n : ℕ) (marks marks' : List InstanceMark) → n < length ms
    → instance_marks ms ≡ marks ++ flat_map marks_in (drop n ms) → marks' ≡ marks ++ marks_at (slice_get ms n)
    → instance_marks ms ≡ marks' ++ flat_map marks_in (drop (n + 1) ms)
next_module ms n marks marks' below is more =
    is ∙ (ap (λ (xs : List InstanceMark). marks ++ xs) (next_in ms n below)
    ∙ (sym (append_assoc marks (marks_at (slice_get ms n)) (flat_map marks_in (drop (n + 1) ms)))
    ∙ ap (λ (xs : List InstanceMark). xs ++ flat_map marks_in (drop (n + 1) ms)) (sym more)))

pub room_for : (ms : List Module) (n : ℕ) (marks : List InstanceMark) → AreModules ms → n < length ms
    → instance_marks ms ≡ marks ++ flat_map marks_in (drop n ms) → length marks + length (marks_at (slice_get ms n)) ≤ 64
room_for ms n marks are below is =
    let few = few_marks ms are in
    let all = ap length is ∙ length-append marks (flat_map marks_in (drop n ms)) in
    let left = ap length (next_in ms n below) ∙ length-append (marks_at (slice_get ms n)) (flat_map marks_in (drop (n + 1) ms)) in
    omega (arith, few, all, left)

pub no_module_yet : (ms : List Module) (marks : List InstanceMark) → marks ≡ [] → instance_marks ms ≡ marks ++ flat_map marks_in ms
unfolding instance_marks
no_module_yet ms marks none = rw none refl

pub no_module_more : (ms : List Module) (n : ℕ) (marks : List InstanceMark) → length ms ≤ n
    → instance_marks ms ≡ marks ++ flat_map marks_in (drop n ms) → marks ≡ instance_marks ms
no_module_more ms n marks past is = sym (is ∙ rw (drop_all n ms past) (append-nil marks))

-- the instances of a module that are left
abbrev pub marks_from : ℕ → Option Module → List InstanceMark
marks_from n None = []
marks_from n (Some m) = map (mark_of m) (drop n m.instances)

next_of_map : (m : Module) (xs : List Instance) (n : ℕ) → n < length xs
    → map (mark_of m) (drop n xs) ≡ option_to_list (option_map (mark_of m) (slice_get xs n)) ++ map (mark_of m) (drop (n + 1) xs)
next_of_map m [] n below = absurd (omega arith)
next_of_map m (x ∷ xs) n below = rw (slice_get-get_or (x ∷ xs) n x below, drop_more (x ∷ xs) n x below) refl

next_mark : (o : Option Module) (n : ℕ) → n < instance_count o → marks_from n o ≡ one_mark n o ++ marks_from (n + 1) o
next_mark None n below = absurd (omega arith)
next_mark (Some m) n below = next_of_map m m.instances n below

as_many_left : (o : Option Module) (n : ℕ) → n < instance_count o → 0 < length (marks_from n o)
as_many_left None n below = absurd (omega arith)
as_many_left (Some m) n below = rw (next_of_map m m.instances n below) (first m.instances n below) where
  first : (xs : List Instance) (n : ℕ) → n < length xs
      → 0 < length (option_to_list (option_map (mark_of m) (slice_get xs n)) ++ map (mark_of m) (drop (n + 1) xs))
  first [] n below = absurd (omega arith)
  first (x ∷ xs) n below = rw (slice_get-get_or (x ∷ xs) n x below) (omega arith)

pub room_left : (o : Option Module) (n : ℕ) (first marks : List InstanceMark) → n < instance_count o → first ++ marks_at o ≡ marks ++ marks_from n o
    → length first + length (marks_at o) ≤ 64 → length marks < 64
room_left o n first marks below is room =
    let all = sym (length-append first (marks_at o)) ∙ (ap length is ∙ length-append marks (marks_from n o)) in
    omega (arith, all, room, as_many_left o n below)

pub next_passed : (o : Option Module) (n : ℕ) (first marks marks' : List InstanceMark) → n < instance_count o → first ++ marks_at o ≡ marks ++ marks_from n o
    → marks' ≡ marks ++ one_mark n o → first ++ marks_at o ≡ marks' ++ marks_from (n + 1) o
next_passed o n first marks marks' below is more =
    is ∙ (ap (λ (xs : List InstanceMark). marks ++ xs) (next_mark o n below)
    ∙ (sym (append_assoc marks (one_mark n o) (marks_from (n + 1) o)) ∙ ap (λ (xs : List InstanceMark). xs ++ marks_from (n + 1) o) (sym more)))
