-- What is asked of the list that a table stands for, and of the table itself; and what a change of
-- the table is there.
use Rattle.std.proofs.Common.{◌≡◌, ◌≢◌, ℕ, ◌+◌, ◌<◌, ◌≤◌, ◌||◌, ◌==◌, Bool, true, false, List, [], ◌∷◌, ◌++◌, length, map, get_or, set, refl, sym, ap, subst, ◌∙◌, not, cond, zero, suc, Some, None, inl, inr, append-nil, arith}
use Rattle.std.specs.Prelude.{Option, slice_get, option_map, IfSome}
use Rattle.std.specs.List.{position, position_or_len, list_any, insert, remove, refill}
use Rattle.std.specs.Str.{str_eq_ignore_ascii_case}
use Rattle.arrayvec.specs.ArrayVec.{ArrayVec}
use Rattle.std.proofs.lemmas.Bool.{cases_Bool, eqb-true, eq-eqb, or_parts}
use Rattle.std.proofs.lemmas.List.{length-map, length-set, map-append, get_or-set_other, get_or-set_same, drop_all}
use Rattle.std.proofs.Math.Seq.{take-length}
use Rattle.std.proofs.lemmas.List.Quantifiers.{position-Some}
use Rattle.std.proofs.lemmas.Option.{slice_get-map, slice_get-get_or}
use Rattle.instances_table.specs.declared.loaded.Loaded.{Loaded}
use Rattle.instances_table.specs.Modules.{slots_of, Instance, Module, AreModules, has_name, has_slot, has_instance, changed_at}
use Rattle.instances_table.specs.Lookup.{slot_in, instance_in, slot_within, instance_meant, shown_of_instance, shown_of_place}
use Rattle.instances_table.specs.Changes.{is_slot_held, is_named, module_has_slot, with_name, with_names, with_instance, modules_with_names, without_first_passing, still, module_without, without_instance}
use Rattle.instances_table.specs.Table.{all_slots, name_of_slot, instance_of, module_of, modules_of, heir}
use Rattle.instances_table.proofs.RenameLemmas.{held_below}
use Rattle.instances_table.proofs.RoomLemmas.{room_for_instance}

first-map : {X Y : Type 0} (f : X → Y) (p : Y → Bool) (xs : List X) → position_or_len p (map f xs) ≡ position_or_len (λ x. p (f x)) xs
first-map f p [] = refl
first-map f p (x ∷ xs) = ap (λ n. cond (not (p (f x))) (1 + n) 0) (first-map f p xs)

pub position-map : {X Y : Type 0} (f : X → Y) (p : Y → Bool) (xs : List X) → position p (map f xs) ≡ position (λ x. p (f x)) xs
position-map f p xs = rw (first-map f p xs, length-map xs f) refl

pub list_any-map : {X Y : Type 0} (f : X → Y) (p : Y → Bool) (xs : List X) → list_any p (map f xs) ≡ list_any (λ x. p (f x)) xs
list_any-map f p [] = refl
list_any-map f p (x ∷ xs) = ap (λ b. p (f x) || b) (list_any-map f p xs)

-- an instance has a slot exactly where a module has it among its own
pub held_view : (names : List (ArrayVec ℕ)) (slot : ℕ) (ms : List Loaded)
    → is_slot_held slot (modules_of names ms) ≡ list_any (λ l. list_any (λ s. s == slot) l.slots.items) ms
held_view names slot [] = refl
held_view names slot (l ∷ ls) = rw (list_any-map (instance_of names) (has_slot slot) l.slots.items, held_view names slot ls) refl

pub ruleset view_steps = (position-map, list_any-map, slice_get-map)

first-same : {X : Type 0} (p q : X → Bool) (xs : List X) → ((x : X) → p x ≡ q x) → position_or_len p xs ≡ position_or_len q xs
first-same p q [] same = refl
first-same p q (x ∷ xs) same = rw (same x, first-same p q xs same) refl

pub holding_view : (names : List (ArrayVec ℕ)) (slot : ℕ) (ms : List Loaded)
    → position (has_instance slot) (modules_of names ms) ≡ position (λ l. list_any (λ s. s == slot) l.slots.items) ms
holding_view names slot ms =
    let same = first-same (λ l. has_instance slot (module_of names l)) (λ l. list_any (λ s. s == slot) l.slots.items) ms
    (λ l. list_any-map (instance_of names) (has_slot slot) l.slots.items) in
    position-map (module_of names) (has_instance slot) ms ∙ rw same refl

pub within_view : (names : List (ArrayVec ℕ)) (ms : List Loaded) (k slot : ℕ) (l : Loaded) → slice_get ms k ≡ Some l
    → slot_within slot (slice_get (modules_of names ms) k) ≡ position (λ s. s == slot) l.slots.items
within_view names ms k slot l found =
    ap (slot_within slot) (slice_get-map (module_of names) ms k ∙ ap (option_map (module_of names)) found)
    ∙ position-map (instance_of names) (has_slot slot) l.slots.items

-- the slot of an instance of a module is one of the module's
slot_among : (is : List Instance) (i s : ℕ) → option_map (λ (x : Instance). x.slot) (slice_get is i) ≡ Some s → list_any (has_slot s) is ≡ true
slot_among [] i s found = absurd (let e : None ≡ Some s = found in cc)
slot_among (x ∷ is) zero s found = let same : x.slot ≡ s = cc in rw (eq-eqb x.slot s same) refl
slot_among (x ∷ is) (suc i) s found =
    elim (cases_Bool (x.slot == s)) [
      | inl e ↦ rw e refl
      | inr e ↦ rw e (slot_among is i s found)
    ]

pub slot_found : (i : ℕ) (o : Option Module) (s : ℕ) → slot_in i o ≡ Some s → module_has_slot s o ≡ true
slot_found i None s found = absurd (let e : None ≡ Some s = found in cc)
slot_found i (Some m) s found = slot_among m.instances i s found

pub held_if : (i : ℕ) (o : Option Module) (r : Option ℕ) → r ≡ slot_in i o → IfSome r (λ s. module_has_slot s o ≡ true)
held_if i o None same = tt
held_if i o (Some s) same = slot_found i o s (sym same)

pub below_if : (ms : List Module) (k i : ℕ) (r : Option ℕ) → AreModules ms → r ≡ slot_in i (slice_get ms k) → IfSome r (λ s. s < 64)
below_if ms k i None are same = tt
below_if ms k i (Some s) are same = held_below ms k s are (slot_found i (slice_get ms k) s (sym same))

-- what is read of a module that is there
pub module_view : (names : List (ArrayVec ℕ)) (ms : List Loaded) (k : ℕ) (l : Loaded) → slice_get ms k ≡ Some l
    → slice_get (modules_of names ms) k ≡ Some (module_of names l)
module_view names ms k l found = slice_get-map (module_of names) ms k ∙ ap (option_map (module_of names)) found

pub instance_view : (names : List (ArrayVec ℕ)) (l : Loaded) (i s : ℕ) → slice_get l.slots.items i ≡ Some s
    → slice_get (module_of names l).instances i ≡ Some (instance_of names s)
instance_view names l i s found = slice_get-map (instance_of names) l.slots.items i ∙ ap (option_map (instance_of names)) found

pub shown_view : (names : List (ArrayVec ℕ)) (ms : List Loaded) (k i s : ℕ) (l : Loaded) → slice_get ms k ≡ Some l → slice_get l.slots.items i ≡ Some s
    → shown_of_place i (slice_get (modules_of names ms) k) ≡ Some (shown_of_instance (module_of names l) (instance_of names s))
shown_view names ms k i s l found there =
    rw (module_view names ms k l found) (ap (option_map (shown_of_instance (module_of names l))) (instance_view names l i s there))

pub named_view : (names : List (ArrayVec ℕ)) (ms : List Loaded) (k : ℕ) (l : Loaded) (name : List ℕ) → slice_get ms k ≡ Some l
    → is_named name (slice_get (modules_of names ms) k) ≡ list_any (λ s. str_eq_ignore_ascii_case (name_of_slot names s) name) l.slots.items
named_view names ms k l name found =
    rw (module_view names ms k l found) (list_any-map (instance_of names) (has_name name) l.slots.items)

pub meant_view : (names : List (ArrayVec ℕ)) (ms : List Loaded) (k : ℕ) (l : Loaded) (name : Option (List ℕ)) → slice_get ms k ≡ Some l
    → instance_in name (slice_get (modules_of names ms) k) ≡ instance_meant name (module_of names l)
meant_view names ms k l name found = ap (instance_in name) (module_view names ms k l found)

slots_again : (names : List (ArrayVec ℕ)) (o : Option ℕ) → option_map (λ (x : Instance). x.slot) (option_map (instance_of names) o) ≡ o
slots_again names None = refl
slots_again names (Some s) = refl

pub slot_view : (names : List (ArrayVec ℕ)) (ms : List Loaded) (k i : ℕ) (l : Loaded) → slice_get ms k ≡ Some l
    → slot_in i (slice_get (modules_of names ms) k) ≡ slice_get l.slots.items i
slot_view names ms k i l found =
    rw (module_view names ms k l found)
    (ap (option_map (λ (x : Instance). x.slot)) (slice_get-map (instance_of names) l.slots.items i) ∙ slots_again names (slice_get l.slots.items i))

-- what the table shows by a number
pub ruleset table_views = (position-map, list_any-map, slice_get-map, module_view, shown_view, meant_view, within_view, slot_view)

-- a name changed: where no instance has the slot nothing is, else its name
kept_one : (names : List (ArrayVec ℕ)) (slot s : ℕ) (name : ArrayVec ℕ) → s ≢ slot → instance_of (set names slot name) s ≡ instance_of names s
kept_one names slot s name other =
    ap (λ (v : ArrayVec ℕ). let i : Instance = record { name = v.items; slot = s } in i) (get_or-set_other names slot s name (record { items = [] }) other)

instances_kept : (names : List (ArrayVec ℕ)) (slot : ℕ) (name : ArrayVec ℕ) (ss : List ℕ) → list_any (has_slot slot) (map (instance_of names) ss) ≡ false
    → map (instance_of (set names slot name)) ss ≡ map (instance_of names) ss
instances_kept names slot name [] none = refl
instances_kept names slot name (s ∷ ss) none =
    let parts = or_parts (s == slot) (list_any (has_slot slot) (map (instance_of names) ss)) none in
    let other : s ≢ slot = λ same. let e : (s == slot) ≡ true = eq-eqb s slot same in absurd (cc (e, parts.0)) in
    ap (λ (i : Instance). i ∷ map (instance_of (set names slot name)) ss) (kept_one names slot s name other)
    ∙ ap (λ (is : List Instance). instance_of names s ∷ is) (instances_kept names slot name ss parts.1)

pub modules_kept : (names : List (ArrayVec ℕ)) (slot : ℕ) (name : ArrayVec ℕ) (ms : List Loaded) → is_slot_held slot (modules_of names ms) ≡ false
    → modules_of (set names slot name) ms ≡ modules_of names ms
modules_kept names slot name [] none = refl
modules_kept names slot name (l ∷ ls) none =
    let parts = or_parts (has_instance slot (module_of names l)) (is_slot_held slot (modules_of names ls)) none in
    ap (λ (is : List Instance). record (module_of names l) { instances = is } ∷ modules_of (set names slot name) ls)
    (instances_kept names slot name l.slots.items parts.0)
    ∙ ap (λ (ms : List Module). module_of names l ∷ ms) (modules_kept names slot name ls parts.1)

named_one : (names : List (ArrayVec ℕ)) (slot s : ℕ) (name : ArrayVec ℕ) → slot < length names
    → instance_of (set names slot name) s ≡ with_name slot name.items (instance_of names s)
named_one names slot s name below =
    elim (cases_Bool (s == slot)) [
      | inl e ↦
          let same : s ≡ slot = eqb-true s slot e in
          let here : get_or (set names slot name) s (record { items = [] }) ≡ name =
          rw same (get_or-set_same names slot name (record { items = [] }) below) in
          rw e (ap (λ (v : ArrayVec ℕ). let i : Instance = record { name = v.items; slot = s } in i) here)
      | inr e ↦
          let other : s ≢ slot = λ same. let f : (s == slot) ≡ true = eq-eqb s slot same in absurd (cc (e, f)) in
          rw e (kept_one names slot s name other)
    ]

instances_named : (names : List (ArrayVec ℕ)) (slot : ℕ) (name : ArrayVec ℕ) (ss : List ℕ) → slot < length names
    → map (instance_of (set names slot name)) ss ≡ map (with_name slot name.items) (map (instance_of names) ss)
instances_named names slot name [] below = refl
instances_named names slot name (s ∷ ss) below =
    ap (λ (i : Instance). i ∷ map (instance_of (set names slot name)) ss) (named_one names slot s name below)
    ∙ ap (λ (is : List Instance). with_name slot name.items (instance_of names s) ∷ is) (instances_named names slot name ss below)

pub modules_named : (names : List (ArrayVec ℕ)) (slot : ℕ) (name : ArrayVec ℕ) (ms : List Loaded) → slot < length names
    → modules_of (set names slot name) ms ≡ modules_with_names slot name.items (modules_of names ms)
modules_named names slot name [] below = refl
modules_named names slot name (l ∷ ls) below =
    ap (λ (is : List Instance). record (module_of names l) { instances = is } ∷ modules_of (set names slot name) ls)
    (instances_named names slot name l.slots.items below)
    ∙ ap (λ (ms : List Module). with_names slot name.items (module_of names l) ∷ ms) (modules_named names slot name ls below)

-- one instance more, whose name stands at its slot
name_put : (names : List (ArrayVec ℕ)) (slot : ℕ) (name : ArrayVec ℕ) → slot < length names → name_of_slot (set names slot name) slot ≡ name.items
name_put names slot name below = ap (λ (v : ArrayVec ℕ). v.items) (get_or-set_same names slot name (record { items = [] }) below)

pub added_view : (names : List (ArrayVec ℕ)) (ms : List Loaded) (k slot : ℕ) (name : ArrayVec ℕ) → slot < length names
    → is_slot_held slot (modules_of names ms) ≡ false
    → changed_at k (with_instance (name_of_slot (set names slot name) slot) slot) (modules_of (set names slot name) ms)
    ≡ changed_at k (with_instance name.items slot) (modules_of names ms)
added_view names ms k slot name below free =
    ap (λ (n : List ℕ). changed_at k (with_instance n slot) (modules_of (set names slot name) ms)) (name_put names slot name below)
    ∙ ap (λ (xs : List Module). changed_at k (with_instance name.items slot) xs) (modules_kept names slot name ms free)

pub put_view : (names : List (ArrayVec ℕ)) (ms : List Loaded) (l : Loaded) (slot : ℕ) (name : ArrayVec ℕ) (m : Module) → slot < length names
    → is_slot_held slot (modules_of names ms) ≡ false → (name_of_slot (set names slot name) slot ≡ name.items → module_of (set names slot name) l ≡ m)
    → modules_of (set names slot name) (ms ++ l ∷ []) ≡ modules_of names ms ++ m ∷ []
put_view names ms l slot name m below free new =
    map-append (module_of (set names slot name)) ms (l ∷ [])
    ∙ ap (λ (xs : List Module). xs ++ module_of (set names slot name) l ∷ []) (modules_kept names slot name ms free)
    ∙ ap (λ (x : Module). modules_of names ms ++ x ∷ []) (new (name_put names slot name below))

-- a list of as many items fills another
pub refilled : {X : Type 0} (xs : List X) (i : ℕ) (x : X) → refill (length xs) xs (set xs i x) ≡ set xs i x
refilled xs i x =
    let long : length (set xs i x) ≡ length xs = length-set xs i x in
    rw (long, drop_all (length xs) xs (omega arith), append-nil (set xs i x), ← long) (take-length (set xs i x))

-- a module changed
pub changed_view : (names : List (ArrayVec ℕ)) (change : Module → Module) (ms : List Loaded) (k : ℕ) (l d : Loaded) → k < length ms
    → module_of names l ≡ change (module_of names (get_or ms k d)) → modules_of names (set ms k l) ≡ changed_at k change (modules_of names ms)
changed_view names change [] k l d below same = absurd (omega arith)
changed_view names change (m ∷ ms) zero l d below same = ap (λ (x : Module). x ∷ modules_of names ms) same
changed_view names change (m ∷ ms) (suc k) l d below same =
    ap (λ (xs : List Module). module_of names m ∷ xs) (changed_view names change ms k l d (omega arith) same)

pub changed_past : {X : Type 0} (change : X → X) (xs : List X) (k : ℕ) → length xs ≤ k → changed_at k change xs ≡ xs
changed_past change [] k past = refl
changed_past change (x ∷ xs) zero past = absurd (omega arith)
changed_past change (x ∷ xs) (suc k) past = ap (λ ys. x ∷ ys) (changed_past change xs k (omega arith))

pub room_view : (names : List (ArrayVec ℕ)) (ms : List Loaded) (k slot : ℕ) (d : Loaded) → AreModules (modules_of names ms) → slot < 64
    → is_slot_held slot (modules_of names ms) ≡ false → k < length ms → length (get_or ms k d).slots.items < 64
room_view names ms k slot d are below fresh within =
    let found : slice_get (modules_of names ms) k ≡ Some (module_of names (get_or ms k d)) =
    slice_get-map (module_of names) ms k ∙ ap (option_map (module_of names)) (slice_get-get_or ms k d within) in
    let room = room_for_instance (modules_of names ms) slot k (module_of names (get_or ms k d)) are below fresh found in
    omega (arith, room, length-map (get_or ms k d).slots.items (instance_of names))

-- an instance taken out
without-map : (names : List (ArrayVec ℕ)) (slot : ℕ) (ss : List ℕ)
    → without_first_passing (has_slot slot) (map (instance_of names) ss) ≡ map (instance_of names) (without_first_passing (λ s. s == slot) ss)
without-map names slot [] = refl
without-map names slot (s ∷ ss) =
    elim (cases_Bool (s == slot)) [
      | inl e ↦ rw e refl
      | inr e ↦ rw (e, without-map names slot ss) refl
    ]

-- what stays of a module, and what does not
pub record IsLeft (slot : ℕ) (l left : Loaded) : Type 0 where
  pub slots : left.slots.items ≡ without_first_passing (λ s. s == slot) l.slots.items
  pub preferred : left.preferred ≡ heir slot l.preferred left.slots.items
  pub header : left.header ≡ l.header
  pub image : left.image ≡ l.image

left_as : (names : List (ArrayVec ℕ)) (slot : ℕ) (m : Module) (ss : List ℕ) → 0 < length ss
    → still slot m (map (instance_of names) ss) ≡ record {
      header = m.header;
      image = m.image;
      instances = map (instance_of names) ss;
      preferred = heir slot m.preferred ss;
    } ∷ []
left_as names slot m [] some = absurd (omega arith)
left_as names slot m (s ∷ ss) some = refl

pub left_module : (names : List (ArrayVec ℕ)) (slot : ℕ) (l left : Loaded) → IsLeft slot l left → 0 < length left.slots.items
    → module_without slot (module_of names l) ≡ module_of names left ∷ []
left_module names slot l left is some =
    rw (without-map names slot l.slots.items, ← is.slots) (left_as names slot (module_of names l) left.slots.items some
    ∙ rw (is.preferred, is.header, is.image) refl)

pub no_module : (names : List (ArrayVec ℕ)) (slot : ℕ) (l left : Loaded) → IsLeft slot l left → length left.slots.items ≡ 0
    → module_without slot (module_of names l) ≡ []
no_module names slot l left is none =
    rw (without-map names slot l.slots.items, ← is.slots) (nothing left.slots.items none)
  where
    nothing : (ss : List ℕ) → length ss ≡ 0 → still slot (module_of names l) (map (instance_of names) ss) ≡ []
    nothing [] e = refl
    nothing (s ∷ ss) e = absurd (omega arith)

-- the first module with a slot is the one that is changed
abbrev pub has_slot_in : ℕ → Loaded → Bool
has_slot_in slot l = list_any (λ s. s == slot) l.slots.items

has_view : (names : List (ArrayVec ℕ)) (slot : ℕ) (l : Loaded) → has_instance slot (module_of names l) ≡ has_slot_in slot l
has_view names slot l = list_any-map (instance_of names) (has_slot slot) l.slots.items

gone_at : (names : List (ArrayVec ℕ)) (slot : ℕ) (ms : List Loaded) (k : ℕ) (d : Loaded) → k < length ms
    → has_slot_in slot (get_or ms k d) ≡ true → ((j : ℕ) → j < k → has_slot_in slot (get_or ms j d) ≡ false)
    → module_without slot (module_of names (get_or ms k d)) ≡ []
    → modules_of names (remove ms k) ≡ without_instance slot (modules_of names ms)
gone_at names slot [] k d within here before none = absurd (omega arith)
gone_at names slot (m ∷ ms) zero d within here before none = rw (has_view names slot m, here, none) refl
gone_at names slot (m ∷ ms) (suc k) d within here before none =
    let first : has_slot_in slot m ≡ false = before 0 (omega arith) in
    let rest = gone_at names slot ms k d (omega arith) here (λ j less. before (suc j) (omega arith)) none in
    rw (has_view names slot m, first) (ap (λ (xs : List Module). module_of names m ∷ xs) rest)

kept_at : (names : List (ArrayVec ℕ)) (slot : ℕ) (ms : List Loaded) (k : ℕ) (d left : Loaded) → k < length ms
    → has_slot_in slot (get_or ms k d) ≡ true → ((j : ℕ) → j < k → has_slot_in slot (get_or ms j d) ≡ false)
    → module_without slot (module_of names (get_or ms k d)) ≡ module_of names left ∷ []
    → modules_of names (insert (remove ms k) k left) ≡ without_instance slot (modules_of names ms)
kept_at names slot [] k d left within here before one = absurd (omega arith)
kept_at names slot (m ∷ ms) zero d left within here before one = rw (has_view names slot m, here, one) refl
kept_at names slot (m ∷ ms) (suc k) d left within here before one =
    let first : has_slot_in slot m ≡ false = before 0 (omega arith) in
    let rest = kept_at names slot ms k d left (omega arith) here (λ j less. before (suc j) (omega arith)) one in
    rw (has_view names slot m, first) (ap (λ (xs : List Module). module_of names m ∷ xs) rest)

pub module_gone : (names : List (ArrayVec ℕ)) (slot : ℕ) (ms : List Loaded) (k : ℕ) (l left : Loaded) → position (has_slot_in slot) ms ≡ Some k
    → l ≡ get_or ms k l → IsLeft slot l left → length left.slots.items ≡ 0
    → modules_of names (remove ms k) ≡ without_instance slot (modules_of names ms)
module_gone names slot ms k l left found it is none =
    let first = position-Some (has_slot_in slot) ms k l found in
    gone_at names slot ms k l first.0 first.1 first.2
    (subst (λ (x : Loaded). module_without slot (module_of names x) ≡ []) it (no_module names slot l left is none))

pub module_kept : (names : List (ArrayVec ℕ)) (slot : ℕ) (ms : List Loaded) (k : ℕ) (l left : Loaded) → position (has_slot_in slot) ms ≡ Some k
    → l ≡ get_or ms k l → IsLeft slot l left → 0 < length left.slots.items
    → modules_of names (insert (remove ms k) k left) ≡ without_instance slot (modules_of names ms)
module_kept names slot ms k l left found it is some =
    let first = position-Some (has_slot_in slot) ms k l found in
    kept_at names slot ms k l left first.0 first.1 first.2
    (subst (λ (x : Loaded). module_without slot (module_of names x) ≡ module_of names left ∷ []) it (left_module names slot l left is some))

-- no module has the slot
pub none_gone : (names : List (ArrayVec ℕ)) (slot : ℕ) (ms : List Loaded) → list_any (has_slot_in slot) ms ≡ false
    → modules_of names ms ≡ without_instance slot (modules_of names ms)
none_gone names slot [] none = refl
none_gone names slot (m ∷ ms) none =
    let parts = or_parts (has_slot_in slot m) (list_any (has_slot_in slot) ms) none in
    rw (has_view names slot m, parts.0) (ap (λ (xs : List Module). module_of names m ∷ xs) (none_gone names slot ms parts.1))

-- the slots of all modules
pub slots_same : (names : List (ArrayVec ℕ)) (ss : List ℕ) → map (λ (i : Instance). i.slot) (map (instance_of names) ss) ≡ ss
slots_same names [] = refl
slots_same names (s ∷ ss) = ap (λ (xs : List ℕ). s ∷ xs) (slots_same names ss)

pub slots_view : (names : List (ArrayVec ℕ)) (ms : List Loaded) → slots_of (modules_of names ms) ≡ all_slots ms
slots_view names [] = refl
slots_view names (l ∷ ls) =
    ap (λ (xs : List ℕ). xs ++ slots_of (modules_of names ls)) (slots_same names l.slots.items)
    ∙ ap (λ (xs : List ℕ). l.slots.items ++ xs) (slots_view names ls)
