-- What writes to memory leave of the store: every heap keeps its list.
use Rattle.profile.specs.MemoryMap.{application_start, error_block_start, module_area_start, system_start}
use Rattle.std.proofs.Common.{◌≡◌, ℕ, ◌+◌, ◌-◌, ◌*◌, ◌%◌, ◌^◌, ◌≤◌, Bool, true, false, cond, nat_le, nat_eq, List, [], ◌∷◌, length, ◌++◌, Option, Some, None, Result, Ok, Err, refl, sym, ◌∙◌, ap, subst, arith, lit<, rules}
use Rattle.std.proofs.lemmas.Bool.{true≢false, le-leb}
use Rattle.profile.specs.ErrorNumber.{ErrorNumber}
use Rattle.profile.specs.ErrorNames.{error_name}
use Rattle.std.proofs.lemmas.Bool.Decides.{nat_tests}
use Rattle.profile.specs.Outcome.{bind, Leaves}
use Rattle.profile.specs.Sizes.{Sizes, AreGood}
use Rattle.profile.specs.Fault.{Fault}
use Rattle.os_heap.specs.AddressMap.{AddressMap}
use Rattle.os_heap.specs.Bytes.{Bytes, in_range, ok_unless_fault, store_fault, word_stored, with_word, with_word_at, with_bytes_at, with_bytes}
use Rattle.os_heap.specs.Memory.{bytes_of, byte_at, free_pages, Layout, layout, class_of, is_owned}
use Rattle.os_heap.proofs.Equations.{stored_bytes}
use Rattle.arm_run.proofs.Words.{unowned}
use Rattle.arm_run.specs.State.{State}
use Rattle.arm_run.specs.OwnedBytes.{IsByWords, KeepsOwnedBytes}
use Rattle.os_heap.specs.Kind.TheVariants.{Rma}
use Rattle.os_heap.specs.lists.Heap.{HeapList}
use Rattle.os_heap.specs.Store.{Store, store_of, owned_in, AreClasses, IsSound}
use Rattle.os_heap.proofs.Frame.{IsKept, clear_kept, heads_kept, owned_word, spelled_owned}
use Rattle.os_heap.proofs.Owned.{owned_marks}
use Rattle.swi_dispatch_plans.specs.Ground.{AreAreas, IsRecorded, system_pages_range}
use Rattle.swi_dispatch_plans.proofs.HeapCalls.{areas_written}
use Rattle.swi_dispatch_plans.proofs.SystemWrites.{kept_classes, system_kept}
use Rattle.swi_dispatch_guest.specs.declared.halt.Halt.{Halt}
use Rattle.swi_dispatch_guest.specs.MachineState.{MachineState, Tables, with_memory}
use Rattle.swi_dispatch_plans.proofs.FlexLemmas.Kept.{flex_frame, flex_stored}
use Rattle.swi_dispatch_plans.specs.flex.Ground.{HasFlex}
use Rattle.swi_dispatch_plans.specs.flex.Flex.{Flex}
use Rattle.swi_dispatch_plans.specs.Areas.{AreaTable}
use Rattle.swi_dispatch_plans.proofs.Writes.{system_keeps}
use Rattle.swi_dispatch_plans.specs.Keeping.{KeepsFlex}
use Rattle.swi_dispatch_plans.specs.InstancesTableModules.{slots_of}
use Rattle.swi_dispatch_plans.specs.Turns.{MayGoOn}
use Rattle.swi_dispatch_plans.proofs.GoingOn.{may_go_on_kept}
use Rattle.swi_dispatch_guest.specs.OpenFrames.{AreFrames}
use Rattle.swi_dispatch_guest.specs.GuestState.{GuestState, IsWellFormed, parts_module_state}
use Rattle.swi_dispatch_guest.specs.Writes.{machine_after_poke, with_program}
use Rattle.swi_dispatch_guest.proofs.OpenFrames.{frames_kept}

pub by_words : (s : Store) → IsByWords (owned_in s)
by_words s a k aligned below = owned_word s a k aligned below

-- a map whose heaps kept their lists stands for the store with other memory
pub kept_memory : (m n : AddressMap) (b : Bytes) → IsKept m n → bytes_of n ≡ b → store_of n ≡ with_memory (store_of m) b
kept_memory m n b kept e = kept.store ∙ ap (with_memory (store_of m)) e

pub kept_all : (m n : AddressMap) → IsKept m n → bytes_of n ≡ bytes_of m → store_of n ≡ store_of m
unfolding store_of
kept_all m n kept e = kept_memory m n (bytes_of m) kept e

-- memory that is the same, and memory whose owned bytes are
pub same_kept : (m n : AddressMap) → layout n ≡ layout m → class_of n ≡ class_of m → IsSound (store_of m) → bytes_of n ≡ bytes_of m → IsKept m n
same_kept m n same marks sound e = heads_kept m n same marks sound (λ a _. ap (λ (b : Bytes). b.at a) e)

pub keeps_kept : (m n : AddressMap) (b : Bytes) → layout n ≡ layout m → class_of n ≡ class_of m → IsSound (store_of m) → bytes_of n ≡ b
    → KeepsOwnedBytes (owned_in (store_of m)) (bytes_of m) b → IsKept m n
keeps_kept m n b same marks sound e keeps =
    heads_kept m n same marks sound (λ a is. ap (λ (c : Bytes). c.at a) e ∙ keeps.bytes a (spelled_owned (store_of m) a is))

-- what an instruction or a word that is put leaves: the lists, and every byte of the words that
-- only store calls may write
pub record IsStored (m n : AddressMap) : Type 0 where
  pub kept : IsKept m n
  pub owned : (a : ℕ) → owned_in (store_of m) a ≡ true → byte_at n a ≡ byte_at m a

pub same_stored : (m n : AddressMap) → layout n ≡ layout m → class_of n ≡ class_of m → IsSound (store_of m) → bytes_of n ≡ bytes_of m → IsStored m n
same_stored m n same marks sound e = record { kept = same_kept m n same marks sound e; owned = λ a _. ap (λ (b : Bytes). b.at a) e }

pub keeps_stored : (m n : AddressMap) (b : Bytes) → layout n ≡ layout m → class_of n ≡ class_of m → IsSound (store_of m) → bytes_of n ≡ b
    → KeepsOwnedBytes (owned_in (store_of m)) (bytes_of m) b → IsStored m n
keeps_stored m n b same marks sound e keeps =
    record { kept = keeps_kept m n b same marks sound e keeps; owned = λ a is. ap (λ (c : Bytes). c.at a) e ∙ keeps.bytes a is }

-- and so of the flex store
pub flex_after : (m n : AddressMap) (f : Flex) → HasFlex m f → layout n ≡ layout m → class_of n ≡ class_of m → IsStored m n → HasFlex n f
flex_after m n f has same marks stored = flex_stored m n f has stored.kept.sound same marks stored.owned

-- writes to the system pages
pub outside_word : (old : ℕ → ℕ) (a number : ℕ) → in_range system_start 0x3000 a ≡ false → with_word_at old error_block_start number a ≡ old a
outside_word old a number out = grind (arith, nat_tests)

pub outside_bytes : (old : ℕ → ℕ) (a : ℕ) (text : List ℕ) → length text ≤ 128 → in_range system_start 0x3000 a ≡ false → with_bytes_at old 0x01C02104 text a ≡ old a
outside_bytes old a text short out = grind (arith, nat_tests)

-- the bytes of a store to a word are none that a heap owns
apart_by : (owned : ℕ → Bool) (x a v y z : ℕ) (met : Bool) → nat_eq x a ≡ met → owned x ≡ true → owned a ≡ false → z ≡ y → cond met v z ≡ y
apart_by owned x a v y z true e o f h =
    let here : x ≡ a = grind (arith, nat_tests) in
    let both : owned x ≡ owned a = ap owned here in cc
apart_by owned x a v y z false e o f h = h

word_kept : (owned : ℕ → Bool) (b : Bytes) (a w : ℕ) → IsByWords owned → a % 4 ≡ 0 → owned a ≡ false → KeepsOwnedBytes owned b (with_word b a w)
word_kept owned b a w words aligned free =
    let one : owned (a + 1) ≡ false = words a 1 aligned (lit< tt) ∙ free in
    let two : owned (a + 2) ≡ false = words a 2 aligned (lit< tt) ∙ free in
    let three : owned (a + 3) ≡ false = words a 3 aligned (lit< tt) ∙ free in
    record {
      mapped = refl;
      bytes = λ x o. apart_by owned x a _ (b.at x) _ (nat_eq x a) refl o free (apart_by owned x (a + 1) _ (b.at x) _ (nat_eq x (a + 1)) refl o one (
          apart_by owned x (a + 2) _ (b.at x) _ (nat_eq x (a + 2)) refl o two (apart_by owned x (a + 3) _ (b.at x) _ (nat_eq x (a + 3)) refl o three refl)));
    }

abbrev StoredBy : (m n : AddressMap) → Result Bytes Fault → Type 0
StoredBy m n (Ok b) = IsKept m n × (bytes_of n ≡ b)
StoredBy m n (Err f) = IsKept m n × (bytes_of n ≡ bytes_of m)

-- what a user's store leaves, whether it was refused or not
abbrev pub with_core : State → ℕ → Tables → Option Halt → Store → MachineState
with_core cpu pool tables halt s = record { cpu = cpu; store = s; pool = pool; tables = tables; halt = halt }

abbrev pub over : AddressMap → State → Tables → Option Halt → MachineState
over m cpu tables halt = with_core cpu (free_pages m) tables halt (store_of m)

pub same_pool : (m n : AddressMap) → layout n ≡ layout m → free_pages n ≡ free_pages m
same_pool m n same = ap (λ (l : Layout). l.free_pages) same

poked_by : (m n : AddressMap) (cpu : State) (tables : Tables) (halt : Option Halt) (a w : ℕ) (result : Result Unit Fault) (f : Option Fault)
    → layout n ≡ layout m → class_of n ≡ class_of m → IsSound (store_of m)
    → (f ≡ None → owned_in (store_of m) (a - a % 4) ≡ false)
    → Leaves (bytes_of m) (ok_unless_fault f (with_word (bytes_of m) (a - a % 4) w)) result (bytes_of n)
    → IsStored m n × Leaves (over m cpu tables halt) (bind (ok_unless_fault f (with_word (bytes_of m) (a - a % 4) w))
    (λ b. Ok (with_core cpu (free_pages m) tables halt (with_memory (store_of m) b)))) result (over n cpu tables halt)
poked_by m n cpu tables halt a w (Ok u) None same marks sound free left =
    let kept : IsStored m n = keeps_stored m n _ same marks sound left (word_kept (owned_in (store_of m)) (bytes_of m) (a - a % 4) w (by_words (store_of m)) (omega arith) (free refl)) in
    let store = kept_memory m n _ kept.kept left in
    let pool = same_pool m n same in
    (kept, λ i. with_core cpu (pool i) tables halt (store i))
poked_by m n cpu tables halt a w (Err e) None same marks sound free left = absurd left
poked_by m n cpu tables halt a w (Ok u) (Some f) same marks sound free left = absurd left
poked_by m n cpu tables halt a w (Err e) (Some f) same marks sound free left =
    let kept : IsStored m n = same_stored m n same marks sound left.1 in
    let store = kept_all m n kept.kept left.1 in
    let pool = same_pool m n same in
    (kept, (left.0, λ i. with_core cpu (pool i) tables halt (store i)))

pub pokes : (m n : AddressMap) (cpu : State) (tables : Tables) (halt : Option Halt) (a w : ℕ) (result : Result Unit Fault)
    → layout n ≡ layout m → class_of n ≡ class_of m → IsSound (store_of m) → AreClasses m
    → Leaves (bytes_of m) (word_stored (is_owned m) (bytes_of m) a w) result (bytes_of n)
    → IsStored m n × Leaves (over m cpu tables halt) (machine_after_poke (over m cpu tables halt) a w) result (over n cpu tables halt)
unfolding machine_after_poke word_stored store_of
pokes m n cpu tables halt a w result same marks sound classes left =
    poked_by m n cpu tables halt a w result (store_fault (owned_in (store_of m)) (bytes_of m) (a - a % 4)) same marks sound
    (λ e. unowned (nat_le (2 ^ 26) (a - a % 4)) ((bytes_of m).mapped (a - a % 4)) (owned_in (store_of m) (a - a % 4)) e)
    (subst (λ (owned : ℕ → Bool). Leaves (bytes_of m) (word_stored owned (bytes_of m) a w) result (bytes_of n)) (owned_marks m classes) left)

-- the one heap of a machine as it was made
abbrev pub module_area : Sizes → HeapList
module_area s = record { kind = Rma; start = module_area_start; end = 4096 * s.rma; items = [] }

-- a program in the application space, which the module area doesn't meet
pub program_kept : (m n : AddressMap) (s : Sizes) (program : List ℕ) → layout n ≡ layout m → class_of n ≡ class_of m → IsSound (store_of m) → AreGood s
    → (store_of m).heaps ≡ module_area s ∷ [] → length program ≤ 4096 * s.app
    → ((a : ℕ) → byte_at n a ≡ with_bytes_at (byte_at m) application_start program a) → IsKept m n
program_kept m n s program same marks sound good heaps fits bytes =
    clear_kept m n application_start (length program) same marks sound (rw heaps (λ a inside. apart s (length program) a good fits inside, tt))
    (λ a outside. bytes a ∙ untouched (byte_at m) program a outside) where
      apart : (s : Sizes) (len a : ℕ) → AreGood s → len ≤ 4096 * s.app → in_range application_start len a ≡ true → in_range module_area_start (4096 * s.rma) a ≡ false
      apart s len a good fits inside = let limit = good.in_limit in let room = good.has_room in grind (arith, nat_tests)

      untouched : (old : ℕ → ℕ) (program : List ℕ) (a : ℕ) → in_range application_start (length program) a ≡ false → with_bytes_at old application_start program a ≡ old a
      untouched old program a outside = rw outside refl

-- the error block
pub error_kept : (m n : AddressMap) (number : ℕ) (text : List ℕ) → layout n ≡ layout m → class_of n ≡ class_of m → IsSound (store_of m) → IsRecorded system_pages_range (store_of m).others
    → length text ≤ 128 → bytes_of n ≡ with_bytes (with_word (bytes_of m) error_block_start number) 0x01C02104 text → IsKept m n
error_kept m n number text same marks sound others short e =
    system_kept m n same marks sound others (λ a out. ap (λ (b : Bytes). b.at a) e
    ∙ outside_bytes (with_word_at (byte_at m) error_block_start number) a text short out ∙ outside_word (byte_at m) a number out)

-- the flex store after a call other than its own
pub flex_by : (old new : GuestState) → IsWellFormed old → AreAreas (store_of new.map) (free_pages new.map) new.tables.area_table
    → KeepsFlex (store_of old.map) (store_of new.map) → new.tables.flex ≡ old.tables.flex → HasFlex new.map new.tables.flex
flex_by old new well areas keeps flex =
    rw flex (flex_frame old.map new.map old.tables.flex (free_pages new.map) new.tables.area_table well.flex well.areas.ground.sound keeps areas)

-- the parts of a guest after a call that kept the other records, the modules, the plan and the
-- frames
pub well_by : (old new : GuestState) → IsWellFormed old → AreAreas (store_of new.map) (free_pages new.map) new.tables.area_table → AreClasses new.map
    → (store_of new.map).others ≡ (store_of old.map).others → new.tables.modules ≡ old.tables.modules → new.tables.plan ≡ old.tables.plan
    → new.tables.frames ≡ old.tables.frames → HasFlex new.map new.tables.flex → new.tables.area_table.sizes ≡ new.sizes → IsWellFormed new
well_by old new well areas classes others modules plan frames flex sized = record {
  areas = areas;
  classes = classes;
  system = rw others well.system;
  modules = rw plan (may_go_on_kept (parts_module_state old) (parts_module_state new) old.tables.plan areas others modules well.modules);
  frames = frames_kept old.tables new.tables well.frames frames plan (ap slots_of modules);
  flex = flex;
  sized = sized;
}

-- the same where the call kept the flex store
pub well_called : (old new : GuestState) → IsWellFormed old → AreAreas (store_of new.map) (free_pages new.map) new.tables.area_table → AreClasses new.map
    → (store_of new.map).others ≡ (store_of old.map).others → new.tables.modules ≡ old.tables.modules → new.tables.plan ≡ old.tables.plan
    → new.tables.frames ≡ old.tables.frames → KeepsFlex (store_of old.map) (store_of new.map) → new.tables.flex ≡ old.tables.flex
    → new.tables.area_table.sizes ≡ new.sizes → IsWellFormed new
well_called old new well areas classes others modules plan frames keeps flex sized =
    well_by old new well areas classes others modules plan frames (flex_by old new well areas keeps flex) sized

-- the same after a call that changed the frames alone
pub well_framed : (old new : GuestState) → IsWellFormed old → new.map ≡ old.map → new.tables.area_table ≡ old.tables.area_table → new.tables.modules ≡ old.tables.modules
    → new.tables.plan ≡ old.tables.plan → AreFrames new.tables → new.tables.flex ≡ old.tables.flex → new.sizes ≡ old.sizes → IsWellFormed new
well_framed old new well map area_table modules plan frames flex sizes = record {
  areas = rw (map, area_table) well.areas;
  classes = rw map well.classes;
  system = rw map well.system;
  modules = rw (map, area_table, modules, plan) well.modules;
  frames = frames;
  flex = rw (map, flex) well.flex;
  sized = rw area_table (well.sized ∙ sym sizes);
}

-- the flex store lies in no system page
pub flex_error : (m n : AddressMap) (f : Flex) (l : AreaTable) (number : ℕ) (text : List ℕ) → HasFlex m f → AreAreas (store_of m) (free_pages m) l
    → IsRecorded system_pages_range (store_of m).others → length text ≤ 128 → IsKept m n → layout n ≡ layout m
    → bytes_of n ≡ with_bytes (with_word (bytes_of m) error_block_start number) 0x01C02104 text → HasFlex n f
unfolding store_of
flex_error m n f l number text has areas system short kept same e =
    let keeps : KeepsFlex (store_of m) (store_of n) =
    subst (KeepsFlex (store_of m)) (sym kept.store) (system_keeps (store_of m) (bytes_of n) areas.ground.sound system (λ a out. ap (λ (b : Bytes). b.at a) e
    ∙ outside_bytes (with_word_at (byte_at m) error_block_start number) a text short out ∙ outside_word (byte_at m) a number out)) in
    flex_frame m n f (free_pages n) l has areas.ground.sound keeps (areas_written m n l areas kept.sound same)

-- the areas after a call that kept every list
kept_areas : (old new : GuestState) → IsWellFormed old → IsKept old.map new.map → layout new.map ≡ layout old.map → new.tables ≡ old.tables
    → AreAreas (store_of new.map) (free_pages new.map) new.tables.area_table
kept_areas old new well kept same tables =
    rw tables (areas_written old.map new.map old.tables.area_table well.areas kept.sound same)

-- the parts of a guest after a call that kept every list
pub well_kept : (old new : GuestState) → IsWellFormed old → IsKept old.map new.map → layout new.map ≡ layout old.map → class_of new.map ≡ class_of old.map
    → new.tables ≡ old.tables → HasFlex new.map old.tables.flex → new.sizes ≡ old.sizes → IsWellFormed new
well_kept old new well kept same marks tables flex sizes =
    well_by old new well (kept_areas old new well kept same tables) (kept_classes old.map new.map kept marks well.classes)
    (ap (λ (s : Store). s.others) kept.store) (ap (λ (t : Tables). t.modules) tables) (ap (λ (t : Tables). t.plan) tables)
    (ap (λ (t : Tables). t.frames) tables) (rw tables flex) (rw tables (well.sized ∙ sym sizes))

-- the application space holds the program of the written machine
pub program_put : (m n : AddressMap) (cpu : State) (tables : Tables) (halt : Option Halt) (program : List ℕ) → layout n ≡ layout m → IsKept m n
    → ((a : ℕ) → byte_at n a ≡ with_bytes_at (byte_at m) application_start program a) → over n cpu tables halt ≡ with_program (over m cpu tables halt) program
unfolding store_of
program_put m n cpu tables halt program same kept bytes =
    let store = kept_memory m n _ kept (stored_bytes m n application_start program same bytes) in
    let pool = same_pool m n same in
    λ i. with_core cpu (pool i) tables halt (store i)

-- the names of errors are short
pub short_name : (e : ErrorNumber) → length (error_name e ++ 0 ∷ []) ≤ 128
short_name e = search rules
