-- What a machine's state says of its store and its core.
use Rattle.profile.specs.MemoryMap.{error_block_start}
use Rattle.std.proofs.Common.{ℕ, ◌≡◌, ◌≤◌, ◌+◌, true, lit≤, List, [], ◌∷◌, length, Option, Some, None, refl, sym, ap, subst}
use Rattle.address_map.specs.declared.region.Region.{Region}
use Rattle.arm_core.specs.State.{State}
use Rattle.os_heap_words.specs.lists.Heap.{HeapList}
use Rattle.os_heap.specs.Store.{IsSound, store_of}
use Rattle.dynamic_areas.proofs.HeapCalls.{system_mapped}
use Rattle.dynamic_areas.specs.Ground.{IsAreaStore, IsRecorded, system_pages_range}
use Rattle.instances_table.specs.plans.Plans.{Plan}
use Rattle.instances_table.specs.Modules.{AreModules}
use Rattle.instances_table.specs.declared.parts.Image.{Image}
use Rattle.swi_dispatch_guest.specs.Ground.{HasFlex}
use Rattle.instances.specs.module_state.Sound.{AreSolid}
use Rattle.instances.specs.module_state.ModuleState.{ModuleState}
use Rattle.law_machine.proofs.SlidingStoresLemmas.Turns.{machines_have}
use Rattle.law_machine.specs.sliding_stores.Meaning.{AreStores, Stores}
use Rattle.instances.specs.Turns.{MayGoOn}
use Rattle.instances.specs.actions.Pending.{is_pending, pending_of}
use Rattle.law_machine.specs.heap_calls.Laws.{AreImagesFull, IsGuestHeap}
use Rattle.swi_dispatch_guest.proofs.FlexCalls.{pending_one}
use Rattle.swi_dispatch_guest.specs.MachineState.{MachineState, machine_area_store, machine_module_state}
use Rattle.swi_dispatch_guest.specs.GuestState.{IsGuest, IsState, GuestState, parts_module_state, state_of}
use Rattle.law_machine.proofs.HeapAloneLemmas.HeapAnswers.{set_length}
use Rattle.law_machine.specs.heap_alone.Laws.{HasHeap}
use Rattle.swi_dispatch_guest.specs.Moves.{with_registers}
use Rattle.swi_dispatch_guest.specs.Writes.{machine_with_register}

-- what flex calls act on
abbrev pub stores_in : MachineState → List Image → Stores
stores_in s pending = record { module_state = machine_module_state s; flex = s.tables.flex; pending = pending }

pub record HasStore (s : MachineState) : Type 0 where
  pub area_store : IsAreaStore (machine_area_store s)
  pub system : IsRecorded system_pages_range s.store.others
  pub images : AreImagesFull s.store.others
  pub pending : List Image
  pub stores : AreStores (stores_in s pending)
  pub size : length s.cpu.file ≡ 26

pub sound_store : (s : MachineState) → HasStore s → IsSound s.store
sound_store s has = has.area_store.ground.sound

-- the block of the system's errors is there
pub mapped_block : (s : MachineState) → HasStore s → s.store.bytes.mapped error_block_start ≡ true
mapped_block s has = system_mapped s.store s.pool s.tables.area_table has.area_store error_block_start refl

images_full : (rs : List Region) → AreSolid rs → AreImagesFull rs
images_full [] solid = tt
images_full (r ∷ rs) solid = ((λ image. (solid.0 image).some), images_full rs solid.1)

going_solid : (w : ModuleState) (plan : Option Plan) → MayGoOn w plan → AreSolid w.area_store.store.others
going_solid w None going = going.solid
going_solid w (Some p) going = going.1.module_state.solid

pending_in : Option Plan → List Image
pending_in None = []
pending_in (Some q) = pending_of q

stores_by : (p : GuestState) (plan : Option Plan) → MayGoOn (parts_module_state p) plan → HasFlex p.map p.tables.flex → AreModules p.tables.modules
    → AreStores (stores_in (state_of p) (pending_in plan))
unfolding pending_in
stores_by p None going flex modules = machines_have p.map p.tables.area_table p.tables.modules [] p.tables.flex going flex modules (lit≤ tt)
stores_by p (Some q) going flex modules =
    machines_have p.map p.tables.area_table p.tables.modules (pending_of q) p.tables.flex going.1.module_state flex modules
    (pending_one (is_pending q.actions) q.given)

parts_store : (p : GuestState) → IsGuest p → HasStore (state_of p)
parts_store p machine = record {
  area_store = machine.well_formed.areas;
  system = machine.well_formed.system;
  images = images_full (store_of p.map).others (going_solid (parts_module_state p) p.tables.plan machine.well_formed.modules);
  pending = pending_in p.tables.plan;
  stores = stores_by p p.tables.plan machine.well_formed.modules machine.well_formed.flex machine.modules;
  size = machine.core.size;
}

pub has_store : (s : MachineState) → IsState s → HasStore s
has_store s state = subst HasStore state.is (parts_store state.parts state.machine)

-- the machine on which a call from outside is made differs in its core alone
abbrev pub with_cpu : MachineState → State → MachineState
with_cpu s cpu = record s { cpu = cpu }

pub record IsGiven (s t : MachineState) : Type 0 where
  pub cpu : State
  pub is : t ≡ with_cpu s cpu
  pub size : length cpu.file ≡ 26

pub given_same : (s : MachineState) (n : ℕ) (words : List ℕ) → length s.cpu.file ≡ 26 → IsGiven s (with_registers s n words)
unfolding machine_with_register
given_same s n [] size = record { cpu = s.cpu; is = refl; size = size }
given_same s n (v ∷ vs) size =
    let on : MachineState = machine_with_register s n v in
    let more : IsGiven on (with_registers on (n + 1) vs) = given_same on (n + 1) vs (set_length s.cpu n v size) in
    record { cpu = more.cpu; is = more.is; size = more.size }

pub given_store : (s t : MachineState) → HasStore s → IsGiven s t → HasStore t
given_store s t has same =
    let on : HasStore (with_cpu s same.cpu) = record {
      area_store = has.area_store;
      system = has.system;
      images = has.images;
      pending = has.pending;
      stores = has.stores;
      size = same.size;
    } in
    subst HasStore (sym same.is) on

pub given_stays : (s t : MachineState) → IsGiven s t → t.store ≡ s.store
given_stays s t same = ap (λ (u : MachineState). u.store) same.is

pub given_goes : (s t : MachineState) → IsGiven s t → t.halt ≡ s.halt
given_goes s t same = ap (λ (u : MachineState). u.halt) same.is

pub guest_heap : (s : MachineState) (h : HeapList) → HasHeap s h → IsGuestHeap s.store h
guest_heap s h has =
    let store : HasStore s = has_store s has.state in
    record {
      sound = sound_store s store;
      found = has.found;
      own = has.own;
      anchors = has.anchors;
      alone = has.alone;
      images = store.images;
    }
