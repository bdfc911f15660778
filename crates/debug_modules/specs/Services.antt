-- Service calls (RISC OS 3 Programmer's Reference Manual, volume 1, "Modules", "Service call handler"): the word at
-- &0C of a module is the offset of its code for them, which is entered for each instance of each module, the oldest
-- first, with the number of the call in R1, until one claims it: that one leaves 0 there. The modules are those
-- that are loaded when their turn comes.
use Rattle.std.specs.Prelude.{ℕ, zero, suc, Bool, false, not, ◌+◌, ◌%◌, ◌/◌, ◌==◌, ◌&&◌, ◌||◌, nat_le, nat_lt, List, [], ◌++◌, length, codes, Option, Some, None, slice_get, if◌then◌else◌}
use Rattle.std.specs.Option.{option_map}
use Rattle.arm_core.specs.State.{register_of}
use Rattle.profile.specs.Sums.{address_further}
use Rattle.address_map.specs.Bytes.{Bytes}
use Rattle.debug_modes.specs.MachineState.{MachineState}
use Rattle.debug_modes.specs.Memory.{script_with_budget}
use Rattle.debug_modes.specs.State.{ScriptState}
use Rattle.debug_listing.specs.CommandShellLinesRequests.{is_same_word}
use Rattle.debug_history.specs.Noted.{has_returned}
use Rattle.debug_history.specs.Past.{PastState}
use Rattle.debug_runs.specs.Labels.{ImageLabels}
use Rattle.debug_modes.specs.declared.modes.DebugModes.{DebugModes}
use Rattle.instances_table.specs.Changes.{modules_of_title}
use Rattle.instances_table.specs.Lookup.{shown_of_module, shown_of_place}
use Rattle.instances_table.specs.Modules.{Module, slots_of}
use Rattle.instances_table.specs.declared.parts.InstanceInfo.{InstanceInfo}
use Rattle.instances_table.specs.declared.parts.ModuleInfo.{ModuleInfo}
use Rattle.instances_table.specs.plans.Code.{private_of}
use Rattle.debug_modules.specs.Entering.{module_code_entered}
use Rattle.debug_listing.specs.ImageParts.{code_place}
use Rattle.debug_listing.specs.Tables.{loaded_word}
use Rattle.debug_modules.specs.Taking.{LineSteps}
use Rattle.debug_modules.specs.declared.entering.ModuleEntry.{ModuleEntry}
use Rattle.debug_modules.specs.declared.services.ServiceCode.{ServiceCode}
use Rattle.debug_modules.specs.declared.services.Serving.{Serving}

-- whether all modules are meant, or there is an instance of one of that title
abbrev pub is_served : List Module → List ℕ → Bool
is_served modules title = length title == 0 || nat_lt 0 (length (slots_of (modules_of_title title modules)))

-- whether a module has a word for such code, and is meant by a title: an empty one means all
abbrev pub is_service_meant : ModuleInfo → List ℕ → Bool
is_service_meant m title = nat_le 16 m.len && (length title == 0 || is_same_word m.title.items title)

-- the code of an instance
abbrev pub code_for : ModuleInfo → InstanceInfo → Option ℕ → Option ServiceCode
code_for m i (Some code) = Some (record { title = m.title; code = code; word = private_of i.slot })
code_for m i None = None

abbrev pub code_of_instance : Bytes → List ℕ → Option ModuleInfo → Option InstanceInfo → Option ServiceCode
code_of_instance b title (Some m) (Some i) =
    if is_service_meant m title
    then code_for m i (code_place m.image m.len (loaded_word b (address_further m.image 12))) else None
code_of_instance b title (Some m) None = None
code_of_instance b title None i = None

abbrev pub service_code : MachineState → List ℕ → ℕ → ℕ → Option ServiceCode
service_code s title number instance =
    code_of_instance s.store.bytes title (option_map shown_of_module (slice_get s.tables.modules number))
    (shown_of_place instance (slice_get s.tables.modules number))

-- how far a call is: what its steps left, R1, and whether it is over
pub record ServiceState : Type 0 where
  pub taken : LineSteps
  pub r1 : ℕ
  pub is_over : Bool

abbrev pub service_state : ScriptState → DebugModes → PastState → Serving → ServiceState
service_state s m p v = record {
  taken = record {
    script = s;
    modes = m;
    past = p;
    text = v.answer.text.items;
    printed = v.answer.printed.items;
    ending = v.answer.ending.items;
  };
  r1 = v.r1;
  is_over = v.is_over;
}

-- `claimed by Pots`
abbrev pub claimed_text : List ℕ → List ℕ
claimed_text title = codes "claimed by " ++ (title ++ codes "\n")

-- how the line ends: as the steps do where the code has not gone back
abbrev pub service_ending : List ℕ → List ℕ → List ℕ → ℕ → List ℕ
service_ending before ended title r1 =
    if not (has_returned ended) then ended else (if r1 == 0 then claimed_text title else before)

-- code that was entered has left this
abbrev pub with_service : ServiceState → LineSteps → ServiceState
with_service v t = record {
  taken = record t {
    text = v.taken.text ++ t.text;
    printed = v.taken.printed ++ t.printed;
    ending = v.taken.ending;
  };
  r1 = register_of t.script.machine.cpu 1;
  is_over = v.is_over;
}

-- the call is over where the code has not gone back, or has claimed it
abbrev pub service_ended : List ℕ → List ℕ → ServiceState → ServiceState
service_ended title ended v = record v {
  taken = record v.taken { ending = service_ending v.taken.ending ended title v.r1 };
  is_over = not (has_returned ended) || (v.r1 == 0 || v.is_over);
}

abbrev pub service_left : ServiceState → List ℕ → LineSteps → ServiceState
service_left v title t = service_ended title t.ending (with_service v t)

-- R0 is as it was
abbrev pub entry_of_service : ServiceState → ServiceCode → ModuleEntry
entry_of_service v c = record {
  code = c.code;
  r0 = register_of v.taken.script.machine.cpu 0;
  r1 = v.r1;
  r12 = c.word;
}

abbrev pub served_by : List ImageLabels → ℕ → ServiceCode → ServiceState → ServiceState
served_by labels number c v = service_left v c.title.items
    (module_code_entered v.taken.modes labels v.taken.script v.taken.past number (entry_of_service v c))

abbrev pub served_if : List ImageLabels → ℕ → ServiceState → Option ServiceCode → ServiceState
served_if labels number v (Some c) = served_by labels number c v
served_if labels number v None = v

-- the instance of each place has its turn: there are 64 places for each of 64 modules
abbrev pub served_at : List ImageLabels → ℕ → List ℕ → ℕ → ServiceState → ServiceState
served_at labels number title place v = if v.is_over then v
    else served_if labels number v (service_code v.taken.script.machine title (place / 64) (place % 64))

unfoldable pub served_from : ℕ → List ImageLabels → ℕ → List ℕ → ℕ → ServiceState → ServiceState
served_from zero labels number title place v = v
served_from (suc more) labels number title place v =
    served_from more labels number title (place + 1) (served_at labels number title place v)

-- before the first turn, with the whole budget
abbrev pub service_begun : DebugModes → ℕ → ScriptState → PastState → ℕ → ServiceState
service_begun m budget s p service = record {
  taken = record {
    script = script_with_budget s budget;
    modes = m;
    past = p;
    text = [];
    printed = [];
    ending = codes "not claimed\n";
  };
  r1 = service;
  is_over = false;
}

abbrev pub service_called : DebugModes → List ImageLabels → ℕ → ScriptState → PastState → ℕ → ℕ → List ℕ
    → LineSteps
service_called m labels budget s p number service title =
    (served_from 4096 labels number title 0 (service_begun m budget s p service)).taken
