-- What is kept where nothing happens, and where a call goes on after a write in the system pages.
use Rattle.std.proofs.Common.{refl, ◌∙◌}
use Rattle.rma.specs.AddressMap.{AddressMap}
use Rattle.rma.specs.Store.{store_of}
use Rattle.rma.proofs.FlexFrameLemmas.Keeping.{keeps_same, keeps_then}
use Rattle.instances.specs.module_state.Kept.{DropsRecords, IsSystemMap, KeepsPages, StaysSound}
use Rattle.instances.specs.module_state.Sound.{HasSystemPages}
use Rattle.instances.proofs.ModuleStateLemmas.Records.{layout-mapping, loses_laid}

pub nothing_written : (m : AddressMap) → HasSystemPages m → KeepsPages m m (StaysSound m m)
nothing_written m system = record {
  sound = λ l modules pending module_state. module_state;
  areas = λ l area_store. area_store;
  pages = system;
  classes = λ classes. classes;
  layout = refl;
  flex = keeps_same (store_of m);
}

pub written_then : (m k n : AddressMap) → KeepsPages m k (StaysSound m k) → KeepsPages k n (StaysSound k n) → KeepsPages m n (StaysSound m n)
written_then m k n first next = record {
  sound = λ l modules pending module_state. next.sound l modules pending (first.sound l modules pending module_state);
  areas = λ l area_store. next.areas l (first.areas l area_store);
  pages = next.pages;
  classes = λ classes. next.classes (first.classes classes);
  layout = next.layout ∙ first.layout;
  flex = keeps_then _ _ _ first.flex next.flex;
}

-- Where only the system pages are written, or nothing is, no record goes.
pub pages_dropped : {Sound Before : Type 0} (m n : AddressMap) → IsSystemMap m → KeepsPages m n Before → Sound → DropsRecords m n Sound
pages_dropped m n state kept sound = record {
  sound = sound;
  pages = kept.pages;
  classes = kept.classes state.classes;
  mapping = layout-mapping m n kept.layout;
  records = loses_laid m n kept.layout;
  flex = kept.flex;
}

pub nothing_dropped : {Sound : Type 0} (m : AddressMap) → IsSystemMap m → Sound → DropsRecords m m Sound
nothing_dropped m state sound = pages_dropped m m state (nothing_written m state.system) sound
