-- The area store after a record of an image went, and what calls keep that leave what is mapped.
use Rattle.std.proofs.Common.{◌≡◌, ℕ, sym, ap, subst, ◌∙◌}
use Rattle.std.specs.Prelude.{is_some}
use Rattle.rma.specs.AddressMap.{AddressMap}
use Rattle.rma.specs.Memory.{Mapping, free_pages, mapping}
use Rattle.rma.specs.Records.{without_region}
use Rattle.rma.specs.Kind.TheVariants as kind
use Rattle.rma.specs.Store.{IsSound, Store, store_of}
use Rattle.rma.specs.Areas.{AreaTable}
use Rattle.rma.specs.Ground.{IsRecorded, area_store_of, system_pages_range}
use Rattle.rma.specs.Calls.{with_store}
use Rattle.rma.specs.Images.{image_dropped}
use Rattle.instances.specs.module_state.Sound.{HasSystemPages}
use Rattle.instances.proofs.ModuleStateLemmas.Images.{system_less}

pub pages_stay : (m n : AddressMap) → (store_of n).others ≡ (store_of m).others → mapping n ≡ mapping m → IsSound (store_of n) → HasSystemPages m
    → HasSystemPages n
pages_stay m n others same sound pages = record {
  sound = sound;
  recorded = subst (IsRecorded system_pages_range) (sym others) pages.recorded;
  mapped = λ a low high. ap (λ (q : Mapping). is_some (q.place a)) same ∙ pages.mapped a low high;
}

pub pages_less : (m n : AddressMap) (at : ℕ) → (store_of n).others ≡ without_region (store_of m).others kind.Image at → mapping n ≡ mapping m
    → IsSound (store_of n) → HasSystemPages m → HasSystemPages n
pages_less m n at others same sound pages = record {
  sound = sound;
  recorded = subst (IsRecorded system_pages_range) (sym others) (system_less at (store_of m).others pages.recorded);
  mapped = λ a low high. ap (λ (q : Mapping). is_some (q.place a)) same ∙ pages.mapped a low high;
}

pub others_dropped : (s t : Store) (at : ℕ) → t ≡ image_dropped s at → t.others ≡ without_region s.others kind.Image at
unfolding image_dropped
others_dropped s t at same = ap (λ (x : Store). x.others) same

pub area_store_with : (m n : AddressMap) (l : AreaTable) (s : Store) → store_of n ≡ s → mapping n ≡ mapping m → area_store_of n l ≡ with_store (area_store_of m l) s
area_store_with m n l s store same =
    let pool : free_pages n ≡ free_pages m = ap (λ (q : Mapping). q.free_pages) same in
    λ i. record { store = store i; pool = pool i; area_table = l }
