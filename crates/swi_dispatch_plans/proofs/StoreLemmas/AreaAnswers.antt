-- OS_ChangeDynamicArea where no area has the number.
use Rattle.std.proofs.Common.{◌≡◌, ℕ, Option, Some, None, Err, List, refl}
use Rattle.profile.specs.ErrorNumber.{ErrorNumber}
use Rattle.os_heap.specs.Store.{Store}
use Rattle.instances.specs.Area.{Area}
use Rattle.instances.specs.Areas.{area_in, find_area}
use Rattle.instances.specs.Changing.{change_answer}

unknown_found : (areas : List Area) (s : Store) (free number amount : ℕ) (e : ErrorNumber) (found : Option Area)
    → find_area number areas ≡ found → area_in areas number ≡ Err e → Some e ≡ (change_answer areas s free number amount).error
unfolding change_answer
unknown_found areas s free number amount e (Some a) there unknown = absurd (let f = rw there at unknown in cc)
unknown_found areas s free number amount e None there unknown = let f = rw there at unknown in rw there cc

pub unknown_error : (areas : List Area) (s : Store) (free number amount : ℕ) (e : ErrorNumber) → area_in areas number ≡ Err e
    → Some e ≡ (change_answer areas s free number amount).error
unknown_error areas s free number amount e unknown = unknown_found areas s free number amount e (find_area number areas) refl unknown
