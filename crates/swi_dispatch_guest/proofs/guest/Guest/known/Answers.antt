use Rattle.std.proofs.Common.{◌≤◌, IfSome, List, ℕ, length, subst, sym}
use Rattle.os_heap.proofs.Bytes.{byte_at-lt}
use Rattle.swi_dispatch_plans.specs.Area.{Area}
use Rattle.swi_dispatch_plans.specs.Plans.{Plan}
use Rattle.os_heap.specs.Store.{store_of}
use Rattle.swi_dispatch_guest.specs.GuestState.{IsGuest, GuestState}
use Rattle.swi_dispatch_guest.proofs.guest.Guest.known.Goals as goal

pub returns : goal.returns
unfolding store_of
returns c =
    let text = subst (λ (p : GuestState). IfSome p.tables.plan (λ (plan : Plan). length plan.given.text.items ≤ 255))
    (sym c.self.view_is) c.text_of_plan.ensures in
    subst IsGuest c.self.view_is (record {
      well_formed = c.self.invariant;
      core = c.known.ensures;
      bytes = λ a. byte_at-lt c.self.inside.memory a;
      areas = c.self.invariant.areas.ground.table;
      few_areas = subst (λ (xs : List Area). length xs ≤ 32) c.list.ensures.value c.list.ensures.few;
      modules = c.known-2.ensures;
      frames = subst (λ (n : ℕ). n ≤ 32) c.len.ensures.value c.len.ensures.fits;
      text = text;
    })
