use Rattle.std.proofs.Common.{◌≡◌, sym, subst, []}
use Rattle.rma.specs.Ground.{AreaStore, IsAreaStore, area_store_of}
use Rattle.instances.specs.module_state.Sound.{IsModuleState}
use Rattle.instances.specs.module_state.ModuleState.{image_gone, module_state_of}
use Rattle.instances.proofs.ModuleStateLemmas.Removals.{module_state_given_up}
use Rattle.instances.specs.actions.Actions.{image_given}
use Rattle.instances.proofs.actions.adding.give_up.Goals as goal

pub returns-clause-area_store : goal.returns-clause-area_store
returns-clause-area_store c = λ l. rw c.image_given.ensures at (c.drop_image.ensures.area_store l)

pub returns-clause-kept : goal.returns-clause-kept
returns-clause-kept c =
    let kept = c.drop_image.ensures.kept in
    record {
      sound = λ l modules module_state.
          let gone : area_store_of c.drop_image.new.map l ≡ image_gone (area_store_of c.args.map.now l) (image_given c.args.given.now) =
          rw c.image_given.ensures at (c.drop_image.ensures.area_store l) in
          subst (λ (e : AreaStore). IsModuleState (record { area_store = e; modules = modules }) []) (sym gone)
          (module_state_given_up (module_state_of c.args.map.now l modules) (image_given c.args.given.now) module_state
          (subst IsAreaStore gone (kept.sound l module_state.area_store)));
      pages = kept.pages;
      classes = kept.classes;
      mapping = kept.mapping;
      records = kept.records;
      flex = kept.flex;
    }
