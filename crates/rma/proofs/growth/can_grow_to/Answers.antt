use Rattle.std.proofs.Common.{◌≡◌, ◌<◌, ◌-◌, ◌*◌, not, true, sym, ap, ◌∙◌, arith, inl, inr}
use Rattle.std.specs.Prelude.{is_ok, is_some}
use Rattle.std.proofs.lemmas.Bool.{cases_Bool, lt-ltb}
use Rattle.dynamic_areas.specs.declared.area.Changed.{Changed}
use Rattle.dynamic_areas.specs.Changing.{is_growth, growth_room}
use Rattle.dynamic_areas.specs.Creating.{pages_for}
use Rattle.dynamic_areas.specs.Ground.{AreaStore, area_store_of}
use Rattle.rma.specs.Calls.{area_pages}
use Rattle.rma.proofs.GrowthLemmas.{HasArea, area_there, error_none, error_there, far_refused, growth_done, growth_refused, grown_not, measured}
use Rattle.rma.proofs.growth.can_grow_to.Goals as goal

pub returns-then-end-from : goal.returns-then-end-from
returns-then-end-from c =
    sym (ap is_ok (grown_not (area_store_of c.args.map.now c.args.areas.now) c.args.end (omega (arith, c.if-end-from.true, c.from.ensures, c.area_size-size.ensures))))

pub returns-then-end-from-2 : goal.returns-then-end-from-2
returns-then-end-from-2 c =
    let e : AreaStore = area_store_of c.args.map.now c.args.areas.now in
    sym (ap is_ok (far_refused e (area_there e c.requires) c.args.end (omega (arith, c.if-end-from-2.true, c.from-2.ensures))))

pub returns : goal.returns
returns c =
    let e : AreaStore = area_store_of c.args.map.now c.args.areas.now in
    let h : HasArea e = area_there e c.requires in
    let amount = c.args.end - c.area_size-size.result in
    let past : 4096 * area_pages e < c.args.end = omega (arith, c.if-end-from.false, c.from.ensures, c.area_size-size.ensures) in
    let grows : is_growth amount ≡ true = lt-ltb amount 2147483648 (omega (arith, c.if-end-from-2.false, c.from-2.ensures)) in
    let answer = c.measure-measured.ensures ∙ measured e h amount grows in
    let reported = sym (ap (λ (x : Changed). is_some x.error) answer) ∙ c.is_none.ensures in
    let is : amount ≡ c.args.end - 4096 * area_pages e = ap (λ n. c.args.end - n) c.area_size-size.ensures in
    elim (cases_Bool c.is_none.result) [
      | inl none ↦
          none ∙ sym (ap is_ok (growth_done e h c.args.end amount past is
          (error_none (pages_for amount) (growth_room e.pool h.area) (reported ∙ ap not none))))
      | inr some ↦
          some ∙ sym (ap is_ok (growth_refused e h c.args.end amount past is
          (error_there (pages_for amount) (growth_room e.pool h.area) (reported ∙ ap not some))))
    ]
