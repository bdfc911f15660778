use Rattle.std.proofs.Common.{◌<◌, ◌≤◌, ◌^◌, ℕ, List, drop, length, arith}
use Rattle.debug_tables.specs.Session.{script_state}
use Rattle.debug_history.specs.Search.{units}
use Rattle.debug_history.specs.declared.act.Act.{Act}
use Rattle.debug_history.proofs.ScanLemmas.{act_fits, act_goes_on, scan_begins, scan_ends, units_end}
use Rattle.debug_history.proofs.scan.scan_acts.Goals as goal

pub loop-act-init : goal.loop-act-init
loop-act-init c =
    scan_begins c.args.sought.now (script_state c.args.session.now c.args.images.now) (units c.args.acts.now) c.args.scan.now
    c.requires.seen

pub scan_act-requires-clause-seen : goal.scan_act-requires-clause-seen
scan_act-requires-clause-seen c = c.loop-act.invariant.sight

pub scan_act-requires-clause-fits : goal.scan_act-requires-clause-fits
scan_act-requires-clause-fits c =
    let acts : List Act = c.args.acts.now in
    let i : ℕ = c.loop-act.act-index in
    let below : i < length acts = omega arith in
    act_fits c.args.sought.now (script_state c.args.session.now c.args.images.now)
    (script_state c.loop-act.session c.loop-act.images) acts i (2 ^ 64) c.act-item.result c.args.scan.now c.loop-act.scan below
    c.act-item.is c.requires.fits c.loop-act.invariant

pub loop-act-preserved : goal.loop-act-preserved
loop-act-preserved c =
    let acts : List Act = c.args.acts.now in
    let i : ℕ = c.loop-act.act-index in
    let below : i < length acts = omega arith in
    act_goes_on c.args.sought.now (script_state c.args.session.now c.args.images.now)
    (script_state c.loop-act.session c.loop-act.images) (script_state c.scan_act.new.session c.scan_act.new.images) acts i
    c.act-item.result c.args.scan.now c.loop-act.scan c.scan_act.new.scan below c.act-item.is c.loop-act.invariant
    c.in_ok-scan_act.ensures.moment c.in_ok-scan_act.ensures.scan

pub returns-clause-moment : goal.returns-clause-moment
returns-clause-moment c =
    let acts : List Act = c.args.acts.now in
    let i : ℕ = c.loop-act.act-index in
    let all : length acts ≤ i = omega arith in
    (scan_ends c.args.sought.now (script_state c.args.session.now c.args.images.now)
    (script_state c.loop-act.session c.loop-act.images) (units acts) (units (drop i acts)) c.args.scan.now c.loop-act.scan
    (units_end acts i all) c.loop-act.invariant).0

pub returns-clause-scan : goal.returns-clause-scan
returns-clause-scan c =
    let acts : List Act = c.args.acts.now in
    let i : ℕ = c.loop-act.act-index in
    let all : length acts ≤ i = omega arith in
    (scan_ends c.args.sought.now (script_state c.args.session.now c.args.images.now)
    (script_state c.loop-act.session c.loop-act.images) (units acts) (units (drop i acts)) c.args.scan.now c.loop-act.scan
    (units_end acts i all) c.loop-act.invariant).1
