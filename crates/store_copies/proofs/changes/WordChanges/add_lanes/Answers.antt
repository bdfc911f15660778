use Rattle.std.proofs.Common.{◌≡◌, ℕ, ◌+◌, ◌*◌, ap, arith}
use Rattle.address_map.specs.Memory.{bytes_of}
use Rattle.store_copies.specs.Words.{word_changes_below, is_shown_elsewhere}
use Rattle.store_copies.proofs.ChangeLemmas.{kept_on, page_passed, same_summary, unchanged_ahead}
use Rattle.store_copies.proofs.WordLemmas.{same_in_lane, same_in_page}
use Rattle.store_copies.proofs.changes.WordChanges.add_lanes.Goals as goal
use Rattle.store_copies.proofs.changes.WordChanges.add_lanes.Goals.{then-not-has_same_lane, else-not-has_same_lane}

pub loop-lane-init : goal.loop-lane-init
loop-lane-init c =
    let reported = is_shown_elsewhere c.args.has_error in
    let old = bytes_of c.args.before.now in
    let new = bytes_of c.args.after.now in
    let e : 1024 * c.args.page + 16 * 0 ≡ 1024 * c.args.page = omega arith in
    same_summary c.args.self.now (word_changes_below reported old new (1024 * c.args.page)) (word_changes_below reported old new (1024 * c.args.page + 16 * 0))
    (ap (word_changes_below reported old new) e) c.requires.summary

pub loop-lane-preserved : goal.loop-lane-preserved
loop-lane-preserved c =
    let reported = is_shown_elsewhere c.args.has_error in
    let old = bytes_of c.args.before.now in
    let new = bytes_of c.args.after.now in
    let page = c.args.page in
    let lane = c.loop-lane.lane in
    let n : ℕ = 1024 * page + 16 * lane in
    let next : 1024 * page + 16 * (lane + 1) ≡ n + 16 = omega arith in
    let few = c.loop-lane-test.true in
    elim c.if-not-has_same_lane.branch [
      | then-not-has_same_lane w ↦
          kept_on reported old new w.add_words.new.self c.if-not-has_same_lane.self (n + 16) (1024 * page + 16 * (lane + 1)) w.self-is next w.add_words.ensures
      | else-not-has_same_lane w ↦
          kept_on reported old new c.loop-lane.self c.if-not-has_same_lane.self (n + 16) (1024 * page + 16 * (lane + 1)) w.self-is next
          (same_summary c.loop-lane.self (word_changes_below reported old new n) (word_changes_below reported old new (n + 16))
          (unchanged_ahead reported old new n 16 (λ j inside. same_in_lane old new page lane j c.args.old.now c.args.new.now c.requires.old c.requires.new few
          (c.has_same_lane.ensures w.if-not-has_same_lane.false) inside)) c.loop-lane.invariant)
    ]

pub returns : goal.returns
returns c =
    let reported = is_shown_elsewhere c.args.has_error in
    let old = bytes_of c.args.before.now in
    let new = bytes_of c.args.after.now in
    let past = c.loop-lane-test.false in
    let up = c.loop-lane.auto.lane-end in
    let e : 1024 * (c.args.page + 1) ≡ 1024 * c.args.page + 16 * c.loop-lane.lane = omega (arith, past, up) in
    same_summary c.loop-lane.self (word_changes_below reported old new (1024 * c.args.page + 16 * c.loop-lane.lane))
    (word_changes_below reported old new (1024 * (c.args.page + 1))) (ap (word_changes_below reported old new) e) c.loop-lane.invariant

pub returns-then-has_same_page : goal.returns-then-has_same_page
returns-then-has_same_page c =
    let reported = is_shown_elsewhere c.args.has_error in
    let old = bytes_of c.args.before.now in
    let new = bytes_of c.args.after.now in
    same_summary c.args.self.now (word_changes_below reported old new (1024 * c.args.page)) (word_changes_below reported old new (1024 * (c.args.page + 1)))
    (page_passed reported old new c.args.page (same_in_page old new c.args.page c.args.old.now c.args.new.now c.requires.old c.requires.new
    (c.has_same_page.ensures c.if-has_same_page.true))) c.requires.summary
