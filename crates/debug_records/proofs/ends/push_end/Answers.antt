-- What is pushed, one part behind another.
use Rattle.std.proofs.Common.{ℕ, ◌++◌, ◌≡◌, ◌∙◌, ap}
use Rattle.std.proofs.lemmas.Result.{on_ok_weaker}
use Rattle.std.specs.Prelude.{codes}
use Rattle.std.specs.Fmt.{decimal}
use Rattle.debug_records.specs.Records.{last_record}
use Rattle.debug_records.proofs.RecordLemmas.{first_field, next_field, opened}
use Rattle.debug_records.proofs.ends.push_end.Goals as goal

pub returns : goal.returns
returns c =
    let n = c.args.counts in
    let opening = c.open.new.self in
    let end = c.number_field.new.self in
    let passed = c.number_field-2.new.self in
    let failed = c.number_field-3.new.self in
    let refused = c.number_field-4.new.self in
    let status = c.number_field-5.new.self in
    let all = c.end_record.new.text.bytes.items in
    let status_text = codes "\"status\":" ++ decimal c.from.result in
    let refused_text = codes "\"refused\":" ++ decimal n.refused in
    let failed_text = codes "\"failed\":" ++ decimal n.failed in
    let passed_text = codes "\"passed\":" ++ decimal n.passed in
    let end_text = codes "\"end\":" ++ decimal 1 in
    let behind_refused = codes "," ++ (status_text ++ codes "}\n") in
    let behind_failed = codes "," ++ (refused_text ++ behind_refused) in
    let behind_passed = codes "," ++ (failed_text ++ behind_failed) in
    let behind_end = codes "," ++ (passed_text ++ behind_passed) in
    on_ok_weaker c.end_record.result
    (λ (last : all ≡ status.bytes.items ++ codes "}\n").
    opened c.args.text.now.bytes.items opening.bytes.items all (codes "{") (end_text ++ behind_end) c.args.text.now.follows
    c.requires.empty c.requires.first c.in_ok-open.ensures.text
    (first_field opening.bytes.items end.bytes.items all end_text behind_end opening.follows
    c.in_ok-open.ensures.follows c.in_ok-number_field.ensures.text
    (next_field end.bytes.items passed.bytes.items all passed_text behind_passed end.follows
    c.in_ok-number_field.ensures.follows c.in_ok-number_field-2.ensures.text
    (next_field passed.bytes.items failed.bytes.items all failed_text behind_failed passed.follows
    c.in_ok-number_field-2.ensures.follows c.in_ok-number_field-3.ensures.text
    (next_field failed.bytes.items refused.bytes.items all refused_text behind_refused failed.follows
    c.in_ok-number_field-3.ensures.follows c.in_ok-number_field-4.ensures.text
    (next_field refused.bytes.items status.bytes.items all status_text (codes "}\n") refused.follows
    c.in_ok-number_field-4.ensures.follows c.in_ok-number_field-5.ensures.text last)))))
    ∙ ap (λ (v : ℕ). last_record n v) c.from.ensures)
    c.end_record.ensures
