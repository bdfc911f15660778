-- What is pushed, one part behind another.
use Rattle.std.proofs.Common.{◌++◌, ◌≡◌}
use Rattle.std.proofs.lemmas.Result.{on_ok_weaker}
use Rattle.std.specs.Prelude.{codes}
use Rattle.std.specs.Fmt.{decimal}
use Rattle.trace_effects.specs.record_text.Spelling.{comma_before, string_text}
use Rattle.debug_records.specs.Records.{record_sizes}
use Rattle.debug_records.proofs.RecordLemmas.{next_field, opened, last_field}
use Rattle.debug_records.proofs.ends.push_setting.Goals as goal

pub returns : goal.returns
returns c =
    let setting = c.args.setting.now in
    let start = c.number_field.new.self in
    let name = c.string_field.new.self in
    let sizes = c.push_sizes.new.text in
    let budget = c.number_field-2.new.self in
    let all = c.number_field-3.new.self.bytes.items in
    let limit_text = codes "\"limit\":" ++ decimal 100000 in
    let budget_text = codes "\"budget\":" ++ decimal setting.budget in
    let sizes_text = codes "\"sizes\":" ++ record_sizes setting.config in
    let name_text = codes "\"name\":" ++ string_text c.args.name.now in
    let start_text = codes "\"start\":" ++ decimal 1 in
    let behind_sizes = codes "," ++ (budget_text ++ (codes "," ++ limit_text)) in
    let behind_name = codes "," ++ (sizes_text ++ behind_sizes) in
    let behind_start = codes "," ++ (name_text ++ behind_name) in
    on_ok_weaker c.number_field-3.result
    (λ (last : all ≡ budget.bytes.items ++ (comma_before budget.follows ++ limit_text)).
    opened c.args.text.now.bytes.items start.bytes.items all start_text behind_start c.args.text.now.follows
    c.requires.empty c.requires.first c.in_ok-number_field.ensures.text
    (next_field start.bytes.items name.bytes.items all name_text behind_name start.follows
    c.in_ok-number_field.ensures.follows c.in_ok-string_field.ensures.text
    (next_field name.bytes.items sizes.bytes.items all sizes_text behind_sizes name.follows
    c.in_ok-string_field.ensures.follows c.in_ok-push_sizes.ensures.text
    (next_field sizes.bytes.items budget.bytes.items all budget_text (codes "," ++ limit_text) sizes.follows
    c.in_ok-push_sizes.ensures.follows c.in_ok-number_field-2.ensures.text
    (last_field budget.bytes.items all limit_text budget.follows
    c.in_ok-number_field-2.ensures.follows last)))))
    c.number_field-3.ensures.text
