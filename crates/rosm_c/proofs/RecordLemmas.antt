-- Records that were gathered in memory, and then put into room that a caller lends.
use Rattle.std.proofs.Common.{◌≡◌, ℕ, List, [], ◌++◌, length, true, Some, ap, sym, subst, ◌∙◌}
use Rattle.std.specs.List.{list_all}
use Rattle.profile.specs.text_sink.Safe.{AddsSafe, is_safe}
use Rattle.rosm_c.specs.Answers.{ShowsRecords, room_with}

pub records_put : (held text lent again room after : List ℕ) (count : ℕ) → held ≡ [] → AddsSafe (Some held) (Some text)
    → lent ≡ text → count ≡ length lent → again ≡ text → after ≡ room_with room again → ShowsRecords count room after
records_put held text lent again room after count none added same counted as_well put =
    let all : added.text ≡ text = sym (added.adds ∙ ap (λ (xs : List ℕ). xs ++ added.text) none) in
    record {
      records = text;
      safe = subst (λ (xs : List ℕ). list_all is_safe xs ≡ true) all added.safe;
      written = counted ∙ ap length same;
      front = put ∙ ap (room_with room) as_well;
    }
