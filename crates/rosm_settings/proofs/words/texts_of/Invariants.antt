use Rattle.std.proofs.Common.{◌≡◌, map, take, string_bytes}
use Rattle.rosm_settings.proofs.words.texts_of.Given as goal

abbrev pub invariant-loop-word : goal.invariant-loop-word
invariant-loop-word l = map (λ t. t.now) l.texts.items ≡ map string_bytes (take l.word-index l.words)
