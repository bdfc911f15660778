-- What a sink over memory has taken.
use Rattle.std.specs.Prelude.{ℕ, List}
use Rattle.profile.specs.declared.text_sink.TextSink.{TextSink}

abbrev pub sink_text_of : TextSink → List ℕ
sink_text_of s = s.bytes.items
