use Rattle.std.proofs.Common.{◌≡◌, false}
use Rattle.std.specs.Io.KnownBytes.{Keeps}
use Rattle.profile.proofs.sink.DeviceSink.push.Given as goal

-- no byte was taken so far
abbrev pub invariant-loop-tries : goal.invariant-loop-tries
invariant-loop-tries g l = Keeps (g.T.Write.contents l.initial.self.inner) (g.T.Write.contents l.self.inner) × (l.self.has_failed ≡ false)
