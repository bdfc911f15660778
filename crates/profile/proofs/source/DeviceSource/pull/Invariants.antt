use Rattle.std.proofs.Common.{◌≡◌, false}
use Rattle.std.specs.Io.KnownBytes.{Keeps}
use Rattle.profile.proofs.source.DeviceSource.pull.Given as goal

-- no byte was given so far
abbrev pub invariant-loop-tries : goal.invariant-loop-tries
invariant-loop-tries g l = Keeps (g.T.Read.remaining l.initial.self.inner) (g.T.Read.remaining l.self.inner) × (l.self.has_failed ≡ false)
