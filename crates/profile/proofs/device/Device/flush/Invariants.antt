use Rattle.std.proofs.Common.{◌≡◌, false}
use Rattle.std.specs.Io.KnownBytes.{Keeps}
use Rattle.profile.proofs.device.Device.flush.Given as goal

-- the writer holds what it held
abbrev pub invariant-loop-tries : goal.invariant-loop-tries
invariant-loop-tries g l = Keeps (g.T.Write.contents l.initial.self.inner) (g.T.Write.contents l.self.inner) × (l.self.has_failed ≡ false)
