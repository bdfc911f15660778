use Rattle.std.proofs.Common.{ap, ◌∙◌}
use Rattle.profile.specs.Devices.{device_inner}
use Rattle.rosm_settings.proofs.StreamLemmas.{stops_with}
use Rattle.rosm_settings.proofs.process.run_on_standard_streams.Goals as goal

pub returns-clause-stop : goal.returns-clause-stop
returns-clause-stop g c =
    stops_with g.R.File.Read.remaining g.R.Reader.Read.remaining c.args.settings.now c.reader.result _ _ _ _
    (ap (λ d. g.R.Reader.Read.remaining (device_inner d)) c.new-input.ensures.inner
    ∙ ap g.R.Reader.Read.remaining c.new.ensures.inner)
    c.in_ok-last.ensures.answers
