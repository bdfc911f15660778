use Rattle.std.proofs.Common.{ap}
use Rattle.rosm_tools.proofs.GdbLemmas.ServeLemmas.{stops_with_gdb}
use Rattle.rosm_tools.proofs.gdb.process.serve_on_standard_streams.Goals as goal

pub returns-clause-stop : goal.returns-clause-stop
returns-clause-stop g c =
    stops_with_gdb g.R.File.Read.remaining g.R.Reader.Read.remaining c.args.wanted.now c.reader.result _ _ _ _ _ _ _
    (ap g.R.Reader.Read.remaining c.new-input.ensures.inner)
    c.in_ok-last.ensures.serves
