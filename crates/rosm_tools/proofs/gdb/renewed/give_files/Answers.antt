use Rattle.std.specs.Prelude.{None}
use Rattle.gdb_server.specs.Server.{server_state}
use Rattle.rosm_tools.proofs.GdbLemmas.RenewedLemmas.{given_so}
use Rattle.rosm_tools.proofs.gdb.renewed.give_files.Goals as goal

pub returns-in-Ok : goal.returns-in-Ok
returns-in-Ok g c =
    given_so g.F.File.Read.remaining c.args.wanted.now (server_state c.args.server.now c.args.images.now) _
    (record { images = c.in-Ok.found.images; start = c.in-Ok.found.start.items }) _ c.in-Ok.ensures.read
    (c.take_files.ensures c.in-Ok.found.images) c.has_others-is_other_image.ensures

pub returns-in-Err : goal.returns-in-Err
returns-in-Err g c = record {
  found = None;
  are = tt;
  state = c.lack_files.ensures c.args.images.now;
}
