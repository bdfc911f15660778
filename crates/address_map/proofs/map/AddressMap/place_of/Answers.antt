use Rattle.std.proofs.Common.{◌∙◌, ap, sym}
use Rattle.address_map.specs.Pages.{place_in_frame}
use Rattle.address_map.proofs.Loads.{place_read}
use Rattle.address_map.proofs.map.AddressMap.place_of.Goals as goal

pub returns-in_err-frame : goal.returns-in_err-frame
returns-in_err-frame c =
    c.from_residual.ensures
    ∙ sym (place_read c.args.self.now c.args.addr c.get.result c.requires c.get.ensures
    ∙ ap (place_in_frame c.args.addr) (sym c.frame.ensures ∙ c.in_err-frame.was))

pub returns : goal.returns
returns c =
    sym (place_read c.args.self.now c.args.addr c.get.result c.requires c.get.ensures
    ∙ ap (place_in_frame c.args.addr) (sym c.frame.ensures ∙ c.in_ok-frame.was))
