-- Nothing was read, and no step was taken.
use Rattle.profile.specs.images.Table.{entries_of}
use Rattle.debug_session.specs.Session.{debug_state}
use Rattle.debug_records.proofs.AnsweredLemmas.{started}
use Rattle.debug_records.proofs.recorder.Recorder.new.Goals as goal

pub returns : goal.returns
returns c = λ script.
    let images = entries_of c.images.inside.list.items in
    started c.args.setting c.in_ok-new.field-0.setting c.args.images images (debug_state c.in_ok-new.field-0 images) script
    c.in_ok-new.ensures.setting (c.in_ok-new.ensures.state images) c.images.view_is
