use Rattle.std.proofs.Common.{◌≡◌, ℕ, Bool, List, Option, ◌∙◌, ap, refl}
use Rattle.std.specs.Prelude.{is_some}
use Rattle.profile.specs.images.Entries.{bytes_of_image}
use Rattle.debug_modules.specs.Past.{past_with_images}
use Rattle.debug_modules.specs.OwnAnswers.{forget_text}
use Rattle.debug_session.specs.Session.{debug_state}
use Rattle.debug_session.specs.declared.session.DebugSession.{DebugSession}
use Rattle.debug_session.proofs.OwnLemmas.{mapped_some, view_after, without_image}
use Rattle.debug_session.proofs.EndLemmas.{ends_unwritten}
use Rattle.debug_tables.specs.RunError.TheVariants.{Memory}
use Rattle.debug_session.proofs.session.DebugSession.forget.Goals as goal

pub returns-clause-reported : goal.returns-clause-reported
returns-clause-reported g c =
    let after = c.remove-was_there.new.self in
    let there : c.is_some-is_there.result ≡ is_some (bytes_of_image c.args.images.now c.args.name.now) =
    c.is_some-is_there.ensures ∙ mapped_some (λ bytes. bytes.now) c.get.result ∙ ap (λ (o : Option (List ℕ)). is_some o) c.get.ensures.bytes in
    let old = c.args.self.now in
    let left = c.remove-had_source.new.self in
    let gone : DebugSession = record old { labels = c.remove.new.self; sources = left; past = c.change_images_if.new.self } in
    view_after c.view.result _ _ _ (debug_state gone after) _ old.setting old.setting
    c.in_ok-text.text.items _ refl
    (without_image (debug_state old c.args.images.now) _ after c.remove.new.self _ left _ c.change_images_if.new.self _
    c.remove-was_there.ensures.left c.remove.ensures c.remove-had_source.ensures.left
    (c.change_images_if.ensures ∙ ap (λ (b : Bool). past_with_images b old.past) there))
    (c.in_ok-text.ensures ∙ ap (λ (b : Bool). forget_text b c.args.name.now) there)
    (c.view.ensures.reported after)

pub returns-in_err-text-clause-ends : goal.returns-in_err-text-clause-ends
returns-in_err-text-clause-ends g c = ends_unwritten g.W.Sink.has_failed c.args.sink.now c.from_residual.result Memory c.from_residual.ensures.1 refl

pub returns-clause-ends : goal.returns-clause-ends
returns-clause-ends g c = c.view.ensures.ends

pub returns-in_err-text-clause-setting : goal.returns-in_err-text-clause-setting
returns-in_err-text-clause-setting g c = refl

pub returns-clause-setting : goal.returns-clause-setting
returns-clause-setting g c = c.view.ensures.setting
