use Rattle.std.proofs.Common.{◌≡◌, ◌∙◌, [], List, Err, ap, take, refl, subst, sym, inl, inr}
use Rattle.std.proofs.lemmas.List.{take_all}
use Rattle.sq_track.specs.Held.{Held}
use Rattle.sq_track.specs.Restoring.{CanBeRestored}
use Rattle.squitter_c.specs.declared.entry.PlainEntry.{PlainEntry}
use Rattle.squitter_c.specs.Entries.{AreEntriesOf}
use Rattle.squitter_c.specs.Restoring.{holding, unheard}
use Rattle.squitter_c.proofs.Restorings.{nothing_held, one_more, refused_at}
use Rattle.squitter_c.proofs.tracker_restore.restore.Goals as goal

pub loop-at-init : goal.loop-at-init
loop-at-init g c =
    let e = c.resume.ensures in
    ([], tt, nothing_held c.resume.new.self c.args.last, e ∙ sym (ap (λ (v : Held). holding v c.args.last []) e))

pub loop-at-preserved : goal.loop-at-preserved
loop-at-preserved g c =
    let (es, stand, held, is) = c.loop-at.invariant in
    one_more c.resume.new.self c.loop-at.tracker c.args.last c.args.entries.now c.loop-at.at _
    c.contact_of-contact.result es stand held is c.loop-at-test.true c.contact_of-contact.ensures c.restore.new.self
    c.in-Ok.ensures.ok.0 c.in-Ok.ensures.ok.1

pub returns-in-Err-Refused : goal.returns-in-Err-Refused
returns-in-Err-Refused g c =
    let (es, stand, held, is) = c.loop-at.invariant in
    let same : c.loop-at.tracker ≡ holding c.args.tracker.now c.args.last es =
    is ∙ ap (λ (v : Held). holding v c.args.last es) c.resume.ensures in
    inr (inl (
      c.loop-at.at,
      refused_at c.args.tracker.now c.loop-at.tracker c.args.last c.args.entries.now c.loop-at.at _
          c.contact_of-contact.result es stand
          (subst (λ (v : Held). CanBeRestored (holding v c.args.last es)) c.resume.ensures held) same
          c.loop-at-test.true c.contact_of-contact.ensures
          (c.restore.ensures.refused.0 (c.in-Err-Refused.is ∙ ap Err c.in-Err-Refused.field-0-is)),
      c.resume-in-Err-Refused.ensures ∙ ap unheard (c.in-Err-Refused.ensures.err ∙ same),
      c.of.ensures,
    ))

pub returns-in-Err-Memory : goal.returns-in-Err-Memory
returns-in-Err-Memory g c =
    let (es, stand, held, is) = c.loop-at.invariant in
    let same : c.loop-at.tracker ≡ holding c.args.tracker.now c.args.last es =
    is ∙ ap (λ (v : Held). holding v c.args.last es) c.resume.ensures in
    inr (inr (
      c.resume-in-Err-Memory.ensures ∙ ap unheard (c.in-Err-Memory.ensures.err ∙ same),
      c.of-in-Err-Memory.ensures,
    ))

pub returns : goal.returns
returns g c =
    let (es, stand, held, is) = c.loop-at.invariant in
    let all : take c.loop-at.at c.args.entries.now ≡ c.args.entries.now =
    take_all c.loop-at.at c.args.entries.now c.loop-at-test.false in
    inl (
      record {
        contacts = es;
        stand = subst (λ (ps : List PlainEntry). AreEntriesOf ps es) all stand;
        held = subst (λ (v : Held). CanBeRestored (holding v c.args.last es)) c.resume.ensures held;
        is = is ∙ ap (λ (v : Held). holding v c.args.last es) c.resume.ensures;
      },
      refl,
    )
