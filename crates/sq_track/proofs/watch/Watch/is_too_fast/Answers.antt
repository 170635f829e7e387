use Rattle.std.proofs.Common.{◌≡◌, ◌∙◌, ◌+◌, ◌*◌, ◌-◌, ◌^◌, ap, ap₂, min, option_copied, sym}
use Rattle.sq_track.proofs.Gaps.{apart_capped}
use Rattle.sq_track.specs.Watch.{are_apart, is_too_fast}
use Rattle.sq_track.specs.declared.watch.Miles.{Miles}
use Rattle.sq_track.proofs.watch.Watch.is_too_fast.Goals as goal

pub returns-in-Some-Some : goal.returns-in-Some-Some
returns-in-Some-Some c =
    let p = c.in-Some-Some.before.now.position in
    let q = c.args.place.now in
    let elapsed = c.args.moment - c.in-Some-Some.before.now.moment in
    let way : c.way-way.result
    ≡ record { num = min (c.in-Some-Some.speed * elapsed + 3600000) (2 ^ 40); den = 3600000 } =
    λ i. record {
      num = (c.way-way.ensures.num
          ∙ ap (λ n. min (c.in-Some-Some.speed * n + 3600000) (2 ^ 40)) c.saturating_sub.ensures) i;
      den = c.way-way.ensures.den i;
    } in
    c.are_apart.ensures ∙ ap (λ (m : Miles). are_apart m p q) way
    ∙ apart_capped (c.in-Some-Some.speed * elapsed + 3600000) p q
    ∙ sym (ap₂ (λ s o. is_too_fast s (option_copied o) c.args.moment q) c.in-Some-Some.is-0 c.in-Some-Some.is-1)
