use Rattle.std.proofs.Common.{◌∙◌, ◌-◌, ap, arith, drop, length}
use Rattle.std.proofs.lemmas.List.{length-drop, take_all}
use Rattle.sq_feed.specs.Finding.{Finds, byte_sign}
use Rattle.sq_feed.proofs.Finds.{pushed_sign}
use Rattle.sq_feed.proofs.finder.Finder.push.Goals as goal

pub returns-clause-sign : goal.returns-clause-sign
returns-clause-sign c =
    c.last_byte_sign.ensures
    ∙ pushed_sign c.self.inside.held.items c.as_slice.result.now _ c.self.inside.line c.args.byte
    c.self.inside.is_framed c.self.inside.stranger c.self.invariant (c.as_slice.ensures.value ∙ c.push.ensures.items)
    (take_all (length c.as_slice.result.now - c.self.inside.line) (drop c.self.inside.line c.as_slice.result.now)
    (omega (arith, length-drop c.self.inside.line c.as_slice.result.now)))
    ∙ ap (λ (v : Finds). byte_sign v.text c.args.byte) c.self.view_is
