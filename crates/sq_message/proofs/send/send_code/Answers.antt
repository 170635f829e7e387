use Rattle.std.proofs.Common.{◌∙◌, ap}
use Rattle.sq_message.specs.Kinds.{me_at}
use Rattle.sq_message.proofs.send.send_code.Goals as goal

pub returns : goal.returns
returns g c =
    let me = c.me.ensures
    ∙ ap (λ f. me_at g.F.Kind.kind (record { parity = c.args.parity; code = c.args.code; fields = g.F.Kind.fields f }))
    c.fields.ensures in
    λ i. record { ca = c.ca.ensures.value i; address = c.address.ensures.value i; me = me i }
