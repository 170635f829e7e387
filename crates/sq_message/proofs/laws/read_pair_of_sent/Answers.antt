use Rattle.std.specs.Prelude.{option_copied}
use Rattle.sq_message.specs.Kinds.{head_of}
use Rattle.sq_message.proofs.SentFrames.{pair_of_sent}
use Rattle.sq_message.proofs.laws.read_pair_of_sent.Goals as goal

pub returns-clause-read : goal.returns-clause-read
returns-clause-read g c = (
  c.read_spelled-even_squitter.result,
  c.read_spelled-odd_squitter.result,
  c.read_spelled-even_squitter.ensures,
  c.read_spelled-odd_squitter.ensures,
  c.place_of_newest-place.ensures,
)

pub returns-clause-point : goal.returns-clause-point
returns-clause-point g c = λ a b address a_rounds b_rounds near lie.
    let kind = g.F.Kind.kind in
    let fields = g.F.Kind.fields in
    pair_of_sent kind (head_of kind fields c.args.even_head) (head_of kind fields c.args.odd_head)
    c.args.even_position.now c.args.odd_position.now _ _
    c.read_spelled-even_squitter.result c.read_spelled-odd_squitter.result
    c.args.newest (option_copied c.args.site) c.place_of_newest-place.result address c.frame_sent-even.ensures.sent
    c.frame_sent-odd.ensures.sent c.read_spelled-even_squitter.ensures c.read_spelled-odd_squitter.ensures
    c.place_of_newest-place.ensures a b a_rounds b_rounds near lie
