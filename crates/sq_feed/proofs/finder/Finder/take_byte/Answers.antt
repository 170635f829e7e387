use Rattle.std.proofs.Common.{◌∙◌, ◌-◌, [], ap, ap₂, length, take, if◌then◌else◌}
use Rattle.std.specs.Prelude.{◌==◌, ◌||◌, ◌&&◌}
use Rattle.sq_feed.specs.declared.signs.Sign.{Sign}
use Rattle.sq_feed.specs.Finding.{Lines, byte_sign, is_framed_line, lines_after, remembered}
use Rattle.sq_feed.proofs.Finds.{beast_shown, front_all, signs_shown}
use Rattle.sq_feed.proofs.finder.Finder.take_byte.Goals as goal

pub returns-then-messages-ge-IN_TURN-clause-shows : goal.returns-then-messages-ge-IN_TURN-clause-shows
returns-then-messages-ge-IN_TURN-clause-shows c =
    beast_shown c.args.self.now c.take_as_beast.new.self c.push-sign.new.self c.args.byte c.messages-messages.result
    c.take_as_beast.ensures.beast c.messages-messages.ensures c.if-messages-ge-IN_TURN.true

pub returns-clause-shows : goal.returns-clause-shows
returns-clause-shows c =
    let mid = c.take_as_beast.new.self.text in
    signs_shown c.args.self.now c.take_as_beast.new.self c.end_byte.new.self c.args.byte c.messages-messages.result
    c.push-sign.result c.limit_sign.result c.first_shown.result c.take_as_beast.ensures.beast
    c.messages-messages.ensures c.if-messages-ge-IN_TURN.false
    (c.end_byte.ensures.beast.0 ∙ c.push-sign.ensures.beast.0)
    (c.end_byte.ensures.beast.1 ∙ c.push-sign.ensures.beast.1)
    (c.end_byte.ensures.text
    ∙ ap₂ (λ (t : Lines) (s : Sign). record t {
      line = if c.args.byte == 10 then [] else t.line;
      is_framed = t.is_framed || (c.args.byte == 10) && is_framed_line (take (length t.line - 1) t.line);
      stranger = remembered t.stranger s;
    }) c.push-sign.ensures.text c.push-sign.ensures.sign
    ∙ ap (λ l. record (lines_after mid c.args.byte) {
      is_framed = mid.is_framed || (c.args.byte == 10) && is_framed_line l;
    }) (front_all mid.line c.args.byte)
    ∙ ap (λ (t : Lines). lines_after t c.args.byte) c.take_as_beast.ensures.text.0)
    c.end_byte.ensures.count
    (c.push-sign.ensures.sign ∙ ap (λ t. byte_sign t c.args.byte) c.take_as_beast.ensures.text.0)
    c.limit_sign.ensures c.first_shown.ensures
