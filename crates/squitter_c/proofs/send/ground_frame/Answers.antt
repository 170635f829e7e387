use Rattle.squitter_c.specs.Sending.{IsSendAnswer}
use Rattle.squitter_c.proofs.send.ground_frame.Goals as goal

pub returns : goal.returns
unfolding IsSendAnswer
returns c =
    let sent = c.send_ground.ensures.sent in (
      c.in-Some.head,
      c.in-Some.ensures.value,
      (
        c.in-Some-parity_of.parity,
        c.in-Some-parity_of.ensures.value,
        (
          c.in-Some-position_of.position,
          c.in-Some-position_of.ensures.value,
          (
            sent.0,
            record {
              of_parity = sent.1;
              rounds = sent.2;
              squitter = c.send_ground.result;
              sent = sent.3;
              is_frame = c.each_frame.ensures;
              spelled = c.write_frame-frame.ensures.written;
            },
          ),
        ),
      ),
    )
