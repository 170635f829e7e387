use Rattle.sq_commands.proofs.replies.encode.air_frame.Goals as goal

pub returns : goal.returns
returns c =
    let sent = c.send_air.ensures.sent in (
      c.air_head.result,
      c.air_head.ensures,
      (
        sent.0,
        record {
          of_parity = sent.1;
          rounds = sent.2;
          squitter = c.send_air.result;
          sent = sent.3;
          is_frame = c.each_frame.ensures;
          spelled = c.write_frame-frame.ensures.written;
        },
      ),
    )
