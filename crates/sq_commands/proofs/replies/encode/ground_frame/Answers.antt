use Rattle.sq_commands.proofs.replies.encode.ground_frame.Goals as goal

pub returns : goal.returns
returns c =
    let sent = c.send_ground.ensures.sent in (
      c.ground_head.result,
      c.ground_head.ensures,
      (
        sent.0,
        record {
          of_parity = sent.1;
          rounds = sent.2;
          squitter = c.send_ground.result;
          sent = sent.3;
          is_frame = c.each_frame.ensures;
          spelled = c.write_frame-frame.ensures.written;
        },
      ),
    )
