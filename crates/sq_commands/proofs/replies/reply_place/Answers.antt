use Rattle.sq_commands.proofs.replies.reply_place.Goals as goal

pub returns-in-Ok : goal.returns-in-Ok
returns-in-Ok c =
    rw c.in-Ok.is (
      c.place_text.result.bytes,
      (c.position.result, c.position.ensures, c.place_text.ensures),
      c.reply_with.ensures,
    )
