use Rattle.sq_commands.proofs.check_rows.push_message.Goals as goal

pub returns-in-Other-clause-bytes : goal.returns-in-Other-clause-bytes
returns-in-Other-clause-bytes g c altitudes = rw c.in-Other.is c.push_other.ensures.bytes
