use Rattle.sq_commands.proofs.answers.refuse_frame.Goals as goal

pub returns-in-Csv : goal.returns-in-Csv
returns-in-Csv c writers = rw c.in-Rows.is (rw c.in-Csv.is (c.push_refused_frame.ensures writers))

pub returns-in-Json : goal.returns-in-Json
returns-in-Json c writers = rw c.in-Rows.is (rw c.in-Json.is (c.push_refused_frame-in-Json.ensures writers))
