use Rattle.std.proofs.Common.{refl, rules}
use Rattle.sq_log.proofs.Windows.{length-slid, window_slid}
use Rattle.sq_log.proofs.marked_bytes.MarkedBytes.slide.Goals as goal

pub returns-clause-front : goal.returns-clause-front
returns-clause-front c =
    let window = c.args.self.now in
    window_slid window.bytes _ window.count window.begin window.at c.saturating_sub-self.result (search rules)
    (search rules) (search rules) (search rules) refl (search rules)

pub returns-clause-all : goal.returns-clause-all
returns-clause-all c = length-slid c.args.self.now.bytes _ (search rules)
