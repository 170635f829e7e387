use Rattle.std.proofs.Common.{◌≡◌, ◌+◌, ◌-◌, ◌≤◌, ℕ, List, arith, length, rules}
use Rattle.sq_log.specs.Marked.{waiting_of}
use Rattle.sq_log.proofs.Windows.{length-between, line_to}
use Rattle.sq_log.proofs.marked_bytes.MarkedBytes.line.Goals as goal

pub returns : goal.returns
returns c =
    let window = c.args.self.now in
    let waiting : List ℕ = waiting_of window in
    let last : ℕ = 65 + window.count in
    let long : length waiting ≡ last - window.at =
    length-between window.at last window.bytes (search rules) (search rules) in
    let within : window.at + c.args.place ≤ last = omega (arith, c.requires.there, long, window.within) in
    line_to window.bytes window.begin window.at last c.args.place (search rules) within c.requires.first
