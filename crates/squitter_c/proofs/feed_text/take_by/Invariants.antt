use Rattle.std.proofs.Common.{◌≡◌, ◌≤◌, ◌+◌, ◌-◌, ◌++◌, List, drop, length, take}
use Rattle.sq_digits.specs.Buffer.{text_len}
use Rattle.sq_feed.specs.declared.message.Timed.{Timed}
use Rattle.sq_feed.specs.Feeds.{HasTold, lines_of, steps_for, steps_left}
use Rattle.squitter_c.proofs.feed_text.take_by.Given as goal

abbrev pub invariant-loop-lines : goal.invariant-loop-lines
invariant-loop-lines l = record {
  taken : l.taken ≤ length l.piece;
  fits : l.at + text_len l.lines ≤ length l.out;
  told : (told : List Timed) × HasTold l.arrival l.initial.feed (take l.taken l.piece) told l.feed
      × (take l.at l.out ++ l.lines.bytes ≡ lines_of told);
  rest : drop l.at l.out ≡ drop l.at l.initial.out;
  long : length l.out ≡ length l.initial.out;
}

abbrev pub decreases-loop-lines : goal.decreases-loop-lines
decreases-loop-lines l = steps_left l.feed + steps_for (length l.piece - l.taken)
