use Rattle.sq_feed.proofs.Shown.{avr_line_is_shown, avr_lines_are_shown, beast_is_shown, line_is_shown, sent_beast_is_shown}
use Rattle.sq_feed.proofs.Shown.{sent_text_is_shown}
use Rattle.sq_feed.proofs.laws.sent_is_shown.Goals as goal

pub returns-clause-start : goal.returns-clause-start
returns-clause-start c = beast_is_shown

pub returns-clause-beast : goal.returns-clause-beast
returns-clause-beast c = sent_beast_is_shown

pub returns-clause-text : goal.returns-clause-text
returns-clause-text c = sent_text_is_shown

pub returns-clause-anywhere : goal.returns-clause-anywhere
returns-clause-anywhere c = avr_line_is_shown

pub returns-clause-in_turn : goal.returns-clause-in_turn
returns-clause-in_turn c = avr_lines_are_shown

pub returns-clause-line : goal.returns-clause-line
returns-clause-line c = line_is_shown
