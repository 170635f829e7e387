use Rattle.sq_feed.proofs.Lawful.{sent_is_found, sent_is_found_anywhere}
use Rattle.sq_feed.proofs.laws.sent_is_found.Goals as goal

pub returns-clause-alone : goal.returns-clause-alone
returns-clause-alone c = sent_is_found

pub returns-clause-anywhere : goal.returns-clause-anywhere
returns-clause-anywhere c = sent_is_found_anywhere
