use Rattle.sq_commands.proofs.FaultLemmas.{one_encode_fault, one_feed_fault, one_position_fault, one_site_fault, one_track_fault}
use Rattle.sq_commands.proofs.pins.one_argument_fault.Goals as goal

pub returns-clause-position : goal.returns-clause-position
returns-clause-position c = one_position_fault

pub returns-clause-site : goal.returns-clause-site
returns-clause-site c = one_site_fault

pub returns-clause-encode : goal.returns-clause-encode
returns-clause-encode c = one_encode_fault

pub returns-clause-track : goal.returns-clause-track
returns-clause-track c = one_track_fault

pub returns-clause-feed : goal.returns-clause-feed
returns-clause-feed c = one_feed_fault
