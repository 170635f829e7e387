use Rattle.sq_feed.proofs.Lawful.{found_once, read_once}
use Rattle.sq_feed.proofs.pins.one_reading.Goals as goal

pub returns-clause-read : goal.returns-clause-read
returns-clause-read c = read_once

pub returns-clause-found : goal.returns-clause-found
returns-clause-found c = found_once
