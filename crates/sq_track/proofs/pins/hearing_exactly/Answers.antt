use Rattle.sq_track.proofs.Histories.Contacts.{hearing_keeps, hearing_keeps_nothing, hearing_remembers, one_hearing}
use Rattle.sq_track.proofs.pins.hearing_exactly.Goals as goal

pub returns-clause-one : goal.returns-clause-one
returns-clause-one c = one_hearing

pub returns-clause-remembers : goal.returns-clause-remembers
returns-clause-remembers c = hearing_remembers

pub returns-clause-keeps : goal.returns-clause-keeps
returns-clause-keeps c = hearing_keeps

pub returns-clause-nothing : goal.returns-clause-nothing
returns-clause-nothing c = hearing_keeps_nothing
