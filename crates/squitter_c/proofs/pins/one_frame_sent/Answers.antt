use Rattle.sq_message.specs.Kinds.{InAir, OnGround}
use Rattle.squitter_c.proofs.OneFrames.{one_sent_of}
use Rattle.squitter_c.proofs.pins.one_frame_sent.Goals as goal

pub returns-clause-in_air : goal.returns-clause-in_air
returns-clause-in_air c = one_sent_of InAir

pub returns-clause-on_ground : goal.returns-clause-on_ground
returns-clause-on_ground c = one_sent_of OnGround
