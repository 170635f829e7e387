use Rattle.sq_message.specs.Kinds.{InAir, OnGround}
use Rattle.sq_message.proofs.SentFrames.{near_reference, close_pair}
use Rattle.sq_message.proofs.SentFrames.{written_again, sent_from_its_position}
use Rattle.sq_message.proofs.SameZones.{same_zones}
use Rattle.sq_message.proofs.laws.headline.Goals as goal

pub returns-clause-same_frame_in_air : goal.returns-clause-same_frame_in_air
returns-clause-same_frame_in_air c = same_zones InAir

pub returns-clause-same_frame_on_ground : goal.returns-clause-same_frame_on_ground
returns-clause-same_frame_on_ground c = same_zones OnGround

pub returns-clause-near_reference_in_air : goal.returns-clause-near_reference_in_air
returns-clause-near_reference_in_air c = near_reference InAir

pub returns-clause-near_reference_on_ground : goal.returns-clause-near_reference_on_ground
returns-clause-near_reference_on_ground c = near_reference OnGround

pub returns-clause-close_pair_in_air : goal.returns-clause-close_pair_in_air
returns-clause-close_pair_in_air c = close_pair InAir

pub returns-clause-close_pair_on_ground : goal.returns-clause-close_pair_on_ground
returns-clause-close_pair_on_ground c = close_pair OnGround

pub returns-clause-written_again : goal.returns-clause-written_again
returns-clause-written_again c = written_again

pub returns-clause-sent_again_in_air : goal.returns-clause-sent_again_in_air
returns-clause-sent_again_in_air c = sent_from_its_position InAir

pub returns-clause-sent_again_on_ground : goal.returns-clause-sent_again_on_ground
returns-clause-sent_again_on_ground c = sent_from_its_position OnGround
