use Rattle.example_place.proofs.Sent.{true_in_air, true_on_ground}
use Rattle.example_place.proofs.place_near.Goals as goal

-- by the headline
pub returns-clause-true_in_air : goal.returns-clause-true_in_air
returns-clause-true_in_air c =
    true_in_air c.headline.ensures.near_reference_in_air c.one_squitter_reading.ensures _ _ _ c.decoded_near.ensures

pub returns-clause-true_on_ground : goal.returns-clause-true_on_ground
returns-clause-true_on_ground c =
    true_on_ground c.headline.ensures.near_reference_on_ground c.one_squitter_reading.ensures _ _ _
    c.decoded_near.ensures
