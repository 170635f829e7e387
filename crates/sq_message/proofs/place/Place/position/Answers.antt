use Rattle.sq_message.proofs.place.Place.position.Goals as goal

pub returns-in-Air : goal.returns-in-Air
returns-in-Air c = rw c.in-Air.is (record { lat = c.position.ensures.lat; lon = c.position.ensures.lon })
