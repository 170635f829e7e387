use Rattle.std.proofs.Common.{◌∙◌, ap, append-nil, append_assoc, refl}
use Rattle.sq_angle.specs.Angle.{degrees}
use Rattle.sq_message.specs.Places.{place_latitude, place_longitude}
use Rattle.sq_commands.proofs.HeardLemmas.{written}
use Rattle.sq_commands.proofs.track_rows.push_place.Goals as goal

pub returns-clause-bytes : goal.returns-clause-bytes
returns-clause-bytes c decimals =
    let lat = c.push_degrees.ensures.bytes in
    let lon = c.push_degrees-2.ensures.bytes in
    let a = written decimals c.lat.result (place_latitude c.args.place.now) lat.0
    (ap degrees c.lat.ensures ∙ c.position-position.ensures.lat) lat.1 in
    let b = written decimals c.lon.result (place_longitude c.args.place.now) lon.0
    (ap degrees c.lon.ensures ∙ c.position-position.ensures.lon) lon.1 in
    rw (lon.2, lat.2, a, b) (simp (append_assoc, append-nil) refl)
