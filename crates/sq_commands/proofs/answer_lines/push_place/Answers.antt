use Rattle.std.proofs.Common.{◌∙◌, ap}
use Rattle.sq_angle.specs.Angle.{degrees}
use Rattle.sq_message.specs.Places.{place_latitude, place_longitude}
use Rattle.sq_digits.specs.Digits.{hexadecimal}
use Rattle.sq_commands.proofs.HeardLemmas.{pushed, written}
use Rattle.sq_commands.proofs.answer_lines.push_place.Goals as goal

pub returns-clause-bytes : goal.returns-clause-bytes
returns-clause-bytes c decimals =
    let lat = c.push_decimals.ensures.bytes in
    let lon = c.push_decimals-2.ensures.bytes in
    let a = written decimals c.lat.result (place_latitude c.args.place.now) lat.0
    (ap degrees c.lat.ensures ∙ c.position-position.ensures.lat) lat.1 in
    let b = written decimals c.lon.result (place_longitude c.args.place.now) lon.0
    (ap degrees c.lon.ensures ∙ c.position-position.ensures.lon) lon.1 in
    pushed c.args.text.now.bytes c.args.word.now (hexadecimal 6 c.args.address) lat.0 lon.0 _ _
    c.push_address.new.text.bytes c.push_str.new.self.bytes c.push_decimals.new.text.bytes c.push_str-2.new.self.bytes
    c.push_decimals-2.new.text.bytes
    c.push_address.ensures.bytes c.push_str.ensures.bytes lat.2 c.push_str-2.ensures.bytes lon.2 a b
