use Rattle.std.proofs.Common.{append_assoc, refl}
use Rattle.sq_text.specs.Show.{airborne_lines}
use Rattle.sq_text.proofs.show.push_airborne.Goals as goal

pub returns : goal.returns
returns c = (
  airborne_lines c.args.airborne.now c.altitude.result,
  (c.altitude.result, c.altitude.ensures, refl),
  rw (
    c.push_place.ensures,
    c.push_flag-2.ensures.bytes,
    c.push_altitude.ensures.bytes,
    c.push_flag.ensures.bytes,
    c.push_number-2.ensures.bytes,
    c.push_line.ensures.bytes,
    c.push_number.ensures.bytes,
    c.from.ensures,
    c.from-2.ensures,
    c.type_code.ensures.value,
    c.status.ensures.value,
    c.flag.ensures,
    c.time.ensures,
  ) (simp append_assoc refl),
)
