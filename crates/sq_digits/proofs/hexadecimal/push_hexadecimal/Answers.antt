use Rattle.std.proofs.Common.{refl, arith, append_assoc}
use Rattle.sq_digits.proofs.Places.{place_more}
use Rattle.sq_digits.proofs.hexadecimal.push_hexadecimal.Goals as goal

pub loop-place-preserved : goal.loop-place-preserved
loop-place-preserved g c = record {
  bytes =
      rw (
        c.push_nibble.ensures.bytes,
        c.loop-place.invariant.bytes,
        place_more c.args.number c.args.places c.loop-place.place c.loop-place-test.true,
      )
      (simp append_assoc refl);
  len = omega (arith, c.push_nibble.ensures.len, c.loop-place.invariant.len);
}
