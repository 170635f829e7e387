use Rattle.std.proofs.Common.{◌≡◌, arith}
use Rattle.sq_message.proofs.place.place_pair.Goals as goal

pub returns-in-Airborne-Airborne : goal.returns-in-Airborne-Airborne
returns-in-Airborne-Airborne c =
    let same : c.args.older.now.address ≡ c.args.newer.now.address = omega arith in
    rw (c.in-Airborne-Airborne.is-0, c.in-Airborne-Airborne.is-1) (record {
      not_positions = λ none. absurd (none (tt, tt));
      other_address = λ both differ. absurd (differ same);
      same_address = λ both equal. c.air_pair.ensures;
    })

pub returns-in-Surface-Surface : goal.returns-in-Surface-Surface
returns-in-Surface-Surface c =
    let same : c.args.older.now.address ≡ c.args.newer.now.address = omega arith in
    rw (c.in-Surface-Surface.is-0, c.in-Surface-Surface.is-1) (record {
      not_positions = λ none. absurd (none (tt, tt));
      other_address = λ both differ. absurd (differ same);
      same_address = λ both equal. c.ground_pair.ensures;
    })
