-- Storing a position changes neither its counterpart nor the last fix. Setting the last fix after it gives the same
-- as storing both at once.
use Rattle.std.proofs.Common.{◌≡◌, ap, refl, Option}
use Rattle.sq_zones.specs.declared.parity.Parity.{Parity}
use Rattle.sq_zones.specs.declared.parity.Parity.TheVariants.{Even, Odd}
use Rattle.sq_message.specs.declared.squitter.Me.{Me}
use Rattle.sq_message.specs.declared.squitter.Me.TheVariants as kinds
use Rattle.sq_message.specs.declared.received.Received.{Received}
use Rattle.sq_track.specs.declared.contact.LastFix.{LastFix}
use Rattle.sq_track.specs.declared.contact.Side.{Side}
use Rattle.sq_track.specs.declared.contact.Contact.{Contact}
use Rattle.sq_track.specs.Kept.{contact_with, fix_in, of_other_parity, pair_in, side_with, with_fix}

-- a new position leaves the one of the other parity unchanged
other_stays : (p : Parity) (frame : Received) (fix : Option LastFix) (side : Side)
    → of_other_parity p (side_with p frame fix side) ≡ of_other_parity p side
other_stays Even frame fix side = refl
other_stays Odd frame fix side = refl

pub pair_stays : (me : Me) (frame : Received) (fix : Option LastFix) (contact : Contact)
    → pair_in (contact_with me frame fix contact) me ≡ pair_in contact me
pair_stays (kinds.Airborne a) frame fix contact = other_stays a.parity frame fix contact.airborne
pair_stays (kinds.Surface a) frame fix contact = other_stays a.parity frame fix contact.surface
pair_stays (kinds.Other a) frame fix contact = refl

-- a side has the last fix that it was given
given_fix : (p : Parity) (frame : Received) (fix : Option LastFix) (side : Side)
    → (side_with p frame fix side).fix ≡ fix
given_fix Even frame fix side = refl
given_fix Odd frame fix side = refl

pub fix_stays : (me : Me) (frame : Received) (contact : Contact)
    → fix_in (contact_with me frame (fix_in contact me) contact) me ≡ fix_in contact me
fix_stays (kinds.Airborne a) frame contact = given_fix a.parity frame contact.airborne.fix contact.airborne
fix_stays (kinds.Surface a) frame contact = given_fix a.parity frame contact.surface.fix contact.surface
fix_stays (kinds.Other a) frame contact = refl

-- setting the last fix after a position gives the same as storing both at once
side_at_once : (p : Parity) (frame : Received) (old fix : Option LastFix) (side : Side)
    → record (side_with p frame old side) { fix = fix } ≡ side_with p frame fix side
side_at_once Even frame old fix side = refl
side_at_once Odd frame old fix side = refl

pub both_at_once : (me : Me) (frame : Received) (old fix : Option LastFix) (contact : Contact)
    → with_fix me fix (contact_with me frame old contact) ≡ contact_with me frame fix contact
both_at_once (kinds.Airborne a) frame old fix contact =
    ap (λ side. record contact { moment = frame.moment; airborne = side })
    (side_at_once a.parity frame old fix contact.airborne)
both_at_once (kinds.Surface a) frame old fix contact =
    ap (λ side. record contact { moment = frame.moment; surface = side })
    (side_at_once a.parity frame old fix contact.surface)
both_at_once (kinds.Other a) frame old fix contact = refl
