-- Values with the same parts are equal.
use Rattle.std.proofs.Common.{◌≡◌, ◌/◌, ◌<◌, ◌^◌, Bool, true, false, refl}
use Rattle.std.proofs.Props.{props}
use mathlib.Core.HLevel.{is_prop→PathP}
use Rattle.sq_message.specs.TypeCodes.{IsAirCode, IsGroundCode, IsOtherCode}
use Rattle.sq_message.specs.Spelling.{bit}
use Rattle.sq_zones.specs.Zones.{parity_index}
use Rattle.sq_message.specs.declared.air.AirFields.{AirFields}
use Rattle.sq_message.specs.declared.ground.GroundFields.{GroundFields}
use Rattle.sq_message.specs.declared.other.Other.{Other}
use Rattle.sq_zones.specs.declared.parity.Parity.{Parity}
use Rattle.sq_zones.specs.declared.parity.Parity.TheVariants.{Even, Odd}
use Rattle.sq_message.specs.declared.squitter.Squitter.{Squitter}

pub same_bit : (a b : Bool) → bit a ≡ bit b → a ≡ b
same_bit true true e = refl
same_bit true false e = cc
same_bit false true e = cc
same_bit false false e = refl

pub same_parity : (a b : Parity) → parity_index a ≡ parity_index b → a ≡ b
same_parity Even Even e = refl
same_parity Even Odd e = cc
same_parity Odd Even e = cc
same_parity Odd Odd e = refl

pub same_air_fields : (a b : AirFields) → a.type_code ≡ b.type_code → a.status ≡ b.status → a.flag ≡ b.flag
    → a.altitude ≡ b.altitude → a.time ≡ b.time → a ≡ b
same_air_fields a b type_code status flag altitude time =
    λ i. record {
      type_code = type_code i;
      status = status i;
      flag = flag i;
      altitude = altitude i;
      time = time i;
      type_code_in = is_prop→PathP (λ j. IsAirCode (type_code j)) (λ j. hlevel props) a.type_code_in b.type_code_in i;
      status_in = is_prop→PathP (λ j. status j < 4) (λ j. hlevel props) a.status_in b.status_in i;
      altitude_in = is_prop→PathP (λ j. altitude j < 4096) (λ j. hlevel props) a.altitude_in b.altitude_in i;
    }

pub same_ground_fields : (a b : GroundFields) → a.type_code ≡ b.type_code → a.movement ≡ b.movement
    → a.track_status ≡ b.track_status → a.track ≡ b.track → a.time ≡ b.time → a ≡ b
same_ground_fields a b type_code movement track_status track time =
    λ i. record {
      type_code = type_code i;
      movement = movement i;
      track_status = track_status i;
      track = track i;
      time = time i;
      type_code_in = is_prop→PathP (λ j. IsGroundCode (type_code j))
          (λ j. hlevel props) a.type_code_in b.type_code_in i;
      movement_in = is_prop→PathP (λ j. movement j < 128) (λ j. hlevel props) a.movement_in b.movement_in i;
      track_in = is_prop→PathP (λ j. track j < 128) (λ j. hlevel props) a.track_in b.track_in i;
    }

pub same_other : (a b : Other) → a.raw ≡ b.raw → a ≡ b
same_other a b raw =
    λ i. record {
      raw = raw i;
      raw_in = is_prop→PathP (λ j. raw j < 2 ^ 56) (λ j. hlevel props) a.raw_in b.raw_in i;
      type_code_in = is_prop→PathP (λ j. IsOtherCode (raw j / 2 ^ 51))
          (λ j. hlevel props) a.type_code_in b.type_code_in i;
    }

pub same_squitter : (a b : Squitter) → a.ca ≡ b.ca → a.address ≡ b.address → a.me ≡ b.me → a ≡ b
same_squitter a b ca address me =
    λ i. record {
      ca = ca i;
      address = address i;
      me = me i;
      ca_in = is_prop→PathP (λ j. ca j < 8) (λ j. hlevel props) a.ca_in b.ca_in i;
      address_in = is_prop→PathP (λ j. address j < 2 ^ 24) (λ j. hlevel props) a.address_in b.address_in i;
    }
