-- Squitters, and squitters with their timestamps, are equal by `==` exactly if they are the same.
use Rattle.std.proofs.Common.{◌≡◌, ◌↔◌, ◌&&◌, eqb, IsTrue, Bool, true, false, ap, refl, rules, subst}
use Rattle.std.proofs.Math.Bool.{beq}
use Rattle.std.proofs.lemmas.Bool.{and_from, and_parts, eq-eqb, eqb-true}
use Rattle.std.specs.Cmp.Rules.{comparing}
use Rattle.sq_zones.specs.declared.parity.Parity.{Parity}
use Rattle.sq_zones.specs.declared.parity.Parity.TheVariants.{Even, Odd}
use Rattle.sq_zones.specs.contracts.parity.ParityPartialEq.TheImpl.{ghosts as parities}
use Rattle.sq_cpr.specs.declared.code.Code.{Code}
use Rattle.sq_cpr.specs.contracts.code.CodePartialEq.TheImpl.{ghosts as codes}
use Rattle.sq_cpr.proofs.Grids.SameCode.{same_code}
use Rattle.sq_message.specs.declared.air.AirFields.{AirFields}
use Rattle.sq_message.specs.declared.message.PositionMessage.{PositionMessage}
use Rattle.sq_message.specs.declared.ground.GroundFields.{GroundFields}
use Rattle.sq_message.specs.declared.head.Head.{Head}
use Rattle.sq_message.specs.declared.received.Received.{Received}
use Rattle.sq_message.specs.declared.squitter.Me.{Me}
use Rattle.sq_message.specs.declared.squitter.Me.TheVariants as kinds
use Rattle.sq_message.specs.declared.squitter.Squitter.{Squitter}
use Rattle.sq_message.specs.contracts.air.AirFieldsPartialEq.TheImpl.{ghosts as air_fields}
use Rattle.sq_message.specs.contracts.ground.GroundFieldsPartialEq.TheImpl.{ghosts as ground_fields}
use Rattle.sq_message.specs.contracts.received.ReceivedPartialEq.TheImpl.{ghosts as moments}
use Rattle.sq_message.specs.contracts.squitter.MePartialEq.TheImpl.{ghosts as mes}
use Rattle.sq_message.specs.contracts.squitter.SquitterPartialEq.TheImpl.{ghosts as squitters}
use Rattle.sq_message.proofs.Same.{same_air_fields, same_ground_fields, same_other, same_squitter}

one_bit : (a b : Bool) → beq a b ≡ true → a ≡ b
one_bit true true h = refl
one_bit true false h = absurd (cc h)
one_bit false true h = absurd (cc h)
one_bit false false h = refl

one_parity : (p q : Parity) → parities.eq p q ≡ true → p ≡ q
one_parity Even Even h = refl
one_parity Even Odd h = absurd (cc h)
one_parity Odd Even h = absurd (cc h)
one_parity Odd Odd h = refl

parity_itself : (p : Parity) → parities.eq p p ≡ true
parity_itself Even = refl
parity_itself Odd = refl

one_code : (a b : Code) → codes.eq a b ≡ true → a ≡ b
one_code a b h = let p = and_parts _ _ h in same_code a b (eqb-true a.lat b.lat p.0) (eqb-true a.lon b.lon p.1)

code_itself : (a : Code) → codes.eq a a ≡ true
code_itself a = search (comparing, rules)

one_air_fields : (a b : AirFields) → air_fields.eq a b ≡ true → a ≡ b
one_air_fields a b h =
    let p = and_parts _ _ h in
    let q = and_parts _ _ p.1 in
    let r = and_parts _ _ q.1 in
    let s = and_parts _ _ r.1 in
    same_air_fields a b (eqb-true a.type_code b.type_code p.0) (eqb-true a.status b.status q.0)
    (one_bit a.flag b.flag r.0) (eqb-true a.altitude b.altitude s.0) (one_bit a.time b.time s.1)

air_fields_itself : (a : AirFields) → air_fields.eq a a ≡ true
air_fields_itself a = search (comparing, rules)

one_ground_fields : (a b : GroundFields) → ground_fields.eq a b ≡ true → a ≡ b
one_ground_fields a b h =
    let p = and_parts _ _ h in
    let q = and_parts _ _ p.1 in
    let r = and_parts _ _ q.1 in
    let s = and_parts _ _ r.1 in
    same_ground_fields a b (eqb-true a.type_code b.type_code p.0) (eqb-true a.movement b.movement q.0)
    (one_bit a.track_status b.track_status r.0) (eqb-true a.track b.track s.0) (one_bit a.time b.time s.1)

ground_fields_itself : (a : GroundFields) → ground_fields.eq a a ≡ true
ground_fields_itself a = search (comparing, rules)

-- if `==` is exact for fields, it is exact for positions
module _ {Fields : Type 0} (eq : Fields → Fields → Bool) where
  abbrev same : (a b : PositionMessage Fields) → Bool
  same a b = parities.eq a.parity b.parity && (codes.eq a.code b.code && eq a.fields b.fields)

  one_position : ((x y : Fields) → eq x y ≡ true → x ≡ y) → (a b : PositionMessage Fields) → same a b ≡ true → a ≡ b
  one_position one a b h =
      let p = and_parts (parities.eq a.parity b.parity) _ h in
      let q = and_parts (codes.eq a.code b.code) (eq a.fields b.fields) p.1 in
      let parity = one_parity a.parity b.parity p.0 in
      let code = one_code a.code b.code q.0 in
      let fields = one a.fields b.fields q.1 in
      λ i. record { parity = parity i; code = code i; fields = fields i }

  position_itself : ((x : Fields) → eq x x ≡ true) → (a : PositionMessage Fields) → same a a ≡ true
  position_itself itself a =
      and_from _ _ (parity_itself a.parity) (and_from _ _ (code_itself a.code) (itself a.fields))

one_me : (a b : Me) → mes.eq a b ≡ true → a ≡ b
one_me (kinds.Airborne a) (kinds.Airborne b) h = ap kinds.Airborne (one_position air_fields.eq one_air_fields a b h)
one_me (kinds.Airborne a) (kinds.Surface b) h = absurd (cc h)
one_me (kinds.Airborne a) (kinds.Other b) h = absurd (cc h)
one_me (kinds.Surface a) (kinds.Airborne b) h = absurd (cc h)
one_me (kinds.Surface a) (kinds.Surface b) h = ap kinds.Surface (one_position ground_fields.eq one_ground_fields a b h)
one_me (kinds.Surface a) (kinds.Other b) h = absurd (cc h)
one_me (kinds.Other a) (kinds.Airborne b) h = absurd (cc h)
one_me (kinds.Other a) (kinds.Surface b) h = absurd (cc h)
one_me (kinds.Other a) (kinds.Other b) h = ap kinds.Other (same_other a b (eqb-true a.raw b.raw h))

me_itself : (a : Me) → mes.eq a a ≡ true
me_itself (kinds.Airborne a) = position_itself air_fields.eq air_fields_itself a
me_itself (kinds.Surface a) = position_itself ground_fields.eq ground_fields_itself a
me_itself (kinds.Other a) = eq-eqb a.raw a.raw refl

one_squitter : (a b : Squitter) → squitters.eq a b ≡ true → a ≡ b
one_squitter a b h =
    let p = and_parts _ _ h in
    let q = and_parts _ (mes.eq a.me b.me) p.1 in
    same_squitter a b (eqb-true a.ca b.ca p.0) (eqb-true a.address b.address q.0) (one_me a.me b.me q.1)

squitter_itself : (a : Squitter) → squitters.eq a a ≡ true
squitter_itself a =
    and_from _ _ (eq-eqb a.ca a.ca refl) (and_from _ _ (eq-eqb a.address a.address refl) (me_itself a.me))

one_received : (a b : Received) → moments.eq a b ≡ true → a ≡ b
one_received a b h =
    let p = and_parts _ (squitters.eq a.squitter b.squitter) h in
    let moment = eqb-true a.moment b.moment p.0 in
    let squitter = one_squitter a.squitter b.squitter p.1 in
    λ i. record { moment = moment i; squitter = squitter i }

received_itself : (a : Received) → moments.eq a a ≡ true
received_itself a = and_from _ _ (eq-eqb a.moment a.moment refl) (squitter_itself a.squitter)

pub equal_received : (a b : Received) → IsTrue (moments.eq a b) ↔ (a ≡ b)
equal_received a b = (one_received a b, λ e. subst (λ x. moments.eq a x ≡ true) e (received_itself a))

abbrev pub are_equal : {Fields : Type 0} → (Fields → Fields → Bool) → (a b : Head Fields) → Bool
are_equal eq a b = eqb a.ca b.ca && (eqb a.address b.address && eq a.fields b.fields)

-- if `==` is exact for fields, it is exact for heads
equal_heads : {Fields : Type 0} (eq : Fields → Fields → Bool) → ((x y : Fields) → eq x y ≡ true → x ≡ y)
    → ((x : Fields) → eq x x ≡ true) → (a b : Head Fields) → IsTrue (are_equal eq a b) ↔ (a ≡ b)
equal_heads eq one itself a b = (same, λ e. subst (λ x. are_equal eq a x ≡ true) e whole)
  where
    same : are_equal eq a b ≡ true → a ≡ b
    same h =
        let p = and_parts (eqb a.ca b.ca) _ h in
        let q = and_parts (eqb a.address b.address) (eq a.fields b.fields) p.1 in
        let ca = eqb-true a.ca b.ca p.0 in
        let address = eqb-true a.address b.address q.0 in
        let fields = one a.fields b.fields q.1 in
        λ i. record { ca = ca i; address = address i; fields = fields i }

    whole : are_equal eq a a ≡ true
    whole = and_from _ _ (eq-eqb a.ca a.ca refl) (and_from _ _ (eq-eqb a.address a.address refl) (itself a.fields))

pub equal_air_heads : (a b : Head AirFields) → IsTrue (are_equal air_fields.eq a b) ↔ (a ≡ b)
equal_air_heads a b = equal_heads air_fields.eq one_air_fields air_fields_itself a b

pub equal_ground_heads : (a b : Head GroundFields) → IsTrue (are_equal ground_fields.eq a b) ↔ (a ≡ b)
equal_ground_heads a b = equal_heads ground_fields.eq one_ground_fields ground_fields_itself a b
