-- The values that entries represent.
use Rattle.std.proofs.Common.{◌≡◌, Option, Some, None, nat_eq, true, refl, sym, ◌∙◌, ap}
use Rattle.sq_bits.specs.Frames.{field_of}
use Rattle.sq_message.specs.declared.squitter.Squitter.{Squitter}
use Rattle.sq_message.specs.Spelling.{Spells}
use Rattle.sq_message.proofs.One.{one_squitter}
use Rattle.sq_track.specs.declared.contact.Contact.{Contact}
use Rattle.sq_track.specs.declared.contact.LastFix.{LastFix}
use Rattle.sq_message.specs.declared.received.Received.{Received}
use Rattle.sq_track.specs.declared.contact.Side.{Side}
use Rattle.squitter_c.specs.declared.entry.PlainEntry.{PlainEntry}
use Rattle.squitter_c.specs.declared.entry.PlainFix.{PlainFix}
use Rattle.squitter_c.specs.declared.entry.PlainReceived.{PlainReceived}
use Rattle.squitter_c.specs.declared.entry.PlainSide.{PlainSide}
use Rattle.squitter_c.specs.Frames.{frame_of}
use Rattle.squitter_c.proofs.OnePlain.{is_position, one_of_degrees}
use Rattle.squitter_c.specs.Entries.{IsContactOf, IsFixOf, IsReceivedOf, IsSideOf, no_bytes}

-- a stored frame represents at most one squitter
pub one_received : (plain : PlainReceived) (a b : Option Received) → IsReceivedOf plain a → IsReceivedOf plain b → a ≡ b
one_received plain (Some a) (Some b) x y =
    let squitter = one_squitter (frame_of plain.frame) a.squitter b.squitter x.0 y.0 in
    let moment = x.1 ∙ sym y.1 in
    ap Some (λ i. record { moment = moment i; squitter = squitter i })
one_received plain (Some a) None x y = absurd (y a.squitter x.0)
one_received plain None (Some b) x y = absurd (x b.squitter y.0)
one_received plain None None x y = refl

-- a stored fix represents at most one fix
pub one_fix : (plain : PlainFix) (a b : Option LastFix) → IsFixOf plain a → IsFixOf plain b → a ≡ b
one_fix plain (Some a) (Some b) x y =
    let position = one_of_degrees plain.position a.position b.position x.0 y.0 in
    let moment = x.1 ∙ sym y.1 in
    ap Some (λ i. record { moment = moment i; position = position i })
one_fix plain (Some a) None x y = absurd (y (is_position plain.position a.position x.0))
one_fix plain None (Some b) x y = absurd (x (is_position plain.position b.position y.0))
one_fix plain None None x y = refl

pub one_side : (plain : PlainSide) (a b : Side) → IsSideOf plain a → IsSideOf plain b → a ≡ b
one_side plain a b x y =
    let even = one_received plain.even a.even b.even x.even y.even in
    let odd = one_received plain.odd a.odd b.odd x.odd y.odd in
    let fix = one_fix plain.fix a.fix b.fix x.fix y.fix in
    λ i. record { even = even i; odd = odd i; fix = fix i }

-- an entry represents at most one contact
pub one_contact : (plain : PlainEntry) (a b : Contact) → IsContactOf plain a → IsContactOf plain b → a ≡ b
one_contact plain a b x y =
    let moment = x.moment ∙ sym y.moment in
    let airborne = one_side plain.airborne a.airborne b.airborne x.airborne y.airborne in
    let surface = one_side plain.surface a.surface b.surface x.surface y.surface in
    λ i. record { moment = moment i; airborne = airborne i; surface = surface i }

-- a frame of zeros is not a squitter
pub nothing_spelled : (q : Squitter) → ¬ (Spells (frame_of no_bytes) q)
unfolding field_of
nothing_spelled q spells = let format : nat_eq 0 17 ≡ true = ap (λ n. nat_eq n 17) spells.format in absurd (cc)
