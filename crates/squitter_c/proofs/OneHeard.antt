-- A result has at most one plain form.
use Rattle.std.proofs.Common.{◌≡◌, ◌∙◌, ℕ, sym}
use Rattle.sq_track.specs.declared.heard.Heard.TheVariants.{Fix, Followed, Waiting, Split, Far, NoSite, NotPosition}
use Rattle.squitter_c.specs.declared.heard.PlainHeard.{PlainHeard}
use Rattle.squitter_c.specs.Heard.{HasNoPlace, IsHeardAs}
use Rattle.squitter_c.specs.OneValues.{OneHeard}
use Rattle.squitter_c.proofs.OnePlain.{one_lowest_place}

-- results of one kind with one position are equal
heard_as : (which first second : ℕ) (x y : PlainHeard) → IsHeardAs which first second x
    → IsHeardAs which first second y → x.position ≡ y.position → x ≡ y
heard_as which first second x y h k position =
    let what = h.what ∙ sym k.what in
    let even = h.even ∙ sym k.even in
    let odd = h.odd ∙ sym k.odd in
    λ i. record { position = position i; what = what i; even = even i; odd = odd i }

-- there is only one plain form of no position
nowhere : (x y : PlainHeard) → HasNoPlace x → HasNoPlace y → x.position ≡ y.position
nowhere x y h k =
    let north = h.lat.0 ∙ sym k.lat.0 in
    let norths = h.lat.1 ∙ sym k.lat.1 in
    let east = h.lon.0 ∙ sym k.lon.0 in
    let easts = h.lon.1 ∙ sym k.lon.1 in
    λ i. record {
      lat = record { num = north i; den = norths i };
      lon = record { num = east i; den = easts i };
    }

pub one_heard : OneHeard
one_heard (Fix place) x y h k =
    heard_as 1 0 0 x y h.0 k.0 (one_lowest_place place x.position y.position h.1 k.1)
one_heard (Followed place) x y h k =
    heard_as 2 0 0 x y h.0 k.0 (one_lowest_place place x.position y.position h.1 k.1)
one_heard Waiting x y h k = heard_as 3 0 0 x y h.0 k.0 (nowhere x y h.1 k.1)
one_heard (Split even odd) x y h k = heard_as 4 even odd x y h.0 k.0 (nowhere x y h.1 k.1)
one_heard Far x y h k = heard_as 5 0 0 x y h.0 k.0 (nowhere x y h.1 k.1)
one_heard NoSite x y h k = heard_as 6 0 0 x y h.0 k.0 (nowhere x y h.1 k.1)
one_heard NotPosition x y h k = heard_as 7 0 0 x y h.0 k.0 (nowhere x y h.1 k.1)
