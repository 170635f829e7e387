-- The number of longitude zones at a latitude (NL): RTCA DO-260B, section 2.2.3.2 and the appendix on compact
-- position reporting; ICAO Doc 9871. The standard gives NL by a formula and by a table of transition latitudes. The
-- definition here is the table with its rounded entries. A latitude that equals an entry has the larger count.
use Rattle.std.specs.Prelude.{ℕ, ◌+◌, ◌-◌, ◌*◌, ◌^◌, max, Bool, pos, List, [], ◌∷◌, nat_le, count_by, unsigned_abs}
use Rattle.sq_angle.specs.Fraction.{Fraction}
use Rattle.sq_zones.specs.declared.parity.Parity.{Parity}
use Rattle.sq_zones.specs.declared.parity.Parity.TheVariants.{Even, Odd}

-- The greatest latitude with 59 zones, with 58 and so on down to 2, in units of 10^-8 degree.
unfoldable pub zone_limits : List ℕ
zone_limits =
    1047047130 ∷ 1482817437 ∷ 1818626357 ∷ 2102939493 ∷ 2354504487 ∷ 2582924707 ∷ 2793898710 ∷ 2991135686 ∷
    3177209708 ∷ 3353993436 ∷ 3522899598 ∷ 3685025108 ∷ 3841241892 ∷ 3992256684 ∷ 4138651832 ∷ 4280914012 ∷
    4419454951 ∷ 4554626723 ∷ 4686733252 ∷ 4816039128 ∷ 4942776439 ∷ 5067150166 ∷ 5189342469 ∷ 5309516153 ∷
    5427817472 ∷ 5544378444 ∷ 5659318756 ∷ 5772747354 ∷ 5884763776 ∷ 5995459277 ∷ 6104917774 ∷ 6213216659 ∷
    6320427479 ∷ 6426616523 ∷ 6531845310 ∷ 6636171008 ∷ 6739646774 ∷ 6842322022 ∷ 6944242631 ∷ 7045451075 ∷
    7145986473 ∷ 7245884545 ∷ 7345177442 ∷ 7443893416 ∷ 7542056257 ∷ 7639684391 ∷ 7736789461 ∷ 7833374083 ∷
    7929428225 ∷ 8024923213 ∷ 8119801349 ∷ 8213956981 ∷ 8307199445 ∷ 8399173563 ∷ 8489166191 ∷ 8575541621 ∷
    8653536998 ∷ 8700000000 ∷
    []

-- a limit in units of 10^-8 degree, as a fraction of degrees
abbrev pub limit_at : ℕ → Fraction
limit_at limit = record { num = pos limit; den = 10 ^ 8 }

-- whether the magnitude of the latitude is at most the limit, with the denominators multiplied out
abbrev pub is_at_most : Fraction → ℕ → Bool
is_at_most lat limit = nat_le (unsigned_abs lat.num * 10 ^ 8) (limit * lat.den)

-- the zone count (NL): 1, plus one for each limit that is at least the magnitude of the latitude
unfoldable pub zones_at : Fraction → ℕ
zones_at lat = 1 + count_by (λ limit. is_at_most lat limit) zone_limits

-- 0 for even and 1 for odd
abbrev pub parity_index : Parity → ℕ
parity_index Even = 0
parity_index Odd = 1

-- the number of longitude zones of a parity: the zone count, one less for odd, and at least one
abbrev pub lon_zones_at : Parity → Fraction → ℕ
lon_zones_at parity lat = max (zones_at lat - parity_index parity) 1
