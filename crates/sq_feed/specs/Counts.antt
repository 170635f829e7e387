-- Counts of items, by what became of each.
use Rattle.std.specs.Prelude.{◌≡◌, ◌==◌, ◌+◌, ◌-◌, ◌^◌, ℕ, List, min, nat_lt, replicate, slice_index, slice_set, sum, if◌then◌else◌}
use Rattle.sq_feed.specs.declared.counts.Fate.{Fate}
use Rattle.sq_feed.specs.declared.counts.Fate.TheVariants.{Written, OtherFormat, ModeAc, Multilaterated, ReceiverId, Damaged, Aside}

-- How many items were found and, of these: written, replies of Mode A/C, multilaterated, ids of receivers, damaged, set
-- aside, and of each downlink format but 17. Formats from 24 up are one.
pub record Tally : Type 0 where
  pub found : ℕ
  pub written : ℕ
  pub mode_ac : ℕ
  pub multilaterated : ℕ
  pub receiver_ids : ℕ
  pub damaged : ℕ
  pub aside : ℕ
  pub formats : List ℕ

abbrev pub nothing_counted : Tally
nothing_counted = record {
  found = 0;
  written = 0;
  mode_ac = 0;
  multilaterated = 0;
  receiver_ids = 0;
  damaged = 0;
  aside = 0;
  formats = replicate 25 0;
}

-- each item is counted under exactly one fate
abbrev pub AddsUp : Tally → Type 0
AddsUp tally =
    tally.written + tally.mode_ac + tally.multilaterated + tally.receiver_ids + tally.damaged + tally.aside
    + sum tally.formats
    ≡ tally.found

abbrev pub one_more : List ℕ → ℕ → List ℕ
one_more counts k = slice_set counts k (slice_index counts k + 1)

abbrev pub counted_as : Tally → Fate → Tally
counted_as tally Written = record tally { found = tally.found + 1; written = tally.written + 1 }
counted_as tally (OtherFormat format) =
    record tally { found = tally.found + 1; formats = one_more tally.formats (min format 24) }
counted_as tally ModeAc = record tally { found = tally.found + 1; mode_ac = tally.mode_ac + 1 }
counted_as tally Multilaterated = record tally { found = tally.found + 1; multilaterated = tally.multilaterated + 1 }
counted_as tally ReceiverId = record tally { found = tally.found + 1; receiver_ids = tally.receiver_ids + 1 }
counted_as tally Damaged = record tally { found = tally.found + 1; damaged = tally.damaged + 1 }
counted_as tally Aside = record tally { found = tally.found + 1; aside = tally.aside + 1 }

-- The counts after an item. At 2^64 - 1 items they stop.
abbrev pub counted : Tally → Fate → Tally
counted tally fate = if tally.found == 2 ^ 64 - 1 then tally else counted_as tally fate

-- the counts after these numbers of rows were written and set aside
abbrev pub counted_rows : Tally → (written aside : ℕ) → Tally
counted_rows tally written aside =
    if nat_lt (2 ^ 64 - 1) (tally.found + written + aside) then tally
    else record tally {
      found = tally.found + written + aside;
      written = tally.written + written;
      aside = tally.aside + aside;
    }
