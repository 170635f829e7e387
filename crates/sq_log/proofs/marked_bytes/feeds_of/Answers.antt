use Rattle.std.proofs.Common.{◌≡◌, ◌∙◌, ap, eqb, length, map, sym, subst, take, arith, w8}
use Rattle.std.specs.Simd.Lanes.{mask_l}
use Rattle.std.proofs.lemmas.List.{take_all}
use Rattle.std.proofs.lemmas.Simd.{bitmask_splat}
use Rattle.sq_log.specs.Lines.{MarksFeeds}
use Rattle.sq_log.proofs.FeedMarks.{marks_lanes}
use Rattle.sq_log.proofs.marked_bytes.feeds_of.Goals as goal

pub returns : goal.returns
returns c =
    let bytes = c.args.bytes.now in
    let whole : take 64 bytes ≡ bytes = take_all 64 bytes (omega (arith, c.requires)) in
    subst (λ m. MarksFeeds m bytes)
    (sym (bitmask_splat w8 eqb (take 64 bytes) 64 10 (ap length whole ∙ c.requires) (omega arith)))
    (subst (MarksFeeds (mask_l (map (λ x. eqb x 10) (take 64 bytes)))) whole (marks_lanes (take 64 bytes)))
