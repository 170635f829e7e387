use Rattle.std.proofs.Common.{◌≡◌, ◌-◌, ◌+◌, ◌<◌, ◌∙◌, List, ap, arith, cond, eqb, length, map, subst, sym}
use Rattle.std.specs.List.{swap_remove}
use Rattle.sq_track.specs.Ordered.{others_than}
use Rattle.sq_track.specs.Ring.{IsLinking, IsRound, after_at, before_at, renamed, round}
use Rattle.sq_track.specs.declared.links.Neighbours.{Neighbours}
use Rattle.sq_track.proofs.Table.LinkLemmas.{written_back}
use Rattle.sq_track.proofs.Table.RoundLemmas.{after_within, taken_out}
use Rattle.sq_track.proofs.links.take_out.Given.{Over}
use Rattle.sq_track.proofs.links.take_out.Goals as goal

pub rename_last-requires-clause-after : goal.rename_last-requires-clause-after
rename_last-requires-clause-after g c =
    let ls = c.args.links.now.items in
    let ms = c.pass_over.new.links in
    let two : c.deref_mut-2.result.now ≡ ms = c.deref_mut-2.ensures.value
    ∙ written_back ms _ c.args.links.now.len (sym c.deref_mut.ensures.len ∙ sym c.pass_over.ensures.long) in
    let over = subst (λ l. IsLinking (before_at l c.args.at) (after_at l c.args.at) l ms) c.deref_mut.ensures.value
    c.pass_over.ensures in
    subst (λ d. after_at d (c.len.result - 1) < length d) (sym two)
    (after_within ls ms c.args.at (c.len.result - 1) c.requires.on_round.within
    (omega (
      arith,
      c.requires.on_round.within,
      c.len.ensures,
      c.deref_mut.ensures.len,
      ap length c.deref_mut.ensures.value,
    ))
    c.requires.on_round.is_round.forward over)

-- the round after the index was removed
out : (g : Over) (c : goal.After-new_name g)
    → IsRound c.swap_remove.new.self.items (renamed c.args.at (c.len.result - 1) c.first_without-first.result)
    × (round c.swap_remove.new.self.items (renamed c.args.at (c.len.result - 1) c.first_without-first.result)
    ≡ map (renamed c.args.at (c.len.result - 1)) (others_than c.args.at (round c.args.links.now.items c.args.oldest)))
out g c =
    let ls = c.args.links.now.items in
    let ms = c.pass_over.new.links in
    let ns = c.rename_last.new.links in
    let at = c.args.at in
    let last = c.len.result - 1 in
    let held : c.args.links.now.len ≡ length ms = sym c.deref_mut.ensures.len ∙ sym c.pass_over.ensures.long in
    let back = written_back ms _ c.args.links.now.len held in
    let two : c.deref_mut-2.result.now ≡ ms = c.deref_mut-2.ensures.value ∙ back in
    let three : c.args.links.now.len ≡ length ns = held ∙ sym (ap length two) ∙ sym c.rename_last.ensures.len in
    let over = subst (λ l. IsLinking (before_at l at) (after_at l at) l ms) c.deref_mut.ensures.value
    c.pass_over.ensures in
    let long : length ls ≡ last + 1 =
    omega (
      arith,
      c.requires.on_round.within,
      c.len.ensures,
      c.deref_mut.ensures.len,
      ap length c.deref_mut.ensures.value,
    ) in
    taken_out ls ms ns c.swap_remove.new.self.items c.args.oldest at last c.first_without-first.result
    c.swap_remove.result long c.requires.on_round
    (c.first_without-first.ensures
    ∙ ap (λ l. cond (eqb c.args.oldest at) (after_at l at) c.args.oldest) c.deref.ensures.value) over
    (λ e. c.rename_last.ensures.same e ∙ two)
    (subst (λ d. (at ≡ last → ⊥)
    → (mid : List Neighbours) × IsLinking (before_at d last) at d mid × IsLinking at (after_at d last) mid ns) two
    c.rename_last.ensures.links)
    (c.swap_remove.ensures.items
    ∙ ap (λ l. swap_remove l at c.swap_remove.result) (written_back ns _ c.args.links.now.len three))
    (omega (arith, c.swap_remove.ensures.len, c.swap_remove.new.self.ok.0, c.len.ensures))

pub returns-clause-round : goal.returns-clause-round
returns-clause-round g c = subst (IsRound c.swap_remove.new.self.items) (sym c.new_name.ensures) (out g c).0

pub returns-clause-order : goal.returns-clause-order
returns-clause-order g c =
    ap (round c.swap_remove.new.self.items) c.new_name.ensures ∙ (out g c).1
    ∙ ap (λ n. map (renamed c.args.at (n - 1)) (others_than c.args.at (round c.args.links.now.items c.args.oldest)))
    (c.len.ensures ∙ sym c.deref_mut.ensures.len ∙ ap length c.deref_mut.ensures.value)
