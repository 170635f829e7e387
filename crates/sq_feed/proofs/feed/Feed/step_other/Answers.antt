use Rattle.std.proofs.Common.{◌∙◌, [], ◌∷◌, ap, subst, sym, take}
use Rattle.std.specs.Prelude.{Option, option_to_list}
use Rattle.sq_feed.specs.declared.message.Found.{Found}
use Rattle.sq_feed.specs.Ears.{ear_after, told_of}
use Rattle.sq_feed.specs.Feeds.{Feeding, stored}
use Rattle.sq_feed.specs.Follows.{Follows}
use Rattle.sq_feed.specs.Readers.{Reads, awaited}
use Rattle.sq_feed.proofs.Feeding.{told_one}
use Rattle.sq_feed.proofs.feed.Feed.step_other.Goals as goal

pub returns-in-Some-clause-told : goal.returns-in-Some-clause-told
returns-in-Some-clause-told c =
    let piece = take c.take-taken.result.0 c.args.piece.now in
    told_one c.args.arrival c.args.self.now c.store_item-is_filled.new.self piece c.in-Some.found
    (stored c.store_item-is_filled.result c.store_item-is_filled.new.into) c.requires
    (ap (λ (r : Reads). r.asked) c.store_item-is_filled.ensures.reader ∙ c.take-taken.ensures.asked
    ∙ ap (λ (v : Feeding). v.reader.asked) c.self.view_is)
    (subst (λ (r : Reads). Follows (awaited c.args.self.now.reader) piece (c.in-Some.found ∷ []) (awaited r))
    (sym c.store_item-is_filled.ensures.reader)
    (subst (λ (v : Feeding). Follows (awaited v.reader) piece (c.in-Some.found ∷ []) (awaited c.take-taken.new.self))
    c.self.view_is
    (subst (λ (o : Option Found). Follows (awaited c.self.inside.reader) piece (option_to_list o)
    (awaited c.take-taken.new.self)) c.in-Some.is c.take-taken.ensures.follows)))
    (c.store_item-is_filled.ensures.heard
    ∙ ap (λ (v : Feeding). ear_after c.args.arrival v.ear c.in-Some.found) c.self.view_is)
    (c.store_item-is_filled.ensures.told
    ∙ ap (λ (v : Feeding). told_of c.args.arrival v.ear c.in-Some.found) c.self.view_is)
