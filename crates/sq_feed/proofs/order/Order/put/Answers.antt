use Rattle.std.proofs.Common.{◌≡◌, ◌-◌, ◌∙◌, ap, arith, drop, length, take}
use Rattle.std.proofs.lemmas.List.{length-drop, take_all}
use Rattle.sq_feed.specs.Orders.{Sorting, place_of, with_one}
use Rattle.sq_feed.proofs.Ordering.{not_later, put_view}
use Rattle.sq_feed.proofs.order.Order.put.Goals as goal

pub returns-in-Ok-clause-ok : goal.returns-in-Ok-clause-ok
returns-in-Ok-clause-ok g c =
    let one = c.args.one.now in
    let first = c.make_room-self-inside.result in
    let line = c.make_room-self-inside.new.line.items in
    let all = c.deref.result.now in
    let rest : take (length all - first) (drop first all) ≡ drop first all =
    take_all (length all - first) (drop first all) (omega (arith, length-drop first all)) in
    let old : Sorting = record {
      reorder = c.self.inside.reorder;
      latest = c.self.inside.latest;
      given = c.self.inside.given;
      late = c.self.inside.late;
      held = drop c.self.inside.first c.self.inside.line.items;
    } in
    put_view one old c.max-self-inside.result first c.place_of.result line
    c.insert_at.new.line.items (not_later one.moment c.self.inside.given (omega (arith, c.if-one-self.false)))
    c.max-self-inside.ensures c.make_room-self-inside.ensures.kept c.make_room-self-inside.ensures.within
    (c.place_of.ensures.value ∙ ap (place_of one.moment) (rest ∙ ap (drop first) c.deref.ensures.value))
    c.in-Ok.ensures.ok
    ∙ ap (with_one one) c.self.view_is
