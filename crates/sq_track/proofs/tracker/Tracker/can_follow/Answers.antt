use Rattle.std.proofs.Common.{eqb, arith, refl, sym, subst, ◌∙◌}
use Rattle.std.proofs.lemmas.Bool.{false≢true, leb-true, le-leb}
use Rattle.std.specs.Map.{lookup}
use Rattle.sq_track.specs.Held.{Held}
use Rattle.sq_track.specs.Restoring.{CanFollow}
use Rattle.sq_track.specs.contracts.tracker.Tracker.{the_view}
use Rattle.sq_track.proofs.Table.RestoreLemmas.{newest_before, none_of, ordered_to_newest}
use Rattle.sq_track.proofs.tracker.Tracker.can_follow.Goals as goal

pub returns-clause-yes : goal.returns-clause-yes
returns-clause-yes g c = λ le.
    let t : Held = the_view g.row.A g.A.Allocator c.self.inside in
    subst (λ (v : Held). CanFollow v c.args.address c.args.contact.now) c.self.view_is
    (record {
      room = omega (arith, c.if-len-self.false, c.len.ensures.len);
      absent = none_of (lookup (eqb c.args.address) t.contacts) (sym c.contains.ensures ∙ c.if-contains.false);
      own = sym c.is_contact_of.ensures ∙ c.if-not-is_contact_of.false;
      placed = c.if-not-are_fixes_placed.ensures.yes refl;
      present = sym c.is_present_at.ensures ∙ c.if-not-is_present_at.false;
      later = ordered_to_newest 0 _ c.args.contact.now.moment c.newest_moment.result t.contacts
          c.self.invariant.0.ordered c.newest_moment.ensures.last
          (leb-true c.newest_moment.result c.args.contact.now.moment le) (omega arith);
    })

pub returns-clause-no : goal.returns-clause-no
returns-clause-no g c = λ gt can.
    let t : Held = the_view g.row.A g.A.Allocator c.self.inside in
    let there : CanFollow t c.args.address c.args.contact.now =
    subst (λ (v : Held). CanFollow v c.args.address c.args.contact.now) (sym c.self.view_is) can in
    false≢true (sym gt ∙ le-leb c.newest_moment.result c.args.contact.now.moment
    (newest_before c.args.contact.now.moment c.newest_moment.result t.contacts there.later c.newest_moment.ensures.none
    c.newest_moment.ensures.last))
