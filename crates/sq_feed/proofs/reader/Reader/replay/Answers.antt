use Rattle.std.proofs.Common.{◌∙◌, ap, arith, refl, rules}
use Rattle.sq_feed.specs.declared.reader.Stage.TheVariants.{Reading}
use Rattle.sq_feed.specs.Readers.{Reads}
use Rattle.sq_feed.proofs.Sourced.{replay_done, replay_more}
use Rattle.sq_feed.proofs.reader.Reader.replay.Goals as goal

pub returns-then-self-held-clause-follows : goal.returns-then-self-held-clause-follows
returns-then-self-held-clause-follows c =
    replay_done c.args.self.now (record {
      asked = c.self.inside.asked;
      stage = Reading;
      finder = c.self.inside.finder;
      at = c.self.inside.at;
      machine = c.self.inside.machine;
    }) c.requires refl (ap (λ (v : Reads). v.machine) c.self.view_is) (search rules)

pub returns-clause-follows : goal.returns-clause-follows
returns-clause-follows c =
    let same = c.read_held.ensures.same in
    replay_more c.args.self.now c.read_held.new.self c.args.self.now.finder.held _ c.requires
    (ap (λ (v : Reads). v.stage) same ∙ c.requires) refl (ap (λ (v : Reads). v.finder.held) same)
    (omega (arith, c.read_held.ensures.at.0)) c.read_held.ensures.follows
