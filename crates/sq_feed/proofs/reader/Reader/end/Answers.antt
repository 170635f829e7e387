use Rattle.std.proofs.Common.{◌∙◌, ap, arith, refl, rules}
use Rattle.sq_feed.specs.Readers.{Reads}
use Rattle.sq_feed.proofs.Sourced.{end_done, end_more}
use Rattle.sq_feed.proofs.reader.Reader.end.Goals as goal

pub returns-then-self-held-clause-follows : goal.returns-then-self-held-clause-follows
returns-then-self-held-clause-follows c =
    let same = c.read_held.ensures.same in
    end_more c.args.self.now c.read_held.new.self c.args.self.now.finder.held _ c.requires
    (ap (λ (v : Reads). v.stage) same ∙ c.requires) (ap (λ (v : Reads). v.asked) same) refl
    (ap (λ (v : Reads). v.finder.held) same) (omega (arith, c.read_held.ensures.at.0)) c.read_held.ensures.follows

pub returns-clause-follows : goal.returns-clause-follows
returns-clause-follows c =
    end_done c.args.self.now c.restart.new.self _ c.requires (search rules) (search rules) (search rules)
