use Rattle.std.proofs.Common.{◌++◌, ◌∷◌, [], Err, List, None, Ok, Some, ap, append-nil, length, refl, subst, sym, take, ℕ}
use Rattle.sq_log.specs.Logs.{HasHeard}
use Rattle.sq_log.proofs.Logs.{heard_all, heard_before, heard_line, heard_none}
use Rattle.sq_log.proofs.log.Log.step.Goals as goal

pub returns-then-taken-eq0-clause-stepped : goal.returns-then-taken-eq0-clause-stepped
returns-then-taken-eq0-clause-stepped g c start given lines answers h =
    let kept = c.take-taken.ensures.taken given lines h.kept in
    let none = c.has_feed.ensures.none c.if-not-has_feed.true in
    heard_all g.J.Job.how start _ given lines answers h _ c.args.piece.now c.take-taken.result refl refl refl kept
    c.if-taken-eq0.true none (c.take-taken.ensures.none c.if-taken-eq0.true none)

pub returns-then-taken-eq0-clause-within : goal.returns-then-taken-eq0-clause-within
returns-then-taken-eq0-clause-within g c =
    ap length (c.take-taken.ensures.none c.if-taken-eq0.true (c.has_feed.ensures.none c.if-not-has_feed.true))

pub returns-then-not-has_feed-clause-stepped : goal.returns-then-not-has_feed-clause-stepped
returns-then-not-has_feed-clause-stepped g c start given lines answers h =
    let kept = c.take-taken.ensures.taken given lines h.kept in
    ([], heard_none g.J.Job.how start _ given lines answers h _ _ refl refl refl kept)

pub returns-in-Nothing-clause-stepped : goal.returns-in-Nothing-clause-stepped
returns-in-Nothing-clause-stepped g c start given lines answers h =
    let how = g.J.Job.how in
    let kept = c.take-taken.ensures.taken given lines h.kept in
    let now : List ℕ = given ++ take c.take-taken.result c.args.piece.now in
    let heard = heard_line how start _ given lines answers h c.take-taken.new.self now kept c.feed_place-place.result
    c.feed_place-place.ensures _ None [] c.pass.ensures.line c.pass.ensures.waiting refl refl c.in-Nothing.ensures.heard
    (λ n is. refl) in (
      heard.0 ∷ [],
      subst (HasHeard how start _ now (lines ++ heard.0 ∷ [])) (append-nil answers) heard.1,
    )

pub returns-in-Good-clause-stepped : goal.returns-in-Good-clause-stepped
returns-in-Good-clause-stepped g c start given lines answers h =
    let kept = c.take-taken.ensures.taken given lines h.kept in
    heard_line g.J.Job.how start _ given lines answers h c.take-taken.new.self _ kept c.feed_place-place.result
    c.feed_place-place.ensures _ (Some (Ok c.in-Good.found)) _ c.pass-in-Good.ensures.line
    c.pass-in-Good.ensures.waiting refl refl c.in-Good.ensures.heard
    (λ n is. ap (λ k. (record { number = k; verdict = Ok c.in-Good.found }) ∷ []) (sym is))

pub returns-in-Refused-clause-stepped : goal.returns-in-Refused-clause-stepped
returns-in-Refused-clause-stepped g c start given lines answers h =
    let kept = c.take-taken.ensures.taken given lines h.kept in
    heard_line g.J.Job.how start _ given lines answers h c.take-taken.new.self _ kept c.feed_place-place.result
    c.feed_place-place.ensures _ (Some (Err c.in-Refused.fault)) _ c.pass-in-Refused.ensures.line
    c.pass-in-Refused.ensures.waiting refl refl c.in-Refused.ensures.heard
    (λ n is. ap (λ k. (record { number = k; verdict = Err c.in-Refused.fault }) ∷ []) (sym is))

pub returns-in-NoMemory-clause-stepped : goal.returns-in-NoMemory-clause-stepped
returns-in-NoMemory-clause-stepped g c start given lines answers h =
    let kept = c.take-taken.ensures.taken given lines h.kept in
    heard_before g.J.Job.how start _ given lines answers h c.take-taken.new.self _ kept c.feed_place-place.result
    c.feed_place-place.ensures _ refl refl refl c.in-NoMemory.ensures.heard

-- answers of the job's manner keep its promise
pub returns-in-Good-clause-promised : goal.returns-in-Good-clause-promised
returns-in-Good-clause-promised g c start given lines answers h =
    let told = (returns-in-Good-clause-stepped g c start given lines answers h).1.told in
    g.met.J.Job.promises start _ _ _ _ told

pub returns-in-Refused-clause-promised : goal.returns-in-Refused-clause-promised
returns-in-Refused-clause-promised g c start given lines answers h =
    let told = (returns-in-Refused-clause-stepped g c start given lines answers h).1.told in
    g.met.J.Job.promises start _ _ _ _ told
