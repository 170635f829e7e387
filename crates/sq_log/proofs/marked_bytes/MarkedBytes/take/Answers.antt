use Rattle.std.proofs.Common.{◌++◌, List, length, subst, subst₂, sym, take, ℕ}
use Rattle.std.proofs.lemmas.List.{take_all}
use Rattle.std.proofs.Common.{arith}
use Rattle.sq_log.specs.Rests.{KeepsRest}
use Rattle.sq_log.specs.Marked.{front_of, waiting_of}
use Rattle.sq_log.proofs.Windows.{more_taken, some_feed}
use Rattle.sq_log.proofs.marked_bytes.MarkedBytes.take.Goals as goal

pub returns-then-has_feed-clause-none : goal.returns-then-has_feed-clause-none
returns-then-has_feed-clause-none c =
    λ zero none. absurd (some_feed (waiting_of c.args.self.now) (c.has_feed.ensures.some c.if-has_feed.true) none)

pub returns-then-piece-lt-PIECE-clause-taken : goal.returns-then-piece-lt-PIECE-clause-taken
returns-then-piece-lt-PIECE-clause-taken c given lines from =
    let old = c.args.self.now in
    let new = c.fill_part.new.self in
    let piece : List ℕ = c.args.piece.now in
    let kept = more_taken (front_of old) (waiting_of old) (front_of c.slide.new.self) piece given lines from
    (c.has_feed.ensures.none c.if-has_feed.false) c.slide.ensures.front in
    subst (λ (l : List ℕ). KeepsRest (front_of new) (waiting_of new) (given ++ l) lines)
    (sym (take_all (length piece) piece (omega arith)))
    (subst₂ (λ (l w : List ℕ). KeepsRest l w (given ++ piece) lines) (sym c.fill_part.ensures.front)
    (sym c.fill_part.ensures.waiting) kept)

pub returns-clause-taken : goal.returns-clause-taken
returns-clause-taken c given lines from =
    let old = c.args.self.now in
    let more : List ℕ = take 64 c.args.piece.now in
    let kept = more_taken (front_of old) (waiting_of old) (front_of c.slide.new.self) more given lines from
    (c.has_feed.ensures.none c.if-has_feed.false) c.slide.ensures.front in
    subst₂ (λ (l w : List ℕ). KeepsRest l w (given ++ more) lines) (sym c.fill.ensures.front)
    (sym c.fill.ensures.waiting) kept
