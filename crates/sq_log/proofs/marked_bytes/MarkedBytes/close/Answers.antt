use Rattle.std.proofs.Common.{◌≡◌, ◌-◌, [], List, append-nil, arith, length, refl, rules, subst, subst₂, sym, ℕ}
use Rattle.sq_log.specs.Rests.{KeepsRest}
use Rattle.sq_log.specs.Lines.{closed}
use Rattle.sq_log.specs.Marked.{front_of, waiting_of}
use Rattle.sq_log.proofs.Windows.{closed_line, closed_none, length-between, more_taken}
use Rattle.sq_log.proofs.marked_bytes.MarkedBytes.close.Goals as goal

pub returns-then-self-lt-FRONT-clause-closed : goal.returns-then-self-lt-FRONT-clause-closed
returns-then-self-lt-FRONT-clause-closed c given lines from none =
    let old = c.args.self.now in
    let window = c.slide.new.self in
    let new = c.fill_part.new.self in
    let slid = subst (λ l. KeepsRest (front_of window) [] l lines) (append-nil given)
    (more_taken (front_of old) (waiting_of old) (front_of window) [] given lines from none c.slide.ensures.front) in
    let long : length (front_of window) ≡ window.at - window.begin =
    length-between window.begin window.at window.bytes (search rules)
    (omega (arith, c.slide.ensures.all, c.slide.ensures.at)) in
    let kept = closed_line (front_of window) [] given lines slid refl
    (omega (arith, long, c.slide.ensures.at, c.if-self-lt-FRONT.true)) in
    subst₂ (λ (l w : List ℕ). KeepsRest l w (closed given) lines) (sym c.fill_part.ensures.front)
    (sym c.fill_part.ensures.waiting) kept

pub returns-else-self-lt-FRONT-clause-closed : goal.returns-else-self-lt-FRONT-clause-closed
returns-else-self-lt-FRONT-clause-closed c given lines from none =
    let old = c.args.self.now in
    let window = c.slide.new.self in
    let slid = subst (λ l. KeepsRest (front_of window) [] l lines) (append-nil given)
    (more_taken (front_of old) (waiting_of old) (front_of window) [] given lines from none c.slide.ensures.front) in
    let long : length (front_of window) ≡ window.at - window.begin =
    length-between window.begin window.at window.bytes (search rules)
    (omega (arith, c.slide.ensures.all, c.slide.ensures.at)) in
    subst (λ (w : List ℕ). KeepsRest (front_of window) w (closed given) lines) (sym c.slide.ensures.waiting)
    (closed_none (front_of window) [] given lines slid refl
    (omega (arith, long, c.slide.ensures.at, c.if-self-lt-FRONT.false)))
