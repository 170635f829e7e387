use Rattle.std.proofs.Common.{◌≡◌, ◌∙◌, ◌++◌, List, ap, arith, length, rules, subst, sym, take, ℕ}
use Rattle.std.specs.Io.KnownBytes.{Consumes}
use Rattle.std.proofs.lemmas.List.{length-take-le}
use borrow.Rule.Slice.PartMut.{put_mid}
use Rattle.sq_log.specs.Rests.{KeepsRest}
use Rattle.sq_log.specs.Marked.{front_of, waiting_of}
use Rattle.sq_log.specs.Windows.{between}
use Rattle.sq_log.proofs.Windows.{front_put, got_behind, more_taken}
use Rattle.sq_log.proofs.marked_bytes.MarkedBytes.get_from.Goals as goal

pub returns-clause-got : goal.returns-clause-got
returns-clause-got g c given lines from none =
    let window = c.slide.new.self in
    let bytes : List ℕ = window.bytes in
    let got : List ℕ = c.get.new.into in
    let count : ℕ = c.in-Ok.count in
    let new = c.mark.new.self in
    let all : length bytes ≡ 129 = c.slide.ensures.all in
    let is : waiting_of new ≡ take count got =
    c.mark.ensures.waiting ∙ ap (take count) (got_behind bytes got all) in
    let old = c.args.self.now in
    let at = c.slide.ensures.at in
    let front : front_of new ≡ front_of window =
    c.mark.ensures.front ∙ ap (λ n. between window.begin n (put_mid 65 64 bytes got)) at
    ∙ front_put 64 window.begin bytes got (omega (arith, all)) (search rules)
    ∙ ap (λ n. between window.begin n bytes) (sym at) in
    subst (λ (l : List ℕ). KeepsRest l (waiting_of new) (given ++ waiting_of new) lines) (sym front)
    (more_taken (front_of old) (waiting_of old) (front_of window) (waiting_of new) given lines from none
    c.slide.ensures.front)

pub returns-clause-count : goal.returns-clause-count
returns-clause-count g c =
    let window = c.slide.new.self in
    let bytes : List ℕ = window.bytes in
    let got : List ℕ = c.get.new.into in
    let count : ℕ = c.in-Ok.count in
    let new = c.mark.new.self in
    let all : length bytes ≡ 129 = c.slide.ensures.all in
    let is : waiting_of new ≡ take count got =
    c.mark.ensures.waiting ∙ ap (take count) (got_behind bytes got all) in
    ap length is ∙ length-take-le count got c.in-Ok.ensures.fits

pub returns-clause-ok : goal.returns-clause-ok
returns-clause-ok g c =
    let window = c.slide.new.self in
    let bytes : List ℕ = window.bytes in
    let got : List ℕ = c.get.new.into in
    let count : ℕ = c.in-Ok.count in
    let new = c.mark.new.self in
    let all : length bytes ≡ 129 = c.slide.ensures.all in
    let is : waiting_of new ≡ take count got =
    c.mark.ensures.waiting ∙ ap (take count) (got_behind bytes got all) in
    record {
      gave = subst (λ (l : List ℕ). g.S.Source.Gave c.args.source.now l c.get.new.self) (sym is) c.in-Ok.ensures.gave;
      moved = subst (λ (l : List ℕ). Consumes (g.S.Source.to_come c.args.source.now)
          (g.S.Source.to_come c.get.new.self) l) (sym is) c.in-Ok.ensures.moved;
      used = c.in-Ok.ensures.used;
    }
