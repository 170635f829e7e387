use Rattle.std.proofs.Common.{◌≡◌, ◌+◌, ◌-◌, ◌++◌, ◌∙◌, ℕ, List, [], ◌∷◌, ap, append-nil, arith, drop, length, refl, rules, subst, sym, take}
use Rattle.sq_feed.specs.Feeds.{HasTold, lines_of, stored}
use Rattle.sq_feed.specs.Lines.{log_line}
use Rattle.sq_feed.proofs.Feeding.{lines_of-append, told_nothing, told_piece, within_rest}
use Rattle.squitter_c.proofs.LogSteps.{rest_further}
use Rattle.squitter_c.proofs.feed_text.take_by.Goals as goal

pub loop-lines-init : goal.loop-lines-init
loop-lines-init c = record {
  taken = omega arith;
  fits = search rules;
  told = ([], told_nothing c.args.arrival c.args.feed.now, c.new-lines.ensures);
  rest = refl;
  long = refl;
}

-- the line of a squitter was made
pub loop-lines-preserved-then-step : goal.loop-lines-preserved-then-step
loop-lines-preserved-then-step c =
    let l = c.loop-lines in
    let piece : List ℕ = c.args.piece.now in
    let n : ℕ = c.step_into-step.result.taken in
    let slot = c.step_into-step.new.into in
    let next = c.step_into-step.new.self in
    let rest = take (length piece - l.taken) (drop l.taken piece) in
    let line = log_line slot.moment slot.frame in
    let (told, given, lines) = l.invariant.told in
    record {
      taken = within_rest piece l.taken n l.invariant.taken c.step_into-step.ensures.fits;
      fits = c.put_line-at.ensures.fits;
      told = (
        told ++ slot ∷ [],
        told_piece c.args.arrival c.args.feed.now l.feed next piece l.taken n told (slot ∷ []) given
            (subst (λ b. HasTold c.args.arrival l.feed (take n rest) (stored b slot) next) c.if-step.true
            c.step_into-step.ensures.told),
        c.put_line-at.ensures.line ∙ ap (λ t. t ++ line) lines
            ∙ ap (λ t. lines_of told ++ t) (sym (append-nil line)) ∙ sym (lines_of-append told (slot ∷ [])),
      );
      rest = c.put_line-at.ensures.rest.1
          ∙ rest_further l.out c.args.out.now l.at c.put_line-at.result c.put_line-at.ensures.rest.0 l.invariant.rest;
      long = c.put_line-at.ensures.long ∙ l.invariant.long;
    }

-- no squitter came
pub loop-lines-preserved : goal.loop-lines-preserved
loop-lines-preserved c =
    let l = c.loop-lines in
    let piece : List ℕ = c.args.piece.now in
    let n : ℕ = c.step_into-step.result.taken in
    let slot = c.step_into-step.new.into in
    let next = c.step_into-step.new.self in
    let rest = take (length piece - l.taken) (drop l.taken piece) in
    let (told, given, lines) = l.invariant.told in
    record {
      taken = within_rest piece l.taken n l.invariant.taken c.step_into-step.ensures.fits;
      fits = l.invariant.fits;
      told = (
        told,
        subst (λ t. HasTold c.args.arrival c.args.feed.now (take (l.taken + n) piece) t next) (append-nil told)
            (told_piece c.args.arrival c.args.feed.now l.feed next piece l.taken n told [] given
            (subst (λ b. HasTold c.args.arrival l.feed (take n rest) (stored b slot) next) c.if-step.false
            c.step_into-step.ensures.told)),
        lines,
      );
      rest = l.invariant.rest;
      long = l.invariant.long;
    }

pub returns : goal.returns
returns c =
    let l = c.loop-lines in
    let i = l.invariant in
    let bytes = c.as_bytes.result.now in
    let out = c.put_at.new.out in
    let (told, given, lines) = i.told in
    let long : c.len-2.result ≡ length bytes = c.len-2.ensures.value ∙ sym (ap length c.as_bytes.ensures.value) in
    record {
      taken = i.taken;
      told = told;
      given = given;
      written = ap (λ n. take (l.at + n) out) long ∙ c.put_at.ensures.front
          ∙ ap (λ t. take l.at l.out ++ t) c.as_bytes.ensures.value ∙ lines;
      some = search rules;
      all = search rules;
      filled = record {
        fits = omega (arith, i.fits, c.put_at.ensures.long, c.len-2.ensures.value);
        long = c.put_at.ensures.long ∙ i.long;
        rest = subst (λ (n : ℕ). drop (l.at + n) out ≡ drop (l.at + n) c.args.out.now) (sym long)
            (c.put_at.ensures.rest
            ∙ rest_further l.out c.args.out.now l.at (l.at + length bytes) (omega arith) i.rest);
      };
    }
