use Rattle.std.proofs.Common.{◌≡◌, ◌+◌, ◌++◌, ◌∙◌, ap, arith, length, sym, take}
use Rattle.sq_commands.specs.Heard.{heard_telling}
use Rattle.sq_log.specs.Runs.{told_text}
use Rattle.squitter_c.proofs.LogSteps.{told_more}
use Rattle.squitter_c.proofs.forms.TextsForm.put.Goals as goal

pub put_at-requires : goal.put_at-requires
put_at-requires c = omega (arith, c.requires, c.as_bytes.ensures.fits)

pub returns-clause-put : goal.returns-clause-put
returns-clause-put c told are writers =
    let answer = c.args.answer.now in
    let bytes = c.as_bytes.result.now in
    let text = (heard_telling c.args.self.now).text writers in
    let long : c.len.result ≡ length bytes = c.len.ensures.value ∙ ap length (sym c.as_bytes.ensures.value) in
    ap (λ k. take (c.args.at + k) c.put_at.new.out) long ∙ c.put_at.ensures.front
    ∙ ap (λ front. front ++ bytes) (are writers)
    ∙ ap (λ last. told_text text told ++ last) (c.as_bytes.ensures.value ∙ c.tell_heard.ensures writers
    ∙ ap (λ f. (heard_telling f).text writers answer.number answer.verdict) c.self.view_is)
    ∙ sym (told_more text told answer)
