use Rattle.std.proofs.Common.{arith, ◌≤◌, ◌==◌, take, length, subst, sym, ap, ◌∙◌}
use Rattle.std.proofs.lemmas.List.{length-take, take-take}
use Rattle.std.specs.Io.Buffered.{reader_buffer, reader_capacity, reader_remaining}
use Rattle.std.specs.Io.KnownBytes.{Consumes}
use Rattle.sq_devices.proofs.Pieces.{consumed, moved}
use Rattle.sq_devices.proofs.prompt.move_piece.Goals as goal

pub returns-clause-room : goal.returns-clause-room
returns-clause-room g c =
    let long : 64 ≤ length c.buffer.result.now = omega (arith, ap length c.buffer.ensures, c.requires.held) in
    rw (moved c.args.into.now c.buffer.result.now (omega (arith, c.requires.room)) long)
    (omega (arith, long, length-take 64 c.buffer.result.now))

pub returns-clause-bytes : goal.returns-clause-bytes
returns-clause-bytes g c =
    let long : 64 ≤ length c.buffer.result.now = omega (arith, ap length c.buffer.ensures, c.requires.held) in
    let old = reader_remaining g.R.Read.remaining c.args.reader.now in
    let new = reader_remaining g.R.Read.remaining c.consume.new.self in
    let piece = moved c.args.into.now c.buffer.result.now (omega (arith, c.requires.room)) long
    ∙ ap (take 64) c.buffer.ensures in
    let there : Consumes old new (take 64 (reader_buffer c.args.reader.now)) =
    consumed (reader_capacity c.args.reader.now == 0) (reader_buffer c.args.reader.now)
    (g.R.Read.remaining c.args.reader.now.inner) new
    (omega (arith, c.requires.held)) c.consume.ensures.bytes in
    subst (λ l. Consumes old new l)
    (sym (ap (take 64) piece ∙ take-take 64 64 (reader_buffer c.args.reader.now) (omega arith))) there
