use Rattle.std.proofs.KnownBytes.{Appends-nil}
use Rattle.sq_devices.proofs.Puts.{puts_part}
use Rattle.sq_log.proofs.Logs.{on_ok}
use Rattle.sq_log.proofs.Puts.{on_err, put_rest, put_whole, wrote_rest}
use Rattle.sq_log.proofs.telling.put_bytes.Goals as goal

pub returns-then-count-bytes-clause-put : goal.returns-then-count-bytes-clause-put
returns-then-count-bytes-clause-put g c =
    put_whole g.K.Sink c.args.sink.now c.put.new.self c.args.bytes.now c.in-Ok.count c.if-count-bytes.true
    c.in-Ok.ensures.appended c.in-Ok.ensures.took

pub returns-else-count-bytes-clause-put : goal.returns-else-count-bytes-clause-put
returns-else-count-bytes-clause-put g c =
    on_ok c.put_rest.result
    (λ rest. put_rest g.K.Sink c.args.sink.now c.put.new.self c.put_rest.new.sink c.args.bytes.now c.in-Ok.count
    c.in-Ok.ensures.appended c.in-Ok.ensures.took rest) c.put_rest.ensures.put

pub returns-else-count-bytes-clause-part : goal.returns-else-count-bytes-clause-part
returns-else-count-bytes-clause-part g c =
    on_err c.put_rest.result
    (λ rest. wrote_rest (g.K.Sink.written c.args.sink.now) (g.K.Sink.written c.put.new.self)
    (g.K.Sink.written c.put_rest.new.sink) c.args.bytes.now c.in-Ok.count c.in-Ok.ensures.appended rest)
    c.put_rest.ensures.part

pub returns-in-Err-clause-part : goal.returns-in-Err-clause-part
returns-in-Err-clause-part g c =
    puts_part _ _ _ c.args.bytes.now 0 (Appends-nil _) c.in-Err.ensures.kept
