use Rattle.sq_words.proofs.Alike.{check_reads, encode_reads, feed_reads, if_reads, local_reads, one_reads, pair_reads}
use Rattle.sq_words.proofs.Alike.{show_reads, track_reads, whole_reads}
use Rattle.sq_words.specs.CommandLine.{squitter}
use Rattle.sq_words.proofs.command_line.command_line_of.Goals as goal

pub returns-in_default : goal.returns-in_default
returns-in_default c = if_reads c.squitter_command.result squitter _ (whole_reads _) c.squitter_command.ensures

pub returns-in_default-name : goal.returns-in_default-name
returns-in_default-name c =
    if_reads c.squitter_command-in_default-name.result squitter _ (whole_reads _)
    c.squitter_command-in_default-name.ensures

pub returns-in_ok-show_command-in-show : goal.returns-in_ok-show_command-in-show
returns-in_ok-show_command-in-show c =
    one_reads c.args.words.now c.in-Some.name.now _ _ _ c.only.result show_reads c.in-Some.ensures.lookup.0
    c.in-Some.ensures.lookup.1 c.in-show.is c.in_ok-show_command-in-show.ensures.app c.only.ensures

pub returns-in_ok-encode_command-in-encode : goal.returns-in_ok-encode_command-in-encode
returns-in_ok-encode_command-in-encode c =
    one_reads c.args.words.now c.in-Some.name.now _ _ _ c.only-in-encode.result encode_reads c.in-Some.ensures.lookup.0
    c.in-Some.ensures.lookup.1 c.in-encode.is c.in_ok-encode_command-in-encode.ensures.app c.only-in-encode.ensures

pub returns-in_ok-local_command-in-local : goal.returns-in_ok-local_command-in-local
returns-in_ok-local_command-in-local c =
    one_reads c.args.words.now c.in-Some.name.now _ _ _ c.only-in-local.result local_reads c.in-Some.ensures.lookup.0
    c.in-Some.ensures.lookup.1 c.in-local.is c.in_ok-local_command-in-local.ensures.app c.only-in-local.ensures

pub returns-in_ok-pair_command-in-pair : goal.returns-in_ok-pair_command-in-pair
returns-in_ok-pair_command-in-pair c =
    one_reads c.args.words.now c.in-Some.name.now _ _ _ c.only-in-pair.result pair_reads c.in-Some.ensures.lookup.0
    c.in-Some.ensures.lookup.1 c.in-pair.is c.in_ok-pair_command-in-pair.ensures.app c.only-in-pair.ensures

pub returns-in_ok-check_command-in-check : goal.returns-in_ok-check_command-in-check
returns-in_ok-check_command-in-check c =
    one_reads c.args.words.now c.in-Some.name.now _ _ _ c.only-in-check.result check_reads c.in-Some.ensures.lookup.0
    c.in-Some.ensures.lookup.1 c.in-check.is c.in_ok-check_command-in-check.ensures.app c.only-in-check.ensures

pub returns-in_ok-track_command-in-track : goal.returns-in_ok-track_command-in-track
returns-in_ok-track_command-in-track c =
    one_reads c.args.words.now c.in-Some.name.now _ _ _ c.only-in-track.result track_reads c.in-Some.ensures.lookup.0
    c.in-Some.ensures.lookup.1 c.in-track.is c.in_ok-track_command-in-track.ensures.app c.only-in-track.ensures

pub returns-in_ok-feed_command-in-feed : goal.returns-in_ok-feed_command-in-feed
returns-in_ok-feed_command-in-feed c =
    one_reads c.args.words.now c.in-Some.name.now _ _ _ c.only-in-feed.result feed_reads c.in-Some.ensures.lookup.0
    c.in-Some.ensures.lookup.1 c.in-feed.is c.in_ok-feed_command-in-feed.ensures.app c.only-in-feed.ensures
